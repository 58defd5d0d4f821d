-- The table of two reports, one bay more.
use Rattle.std.proofs.Common.{◌≡◌, ◌∙◌, ℕ, ◌+◌, ◌<◌, List, [], ◌∷◌, ◌++◌, length, map, take, get_or, false, cond, Option, Some, None, is_none, is_some, slice_get, refl, sym, ap, subst, append_assoc, append-nil}
use Rattle.std.specs.List.{filter, list_any, position, IsDistinct}
use Rattle.std.specs.Map.{lookup}
use Rattle.std.specs.Option.{option_map}
use Rattle.std.proofs.lemmas.List.{map-append, take_more}
use Rattle.std.proofs.lemmas.List.Concat.{flat_map-append}
use Rattle.std.proofs.lemmas.List.Elements.{filter-append}
use Rattle.std.proofs.lemmas.Option.{same_Some}
use Rattle.crp_plan.specs.BayNames.{YardBay, same_bay}
use Rattle.crp_sizes.proofs.Lists.{looked}
use Rattle.crp_yard.specs.Inventory.{Inventory}
use Rattle.crp_yard.specs.Text.{text_of_records}
use Rattle.crp_yard.proofs.ListingSteps.{position_is, no_value}
use Rattle.crp_yard.proofs.Seams.{in_mapped}
use Rattle.crp_said.specs.declared.numbers.Numbers.{Numbers}
use Rattle.crp_follow.specs.declared.followed.FollowedBay.{FollowedBay}
use Rattle.crp_follow.specs.Compare.{bay_named, compare_text, compared_fields, second_alone, second_alone_fields, second_header}
use Rattle.crp_follow.specs.Followed.{BayFollowed, IsFollowed}
use Rattle.crp_follow.specs.Summary.{summary_header}
use Rattle.crp_follow.specs.Table.{record_text}
use Rattle.crp_follow.specs.Views.{bay_followed}
use Rattle.crp_follow.proofs.Named.{bay_name, first_at, mapped_length, names_once}

-- ---- a bay that is found by its name

-- a bay with its name
abbrev pub named : BayFollowed → YardBay × BayFollowed
named b = (b.stated.bay, b)

names_are : (bays : List FollowedBay) → map (λ e. e.0) (map named (map bay_followed bays)) ≡ map (λ (b : FollowedBay). b.stated.bay) bays
names_are [] = refl
names_are (b ∷ bays) = ap (λ l. b.stated.bay ∷ l) (names_are bays)

pub named_there : (bays : List FollowedBay) (name : YardBay) (names : List YardBay) (i : ℕ) (b : FollowedBay) → names ≡ map (λ (b : FollowedBay). b.stated.bay) bays
    → Some i ≡ position (same_bay name) names → slice_get bays i ≡ Some b → Some (bay_followed b) ≡ bay_named (map bay_followed bays) name
named_there bays name names i b are is there =
    let es = map named (map bay_followed bays) in
    let keys : names ≡ map (λ e. e.0) es = are ∙ sym (names_are bays) in
    let at = position_is (same_bay name) (map (λ e. e.0) es) i (ap (position (same_bay name)) (sym keys) ∙ sym is) in
    let within : i < length es = subst (λ n. i < n) (mapped_length (λ (e : YardBay × BayFollowed). e.0) es) at.1 in
    let first = first_at (same_bay name) es i at.0 within in
    let own : first.entry ≡ named (bay_followed b) =
    same_Some first.entry (named (bay_followed b)) (sym first.at ∙ in_mapped named (map bay_followed bays) i (bay_followed b) (in_mapped bay_followed bays i b there)) in
    sym (first.found ∙ ap (λ (e : YardBay × BayFollowed). Some e.1) own)

pub named_nowhere : (bays : List FollowedBay) (name : YardBay) (names : List YardBay) → names ≡ map (λ (b : FollowedBay). b.stated.bay) bays → false ≡ list_any (same_bay name) names
    → None ≡ bay_named (map bay_followed bays) name
named_nowhere bays name names are none =
    let es = map named (map bay_followed bays) in
    let keys : names ≡ map (λ e. e.0) es = are ∙ sym (names_are bays) in
    sym (no_value (lookup (same_bay name) es) (looked (same_bay name) es ∙ ap (list_any (same_bay name)) (sym keys) ∙ sym none))

-- ---- texts of records

-- the text of records of items, one behind the other
adds_records : {Y : Type 0} (fields : Y → List (List ℕ)) (xs ys : List Y) → text_of_records (map fields (xs ++ ys)) ≡ text_of_records (map fields xs) ++ text_of_records (map fields ys)
adds_records fields xs ys = ap text_of_records (map-append fields xs ys) ∙ flat_map-append record_text (map fields xs) (map fields ys)

-- one item more
text_more : {X Y : Type 0} (view : X → Y) (text : List Y → List ℕ) → ((xs ys : List Y) → text (xs ++ ys) ≡ text xs ++ text ys) → (start : List ℕ) (xs : List X) (i : ℕ) (x : X) (old new : List ℕ)
    → i < length xs → x ≡ get_or xs i x → old ≡ start ++ text (map view (take i xs)) → new ≡ old ++ text (view x ∷ []) → new ≡ start ++ text (map view (take (i + 1) xs))
text_more view text adds start xs i x old new lt at is longer =
    let more : take (i + 1) xs ≡ take i xs ++ x ∷ [] = take_more xs i x lt ∙ ap (λ y. take i xs ++ y ∷ []) (sym at) in
    longer ∙ ap (λ t. t ++ text (view x ∷ [])) is ∙ append_assoc start (text (map view (take i xs))) (text (view x ∷ []))
    ∙ ap (λ t. start ++ t) (sym (adds (map view (take i xs)) (view x ∷ [])) ∙ ap text (sym (map-append view (take i xs) (x ∷ []))) ∙ ap (λ l. text (map view l)) (sym more))

-- a bay more of the first report
pub first_more : (seconds : List BayFollowed) (start : List ℕ) (bays : List FollowedBay) (i : ℕ) (b : FollowedBay) (old new : List ℕ) → i < length bays → b ≡ get_or bays i b
    → old ≡ start ++ text_of_records (map (compared_fields seconds) (map bay_followed (take i bays))) → new ≡ old ++ record_text (compared_fields seconds (bay_followed b))
    → new ≡ start ++ text_of_records (map (compared_fields seconds) (map bay_followed (take (i + 1) bays)))
first_more seconds start bays i b old new lt at is longer =
    text_more bay_followed (λ l. text_of_records (map (compared_fields seconds) l)) (adds_records (compared_fields seconds)) start bays i b old new lt at is
    (longer ∙ ap (λ t. old ++ t) (sym (append-nil (record_text (compared_fields seconds (bay_followed b))))))

adds_alone : (firsts xs ys : List BayFollowed) → text_of_records (map second_alone_fields (second_alone firsts (xs ++ ys)))
    ≡ text_of_records (map second_alone_fields (second_alone firsts xs)) ++ text_of_records (map second_alone_fields (second_alone firsts ys))
adds_alone firsts xs ys =
    ap (λ l. text_of_records (map second_alone_fields l)) (filter-append (λ (b : BayFollowed). is_none (bay_named firsts b.stated.bay)) xs ys)
    ∙ adds_records second_alone_fields (second_alone firsts xs) (second_alone firsts ys)

-- a bay more of the second
pub second_more : (firsts : List BayFollowed) (start : List ℕ) (bays : List FollowedBay) (i : ℕ) (b : FollowedBay) (old new : List ℕ) → i < length bays → b ≡ get_or bays i b
    → old ≡ start ++ text_of_records (map second_alone_fields (second_alone firsts (map bay_followed (take i bays))))
    → new ≡ old ++ text_of_records (map second_alone_fields (second_alone firsts (bay_followed b ∷ [])))
    → new ≡ start ++ text_of_records (map second_alone_fields (second_alone firsts (map bay_followed (take (i + 1) bays))))
second_more firsts start bays i b old new lt at is longer =
    text_more bay_followed (λ l. text_of_records (map second_alone_fields (second_alone firsts l))) (adds_alone firsts) start bays i b old new lt at is longer

-- it is written where the first report has no bay of its name, and else it is not
pub alone_written : (firsts : List BayFollowed) (b : BayFollowed) (old : List ℕ) → None ≡ bay_named firsts b.stated.bay
    → old ++ record_text (second_alone_fields b) ≡ old ++ text_of_records (map second_alone_fields (second_alone firsts (b ∷ [])))
alone_written firsts b old none =
    ap (λ t. old ++ t) (sym (append-nil (record_text (second_alone_fields b)))) ∙ ap (λ o. old ++ text_of_records (map second_alone_fields (cond (is_none o) (b ∷ []) []))) none

pub not_alone : (firsts : List BayFollowed) (b first : BayFollowed) (old : List ℕ) → Some first ≡ bay_named firsts b.stated.bay
    → old ≡ old ++ text_of_records (map second_alone_fields (second_alone firsts (b ∷ [])))
not_alone firsts b first old there = sym (append-nil old) ∙ ap (λ o. old ++ text_of_records (map second_alone_fields (cond (is_none o) (b ∷ []) []))) there

-- bays that are followed have distinct names
pub names_apart : (numbers : Numbers) (bays : List FollowedBay) → (yard : Inventory) × (report : List ℕ) × IsFollowed yard report numbers (map bay_followed bays) → IsDistinct same_bay (map bay_name bays)
names_apart numbers bays (yard, report, is) = names_once yard is.stated bays is.followed

-- ---- the whole

-- the header, the records of the bays of the first report, and those of the others
pub joined : (firsts seconds f1 s1 f2 s2 : List FollowedBay) (a b c : List ℕ) → f1 ≡ firsts → s1 ≡ seconds → f2 ≡ firsts → s2 ≡ seconds → a ≡ record_text (summary_header ++ second_header)
    → b ≡ a ++ text_of_records (map (compared_fields (map bay_followed s1)) (map bay_followed f1))
    → c ≡ b ++ text_of_records (map second_alone_fields (second_alone (map bay_followed f2) (map bay_followed s2))) → c ≡ compare_text (map bay_followed firsts) (map bay_followed seconds)
joined firsts seconds f1 s1 f2 s2 a b c e1 d1 e2 d2 headed then last =
    let compared = λ (f s : List FollowedBay). text_of_records (map (compared_fields (map bay_followed s)) (map bay_followed f)) in
    let alone = λ (f s : List FollowedBay). text_of_records (map second_alone_fields (second_alone (map bay_followed f) (map bay_followed s))) in
    let header = record_text (summary_header ++ second_header) in
    last ∙ ap (λ l. b ++ alone l s2) e2 ∙ ap (λ l. b ++ alone firsts l) d2
    ∙ ap (λ t. t ++ alone firsts seconds) (then ∙ ap (λ t. t ++ compared f1 s1) headed ∙ ap (λ l. header ++ compared l s1) e1 ∙ ap (λ l. header ++ compared firsts l) d1)
    ∙ append_assoc header (compared firsts seconds) (alone firsts seconds)
    ∙ ap (λ t. header ++ t) (sym (flat_map-append record_text (map (compared_fields (map bay_followed seconds)) (map bay_followed firsts))
    (map second_alone_fields (second_alone (map bay_followed firsts) (map bay_followed seconds)))))
