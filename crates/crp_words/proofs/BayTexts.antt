-- The texts of an option that may be given several times, and those that name bays.
use Prim.Native.Nat.{zero}
use Rattle.std.proofs.Common.{suc, get_or, drop, ◌<◌, ◌≡◌, ◌∙◌, ℕ, ◌≤◌, ◌==◌, Bor, List, [], ◌∷◌, ◌++◌, length, map, Option, Some, arith, true, refl, sym, ap, codes, option_map}
use Rattle.std.specs.Prelude.{unwrap_or}
use Rattle.std.specs.List.{AllByRecursion}
use Rattle.std.specs.Fmt.{decimal}
use Rattle.std.proofs.lemmas.Bool.{eqb-true}
use Rattle.std.proofs.lemmas.Option.{same_Some}
use Rattle.std.proofs.lemmas.List.{append-nil}
use Rattle.std.proofs.lemmas.List.Elements.{recursion_from_All}
use Rattle.clap.specs.Words.{Text, matched_of, rows_of}
use Rattle.clap.specs.Matches.{raw_values}
use Rattle.clap.specs.declared.parser.matches.Found.{Found}
use Rattle.clap.proofs.WalkLemmas.{raw_values-rows}
use Rattle.crp_plan.specs.BayNames.{YardBay, IsYardBay}
use Rattle.crp_cert.specs.Reading.{tag_at, number_at, word_at}
use Rattle.crp_cert.proofs.Numbers.{bind_some, if_some, tag_takes}
use Rattle.crp_cert.proofs.Lines.{word_takes, word_again}
use Rattle.crp_said.proofs.Digits.{number_found, number_whole}
use Rattle.crp_words.specs.Bays.{parts_at}
use Rattle.crp_words.specs.Words.{bay_name, given_texts}

-- the texts that were found are those that clap's matches have
pub texts_are : (f : Found) (id : Text) (texts : Option (Bor (List (Bor Text)))) → option_map (λ (s : Bor (List (Bor Text))). map (λ (v : Bor Text). v.now) s.now) texts ≡ option_map raw_values (matched_of f id)
    → given_texts id (rows_of f) ≡ unwrap_or (option_map (λ (s : Bor (List (Bor Text))). map (λ (v : Bor Text). v.now) s.now) texts) []
texts_are f id texts e = ap (λ (o : Option (List Text)). unwrap_or o []) (sym (raw_values-rows f id) ∙ sym e)

none_left : (xs : List ℕ) → (length xs == 0) ≡ true → xs ≡ []
none_left [] e = refl
none_left (x ∷ xs) e = let none : length (x ∷ xs) ≡ 0 = eqb-true (length (x ∷ xs)) 0 e in absurd (omega (arith, none))

-- what is read of a text is what it says
pub parts_take : (text : List ℕ) (x : List ℕ × ℕ) → parts_at text ≡ Some x → text ≡ x.0 ++ 32 ∷ decimal x.1
unfolding parts_at
parts_take text x e =
    let w = bind_some (word_at text) _ x e in
    let b = bind_some (tag_at (codes " ") w.0.1) _ x w.2 in
    let n = bind_some (number_at 4294967295 b.0) _ x b.2 in
    let c = if_some (length n.0.1 == 0) (Some (w.0.0, n.0.0)) x n.2 in
    let same = same_Some (w.0.0, n.0.0) x c.1 in
    let digits = (number_found b.0 n.0.0 n.0.1 n.1).0 ∙ ap (λ l. decimal n.0.0 ++ l) (none_left n.0.1 c.0) ∙ append-nil (decimal n.0.0) in
    word_takes text w.0.0 w.0.1 w.1 ∙ ap (λ l. w.0.0 ++ l) (tag_takes (codes " ") w.0.1 b.0 b.1 ∙ ap (λ l. 32 ∷ l) digits)
    ∙ ap (λ (y : List ℕ × ℕ). y.0 ++ 32 ∷ decimal y.1) same

-- and the name of a bay is read again
pub parts_again : (bay : YardBay) → IsYardBay bay → parts_at (bay_name bay) ≡ Some (bay.block, bay.bay)
unfolding parts_at
parts_again bay is =
    let low = is.four_digits in
    let w : word_at (bay.block ++ 32 ∷ decimal bay.bay) ≡ Some (bay.block, 32 ∷ decimal bay.bay) = word_again bay.block (decimal bay.bay) (recursion_from_All (λ b. (33 ≤ b) × (b ≤ 126)) bay.block is.printed) in
    let n : number_at 4294967295 (decimal bay.bay) ≡ Some (bay.bay, []) = number_whole bay.bay (omega (arith, low)) in
    rw (w, n) refl

-- what is read of the name of a bay is that bay
pub parts_are : (text block : List ℕ) (n : ℕ) → parts_at text ≡ Some (block, n) → (bay : YardBay) → IsYardBay bay → bay_name bay ≡ text → bay ≡ record { block = block; bay = n }
parts_are text block n e bay is same =
    let parts = same_Some (bay.block, bay.bay) (block, n) (sym (parts_again bay is) ∙ ap parts_at same ∙ e) in
    ap (λ (x : List ℕ × ℕ). let made : YardBay = record { block = x.0; bay = x.1 } in made) parts

-- where one of the texts names no bay, they are not the names of bays
pub no_bays_of : (texts : List (Bor Text)) (i : ℕ) (d : Bor Text) → i < length texts → ((bay : YardBay) → IsYardBay bay → bay_name bay ≡ (get_or texts i d).now → ⊥)
    → (bays : List YardBay) → AllByRecursion IsYardBay bays → map bay_name bays ≡ map (λ (v : Bor Text). v.now) texts → ⊥
no_bays_of [] i d below none bays each e = absurd (omega (arith, below))
no_bays_of (t ∷ texts) i d below none [] each e = absurd (cc)
no_bays_of (t ∷ texts) zero d below none (bay ∷ bays) each e = none bay each.0 (ap (λ (l : List Text). get_or l 0 []) e)
no_bays_of (t ∷ texts) (suc i) d below none (bay ∷ bays) each e = no_bays_of texts i d (omega (arith, below)) none bays each.1 (ap (λ (l : List Text). drop 1 l) e)
