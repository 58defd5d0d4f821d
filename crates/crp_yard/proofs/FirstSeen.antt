-- In which order bays are first seen.
use Prim.Native.Nat.{zero}
use Rattle.std.proofs.Common.{◌≡◌, ◌≢◌, ℕ, suc, ◌<◌, ◌≤◌, Bool, true, false, List, [], ◌∷◌, ◌++◌, map, take, drop, fold, length, length-append, slice_get, get_or, Some, refl, sym, ap, ◌∙◌, subst, inl, inr, arith, take-append-drop}
use Rattle.std.specs.Prelude.{if◌then◌else◌}
use Rattle.std.specs.List.{list_any}
use Rattle.std.proofs.lemmas.Bool.{cases_eq, cases_lt, true≢false}
use Rattle.std.proofs.lemmas.Option.{slice_get_within, slice_get-get_or}
use Rattle.crp_plan.specs.BayNames.{YardBay, same_bay}
use Rattle.crp_yard.specs.Records.{Entry}
use Rattle.crp_yard.specs.Inventory.{with_bay, bays_of}
use Rattle.crp_yard.specs.ByPlaces.{NamesFirst}
use Rattle.crp_sizes.proofs.Bays.{same_bay_is, same_bay_self}
use Rattle.crp_yard.proofs.Seams.{at_seam, in_front, of_mapped, in_mapped, of_taken, in_taken, fold_joined, any_at, any_from}

with_stays : (seen : List YardBay) (z : YardBay) (k : ℕ) (bay : YardBay) → slice_get seen k ≡ Some bay → slice_get (with_bay seen z) k ≡ Some bay
with_stays seen z k bay e = by (list_any (same_bay z) seen)
  where
    by : (b : Bool) → slice_get (if b then seen else seen ++ z ∷ []) k ≡ Some bay
    by true = e
    by false = in_front seen (z ∷ []) k bay e

with_has : (seen : List YardBay) (z : YardBay) → (k : ℕ) × (slice_get (with_bay seen z) k ≡ Some z)
with_has seen z = by (list_any (same_bay z) seen) refl
  where
    by : (b : Bool) → list_any (same_bay z) seen ≡ b → (k : ℕ) × (slice_get (if b then seen else seen ++ z ∷ []) k ≡ Some z)
    by true e =
        let found = any_at (same_bay z) seen e in
        let same : z ≡ found.1 = same_bay_is z found.1 found.3 in
        (found.0, subst (λ (y : YardBay). slice_get seen found.0 ≡ Some y) (sym same) found.2)
    by false e = (length seen, at_seam seen z (length seen) refl)

-- a bay that was seen keeps its number
seen_stays : (seen bays : List YardBay) (k : ℕ) (bay : YardBay) → slice_get seen k ≡ Some bay → slice_get (fold with_bay seen bays) k ≡ Some bay
seen_stays seen [] k bay e = e
seen_stays seen (z ∷ bays) k bay e = seen_stays (with_bay seen z) bays k bay (with_stays seen z k bay e)

-- each bay is seen
pub all_seen : (seen bays : List YardBay) (i : ℕ) (bay : YardBay) → slice_get bays i ≡ Some bay → (k : ℕ) × (slice_get (fold with_bay seen bays) k ≡ Some bay)
all_seen seen [] i bay e = absurd (cc)
all_seen seen (z ∷ bays) zero bay e =
    let same : z ≡ bay = cc in
    let own = with_has seen z in
    (own.0, subst (λ (y : YardBay). slice_get (fold with_bay (with_bay seen z) bays) own.0 ≡ Some y) same (seen_stays (with_bay seen z) bays own.0 z own.1))
all_seen seen (z ∷ bays) (suc i) bay e = all_seen (with_bay seen z) bays i bay e

-- A bay with a number past those that were seen before is one of the bays, at a place where the bays with lower numbers were seen and it
-- was not.
record IsNew (seen bays : List YardBay) (k : ℕ) (bay : YardBay) : Type 0 where
  pub place : ℕ
  pub at : slice_get bays place ≡ Some bay
  pub as_many : length (fold with_bay seen (take place bays)) ≡ k
  pub fresh : list_any (same_bay bay) (fold with_bay seen (take place bays)) ≡ false

is_new : (seen bays : List YardBay) (k : ℕ) (bay : YardBay) → length seen ≤ k → slice_get (fold with_bay seen bays) k ≡ Some bay → IsNew seen bays k bay
is_new seen [] k bay low e = absurd (omega (arith, low, slice_get_within seen k bay e))
is_new seen (z ∷ bays) k bay low e = by (list_any (same_bay z) seen) refl (is_new seen bays k bay low) (is_new (seen ++ z ∷ []) bays k bay) e
  where
    later : (next : List YardBay) → with_bay seen z ≡ next → IsNew next bays k bay → IsNew seen (z ∷ bays) k bay
    later next is found = record {
      place = suc found.place;
      at = found.at;
      as_many = subst (λ (l : List YardBay). length (fold with_bay l (take found.place bays)) ≡ k) (sym is) found.as_many;
      fresh = subst (λ (l : List YardBay). list_any (same_bay bay) (fold with_bay l (take found.place bays)) ≡ false) (sym is) found.fresh;
    }

    by : (b : Bool) → list_any (same_bay z) seen ≡ b → (slice_get (fold with_bay seen bays) k ≡ Some bay → IsNew seen bays k bay)
        → (length (seen ++ z ∷ []) ≤ k → slice_get (fold with_bay (seen ++ z ∷ []) bays) k ≡ Some bay → IsNew (seen ++ z ∷ []) bays k bay)
        → slice_get (fold with_bay (if b then seen else seen ++ z ∷ []) bays) k ≡ Some bay → IsNew seen (z ∷ bays) k bay
    by true h before after at = later seen (ap (λ b. if b then seen else seen ++ z ∷ []) h) (before at)
    by false h before after at = elim (cases_eq k (length seen)) [
      | inl same ↦
          let last = seen_stays (seen ++ z ∷ []) bays (length seen) z (at_seam seen z (length seen) refl) in
          let both : Some z ≡ Some bay = sym last ∙ ap (λ n. slice_get (fold with_bay (seen ++ z ∷ []) bays) n) (sym same) ∙ at in
          let this : z ≡ bay = cc both in
          record { place = 0; at = both; as_many = sym same; fresh = subst (λ (y : YardBay). list_any (same_bay y) seen ≡ false) this h }
      | inr other ↦ later (seen ++ z ∷ []) (ap (λ b. if b then seen else seen ++ z ∷ []) h) (after (omega (arith, length-append seen (z ∷ []), low)) at)
    ]

-- none of the bays before is this one
none_earlier : (bays : List YardBay) (n k : ℕ) (bay other : YardBay) → list_any (same_bay bay) (fold with_bay [] (take n bays)) ≡ false → k < n → slice_get bays k ≡ Some other → other ≢ bay
none_earlier bays n k bay other fresh below at same =
    let found = all_seen [] (take n bays) k other (in_taken bays n k other below at) in
    let test : same_bay bay other ≡ true = subst (λ (y : YardBay). same_bay y other ≡ true) same (same_bay_self other) in
    true≢false (sym (any_from (same_bay bay) (fold with_bay [] (take n bays)) found.0 other found.1 test) ∙ fresh)

abbrev named_bays : List Entry → List YardBay
named_bays entries = map (λ (entry : Entry). entry.0.bay) entries

-- each bay is named first by some entry
pub named_first : (entries : List Entry) (number : ℕ) (bay : YardBay) → slice_get (bays_of entries) number ≡ Some bay → (i : ℕ) × NamesFirst entries bay i
named_first entries number bay e =
    let new = is_new [] (named_bays entries) number bay (omega arith) e in
    let own = of_mapped (λ (entry : Entry). entry.0.bay) entries new.place bay new.at in (
      new.place,
      record {
        entry = own.0;
        there = own.1;
        names = own.2;
        none_before = λ k other below at. none_earlier (named_bays entries) new.place k bay other.0.bay new.fresh below (in_mapped (λ (entry : Entry). entry.0.bay) entries k other at);
      },
    )

-- and the bays are in the order in which they are named first
pub in_order : (entries : List Entry) (a b i j : ℕ) (first second : YardBay) → a < b → slice_get (bays_of entries) a ≡ Some first → slice_get (bays_of entries) b ≡ Some second
    → NamesFirst entries first i → NamesFirst entries second j → i < j
in_order entries a b i j first second below at_a at_b names_first names_second =
    let bays = named_bays entries in
    let new = is_new [] bays b second (omega arith) at_b in
    let front = fold with_bay [] (take new.place bays) in
    let held = slice_get-get_or front a first (omega (arith, new.as_many, below)) in
    let kept = seen_stays front (drop new.place bays) a (get_or front a first) held in
    let whole : fold with_bay [] bays ≡ fold with_bay front (drop new.place bays) =
    ap (fold with_bay []) (sym (take-append-drop new.place bays)) ∙ fold_joined with_bay [] (take new.place bays) (drop new.place bays) in
    let both : Some (get_or front a first) ≡ Some first = sym kept ∙ sym (ap (λ l. slice_get l a) whole) ∙ at_a in
    let there : slice_get front a ≡ Some first = held ∙ both in
    let early = is_new [] (take new.place bays) a first (omega arith) there in
    let own = of_taken bays new.place early.place first early.at in
    let entry = of_mapped (λ (entry : Entry). entry.0.bay) entries early.place first own.1 in
    let not_later : i ≤ early.place = elim (cases_lt early.place i) [
      | inl less ↦ absurd (names_first.none_before early.place entry.0 less entry.1 entry.2)
      | inr most ↦ most
    ] in
    let not_earlier : new.place ≤ j = elim (cases_lt j new.place) [
      | inl less ↦ absurd (none_earlier bays new.place j second names_second.entry.0.bay new.fresh less (in_mapped (λ (entry : Entry). entry.0.bay) entries j names_second.entry names_second.there) names_second.names)
      | inr most ↦ most
    ] in
    omega (arith, not_later, own.0, not_earlier)
