-- What moves leave of a yard is a yard, and one only.
use Rattle.std.proofs.Common.{◌≡◌, ◌∙◌, ℕ, ◌≤◌, arith, List, [], ◌∷◌, map, flat_map, refl, sym, subst}
use Rattle.std.specs.List.{AllByRecursion}
use Rattle.std.proofs.lemmas.List.Sums.{sum_by-cons}
use Rattle.crp_plan.specs.BayNames.{YardBay}
use Rattle.crp_sizes.specs.Sizes.{YardSizes, CanBeSizes, heights_at}
use Rattle.crp_sizes.proofs.Lists.{all_of, each_of}
use Rattle.crp_yard.specs.Inventory.{Inventory, StackedBay, FitBay, IsYard, times, containers_of}
use Rattle.crp_yard.proofs.ListingSteps.{times-append}
use Rattle.crp_follow.specs.Crane.{Stack, Leads}
use Rattle.crp_follow.specs.Kept.{times_in}
use Rattle.crp_follow.specs.Behind.{Made, made_in, AreBaysBehind, IsYardBehind}
use Rattle.crp_follow.proofs.InYard.{Fits}
use Rattle.crp_follow.proofs.KeptLaws.{nothing_is_lost, stays_within_heights}
use Rattle.crp_follow.proofs.OneMove.{leads_once}

-- what stays of bays
record AreKept (sizes : YardSizes) (old new : List StackedBay) : Type 0 where
  pub names : map (λ (b : StackedBay). b.0) new ≡ map (λ (b : StackedBay). b.0) old
  pub fits : AllByRecursion (Fits sizes) new
  pub fewer : (c : List ℕ) → times c (containers_of new) ≤ times c (containers_of old)

times_flat : (c : List ℕ) (rows : List Stack) → times c (flat_map (λ (s : Stack). s) rows) ≡ times_in c rows
times_flat c [] = refl
times_flat c (s ∷ rows) = let rest = times_flat c rows in omega (arith, rest, times-append c s (flat_map (λ (s : Stack). s) rows), sum_by-cons (times c) s rows)

fewer_in_bay : (heights : List ℕ) (made : List Made) (old new : StackedBay) (c : List ℕ) → Leads heights old.1 (made_in made old.0) new.1
    → times c (flat_map (λ (s : Stack). s) new.1) ≤ times c (flat_map (λ (s : Stack). s) old.1)
fewer_in_bay heights made old new c leads =
    let kept = nothing_is_lost heights old.1 (made_in made old.0) new.1 c leads in
    let before = times_flat c old.1 in
    let after = times_flat c new.1 in
    omega (arith, kept, before, after)

all_kept : (sizes : YardSizes) (made : List Made) (olds news : List StackedBay) → AllByRecursion (Fits sizes) olds → AreBaysBehind sizes made olds news → AreKept sizes olds news
all_kept sizes made [] [] fits h = record { names = refl; fits = tt; fewer = λ c. omega arith }
all_kept sizes made [] (new ∷ news) fits h = absurd h
all_kept sizes made (old ∷ olds) [] fits h = absurd h
all_kept sizes made (old ∷ olds) (new ∷ news) fits h =
    let rest = all_kept sizes made olds news fits.1 h.1 in
    let own = stays_within_heights (heights_at sizes old.0) old.1 (made_in made old.0) new.1 h.0.1 fits.0 in
    record {
      names = rw (h.0.0, rest.names) refl;
      fits = (subst (λ (name : YardBay). FitBay (heights_at sizes name) new.1) (sym h.0.0) own, rest.fits);
      fewer = λ c.
          omega (arith, times-append c (flat_map (λ (s : Stack). s) new.1) (containers_of news), times-append c (flat_map (λ (s : Stack). s) old.1) (containers_of olds), fewer_in_bay (heights_at sizes old.0) made old new c h.0.1, rest.fewer c);
    }

pub still_a_yard : (yard after : Inventory) (made : List Made) → IsYard yard → IsYardBehind yard made after → IsYard after
still_a_yard yard after made is behind =
    let kept = all_kept yard.sizes made yard.bays after.bays (each_of (Fits yard.sizes) yard.bays is.bays_fit) behind.bays in
    record {
      sizes_fit = subst CanBeSizes (sym behind.same_sizes) is.sizes_fit;
      bays_fit = all_of (Fits after.sizes) after.bays (subst (λ (s : YardSizes). AllByRecursion (Fits s) after.bays) (sym behind.same_sizes) kept.fits);
      bays_once = rw kept.names is.bays_once;
      containers_once = λ c. omega (arith, kept.fewer c, is.containers_once c);
    }

same_bays : (sizes : YardSizes) (made : List Made) (olds news others : List StackedBay) → AreBaysBehind sizes made olds news → AreBaysBehind sizes made olds others → news ≡ others
same_bays sizes made [] [] [] h k = refl
same_bays sizes made [] [] (other ∷ others) h k = absurd k
same_bays sizes made [] (new ∷ news) others h k = absurd h
same_bays sizes made (old ∷ olds) [] others h k = absurd h
same_bays sizes made (old ∷ olds) (new ∷ news) [] h k = absurd k
same_bays sizes made (old ∷ olds) (new ∷ news) (other ∷ others) h k =
    let name : new.0 ≡ other.0 = h.0.0 ∙ sym k.0.0 in
    let rows : new.1 ≡ other.1 = leads_once (heights_at sizes old.0) old.1 (made_in made old.0) new.1 other.1 h.0.1 k.0.1 in
    let rest = same_bays sizes made olds news others h.1 k.1 in
    λ i. (name i, rows i) ∷ rest i

pub one_yard : (yard one other : Inventory) (made : List Made) → IsYardBehind yard made one → IsYardBehind yard made other → one ≡ other
one_yard yard one other made h k =
    let sizes : one.sizes ≡ other.sizes = h.same_sizes ∙ sym k.same_sizes in
    let bays : one.bays ≡ other.bays = same_bays yard.sizes made yard.bays one.bays other.bays h.bays k.bays in
    λ i. record { sizes = sizes i; bays = bays i }
