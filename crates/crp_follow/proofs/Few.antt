-- Bays in which no more containers stand than a bay of a yard can have.
use Rattle.std.proofs.Common.{◌≡◌, ℕ, zero, suc, ◌*◌, ◌<◌, ◌≤◌, arith, Bool, true, false, cond, Option, Some, List, [], ◌∷◌, length, map, get_or, refl, sym, subst}
use Rattle.std.specs.Prelude.{All}
use Rattle.std.specs.Map.{lookup}
use Rattle.std.specs.List.{AllByRecursion}
use Rattle.std.proofs.lemmas.Option.{same_Some, none-some}
use Rattle.std.proofs.lemmas.List.Elements.{recursion_from_All, All-from_recursion}
use Rattle.std.proofs.lemmas.List.Sums.{sum_by-cons}
use Rattle.crp_plan.specs.BayNames.{YardBay, same_bay}
use Rattle.crp_sizes.specs.Sizes.{YardSizes, heights_at}
use Rattle.crp_sizes.proofs.Bays.{heights_can_be, same_bay_is}
use Rattle.crp_yard.specs.Inventory.{Inventory, StackedBay, FitBay, IsYard}
use Rattle.crp_follow.specs.declared.followed.FollowedBay.{FollowedBay}
use Rattle.crp_follow.specs.Crane.{Stack}
use Rattle.crp_follow.specs.Faults.{rows_in, LeadsIn}
use Rattle.crp_follow.specs.Followed.{BayFollowed}
use Rattle.crp_follow.specs.Table.{standing, StandFew}
use Rattle.crp_follow.specs.Views.{bay_followed}
use Rattle.crp_follow.proofs.InYard.{Fits}

-- the bay at this place
pub few_at : (bays : List FollowedBay) (i : ℕ) (b : FollowedBay) → AllByRecursion StandFew (map bay_followed bays) → i < length bays → b ≡ get_or bays i b → StandFew (bay_followed b)
few_at [] i b few lt at = absurd (omega arith)
few_at (x ∷ bays) zero b few lt at = subst (λ y. StandFew (bay_followed y)) (sym at) few.0
few_at (x ∷ bays) (suc i) b few lt at = few_at bays i b few.1 (omega arith) at

-- no more containers stand in rows than fit
sum_fits : (heights : List ℕ) (rows : List Stack) → All (λ height. (1 ≤ height) × (height ≤ 8)) heights → FitBay heights rows → standing rows ≤ 8 * length heights
sum_fits [] [] all fit = omega arith
sum_fits [] (stack ∷ rows) all fit = absurd fit
sum_fits (h ∷ heights) [] all fit = omega arith
sum_fits (h ∷ heights) (stack ∷ rows) all fit =
    let parts = recursion_from_All (λ height. (1 ≤ height) × (height ≤ 8)) (h ∷ heights) all in
    let rest = sum_fits heights rows (All-from_recursion (λ height. (1 ≤ height) × (height ≤ 8)) heights parts.1) fit.1 in
    let low = fit.0 in
    let high = parts.0.1 in
    let sum = sum_by-cons length stack rows in
    omega (arith, rest, low, high, sum)

either_way : {V : Type 0} (t : Bool) (x : V) (o : Option V) (y : V) (P : V → Type 0) → cond t (Some x) o ≡ Some y → (t ≡ true → P x) → (o ≡ Some y → P y) → P y
either_way true x o y P e here there = subst P (same_Some x y e) (here refl)
either_way false x o y P e here there = there e

found_fits : (sizes : YardSizes) (bay : YardBay) (start : List Stack) (bays : List StackedBay) → AllByRecursion (Fits sizes) bays → lookup (same_bay bay) bays ≡ Some start
    → FitBay (heights_at sizes bay) start
found_fits sizes bay start [] all none = absurd (none-some start none)
found_fits sizes bay start (b ∷ bays) all found =
    either_way (same_bay bay b.0) b.1 (lookup (same_bay bay) bays) start (FitBay (heights_at sizes bay)) found
    (λ same. subst (λ (n : YardBay). FitBay (heights_at sizes n) b.1) (sym (same_bay_is bay b.0 same)) all.0) (λ h. found_fits sizes bay start bays all.1 h)

pub few_stand : (yard : Inventory) (bay : YardBay) (start : List Stack) → IsYard yard → rows_in yard bay ≡ Some start → standing start ≤ 96
few_stand yard bay start is e =
    let can = heights_can_be yard.sizes is.sizes_fit bay in
    let few = sum_fits (heights_at yard.sizes bay) start can.1 (found_fits yard.sizes bay start yard.bays (recursion_from_All (Fits yard.sizes) yard.bays is.bays_fit) e) in
    let rows : length (heights_at yard.sizes bay) ≤ 12 = can.0.1 in
    omega (arith, few, rows)

-- so few stand in each bay of a yard that is followed
pub all_few : (yard : Inventory) (bays : List BayFollowed) → IsYard yard → AllByRecursion (λ b. LeadsIn yard b.stated b.start b.after) bays → AllByRecursion StandFew bays
all_few yard [] is leads = tt
all_few yard (b ∷ bays) is leads = (few_stand yard b.stated.bay b.start is leads.0.stands, all_few yard bays is leads.1)
