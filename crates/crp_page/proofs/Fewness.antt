-- Few containers stand in the bays of a report that is followed.
use Rattle.std.proofs.Common.{◌≡◌, ◌<◌, ℕ, List, [], ◌∷◌, length, map, take, get_or, refl, subst, sym, arith}
use Rattle.std.proofs.lemmas.List.{take_all}
use Rattle.std.proofs.Math.Nat.{le_refl}
use Rattle.std.specs.List.{AllByRecursion}
use Rattle.std.proofs.lemmas.Option.{slice_get_read}
use Rattle.crp_sizes.specs.Sizes.{heights_at}
use Rattle.crp_sizes.proofs.Lists.{member, unmapped}
use Rattle.crp_yard.specs.Inventory.{Inventory, IsYard}
use Rattle.crp_follow.specs.declared.followed.FollowedBay.{FollowedBay}
use Rattle.crp_follow.specs.Faults.{LeadsIn}
use Rattle.crp_follow.specs.Followed.{BayFollowed, AreFollowed}
use Rattle.crp_follow.specs.Crane.{Stack, Leads}
use Rattle.crp_follow.specs.Table.{StandFew, standing, left_behind, takes_from}
use Rattle.crp_said.specs.declared.moves.SaidMove.{SaidMove}
use Rattle.crp_follow.specs.Stated.{BayStated, moves_of}
use Rattle.crp_follow.specs.Views.{bay_followed}
use Rattle.crp_follow.proofs.Few.{all_few}
use Rattle.crp_page.specs.Few.{LeaveFew}

-- what holds of each bay holds of this one
pub of_one : (P : BayFollowed → Type 0) (bays : List FollowedBay) (i : ℕ) (b : FollowedBay) → AllByRecursion P (map bay_followed bays) → i < length bays → b ≡ get_or bays i b → P (bay_followed b)
of_one P bays i b all lt at =
    member (λ (x : FollowedBay). P (bay_followed x)) bays i b (unmapped P bay_followed bays all) (slice_get_read bays (length bays) i b refl lt at)

-- what the law says of the containers that are left
abbrev pub LeftBehind : Type 0
LeftBehind = (heights : List ℕ) (start rows : List Stack) (moves : List SaidMove) (step : ℕ) → Leads heights start (take step moves) rows
    → left_behind (standing start) (takes_from 1 moves) step ≡ standing rows

-- no more containers are left than stand there at the start
ends : LeftBehind → (yard : Inventory) (bays : List BayFollowed) → AllByRecursion StandFew bays → AllByRecursion (λ b. LeadsIn yard b.stated b.start b.after) bays → AllByRecursion LeaveFew bays
ends law yard [] few leads = tt
ends law yard (b ∷ bays) few leads =
    let moves : List SaidMove = moves_of b.stated.moves in
    let all : take (length moves) moves ≡ moves = take_all (length moves) moves (le_refl (length moves)) in
    let heights = heights_at yard.sizes b.stated.bay in
    let left = law heights b.start b.after moves (length moves) (subst (λ l. Leads heights b.start l b.after) (sym all) leads.0.leads) in
    let stand = few.0 in
    (omega (arith, left, stand), ends law yard bays few.1 leads.1)

pub few_at_start : (yard : Inventory) (stated : List BayStated) (bays : List BayFollowed) → IsYard yard → AreFollowed yard stated bays → AllByRecursion StandFew bays
few_at_start yard stated bays is followed = all_few yard bays is followed.leads

pub few_at_end : LeftBehind → (yard : Inventory) (stated : List BayStated) (bays : List BayFollowed) → IsYard yard → AreFollowed yard stated bays → AllByRecursion LeaveFew bays
few_at_end law yard stated bays is followed = ends law yard bays (few_at_start yard stated bays is followed) followed.leads
