-- A report that is followed over a yard: each bay with its moves, and with what stands in it before and after them.
use Rattle.std.specs.Prelude.{◌≡◌, ℕ, List, map}
use Rattle.std.specs.List.{AllByRecursion, IsDistinct}
use Rattle.crp_plan.specs.BayNames.{same_bay}
use Rattle.crp_yard.specs.Inventory.{Inventory}
use Rattle.crp_said.specs.declared.numbers.Numbers.{Numbers}
use Rattle.crp_follow.specs.Crane.{Stack}
use Rattle.crp_follow.specs.Stated.{BayStated, States}
use Rattle.crp_follow.specs.Faults.{LeadsIn}

pub record BayFollowed : Type 0 where
  pub stated : BayStated
  pub start : List Stack
  pub after : List Stack

-- these bays are followed: each of another name, and the crane makes all of their moves
pub record AreFollowed (yard : Inventory) (stated : List BayStated) (bays : List BayFollowed) : Type 0 where
  pub is : stated ≡ map (λ b. b.stated) bays
  pub once : IsDistinct same_bay (map (λ b. b.bay) stated)
  pub leads : AllByRecursion (λ b. LeadsIn yard b.stated b.start b.after) bays

-- the text is a report of bays that are followed
pub record IsFollowed (yard : Inventory) (text : List ℕ) (numbers : Numbers) (bays : List BayFollowed) : Type 0 where
  pub stated : List BayStated
  pub states : States text numbers stated
  pub followed : AreFollowed yard stated bays
