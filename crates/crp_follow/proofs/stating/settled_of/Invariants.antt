use Rattle.std.proofs.Common.{◌≡◌, ◌≤◌, map, take}
use Rattle.std.specs.Prelude.{count_by}
use Rattle.crp_said.specs.Said.{is_settled}
use Rattle.crp_follow.specs.Views.{bay_stated}
use Rattle.crp_follow.proofs.stating.settled_of.Given as goal

abbrev pub invariant-loop-bay : goal.invariant-loop-bay
invariant-loop-bay l = record { value : l.settled ≡ count_by (λ b. is_settled b.said) (map bay_stated (take l.bay-index l.bays)); low : l.settled ≤ l.bay-index }
