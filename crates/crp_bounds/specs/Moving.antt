-- The container that every legal relocation moves.
use Rattle.std.specs.Prelude.{◌≡◌, ◌+◌, ◌≤◌}
use Rattle.crp_plan.specs.Bay.{Position}
use Rattle.crp_bay.specs.Positions.{source}
use Rattle.crp_bay.specs.Located.{moved}
use Rattle.crp_bounds.specs.declared.mover.Mover.{Mover}

-- it has this rank, and stands in this row
pub record IsMover (m : Mover) (s : Position) : Type 0 where
  pub rank : m.rank ≡ moved s
  pub row : m.row ≡ source s + 1
  pub few : m.rank ≤ 96
