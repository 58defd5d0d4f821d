use Rattle.std.proofs.Common.{◌≡◌, ◌-◌, length, None}
use Rattle.std.specs.Prelude.{codes}
use Rattle.crp_plan.specs.Bay.{IsProblem, start}
use Rattle.crp_bay.specs.Positions.{settled}
use Rattle.crp_cert.specs.Reading.{◌>>=◌, tag_at}
use Rattle.crp_cert.specs.PartReading.{rows_at}
use Rattle.crp_cert.proofs.PartNames.{rows_behind}
use Rattle.crp_cert.proofs.part_fields.name_of.Given as goal

abbrev pub invariant-loop-row : goal.invariant-loop-row
invariant-loop-row l = record {
  rows : (rows_at (8 - length l.name) l.place.place l.rest >>= rows_behind l.name) ≡ rows_at 8 (settled (start l.problem)) l.bytes;
  no_root : tag_at (codes "/") l.bytes ≡ None;
  is_problem : IsProblem l.problem;
}

abbrev pub decreases-loop-row : goal.decreases-loop-row
decreases-loop-row l = 8 - length l.name
