use Rattle.std.proofs.Common.{◌≡◌, ◌++◌, drop}
use Rattle.crp_plan.specs.Faults.{stacks_of}
use Rattle.crp_c.specs.Rows.{rows_of, FillRows}
use Rattle.crp_c.proofs.rows.rows_from.Given as goal

abbrev pub invariant-loop-count : goal.invariant-loop-count
invariant-loop-count l = record {
  filled : FillRows (drop l.count-index l.counts) l.rest → FillRows l.counts l.ranks;
  fills : FillRows l.counts l.ranks → FillRows (drop l.count-index l.counts) l.rest;
  rows : stacks_of l.rows.items ++ rows_of (drop l.count-index l.counts) l.rest ≡ rows_of l.counts l.ranks;
}
