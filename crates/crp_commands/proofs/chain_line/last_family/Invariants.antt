use Rattle.std.proofs.Common.{◌≤◌, ◌-◌, ◌+◌, ◌*◌}
use Rattle.crp_chains.specs.Given.{lists_of}
use Rattle.crp_thinning.specs.Found.{ShowsBound}
use Rattle.crp_commands.proofs.chain_line.last_family.Given as goal

abbrev pub invariant-loop-more : goal.invariant-loop-more
invariant-loop-more l = record {
  shows : ShowsBound l.bounded.place (lists_of l.family.chains.items) l.family.bound;
  few : l.family.bound ≤ 96 + 96 * 96;
}

abbrev pub decreases-loop-more : goal.decreases-loop-more
decreases-loop-more l = 96 + 96 * 96 - l.family.bound
