use Rattle.std.proofs.Common.{◌≡◌, ◌*◌, ◌≤◌, ℕ, List, map, take, get_or}
use Rattle.std.specs.List.{AllByRecursion}
use Rattle.crp_plan.specs.Rows.{occurrences}
use Rattle.crp_chains.specs.declared.blocker.Blocker.{Blocker}
use Rattle.crp_chains.specs.Chains.{IsChain, ranks_of, gain}
use Rattle.crp_chains.specs.Given.{lists_of}
use Rattle.crp_chains.proofs.family.gain_of.Given as goal

abbrev pub invariant-loop-ranks : goal.invariant-loop-ranks
invariant-loop-ranks l = record {
  made : (chains : List (List Blocker)) × (map ranks_of chains ≡ take l.ranks-index (lists_of l.family)) × AllByRecursion (IsChain l.position.place) chains × (l.gain ≡ gain l.position.place chains);
  counted : (x : ℕ) → get_or l.seen x 0 ≡ occurrences x (take l.ranks-index (lists_of l.family));
  few : (x : ℕ) → get_or l.seen x 0 ≤ 1;
  low : l.gain ≤ 96 * l.ranks-index;
}
