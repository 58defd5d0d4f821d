use Rattle.std.proofs.Common.{◌≡◌, List, length}
use Rattle.std.specs.Prelude.{reverse}
use Rattle.crp_plan.specs.Bay.{IsProblem, cap}
use Rattle.crp_tree.specs.Trees.{Node, least_value, given_names}
use Rattle.crp_search.specs.Limits.{dealt}
use Rattle.crp_search.proofs.UnderWay.{standing, IsUnderWay}
use Rattle.crp_search.proofs.Owing.{owed}
use Rattle.crp_search.proofs.walking.walk_from.Given as goal

abbrev pub invariant-loop-row : goal.invariant-loop-row
invariant-loop-row g l = record {
  is_problem : IsProblem l.problem;
  same : (g.L.Limit.problem l.limit ≡ g.L.Limit.problem l.fn.limit) × (g.L.Limit.budget l.limit ≡ g.L.Limit.budget l.fn.limit);
  ready : g.S.Seek.ready l.problem l.seek;
  met : List Node;
  under_way : IsUnderWay l.problem (standing l.fn.path.items l.fn.place) (standing l.path.items l.place) l.frame (reverse l.above.items) l.list.symbols met;
  meets : g.S.Seek.meets l.problem l.split l.fn.seek (dealt (g.L.Limit.view l.fn.limit) (g.L.Limit.puts l.fn.limit)) l.seek (dealt (g.L.Limit.view l.limit) (g.L.Limit.puts l.limit)) met;
  floor_is : l.floor ≡ least_value (cap l.problem) met;
  given_is : l.given.items ≡ given_names met;
}

abbrev pub decreases-loop-row : goal.decreases-loop-row
decreases-loop-row g l = owed (length l.path.items) l.frame (reverse l.above.items)
