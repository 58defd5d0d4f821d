use Rattle.std.proofs.Common.{◌≡◌, ◌≤◌, ◌+◌, ◌*◌, ℕ, List, ◌++◌, take}
use Rattle.crp_thinning.specs.Claiming.{Granted}
use Rattle.crp_thinning.specs.EachRow.{CloseEach}
use Rattle.crp_thinning.proofs.close.+closing.Given as goal

abbrev pub decreases-close : goal.decreases-close
decreases-close g l = 4 * l.most + 1

abbrev pub decreases-close_free : goal.decreases-close_free
decreases-close_free g l = 4 * l.most

abbrev pub decreases-close_thin : goal.decreases-close_thin
decreases-close_thin g l = 4 * l.most

abbrev pub decreases-close_each : goal.decreases-close_each
decreases-close_each g l = 4 * l.most + 2

abbrev pub decreases-close_rows : goal.decreases-close_rows
decreases-close_rows g l = 4 * l.most + 3

abbrev pub invariant-close_each-loop-i : goal.invariant-close_each-loop-i
invariant-close_each-loop-i g l = record {
  same : l.place ≡ l.fn.place;
  most : l.spent ≤ l.most;
  granted : Granted g.C.Claims.claims l.spent l.fn.claims l.claims;
  text : (text : List ℕ) × CloseEach l.fn.place.place l.need (take l.i l.good) text × (l.symbols.items ≡ l.fn.symbols.items ++ text);
}
