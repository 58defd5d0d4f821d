use Rattle.std.proofs.Common.{◌+◌, ◌-◌, ◌*◌, length}
use Rattle.crp_checker.specs.Kept.{need_by}
use Rattle.crp_checker.specs.Pending.{pending}
use Rattle.crp_checker.specs.Walks.{walked_at}
use Rattle.crp_checker.proofs.OnWalks.{IsAmong}
use Rattle.crp_checker.proofs.walking.walk_on.Given as goal

abbrev pub invariant-open : goal.invariant-open
invariant-open l =
    IsAmong (need_by l.need) (walked_at (pending (length l.initial.path.items - l.above) l.initial.path.items l.initial.place) l.before l.initial.found) l.above l.before l.piece
    l.path.items l.place l.taken l.found

-- a symbol opens one branch at most
abbrev pub decreases-open : goal.decreases-open
decreases-open l = 2 * (length l.piece - l.taken) + length l.path.items
