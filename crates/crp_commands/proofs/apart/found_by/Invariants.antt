use Rattle.std.proofs.Common.{All, IfSome}
use Rattle.crp_commands.specs.Apart.{IsFoundIn}
use Rattle.crp_commands.proofs.apart.found_by.Given as goal

abbrev pub invariant-loop-i : goal.invariant-loop-i
invariant-loop-i g l = All (λ found. IfSome found (IsFoundIn l.block)) l.all.items × All (λ list. All (λ found. IfSome found (IsFoundIn l.block)) list.items) l.lists.items
