use Rattle.std.proofs.Common.{All, IfSome}
use Rattle.crp_commands.specs.Apart.{IsFoundIn}
use Rattle.crp_commands.proofs.apart.found_of.Given as goal

abbrev pub invariant-loop-turn : goal.invariant-loop-turn
invariant-loop-turn l = All (λ found. IfSome found (IsFoundIn l.block)) l.all.items
