use Rattle.std.proofs.Common.{◌≡◌, ◌++◌}
use Rattle.crp_checker.proofs.given_names.add_names.Given as goal

abbrev pub invariant-loop-name : goal.invariant-loop-name
invariant-loop-name l = l.names.items ≡ l.initial.names.items ++ l.yielded
