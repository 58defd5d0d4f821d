-- None of the entries so far floats.
use Rattle.std.proofs.Common.{◌≡◌, None}
use Rattle.crp_yard.specs.Faults.{floating_before}
use Rattle.crp_yard.proofs.floating.floating.Given as goal

abbrev pub invariant-loop-i : goal.invariant-loop-i
invariant-loop-i l = floating_before l.listing l.i ≡ None
