-- As many sizes are kept as were.
use Rattle.std.proofs.Common.{◌≡◌, length}
use Rattle.crp_notes.proofs.sizes.keep_answer.Given as goal

abbrev pub invariant-loop-i : goal.invariant-loop-i
invariant-loop-i l = length l.sizes.items ≡ length l.initial.sizes.items
