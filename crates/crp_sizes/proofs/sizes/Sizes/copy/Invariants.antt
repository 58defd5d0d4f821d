-- The sizes of the bays so far are copied.
use Rattle.std.proofs.Common.{◌≡◌, take}
use Rattle.crp_sizes.proofs.sizes.Sizes.copy.Given as goal

abbrev pub invariant-loop-i : goal.invariant-loop-i
invariant-loop-i l = (l.copy.common ≡ l.self.common) × (l.copy.listed ≡ take l.i l.self.listed)
