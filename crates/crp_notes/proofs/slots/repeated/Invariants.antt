-- Those so far that are there once and twice.
use Rattle.std.proofs.Common.{take}
use Rattle.crp_notes.specs.Namings.{HasNamed}
use Rattle.crp_notes.proofs.slots.repeated.Given as goal

abbrev pub invariant-loop-naming : goal.invariant-loop-naming
invariant-loop-naming l = HasNamed 0 l.seen.keys (take l.naming-index l.namings) × HasNamed 1 l.again.keys (take l.naming-index l.namings)
