-- The parts so far stand behind the front of the line.
use Rattle.std.proofs.Common.{◌≡◌, ◌++◌, map, take}
use Rattle.std.specs.Prelude.{codes, flat_map}
use Rattle.crp_notes.proofs.wording.note_of.Given as goal

abbrev pub invariant-loop-part : goal.invariant-loop-part
invariant-loop-part l = l.text.items ≡ codes "crp: note: " ++ flat_map (λ part. part) (map (λ part. part.now) (take l.part-index l.parts))
