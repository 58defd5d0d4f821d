-- The lines of the parts so far were added.
use Rattle.std.proofs.Common.{◌≡◌, ◌++◌, take}
use Rattle.std.specs.List.{flat_map}
use Rattle.crp_tree.specs.Parts.{part_of}
use Rattle.crp_cert.specs.Script.{part_line}
use Rattle.crp_cert.proofs.writing.push_parts.Given as goal

abbrev pub invariant-loop-part : goal.invariant-loop-part
invariant-loop-part l = l.text.items ≡ l.initial.text.items ++ flat_map (λ part. part_line (part_of part)) (take l.part-index l.parts)
