-- The pieces so far are added, and the others are left.
use Rattle.std.proofs.Common.{◌≡◌, ◌++◌, length}
use Rattle.std.specs.Prelude.{flat_map}
use Rattle.bstr.specs.Utf8.{pieces}
use Rattle.crp_picture.specs.Names.{label_piece}
use Rattle.crp_picture.proofs.escaping.push_label_pieces.Given as goal

abbrev pub invariant-loop-rest : goal.invariant-loop-rest
invariant-loop-rest l = l.text.items ++ flat_map (λ p. label_piece p.char) (pieces l.rest) ≡ l.initial.text.items ++ flat_map (λ p. label_piece p.char) (pieces l.name)

abbrev pub decreases-loop-rest : goal.decreases-loop-rest
decreases-loop-rest l = length l.rest
