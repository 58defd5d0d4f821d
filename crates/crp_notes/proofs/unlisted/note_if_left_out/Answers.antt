use Rattle.std.proofs.Common.{◌∙◌, Some, ap}
use Rattle.crp_notes.proofs.Unlisting.{some-left-out}
use Rattle.crp_notes.proofs.unlisted.note_if_left_out.Goals as goal

pub returns : goal.returns
returns c = ap Some c.in_ok-note.ensures ∙ some-left-out c.args.heights.now c.args.names.now c.in-Some.first.now c.in-Some.ensures.value
