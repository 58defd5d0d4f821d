use Rattle.std.proofs.Common.{◌∙◌, ap}
use Rattle.crp_notes.proofs.left.has.Goals as goal

pub returns : goal.returns
returns c = λ passes h. c.contains.ensures ∙ h c.bytes.result ∙ ap passes c.bytes.ensures
