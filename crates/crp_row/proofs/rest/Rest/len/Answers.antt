use Rattle.std.proofs.Common.{length, sym, ap, ◌∙◌}
use Rattle.crp_row.proofs.Kept.{as_many}
use Rattle.crp_row.proofs.rest.Rest.len.Goals as goal

pub returns : goal.returns
returns c = sym (as_many c.self.inside.kinds.now c.self.inside.texts.now) ∙ ap length c.self.view_is
