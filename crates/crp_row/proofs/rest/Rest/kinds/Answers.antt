use Rattle.std.proofs.Common.{map, sym, ap, ◌∙◌}
use Rattle.crp_row.specs.Rows.{kind_of}
use Rattle.crp_row.proofs.Kept.{same_kinds}
use Rattle.crp_row.proofs.rest.Rest.kinds.Goals as goal

pub returns : goal.returns
returns c = sym (same_kinds c.self.inside.kinds.now c.self.inside.texts.now) ∙ ap (map kind_of) c.self.view_is
