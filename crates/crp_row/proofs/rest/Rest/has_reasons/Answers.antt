use Rattle.std.proofs.Common.{map, not, ap, ◌∙◌}
use Rattle.std.specs.List.{list_any}
use Rattle.crp_row.specs.Rows.{kind_of, has_text}
use Rattle.crp_row.proofs.Kept.{some_text}
use Rattle.crp_row.proofs.rest.Rest.has_reasons.Goals as goal

pub returns : goal.returns
returns c = ap not c.is_empty.ensures ∙ some_text c.self.inside.kinds.now c.self.inside.texts.now c.self.invariant ∙ ap (λ l. list_any has_text (map kind_of l)) c.self.view_is
