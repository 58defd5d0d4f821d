use Rattle.std.proofs.Common.{map, ap, ◌∙◌}
use Rattle.std.specs.List.{list_any}
use Rattle.crp_row.specs.Rows.{kind_of, has_text}
use Rattle.crp_cert.proofs.Symbols.{reasons_by_kinds}
use Rattle.crp_cert.proofs.writing.has_reasons.Goals as goal

pub returns : goal.returns
returns c = c.has_reasons.ensures ∙ ap (λ l. list_any has_text (map kind_of l)) c.symbols.ensures ∙ reasons_by_kinds c.args.tree.now
