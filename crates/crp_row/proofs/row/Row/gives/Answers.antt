use Rattle.std.proofs.Common.{map, sym, ap, ◌∙◌}
use Rattle.std.specs.List.{list_any}
use Rattle.crp_row.specs.Rows.{Row, kind_of, gives_away}
use Rattle.crp_row.proofs.Kept.{same_kinds}
use Rattle.crp_row.proofs.row.Row.gives.Goals as goal

pub returns : goal.returns
returns c =
    c.self.invariant.1 ∙ ap (list_any gives_away) (sym (same_kinds c.self.inside.kinds.items c.self.inside.texts.items)) ∙ ap (λ (r : Row). list_any gives_away (map kind_of r.symbols)) c.self.view_is
