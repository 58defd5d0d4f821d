use Rattle.std.proofs.Common.{[], ◌∷◌, ◌++◌, ◌||◌, sym, ap, ◌∙◌}
use Rattle.std.specs.List.{list_any}
use Rattle.crp_row.specs.Rows.{Row, symbol_of, symbols_of, texts_in, gives_away}
use Rattle.crp_row.proofs.Kept.{one_more, same_texts, one_more_gives}
use Rattle.crp_row.proofs.row.Row.push_reserved.Goals as goal

pub invariant_of-self : goal.invariant_of-self
invariant_of-self c =
    let kinds = c.self.inside.kinds.items in (
      ap texts_in c.push_reserved.ensures.items ∙ same_texts kinds c.args.kind c.requires.plain ∙ c.self.invariant.0,
      ap (λ b. b || c.gives_away.result) c.self.invariant.1 ∙ ap (λ b. list_any gives_away kinds || b) c.gives_away.ensures
          ∙ sym (ap (list_any gives_away) c.push_reserved.ensures.items ∙ one_more_gives kinds c.args.kind),
    )

pub returns : goal.returns
returns c =
    ap (λ l. symbols_of l c.self.inside.texts.items) c.push_reserved.ensures.items ∙ one_more c.self.inside.kinds.items c.self.inside.texts.items c.args.kind [] c.requires.plain
    ∙ ap (λ (r : Row). r.symbols ++ symbol_of c.args.kind [] ∷ []) c.self.view_is
