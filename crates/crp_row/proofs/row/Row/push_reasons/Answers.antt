use Rattle.std.proofs.Common.{[], ◌∷◌, ◌++◌, length, ap, sym, ◌∙◌, arith, length-append}
use Rattle.crp_row.specs.Symbol.{CutR}
use Rattle.crp_row.specs.declared.kind.Kind.TheVariants as kind
use Rattle.std.specs.List.{list_any}
use Rattle.std.proofs.Math.Bool.{or-false}
use Rattle.crp_row.specs.Rows.{Row, symbols_of, texts_in, gives_away}
use Rattle.crp_row.proofs.Kept.{text_more, texts_more, one_more_gives}
use Rattle.crp_row.proofs.row.Row.push_reasons.Goals as goal

pub invariant_of-self-2 : goal.invariant_of-self-2
invariant_of-self-2 c =
    let kinds = c.push_reserved.ensures.items ∙ ap (λ l. l ++ kind.CutR c.args.bound ∷ []) c.in_ok-reserve.ensures.items in
    let texts = c.in_ok-push.ensures.items in
    (ap texts_in kinds ∙ texts_more c.self.inside.kinds.items c.args.bound ∙ (let all = c.self.invariant.0 in omega (arith, all, ap length texts, length-append c.self.inside.texts.items (c.in_ok-of.field-0 ∷ []))), c.self.invariant.1 ∙ sym (ap (list_any gives_away) kinds ∙ one_more_gives c.self.inside.kinds.items (kind.CutR c.args.bound) ∙ or-false (list_any gives_away c.self.inside.kinds.items)))

pub returns-clause-symbols : goal.returns-clause-symbols
returns-clause-symbols c =
    let kinds = c.push_reserved.ensures.items ∙ ap (λ l. l ++ kind.CutR c.args.bound ∷ []) c.in_ok-reserve.ensures.items in
    let texts = c.in_ok-push.ensures.items ∙ ap (λ t. c.self.inside.texts.items ++ t ∷ []) c.in_ok-of.ensures in
    ap (λ l. symbols_of l c.push.new.self.items) kinds ∙ ap (symbols_of (c.self.inside.kinds.items ++ kind.CutR c.args.bound ∷ [])) texts
    ∙ text_more c.self.inside.kinds.items c.self.inside.texts.items c.args.bound c.args.text.now c.self.invariant.0
    ∙ ap (λ (r : Row). r.symbols ++ CutR c.args.bound c.args.text.now ∷ []) c.self.view_is
