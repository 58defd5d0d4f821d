use Rattle.std.proofs.Common.{◌≡◌, ◌++◌, false, OnOk, map, sym, ap, ◌∙◌, append-nil, subst}
use Rattle.std.specs.List.{flat_map, list_any}
use Rattle.crp_row.specs.Rows.{kind_of, has_text}
use Rattle.crp_tree.specs.Symbols.{symbols}
use Rattle.crp_tree.specs.Spots.{symbol_text}
use Rattle.crp_cert.specs.Letters.{letter}
use Rattle.crp_cert.proofs.Symbols.{letters_spelled, symbols_spelled}
use Rattle.crp_cert.proofs.writing.push_tree.Goals as goal

pub returns : goal.returns
returns c =
    sym (append-nil c.loop-kind.text.items) ∙ ap (λ l. c.loop-kind.text.items ++ flat_map symbol_text l) (sym c.in_default.ensures.none) ∙ c.loop-kind.invariant ∙ ap (λ l. c.args.text.now.items ++ l) (symbols_spelled c.args.tree.now)

pub returns-then-not-has_reasons : goal.returns-then-not-has_reasons
returns-then-not-has_reasons c =
    let tree = c.args.tree.now in
    let kinds : c.kinds.result.now ≡ map kind_of (symbols tree) = c.kinds.ensures ∙ ap (map kind_of) c.symbols-rest.ensures in
    let plain : list_any has_text (map kind_of (symbols tree)) ≡ false = ap (λ l. list_any has_text (map kind_of l)) (sym c.symbols-rest.ensures) ∙ sym c.if-not-has_reasons.ensures in
    let letters = letters_spelled (symbols tree) plain in
    let spelled = ap (map letter) kinds ∙ letters ∙ symbols_spelled tree in
    subst (λ l. OnOk c.push_letters.result (c.push_letters.new.text.items ≡ c.args.text.now.items ++ l)) spelled c.push_letters.ensures
