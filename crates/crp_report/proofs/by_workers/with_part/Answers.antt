use Rattle.std.proofs.Common.{◌≡◌, ◌∙◌, ◌++◌, false, map, sym, ap, rules}
use Rattle.std.specs.List.{list_any}
use Rattle.crp_row.specs.Rows.{kind_of, has_text}
use Rattle.crp_tree.specs.Symbols.{symbols}
use Rattle.crp_cert.specs.Letters.{letter}
use Rattle.crp_cert.specs.Script.{symbols_of, opening_of}
use Rattle.crp_cert.proofs.Symbols.{letters_spelled, symbols_spelled}
use Rattle.crp_report.proofs.Shares.{share_more, line_joined}
use Rattle.crp_report.proofs.by_workers.with_part.Goals as goal

pub returns : goal.returns
returns g c =
    let tree = c.args.part.now.tree in
    let list : c.symbols-symbols.result ≡ symbols tree = c.symbols-symbols.ensures ∙ ap symbols c.tree.ensures.value in
    let kinds : c.kinds.result.now ≡ map kind_of (symbols tree) = c.kinds.ensures ∙ ap (map kind_of) list in
    let plain : list_any has_text (map kind_of (symbols tree)) ≡ false = ap (λ l. list_any has_text (map kind_of l)) (sym list) ∙ sym c.if-has_reasons.ensures in
    let spelled : map letter c.kinds.result.now ≡ symbols_of tree = ap (map letter) kinds ∙ letters_spelled (symbols tree) plain ∙ symbols_spelled tree in
    let opened = c.in_ok-push_opening.ensures ∙ ap (λ n. c.args.text.items ++ opening_of n) c.name.ensures.value in
    share_more c.in_ok-all.all.items c.push-2.new.self.items c.push.new.self _ _ (c.in_ok-all.ensures ∙ ap (λ l. l ++ map letter c.kinds.result.now) opened ∙ ap (λ l. (c.args.text.items ++ opening_of c.args.part.now.name) ++ l) spelled)
    (rw c.new-end.ensures.items at c.in_ok-push.ensures.items) (search rules)
    ∙ line_joined c.args.text.items c.args.part.now.name (symbols_of tree)
