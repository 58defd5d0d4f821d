use Rattle.std.proofs.Common.{List, ℕ, ◌++◌, ◌∷◌, [], take, sym, ap, ◌∙◌, subst, append_assoc}
use Rattle.crp_checker.specs.Stages.{HasCome}
use Rattle.crp_checker.proofs.AtParts.{symbols_on}
use Rattle.crp_checker.proofs.in_part.read_on.Goals as goal

pub returns-then-len-bytes-clause-come : goal.returns-then-len-bytes-clause-come
returns-then-len-bytes-clause-come c wanted before at =
    let bytes : List ℕ = c.args.bytes.now in
    let n = c.line_len-len.result in
    let on = symbols_on wanted before (take n bytes) c.args.name c.args.findings c.args.line c.feed.new.self at c.line_len-len.ensures.line c.in_ok-feed.ensures in
    subst (λ l. HasCome wanted l c.in_ok-end_part.field-0) (append_assoc before (take n bytes) (10 ∷ []) ∙ ap (λ l. before ++ l) (sym (c.line_len-len.ensures.stop c.if-len-bytes.true)))
    (c.in_ok-end_part.ensures wanted (before ++ take n bytes) on)

pub returns-clause-come : goal.returns-clause-come
returns-clause-come c wanted before at =
    symbols_on wanted before (take c.line_len-len.result c.args.bytes.now) c.args.name c.args.findings c.args.line c.feed.new.self at c.line_len-len.ensures.line c.in_ok-feed.ensures
