use Rattle.std.proofs.Common.{◌∙◌, ap, ◌++◌}
use Rattle.crp_follow.proofs.RewritingSteps.{all_rewritten}
use Rattle.crp_follow.proofs.rewriting.rewrite.Goals as goal

pub returns-clause-rewritten : goal.returns-clause-rewritten
returns-clause-rewritten c =
    let x = c.in_ok-numbers in
    all_rewritten c.args.report.now c.in_ok-text.text.items c.push_bays.new.text.items c.in_ok-last.last.items c.extend_from_slice.new.self.items x.numbers x.bays.items c.deref.result.now c.len.result
    c.in_ok-decided.decided x.ensures.stated c.deref.ensures.value c.in_ok-text.ensures c.in_ok-decided.ensures (c.len.ensures ∙ c.in_ok-numbers.bays.ok.0) c.in_ok-last.ensures
    (c.in_ok-extend_from_slice.ensures.items ∙ ap (λ l. c.push_bays.new.text.items ++ l) c.deref-2.ensures.value)
