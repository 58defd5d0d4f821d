use Rattle.std.proofs.Common.{◌≡◌, ◌∙◌, ◌++◌, ap, append_assoc}
use Rattle.crp_cert.specs.Text.{bay_line}
use Rattle.crp_commands.specs.Bound.{bound_lines}
use Rattle.crp_commands.proofs.bounding.report_of.Goals as goal
use Rattle.crp_commands.proofs.bounding.report_of.Goals.{then-chains+in_ok-push_chain_line, else-chains}

pub returns : goal.returns
returns c =
    let s = c.start-bounded.result.place in
    let bay = bay_line c.args.head.now.bay in
    let first : c.push_bounds.new.text.items ≡ bay ++ bound_lines s =
    c.in_ok-push_bounds.ensures ∙ ap (λ l. l ++ bound_lines s) (c.in_ok-push_bay.ensures ∙ ap (λ l. l ++ bay) c.new-report.ensures.items) in
    elim c.if-chains.branch [
      | then-chains+in_ok-push_chain_line w ↦
          let more = w.in_ok-push_chain_line.ensures in
          rw (w.if-chains.true)
          (s, c.start-bounded.ensures.at, (more.0, more.1, ap (λ v. v.items) w.report-is ∙ more.2 ∙ ap (λ l. l ++ more.0) first ∙ append_assoc bay (bound_lines s) more.0))
      | else-chains w ↦ rw (w.if-chains.false) (s, c.start-bounded.ensures.at, ap (λ v. v.items) w.report-is ∙ first)
    ]
