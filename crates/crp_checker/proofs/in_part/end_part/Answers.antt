use Rattle.std.proofs.Common.{◌++◌, ◌∷◌, [], sym, subst}
use Rattle.crp_checker.specs.Stages.{HasCome}
use Rattle.crp_checker.specs.Ends.{IsEndOfSymbols}
use Rattle.crp_checker.specs.declared.line_end.LineEnd.TheVariants.{Unknown, Trailing, Unfinished, Whole}
use Rattle.crp_cert.specs.ScriptFaults.{IsLineFault}
use Rattle.crp_cert.specs.declared.fault.CertFault.TheVariants as faults
use Rattle.crp_checker.proofs.AtParts.{not_in_order, symbols_fault, part_ended}
use Rattle.crp_checker.proofs.in_part.end_part.Goals as goal

pub returns-then-not-come_before : goal.returns-then-not-come_before
returns-then-not-come_before c wanted before at =
    subst (HasCome wanted (before ++ 10 ∷ [])) (sym c.faulty.ensures)
    (not_in_order wanted before c.args.name c.args.findings c.args.line at (λ comes. let yes' = c.come_before.ensures.1 comes in let not = c.if-not-come_before.true in cc))

pub returns-in-Unknown : goal.returns-in-Unknown
returns-in-Unknown c wanted before at =
    subst (HasCome wanted (before ++ 10 ∷ [])) (sym c.faulty-in-Unknown.ensures)
    (symbols_fault wanted before c.args.name c.args.findings c.args.line Unknown (faults.Symbol c.args.findings.line) at (c.come_before.ensures.0 c.if-not-come_before.false)
    (λ need version top bytes is. subst (IsEndOfSymbols need version top bytes) c.in-Unknown.is (c.end.ensures need version top bytes is))
    (λ version p parts need line bytes after number is. subst (λ n. IsLineFault version p parts line bytes (faults.Symbol n)) number is))

pub returns-in-Unfinished : goal.returns-in-Unfinished
returns-in-Unfinished c wanted before at =
    subst (HasCome wanted (before ++ 10 ∷ [])) (sym c.faulty-in-Unfinished.ensures)
    (symbols_fault wanted before c.args.name c.args.findings c.args.line Unfinished (faults.Unfinished c.args.findings.line) at (c.come_before.ensures.0 c.if-not-come_before.false)
    (λ need version top bytes is. subst (IsEndOfSymbols need version top bytes) c.in-Unfinished.is (c.end.ensures need version top bytes is))
    (λ version p parts need line bytes after number is. subst (λ n. IsLineFault version p parts line bytes (faults.Unfinished n)) number is))

pub returns-in-Trailing : goal.returns-in-Trailing
returns-in-Trailing c wanted before at =
    subst (HasCome wanted (before ++ 10 ∷ [])) (sym c.faulty-in-Trailing.ensures)
    (symbols_fault wanted before c.args.name c.args.findings c.args.line Trailing (faults.Trailing c.args.findings.line) at (c.come_before.ensures.0 c.if-not-come_before.false)
    (λ need version top bytes is. subst (IsEndOfSymbols need version top bytes) c.in-Trailing.is (c.end.ensures need version top bytes is))
    (λ version p parts need line bytes after number is. subst (λ n. IsLineFault version p parts line bytes (faults.Trailing n)) number is))

pub returns-in_ok-with_part-in-Whole : goal.returns-in_ok-with_part-in-Whole
returns-in_ok-with_part-in-Whole c wanted before at =
    let w = c.in-Whole.wrong in
    let given = c.in-Whole.given in
    let next = c.in_ok-with_part-in-Whole in
    part_ended wanted before c.args.name c.args.findings next.field-0 c.args.line (Whole w given) c.new.result.items w given at (c.come_before.ensures.0 c.if-not-come_before.false)
    (λ need version top bytes is. subst (IsEndOfSymbols need version top bytes) c.in-Whole.is (c.end.ensures need version top bytes is))
    (λ version p parts need line bytes after is. is)
    (record {
      same_bay = next.ensures.bay;
      same_problem = next.ensures.problem;
      same_need = next.ensures.need;
      same_count = next.ensures.count;
      next_line = next.ensures.line;
      more_names = next.ensures.names;
      more_given = next.ensures.given;
      same_note = next.ensures.wrong;
    })
    c.new.ensures.items
