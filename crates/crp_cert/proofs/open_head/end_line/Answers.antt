use Rattle.std.proofs.Common.{◌≢◌, List, ℕ, ◌++◌, sym, ap, ◌∙◌, subst}
use Rattle.std.specs.List.{AllByRecursion}
use Rattle.std.proofs.lemmas.List.{append-nil}
use Rattle.crp_cert.specs.LinesOfHead.{HasRead, HasNoLine, bay_of}
use Rattle.crp_cert.specs.HeadsFed.{IsFaultyHead}
use Rattle.crp_cert.proofs.Heading.{line_is_faulty, line_is_read}
use Rattle.crp_cert.proofs.open_head.end_line.Goals as goal

pub returns-in_default-clause-fed : goal.returns-in_default-clause-fed
returns-in_default-clause-fed c before has ends =
    let text : List ℕ = before ++ c.args.line.now in
    let none : HasNoLine c.args.lines c.args.line.now = rw c.in_default.is at c.in_ok-read.ensures.none in
    subst (λ b. IsFaultyHead text b c.fault-fault.result) (sym c.named_by-bay.ensures)
    (subst (IsFaultyHead text (bay_of c.args.lines)) (sym c.fault-fault.ensures) (line_is_faulty before c.args.line.now c.args.lines has ends none))

pub returns-in-Lines-clause-fed : goal.returns-in-Lines-clause-fed
returns-in-Lines-clause-fed c before has ends =
    let text : List ℕ = before ++ c.args.line.now in
    let step = rw c.in-Some.is at c.in_ok-read.ensures.found in
    record {
      above = text;
      has = subst (HasRead text) c.in-Lines.is (line_is_read before c.args.line.now _ c.args.lines c.in-Some.read has ends step);
      one_line = subst (AllByRecursion (λ b. b ≢ 10)) (sym c.new-begun.ensures.items) tt;
      is = sym (ap (λ l. text ++ l) c.new-begun.ensures.items ∙ append-nil text);
    }

pub returns-in-Whole-clause-fed : goal.returns-in-Whole-clause-fed
returns-in-Whole-clause-fed c before has ends =
    let step = rw c.in-Some.is at c.in_ok-read.ensures.found in
    subst (HasRead (before ++ c.args.line.now)) c.in-Whole.is (line_is_read before c.args.line.now _ c.args.lines c.in-Some.read has ends step)
