use Rattle.std.proofs.Common.{◌++◌, inr, sym, ap, ◌∙◌, subst, append_assoc}
use Rattle.crp_cert.specs.Faults.{IsFirstFault}
use Rattle.crp_cert.specs.LinesOfHead.{HasRead, HasNoLine, fault_behind}
use Rattle.crp_cert.proofs.LinesOfHead.{fault_is}
use Rattle.crp_cert.proofs.reading.head_and_rest.Goals as goal

pub returns-in_default-clause-refused : goal.returns-in_default-clause-refused
returns-in_default-clause-refused c =
    let has = c.loop-read.invariant in
    let none : HasNoLine c.loop-read.lines c.loop-read.rest.now = rw c.in_default.is at c.in_ok-read.ensures.none in
    inr (subst (IsFirstFault c.args.bytes.now) (sym c.fault-fault.ensures) (subst (λ l. IsFirstFault l (fault_behind c.loop-read.lines)) (sym has.2) (fault_is has.0 c.loop-read.rest.now c.loop-read.lines has.1 none)))

pub loop-read-preserved : goal.loop-read-preserved
loop-read-preserved c =
    let has = c.loop-read.invariant in
    let step = rw c.in-Some.is at c.in_ok-read.ensures.found in (
      has.0 ++ step.line,
      subst (HasRead (has.0 ++ step.line)) c.in-Lines.is (step.leads has.0 has.1),
      has.2 ∙ ap (λ l. has.0 ++ l) step.is ∙ sym (append_assoc has.0 step.line c.in-Some.after.now),
    )

pub returns-in-Whole-clause-head : goal.returns-in-Whole-clause-head
returns-in-Whole-clause-head c =
    let has = c.loop-read.invariant in
    let step = rw c.in-Some.is at c.in_ok-read.ensures.found in
    (subst (HasRead (has.0 ++ step.line)) c.in-Whole.is (step.leads has.0 has.1)).0

pub returns-in-Whole-clause-text : goal.returns-in-Whole-clause-text
returns-in-Whole-clause-text c =
    let has = c.loop-read.invariant in
    let step = rw c.in-Some.is at c.in_ok-read.ensures.found in
    has.2 ∙ ap (λ l. has.0 ++ l) step.is ∙ sym (append_assoc has.0 step.line c.in-Some.after.now)
    ∙ ap (λ l. l ++ c.in-Some.after.now) (subst (HasRead (has.0 ++ step.line)) c.in-Whole.is (step.leads has.0 has.1)).1
