use Rattle.std.proofs.Common.{◌≡◌, ◌∙◌, List, [], ◌∷◌, ◌++◌, length, ap, refl, sym, arith, length-append, append_assoc}
use Rattle.std.proofs.lemmas.Result.{err_from_is_err_and}
use Rattle.crp_order.specs.declared.bay_problem.BayProblem.{BayProblem}
use Rattle.crp_report.specs.declared.fault.Fault.TheVariants as fault
use Rattle.crp_report.proofs.Answering.{no_bays, bays_more, bays_stop, bay_not_kept, as_many, problems_behind}
use Rattle.crp_report.proofs.Places.{next_bay}
use Rattle.crp_report.proofs.Shown.{shows_nothing, shows_then}
use Rattle.crp_report.proofs.Taken.{same_then}
use Rattle.crp_report.proofs.bays.write_each.Goals as goal

pub loop-bay-init : goal.loop-bay-init
loop-bay-init g c = (
  [],
  refl,
  no_bays c.args.settings _ c.none-done.result c.requires.passed c.none-done.ensures,
  shows_nothing (g.E.Sink.contents c.args.errors.now),
  record { report = refl; certificates = refl; yard_after = refl },
)

pub write_bay-requires-clause-problem : goal.write_bay-requires-clause-problem
write_bay-requires-clause-problem g c κs within =
    let (before, all, written, shown, same) = c.loop-bay.invariant in
    let bay = c.in-Some.bay.now in let behind = c.in-Some.behind.now in
    let split = sym c.in-Some.ensures.cases.0 in
    (problems_behind before (bay ∷ behind) c.args.bays.now (ap (λ (l : List BayProblem). before ++ l) split ∙ all) c.requires.problems).0

pub write_bay-requires-clause-ready : goal.write_bay-requires-clause-ready
write_bay-requires-clause-ready g c κs within =
    let (before, all, written, shown, same) = c.loop-bay.invariant in
    let bay = c.in-Some.bay.now in let behind = c.in-Some.behind.now in
    let split = sym c.in-Some.ensures.cases.0 in
    c.ready_at-ready.ensures bay
    (next_bay before bay behind c.args.bays.now c.loop-bay.done.bays (ap (λ (l : List BayProblem). before ++ l) split ∙ all) (as_many c.args.settings before _ _ c.loop-bay.done written))

pub returns-in_err-solved-clause-written : goal.returns-in_err-solved-clause-written
returns-in_err-solved-clause-written g c =
    let (before, all, written, shown, same) = c.loop-bay.invariant in
    let bay = c.in-Some.bay.now in let behind = c.in-Some.behind.now in
    let split = sym c.in-Some.ensures.cases.0 in
    let p = err_from_is_err_and c.from_residual.result c.from_residual.ensures.1 in
    rw (p.1, p.2) (bays_stop c.args.settings before bay behind c.args.bays.now _ _ _ _ c.in_err-solved.field-0.0 (ap (λ (l : List BayProblem). before ++ l) split ∙ all) c.requires.problems written
    c.in_err-solved.ensures.written)

pub returns-in_err-solved-clause-shown : goal.returns-in_err-solved-clause-shown
returns-in_err-solved-clause-shown g c =
    let (before, all, written, shown, same) = c.loop-bay.invariant in
    shows_then _ _ _ (shows_then _ _ _ shown c.begins.ensures) c.in_err-solved.ensures.shown

pub push-requires-clause-few : goal.push-requires-clause-few
push-requires-clause-few g c =
    let (before, all, written, shown, same) = c.loop-bay.invariant in
    let bay = c.in-Some.bay.now in let behind = c.in-Some.behind.now in
    let split = sym c.in-Some.ensures.cases.0 in
    let whole = ap (λ (l : List BayProblem). before ++ l) split ∙ all in
    omega (arith, as_many c.args.settings before _ _ c.loop-bay.done written, ap (λ (l : List BayProblem). length l) whole, length-append before (bay ∷ behind))

pub returns-in_err-push-clause-written : goal.returns-in_err-push-clause-written
returns-in_err-push-clause-written g c =
    let (before, all, written, shown, same) = c.loop-bay.invariant in
    let bay = c.in-Some.bay.now in let behind = c.in-Some.behind.now in
    let split = sym c.in-Some.ensures.cases.0 in
    let p = err_from_is_err_and c.from_residual-in_err-push.result c.from_residual-in_err-push.ensures.1 in
    rw (p.1, p.2) (bays_stop c.args.settings before bay behind c.args.bays.now _ _ _ _ fault.Memory (ap (λ (l : List BayProblem). before ++ l) split ∙ all) c.requires.problems written
    (bay_not_kept c.args.settings bay c.in_ok-solved.solved _ _ c.in_ok-solved.ensures.written))

pub returns-in_err-push-clause-shown : goal.returns-in_err-push-clause-shown
returns-in_err-push-clause-shown g c =
    let (before, all, written, shown, same) = c.loop-bay.invariant in
    shows_then _ _ _ (shows_then _ _ _ shown c.begins.ensures) c.in_ok-solved.ensures.shown

pub loop-bay-preserved : goal.loop-bay-preserved
loop-bay-preserved g c =
    let (before, all, written, shown, same) = c.loop-bay.invariant in
    let bay = c.in-Some.bay.now in let behind = c.in-Some.behind.now in
    let split = sym c.in-Some.ensures.cases.0 in (
      before ++ bay ∷ [],
      append_assoc before (bay ∷ []) behind ∙ (ap (λ (l : List BayProblem). before ++ l) split ∙ all),
      bays_more c.args.settings before bay c.in_ok-solved.solved _ _ _ _ _ written c.in_ok-solved.ensures.written c.in_ok-push.ensures,
      shows_then _ _ _ (shows_then _ _ _ shown c.begins.ensures) c.in_ok-solved.ensures.shown,
      same_then _ _ _ same c.in_ok-solved.ensures.same,
    )
