use Rattle.std.proofs.Common.{◌≡◌, ◌∙◌, [], None, Some, Err, true, false, length, map, inl, refl, sym, ap, subst, arith}
use Rattle.std.specs.List.{AllByRecursion}
use Rattle.std.proofs.lemmas.Result.{err_from_is_err_and}
use Rattle.crp_plan.proofs.Interruptions.{no_transfer, transfers_on}
use Rattle.crp_order.specs.BayProblems.{IsNamedProblem}
use Rattle.crp_said.specs.Spelled.{ReportSaid, line_behind}
use Rattle.crp_said.specs.Views.{bay_as, report_as}
use Rattle.crp_said.proofs.OneReport.{one_report}
use Rattle.crp_checker.proofs.Taken.{nothing_left}
use Rattle.crp_audit.specs.declared.fault.AuditFault.TheVariants as fault
use Rattle.crp_audit.specs.declared.fault.AuditStop.TheVariants as stop
use Rattle.crp_audit.specs.Headline.{Handed, handed}
use Rattle.crp_audit.specs.Faults.{CountsRight, next_said}
use Rattle.crp_audit.proofs.Audited.{AreRight, none_right, spelling, refused_name, refused_more, left_over, wrong_count, all_right, out_of_memory, none_of, tested, some_of, some_mapped}
use Rattle.crp_audit.proofs.Reading.{IsStoppedAt, given_some, none_so_far, one_more, none_more, refused_with, stopped_at, unread_at, some_left}
use Rattle.crp_audit.proofs.Stopping.{stop_fails}
use Rattle.crp_audit.proofs.auditing.audit_into.Goals as goal

pub returns-in_err-said-clause-refused : goal.returns-in_err-said-clause-refused
returns-in_err-said-clause-refused g c =
    let (text, is) = given_some (g.R.Source.remaining c.args.certificates.now) in
    let h : Handed = handed c.args.yard.now c.args.orders.now c.args.sequence.now c.args.report.now text in
    let p = err_from_is_err_and c.from_residual.result c.from_residual.ensures.1 in
    rw (p.1, p.2) (text, is, record { before = []; shown_is = c.requires.none_shown; first = spelling h c.in_err-said.field-0.0 c.in_err-said.ensures.refused })

pub returns-then-not-same_numbers-clause-refused : goal.returns-then-not-same_numbers-clause-refused
returns-then-not-same_numbers-clause-refused g c =
    let (text, is) = given_some (g.R.Source.remaining c.args.certificates.now) in (
      text,
      is,
      record {
        before = [];
        shown_is = c.requires.none_shown;
        first = (
          refl,
          (
            report_as c.in_ok-said.said,
            c.in_ok-said.ensures.found,
            λ e.
                let t : c.same_numbers.result ≡ true = c.same_numbers.ensures.1 (e ∙ sym (c.numbers_in.ensures c.args.report.now text)) in
                let f : c.same_numbers.result ≡ false = c.if-not-same_numbers.true in cc,
          ),
        );
      },
    )

pub loop-next-init : goal.loop-next-init
loop-next-init g c =
    let given = g.R.Source.remaining c.args.certificates.now in
    let r : ReportSaid = report_as c.in_ok-said.said in
    let shown = c.args.shown.now.items in
    let front = c.in_ok-front.front.items in
    record {
      named = subst (AllByRecursion IsNamedProblem) (sym c.as_slice-later.ensures.value) (c.in_ok-stated.ensures.names c.requires.named);
      so = none_so_far (handed c.args.yard.now c.args.orders.now c.args.sequence.now c.args.report.now) given c.args.limit shown front c.as_slice-later.result.now (map bay_as c.as_slice-more.result.now)
          c.new-unread.result (λ left is. (c.new-unread.ensures.left given left).0 is) (λ left is. (c.new-unread.ensures.left given left).1 is) c.new-unread.ensures.room
          (λ text.
          let h : Handed = handed c.args.yard.now c.args.orders.now c.args.sequence.now c.args.report.now text in
          let numbers = c.same_numbers.ensures.0 c.if-not-same_numbers.false ∙ c.numbers_in.ensures c.args.report.now text in
          subst (λ l. AreRight h shown front c.as_slice-later.result.now (map bay_as l) text) (sym c.as_slice-more.ensures.value)
          (none_right h r shown front c.as_slice-later.result.now c.in_ok-said.ensures.found numbers c.requires.none_shown c.in_ok-front.ensures (c.as_slice-later.ensures.value ∙ c.in_ok-stated.ensures.exact)));
      transfers = no_transfer _ _ _ c.requires.passed;
    }

pub returns-in_default-split_first-clause-refused : goal.returns-in_default-split_first-clause-refused
returns-in_default-split_first-clause-refused g c =
    let of = handed c.args.yard.now c.args.orders.now c.args.sequence.now c.args.report.now in
    let given = g.R.Source.remaining c.args.certificates.now in
    let before = g.R.Source.failures c.args.certificates.now in
    let after = g.R.Source.failures c.loop-next.certificates in
    let none : c.loop-next.more.now ≡ [] = none_of c.loop-next.more.now c.in_default-split_first.ensures.cases in
    let o = c.loop-next.invariant in
    let shown = c.loop-next.shown.items in
    let front = c.loop-next.front.items in
    let more = map bay_as c.loop-next.more.now in
    subst (IsStoppedAt of given c.args.limit before after shown)
    (ap (λ l. stop.Fault (fault.Bay (line_behind l) (Some c.in-Some.next.now.bay))) (sym c.deref.ensures.value) ∙ sym c.other_bay.ensures)
    (refused_with of given c.args.limit shown front c.loop-next.later.now more _ c.loop-next.unread _ o.so
    (λ text left is right. refused_name (of text) shown front c.loop-next.later.now c.in-Some.behind.now c.in-Some.next.now more left right
    c.in-Some.ensures.cases.0 (λ e. let k : next_said [] ≡ Some c.in-Some.next.now.bay = ap (λ l. next_said (map bay_as l)) (sym none) ∙ e in cc)))

pub returns-then-not-is_named-clause-refused : goal.returns-then-not-is_named-clause-refused
returns-then-not-is_named-clause-refused g c =
    let of = handed c.args.yard.now c.args.orders.now c.args.sequence.now c.args.report.now in
    let given = g.R.Source.remaining c.args.certificates.now in
    let before = g.R.Source.failures c.args.certificates.now in
    let after = g.R.Source.failures c.loop-next.certificates in
    let o = c.loop-next.invariant in
    let shown = c.loop-next.shown.items in
    let front = c.loop-next.front.items in
    let more = map bay_as c.loop-next.more.now in
    subst (IsStoppedAt of given c.args.limit before after shown)
    (ap (λ l. stop.Fault (fault.Bay (line_behind l) (Some c.in-Some.next.now.bay))) (sym c.deref-then-not-is_named.ensures.value) ∙ sym c.other_bay-then-not-is_named.ensures)
    (refused_with of given c.args.limit shown front c.loop-next.later.now more _ c.loop-next.unread _ o.so
    (λ text left is right. refused_name (of text) shown front c.loop-next.later.now c.in-Some.behind.now c.in-Some.next.now more left right
    c.in-Some.ensures.cases.0
    (λ e.
    let k : Some c.in-Some-split_first.bay.now.bay ≡ Some c.in-Some.next.now.bay = ap (λ l. next_said (map bay_as l)) (sym c.in-Some-split_first.ensures.cases.0) ∙ e in
    let same : c.in-Some-split_first.bay.now.bay ≡ c.in-Some.next.now.bay = cc in
    let t : c.is_named.result ≡ true = c.is_named.ensures.1 same in
    let f : c.is_named.result ≡ false = c.if-not-is_named.true in cc)))

pub returns-in_err-verdict-clause-refused : goal.returns-in_err-verdict-clause-refused
returns-in_err-verdict-clause-refused g c =
    let given = g.R.Source.remaining c.args.certificates.now in
    let o = c.loop-next.invariant in
    let p = err_from_is_err_and c.from_residual-in_err-verdict.result c.from_residual-in_err-verdict.ensures.1 in
    rw (p.1, p.2) (stopped_at c.args.yard.now c.args.orders.now c.args.sequence.now c.args.report.now given c.args.limit _ _ c.loop-next.shown.items c.loop-next.front.items c.loop-next.later.now
    c.in-Some.behind.now c.in-Some.next.now (map bay_as c.loop-next.more.now) (map bay_as c.in-Some-split_first.after.now) (bay_as c.in-Some-split_first.bay.now) _ c.loop-next.unread
    c.in_err-verdict.field-0.0 o.so (transfers_on o.transfers c.in_err-verdict.ensures.stopped) c.in-Some.ensures.cases.0
    (ap (map bay_as) c.in-Some-split_first.ensures.cases.0) (c.is_named.ensures.0 c.if-not-is_named.false) c.in_err-verdict.ensures.wrong)

pub loop-next-preserved : goal.loop-next-preserved
loop-next-preserved g c =
    let of = handed c.args.yard.now c.args.orders.now c.args.sequence.now c.args.report.now in
    let given = g.R.Source.remaining c.args.certificates.now in
    let o = c.loop-next.invariant in
    let named = subst (AllByRecursion IsNamedProblem) c.in-Some.ensures.cases.0 o.named in
    let (text, taken, true_of) = c.in_ok-verdict.ensures.right in
    record {
      named = named.1;
      so = one_more of given c.args.limit c.loop-next.shown.items c.show.new.shown.items c.loop-next.front.items c.audit_bay.new.front.items c.loop-next.later.now c.in-Some.behind.now
          c.in-Some.next.now (map bay_as c.loop-next.more.now) (map bay_as c.in-Some-split_first.after.now) (bay_as c.in-Some-split_first.bay.now) _ _ c.loop-next.unread c.in_ok-verdict.rest text
          c.in_ok-verdict.verdict o.so c.in-Some.ensures.cases.0 (ap (map bay_as) c.in-Some-split_first.ensures.cases.0) (c.is_named.ensures.0 c.if-not-is_named.false) taken true_of
          c.in_ok-verdict.ensures.front c.in_ok-show.ensures.shown;
      transfers = transfers_on o.transfers c.in_ok-verdict.ensures.done;
    }

pub returns-in_err-show-clause-refused : goal.returns-in_err-show-clause-refused
returns-in_err-show-clause-refused g c =
    let of = handed c.args.yard.now c.args.orders.now c.args.sequence.now c.args.report.now in
    let given = g.R.Source.remaining c.args.certificates.now in
    let before = g.R.Source.failures c.args.certificates.now in
    let after = g.R.Source.failures c.audit_bay.new.source in
    let o = c.loop-next.invariant in
    let front = c.loop-next.front.items in
    let more = map bay_as c.loop-next.more.now in
    let p = err_from_is_err_and c.from_residual-in_err-show.result c.from_residual-in_err-show.ensures.1 in
    rw (p.1, p.2)
    (subst (λ l. IsStoppedAt of given c.args.limit before after l (stop.Fault fault.Memory)) (sym c.in_err-show.ensures.same)
    (refused_with of given c.args.limit c.loop-next.shown.items front c.loop-next.later.now more _ c.loop-next.unread fault.Memory o.so
    (λ text left is right. out_of_memory (of text) c.loop-next.shown.items front c.loop-next.later.now more left right)))

pub returns-then-not-is_empty-clause-refused : goal.returns-then-not-is_empty-clause-refused
returns-then-not-is_empty-clause-refused g c =
    let of = handed c.args.yard.now c.args.orders.now c.args.sequence.now c.args.report.now in
    let given = g.R.Source.remaining c.args.certificates.now in
    let before = g.R.Source.failures c.args.certificates.now in
    let after = g.R.Source.failures c.loop-next.certificates in
    let o = c.loop-next.invariant in
    let shown = c.loop-next.shown.items in
    let front = c.loop-next.front.items in
    let more = map bay_as c.loop-next.more.now in
    let some = some_of c.loop-next.more.now c.if-not-is_empty.ensures in
    subst (IsStoppedAt of given c.args.limit before after shown) (ap (λ l. stop.Fault (fault.Bay (line_behind l) None)) (sym c.deref-then-not-is_empty.ensures.value) ∙ sym c.other_bay-then-not-is_empty.ensures)
    (refused_with of given c.args.limit shown front c.loop-next.later.now more _ c.loop-next.unread _ o.so
    (λ text left is right. refused_more (of text) shown front c.loop-next.later.now more left right (none_of c.loop-next.later.now c.in_default.ensures.cases) (some_mapped bay_as c.loop-next.more.now some)))

pub returns-in_err-fill-clause-refused : goal.returns-in_err-fill-clause-refused
returns-in_err-fill-clause-refused g c =
    let given = g.R.Source.remaining c.args.certificates.now in
    let o = c.loop-next.invariant in
    let p = err_from_is_err_and c.from_residual-in_err-fill.result c.from_residual-in_err-fill.ensures.1 in
    rw (p.1, p.2) (unread_at c.args.yard.now c.args.orders.now c.args.sequence.now c.args.report.now given c.args.limit _ _ c.loop-next.shown.items c.loop-next.front.items c.loop-next.later.now
    (map bay_as c.loop-next.more.now) _ c.loop-next.unread c.in_err-fill.field-0.0 o.so (transfers_on o.transfers c.in_err-fill.ensures.stopped) (λ e. c.in_err-fill.ensures.large (ap Err e)))

pub returns-then-branch-clause-refused : goal.returns-then-branch-clause-refused
returns-then-branch-clause-refused g c =
    let of = handed c.args.yard.now c.args.orders.now c.args.sequence.now c.args.report.now in
    let given = g.R.Source.remaining c.args.certificates.now in
    let o = c.loop-next.invariant in
    let shown = c.loop-next.shown.items in
    let front = c.loop-next.front.items in
    let more = map bay_as c.loop-next.more.now in
    let has = c.in_ok-fill.ensures.more c.if-branch.true in
    refused_with of given c.args.limit shown front c.loop-next.later.now more _ c.fill.new.self fault.LeftOver
    (none_more of given c.args.limit shown front c.loop-next.later.now more _ _ c.loop-next.unread c.fill.new.self o.so c.in_ok-fill.ensures.same)
    (λ text left is right. left_over (of text) shown front c.loop-next.later.now more left right
    (none_of c.loop-next.later.now c.in_default.ensures.cases) (ap (map bay_as) (tested c.loop-next.more.now c.if-not-is_empty.ensures)) (some_left _ c.fill.new.self left has is))

pub returns-then-not-counts_right-clause-refused : goal.returns-then-not-counts_right-clause-refused
returns-then-not-counts_right-clause-refused g c =
    let of = handed c.args.yard.now c.args.orders.now c.args.sequence.now c.args.report.now in
    let given = g.R.Source.remaining c.args.certificates.now in
    let o = c.loop-next.invariant in
    let shown = c.loop-next.shown.items in
    let front = c.loop-next.front.items in
    let more = map bay_as c.loop-next.more.now in
    let end = c.in_ok-fill.ensures.end c.if-branch.false in
    refused_with of given c.args.limit shown front c.loop-next.later.now more _ c.fill.new.self fault.Closing
    (none_more of given c.args.limit shown front c.loop-next.later.now more _ _ c.loop-next.unread c.fill.new.self o.so c.in_ok-fill.ensures.same)
    (λ text left is right.
    let one : right.report ≡ report_as c.in_ok-said.said = one_report c.args.report.now right.report (report_as c.in_ok-said.said) right.spelled c.in_ok-said.ensures.found in
    wrong_count (of text) shown front c.loop-next.later.now more left right
    (none_of c.loop-next.later.now c.in_default.ensures.cases) (ap (map bay_as) (tested c.loop-next.more.now c.if-not-is_empty.ensures)) (nothing_left _ c.fill.new.self left end.0 is)
    (λ counts.
    let t : c.counts_right.result ≡ true = c.counts_right.ensures.1 (subst CountsRight one counts) in
    let f : c.counts_right.result ≡ false = c.if-not-counts_right.true in cc))

pub returns-clause-accepted : goal.returns-clause-accepted
returns-clause-accepted g c =
    let of = handed c.args.yard.now c.args.orders.now c.args.sequence.now c.args.report.now in
    let given = g.R.Source.remaining c.args.certificates.now in
    let o = c.loop-next.invariant in
    let shown = c.loop-next.shown.items in
    let front = c.loop-next.front.items in
    let more = map bay_as c.loop-next.more.now in
    let end = c.in_ok-fill.ensures.end c.if-branch.false in
    let so = none_more of given c.args.limit shown front c.loop-next.later.now more _ _ c.loop-next.unread c.fill.new.self o.so c.in_ok-fill.ensures.same in
    let (left, is) = so.some in
    let old = so.right left is in
    let right = old.right in
    let nothing = nothing_left _ c.fill.new.self left end.0 is in
    let one : right.report ≡ report_as c.in_ok-said.said = one_report c.args.report.now right.report (report_as c.in_ok-said.said) right.spelled c.in_ok-said.ensures.found in (
      old.text,
      omega (arith, old.counted, ap length nothing),
      old.given_is,
      all_right (of old.text) shown front c.loop-next.later.now more left right
          (none_of c.loop-next.later.now c.in_default.ensures.cases) (ap (map bay_as) (tested c.loop-next.more.now c.if-not-is_empty.ensures)) nothing
          (subst CountsRight (sym one) (c.counts_right.ensures.0 c.if-not-counts_right.false)),
    )

pub returns-in_err-stated-clause-refused : goal.returns-in_err-stated-clause-refused
returns-in_err-stated-clause-refused g c =
    let (text, is) = given_some (g.R.Source.remaining c.args.certificates.now) in
    let p = err_from_is_err_and c.from_residual-in_err-stated.result c.from_residual-in_err-stated.ensures.1 in
    rw (p.1, p.2) (text, is, record { before = []; shown_is = c.requires.none_shown; first = inl refl })

pub returns-in_err-front-clause-refused : goal.returns-in_err-front-clause-refused
returns-in_err-front-clause-refused g c =
    let (text, is) = given_some (g.R.Source.remaining c.args.certificates.now) in
    let p = err_from_is_err_and c.from_residual-in_err-front.result c.from_residual-in_err-front.ensures.1 in
    rw (p.1, p.2) (text, is, record { before = []; shown_is = c.requires.none_shown; first = inl refl })

pub returns-in_err-verdict-clause-stopped : goal.returns-in_err-verdict-clause-stopped
returns-in_err-verdict-clause-stopped g c =
    let p = err_from_is_err_and c.from_residual-in_err-verdict.result c.from_residual-in_err-verdict.ensures.1 in
    let o = c.loop-next.invariant in rw (p.1, p.2) (transfers_on o.transfers c.in_err-verdict.ensures.stopped)

pub returns-in_err-fill-clause-stopped : goal.returns-in_err-fill-clause-stopped
returns-in_err-fill-clause-stopped g c =
    let p = err_from_is_err_and c.from_residual-in_err-fill.result c.from_residual-in_err-fill.ensures.1 in
    let o = c.loop-next.invariant in rw (p.1, p.2) (stop_fails c.in_err-fill.field-0.0 (transfers_on o.transfers c.in_err-fill.ensures.stopped))
