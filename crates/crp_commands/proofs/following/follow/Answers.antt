use Rattle.std.proofs.Common.{◌≡◌, arith, inl, inr, map, refl}
use Rattle.std.proofs.lemmas.Result.{err_from_is_err_and}
use Rattle.crp_follow.specs.Views.{bay_followed}
use Rattle.crp_report.specs.Runs.{SinkSeen, sink_seen}
use Rattle.crp_commands.specs.Follow.{chosen_in}
use Rattle.crp_commands.proofs.Noted.{noted_both, noted_first}
use Rattle.crp_commands.proofs.Replayed.{keeps_same}
use Rattle.crp_commands.proofs.Traced.{asked_failures, asked_nothing, given_as, noted_so, ship_given, texts_of_call, unasked}
use Rattle.crp_commands.proofs.following.follow.Goals as goal

pub returns-in_err-input-clause-ended : goal.returns-in_err-input-clause-ended
returns-in_err-input-clause-ended g c =
    let p = err_from_is_err_and c.from_residual.result c.from_residual.ensures.1 in
    let page : SinkSeen = sink_seen g.P.Sink.contents g.P.Sink.failures c.args.files.now.page c.args.files.now.page in
    let left : SinkSeen = sink_seen g.A.Sink.contents g.A.Sink.failures c.args.files.now.list c.args.files.now.list in
    let few = asked_failures c.args.settings.now.page page in
    let few_left = asked_failures c.args.settings.now.list left in
    rw (p.1, p.2) (
      inl (inl (c.in_err-input.field-0.0, refl, c.in_err-input.ensures.refused), (asked_nothing _ page (keeps_same _), asked_nothing _ left (keeps_same _), keeps_same _)),
      omega (arith, few, few_left, c.in_err-input.ensures.counted, c.in_err-input.ensures.passed),
    )

pub returns-in_err-text-clause-ended : goal.returns-in_err-text-clause-ended
returns-in_err-text-clause-ended g c =
    let p = err_from_is_err_and c.from_residual-in_err-text.result c.from_residual-in_err-text.ensures.1 in
    let page : SinkSeen = sink_seen g.P.Sink.contents g.P.Sink.failures c.args.files.now.page c.args.files.now.page in
    let left : SinkSeen = sink_seen g.A.Sink.contents g.A.Sink.failures c.args.files.now.list c.args.files.now.list in
    let few = asked_failures c.args.settings.now.page page in
    let few_left = asked_failures c.args.settings.now.list left in
    rw (p.1, p.2) (
      inl (
        inr ((c.in_ok-input.input.yard, c.in_ok-input.input.ship, c.in_ok-input.ensures.read), c.in_err-text.ensures.refused),
        (asked_nothing _ page (keeps_same _), asked_nothing _ left (keeps_same _), keeps_same _),
      ),
      omega (
        arith,
        few,
        few_left,
        c.in_ok-input.ensures.counted,
        c.in_err-text.ensures.counted,
        c.in_err-text.ensures.count,
        c.in_err-text.ensures.passed,
      ),
    )

pub returns-in_err-whole-clause-ended : goal.returns-in_err-whole-clause-ended
returns-in_err-whole-clause-ended g c =
    let p = err_from_is_err_and c.from_residual-in_err-whole.result c.from_residual-in_err-whole.ensures.1 in
    let page : SinkSeen = sink_seen g.P.Sink.contents g.P.Sink.failures c.args.files.now.page c.args.files.now.page in
    let left : SinkSeen = sink_seen g.A.Sink.contents g.A.Sink.failures c.args.files.now.list c.args.files.now.list in
    let few = asked_failures c.args.settings.now.page page in
    let few_left = asked_failures c.args.settings.now.list left in
    rw (p.1, p.2) (
      inl (
        inr ((c.in_ok-input.input.yard, c.in_ok-input.input.ship, c.in_ok-input.ensures.read), tt),
        (asked_nothing _ page (keeps_same _), asked_nothing _ left (keeps_same _), keeps_same _),
      ),
      omega (
        arith,
        few,
        few_left,
        c.in_ok-input.ensures.counted,
        c.in_ok-text.ensures.counted,
        c.in_ok-text.ensures.count,
        c.in_ok-text.ensures.passed,
      ),
    )

pub returns-in_err-whole-clause-noted : goal.returns-in_err-whole-clause-noted
returns-in_err-whole-clause-noted g c = noted_first _ _ _ _ _ _ c.report_in.ensures.noted

pub returns-in_err-followed-clause-noted : goal.returns-in_err-followed-clause-noted
returns-in_err-followed-clause-noted g c = noted_first _ _ _ _ _ _ c.report_in.ensures.noted

pub returns-in_err-followed-clause-ended : goal.returns-in_err-followed-clause-ended
returns-in_err-followed-clause-ended g c =
    let p = err_from_is_err_and c.from_residual-in_err-followed.result c.from_residual-in_err-followed.ensures.1 in
    let page : SinkSeen = sink_seen g.P.Sink.contents g.P.Sink.failures c.args.files.now.page c.args.files.now.page in
    let left : SinkSeen = sink_seen g.A.Sink.contents g.A.Sink.failures c.args.files.now.list c.args.files.now.list in
    let given = given_as c.args.settings.now.partial (g.R.Source.remaining c.args.report.now) c.in_ok-text.text.items c.in_ok-whole.whole.text.items c.deref.result.now c.in_ok-whole.whole.bays
    c.deref.ensures.value c.in_ok-text.ensures.read c.in_ok-whole.ensures.report in
    let few = asked_failures c.args.settings.now.page page in
    let few_left = asked_failures c.args.settings.now.list left in
    rw (p.1, p.2) (
      inr (
        c.in_ok-input.input.yard,
        c.in_ok-input.input.ship,
        c.deref.result.now,
        record { input = c.in_ok-input.ensures.read; report_given = given },
        inl (c.in_err-followed.ensures.refused, (asked_nothing _ page (keeps_same _), asked_nothing _ left (keeps_same _), keeps_same _)),
      ),
      omega (
        arith,
        few,
        few_left,
        c.in_ok-input.ensures.counted,
        c.in_ok-text.ensures.counted,
        c.in_ok-text.ensures.count,
        c.in_ok-text.ensures.passed,
      ),
    )

pub returns-in_err-made-clause-noted : goal.returns-in_err-made-clause-noted
returns-in_err-made-clause-noted g c =
    noted_both _ _ _ _ _ _ _ _ c.report_in.ensures.noted
    (noted_so c.in_ok-input.input.ship c.args.settings.now.ship _ (ship_given _ _ c.args.settings.now.ship _ c.in_ok-input.input.yard c.in_ok-input.input.ship c.in_ok-input.ensures.read)
    c.note_ship.ensures)

pub returns-in_err-made-clause-ended : goal.returns-in_err-made-clause-ended
returns-in_err-made-clause-ended g c =
    let p = err_from_is_err_and c.from_residual-in_err-made.result c.from_residual-in_err-made.ensures.1 in
    let page : SinkSeen = sink_seen g.P.Sink.contents g.P.Sink.failures c.args.files.now.page c.args.files.now.page in
    let left : SinkSeen = sink_seen g.A.Sink.contents g.A.Sink.failures c.args.files.now.list c.args.files.now.list in
    let given = given_as c.args.settings.now.partial (g.R.Source.remaining c.args.report.now) c.in_ok-text.text.items c.in_ok-whole.whole.text.items c.deref.result.now c.in_ok-whole.whole.bays
    c.deref.ensures.value c.in_ok-text.ensures.read c.in_ok-whole.ensures.report in
    let few = asked_failures c.args.settings.now.page page in
    let few_left = asked_failures c.args.settings.now.list left in
    rw (p.1, p.2) (
      inr (
        c.in_ok-input.input.yard,
        c.in_ok-input.input.ship,
        c.deref.result.now,
        record { input = c.in_ok-input.ensures.read; report_given = given },
        inl (tt, (asked_nothing _ page (keeps_same _), asked_nothing _ left (keeps_same _), keeps_same _)),
      ),
      omega (
        arith,
        few,
        few_left,
        c.in_ok-input.ensures.counted,
        c.in_ok-text.ensures.counted,
        c.in_ok-text.ensures.count,
        c.in_ok-text.ensures.passed,
      ),
    )

pub returns-in_err-write_texts-clause-ended : goal.returns-in_err-write_texts-clause-ended
returns-in_err-write_texts-clause-ended g c =
    let p = err_from_is_err_and c.from_residual-in_err-write_texts.result c.from_residual-in_err-write_texts.ensures.1 in
    let page : SinkSeen = sink_seen g.P.Sink.contents g.P.Sink.failures c.args.files.now.page c.write_texts.new.files.page in
    let left : SinkSeen = sink_seen g.A.Sink.contents g.A.Sink.failures c.args.files.now.list c.write_texts.new.files.list in
    let given = given_as c.args.settings.now.partial (g.R.Source.remaining c.args.report.now) c.in_ok-text.text.items c.in_ok-whole.whole.text.items c.deref.result.now c.in_ok-whole.whole.bays
    c.deref.ensures.value c.in_ok-text.ensures.read c.in_ok-whole.ensures.report in
    let few = asked_failures c.args.settings.now.page page in
    let few_left = asked_failures c.args.settings.now.list left in
    let whole = c.in_ok-followed.followed in
    let made = c.in_ok-made.made in
    rw (p.1, p.2) (
      inr (
        c.in_ok-input.input.yard,
        c.in_ok-input.input.ship,
        c.deref.result.now,
        record { input = c.in_ok-input.ensures.read; report_given = given },
        inr (
          _,
          texts_of_call (chosen_in c.args.settings.now) c.in_ok-input.input.ship c.in_ok-input.input.yard c.deref.result.now whole.numbers made.followed.numbers (map bay_followed whole.bays.items) (map bay_followed made.followed.bays.items)
              _ c.args.settings.now.list left (c.in_ok-followed.ensures.followed, c.in_ok-followed.ensures.faultless) c.in_ok-followed.ensures.stated c.in_ok-made.ensures.numbers c.in_ok-made.ensures.bays refl
              c.in_ok-made.ensures.list c.in_ok-made.ensures.table,
          c.in_err-write_texts.ensures.ended,
        ),
      ),
      omega (
        arith,
        few,
        few_left,
        c.in_ok-input.ensures.counted,
        c.in_ok-text.ensures.counted,
        c.in_ok-text.ensures.count,
        c.in_err-write_texts.ensures.counted,
        c.in_err-write_texts.ensures.count,
        c.in_err-write_texts.ensures.list_count,
        c.in_err-write_texts.ensures.out_count,
        c.in_err-write_texts.ensures.passed,
      ),
    )

pub returns-in_err-write_texts-clause-noted : goal.returns-in_err-write_texts-clause-noted
returns-in_err-write_texts-clause-noted g c =
    noted_both _ _ _ _ _ _ _ _ c.report_in.ensures.noted
    (noted_so c.in_ok-input.input.ship c.args.settings.now.ship _ (ship_given _ _ c.args.settings.now.ship _ c.in_ok-input.input.yard c.in_ok-input.input.ship c.in_ok-input.ensures.read)
    c.note_ship.ensures)

pub returns-clause-ended : goal.returns-clause-ended
returns-clause-ended g c =
    let page : SinkSeen = sink_seen g.P.Sink.contents g.P.Sink.failures c.args.files.now.page c.write_texts.new.files.page in
    let left : SinkSeen = sink_seen g.A.Sink.contents g.A.Sink.failures c.args.files.now.list c.write_texts.new.files.list in
    let given = given_as c.args.settings.now.partial (g.R.Source.remaining c.args.report.now) c.in_ok-text.text.items c.in_ok-whole.whole.text.items c.deref.result.now c.in_ok-whole.whole.bays
    c.deref.ensures.value c.in_ok-text.ensures.read c.in_ok-whole.ensures.report in
    let few = asked_failures c.args.settings.now.page page in
    let few_left = asked_failures c.args.settings.now.list left in
    let whole = c.in_ok-followed.followed in
    let made = c.in_ok-made.made in (
      refl,
      (
        c.in_ok-input.input.yard,
        c.in_ok-input.input.ship,
        c.deref.result.now,
        record { input = c.in_ok-input.ensures.read; report_given = given },
        (
          _,
          texts_of_call (chosen_in c.args.settings.now) c.in_ok-input.input.ship c.in_ok-input.input.yard c.deref.result.now whole.numbers made.followed.numbers (map bay_followed whole.bays.items) (map bay_followed made.followed.bays.items)
              _ c.args.settings.now.list left (c.in_ok-followed.ensures.followed, c.in_ok-followed.ensures.faultless) c.in_ok-followed.ensures.stated c.in_ok-made.ensures.numbers c.in_ok-made.ensures.bays refl
              c.in_ok-made.ensures.list c.in_ok-made.ensures.table,
          c.in_ok-write_texts.ensures.ended,
        ),
      ),
      omega (
        arith,
        few,
        few_left,
        c.in_ok-input.ensures.counted,
        c.in_ok-text.ensures.counted,
        c.in_ok-text.ensures.count,
        c.in_ok-write_texts.ensures.counted,
        c.in_ok-write_texts.ensures.count,
        c.in_ok-write_texts.ensures.list_count,
        c.in_ok-write_texts.ensures.out_count,
        c.in_ok-write_texts.ensures.passed,
      ),
    )

pub returns-clause-noted : goal.returns-clause-noted
returns-clause-noted g c =
    noted_both _ _ _ _ _ _ _ _ c.report_in.ensures.noted
    (noted_so c.in_ok-input.input.ship c.args.settings.now.ship _ (ship_given _ _ c.args.settings.now.ship _ c.in_ok-input.input.yard c.in_ok-input.input.ship c.in_ok-input.ensures.read)
    c.note_ship.ensures)

pub made_of-requires-clause-followed : goal.made_of-requires-clause-followed
made_of-requires-clause-followed g c = (c.in_ok-followed.ensures.followed.stated, c.in_ok-followed.ensures.followed.followed)

pub returns-in_err-made-clause-alone : goal.returns-in_err-made-clause-alone
returns-in_err-made-clause-alone g c = unasked c.args.settings.now.page (c.args.files.now.page ≡ c.args.files.now.page) refl

pub returns-in_err-made-clause-list_alone : goal.returns-in_err-made-clause-list_alone
returns-in_err-made-clause-list_alone g c = unasked c.args.settings.now.list (c.args.files.now.list ≡ c.args.files.now.list) refl
