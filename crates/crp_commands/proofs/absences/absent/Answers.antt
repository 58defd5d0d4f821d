use Rattle.std.proofs.Common.{arith, refl}
use Rattle.std.proofs.lemmas.Result.{err_from_is_err_and}
use Rattle.crp_plan.proofs.Interruptions.{has_failed}
use Rattle.crp_report.specs.Runs.{SourceSeen, source_seen}
use Rattle.crp_commands.proofs.ListedAbsent.{is_listed}
use Rattle.crp_commands.proofs.Replayed.{keeps_same}
use Rattle.crp_commands.proofs.absences.absent.Goals as goal

pub returns-in_err-made : goal.returns-in_err-made
returns-in_err-made g c =
    let p = err_from_is_err_and c.from_residual-in_err-made.result c.from_residual-in_err-made.ensures.1 in
    rw (p.1, p.2) (keeps_same _, omega (arith, c.in_ok-input.ensures.counted, c.in_ok-input.ensures.passed))

pub returns-in_err-text : goal.returns-in_err-text
returns-in_err-text g c =
    let p = err_from_is_err_and c.from_residual-in_err-text.result c.from_residual-in_err-text.ensures.1 in
    rw (p.1, p.2) (keeps_same _, omega (arith, c.in_ok-input.ensures.counted, c.in_ok-input.ensures.passed))

pub returns-in_err-write_all : goal.returns-in_err-write_all
returns-in_err-write_all g c =
    let p = err_from_is_err_and c.from_residual-in_err-write_all.result c.from_residual-in_err-write_all.ensures.1 in
    let input = c.in_ok-input.input in
    let yard : SourceSeen = source_seen g.Y.Source.remaining g.Y.Source.failures c.args.yard.now c.input_from.new.yard in
    let movins : SourceSeen = source_seen g.M.Source.remaining g.M.Source.failures c.args.movins.now c.input_from.new.movins in
    let listed = is_listed (record { input = c.args.settings.now; separator = c.args.separator }) yard movins input.yard input.orders input.sequence c.list.result.now
    c.in_ok-made.made.items c.in_ok-text.text.items c.deref.result.now c.in_ok-input.ensures.read c.list.ensures.value c.in_ok-made.ensures c.in_ok-text.ensures c.deref.ensures.value in
    rw (p.1, p.2) (
      (has_failed c.in_err-write_all.ensures.gave_up, (c.deref.result.now, listed, c.in_err-write_all.ensures.part)),
      omega (arith, c.in_ok-input.ensures.counted, c.in_err-write_all.ensures.gave_up),
    )

pub returns : goal.returns
returns g c =
    let input = c.in_ok-input.input in
    let yard : SourceSeen = source_seen g.Y.Source.remaining g.Y.Source.failures c.args.yard.now c.input_from.new.yard in
    let movins : SourceSeen = source_seen g.M.Source.remaining g.M.Source.failures c.args.movins.now c.input_from.new.movins in
    let listed = is_listed (record { input = c.args.settings.now; separator = c.args.separator }) yard movins input.yard input.orders input.sequence c.list.result.now
    c.in_ok-made.made.items c.in_ok-text.text.items c.deref.result.now c.in_ok-input.ensures.read c.list.ensures.value c.in_ok-made.ensures c.in_ok-text.ensures c.deref.ensures.value in
    (refl, (c.deref.result.now, listed, c.in_ok-write_all.ensures.all), omega (arith, c.in_ok-input.ensures.counted, c.in_ok-write_all.ensures.done))
