use Rattle.std.proofs.Common.{rules}
use Rattle.std.proofs.lemmas.Result.{err_from_is_err_and}
use Rattle.crp_plan.proofs.Interruptions.{has_failed}
use Rattle.crp_commands.proofs.Checked.{read_stops, goes_nowhere, piece_stops, limit_stops, goes_on}
use Rattle.crp_commands.proofs.checking.check_next.Goals as goal

pub returns-in_err-n-clause-fault : goal.returns-in_err-n-clause-fault
returns-in_err-n-clause-fault g c =
    let p = err_from_is_err_and c.from_residual.result c.from_residual.ensures.1 in
    let failed = g.W.Sink.failures c.args.writer.now in
    rw (p.1, p.2) (read_stops _ _ c.args.files.now c.args.number.now c.args.left.now _ _ failed failed (has_failed c.in_err-n.ensures.gave_up))

pub returns-then-n-eq0-clause-on : goal.returns-then-n-eq0-clause-on
returns-then-n-eq0-clause-on g c = goes_nowhere _ _ _ c.args.files.now c.args.number.now c.args.left.now c.in_ok-n.n _ c.if-n-eq0.true c.in_ok-n.ensures.got

pub returns-in_err-check_piece-clause-fault : goal.returns-in_err-check_piece-clause-fault
returns-in_err-check_piece-clause-fault g c =
    let p = err_from_is_err_and c.from_residual-in_err-check_piece.result c.from_residual-in_err-check_piece.ensures.1 in
    let piece = c.read_some.new.piece in
    let before = g.R.Source.failures c.args.reader.now in
    let after = g.R.Source.failures c.read_some.new.reader in
    rw (p.1, p.2)
    (piece_stops _ _ _ _ c.args.files.now c.args.number.now c.args.left.now c.min-fed.result c.in_ok-n.n before after _ _ piece c.in_err-check_piece.field-0.0 (search rules) (search rules) c.in_ok-n.ensures.got
    c.in_err-check_piece.ensures.fault)

pub returns-then-fed-n-clause-fault : goal.returns-then-fed-n-clause-fault
returns-then-fed-n-clause-fault g c =
    let before = g.R.Source.failures c.args.reader.now in
    let after = g.R.Source.failures c.read_some.new.reader in
    let first = g.W.Sink.failures c.args.writer.now in
    let last = g.W.Sink.failures c.check_piece.new.writer in
    limit_stops _ _ _ _ c.args.files.now c.check_piece.new.files c.args.number.now c.check_piece.new.number c.args.left.now c.min-fed.result c.in_ok-n.n before after first last c.read_some.new.piece c.if-fed-n.true
    (search rules) c.in_ok-n.ensures.bound c.in_ok-n.ensures.got c.in_ok-check_piece.ensures.on

pub returns-clause-on : goal.returns-clause-on
returns-clause-on g c =
    goes_on _ _ _ _ c.args.files.now c.check_piece.new.files c.args.number.now c.check_piece.new.number c.args.left.now _ c.min-fed.result c.in_ok-n.n c.read_some.new.piece (search rules) (search rules)
    c.in_ok-n.ensures.bound c.in_ok-n.ensures.got c.in_ok-check_piece.ensures.on
