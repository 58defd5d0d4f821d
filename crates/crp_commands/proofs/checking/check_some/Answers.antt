use Rattle.std.proofs.Common.{◌≡◌, ◌++◌, ◌∷◌, [], List, ℕ, length, take, arith, sym, subst}
use Rattle.std.proofs.lemmas.List.{take_all}
use Rattle.std.proofs.lemmas.Result.{err_from_is_err_and}
use Rattle.crp_checker.specs.FedFiles.{HasReadFile, LeadsOn}
use Rattle.crp_commands.proofs.Checked.{ended_within, none_more, one_more, line_stops, refusal_stops}
use Rattle.crp_commands.proofs.checking.check_some.Goals as goal

pub returns-in_err-write_verdict-in-Ok-Ended-clause-fault : goal.returns-in_err-write_verdict-in-Ok-Ended-clause-fault
returns-in_err-write_verdict-in-Ok-Ended-clause-fault g c =
    let p = err_from_is_err_and c.from_residual.result c.from_residual.ensures.1 in
    let piece : List ℕ = c.args.piece.now in
    let ended = c.in-Ok-Ended in
    rw (p.1, p.2) (λ held file verdicts has.
    line_stops held _ _ _ _ file piece verdicts (ended.bay, ended.verdict) c.args.files.now c.args.number.now c.in_err-write_verdict-in-Ok-Ended.field-0.0 has
    (ended_within file piece ended.taken (verdicts ++ (ended.bay, ended.verdict) ∷ []) c.feed.new.self (subst (LeadsOn file piece verdicts c.feed.new.self) ended.field-0-is (ended.ensures.on file verdicts has.read)).2) c.in_err-write_verdict-in-Ok-Ended.ensures.fault)

pub returns-in-Ok-Open-clause-on : goal.returns-in-Ok-Open-clause-on
returns-in-Ok-Open-clause-on g c held file verdicts has =
    let piece : List ℕ = c.args.piece.now in
    let all : take (length piece) piece ≡ piece = take_all (length piece) piece (omega arith) in (
      verdicts,
      none_more held _ file (take (length piece) piece) verdicts c.args.files.now c.feed.new.self c.args.number.now has
          (subst (λ (l : List ℕ). HasReadFile (file ++ l) verdicts c.feed.new.self) (sym all) (subst (LeadsOn file piece verdicts c.feed.new.self) c.in-Ok-Open.field-0-is (c.in-Ok-Open.ensures.on file verdicts has.read))),
    )

pub returns-in_ok-write_verdict-in-Ok-Ended-clause-bound : goal.returns-in_ok-write_verdict-in-Ok-Ended-clause-bound
returns-in_ok-write_verdict-in-Ok-Ended-clause-bound g c =
    let checking = c.requires.reading in
    let has = checking.3 in
    let ended = subst (LeadsOn checking.1 c.args.piece.now checking.2 c.feed.new.self) c.in-Ok-Ended.field-0-is (c.in-Ok-Ended.ensures.on checking.1 checking.2 has.read) in
    let least = ended.0 in
    (ended.0, ended.1, omega arith)

pub returns-in_ok-write_verdict-in-Ok-Ended-clause-on : goal.returns-in_ok-write_verdict-in-Ok-Ended-clause-on
returns-in_ok-write_verdict-in-Ok-Ended-clause-on g c held file verdicts has =
    let ended = c.in-Ok-Ended in (
      verdicts ++ (ended.bay, ended.verdict) ∷ [],
      one_more held _ _ file (take ended.taken c.args.piece.now) verdicts (ended.bay, ended.verdict) c.args.files.now c.feed.new.self c.args.number.now has
          (subst (LeadsOn file c.args.piece.now verdicts c.feed.new.self) ended.field-0-is (ended.ensures.on file verdicts has.read)).2
          c.in_ok-write_verdict-in-Ok-Ended.ensures.all,
    )

pub returns-in-Err-clause-fault : goal.returns-in-Err-clause-fault
returns-in-Err-clause-fault g c held file verdicts has =
    refusal_stops held _ _ _ file c.args.piece.now verdicts c.args.files.now c.args.number.now c.in-Err.refused c.refused_at.result has c.refused_at.ensures c.in-Err.ensures.refused
