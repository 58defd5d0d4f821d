use Rattle.std.proofs.Common.{◌≡◌, ◌∙◌, ℕ, ◌+◌, ◌-◌, ◌≤◌, ◌++◌, List, length, length-drop, take, drop, refl, sym, ap, arith, rules, take-append-drop}
use Rattle.std.proofs.lemmas.List.{drop-drop, take_rest, take_all}
use Rattle.std.proofs.lemmas.Result.{err_from_is_err_and}
use Rattle.std.proofs.Math.Seq.{take-add}
use Rattle.crp_commands.proofs.Checked.{checks_none, checks_same, checks_both, stops_after, still_checking}
use Rattle.crp_commands.proofs.checking.check_piece.Goals as goal

pub loop-rest-init : goal.loop-rest-init
loop-rest-init g c = record {
  done = (0, omega arith, refl, omega arith, checks_none _ c.args.files.now c.args.number.now);
  reading = c.requires.reading;
  counted = omega arith;
  count = omega arith;
  more = omega arith;
  passed = c.requires.passed;
}

pub returns-in_err-n-clause-fault : goal.returns-in_err-n-clause-fault
returns-in_err-n-clause-fault g c =
    let p = err_from_is_err_and c.from_residual.result c.from_residual.ensures.1 in
    let piece : List ℕ = c.args.piece.now in
    let rest : List ℕ = c.loop-rest.rest.now in
    let inv = c.loop-rest.invariant in
    let done = inv.done in
    let whole : take done.0 piece ++ rest ≡ piece = ap (λ l. take done.0 piece ++ l) done.2 ∙ take-append-drop done.0 piece in
    rw (p.1, p.2)
    (stops_after (take done.0 piece) rest piece _ _ _ c.args.files.now c.loop-rest.files c.args.number.now c.loop-rest.number _ _ _ c.in_err-n.field-0.0 whole inv.count c.in_err-n.ensures.count done.4 c.in_err-n.ensures.fault)

pub loop-rest-preserved : goal.loop-rest-preserved
loop-rest-preserved g c =
    let piece : List ℕ = c.args.piece.now in
    let rest : List ℕ = c.loop-rest.rest.now in
    let inv = c.loop-rest.invariant in
    let done = inv.done in
    let n = c.in_ok-n.n in
    let step = c.in_ok-n.ensures in
    let bound = step.bound in
    let left : take (length rest - n) (drop n rest) ≡ drop (done.0 + n) piece = take_rest rest n ∙ ap (drop n) done.2 ∙ drop-drop n done.0 piece in
    let taken : take done.0 piece ++ take n rest ≡ take (done.0 + n) piece = ap (λ l. take done.0 piece ++ take n l) done.2 ∙ sym (take-add done.0 n piece) in
    let within : done.0 + n ≤ length piece = omega (arith, done.1, bound.1, ap length done.2, length-drop done.0 piece) in
    record {
      done = (done.0 + n, within, left, omega (arith, done.3, bound.2), checks_both (take done.0 piece) (take n rest) (take (done.0 + n) piece) _ _ _ _ _ _ _ _ _ taken done.4 step.on);
      reading = still_checking (take n rest) _ _ _ _ _ _ inv.reading step.on;
      counted = omega (arith, inv.counted, step.counted);
      count = omega (arith, inv.count, step.count);
      more = omega (arith, inv.more, step.passed);
      passed = step.passed.1;
    }

pub returns-clause-on : goal.returns-clause-on
returns-clause-on g c =
    let piece : List ℕ = c.args.piece.now in
    let done = c.loop-rest.invariant.done in
    let empty : length c.loop-rest.rest.now ≡ 0 = search rules in
    let all : take done.0 piece ≡ piece = take_all done.0 piece (omega (arith, empty, ap length done.2, length-drop done.0 piece)) in
    checks_same (take done.0 piece) piece _ _ _ _ _ _ all done.4
