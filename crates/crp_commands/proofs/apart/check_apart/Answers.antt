use Rattle.std.proofs.Common.{◌≡◌, ◌∙◌, ◌++◌, ◌-◌, ◌∷◌, All, IfSome, List, ℕ, length, take, drop, ap, sym, subst, arith, rules, length-take, length-drop, take-append-drop}
use Rattle.std.proofs.lemmas.List.{take_all}
use Rattle.std.proofs.lemmas.List.Elements.{All-tail}
use Rattle.std.proofs.lemmas.Result.{err_from_is_err_and, on_ok_weaker, IfErr-weaker}
use Rattle.crp_commands.specs.Apart.{IsFoundIn}
use Rattle.crp_commands.specs.Checks.{ChecksPiece}
use Rattle.crp_commands.proofs.Checked.{checks_same, still_checking, stops_after}
use Rattle.crp_commands.proofs.SideBySide.{checks_from, checks_nothing, checks_on, front_stops}
use Rattle.crp_commands.proofs.apart.check_apart.Given.{Over}
use Rattle.crp_commands.proofs.apart.check_apart.Goals as goal

pub returns-in_err-check_piece-clause-fault : goal.returns-in_err-check_piece-clause-fault
returns-in_err-check_piece-clause-fault g c =
    let p = err_from_is_err_and c.from_residual.result c.from_residual.ensures.1 in
    rw (p.1, p.2) (front_stops c.args.block.now c.if-has_begun.at _ _ c.args.files.now c.args.number.now _ _ c.in_err-check_piece.field-0.0 c.in_err-check_piece.ensures.fault)

pub loop-found-init : goal.loop-found-init
loop-found-init g c =
    let block : List ℕ = c.args.block.now in
    let first = c.if-has_begun.at in
    let same : c.into_iter-found-iterator.result.rest.items ≡ c.found_by-parts.result.items = search rules in
    let step = c.in_ok-check_piece.ensures in
    record {
      parts = subst (λ l. All (λ found. IfSome found (IsFoundIn block)) l) (sym same) c.found_by-parts.ensures;
      behind = omega arith;
      within = search rules;
      room = omega arith;
      done = checks_nothing block first _ c.check_piece.new.files c.check_piece.new.number;
      reading = still_checking (take first block) _ _ _ _ _ _ c.requires.reading step.on;
      counted = omega arith;
      count = omega arith;
      more = omega arith;
      passed = step.passed.1;
    }

pub take_over-requires-clause-room : goal.take_over-requires-clause-room
take_over-requires-clause-room g c =
    let inv = c.loop-found.invariant in
    let step = c.in_ok-check_piece.ensures in
    omega (arith, c.requires.room, inv.room, inv.behind, inv.within, step.bound, length-take c.if-has_begun.at c.args.block.now)

pub returns-in_err-at-clause-fault : goal.returns-in_err-at-clause-fault
returns-in_err-at-clause-fault g c =
    let p = err_from_is_err_and c.from_residual-in_err-at.result c.from_residual-in_err-at.ensures.1 in
    let block : List ℕ = c.args.block.now in
    let first = c.if-has_begun.at in
    let at = c.loop-found.at in
    let inv = c.loop-found.invariant in
    let begin' = c.in_ok-check_piece.ensures in
    let down = checks_on block first at _ _ _ _ _ _ _ _ _ inv.behind begin'.on inv.done in
    rw (p.1, p.2)
    (stops_after (take at block) (drop at block) block _ _ _ c.args.files.now c.loop-found.files c.args.number.now c.loop-found.number _ _ _ c.in_err-at.field-0.0 (take-append-drop at block) (omega (arith, begin'.count, inv.count))
    c.in_err-at.ensures.count down c.in_err-at.ensures.fault)

pub loop-found-preserved : goal.loop-found-preserved
loop-found-preserved g c =
    let block : List ℕ = c.args.block.now in
    let first = c.if-has_begun.at in
    let at = c.loop-found.at in
    let inv = c.loop-found.invariant in
    let step = c.in_ok-at.ensures in
    let bound = step.bound in
    let next : c.loop-found.found-iterator.rest.items ≡ c.in-Some.found ∷ c.next.new.self.rest.items = c.in-Some.ensures.steps.0 in
    record {
      parts = All-tail (λ found. IfSome found (IsFoundIn block)) c.in-Some.found c.next.new.self.rest.items (subst (λ l. All (λ found. IfSome found (IsFoundIn block)) l) next inv.parts);
      behind = omega (arith, inv.behind, bound.0);
      within = bound.1;
      room = omega (arith, inv.room, bound.0, bound.2);
      done = checks_from block first at c.in_ok-at.at _ _ _ _ _ _ _ _ _ inv.behind bound.0 inv.done step.on;
      reading = still_checking (take (c.in_ok-at.at - at) (drop at block)) _ _ _ _ _ _ inv.reading step.on;
      counted = omega (arith, inv.counted, step.counted);
      count = omega (arith, inv.count, step.count);
      more = omega (arith, inv.more, step.passed);
      passed = step.passed.1;
    }

pub check_piece-requires-2-clause-room : goal.check_piece-requires-2-clause-room
check_piece-requires-2-clause-room g c =
    let inv = c.loop-found.invariant in
    let step = c.in_ok-check_piece.ensures in
    let at = c.loop-found.at in
    omega (arith, c.requires.room, inv.room, inv.behind, inv.within, step.bound, length-take c.if-has_begun.at c.args.block.now, length-take (length c.args.block.now - at) (drop at c.args.block.now), length-drop at c.args.block.now)

pub returns-clause-bound : goal.returns-clause-bound
returns-clause-bound g c =
    let inv = c.loop-found.invariant in
    let step = c.in_ok-check_piece.ensures in
    let at = c.loop-found.at in
    let block : List ℕ = c.args.block.now in
    on_ok_weaker c.check_piece-2.result
    (λ more. omega (arith, more, inv.room, inv.behind, inv.within, step.bound, length-take c.if-has_begun.at block, length-take (length block - at) (drop at block), length-drop at block)) c.check_piece-2.ensures.bound

-- what was checked when the last piece comes
down : (g : Over) (c : goal.After-check_piece-2 g) → ChecksPiece (take c.loop-found.at c.args.block.now) (g.W.Sink.contents c.args.writer.now) c.args.files.now c.args.number.now (g.W.Sink.contents c.loop-found.writer) c.loop-found.files c.loop-found.number
down g c =
    let inv = c.loop-found.invariant in
    let begin' = c.in_ok-check_piece.ensures in
    checks_on c.args.block.now c.if-has_begun.at c.loop-found.at _ _ _ _ _ _ _ _ _ inv.behind begin'.on inv.done

pub returns-clause-on : goal.returns-clause-on
returns-clause-on g c =
    let block : List ℕ = c.args.block.now in
    let at = c.loop-found.at in
    let inv = c.loop-found.invariant in
    on_ok_weaker c.check_piece-2.result
    (λ more.
    checks_same (take (length block) block) block _ _ _ _ _ _ (take_all (length block) block (omega arith)) (checks_on block at (length block) _ _ _ _ _ _ _ _ _ inv.within (down g c) more)) c.check_piece-2.ensures.on

pub returns-clause-fault : goal.returns-clause-fault
returns-clause-fault g c =
    let block : List ℕ = c.args.block.now in
    let at = c.loop-found.at in
    let inv = c.loop-found.invariant in
    let begin' = c.in_ok-check_piece.ensures in
    let rest : List ℕ = take (length block - at) (drop at block) in
    let whole : take at block ++ rest ≡ block = ap (λ l. take at block ++ l) (take_all (length block - at) (drop at block) (omega (arith, length-drop at block))) ∙ take-append-drop at block in
    IfErr-weaker c.check_piece-2.result _ _
    (λ why tells.
    stops_after (take at block) rest block _ _ _ c.args.files.now c.loop-found.files c.args.number.now c.loop-found.number _ _ _ why whole (omega (arith, begin'.count, inv.count)) c.check_piece-2.ensures.count (down g c) tells)
    c.check_piece-2.ensures.fault
