use Rattle.std.proofs.Common.{List, subst}
use Rattle.crp_said.specs.declared.moves.SaidMove.{SaidMove}
use Rattle.crp_json.specs.Adding.{Adds}
use Rattle.crp_json.specs.Objects.{bay_object}
use Rattle.crp_json.proofs.Chained.{after, closed}
use Rattle.crp_json.proofs.objects.push_bay_object.Goals as goal

pub returns : goal.returns
returns c =
    let start = c.args.out.now in
    let stated = c.args.bay.now in
    let opened = c.in_ok-begin_object.ensures in
    let a = after start c.begin_object.new.self c.push_bay.new.out _ _ (opened.room.0, opened.ok) c.in_ok-push_bay.ensures in
    let b = after start c.push_bay.new.out c.push_said.new.out _ _ a c.in_ok-push_said.ensures in
    let d = after start c.push_said.new.out c.push_moves.new.out _ _ b c.in_ok-push_moves.ensures in
    subst (λ (moves : List SaidMove). Adds c.end_object.result start c.end_object.new.self (bay_object stated.bay stated.said moves)) c.deref.ensures.value
    (closed c.end_object.result start c.push_moves.new.out c.end_object.new.self _ _ d c.end_object.ensures)
