use Rattle.std.proofs.Common.{◌≡◌, ◌∙◌, ◌<◌, List, length, take, get_or, ap, subst}
use Rattle.crp_said.specs.declared.moves.SaidMove.{SaidMove}
use Rattle.crp_follow.specs.declared.followed.FollowedBay.{FollowedBay}
use Rattle.crp_follow.specs.declared.stated.StatedMove.{StatedMove}
use Rattle.crp_follow.specs.Stated.{moves_of}
use Rattle.crp_follow.specs.Behind.{Made}
use Rattle.crp_follow.proofs.FirstMoves.{none_counted, counted_more}
use Rattle.crp_loading.specs.Loaded.{moves_up_to}
use Rattle.crp_loading.specs.Turns.{ShipOrder}
use Rattle.crp_loading.proofs.loaded.counts_up_to.Goals as goal

pub loop-bay-init : goal.loop-bay-init
loop-bay-init c =
    none_counted (λ b. record { bay = b.stated.bay; moves = moves_up_to c.args.sequence.now c.args.loaded (moves_of b.stated.moves) }) c.new-counts.result.items c.args.followed.now.bays.items
    c.new-counts.ensures.items

pub loop-bay-preserved : goal.loop-bay-preserved
loop-bay-preserved c =
    let b = c.bay-item.result in
    let one : List SaidMove → Made = λ l. record { bay = b.stated.bay; moves = l } in
    let so_many : take c.count_up_to.result (moves_of b.stated.moves.items) ≡ moves_up_to c.args.sequence.now c.args.loaded (moves_of b.stated.moves.items) =
    subst (λ (l : List StatedMove). take c.count_up_to.result (moves_of l) ≡ moves_up_to c.args.sequence.now c.args.loaded (moves_of l)) c.deref.ensures.value
    (c.count_up_to.ensures ∙ ap (λ (s : ShipOrder). moves_up_to s.sequence c.args.loaded (moves_of c.deref.result.now)) c.in_ok-ship.ensures) in
    counted_more (λ b. record { bay = b.stated.bay; moves = moves_up_to c.args.sequence.now c.args.loaded (moves_of b.stated.moves) }) c.args.followed.now.bays.items c.loop-bay.bay-index b
    c.loop-bay.counts.items c.push.new.self.items c.count_up_to.result (subst (λ (l : List FollowedBay). c.loop-bay.bay-index < length l) c.deref-bay-items.ensures.value c.loop-bay-test.true)
    (subst (λ (l : List FollowedBay). b ≡ get_or l c.loop-bay.bay-index b) c.deref-bay-items.ensures.value c.bay-item.is) c.loop-bay.invariant c.in_ok-push.ensures.items (ap one so_many)
