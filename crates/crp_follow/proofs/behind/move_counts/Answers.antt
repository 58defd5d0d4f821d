use Rattle.std.proofs.Common.{◌≡◌, ◌≤◌, ◌<◌, List, arith, length, get_or, ap, subst}
use Rattle.std.proofs.lemmas.List.{take_all, length-map}
use Rattle.crp_follow.specs.declared.followed.FollowedBay.{FollowedBay}
use Rattle.crp_follow.specs.declared.stated.StatedMove.{StatedMove}
use Rattle.crp_said.specs.declared.moves.SaidMove.{SaidMove}
use Rattle.crp_follow.specs.Stated.{moves_of}
use Rattle.crp_follow.specs.Behind.{Made}
use Rattle.crp_follow.proofs.FirstMoves.{counted_more}
use Rattle.crp_follow.proofs.behind.move_counts.Goals as goal

pub loop-bay-preserved : goal.loop-bay-preserved
loop-bay-preserved c =
    let b = c.bay-item.result in
    let moves = b.stated.moves.items in
    let all : length (moves_of moves) ≤ c.len.result = omega (arith, length-map moves (λ (m : StatedMove). m.said), c.len.ensures) in
    let one : List SaidMove → Made = λ l. record { bay = b.stated.bay; moves = l } in
    counted_more (λ b. record { bay = b.stated.bay; moves = moves_of b.stated.moves }) c.args.followed.now.bays.items c.loop-bay.bay-index b c.loop-bay.counts.items c.push.new.self.items c.len.result
    (subst (λ (l : List FollowedBay). c.loop-bay.bay-index < length l) c.deref-bay-items.ensures.value c.loop-bay-test.true)
    (subst (λ (l : List FollowedBay). b ≡ get_or l c.loop-bay.bay-index b) c.deref-bay-items.ensures.value c.bay-item.is) c.loop-bay.invariant c.in_ok-push.ensures.items (ap one (take_all c.len.result (moves_of moves) all))
