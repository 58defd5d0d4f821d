use Rattle.std.proofs.Common.{◌≡◌, ◌++◌, take, true, false, cond, sym, ap, ◌∙◌, [], ◌∷◌, ◌+◌}
use Rattle.std.specs.Str.{bytes_eq}
use Rattle.std.proofs.lemmas.Cmp.{nat_list_eq_equiv}
use Rattle.crp_follow.specs.Stated.{moves_of}
use Rattle.crp_notes.specs.Left.{is_take_of}
use Rattle.crp_notes.proofs.Leaving.{any-with, moves-more}
use Rattle.crp_notes.proofs.left.add_taken.Goals.{in-Take+in_ok-insert-in-Take, in-Shift}
use Rattle.crp_notes.proofs.left.add_taken.Goals as goal

pub loop-stated-preserved : goal.loop-stated-preserved
loop-stated-preserved c = λ before h.
    let moves = c.args.moves.now in
    let x = c.stated-item.result in
    let so_far = before ++ moves_of (take c.loop-stated.stated-index moves) in
    let e : before ++ moves_of (take (c.loop-stated.stated-index + 1) moves) ≡ so_far ++ x.said ∷ [] =
    moves-more before moves c.loop-stated.stated-index x c.loop-stated-test.true c.stated-item.is in
    elim c.match-stated.branch [
      | in-Take+in_ok-insert-in-Take w ↦ λ q.
          let key = w.bytes.result.now in
          let test : is_take_of q.now x.said ≡ bytes_eq key q.now = ap (is_take_of q.now) w.in-Take.is ∙ ap (bytes_eq q.now) (sym w.bytes.ensures) ∙ nat_list_eq_equiv.symm q.now key in
          rw (w.names-is, e) (
          w.in_ok-insert-in-Take.ensures.updates.0 q ∙ ap (cond (bytes_eq key q.now) true) (c.loop-stated.invariant before h q)
          ∙ sym (any-with (is_take_of q.now) so_far x.said (bytes_eq key q.now) test)
          )
      | in-Shift w ↦ λ q.
          let test : is_take_of q.now x.said ≡ false = ap (is_take_of q.now) w.in-Shift.is in
          rw (w.names-is, e) (c.loop-stated.invariant before h q ∙ sym (any-with (is_take_of q.now) so_far x.said false test))
    ]
