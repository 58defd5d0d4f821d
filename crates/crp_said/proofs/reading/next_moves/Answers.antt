use Rattle.std.proofs.Common.{◌≡◌, ◌∙◌, sym, ap, subst, arith, ◌++◌, ◌∷◌, [], length, length-append, append_assoc}
use Rattle.crp_said.specs.Spelled.{AreMoves}
use Rattle.crp_said.proofs.MoveBodies.{one_more}
use Rattle.crp_said.proofs.reading.next_moves.Goals as goal

pub loop-body-smaller : goal.loop-body-smaller
loop-body-smaller c =
    let t = c.in-Some.ensures.found in
    omega (arith, ap length t.1, length-append c.in-Some.body.now (10 ∷ c.in-Some.after.now))

pub loop-body-preserved : goal.loop-body-preserved
loop-body-preserved c =
    let t = c.in-Some.ensures.found in
    let grown : c.push.new.self.items ≡ (c.loop-body.lines.items ++ c.in-Some.body.now) ++ 10 ∷ [] =
    c.in_ok-push.ensures.items ∙ ap (λ l. l ++ 10 ∷ []) c.in_ok-extend_from_slice.ensures.items in
    record {
      moves = subst AreMoves (sym grown) (one_more c.loop-body.lines.items c.in-Some.body.now c.loop-body.invariant.moves t.0);
      text = c.loop-body.invariant.text ∙ ap (λ l. c.loop-body.lines.items ++ l) t.1 ∙ sym (append_assoc c.loop-body.lines.items c.in-Some.body.now (10 ∷ c.in-Some.after.now))
          ∙ sym (append_assoc (c.loop-body.lines.items ++ c.in-Some.body.now) (10 ∷ []) c.in-Some.after.now) ∙ ap (λ l. l ++ c.in-Some.after.now) (sym grown);
    }
