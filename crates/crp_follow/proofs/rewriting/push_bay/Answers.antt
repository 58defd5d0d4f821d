use Rattle.std.proofs.Common.{◌∙◌, ◌++◌, refl, ap, append_assoc}
use Rattle.crp_said.specs.Said.{BaySaid, bay_line}
use Rattle.crp_follow.specs.Stated.{moves_of}
use Rattle.crp_follow.specs.Written.{lines_of}
use Rattle.crp_follow.proofs.rewriting.push_bay.Goals as goal

pub returns : goal.returns
returns c =
    let b = c.args.bay.now in
    let said = c.said_anew-said.result in
    let lines = lines_of (moves_of b.moves.items) in
    let s : BaySaid = record { bay = b.bay; said = said; lines = lines } in (
      s,
      record { bay = refl; said = c.said_anew-said.ensures; lines = refl },
      c.is_settled.ensures,
      c.in_ok-push_moves.ensures ∙ ap (λ l. c.push_bay_line.new.text.items ++ lines_of (moves_of l)) c.deref.ensures.value ∙ ap (λ l. l ++ lines) c.in_ok-push_bay_line.ensures ∙ append_assoc c.args.text.now.items (bay_line b.bay said) lines,
    )
