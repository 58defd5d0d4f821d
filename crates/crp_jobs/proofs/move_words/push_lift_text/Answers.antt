use Rattle.std.proofs.Common.{◌∙◌, ◌++◌, List, ℕ, Option, ap, length}
use Rattle.std.specs.Prelude.{codes}
use Rattle.crp_follow.specs.Crane.{stack_of}
use Rattle.crp_jobs.specs.Moves.{lift_words, place_words}
use Rattle.crp_jobs.proofs.Shown.{three_more}
use Rattle.crp_jobs.proofs.move_words.push_lift_text.Goals as goal

pub returns : goal.returns
returns c =
    let row = c.args.from.row in
    let rows = c.args.rows.now in
    three_more _ (codes " lifts from ") (place_words row c.args.from.tier) (lift_words (length rows) row (stack_of rows row)) _ _ _
    c.in_ok-extend_from_slice.ensures.items
    (c.in_ok-push_place.ensures ∙ ap (λ (t : ℕ). c.extend_from_slice.new.self.items ++ place_words row t) c.from.ensures)
    (c.in_ok-push_lift.ensures ∙ ap (λ (o : Option (List (List ℕ))). c.push_place.new.words.items ++ lift_words (length rows) row o) c.stack_of.ensures)
