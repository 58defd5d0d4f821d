use Rattle.std.proofs.Common.{◌∙◌, ◌++◌, List, ℕ, ap}
use Rattle.std.specs.Prelude.{codes}
use Rattle.crp_jobs.proofs.Shown.{three_more}
use Rattle.crp_jobs.proofs.move_words.push_there.Goals as goal

pub returns : goal.returns
returns c =
    three_more _ (codes "; ") c.args.container.now (codes " stands there") _ _ _
    c.in_ok-extend_from_slice.ensures.items
    (c.in_ok-extend_from_slice-2.ensures.items ∙ ap (λ (t : List ℕ). c.extend_from_slice.new.self.items ++ t) c.bytes.ensures)
    c.in_ok-extend_from_slice-3.ensures.items
