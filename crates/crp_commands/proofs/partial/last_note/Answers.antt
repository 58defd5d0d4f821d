use Rattle.std.proofs.Common.{◌∙◌, ◌++◌, List, ℕ, [], ap}
use Rattle.std.specs.Prelude.{codes}
use Rattle.crp_commands.proofs.Replayed.{five_pieces}
use Rattle.crp_commands.proofs.partial.last_note.Goals as goal

pub returns : goal.returns
returns c =
    five_pieces [] _ _ _ _ _ (codes "crp: note: ") _ _ _ _
    (c.in_ok-extend_from_slice.ensures.items ∙ ap (λ (l : List ℕ). l ++ codes "crp: note: ") c.new-text.ensures.items)
    c.in_ok-extend_from_slice-2.ensures.items
    c.in_ok-extend_from_slice-3.ensures.items
    c.in_ok-push_decimal.ensures
    (c.in_ok-extend_from_slice-4.ensures.items ∙ ap (λ (l : List ℕ). c.push_decimal.new.text.items ++ l) c.standing_words.ensures)
