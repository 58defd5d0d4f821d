use Rattle.std.proofs.Common.{◌≡◌, ◌∙◌, ℕ, List, ap, sym, subst}
use Rattle.std.specs.Option.{option_or}
use Rattle.crp_said.specs.declared.moves.SaidMove.TheVariants.{Shift, Take}
use Rattle.crp_said.specs.MoveLines.{move_words}
use Rattle.crp_said.specs.Spelled.{CanBeStated}
use Rattle.crp_said.specs.Fields.{take_at}
use Rattle.crp_said.proofs.StatedMoves.{stated_takes, not_stated}
use Rattle.crp_said.proofs.move_reading.read_move.Goals as goal

pub returns-in-Some : goal.returns-in-Some
returns-in-Some c =
    let line = c.args.line.now in
    let P : List ℕ → Type 0 = λ name. CanBeStated (Shift c.in-Some.from c.in-Some.to name) × (line ≡ move_words (Shift c.in-Some.from c.in-Some.to name)) in
    subst P (sym c.in_ok-container.ensures) (stated_takes line (Shift c.in-Some.from c.in-Some.to c.in-Some.name.now) (ap (λ o. option_or o (take_at line)) c.in-Some.ensures))

pub returns-in_default-take_of : goal.returns-in_default-take_of
returns-in_default-take_of c =
    let line = c.args.line.now in
    not_stated line (ap (λ o. option_or o (take_at line)) c.in_default.ensures ∙ c.in_default-take_of.ensures)

pub returns : goal.returns
returns c =
    let line = c.args.line.now in
    let there = c.in-Some-take_of in
    let P : List ℕ → Type 0 = λ name. CanBeStated (Take there.from name) × (line ≡ move_words (Take there.from name)) in
    subst P (sym c.in_ok-container-2.ensures) (stated_takes line (Take there.from there.name.now) (ap (λ o. option_or o (take_at line)) c.in_default.ensures ∙ there.ensures))
