-- The moves of a plan, as they are said, are of the restricted rule by their lines alone.
use Rattle.std.proofs.Common.{◌≡◌, ◌∙◌, ℕ, suc, ◌-◌, ◌≤◌, ◌==◌, true, cond, List, [], ◌∷◌, ◌++◌, Option, Some, None, slice_get, slice_set, refl, sym, ap, subst, arith}
use Rattle.std.proofs.lemmas.Bool.{eq-eqb}
use Rattle.crp_plan.specs.declared.moves.Move.{Move}
use Rattle.crp_plan.specs.declared.moves.Move.TheVariants.{Shift, Take}
use Rattle.crp_plan.specs.Bay.{Position, IsSound, IsTaken, IsShifted, IsFinished}
use Rattle.crp_plan.proofs.Lists.{times, times_held, get_put_same, get_put_other}
use Rattle.crp_plan.proofs.Sound.{apart, sound_legal}
use Rattle.crp_plan.proofs.Determined.{same_row, times_top, times_under}
use Rattle.crp_said.specs.declared.moves.SaidMove.{SaidMove}
use Rattle.crp_said.specs.MoveLines.{move_said}
use Rattle.crp_follow.specs.declared.stated.StatedMove.{StatedMove}
use Rattle.crp_follow.specs.Stated.{moves_of}
use Rattle.crp_follow.specs.Rule.{next_row, is_row, is_of_rule, first_outside}
use Rattle.crp_planned.specs.Planned.{AreSaid}

-- the next container to leave stands in this row, and is to leave
record IsIn (s : Position) (row : ℕ) : Type 0 where
  unfinished : s.next ≤ s.ordered
  row_counts : 1 ≤ row
  stack : List ℕ
  there : slice_get s.stacks (row - 1) ≡ Some stack
  stands : 1 ≤ times s.next stack

same : (s : Position) (row other : ℕ) (stack : List ℕ) → IsSound s → IsIn s row → 1 ≤ other → slice_get s.stacks (other - 1) ≡ Some stack → 1 ≤ times s.next stack → row ≡ other
same s row other stack sound here counts there stands =
    let e : row - 1 ≡ other - 1 = same_row s.next s.stacks (row - 1) (other - 1) here.stack stack (sound.once s.next) here.there there here.stands stands in
    let low : 1 ≤ row = here.row_counts in omega arith

-- it stands there still when one that stands on it was put elsewhere
still : (s u : Position) (row to : ℕ) → IsShifted s row to u → IsIn u row
still s u row to k =
    let stacks : List (List ℕ) = slice_set s.stacks (row - 1) k.rest in
    let put : List ℕ = k.onto ++ k.moved ∷ [] in
    subst (λ (p : Position). IsIn p row) (sym k.after) (record {
      unfinished = k.unfinished;
      row_counts = k.from_counts;
      stack = k.rest;
      there = get_put_other stacks (to - 1) (row - 1) put (λ e. apart row to k.from_counts k.to_counts k.another (sym e)) ∙ get_put_same s.stacks (row - 1) (k.rest ++ k.moved ∷ []) k.rest k.stack;
      stands = times_held s.next k.rest k.buried;
    })

-- from which the next take takes
next_taken : (names : List (List ℕ)) (s t : Position) (row : ℕ) (moves : List Move) (said : List SaidMove) → IsSound s → IsIn s row → IsFinished t → AreSaid names s moves said t → next_row said ≡ Some row
next_taken names s t row [] [] sound here ends are =
    let low : s.next ≤ s.ordered = here.unfinished in
    let end : s.next ≡ suc s.ordered = subst IsFinished (sym are) ends in
    absurd (omega arith)
next_taken names s t row [] (x ∷ said) sound here ends are = absurd are
next_taken names s t row (m ∷ moves) [] sound here ends are = absurd are
next_taken names s t row (Take other ∷ moves) (x ∷ said) sound here ends (is, (u, legal, later)) =
    let e : row ≡ other = same s row other (legal.rest ++ s.next ∷ []) sound here legal.row_counts legal.stack (times_top s.next legal.rest) in
    ap (λ (y : SaidMove). next_row (y ∷ said)) is ∙ ap Some (sym e)
next_taken names s t row (Shift from to ∷ moves) (x ∷ said) sound here ends (is, (u, legal, later)) =
    let e : row ≡ from = same s row from (legal.rest ++ legal.moved ∷ []) sound here legal.from_counts legal.stack (times_under s.next legal.moved legal.rest legal.buried) in
    ap (λ (y : SaidMove). next_row (y ∷ said)) is
    ∙ next_taken names u t row moves said (sound_legal s (Shift from to) u sound legal) (subst (IsIn u) (sym e) (still s u from to legal)) ends later

-- so no move of a plan is outside the rule
pub none_outside : (names : List (List ℕ)) (s t : Position) (moves : List Move) (stated : List StatedMove) → IsSound s → IsFinished t → AreSaid names s moves (moves_of stated) t → first_outside stated ≡ None
none_outside names s t [] [] sound ends are = refl
none_outside names s t [] (x ∷ stated) sound ends are = absurd are
none_outside names s t (m ∷ moves) [] sound ends are = absurd are
none_outside names s t (Take row ∷ moves) (x ∷ stated) sound ends (is, (u, legal, later)) =
    ap (λ (y : SaidMove). cond (is_of_rule y (moves_of stated)) (first_outside stated) (Some x.line)) is
    ∙ none_outside names u t moves stated (sound_legal s (Take row) u sound legal) ends later
none_outside names s t (Shift from to ∷ moves) (x ∷ stated) sound ends (is, (u, legal, later)) =
    let after : IsSound u = sound_legal s (Shift from to) u sound legal in
    let next : next_row (moves_of stated) ≡ Some from = next_taken names u t from moves (moves_of stated) after (still s u from to legal) ends later in
    let test : is_row (next_row (moves_of stated)) from ≡ true = ap (λ (o : Option ℕ). is_row o from) next ∙ eq-eqb from from refl in
    ap (λ (y : SaidMove). cond (is_of_rule y (moves_of stated)) (first_outside stated) (Some x.line)) is
    ∙ ap (λ t. cond t (first_outside stated) (Some x.line)) test
    ∙ none_outside names u t moves stated after ends later
