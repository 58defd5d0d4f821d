-- Moves that are made, and the lines of those so far and of those that follow.
use Rattle.std.proofs.Common.{◌≡◌, ℕ, ◌≤◌, ◌-◌, List, [], ◌∷◌, ◌++◌, length, Some, slice_get, drop, get_or, ◌+◌, ◌<◌, drop-cons, add-one, refl, sym, ap, ◌∙◌, subst, arith, append_assoc, append-nil}
use Rattle.std.proofs.lemmas.Option.{slice_get_within}
use Rattle.crp_plan.specs.declared.moves.Move.{Move}
use Rattle.crp_plan.specs.Bay.{Position, IsSound, Legal, Runs}
use Rattle.crp_plan.proofs.Sound.{sound_legal}
use Rattle.crp_plan.proofs.Determined.{legal_is}
use Rattle.crp_said.specs.MoveLines.{move_line, AreMoveLines}

-- the walk stands at a sound position, from which the rest of the moves runs, and the text is what the moves before it state
pub record AreLinesSoFar (names : List (List ℕ)) (first : Position) (moves : List Move) (here : Position) (rest : List Move) (text : List ℕ) : Type 0 where
  pub sound : IsSound here
  pub end : Position
  pub runs : Runs here rest end
  pub whole : (more : List ℕ) → AreMoveLines names here rest more → AreMoveLines names first moves (text ++ more)

pub more_written : (names : List (List ℕ)) (first here next : Position) (moves rest : List Move) (m : Move) (text new : List ℕ) → AreLinesSoFar names first moves here (m ∷ rest) text → Legal here m next →
    new ≡ text ++ move_line names here m → AreLinesSoFar names first moves next rest new
more_written names first here next moves rest m text new stated legal e =
    let same : stated.runs.0 ≡ next = legal_is here m stated.runs.0 next stated.runs.1 legal in
    let P : Position → Type 0 = λ u. Runs u rest stated.end in
    record {
      sound = sound_legal here m next stated.sound legal;
      end = stated.end;
      runs = subst P same stated.runs.2;
      whole = λ more tells.
          subst (AreMoveLines names first moves) (sym (ap (λ l. l ++ more) e ∙ append_assoc text (move_line names here m) more))
          (stated.whole (move_line names here m ++ more) (next, more, legal, tells, refl));
    }

pub all_written : (names : List (List ℕ)) (first here : Position) (moves rest : List Move) (text : List ℕ) → rest ≡ [] → AreLinesSoFar names first moves here rest text → AreMoveLines names first moves text
all_written names first here moves [] text e stated = subst (AreMoveLines names first moves) (append-nil text) (stated.whole [] refl)
all_written names first here moves (m ∷ rest) text e stated = cc

-- the rows of a legal move are there
pub row_there : (s : Position) (row : ℕ) (stack : List ℕ) → length s.stacks ≡ length s.heights → 1 ≤ row → slice_get s.stacks (row - 1) ≡ Some stack → row ≤ length s.heights
row_there s row stack same lo here = let lt = slice_get_within s.stacks (row - 1) stack here in omega arith

-- the next move and those behind it
pub next_written : (names : List (List ℕ)) (first here : Position) (moves : List Move) (i : ℕ) (d : Move) (text : List ℕ) → i < length moves → AreLinesSoFar names first moves here (drop i moves) text →
    AreLinesSoFar names first moves here (get_or moves i d ∷ drop (i + 1) moves) text
next_written names first here moves i d text lt stated =
    let split : drop i moves ≡ get_or moves i d ∷ drop (i + 1) moves = rw add-one (drop-cons moves i d lt) in
    subst (λ rest. AreLinesSoFar names first moves here rest text) split stated
