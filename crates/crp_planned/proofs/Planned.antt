-- What a run prints of a plan, the crane can do.
use Rattle.std.proofs.Common.{◌≡◌, ◌∙◌, ◌≤◌, ℕ, zero, suc, ◌-◌, List, [], ◌∷◌, ◌++◌, length, length-append, map, Some, slice_get, slice_set, slice_index, slice_index_or, refl, sym, ap, subst, arith}
use Rattle.std.specs.Prelude.{option_map, unwrap_or, count_by}
use Rattle.std.proofs.lemmas.Option.{slice_get-map, none-some, same_Some}
use Rattle.std.proofs.lemmas.List.{length-map, map-append}
use Rattle.std.proofs.lemmas.List.Sums.{sum_by-cons}
use Rattle.crp_plan.specs.declared.moves.Move.{Move}
use Rattle.crp_plan.specs.declared.moves.Move.TheVariants as move
use Rattle.crp_plan.specs.Bay.{Position, Legal, Runs, IsTaken as Takes, IsShifted as Shifts, relocations}
use Rattle.crp_plan.proofs.Lists.{one_if}
use Rattle.crp_yard.specs.Records.{height_of}
use Rattle.crp_yard.specs.Ranks.{name_of_rank, named}
use Rattle.crp_said.specs.declared.moves.SaidMove.{SaidMove}
use Rattle.crp_said.specs.MoveLines.{row_stack, top_of, move_said, move_line, AreMoveLines}
use Rattle.crp_follow.specs.Crane.{Stack, stack_of, with_stack, IsHighest, CanMake, Leads}
use Rattle.crp_follow.specs.Faults.{is_shift}
use Rattle.crp_follow.specs.Written.{lines_of}
use Rattle.crp_planned.specs.Planned.{AreSaid}

-- ---- lists

set_map : {A B : Type 0} (f : A → B) (xs : List A) (i : ℕ) (x : A) → slice_set (map f xs) i (f x) ≡ map f (slice_set xs i x)
set_map f [] i x = refl
set_map f (y ∷ ys) zero x = refl
set_map f (y ∷ ys) (suc i) x = ap (λ l. f y ∷ l) (set_map f ys i x)

last_of : (xs : List ℕ) (x : ℕ) → slice_index (xs ++ x ∷ []) (length (xs ++ x ∷ []) - 1) ≡ x
last_of xs x = let n : length (xs ++ x ∷ []) - 1 ≡ length xs = omega (arith, length-append xs (x ∷ [])) in rw n (at xs)
  where
    at : (xs : List ℕ) → slice_index (xs ++ x ∷ []) (length xs) ≡ x
    at [] = refl
    at (y ∷ ys) = at ys

height_at : (heights : List ℕ) (i height : ℕ) → slice_get heights i ≡ Some height → slice_index_or heights i 0 ≡ height
height_at [] i height e = absurd (none-some height e)
height_at (h ∷ heights) zero height e = same_Some h height e
height_at (h ∷ heights) (suc i) height e = height_at heights i height e

-- ---- rows of ranks, read as names

row_named : (names stacks : List (List ℕ)) (row : ℕ) (stack : List ℕ) → 1 ≤ row → slice_get stacks (row - 1) ≡ Some stack
    → stack_of (named names stacks) row ≡ Some (map (name_of_rank names) stack)
row_named names stacks zero stack counts e = absurd (omega (arith, counts))
row_named names stacks (suc i) stack counts e =
    let k : suc i - 1 ≡ i = omega arith in
    slice_get-map (λ s. map (name_of_rank names) s) stacks i ∙ ap (option_map (λ s. map (name_of_rank names) s)) (rw k at e)

put_named : (names stacks : List (List ℕ)) (row : ℕ) (stack : List ℕ) → 1 ≤ row
    → with_stack (named names stacks) row (map (name_of_rank names) stack) ≡ named names (slice_set stacks (row - 1) stack)
put_named names stacks zero stack counts = absurd (omega (arith, counts))
put_named names stacks (suc i) stack counts = let k : suc i - 1 ≡ i = omega arith in rw k (set_map (λ s. map (name_of_rank names) s) stacks i stack)

stack_here : (s : Position) (row : ℕ) (stack : List ℕ) → slice_get s.stacks (row - 1) ≡ Some stack → row_stack s row ≡ stack
stack_here s row stack e = ap (λ o. unwrap_or o []) e

-- the container at the top of a row is the highest
highest_named : (names : List (List ℕ)) (s : Position) (row : ℕ) (rest : List ℕ) (top : ℕ) → 1 ≤ row → slice_get s.stacks (row - 1) ≡ Some (rest ++ top ∷ [])
    → IsHighest (named names s.stacks) (record { row = row; tier = length (row_stack s row) }) (name_of_rank names top) (map (name_of_rank names) rest)
highest_named names s row rest top counts e = record {
  stack = row_named names s.stacks row (rest ++ top ∷ []) counts e ∙ ap Some (map-append (name_of_rank names) rest (top ∷ []));
  tier = let here : length (row_stack s row) ≡ length (rest ++ top ∷ []) = ap length (stack_here s row (rest ++ top ∷ []) e) in
      let same : length (map (name_of_rank names) rest) ≡ length rest = length-map rest (name_of_rank names) in
      omega (arith, here, same, length-append rest (top ∷ []));
}

-- ---- moves

taken_named : (names : List (List ℕ)) (s t : Position) (row : ℕ) → Takes s row t → CanMake s.heights (named names s.stacks) (move_said names s (move.Take row)) (named names t.stacks)
taken_named names s t row is = record {
  beneath = map (name_of_rank names) is.rest;
  highest = highest_named names s row is.rest s.next is.row_counts is.stack;
  after_is = ap (λ (p : Position). named names p.stacks) is.after ∙ sym (put_named names s.stacks row is.rest is.row_counts);
}

shifted_named : (names : List (List ℕ)) (s t : Position) (from to : ℕ) → Shifts s from to t
    → CanMake s.heights (named names s.stacks) (move_said names s (move.Shift from to)) (named names t.stacks)
shifted_named names s t from to is =
    let N : List ℕ → Stack = map (name_of_rank names) in
    let here = stack_here s from (is.rest ++ is.moved ∷ []) is.stack in
    let top : top_of (row_stack s from) ≡ is.moved = ap top_of here ∙ last_of is.rest is.moved in
    let onto_here = stack_here s to is.onto is.target in
    let set_down : N (is.onto ++ is.moved ∷ []) ≡ N is.onto ++ name_of_rank names (top_of (row_stack s from)) ∷ [] =
    map-append (name_of_rank names) is.onto (is.moved ∷ []) ∙ ap (λ x. N is.onto ++ name_of_rank names x ∷ []) (sym top) in
    record {
      beneath = N is.rest;
      highest = rw top (highest_named names s from is.rest is.moved is.from_counts is.stack);
      another = is.another;
      onto = N is.onto;
      free = record {
        stack = row_named names s.stacks to is.onto is.to_counts is.target;
        tier = let a : length (row_stack s to) ≡ length is.onto = ap length onto_here in
            let b : length (N is.onto) ≡ length is.onto = length-map is.onto (name_of_rank names) in omega (arith, a, b);
        within = let a : length (row_stack s to) ≡ length is.onto = ap length onto_here in
            let h : height_of s.heights to ≡ is.height = height_at s.heights (to - 1) is.height is.limit in
            let room = is.room in
            omega (arith, a, h, room);
      };
      after_is = ap (λ (p : Position). named names p.stacks) is.after
          ∙ sym (put_named names (slice_set s.stacks (from - 1) is.rest) to (is.onto ++ is.moved ∷ []) is.to_counts)
          ∙ ap (λ rows. with_stack rows to (N (is.onto ++ is.moved ∷ []))) (sym (put_named names s.stacks from is.rest is.from_counts))
          ∙ ap (λ stack. with_stack (with_stack (named names s.stacks) from (N is.rest)) to stack) set_down;
    }

legal_named : (names : List (List ℕ)) (s t : Position) (m : Move) → Legal s m t → CanMake s.heights (named names s.stacks) (move_said names s m) (named names t.stacks)
legal_named names s t (move.Take row) is = taken_named names s t row is
legal_named names s t (move.Shift from to) is = shifted_named names s t from to is

same_heights : (s t : Position) (m : Move) → Legal s m t → t.heights ≡ s.heights
same_heights s t (move.Take row) is = ap (λ (p : Position). p.heights) is.after
same_heights s t (move.Shift from to) is = ap (λ (p : Position). p.heights) is.after

-- ---- the lines of moves

-- lines that are those of these moves, which lead on from here: what they say, and where they lead
pub record AreLinesOf (names : List (List ℕ)) (s : Position) (moves : List Move) (text : List ℕ) : Type 0 where
  pub said : List SaidMove
  pub end : Position
  pub are : AreSaid names s moves said end
  pub runs : Runs s moves end
  pub is : text ≡ lines_of said

pub lines_said : (names : List (List ℕ)) (s : Position) (moves : List Move) (text : List ℕ) → AreMoveLines names s moves text → AreLinesOf names s moves text
lines_said names s [] text is = record { said = []; end = s; are = refl; runs = refl; is = is }
lines_said names s (m ∷ moves) text (t, rest, legal, stated, is) =
    let more = lines_said names t moves rest stated in
    let x = move_said names s m in
    record {
      said = x ∷ more.said;
      end = more.end;
      are = (refl, (t, legal, more.are));
      runs = (t, legal, more.runs);
      is = is ∙ ap (λ l. move_line names s m ++ l) more.is;
    }

-- as many of the moves are said to be relocations as there are
pub shifts_said : (names : List (List ℕ)) (s t : Position) (moves : List Move) (said : List SaidMove) → AreSaid names s moves said t → count_by is_shift said ≡ relocations moves
shifts_said names s t [] [] is = refl
shifts_said names s t [] (x ∷ said) is = absurd is
shifts_said names s t (m ∷ moves) [] is = absurd is
shifts_said names s t (move.Take row ∷ moves) (x ∷ said) (e, (u, legal, more)) =
    let one : one_if (is_shift x) ≡ 0 = ap (λ y. one_if (is_shift y)) e in
    omega (arith, one, shifts_said names u t moves said more, sum_by-cons (λ y. one_if (is_shift y)) x said)
shifts_said names s t (move.Shift from to ∷ moves) (x ∷ said) (e, (u, legal, more)) =
    let one : one_if (is_shift x) ≡ 1 = ap (λ y. one_if (is_shift y)) e in
    omega (arith, one, shifts_said names u t moves said more, sum_by-cons (λ y. one_if (is_shift y)) x said)

-- ---- where they lead

pub plan_leads : (names : List (List ℕ)) (s t : Position) (moves : List Move) (said : List SaidMove) → AreSaid names s moves said t
    → Leads s.heights (named names s.stacks) said (named names t.stacks)
plan_leads names s t [] [] e = ap (λ (p : Position). named names p.stacks) e
plan_leads names s t [] (x ∷ said) is = absurd is
plan_leads names s t (m ∷ moves) [] is = absurd is
plan_leads names s t (m ∷ moves) (x ∷ said) (e, (u, legal, more)) =
    let rest = plan_leads names u t moves said more in (
      named names u.stacks,
      subst (λ (y : SaidMove). CanMake s.heights (named names s.stacks) y (named names u.stacks)) (sym e) (legal_named names s u m legal),
      subst (λ h. Leads h (named names u.stacks) said (named names t.stacks)) (same_heights s u m legal) rest,
    )
