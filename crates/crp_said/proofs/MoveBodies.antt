-- The lines of moves: each is bytes without LF, and then LF.
use Rattle.std.proofs.Common.{◌≡◌, ℕ, zero, suc, ◌-◌, List, [], ◌∷◌, ◌++◌, length, slice_get, refl, sym, ap, ◌∙◌, arith, append_assoc, append-nil}
use Rattle.std.specs.Prelude.{codes, flat_map, unwrap_or}
use Rattle.std.specs.List.{AllByRecursion}
use Rattle.std.specs.Fmt.{decimal}
use Rattle.crp_plan.specs.declared.moves.Move.{Move}
use Rattle.crp_plan.specs.declared.moves.Move.TheVariants.{Shift, Take}
use Rattle.crp_plan.specs.Bay.{Position}
use Rattle.crp_cert.proofs.Joined.{all_both}
use Rattle.crp_yard.specs.Ranks.{name_of_rank}
use Rattle.crp_said.specs.MoveLines.{row_stack, top_of, move_words, move_said, move_line, AreMoveLines}
use Rattle.crp_said.specs.Spelled.{IsMoveBody, ended, AreMoves}
use Rattle.crp_said.proofs.Bytes.{IsPlain, plain_both, plain_words, plain_number}

-- a move in words
abbrev pub body : List (List ℕ) → Position → Move → List ℕ
body names s m = move_words (move_said names s m)

pub body_then : (names : List (List ℕ)) (s : Position) (m : Move) (rest : List ℕ) → move_line names s m ++ rest ≡ body names s m ++ 10 ∷ rest
body_then names s m rest = append_assoc (body names s m) (10 ∷ []) rest

-- ---- no LF stands in it, where the names have none

pub plain_name : (names : List (List ℕ)) (rank : ℕ) → AllByRecursion IsPlain names → IsPlain (name_of_rank names rank)
plain_name names rank plain = at names (rank - 1) plain
  where
    at : (names : List (List ℕ)) (i : ℕ) → AllByRecursion IsPlain names → IsPlain (unwrap_or (slice_get names i) [])
    at [] i plain = tt
    at (name ∷ names) zero plain = plain.0
    at (name ∷ names) (suc i) plain = at names i plain.1

-- a place behind its space
abbrev pub spot : ℕ → ℕ → List ℕ
spot row tier = decimal row ++ 46 ∷ decimal tier

plain_spot : (row tier : ℕ) → IsPlain (spot row tier)
plain_spot row tier = plain_both (decimal row) (46 ∷ decimal tier) (plain_number row) ((λ e. omega (arith, e)), plain_number tier)

plain_behind : (bytes : List ℕ) → IsPlain bytes → IsPlain (32 ∷ bytes)
plain_behind bytes plain = ((λ e. omega (arith, e)), plain)

pub plain_body : (names : List (List ℕ)) (s : Position) (m : Move) → AllByRecursion IsPlain names → IsPlain (body names s m)
plain_body names s (Take row) plain =
    let tier = length (row_stack s row) in
    plain_both (codes "take ") (spot row tier ++ (32 ∷ name_of_rank names s.next)) (plain_words (codes "take ") refl)
    (plain_both (spot row tier) (32 ∷ name_of_rank names s.next) (plain_spot row tier) (plain_behind (name_of_rank names s.next) (plain_name names s.next plain)))
plain_body names s (Shift from to) plain =
    let tier = length (row_stack s from) in
    let other = suc (length (row_stack s to)) in
    let rank = top_of (row_stack s from) in
    let name : List ℕ = name_of_rank names rank in
    plain_both (codes "shift ") (spot from tier ++ (32 ∷ (spot to other ++ (32 ∷ name)))) (plain_words (codes "shift ") refl)
    (plain_both (spot from tier) (32 ∷ (spot to other ++ (32 ∷ name))) (plain_spot from tier)
    (plain_behind (spot to other ++ (32 ∷ name)) (plain_both (spot to other) (32 ∷ name) (plain_spot to other) (plain_behind name (plain_name names rank plain)))))

-- ---- the lines of moves are lines that do not begin with the letter b

move_body : (names : List (List ℕ)) (s : Position) (m : Move) → AllByRecursion IsPlain names → IsMoveBody (body names s m)
move_body names s (Shift from to) plain = record { first = 115; rest = _; is = refl; other = λ e. omega (arith, e); one_line = plain_body names s (Shift from to) plain }
move_body names s (Take row) plain = record { first = 116; rest = _; is = refl; other = λ e. omega (arith, e); one_line = plain_body names s (Take row) plain }

pub are_moves : (names : List (List ℕ)) (s : Position) (moves : List Move) (text : List ℕ) → AllByRecursion IsPlain names → AreMoveLines names s moves text → AreMoves text
are_moves names s [] text plain stated = record { bodies = []; each = tt; is = stated }
are_moves names s (m ∷ moves) text plain (t, rest, legal, stated, is) =
    let more = are_moves names t moves rest plain stated in
    record {
      bodies = body names s m ∷ more.bodies;
      each = (move_body names s m plain, more.each);
      is = is ∙ ap (λ l. move_line names s m ++ l) more.is;
    }

-- no lines, and one line more
pub no_moves : AreMoves []
no_moves = record { bodies = []; each = tt; is = refl }

pub one_more : (text body : List ℕ) → AreMoves text → IsMoveBody body → AreMoves ((text ++ body) ++ 10 ∷ [])
one_more text body are is = record {
  bodies = are.bodies ++ body ∷ [];
  each = all_both IsMoveBody are.bodies (body ∷ []) are.each (is, tt);
  is = append_assoc text body (10 ∷ []) ∙ ap (λ l. l ++ ended body) are.is ∙ sym (joined are.bodies);
}
  where
    joined : (bodies : List (List ℕ)) → flat_map ended (bodies ++ body ∷ []) ≡ flat_map ended bodies ++ ended body
    joined [] = append-nil (ended body)
    joined (first ∷ bodies) = ap (λ l. ended first ++ l) (joined bodies) ∙ sym (append_assoc (ended first) (flat_map ended bodies) (ended body))
