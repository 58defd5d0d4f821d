-- Lines of a plan are not wrong.
use Rattle.std.proofs.Common.{refl, ◌≡◌, ◌≢◌, ℕ, suc, ◌<◌, ◌≤◌, ◌^◌, List, [], ◌∷◌, ◌++◌, length, sym, ap, ◌∙◌, subst, arith, append_assoc}
use Rattle.std.specs.Prelude.{codes}
use Rattle.std.specs.Fmt.{decimal}
use Rattle.std.proofs.lemmas.Fmt.{decimal_injective}
use Rattle.std.proofs.lemmas.List.{append_cancel_left}
use Rattle.crp_plan.specs.declared.moves.Move.{Move}
use Rattle.crp_plan.specs.declared.moves.Move.TheVariants.{Shift, Take}
use Rattle.crp_plan.specs.Bay.{Position, IsProblem, start, IsSound, Legal, Runs}
use Rattle.crp_order.specs.BayProblems.{ranked}
use Rattle.crp_audit.specs.Headline.{Handed, Reported, problem_in, PrintsPlan}
use Rattle.crp_audit.specs.Faults.{IsWrongMove}
use Rattle.crp_plan.proofs.Determined.{no_shift_beside_take, one_take, one_source, legal_is}
use Rattle.crp_plan.proofs.Sound.{sound_start, sound_legal}
use Rattle.crp_plan.proofs.Steps.{same_rows}
use Rattle.crp_yard.specs.Ranks.{name_of_rank}
use Rattle.crp_said.specs.MoveLines.{row_stack, top_of, move_line, AreMoveLines}
use Rattle.crp_said.proofs.Bytes.{IsDigit, rest_same, cut_once, are_digits}
use Rattle.crp_said.proofs.LinesSoFar.{row_there}
use Rattle.crp_said.proofs.MoveBodies.{spot, body, body_then}

-- a relocation's line, piece by piece
shift_then : (names : List (List ℕ)) (s : Position) (from to : ℕ) (z : List ℕ) → body names s (Shift from to) ++ z
    ≡ codes "shift " ++ (spot from (length (row_stack s from)) ++ (32 ∷ (decimal to ++ (46 ∷ (decimal (suc (length (row_stack s to))) ++ ((32 ∷ name_of_rank names (top_of (row_stack s from))) ++ z))))))
shift_then names s from to z =
    let a : List ℕ = spot from (length (row_stack s from)) in
    let tier : List ℕ = decimal (suc (length (row_stack s to))) in
    let name : List ℕ = 32 ∷ name_of_rank names (top_of (row_stack s from)) in
    ap (λ l. codes "shift " ++ l) (append_assoc a (32 ∷ ((decimal to ++ 46 ∷ tier) ++ name)) z
    ∙ ap (λ l. a ++ 32 ∷ l) (append_assoc (decimal to ++ 46 ∷ tier) name z ∙ append_assoc (decimal to) (46 ∷ tier) (name ++ z)))

no_point : IsDigit 46 → ⊥
no_point is = let low = is.0 in omega (arith, low)

-- a line is that of one legal move at most
same_move : (names : List (List ℕ)) (s : Position) (m n : Move) (t u : Position) (x y : List ℕ) → IsSound s → length s.heights ≤ 12 → Legal s m t → Legal s n u
    → move_line names s m ++ x ≡ move_line names s n ++ y → m ≡ n
same_move names s (Take row) (Take other) t u x y sound few a b e = ap Take (one_take s row other t u sound a b)
same_move names s (Take row) (Shift from to) t u x y sound few a b e = absurd (no_shift_beside_take s row from to t u sound a b)
same_move names s (Shift from to) (Take row) t u x y sound few a b e = absurd (no_shift_beside_take s row from to u t sound b a)
same_move names s (Shift from to) (Shift other row) t u x y sound few a b e =
    let one : from ≡ other = one_source s from to other row t u sound a b in
    let P : ℕ → Type 0 = λ k. move_line names s (Shift from to) ++ x ≡ move_line names s (Shift k row) ++ y in
    let here : move_line names s (Shift from to) ++ x ≡ move_line names s (Shift from row) ++ y = subst P (sym one) e in
    let low : (k : ℕ) → k ≤ length s.heights → k < 2 ^ 64 = λ k le. omega (arith, le, few) in
    let there = row_there s to a.onto (same_rows s.heights s.stacks sound.stacks_fit) a.to_counts a.target in
    let also = row_there s row b.onto (same_rows s.heights s.stacks sound.stacks_fit) b.to_counts b.target in
    let front : List ℕ = codes "shift " ++ spot from (length (row_stack s from)) in
    let behind : ℕ → List ℕ → List ℕ = λ k z. decimal (suc (length (row_stack s k))) ++ ((32 ∷ name_of_rank names (top_of (row_stack s from))) ++ 10 ∷ z) in
    let whole : front ++ (32 ∷ (decimal to ++ (46 ∷ behind to x))) ≡ front ++ (32 ∷ (decimal row ++ (46 ∷ behind row y))) =
    sym (shift_then names s from to (10 ∷ x)) ∙ sym (body_then names s (Shift from to) x) ∙ here ∙ body_then names s (Shift from row) y ∙ shift_then names s from row (10 ∷ y) in
    let cut = cut_once IsDigit 46 46 (decimal to) (decimal row) (behind to x) (behind row y) no_point no_point (are_digits to) (are_digits row)
    (rest_same 32 32 (decimal to ++ (46 ∷ behind to x)) (decimal row ++ (46 ∷ behind row y))
    (append_cancel_left front (32 ∷ (decimal to ++ (46 ∷ behind to x))) (32 ∷ (decimal row ++ (46 ∷ behind row y))) whole)) in
    ap (λ k. Shift k to) one ∙ ap (λ k. Shift other k) (decimal_injective to row (low to there) (low row also) cut.0)

-- rows stay as they are
heights_kept : (s : Position) (m : Move) (t : Position) → Legal s m t → t.heights ≡ s.heights
heights_kept s (Take row) t legal = ap (λ (p : Position). p.heights) legal.after
heights_kept s (Shift from to) t legal = ap (λ (p : Position). p.heights) legal.after

some_bytes : (names : List (List ℕ)) (s : Position) (m : Move) (x : List ℕ) → [] ≡ move_line names s m ++ x → ⊥
some_bytes names s (Take row) x e = cc
some_bytes names s (Shift from to) x e = cc

-- where lines are those of legal moves, none of them is the line of no legal move
pub no_wrong_move : (names : List (List ℕ)) (s : Position) (moves before : List Move) (lines front rest : List ℕ) (place : Position) → IsSound s → length s.heights ≤ 12
    → AreMoveLines names s moves lines → AreMoveLines names s before front → Runs s before place → lines ≡ front ++ rest → rest ≢ []
    → ((m : Move) (t : Position) (more : List ℕ) → Legal place m t → rest ≡ move_line names place m ++ more → ⊥) → ⊥
no_wrong_move names s [] [] lines front rest place sound few all stated runs e some wrong = some (sym (sym all ∙ e ∙ ap (λ l. l ++ rest) stated))
no_wrong_move names s (m ∷ moves) [] lines front rest place sound few (t, r, legal, all, is) stated runs e some wrong =
    let same : rest ≡ move_line names s m ++ r = sym (e ∙ ap (λ l. l ++ rest) stated) ∙ is in
    wrong m t r (subst (λ (p : Position). Legal p m t) runs legal) (subst (λ (p : Position). rest ≡ move_line names p m ++ r) runs same)
no_wrong_move names s [] (n ∷ before) lines front rest place sound few all (u, q, legal, stated, is) runs e some wrong =
    some_bytes names s n (q ++ rest) (sym all ∙ e ∙ ap (λ l. l ++ rest) is ∙ append_assoc (move_line names s n) q rest)
no_wrong_move names s (m ∷ moves) (n ∷ before) lines front rest place sound few (t, r, legal, all, is) (u, q, also, stated, is-q) (v, third, runs) e some wrong =
    let whole : move_line names s m ++ r ≡ move_line names s n ++ (q ++ rest) = sym is ∙ e ∙ ap (λ l. l ++ rest) is-q ∙ append_assoc (move_line names s n) q rest in
    let one : m ≡ n = same_move names s m n t u r (q ++ rest) sound few legal also whole in
    let next : r ≡ q ++ rest = append_cancel_left (move_line names s n) r (q ++ rest) (ap (λ (k : Move). move_line names s k ++ r) (sym one) ∙ whole) in
    let legal' : Legal s n t = subst (λ (k : Move). Legal s k t) one legal in
    let t-u : t ≡ u = legal_is s n t u legal' also in
    let v-u : v ≡ u = legal_is s n v u third also in
    no_wrong_move names u moves before r q rest place (sound_legal s n u sound also) (subst (λ (l : List ℕ). length l ≤ 12) (sym (heights_kept s n u also)) few)
    (subst (λ (p : Position). AreMoveLines names p moves r) t-u all) stated (subst (λ (p : Position). Runs p before place) v-u runs) next some wrong

pub plan_followed : (h : Handed) (b : Reported) (count : ℕ) (front : List ℕ) → IsProblem (problem_in h b) → PrintsPlan h b count → IsWrongMove h b front → ⊥
plan_followed h b count front is prints wrong =
    let leads = wrong.leads in
    no_wrong_move (ranked h.sequence b.bay.1) (start (problem_in h b)) prints.moves wrong.moves b.lines front wrong.rest wrong.place (sound_start (problem_in h b) is) is.few_rows
    prints.printed leads.printed leads.runs wrong.lines_are wrong.one_more wrong.wrong

-- lines are those of one list of moves at most
pub one_list_of_moves : (names : List (List ℕ)) (s : Position) (moves others : List Move) (lines : List ℕ) → IsSound s → length s.heights ≤ 12
    → AreMoveLines names s moves lines → AreMoveLines names s others lines → moves ≡ others
one_list_of_moves names s [] [] lines sound few a b = refl
one_list_of_moves names s [] (n ∷ others) lines sound few a (u, q, also, b, is) = absurd (some_bytes names s n q (sym a ∙ is))
one_list_of_moves names s (m ∷ moves) [] lines sound few (t, r, legal, a, is) b = absurd (some_bytes names s m r (sym b ∙ is))
one_list_of_moves names s (m ∷ moves) (n ∷ others) lines sound few (t, r, legal, a, is) (u, q, also, b, is-q) =
    let whole : move_line names s m ++ r ≡ move_line names s n ++ q = sym is ∙ is-q in
    let one : m ≡ n = same_move names s m n t u r q sound few legal also whole in
    let next : r ≡ q = append_cancel_left (move_line names s n) r q (ap (λ (k : Move). move_line names s k ++ r) (sym one) ∙ whole) in
    let legal' : Legal s n t = subst (λ (k : Move). Legal s k t) one legal in
    let t-u : t ≡ u = legal_is s n t u legal' also in
    let P : Position → List ℕ → Type 0 = λ p l. AreMoveLines names p moves l in
    let here : AreMoveLines names u moves q = subst (P u) next (subst (λ (p : Position). AreMoveLines names p moves r) t-u a) in
    ap (λ (k : Move). k ∷ moves) one
    ∙ ap (λ l. n ∷ l) (one_list_of_moves names u moves others q (sound_legal s n u sound also) (subst (λ (l : List ℕ). length l ≤ 12) (sym (heights_kept s n u also)) few) here b)

pub one_plan_printed : (h : Handed) (b : Reported) (moves others : List Move) → IsProblem (problem_in h b) → AreMoveLines (ranked h.sequence b.bay.1) (start (problem_in h b)) moves b.lines
    → AreMoveLines (ranked h.sequence b.bay.1) (start (problem_in h b)) others b.lines → moves ≡ others
one_plan_printed h b moves others is = one_list_of_moves (ranked h.sequence b.bay.1) (start (problem_in h b)) moves others b.lines (sound_start (problem_in h b) is) is.few_rows
