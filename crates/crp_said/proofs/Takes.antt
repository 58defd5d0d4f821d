-- What the take lines of a plan name.
use Rattle.std.proofs.Common.{◌≡◌, ◌≢◌, ℕ, suc, ◌+◌, ◌-◌, ◌≤◌, List, [], ◌∷◌, ◌++◌, length, All, Option, Some, slice_get, refl, sym, ap, ◌∙◌, arith, append_assoc, length-append}
use Rattle.std.specs.Prelude.{unwrap_or}
use Rattle.std.specs.List.{AllByRecursion, filter_map, cons_option}
use Rattle.std.specs.Fmt.{decimal}
use Rattle.std.proofs.lemmas.Bool.{ne_eqb}
use Rattle.std.proofs.lemmas.List.Elements.{recursion_from_All}
use Rattle.crp_plan.specs.declared.moves.Move.{Move}
use Rattle.crp_plan.specs.declared.moves.Move.TheVariants.{Shift, Take}
use Rattle.crp_plan.specs.Bay.{Problem, start, Position, Runs, IsPlan}
use Rattle.crp_yard.specs.Ranks.{name_of_rank}
use Rattle.crp_said.specs.MoveLines.{row_stack, move_line, AreMoveLines}
use Rattle.crp_yard.specs.Naming.{FitsLine}
use Rattle.crp_said.specs.TakeLines.{lines_in, behind_space, container_taken, taken_in}
use Rattle.crp_cert.proofs.Joined.{all_both}
use Rattle.crp_said.proofs.Bytes.{IsPlain, IsDigit, all_weaker, are_digits}
use Rattle.crp_said.proofs.MoveBodies.{spot, body, body_then, plain_body}

-- ---- one line

-- a line stands before those that follow
line_first : (line rest : List ℕ) → IsPlain line → lines_in (line ++ 10 ∷ rest) ≡ line ∷ lines_in rest
line_first [] rest plain = refl
line_first (b ∷ line) rest plain = rw (ne_eqb b 10 plain.0, line_first line rest plain.1) refl

-- what stands behind the first space
behind_first : (front rest : List ℕ) → AllByRecursion (λ b. b ≢ 32) front → behind_space (front ++ 32 ∷ rest) ≡ rest
behind_first [] rest none = refl
behind_first (b ∷ front) rest none = rw (ne_eqb b 32 none.0) (behind_first front rest none.1)

spot_whole : (row tier : ℕ) → AllByRecursion (λ b. b ≢ 32) (spot row tier)
spot_whole row tier = all_both (λ b. b ≢ 32) (decimal row) (46 ∷ decimal tier) (whole row) ((λ e. omega (arith, e)), whole tier)
  where
    whole : (n : ℕ) → AllByRecursion (λ b. b ≢ 32) (decimal n)
    whole n = all_weaker IsDigit (λ b. b ≢ 32) (decimal n) (λ b is e. let low = is.0 in omega (arith, e, low)) (are_digits n)

take_names : (names : List (List ℕ)) (s : Position) (row : ℕ) → container_taken (body names s (Take row)) ≡ Some (name_of_rank names s.next)
take_names names s row = ap Some (behind_first (spot row (length (row_stack s row))) (name_of_rank names s.next) (spot_whole row (length (row_stack s row))))

taken_next : (names : List (List ℕ)) (s : Position) (row : ℕ) (rest : List ℕ) → AllByRecursion IsPlain names
    → taken_in (move_line names s (Take row) ++ rest) ≡ name_of_rank names s.next ∷ taken_in rest
taken_next names s row rest plain =
    ap taken_in (body_then names s (Take row) rest)
    ∙ ap (filter_map container_taken) (line_first (body names s (Take row)) rest (plain_body names s (Take row) plain))
    ∙ ap (λ (found : Option (List ℕ)). cons_option found (taken_in rest)) (take_names names s row)

taken_later : (names : List (List ℕ)) (s : Position) (from to : ℕ) (rest : List ℕ) → AllByRecursion IsPlain names
    → taken_in (move_line names s (Shift from to) ++ rest) ≡ taken_in rest
taken_later names s from to rest plain =
    ap taken_in (body_then names s (Shift from to) rest)
    ∙ ap (filter_map container_taken) (line_first (body names s (Shift from to)) rest (plain_body names s (Shift from to) plain))

-- ---- all lines

-- the turn does not go back
turn_grows : (s t : Position) (moves : List Move) → Runs s moves t → s.next ≤ t.next
turn_grows s t [] runs = let e : s.next ≡ t.next = ap (λ (p : Position). p.next) runs in omega (arith, e)
turn_grows s t (Take row ∷ moves) (u, legal, runs) =
    let e : u.next ≡ suc s.next = ap (λ (p : Position). p.next) legal.after in
    omega (arith, e, turn_grows u t moves runs)
turn_grows s t (Shift from to ∷ moves) (u, legal, runs) =
    let e : u.next ≡ s.next = ap (λ (p : Position). p.next) legal.after in
    omega (arith, e, turn_grows u t moves runs)

-- and as many are to leave as before
ordered_kept : (s t : Position) (moves : List Move) → Runs s moves t → t.ordered ≡ s.ordered
ordered_kept s t [] runs = sym (ap (λ (p : Position). p.ordered) runs)
ordered_kept s t (Take row ∷ moves) (u, legal, runs) = ordered_kept u t moves runs ∙ ap (λ (p : Position). p.ordered) legal.after
ordered_kept s t (Shift from to ∷ moves) (u, legal, runs) = ordered_kept u t moves runs ∙ ap (λ (p : Position). p.ordered) legal.after

-- the name behind these
name_there : (before after : List (List ℕ)) (name : List ℕ) (rank : ℕ) → rank ≡ suc (length before) → name_of_rank (before ++ name ∷ after) rank ≡ name
name_there before after name rank e = let i : rank - 1 ≡ length before = omega (arith, e) in rw i (at before)
  where
    at : (before : List (List ℕ)) → unwrap_or (slice_get (before ++ name ∷ after) (length before)) [] ≡ name
    at [] = refl
    at (x ∷ before) = at before

-- from the turn of a name on, the take lines give it and those behind it, up to the turn at the end
takes_from : (names before now after : List (List ℕ)) (s here end : Position) (moves : List Move) (text : List ℕ) → AllByRecursion IsPlain names → names ≡ before ++ (now ++ after)
    → AreMoveLines names s moves text → Runs here moves end → s.next ≡ suc (length before) → here.next ≡ s.next → end.next ≡ suc (length before) + length now
    → taken_in text ≡ now
takes_from names before [] after s here end [] text plain is stated runs turn same last = ap taken_in stated
takes_from names before (name ∷ now) after s here end [] text plain is stated runs turn same last =
    let e : here.next ≡ end.next = ap (λ (p : Position). p.next) runs in absurd (omega (arith, e, turn, same, last))
takes_from names before [] after s here end (Take row ∷ moves) text plain is stated (u, legal, runs) turn same last =
    let e : u.next ≡ suc here.next = ap (λ (p : Position). p.next) legal.after in
    absurd (omega (arith, e, turn, same, last, turn_grows u end moves runs))
takes_from names before (name ∷ now) after s here end (Take row ∷ moves) text plain is (t, rest, made, stated, text-is) (u, legal, runs) turn same last =
    let at_t : t.next ≡ suc s.next = ap (λ (p : Position). p.next) made.after in
    let at_u : u.next ≡ suc here.next = ap (λ (p : Position). p.next) legal.after in
    let longer : length (before ++ name ∷ []) ≡ suc (length before) = omega (arith, length-append before (name ∷ [])) in
    let more = takes_from names (before ++ name ∷ []) now after t u end moves rest plain (is ∙ sym (append_assoc before (name ∷ []) (now ++ after))) stated runs
    (omega (arith, at_t, turn, longer)) (omega (arith, at_t, at_u, same)) (omega (arith, last, longer)) in
    let named : name_of_rank names s.next ≡ name = ap (λ l. name_of_rank l s.next) is ∙ name_there before (now ++ after) name s.next turn in
    ap taken_in text-is ∙ taken_next names s row rest plain ∙ ap (λ l. l ∷ taken_in rest) named ∙ ap (λ l. name ∷ l) more
takes_from names before now after s here end (Shift from to ∷ moves) text plain is (t, rest, made, stated, text-is) (u, legal, runs) turn same last =
    let at_t : t.next ≡ s.next = ap (λ (p : Position). p.next) made.after in
    let at_u : u.next ≡ here.next = ap (λ (p : Position). p.next) legal.after in
    ap taken_in text-is ∙ taken_later names s from to rest plain
    ∙ takes_from names before now after t u end moves rest plain is stated runs (omega (arith, at_t, turn)) (omega (arith, at_t, at_u, same)) last

-- names that fit a line have no LF
pub plain_names : (names : List (List ℕ)) → AllByRecursion FitsLine names → AllByRecursion IsPlain names
plain_names names fit =
    all_weaker FitsLine IsPlain names (λ name is. all_weaker (λ b. 32 ≤ b) (λ b. b ≢ 10) name (λ b low e. omega (arith, low, e)) (recursion_from_All (λ b. 32 ≤ b) name is)) fit

-- the take lines of a complete plan name the containers that are to leave, in order
pub plan_takes : (p : Problem) (leaving staying : List (List ℕ)) (moves : List Move) (text : List ℕ) → All FitsLine (leaving ++ staying) → length leaving ≡ p.ordered
    → IsPlan p moves → AreMoveLines (leaving ++ staying) (start p) moves text → taken_in text ≡ leaving
plan_takes p leaving staying moves text fit many (end, runs, finished) stated =
    let kept : end.ordered ≡ p.ordered = ordered_kept (start p) end moves runs in
    takes_from (leaving ++ staying) [] leaving staying (start p) (start p) end moves text (plain_names (leaving ++ staying) (recursion_from_All FitsLine (leaving ++ staying) fit)) refl stated runs refl refl
    (omega (arith, finished, kept, many))
