-- The moves that are made when the ship has its first containers.
use Rattle.std.proofs.Common.{◌≡◌, ◌∙◌, ℕ, zero, suc, ◌+◌, ◌<◌, ◌≤◌, arith, Bool, true, false, ◌||◌, cond, nat_le, List, [], ◌∷◌, ◌++◌, length, length-append, map, take, get_or, Option, Some, None, refl, sym, ap}
use Rattle.std.specs.Prelude.{filter}
use Rattle.std.specs.Option.{option_map_or, option_and_then}
use Rattle.std.specs.List.{list_any}
use Rattle.std.proofs.lemmas.Bool.{le-leb, lt-leb, true≢false}
use Rattle.std.proofs.lemmas.Bool.Decides.{nat_tests}
use Rattle.std.proofs.lemmas.List.{map-append, take_more, take_all, length-map, length-take-le}
use Rattle.std.proofs.lemmas.List.Folds.{list_any-append}
use Rattle.crp_plan.specs.BayNames.{YardBay}
use Rattle.crp_said.specs.declared.moves.SaidMove.{SaidMove}
use Rattle.crp_said.specs.declared.moves.SaidMove.TheVariants.{Shift, Take}
use Rattle.crp_follow.specs.declared.stated.StatedMove.{StatedMove}
use Rattle.crp_follow.specs.Stated.{moves_of}
use Rattle.crp_follow.specs.Followed.{BayFollowed}
use Rattle.crp_follow.specs.Table.{takes_from, MoveColumns, next_to_leave, standing, columns_at, columns_from, columns_in}
use Rattle.crp_loading.specs.declared.fault.LoadingFault.{LoadingFault}
use Rattle.crp_loading.specs.declared.fault.LoadingFault.TheVariants as fault
use Rattle.crp_loading.specs.Turns.{turn_of}
use Rattle.crp_loading.specs.Faults.{TakeStated, take_stated, takes_stated, is_at_or_behind, faults_behind, faults_from, faults_in}
use Rattle.crp_loading.specs.Views.{EndWith}
use Rattle.crp_loading.specs.Loaded.{takes_up_to, moves_up_to, has_turn_up_to}
use Rattle.crp_loading.proofs.ShipSteps.{number_within}

-- ---- one move more

any_last : {X : Type 0} (p : X → Bool) (xs : List X) (x : X) → p x ≡ true → list_any p (xs ++ x ∷ []) ≡ true
any_last p [] x e = ap (λ b. b || false) e
any_last p (y ∷ xs) x e = ap (λ b. p y || b) (any_last p xs x e) ∙ or_true (p y)
  where
    or_true : (b : Bool) → (b || true) ≡ true
    or_true true = refl
    or_true false = refl

any_before : {X : Type 0} (p : X → Bool) (xs : List X) (x : X) → p x ≡ false → list_any p (xs ++ x ∷ []) ≡ list_any p xs
any_before p [] x e = ap (λ b. b || false) e
any_before p (y ∷ xs) x e = ap (λ b. p y || b) (any_before p xs x e)

-- up to a move that is one of these takes all are made
up_to_last : (sequence : List (List ℕ)) (n : ℕ) (moves : List SaidMove) (m : SaidMove) → takes_up_to sequence n m ≡ true → moves_up_to sequence n (moves ++ m ∷ []) ≡ moves ++ m ∷ []
up_to_last sequence n [] m e = ap (λ b. cond b (m ∷ []) []) (any_last (takes_up_to sequence n) [] m e)
up_to_last sequence n (x ∷ moves) m e =
    ap (λ b. cond b (x ∷ moves_up_to sequence n (moves ++ m ∷ [])) []) (any_last (takes_up_to sequence n) (x ∷ moves) m e) ∙ ap (λ l. x ∷ l) (up_to_last sequence n moves m e)

-- one that is none of them changes nothing
up_to_before : (sequence : List (List ℕ)) (n : ℕ) (moves : List SaidMove) (m : SaidMove) → takes_up_to sequence n m ≡ false → moves_up_to sequence n (moves ++ m ∷ []) ≡ moves_up_to sequence n moves
up_to_before sequence n [] m e = ap (λ b. cond b (m ∷ []) []) (any_before (takes_up_to sequence n) [] m e)
up_to_before sequence n (x ∷ moves) m e =
    ap (λ b. cond b (x ∷ moves_up_to sequence n (moves ++ m ∷ [])) []) (any_before (takes_up_to sequence n) (x ∷ moves) m e)
    ∙ ap (λ l. cond (list_any (takes_up_to sequence n) (x ∷ moves)) (x ∷ l) []) (up_to_before sequence n moves m e)

-- so many of the moves so far are made
pub record IsCountSoFar (sequence : List (List ℕ)) (n : ℕ) (moves : List StatedMove) (i count : ℕ) : Type 0 where
  pub within : count ≤ i
  pub made : take count (moves_of (take i moves)) ≡ moves_up_to sequence n (moves_of (take i moves))

front_is : (moves : List StatedMove) (i : ℕ) (m : StatedMove) → i < length moves → m ≡ get_or moves i m → moves_of (take (i + 1) moves) ≡ moves_of (take i moves) ++ m.said ∷ []
front_is moves i m lt at =
    ap moves_of (take_more moves i m lt ∙ ap (λ x. take i moves ++ x ∷ []) (sym at)) ∙ map-append (λ (x : StatedMove). x.said) (take i moves) (m ∷ [])

front_length : (moves : List StatedMove) (i : ℕ) → i < length moves → length (moves_of (take i moves)) ≡ i
front_length moves i lt = length-map (take i moves) (λ (x : StatedMove). x.said) ∙ length-take-le i moves (omega arith)

-- a take of one of the turns
pub made_so_far : (sequence : List (List ℕ)) (n : ℕ) (moves : List StatedMove) (i : ℕ) (m : StatedMove) → i < length moves → m ≡ get_or moves i m → takes_up_to sequence n m.said ≡ true
    → IsCountSoFar sequence n moves (i + 1) (i + 1)
made_so_far sequence n moves i m lt at e =
    let front = moves_of (take i moves) in
    let more = front_is moves i m lt at in
    let many : length (front ++ m.said ∷ []) ≤ i + 1 = omega (arith, length-append front (m.said ∷ []), front_length moves i lt) in
    record {
      within = omega arith;
      made = ap (take (i + 1)) more ∙ take_all (i + 1) (front ++ m.said ∷ []) many ∙ sym (up_to_last sequence n front m.said e) ∙ sym (ap (moves_up_to sequence n) more);
    }

take_front : {X : Type 0} (n : ℕ) (xs : List X) (x : X) → n ≤ length xs → take n (xs ++ x ∷ []) ≡ take n xs
take_front zero [] x le = refl
take_front (suc n) [] x le = absurd (omega arith)
take_front zero (y ∷ xs) x le = refl
take_front (suc n) (y ∷ xs) x le = ap (λ l. y ∷ l) (take_front n xs x (omega arith))

-- another move
pub same_so_far : (sequence : List (List ℕ)) (n : ℕ) (moves : List StatedMove) (i count : ℕ) (m : StatedMove) → IsCountSoFar sequence n moves i count → i < length moves → m ≡ get_or moves i m
    → takes_up_to sequence n m.said ≡ false → IsCountSoFar sequence n moves (i + 1) count
same_so_far sequence n moves i count m so lt at e =
    let front = moves_of (take i moves) in
    let more = front_is moves i m lt at in
    let low : count ≤ length front = omega (arith, so.within, front_length moves i lt) in
    record {
      within = omega (arith, so.within);
      made = ap (take count) more ∙ take_front count front m.said low ∙ so.made ∙ sym (up_to_before sequence n front m.said e) ∙ sym (ap (moves_up_to sequence n) more);
    }

-- ---- turns that rise

-- each take has a turn behind the one before it, the first of them behind this
abbrev Rising : List (List ℕ) → ℕ → List SaidMove → Type 0
Rising sequence last [] = Unit {0}
Rising sequence last (Shift from to c ∷ moves) = Rising sequence last moves
Rising sequence last (Take from c ∷ moves) = (turn : ℕ) × (turn_of sequence c ≡ Some turn) × (last < turn) × Rising sequence turn moves

either_below : (k last turn : ℕ) → last < turn → (nat_le k last || (nat_le k turn || false)) ≡ nat_le k turn
either_below k last turn lt = by (nat_le k turn) refl
  where
    by : (b : Bool) → nat_le k turn ≡ b → (nat_le k last || (nat_le k turn || false)) ≡ nat_le k turn
    by true e = rw e (or_true (nat_le k last))
      where
        or_true : (b : Bool) → (b || true) ≡ true
        or_true true = refl
        or_true false = refl
    by false e =
        let above : turn < k = grind (arith, nat_tests) in
        let not : nat_le k last ≡ false = lt-leb k last (omega arith) in
        rw (e, not) refl

-- one take more, behind the others
ends_more : (before : List TakeStated) (last line turn : ℕ) (o : Option ℕ) → EndWith before last → o ≡ Some turn → last < turn → EndWith (before ++ record { line = line; turn = o } ∷ []) turn
ends_more before last line turn o ends e lt k one =
    let t : TakeStated = record { line = line; turn = o } in
    list_any-append (is_at_or_behind k) before (t ∷ []) ∙ ap (λ b. b || list_any (is_at_or_behind k) (t ∷ [])) (ends k one)
    ∙ ap (λ (p : Option ℕ). nat_le k last || (option_map_or (nat_le k) p false || false)) e ∙ either_below k last turn lt

-- where takes have no fault, their turns rise
rising : (sequence : List (List ℕ)) (before : List TakeStated) (last : ℕ) (moves : List StatedMove) → EndWith before last → faults_from before (takes_stated sequence moves) ≡ []
    → Rising sequence last (moves_of moves)
rising sequence before last [] ends e = tt
rising sequence before last (m ∷ moves) ends e = by (λ b l ends none. rising sequence b l moves ends none) m.said e
  where
    by : ((b : List TakeStated) (l : ℕ) → EndWith b l → faults_from b (takes_stated sequence moves) ≡ [] → Rising sequence l (moves_of moves)) → (s : SaidMove)
        → faults_from before (take_stated sequence m.line s ++ takes_stated sequence moves) ≡ [] → Rising sequence last (s ∷ moves_of moves)
    by later (Shift from to c) h = later before last ends h
    by later (Take from c) h = at (turn_of sequence c) refl h
      where
        t : Option ℕ → TakeStated
        t o = record { line = m.line; turn = o }

        at : (o : Option ℕ) → turn_of sequence c ≡ o → faults_behind before m.line (turn_of sequence c) ++ faults_from (before ++ t (turn_of sequence c) ∷ []) (takes_stated sequence moves) ≡ []
            → (turn : ℕ) × (turn_of sequence c ≡ Some turn) × (last < turn) × Rising sequence turn (moves_of moves)
        at None is none =
            let faults : fault.NotOrdered m.line ∷ faults_from (before ++ t (turn_of sequence c) ∷ []) (takes_stated sequence moves) ≡ [] =
            sym (ap (λ o. faults_behind before m.line o ++ faults_from (before ++ t (turn_of sequence c) ∷ []) (takes_stated sequence moves)) is) ∙ none in
            cc
        at (Some turn) is none = tested (nat_le turn last) refl
          where
            rest : List LoadingFault
            rest = faults_from (before ++ t (turn_of sequence c) ∷ []) (takes_stated sequence moves)

            low : 1 ≤ turn
            low = (number_within 1 sequence c turn is).0

            whole : cond (nat_le turn last) (fault.OutOfOrder m.line ∷ []) [] ++ rest ≡ []
            whole = ap (λ b. cond b (fault.OutOfOrder m.line ∷ []) [] ++ rest) (sym (ends turn low)) ∙ sym (ap (λ o. faults_behind before m.line o ++ rest) is) ∙ none

            tested : (b : Bool) → nat_le turn last ≡ b → (u : ℕ) × (turn_of sequence c ≡ Some u) × (last < u) × Rising sequence u (moves_of moves)
            tested true le = let first : fault.OutOfOrder m.line ∷ rest ≡ [] = sym (ap (λ b. cond b (fault.OutOfOrder m.line ∷ []) [] ++ rest) le) ∙ whole in cc
            tested false le =
                let behind : last < turn = grind (arith, nat_tests) in
                let none_later : rest ≡ [] = sym (ap (λ b. cond b (fault.OutOfOrder m.line ∷ []) [] ++ rest) le) ∙ whole in
                (turn, is, behind, later (before ++ t (turn_of sequence c) ∷ []) turn (ends_more before last m.line turn (turn_of sequence c) ends is behind) none_later)

-- then none has an earlier turn
none_earlier : (sequence : List (List ℕ)) (n last : ℕ) (moves : List SaidMove) → n ≤ last → Rising sequence last moves → list_any (takes_up_to sequence n) moves ≡ false
none_earlier sequence n last [] le rises = refl
none_earlier sequence n last (Shift from to c ∷ moves) le rises = none_earlier sequence n last moves le rises
none_earlier sequence n last (Take from c ∷ moves) le (turn, is, behind, rises) =
    let not : nat_le turn n ≡ false = lt-leb turn n (omega arith) in
    ap (λ o. option_map_or (λ k. nat_le k n) o false || list_any (takes_up_to sequence n) moves) is ∙ ap (λ b. b || list_any (takes_up_to sequence n) moves) not
    ∙ none_earlier sequence n turn moves (omega arith) rises

-- the container that is taken first
abbrev first_taken : List SaidMove → Option (List ℕ)
first_taken [] = None
first_taken (Shift from to c ∷ moves) = first_taken moves
first_taken (Take from c ∷ moves) = Some c

-- it has one of the first turns
abbrev first_is_up_to : List (List ℕ) → ℕ → Option (List ℕ) → Bool
first_is_up_to sequence n o = option_map_or (λ turn. nat_le turn n) (option_and_then (turn_of sequence) o) false

-- where one of the takes has one of the first turns, the first of them does
any_is_first : (sequence : List (List ℕ)) (n last : ℕ) (moves : List SaidMove) → Rising sequence last moves → list_any (takes_up_to sequence n) moves ≡ first_is_up_to sequence n (first_taken moves)
any_is_first sequence n last [] rises = refl
any_is_first sequence n last (Shift from to c ∷ moves) rises = any_is_first sequence n last moves rises
any_is_first sequence n last (Take from c ∷ moves) (turn, is, behind, rises) = by (nat_le turn n) refl
  where
    own : takes_up_to sequence n (Take from c) ≡ nat_le turn n
    own = ap (λ o. option_map_or (λ k. nat_le k n) o false) is

    or_false : (b : Bool) → (b || false) ≡ b
    or_false true = refl
    or_false false = refl

    by : (b : Bool) → nat_le turn n ≡ b → (takes_up_to sequence n (Take from c) || list_any (takes_up_to sequence n) moves) ≡ takes_up_to sequence n (Take from c)
    by true e = ap (λ b. b || list_any (takes_up_to sequence n) moves) (own ∙ e) ∙ sym (own ∙ e)
    by false e =
        let above : n < turn = grind (arith, nat_tests) in
        ap (λ b. takes_up_to sequence n (Take from c) || b) (none_earlier sequence n turn moves (omega arith) rises) ∙ or_false (takes_up_to sequence n (Take from c))

-- ---- what the table says

-- the first that leaves at this step or later is the first that is taken
next_is_first : (step k : ℕ) (moves : List SaidMove) → k ≤ step → next_to_leave (takes_from step moves) k ≡ first_taken moves
next_is_first step k [] le = refl
next_is_first step k (Shift from to c ∷ moves) le = next_is_first (suc step) k moves (omega arith)
next_is_first step k (Take from c ∷ moves) le = ap (λ b. cond b (Some c) (next_to_leave (takes_from (suc step) moves) k)) (le-leb k step le)

-- from this step on no others leave than these moves take
abbrev LeaveFrom : List (ℕ × List ℕ) → ℕ → List SaidMove → Type 0
LeaveFrom takes step moves = (k : ℕ) → step ≤ k → next_to_leave takes k ≡ next_to_leave (takes_from step moves) k

leave_later : (takes : List (ℕ × List ℕ)) (step : ℕ) (m : SaidMove) (moves : List SaidMove) → LeaveFrom takes step (m ∷ moves) → LeaveFrom takes (suc step) moves
leave_later takes step (Shift from to c) moves leave k le = leave k (omega arith)
leave_later takes step (Take from c) moves leave k le = leave k (omega arith) ∙ ap (λ b. cond b (Some c) (next_to_leave (takes_from (suc step) moves) k)) (lt-leb k step (omega arith))

rises_on : (sequence : List (List ℕ)) (last : ℕ) (m : SaidMove) (moves : List SaidMove) → Rising sequence last (m ∷ moves) → (next : ℕ) × Rising sequence next moves
rises_on sequence last (Shift from to c) moves rises = (last, rises)
rises_on sequence last (Take from c) moves (turn, is, behind, rises) = (turn, rises)

none_made : (sequence : List (List ℕ)) (n : ℕ) (moves : List SaidMove) → list_any (takes_up_to sequence n) moves ≡ false → moves_up_to sequence n moves ≡ []
none_made sequence n [] e = refl
none_made sequence n (m ∷ moves) e = ap (λ b. cond b (m ∷ moves_up_to sequence n moves) []) e

either_false : (a b : Bool) → (a || b) ≡ false → b ≡ false
either_false true b e = absurd (true≢false e)
either_false false b e = e

made_by_turns : (sequence : List (List ℕ)) (n last : ℕ) (bay : YardBay) (count : ℕ) (takes : List (ℕ × List ℕ)) (step : ℕ) (moves : List SaidMove) → LeaveFrom takes step moves → Rising sequence last moves
    → moves_up_to sequence n moves ≡ map (λ c. c.said) (filter (has_turn_up_to sequence n) (columns_from bay count takes step moves))
made_by_turns sequence n last bay count takes step [] leave rises = refl
made_by_turns sequence n last bay count takes step (m ∷ moves) leave rises =
    let on = rises_on sequence last m moves rises in
    by (made_by_turns sequence n on.0 bay count takes (suc step) moves (leave_later takes step m moves leave) on.1) (list_any (takes_up_to sequence n) (m ∷ moves)) refl
  where
    rest : List MoveColumns
    rest = filter (has_turn_up_to sequence n) (columns_from bay count takes (suc step) moves)

    here : has_turn_up_to sequence n (columns_at bay count takes step m) ≡ list_any (takes_up_to sequence n) (m ∷ moves)
    here = ap (first_is_up_to sequence n) (leave step (omega arith) ∙ next_is_first step step (m ∷ moves) (omega arith)) ∙ sym (any_is_first sequence n last (m ∷ moves) rises)

    by : moves_up_to sequence n moves ≡ map (λ (c : MoveColumns). c.said) rest → (b : Bool) → list_any (takes_up_to sequence n) (m ∷ moves) ≡ b
        → cond (list_any (takes_up_to sequence n) (m ∷ moves)) (m ∷ moves_up_to sequence n moves) []
        ≡ map (λ (c : MoveColumns). c.said) (cond (has_turn_up_to sequence n (columns_at bay count takes step m)) (columns_at bay count takes step m ∷ rest) rest)
    by later true e =
        ap (λ b. cond b (m ∷ moves_up_to sequence n moves) []) e ∙ ap (λ l. m ∷ l) later
        ∙ sym (ap (λ b. map (λ (c : MoveColumns). c.said) (cond b (columns_at bay count takes step m ∷ rest) rest)) (here ∙ e))
    by later false e =
        let none : moves_up_to sequence n moves ≡ [] = none_made sequence n moves (either_false (takes_up_to sequence n m) (list_any (takes_up_to sequence n) moves) e) in
        ap (λ b. cond b (m ∷ moves_up_to sequence n moves) []) e ∙ sym none ∙ later
        ∙ sym (ap (λ b. map (λ (c : MoveColumns). c.said) (cond b (columns_at bay count takes step m ∷ rest) rest)) (here ∙ e))

pub loaded_moves : (sequence : List (List ℕ)) (n : ℕ) (b : BayFollowed) → faults_in sequence b.stated.moves ≡ []
    → moves_up_to sequence n (moves_of b.stated.moves) ≡ map (λ c. c.said) (filter (has_turn_up_to sequence n) (columns_in b))
loaded_moves sequence n b none =
    let moves = moves_of b.stated.moves in
    let first : EndWith [] 0 = λ k one. sym (lt-leb k 0 (omega arith)) in
    made_by_turns sequence n 0 b.stated.bay (standing b.start) (takes_from 1 moves) 1 moves (λ k le. refl) (rising sequence [] 0 b.stated.moves first none)
