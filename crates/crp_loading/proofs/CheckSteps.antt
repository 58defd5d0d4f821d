-- The takes of a bay, one after the other.
use Rattle.std.proofs.Common.{◌≡◌, ◌∙◌, ℕ, ◌+◌, ◌<◌, ◌≤◌, arith, true, nat_le, cond, Some, List, [], ◌∷◌, ◌++◌, length, take, drop, get_or, sym, ap}
use Rattle.std.proofs.lemmas.Bool.Decides.{nat_tests}
use Rattle.std.proofs.lemmas.List.{drop_more}
use Rattle.crp_said.specs.declared.moves.Place.{Place}
use Rattle.crp_said.specs.declared.moves.SaidMove.TheVariants.{Take}
use Rattle.crp_follow.specs.declared.stated.StatedMove.{StatedMove}
use Rattle.crp_loading.specs.declared.fault.LoadingFault.{LoadingFault}
use Rattle.crp_loading.specs.declared.fault.LoadingFault.TheVariants as fault
use Rattle.crp_loading.specs.Turns.{turn_of}
use Rattle.crp_loading.specs.Faults.{TakeStated, take_stated, takes_stated, faults_behind, faults_from, faults_in, IsFirst}
use Rattle.crp_loading.specs.Views.{EndWith}
use Rattle.crp_loading.proofs.ShipSteps.{number_within}

-- ---- the last turn

-- a turn that is not behind the last is late
pub late : (before : List TakeStated) (sequence : List (List ℕ)) (c : List ℕ) (last line turn : ℕ) → turn_of sequence c ≡ Some turn → turn ≤ last → EndWith before last
    → IsFirst (faults_behind before line (turn_of sequence c)) (fault.OutOfOrder line)
late before sequence c last line turn e le ends =
    let low = number_within 1 sequence c turn e in
    let there : nat_le turn last ≡ true = grind (arith, nat_tests) in
    ([], ap (faults_behind before line) e ∙ ap (λ b. cond b (fault.OutOfOrder line ∷ []) []) (ends turn low.0 ∙ there))

-- ---- one move more

-- what is left of a list
rest_at : {X : Type 0} (xs : List X) (i : ℕ) (x : X) → i < length xs → x ≡ get_or xs i x → drop i xs ≡ x ∷ drop (i + 1) xs
rest_at xs i x lt at = drop_more xs i x lt ∙ ap (λ y. y ∷ drop (i + 1) xs) (sym at)

stated_rest : (sequence : List (List ℕ)) (moves : List StatedMove) (i : ℕ) (m : StatedMove) → i < length moves → m ≡ get_or moves i m
    → takes_stated sequence (drop i moves) ≡ take_stated sequence m.line m.said ++ takes_stated sequence (drop (i + 1) moves)
stated_rest sequence moves i m lt at = ap (takes_stated sequence) (rest_at moves i m lt at)

-- the takes so far have no fault, and the last of them has this turn
pub record FitSoFar (sequence : List (List ℕ)) (moves : List StatedMove) (i last : ℕ) : Type 0 where
  pub ends : EndWith (takes_stated sequence (take i moves)) last
  pub left : faults_in sequence moves ≡ faults_from (takes_stated sequence (take i moves)) (takes_stated sequence (drop i moves))

-- the faults that are left where a take comes next
at_take : (sequence : List (List ℕ)) (moves : List StatedMove) (i last : ℕ) (m : StatedMove) (from : Place) (c : List ℕ) → FitSoFar sequence moves i last → i < length moves → m ≡ get_or moves i m
    → m.said ≡ Take from c → faults_in sequence moves ≡ faults_behind (takes_stated sequence (take i moves)) m.line (turn_of sequence c)
    ++ faults_from (takes_stated sequence (take i moves) ++ record { line = m.line; turn = turn_of sequence c } ∷ []) (takes_stated sequence (drop (i + 1) moves))
at_take sequence moves i last m from c fit lt at is =
    let one : take_stated sequence m.line m.said ≡ record { line = m.line; turn = turn_of sequence c } ∷ [] = ap (take_stated sequence m.line) is in
    fit.left ∙ ap (faults_from (takes_stated sequence (take i moves))) (stated_rest sequence moves i m lt at ∙ ap (λ l. l ++ takes_stated sequence (drop (i + 1) moves)) one)

-- the first of a list is the first of a longer one
first_of_more : (faults some more : List LoadingFault) (f : LoadingFault) → faults ≡ some ++ more → IsFirst some f → IsFirst faults f
first_of_more faults some more f e first = (first.0 ++ more, e ∙ ap (λ l. l ++ more) first.1)

pub take_stops : (sequence : List (List ℕ)) (moves : List StatedMove) (i last : ℕ) (m : StatedMove) (from : Place) (c : List ℕ) (f : LoadingFault) → FitSoFar sequence moves i last → i < length moves
    → m ≡ get_or moves i m → m.said ≡ Take from c → ((before : List TakeStated) → EndWith before last → IsFirst (faults_behind before m.line (turn_of sequence c)) f) → IsFirst (faults_in sequence moves) f
take_stops sequence moves i last m from c f fit lt at is wrong =
    first_of_more (faults_in sequence moves) (faults_behind (takes_stated sequence (take i moves)) m.line (turn_of sequence c))
    (faults_from (takes_stated sequence (take i moves) ++ record { line = m.line; turn = turn_of sequence c } ∷ []) (takes_stated sequence (drop (i + 1) moves))) f
    (at_take sequence moves i last m from c fit lt at is) (wrong (takes_stated sequence (take i moves)) fit.ends)
