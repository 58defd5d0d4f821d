-- Which lines of legal moves the bytes begin with.
use Rattle.std.proofs.Common.{◌≡◌, ℕ, ◌+◌, ◌≤◌, ⊎_elim, List, ◌++◌, Option, Some, None, IfSome, IfNone, length, sym, subst, arith}
use Rattle.std.proofs.lemmas.Bool.{cases_lt}
use Rattle.crp_plan.specs.declared.moves.Move.{Move}
use Rattle.crp_plan.specs.declared.moves.Move.TheVariants.{Shift, Take}
use Rattle.crp_plan.specs.Bay.{Position, IsSound, IsTaken, IsShifted, Legal}
use Rattle.crp_plan.specs.Walks.{NoneToTake}
use Rattle.crp_plan.proofs.Determined.{no_shift_beside_take, one_take, one_source}
use Rattle.crp_plan.proofs.Steps.{same_rows}
use Rattle.crp_said.proofs.LinesSoFar.{row_there}
use Rattle.crp_said.specs.MoveLines.{move_line}

-- the bytes begin with the line of no relocation to a row up to this one
abbrev pub NoShiftLine : List (List ℕ) → Position → List ℕ → ℕ → Type 0
NoShiftLine names s bytes i =
    (from to : ℕ) (t : Position) (more : List ℕ) → 1 ≤ to → to ≤ i → IsShifted s from to t → bytes ≡ move_line names s (Shift from to) ++ more → ⊥

-- they begin with the line of no legal move
abbrev pub NoLine : List (List ℕ) → Position → List ℕ → Type 0
NoLine names s bytes = (m : Move) (t : Position) (more : List ℕ) → Legal s m t → bytes ≡ move_line names s m ++ more → ⊥

pub none_yet : (names : List (List ℕ)) (s : Position) (bytes : List ℕ) → NoShiftLine names s bytes 0
none_yet names s bytes from to t more counts few legal e = omega (arith, counts, few)

pub one_further : (names : List (List ℕ)) (s : Position) (bytes : List ℕ) (i : ℕ) → NoShiftLine names s bytes i
    → ((from : ℕ) (t : Position) (more : List ℕ) → IsShifted s from (i + 1) t → bytes ≡ move_line names s (Shift from (i + 1)) ++ more → ⊥)
    → NoShiftLine names s bytes (i + 1)
one_further names s bytes i before here from to t more counts few legal e =
    ⊎_elim
    (λ low. before from to t more counts (omega (arith, low)) legal e)
    (λ high. let same : to ≡ i + 1 = omega (arith, few, high) in
    let P : ℕ → Type 0 = λ k. IsShifted s from k t → bytes ≡ move_line names s (Shift from k) ++ more → ⊥ in
    subst P (sym same) (here from t more) legal e)
    (cases_lt to (i + 1))

-- where a relocation to the row is legal and the bytes do not begin with its line
pub other_source : (names : List (List ℕ)) (s : Position) (bytes : List ℕ) (from row : ℕ) (u : Position) → IsSound s → IsShifted s from row u
    → ((more : List ℕ) → bytes ≡ move_line names s (Shift from row) ++ more → ⊥)
    → (other : ℕ) (t : Position) (more : List ℕ) → IsShifted s other row t → bytes ≡ move_line names s (Shift other row) ++ more → ⊥
other_source names s bytes from row u sound legal none other t more also e =
    let same : other ≡ from = one_source s other row from row t u sound also legal in
    none more (subst (λ k. bytes ≡ move_line names s (Shift k row) ++ more) same e)

-- where a take is legal and they do not begin with its line
pub no_take_line : (names : List (List ℕ)) (s : Position) (bytes : List ℕ) (row : ℕ) (u : Position) → IsSound s → IsTaken s row u
    → ((more : List ℕ) → bytes ≡ move_line names s (Take row) ++ more → ⊥) → NoLine names s bytes
no_take_line names s bytes row u sound taken none (Shift from to) t more legal e = no_shift_beside_take s row from to u t sound taken legal
no_take_line names s bytes row u sound taken none (Take other) t more legal e =
    let same : other ≡ row = one_take s other row t u sound legal taken in
    none more (subst (λ k. bytes ≡ move_line names s (Take k) ++ more) same e)

-- where none is legal and all rows were looked at
pub no_line : (names : List (List ℕ)) (s : Position) (bytes : List ℕ) (i : ℕ) → IsSound s → NoneToTake s → length s.heights ≤ i → NoShiftLine names s bytes i → NoLine names s bytes
no_line names s bytes i sound no_take all none (Take row) t more legal e = no_take row t legal
no_line names s bytes i sound no_take all none (Shift from to) t more legal e =
    let there = row_there s to legal.onto (same_rows s.heights s.stacks sound.stacks_fit) legal.to_counts legal.target in
    none from to t more legal.to_counts (omega (arith, there, all)) legal e

-- what holds where there is none, where there is none
pub from_none : {A : Type 0} {P : Type 0} (o : Option A) → o ≡ None → IfNone o P → P
from_none {A} {P} o e h = subst (λ (v : Option A). IfNone v P) e h

-- what holds of what there is, where there is some
pub from_some : {A : Type 0} (P : A → Type 0) (o : Option A) (x : A) → o ≡ Some x → IfSome o P → P x
from_some {A} P o x e h = subst (λ (v : Option A). IfSome v P) e h
