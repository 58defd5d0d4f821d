-- The test of a row, as code makes it.
use Rattle.std.proofs.Common.{◌≡◌, ℕ, ◌-◌, ◌<◌, ◌≤◌, ◌==◌, true, false, nat_le, nat_lt, List, length, get_or, refl, sym, ap, ◌∙◌, arith}
use Rattle.std.proofs.lemmas.Bool.{le-leb, eq-eqb, ne_eqb}
use Rattle.crp_plan.specs.Bay.{Position}
use Rattle.crp_bay.specs.Positions.{source, stack_at, can_shift}
use Rattle.crp_bay.specs.Reached.{IsReached}
use Rattle.crp_bay.proofs.Reaching.{reached_ordered}

-- ranks are below 97
pub next_few : (s : Position) → IsReached s → s.next ≤ s.ordered → s.next < 97
next_few s r le = let b = reached_ordered s r in omega arith

-- the next container stands in the row
pub stands_there : (s : Position) (row : ℕ) → s.next ≤ s.ordered → 1 ≤ row → source s ≡ row - 1 → false ≡ can_shift s row
stands_there s row le lo same =
    let a : nat_le s.next s.ordered ≡ true = le-leb s.next s.ordered le in
    let b : nat_le 1 row ≡ true = le-leb 1 row lo in
    let c : (source s == row - 1) ≡ true = eq-eqb (source s) (row - 1) same in
    rw a (rw b (rw c refl))

-- another row is asked for room
pub asks_room : (s : Position) (row height : ℕ) (stack : List ℕ) → s.next ≤ s.ordered → 1 ≤ row → (source s ≡ row - 1 → ⊥) → stack_at s (row - 1) ≡ stack → get_or s.heights (row - 1) 0 ≡ height → nat_lt (length stack) height ≡ can_shift s row
asks_room s row height stack le lo apart here high =
    let a : nat_le s.next s.ordered ≡ true = le-leb s.next s.ordered le in
    let b : nat_le 1 row ≡ true = le-leb 1 row lo in
    let c : (source s == row - 1) ≡ false = ne_eqb (source s) (row - 1) apart in
    let e : nat_lt (length stack) height ≡ nat_lt (length (stack_at s (row - 1))) (get_or s.heights (row - 1) 0) = ap (λ v. nat_lt (length v) height) (sym here) ∙ ap (nat_lt (length (stack_at s (row - 1)))) (sym high) in
    e ∙ (rw a (rw b (rw c refl)))
