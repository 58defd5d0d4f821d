-- The scopes of a stack, and what they are in a turn.
use Rattle.std.proofs.Common.{◌≡◌, ℕ, suc, ◌+◌, ◌-◌, ◌<◌, ◌≤◌, min, nat_lt, List, [], ◌∷◌, ◌++◌, length, refl, sym, ap, ◌∙◌, ⊎_elim, arith}
use Rattle.std.specs.Prelude.{if◌then◌else◌}
use Rattle.std.proofs.lemmas.Bool.{cases_lt, lt-ltb, le-ltb}
use Rattle.crp_prices.specs.Prices.{standing_at, least_of}
use Rattle.crp_prices.specs.declared.job.MarkedJob.{MarkedJob}
use Rattle.crp_prices.specs.Pass.{Scope, with_one, with_all, scopes_of, worth}
use Rattle.crp_prices.proofs.Growing.{ArePartOf, part_own, best_grows}

-- the scopes that still go on in a turn
abbrev pub going_on : ℕ → List Scope → List Scope
going_on v [] = []
going_on v (s ∷ scopes) = if nat_lt s.low v then going_on v scopes else s ∷ scopes

-- a container that is put on
pub one_below : (c : ℕ) (s : Scope) (scopes : List Scope) → c < s.low → with_one c (s ∷ scopes) ≡ record { low = c; size = suc s.size } ∷ s ∷ scopes
one_below c s scopes lt = rw (lt-ltb c s.low lt) refl

pub one_above : (c : ℕ) (s : Scope) (scopes : List Scope) → s.low ≤ c → with_one c (s ∷ scopes) ≡ record { low = s.low; size = suc s.size } ∷ scopes
one_above c s scopes le = rw (le-ltb c s.low le) refl

over : (v : ℕ) (s : Scope) (scopes : List Scope) → s.low < v → going_on v (s ∷ scopes) ≡ going_on v scopes
over v s scopes lt = rw (lt-ltb s.low v lt) refl

still : (v : ℕ) (s : Scope) (scopes : List Scope) → v ≤ s.low → going_on v (s ∷ scopes) ≡ s ∷ scopes
still v s scopes le = rw (le-ltb s.low v le) refl

-- what stands on a scope that is over is gone too
gone : (v : ℕ) (s : Scope) (scopes onward : List Scope) (stack : List ℕ) → s.low < v → going_on v scopes ≡ onward → going_on v (with_all (s ∷ scopes) stack) ≡ onward
gone v s scopes onward [] lt e = over v s scopes lt ∙ e
gone v s scopes onward (c ∷ stack) lt e = ⊎_elim
    (λ below. ap (λ l. going_on v (with_all l stack)) (one_below c s scopes below)
    ∙ gone v (record { low = c; size = suc s.size }) (s ∷ scopes) onward stack (omega arith) (over v s scopes lt ∙ e))
    (λ above. ap (λ l. going_on v (with_all l stack)) (one_above c s scopes above)
    ∙ gone v (record { low = s.low; size = suc s.size }) scopes onward stack lt e)
    (cases_lt c s.low)

-- the scopes that go on are those of what still stands
pub going_all : (v : ℕ) (s : Scope) (scopes : List Scope) (stack : List ℕ) → v ≤ s.low → going_on v (with_all (s ∷ scopes) stack) ≡ with_all (s ∷ scopes) (standing_at v stack)
going_all v s scopes [] le = still v s scopes le
going_all v s scopes (c ∷ stack) le = ⊎_elim
    (λ lt.
    let none : standing_at v (c ∷ stack) ≡ [] = rw (lt-ltb c v lt) refl in
    ap (λ l. going_on v (with_all l stack)) (one_below c s scopes (omega arith))
    ∙ gone v (record { low = c; size = suc s.size }) (s ∷ scopes) (s ∷ scopes) stack lt (still v s scopes le)
    ∙ ap (λ l. with_all (s ∷ scopes) l) (sym none))
    (λ ge.
    let more : standing_at v (c ∷ stack) ≡ c ∷ standing_at v stack = rw (le-ltb c v ge) refl in
    ⊎_elim
    (λ below. ap (λ l. going_on v (with_all l stack)) (one_below c s scopes below)
    ∙ going_all v (record { low = c; size = suc s.size }) (s ∷ scopes) stack ge
    ∙ ap (λ l. with_all l (standing_at v stack)) (sym (one_below c s scopes below))
    ∙ ap (λ l. with_all (s ∷ scopes) l) (sym more))
    (λ above. ap (λ l. going_on v (with_all l stack)) (one_above c s scopes above)
    ∙ going_all v (record { low = s.low; size = suc s.size }) scopes stack le
    ∙ ap (λ l. with_all l (standing_at v stack)) (sym (one_above c s scopes above))
    ∙ ap (λ l. with_all (s ∷ scopes) l) (sym more))
    (cases_lt c s.low))
    (cases_lt c v)

-- one more on top
pub all_one : (scopes : List Scope) (stack : List ℕ) (c : ℕ) → with_all scopes (stack ++ c ∷ []) ≡ with_one c (with_all scopes stack)
all_one scopes [] c = refl
all_one scopes (x ∷ stack) c = all_one (with_one x scopes) stack c

-- the innermost scope
pub record Innermost (scopes : List Scope) (size low : ℕ) : Type 0 where
  pub scope : Scope
  pub outer : List Scope
  pub are : scopes ≡ scope ∷ outer
  pub size_is : scope.size ≡ size
  pub low_is : scope.low ≡ low

pub innermost_all : (ordered : ℕ) (s : Scope) (scopes : List Scope) (stack : List ℕ) → s.low ≤ suc ordered →
    Innermost (with_all (s ∷ scopes) stack) (s.size + length stack) (min s.low (least_of ordered stack))
innermost_all ordered s scopes [] le = record { scope = s; outer = scopes; are = refl; size_is = omega arith; low_is = omega arith }
innermost_all ordered s scopes (c ∷ stack) le = ⊎_elim
    (λ below.
    let r = innermost_all ordered (record { low = c; size = suc s.size }) (s ∷ scopes) stack (omega arith) in
    record { scope = r.scope; outer = r.outer; are = ap (λ l. with_all l stack) (one_below c s scopes below) ∙ r.are; size_is = omega (arith, r.size_is); low_is = omega (arith, r.low_is) })
    (λ above.
    let r = innermost_all ordered (record { low = s.low; size = suc s.size }) scopes stack le in
    record { scope = r.scope; outer = r.outer; are = ap (λ l. with_all l stack) (one_above c s scopes above) ∙ r.are; size_is = omega (arith, r.size_is); low_is = omega (arith, r.low_is) })
    (cases_lt c s.low)

pub innermost : (ordered : ℕ) (stack : List ℕ) → Innermost (scopes_of ordered stack) (length stack) (least_of ordered stack)
innermost ordered stack =
    let r = innermost_all ordered (record { low = suc ordered; size = 0 }) [] stack (omega arith) in
    record { scope = r.scope; outer = r.outer; are = r.are; size_is = omega (arith, r.size_is); low_is = omega (arith, r.low_is, least_most stack) }
  where
    least_most : (xs : List ℕ) → least_of ordered xs ≤ suc ordered
    least_most [] = omega arith
    least_most (x ∷ xs) = omega (arith, least_most xs)

pub scopes_stand : (v ordered : ℕ) (stack : List ℕ) → v ≤ ordered → going_on v (scopes_of ordered stack) ≡ scopes_of ordered (standing_at v stack)
scopes_stand v ordered stack le = going_all v (record { low = suc ordered; size = 0 }) [] stack (omega arith)

-- scopes are worth no less by more jobs, and from an earlier turn on
pub worth_grows : (price : ℕ → ℕ → ℕ) (unit ordered : ℕ) (all : List MarkedJob) (height from from' : ℕ) (part jobs : List MarkedJob) (scopes : List Scope) → from' ≤ from → ArePartOf part jobs →
    worth price unit ordered all height from part scopes ≤ worth price unit ordered all height from' jobs scopes
worth_grows price unit ordered all height from from' part jobs [] le p = omega arith
worth_grows price unit ordered all height from from' part jobs (s ∷ scopes) le p = omega (
  arith,
  best_grows price unit ordered all (height - s.size) s.low from from' part jobs le p,
  worth_grows price unit ordered all height (suc s.low) (suc s.low) part jobs scopes (omega arith) p,
)

-- nothing is gained when scopes end
pub worth_on : (price : ℕ → ℕ → ℕ) (unit ordered : ℕ) (all : List MarkedJob) (height from v : ℕ) (jobs : List MarkedJob) (scopes : List Scope) → from ≤ v →
    worth price unit ordered all height v jobs (going_on v scopes) ≤ worth price unit ordered all height from jobs scopes
worth_on price unit ordered all height from v jobs [] le = omega arith
worth_on price unit ordered all height from v jobs (s ∷ scopes) le = ⊎_elim
    (λ lt. omega (arith, ap (λ l. worth price unit ordered all height v jobs l) (over v s scopes lt), worth_on price unit ordered all height (suc s.low) v jobs scopes (omega arith)))
    (λ ge. omega (
      arith,
      ap (λ l. worth price unit ordered all height v jobs l) (still v s scopes ge),
      best_grows price unit ordered all (height - s.size) s.low v from jobs jobs le (part_own jobs),
    ))
    (cases_lt s.low v)
