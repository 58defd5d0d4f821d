use Rattle.std.proofs.Common.{ℕ, List, [], ◌∷◌, ◌≤◌, length, slice_index_or, refl, ap, subst, arith}
use Rattle.std.specs.Prelude.{Contains}
use Rattle.crp_callers.proofs.positions.first_way_on.Goals as goal

has_first : (xs : List ℕ) → 1 ≤ length xs → Contains xs (slice_index_or xs 0 0)
has_first [] some = absurd (omega arith)
has_first (x ∷ xs) some = (0, omega arith, refl)

pub returns-in_default-clause-none : goal.returns-in_default-clause-none
returns-in_default-clause-none c = λ p path row is at legal.
    let there = (c.targets-targets.ensures.legal p path row is at).1 legal in
    absurd (omega (arith, there.1, ap length c.as_slice.ensures.value, c.in_default.len_below))

pub returns-clause-some : goal.returns-clause-some
returns-clause-some c = λ p path is at.
    let first = slice_index_or c.as_slice.result.now 0 0 in
    (c.targets-targets.ensures.legal p path first is at).0
    (subst (λ (xs : List ℕ). Contains xs first) c.as_slice.ensures.value (has_first c.as_slice.result.now c.in-len1-up.len_at_least))
