-- Blocking bound and gain fall by at most one together at a relocation, and not at all at a take.
use Rattle.std.proofs.Common.{◌≡◌, ◌≢◌, ℕ, suc, ◌+◌, ◌-◌, ◌<◌, ◌≤◌, Bool, true, false, ◌==◌, List, [], ◌∷◌, ◌++◌, length, map, Some, slice_get, slice_set, sum_by, refl, sym, ap, ◌∙◌, subst, ⊎_elim, arith}
use Rattle.std.specs.List.{list_any, AllByRecursion}
use Rattle.std.proofs.lemmas.List.{length-set}
use Rattle.std.proofs.lemmas.Bool.{cases_Bool, or_right, or_left, eqb-true, eq-eqb, both_ways}
use Rattle.std.proofs.lemmas.List.Sums.{sum_by-cons}
use Rattle.crp_plan.specs.declared.moves.Move.{Move}
use Rattle.crp_plan.specs.declared.moves.Move.TheVariants.{Shift, Take}
use Rattle.crp_plan.specs.Rows.{holds, occurrences}
use Rattle.crp_plan.specs.Bay.{Problem, IsProblem, IsAt, start, path_of, Position, IsSound, IsTaken, IsShifted, Runs, IsFinished, relocations}
use Rattle.crp_plan.proofs.Lists.{times, one_if, times-cons, occurrences-cons}
use Rattle.crp_plan.proofs.Sound.{sound_taken, sound_shifted, sound_runs, sound_start}
use Rattle.crp_plan.proofs.Determined.{no_shift_beside_take}
use Rattle.crp_plan.proofs.Paths.{last_shift, same_at}
use Rattle.crp_bounds.specs.Bounds.{holds_lower, blocking}
use Rattle.crp_bounds.proofs.Blocked.{blocking_taken, blocking_shifted, lower_from_held}
use Rattle.crp_bounds.proofs.Bounding.{blocking_end}
use Rattle.crp_chains.specs.declared.blocker.Blocker.{Blocker}
use Rattle.crp_chains.specs.Chains.{IsBlocker, IsChain, IsFamily, ranks_of, standing_at, is_open, open_rows, chain_gain, gain, without}
use Rattle.crp_chains.proofs.Stands.{beneath_stands}
use Rattle.crp_chains.proofs.Opening.{each_weaker, each_both, any_weaker, any_none, standing_push, closed_lower, open_room, rows_fewer, rows_fewer_at}
use Rattle.crp_chains.proofs.Clear.{IsClear, clear}
use Rattle.crp_chains.proofs.Kept.{stacks_shifted, put, onto_after, chain_shifted, later, chain_rest, others, others_lifted, open_shifted, open_lifted, IsLift, out, chain_lifted, later_turn, chain_passed, left, chain_taken, open_taken}

-- the rows that are open to any of a chain, by their test
abbrev opens : ℕ → List Blocker → ℕ → List ℕ → Bool
opens ordered chain h x = list_any (is_open ordered h x) chain

opens_shifted : (s : Position) (from to : ℕ) (t : Position) → IsClear s → (k : IsShifted s from to t) → (chain : List Blocker) → AllByRecursion (IsBlocker s) chain → (i h : ℕ) (x y : List ℕ) →
    slice_get s.stacks i ≡ Some x → slice_get (stacks_shifted s from to t k) i ≡ Some y → opens s.ordered chain h y ≡ true → opens s.ordered chain h x ≡ true
opens_shifted s from to t sound k chain each i h x y hx hy o =
    any_weaker (is_open s.ordered h y) (is_open s.ordered h x) chain
    (each_weaker (IsBlocker s) (λ b. is_open s.ordered h y b ≡ true → is_open s.ordered h x b ≡ true) (λ b blocks. open_shifted s from to t sound k b blocks i h x y hx hy) chain each) o

same_length : (s : Position) (from to : ℕ) (t : Position) → (k : IsShifted s from to t) → length s.stacks ≡ length (stacks_shifted s from to t k)
same_length s from to t k = omega (
  arith,
  length-set s.stacks (from - 1) k.rest,
  length-set (slice_set s.stacks (from - 1) k.rest) (to - 1) (k.onto ++ k.moved ∷ []),
)

-- no row is open to the chain after a shift that was not before
pub rows_shifted : (s : Position) (from to : ℕ) (t : Position) → IsClear s → (k : IsShifted s from to t) → (chain : List Blocker) → AllByRecursion (IsBlocker s) chain →
    open_rows (put s from to t k) chain ≤ open_rows s chain
rows_shifted s from to t sound k chain each =
    rows_fewer (opens s.ordered chain) (opens s.ordered chain) s.heights s.stacks (stacks_shifted s from to t k) (same_length s from to t k) (opens_shifted s from to t sound k chain each)

-- nor to the rest of it
rest_opens : (s : Position) (from to : ℕ) (t : Position) → IsClear s → (k : IsShifted s from to t) → (b : Blocker) (chain : List Blocker) → AllByRecursion (IsBlocker s) chain → (i h : ℕ) (x y : List ℕ) →
    slice_get s.stacks i ≡ Some x → slice_get (stacks_shifted s from to t k) i ≡ Some y → opens s.ordered chain h y ≡ true → opens s.ordered (b ∷ chain) h x ≡ true
rest_opens s from to t sound k b chain each i h x y hx hy o =
    or_right (is_open s.ordered h x b) (opens s.ordered chain h x) (opens_shifted s from to t sound k chain each i h x y hx hy o)

rows_rest : (s : Position) (from to : ℕ) (t : Position) → IsClear s → (k : IsShifted s from to t) → (b : Blocker) (chain : List Blocker) → AllByRecursion (IsBlocker s) chain →
    open_rows (put s from to t k) chain ≤ open_rows s (b ∷ chain)
rows_rest s from to t sound k b chain each =
    rows_fewer (opens s.ordered (b ∷ chain)) (opens s.ordered chain) s.heights s.stacks (stacks_shifted s from to t k) (same_length s from to t k) (rest_opens s from to t sound k b chain each)

-- where the moved container is well placed, the row that it goes to is open to none of the rest
rest_closed : (s : Position) (from to : ℕ) (t : Position) → (k : IsShifted s from to t) → (b c : Blocker) → b.rank ≡ k.moved → holds_lower s.ordered k.moved k.onto ≡ false →
    b.rank ≤ s.ordered → b.rank < c.rank → c.turn < b.rank → (h : ℕ) → is_open s.ordered h (k.onto ++ k.moved ∷ []) c ≡ false
rest_closed s from to t k b c own well leaves rising in_time h = closed_lower s.ordered h (k.onto ++ k.moved ∷ []) c low
  where
    held : (xs : List ℕ) → holds k.moved (xs ++ k.moved ∷ []) ≡ true
    held [] = or_left (k.moved == k.moved) false (eq-eqb k.moved k.moved refl)
    held (x ∷ xs) = or_right (x == k.moved) (holds k.moved (xs ++ k.moved ∷ [])) (held xs)

    stands : standing_at c.turn (k.onto ++ k.moved ∷ []) ≡ k.onto ++ k.moved ∷ []
    stands = standing_push s.ordered c.turn k.moved k.onto (omega arith) (omega arith) well

    low : holds_lower s.ordered c.rank (standing_at c.turn (k.onto ++ k.moved ∷ [])) ≡ true
    low = ap (holds_lower s.ordered c.rank) stands ∙ lower_from_held s.ordered k.moved c.rank (k.onto ++ k.moved ∷ []) (omega arith) (omega arith) (held k.onto)

-- so one row less is open to the rest than to the whole
rows_well : (s : Position) (from to : ℕ) (t : Position) → IsClear s → (k : IsShifted s from to t) → (b : Blocker) (chain : List Blocker) → IsChain s (b ∷ chain) → b.rank ≡ k.moved →
    holds_lower s.ordered k.moved k.onto ≡ false → suc (open_rows (put s from to t k) chain) ≤ open_rows s (b ∷ chain)
rows_well s from to t sound k b chain c own well =
    rows_fewer_at (opens s.ordered (b ∷ chain)) (opens s.ordered chain) s.heights s.stacks (stacks_shifted s from to t k) (to - 1) k.height k.onto (k.onto ++ k.moved ∷ [])
    (same_length s from to t k) (rest_opens s from to t sound k b chain c.blockers.1) k.limit k.target (onto_after s from to t k)
    (or_left (is_open s.ordered k.height k.onto b) (opens s.ordered chain k.height k.onto)
    (open_room s.ordered k.height k.onto b k.room (ap (λ x. holds_lower s.ordered x k.onto) own ∙ well)))
    (any_none (is_open s.ordered k.height (k.onto ++ k.moved ∷ [])) chain
    (each_both (λ d. (b.rank ≤ s.ordered) × (b.rank < d.rank)) (λ d. d.turn < b.rank) (λ d. is_open s.ordered k.height (k.onto ++ k.moved ∷ []) d ≡ false)
    (λ d p lt. rest_closed s from to t k b d own well p.0 p.1 lt k.height)
    chain (later s b chain c.linked) c.in_time))

-- what a shift makes of a chain: it is a chain without the moved container, which gains one less at most, and no less where the chain has it not or it is well placed
record Step (s : Position) (from to : ℕ) (t : Position) (k : IsShifted s from to t) (chain : List Blocker) : Type 0 where
  kept : IsChain (put s from to t k) (without k.moved chain)
  falls : chain_gain s chain ≤ chain_gain (put s from to t k) (without k.moved chain) + times k.moved (ranks_of chain)
  stays : holds_lower s.ordered k.moved k.onto ≡ false → chain_gain s chain ≤ chain_gain (put s from to t k) (without k.moved chain)

step : (s : Position) (from to : ℕ) (t : Position) → IsClear s → (k : IsShifted s from to t) → (chain : List Blocker) → IsChain s chain → Step s from to t k chain
step s from to t sound k [] c = record { kept = record { blockers = tt; linked = tt; in_time = tt }; falls = omega arith; stays = λ w. omega arith }
step s from to t sound k (b ∷ chain) c = ⊎_elim first other (cases_Bool (b.rank == k.moved))
  where
    rest_differ : AllByRecursion (λ d. d.rank ≢ k.moved) chain
    rest_differ = others s from to t sound k b chain c.blockers c.linked

    first : b.rank == k.moved ≡ true → Step s from to t k (b ∷ chain)
    first e =
        let own : b.rank ≡ k.moved = eqb-true b.rank k.moved e in
        let is : chain ≡ without k.moved (b ∷ chain) = rw e refl in
        let u : Position = put s from to t k in
        let once : 1 ≤ times k.moved (ranks_of (b ∷ chain)) = omega (arith, times-cons k.moved b.rank (ranks_of chain), ap one_if e) in
        record {
          kept = subst (IsChain u) is (chain_shifted s from to t k chain rest_differ (chain_rest s b chain c));
          falls = subst (λ l. chain_gain s (b ∷ chain) ≤ chain_gain u l + times k.moved (ranks_of (b ∷ chain))) is (omega (arith, once, rows_rest s from to t sound k b chain c.blockers.1));
          stays = λ well. subst (λ l. chain_gain s (b ∷ chain) ≤ chain_gain u l) is (omega (arith, rows_well s from to t sound k b chain c own well));
        }

    other : b.rank == k.moved ≡ false → Step s from to t k (b ∷ chain)
    other e =
        let ne : b.rank ≢ k.moved = λ h. both_ways (b.rank == k.moved) e (eq-eqb b.rank k.moved h) in
        let is : b ∷ chain ≡ without k.moved (b ∷ chain) = rw e refl in
        let u : Position = put s from to t k in
        let fewer : open_rows u (b ∷ chain) ≤ open_rows s (b ∷ chain) = rows_shifted s from to t sound k (b ∷ chain) c.blockers in
        record {
          kept = subst (IsChain u) is (chain_shifted s from to t k (b ∷ chain) (ne, rest_differ) c);
          falls = subst (λ l. chain_gain s (b ∷ chain) ≤ chain_gain u l + times k.moved (ranks_of (b ∷ chain))) is (omega (arith, fewer));
          stays = λ well. subst (λ l. chain_gain s (b ∷ chain) ≤ chain_gain u l) is (omega (arith, fewer));
        }

-- a rank stands no more often in a chain without one
times_without : (y x : ℕ) (chain : List Blocker) → times y (ranks_of (without x chain)) ≤ times y (ranks_of chain)
times_without y x [] = omega arith
times_without y x (b ∷ chain) = ⊎_elim
    (λ e. rw e (omega (arith, times-cons y b.rank (ranks_of chain))))
    (λ e. rw e (omega arith))
    (cases_Bool (b.rank == x))

occurrences_without : (y x : ℕ) (family : List (List Blocker)) → occurrences y (map ranks_of (map (without x) family)) ≤ occurrences y (map ranks_of family)
occurrences_without y x [] = omega arith
occurrences_without y x (chain ∷ family) = omega (
  arith,
  occurrences-cons y (ranks_of (without x chain)) (map ranks_of (map (without x) family)),
  occurrences-cons y (ranks_of chain) (map ranks_of family),
  times_without y x chain,
  occurrences_without y x family,
)

-- over a family
sum_falls : (f g : List Blocker → ℕ) (x : ℕ) (family : List (List Blocker)) → AllByRecursion (λ chain. f chain ≤ g (without x chain) + times x (ranks_of chain)) family →
    sum_by f family ≤ sum_by g (map (without x) family) + occurrences x (map ranks_of family)
sum_falls f g x [] a = omega arith
sum_falls f g x (chain ∷ family) a =
    let one : f chain ≤ g (without x chain) + times x (ranks_of chain) = a.0 in
    omega (
      arith,
      sum_by-cons f chain family,
      sum_by-cons g (without x chain) (map (without x) family),
      occurrences-cons x (ranks_of chain) (map ranks_of family),
      sum_falls f g x family a.1,
    )

sum_stays : (f g : List Blocker → ℕ) (h : List Blocker → List Blocker) (family : List (List Blocker)) → AllByRecursion (λ chain. f chain ≤ g (h chain)) family → sum_by f family ≤ sum_by g (map h family)
sum_stays f g h [] a = omega arith
sum_stays f g h (chain ∷ family) a =
    let one : f chain ≤ g (h chain) = a.0 in
    omega (arith, sum_by-cons f chain family, sum_by-cons g (h chain) (map h family), sum_stays f g h family a.1)

each_mapped : {X : Type 0} (P Q : X → Type 0) (h : X → X) → ((x : X) → P x → Q (h x)) → (xs : List X) → AllByRecursion P xs → AllByRecursion Q (map h xs)
each_mapped P Q h k [] a = tt
each_mapped P Q h k (x ∷ xs) a = (k x a.0, each_mapped P Q h k xs a.1)

-- this family at a position keeps the bound, but for so many
abbrev pub KeepsIn : ℕ → ℕ → List (List Blocker) → Position → Type 0
KeepsIn n bound after t = IsFamily t after × (bound ≤ n + (blocking t + gain t after))

-- some family does
abbrev pub Keeps : ℕ → ℕ → Position → Type 0
Keeps n bound t = (after : List (List Blocker)) × IsFamily t after × (bound ≤ n + (blocking t + gain t after))

-- what a step makes of a family: it is a family without the container, which gains one less at most
pub record FamilyStep (s u : Position) (x : ℕ) (family : List (List Blocker)) : Type 0 where
  pub kept : IsFamily u (map (without x) family)
  pub falls : gain s family ≤ gain u (map (without x) family) + occurrences x (map ranks_of family)
  pub fewer : gain s family ≤ 1 + gain u (map (without x) family)

family_step : (s u : Position) (x : ℕ) (family : List (List Blocker)) → IsFamily s family → ((chain : List Blocker) → IsChain s chain → IsChain u (without x chain)) →
    ((chain : List Blocker) → IsChain s chain → chain_gain s chain ≤ chain_gain u (without x chain) + times x (ranks_of chain)) → FamilyStep s u x family
family_step s u x family f keep fall =
    let falls = sum_falls (chain_gain s) (chain_gain u) x family
    (each_weaker (IsChain s) (λ chain. chain_gain s chain ≤ chain_gain u (without x chain) + times x (ranks_of chain)) fall family f.chains) in
    record {
      kept = record {
        chains = each_mapped (IsChain s) (IsChain u) (without x) keep family f.chains;
        apart = λ y. omega (arith, occurrences_without y x family, f.apart y);
      };
      falls = falls;
      fewer = omega (arith, falls, f.apart x);
    }

pub family_shifted : (s : Position) (family : List (List Blocker)) (from to : ℕ) (t : Position) → IsClear s → IsFamily s family → (k : IsShifted s from to t) → FamilyStep s (put s from to t k) k.moved family
family_shifted s family from to t sound f k = family_step s (put s from to t k) k.moved family f
    (λ chain c. let r = step s from to t sound k chain c in r.kept) (λ chain c. let r = step s from to t sound k chain c in r.falls)

-- and no less where it is well placed
pub family_well : (s : Position) (family : List (List Blocker)) (from to : ℕ) (t : Position) → IsClear s → IsFamily s family → (k : IsShifted s from to t) → holds_lower s.ordered k.moved k.onto ≡ false →
    gain s family ≤ gain (put s from to t k) (map (without k.moved) family)
family_well s family from to t sound f k well = sum_stays (chain_gain s) (chain_gain (put s from to t k)) (without k.moved) family
    (each_weaker (IsChain s) (λ chain. chain_gain s chain ≤ chain_gain (put s from to t k) (without k.moved chain))
    (λ chain c. let r = step s from to t sound k chain c in r.stays well) family f.chains)

-- the same where it is lifted out
rows_lifted : (s : Position) (i : ℕ) (rest : List ℕ) (x : ℕ) → IsClear s → IsLift s i rest x → (whole chain : List Blocker) → AllByRecursion (IsBlocker s) chain →
    ((h : ℕ) (y : List ℕ) → opens s.ordered chain h y ≡ true → opens s.ordered whole h y ≡ true) → open_rows (out s i rest) chain ≤ open_rows s whole
rows_lifted s i rest x sound k whole chain each more =
    rows_fewer (opens s.ordered whole) (opens s.ordered chain) s.heights s.stacks (slice_set s.stacks i rest) (sym (length-set s.stacks i rest))
    (λ j h y z hy hz o. more h y (any_weaker (is_open s.ordered h z) (is_open s.ordered h y) chain
    (each_weaker (IsBlocker s) (λ b. is_open s.ordered h z b ≡ true → is_open s.ordered h y b ≡ true) (λ b blocks. open_lifted s i rest x sound k b blocks j h y z hy hz) chain each) o))

record LiftStep (s u : Position) (x : ℕ) (chain : List Blocker) : Type 0 where
  kept : IsChain u (without x chain)
  falls : chain_gain s chain ≤ chain_gain u (without x chain) + times x (ranks_of chain)

lift_step : (s : Position) (i : ℕ) (rest : List ℕ) (x : ℕ) → IsClear s → IsLift s i rest x → (chain : List Blocker) → IsChain s chain → LiftStep s (out s i rest) x chain
lift_step s i rest x sound k [] c = record { kept = record { blockers = tt; linked = tt; in_time = tt }; falls = omega arith }
lift_step s i rest x sound k (b ∷ chain) c = ⊎_elim first other (cases_Bool (b.rank == x))
  where
    u : Position
    u = out s i rest

    rest_differ : AllByRecursion (λ d. d.rank ≢ x) chain
    rest_differ = others_lifted s i rest x sound k b chain c.blockers c.linked

    first : b.rank == x ≡ true → LiftStep s (out s i rest) x (b ∷ chain)
    first e =
        let is : chain ≡ without x (b ∷ chain) = rw e refl in
        let once : 1 ≤ times x (ranks_of (b ∷ chain)) = omega (arith, times-cons x b.rank (ranks_of chain), ap one_if e) in
        let fewer : open_rows (out s i rest) chain ≤ open_rows s (b ∷ chain) = rows_lifted s i rest x sound k (b ∷ chain) chain c.blockers.1 (λ h y o. or_right (is_open s.ordered h y b) (opens s.ordered chain h y) o) in
        record {
          kept = subst (IsChain (out s i rest)) is (chain_lifted s i rest x k.stack chain rest_differ (chain_rest s b chain c));
          falls = subst (λ l. chain_gain s (b ∷ chain) ≤ chain_gain (out s i rest) l + times x (ranks_of (b ∷ chain))) is (omega (arith, once, fewer));
        }

    other : b.rank == x ≡ false → LiftStep s (out s i rest) x (b ∷ chain)
    other e =
        let ne : b.rank ≢ x = λ h. both_ways (b.rank == x) e (eq-eqb b.rank x h) in
        let is : b ∷ chain ≡ without x (b ∷ chain) = rw e refl in
        let fewer : open_rows (out s i rest) (b ∷ chain) ≤ open_rows s (b ∷ chain) = rows_lifted s i rest x sound k (b ∷ chain) (b ∷ chain) c.blockers (λ h y o. o) in
        record {
          kept = subst (IsChain (out s i rest)) is (chain_lifted s i rest x k.stack (b ∷ chain) (ne, rest_differ) c);
          falls = subst (λ l. chain_gain s (b ∷ chain) ≤ chain_gain (out s i rest) l + times x (ranks_of (b ∷ chain))) is (omega (arith, fewer));
        }

pub family_lifted : (s : Position) (family : List (List Blocker)) (i : ℕ) (rest : List ℕ) (x : ℕ) → IsClear s → IsFamily s family → IsLift s i rest x → FamilyStep s (out s i rest) x family
family_lifted s family i rest x sound f k = family_step s (out s i rest) x family f
    (λ chain c. let r = lift_step s i rest x sound k chain c in r.kept) (λ chain c. let r = lift_step s i rest x sound k chain c in r.falls)

-- a shift takes one at most off the blocking bound and the gain together
pub gain_shifted : (s : Position) (family : List (List Blocker)) (from to : ℕ) (t : Position) → IsSound s → IsFamily s family → (k : IsShifted s from to t) → KeepsIn 1 (blocking s + gain s family) (map (without k.moved) family) t
gain_shifted s family from to t sound f k =
    let r = family_shifted s family from to t (clear s sound) f k in
    subst (KeepsIn 1 (blocking s + gain s family) (map (without k.moved) family)) (sym k.after) (r.kept, bound)
  where
    blocks : blocking (put s from to t k) + 1 ≡ blocking s + one_if (holds_lower s.ordered k.moved k.onto)
    blocks = ap (λ x. x + 1) (sym (ap blocking k.after)) ∙ blocking_shifted s from to t sound k

    bound : blocking s + gain s family ≤ 1 + (blocking (put s from to t k) + gain (put s from to t k) (map (without k.moved) family))
    bound = ⊎_elim
        (λ bad. let r = family_shifted s family from to t (clear s sound) f k in omega (arith, blocks, ap one_if bad, r.fewer))
        (λ well. omega (arith, blocks, ap one_if well, family_well s family from to t (clear s sound) f k well))
        (cases_Bool (holds_lower s.ordered k.moved k.onto))

-- a take leaves a family what it is, and what it gains
pub family_taken : (s : Position) (family : List (List Blocker)) (row : ℕ) (t : Position) → IsClear s → IsFamily s family → (k : IsTaken s row t) →
    IsFamily (left s row t k) family × (gain s family ≤ gain (left s row t k) family)
family_taken s family row t sound f k = (kept, gains family f.chains)
  where
    kept : IsFamily (left s row t k) family
    kept = record {
      chains = each_weaker (IsChain s) (IsChain (left s row t k)) (λ chain c. chain_taken s row t sound k chain c) family f.chains;
      apart = f.apart;
    }

    rows : (chain : List Blocker) → IsChain s chain → open_rows (left s row t k) chain ≤ open_rows s chain
    rows chain c = rows_fewer (opens s.ordered chain) (opens s.ordered chain) s.heights s.stacks (slice_set s.stacks (row - 1) k.rest) (sym (length-set s.stacks (row - 1) k.rest))
        (λ i h x y hx hy o. any_weaker (is_open s.ordered h y) (is_open s.ordered h x) chain
        (each_weaker (IsBlocker s) (λ b. is_open s.ordered h y b ≡ true → is_open s.ordered h x b ≡ true) (λ b blocks. open_taken s row t sound k b blocks i h x y hx hy) chain c.blockers) o)

    gains : (chains : List (List Blocker)) → AllByRecursion (IsChain s) chains → gain s chains ≤ gain (left s row t k) chains
    gains [] a = omega arith
    gains (chain ∷ chains) a =
        omega (
          arith,
          sum_by-cons (chain_gain s) chain chains,
          sum_by-cons (chain_gain (left s row t k)) chain chains,
          rows chain a.0,
          gains chains a.1,
        )

pub gain_taken : (s : Position) (family : List (List Blocker)) (row : ℕ) (t : Position) → IsSound s → IsFamily s family → IsTaken s row t →
    IsFamily t family × (blocking s + gain s family ≤ blocking t + gain t family)
gain_taken s family row t sound f k =
    let r = family_taken s family row t (clear s sound) f k in
    subst (λ v. IsFamily v family × (blocking s + gain s family ≤ blocking v + gain v family)) (sym k.after) (r.0, omega (arith, same, r.1))
  where
    same : blocking (left s row t k) ≡ blocking s
    same = sym (ap blocking k.after) ∙ blocking_taken s row t sound k

-- a turn that is passed over changes nothing
pub family_passed : (s : Position) (family : List (List Blocker)) (n : ℕ) → IsFamily s family → IsFamily (later_turn s n) family
family_passed s family n f = record {
  chains = each_weaker (IsChain s) (IsChain (later_turn s n)) (λ chain c. chain_passed s n chain c) family f.chains;
  apart = f.apart;
}

-- over whole runs
pub gain_runs : (s : Position) (family : List (List Blocker)) (moves : List Move) (t : Position) → IsSound s → IsFamily s family → Runs s moves t →
    Keeps (relocations moves) (blocking s + gain s family) t
gain_runs s family [] t sound f r = subst (Keeps 0 (blocking s + gain s family)) r (family, f, omega arith)
gain_runs s family (Shift from to ∷ moves) t sound f r =
    let k : IsShifted s from to r.0 = r.1 in
    let one = gain_shifted s family from to r.0 sound f k in
    let rest = gain_runs r.0 (map (without k.moved) family) moves t (sound_shifted s from to r.0 sound k) one.0 r.2 in
    (rest.0, rest.1, omega (arith, one.1, rest.2))
gain_runs s family (Take row ∷ moves) t sound f r =
    let one = gain_taken s family row r.0 sound f r.1 in
    let rest = gain_runs r.0 family moves t (sound_taken s row r.0 sound r.1) one.0 r.2 in
    (rest.0, rest.1, omega (arith, one.1, rest.2))

-- at the end no chain has a container
pub gain_past : (t : Position) → IsClear t → t.ordered < t.next → (family : List (List Blocker)) → AllByRecursion (IsChain t) family → gain t family ≡ 0
gain_past t sound end [] a = refl
gain_past t sound end ([] ∷ family) a = omega (arith, sum_by-cons (chain_gain t) [] family, gain_past t sound end family a.1)
gain_past t sound end ((b ∷ chain) ∷ family) a =
    let c : IsChain t (b ∷ chain) = a.0 in
    let i : IsBlocker t b = c.blockers.0 in
    let le : b.turn ≤ t.ordered = i.is_ordered in
    absurd (omega (arith, beneath_stands t.stacks i.beneath b.rank b.turn i.stands i.turn_stands, sound.gone b.turn (omega arith)))

pub gain_end : (t : Position) → IsSound t → IsFinished t → (family : List (List Blocker)) → AllByRecursion (IsChain t) family → gain t family ≡ 0
gain_end t sound end family a = gain_past t (clear t sound) (omega arith) family a

-- the bound is below every run to the end
pub gain_bound : (s : Position) (family : List (List Blocker)) (moves : List Move) (t : Position) → IsSound s → IsFamily s family → Runs s moves t → IsFinished t →
    blocking s + gain s family ≤ relocations moves
gain_bound s family moves t sound f r end =
    let rest = gain_runs s family moves t sound f r in
    let sound' = sound_runs s moves t sound r in
    let after : IsFamily t rest.0 = rest.1 in
    omega (arith, rest.2, blocking_end t sound' end, gain_end t sound' end rest.0 after.chains)

-- takes leave a family what it is
takes_keep : (s : Position) (family : List (List Blocker)) (moves : List Move) (t : Position) → IsSound s → IsFamily s family → Runs s moves t → path_of moves ≡ [] →
    IsFamily t family × (blocking s + gain s family ≤ blocking t + gain t family)
takes_keep s family [] t sound f r e = subst (λ v. IsFamily v family × (blocking s + gain s family ≤ blocking v + gain v family)) r (f, omega arith)
takes_keep s family (Shift from to ∷ moves) t sound f r e = cc
takes_keep s family (Take row ∷ moves) t sound f r e =
    let one = gain_taken s family row r.0 sound f r.1 in
    let rest = takes_keep r.0 family moves t (sound_taken s row r.0 sound r.1) one.0 r.2 e in
    (rest.0, omega (arith, one.1, rest.1))

-- along a legal row the family goes on without the container that is moved, and the bound falls by one at most
pub gain_path : (p : Problem) (path : List ℕ) (row : ℕ) (s t : Position) (family : List (List Blocker)) → IsProblem p → IsAt p path s → IsAt p (path ++ row ∷ []) t → IsFamily s family →
    (x : ℕ) × IsFamily t (map (without x) family) × (blocking s + gain s family ≤ 1 + (blocking t + gain t (map (without x) family)))
gain_path p path row s t family is a b f =
    let l = last_shift (start p) t b.moves path row b.runs b.by_path in
    let sound : IsSound l.before = sound_runs (start p) l.first l.before (sound_start p is) l.to_it in
    let k : IsShifted l.before l.from row l.after = l.shift in
    let here : s ≡ l.before = same_at p path s l.before is a (record {
      moves = l.first;
      runs = l.to_it;
      by_path = l.by_path;
      no_take = λ r v n. no_shift_beside_take l.before r l.from row v l.after sound n k;
    }) in
    let one = gain_shifted l.before family l.from row l.after sound (subst (λ v. IsFamily v family) here f) k in
    let rest = takes_keep l.after (map (without k.moved) family) l.takes t (sound_shifted l.before l.from row l.after sound k) one.0 l.from_it l.all_takes in
    (k.moved, rest.0, omega (arith, ap (λ v. blocking v + gain v family) here, one.1, rest.1))
