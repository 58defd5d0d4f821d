-- The state of all workers, as the thread that started them takes it.
use Rattle.std.proofs.Common.{◌≡◌, ◌<◌, ◌≤◌, ℕ, zero, suc, ◌+◌, ◌==◌, if◌then◌else◌, ⊎_elim, Bool, true, false, List, [], ◌∷◌, length, map, All, Option, Some, sym, refl, ap, ◌∙◌, subst, arith}
use Rattle.std.specs.Prelude.{slice_get}
use Rattle.std.proofs.lemmas.Bool.{cases_Bool, eqb-true}
use Rattle.crp_incumbent.specs.Rule.{view_joined}
use Rattle.crp_incumbent.specs.Seats.{Shared, Seat}
use Rattle.crp_plan.specs.Plans.{ProblemPath}
use Rattle.crp_pool.specs.Weigh.{weigh, SameNames}
use Rattle.crp_pool.specs.Deques.{DequeId}
use Rattle.crp_pool.specs.Seats.{PoolSeat, seat_number, numbers, IsSeatOf, IsEverySeat, all_puts, all_takes}
use Rattle.crp_pool.proofs.Hands.{weigh-append}
use Rattle.crp_solve.specs.Groups.{Crew, Keeping, root_at, roots, place_key, IsGroup, IsUnusedSeat}
use Rattle.crp_search.specs.Searched.{Grants}
use Rattle.crp_gather.specs.Settled.{branches_in_all}
use Rattle.crp_solve.specs.Rests.{IsDoneUpTo}
use Rattle.crp_solve.proofs.Granting.{grants_beside}

-- a name of the root for each place, by its number
abbrev root_weight : (List ℕ → ℕ) → ℕ → ℕ
root_weight h zero = h []
root_weight h (suc n) = 0

at_number : (h : List ℕ → ℕ) (n : ℕ) → weigh h (if n == 0 then [] ∷ [] else []) ≡ root_weight h n
at_number h zero = omega arith
at_number h (suc n) = ⊎_elim (λ (t : (suc n == 0) ≡ true). absurd (let e = eqb-true (suc n) 0 t in omega arith))
    (λ (f : (suc n == 0) ≡ false). ap (λ (b : Bool). weigh h (if b then [] ∷ [] else [])) f) (cases_Bool (suc n == 0))

roots_by_number : (h : List ℕ → ℕ) (places : List PoolSeat) → weigh h (roots places) ≡ weigh (root_weight h) (map seat_number places)
roots_by_number h [] = refl
roots_by_number h (x ∷ places) = omega (arith, weigh-append h (root_at x) (roots places), at_number h x.number, roots_by_number h places)

no_root : (h : List ℕ → ℕ) (a : ℕ) → 1 ≤ a → root_weight h a ≡ 0
no_root h zero some = absurd (omega arith)
no_root h (suc a) some = refl

none_from : (h : List ℕ → ℕ) (a n : ℕ) → 1 ≤ a → weigh (root_weight h) (numbers a n) ≡ 0
none_from h a zero some = refl
none_from h a (suc n) some = omega (arith, no_root h a some, none_from h (a + 1) n (omega arith))

one_from : (h : List ℕ → ℕ) (n : ℕ) → 0 < n → weigh (root_weight h) (numbers 0 n) ≡ h []
one_from h zero some = absurd (omega arith)
one_from h (suc n) some = omega (arith, none_from h (0 + 1) n (omega arith))

-- at all places of a pool the root's name is put once
pub one_root : (pool : List DequeId) (places : List PoolSeat) → 0 < length pool → IsEverySeat pool places → SameNames (roots places) ([] ∷ [])
one_root pool places some every h = let e = every.1 (root_weight h) in omega (arith, roots_by_number h places, one_from h (length pool) some)

-- what the pool gives back is counted, with a seat that claimed nothing
pub done_with_left : (keeps : Keeping) (of : Shared) (left : Seat) (g : Crew) (refused : ℕ) (best : Option ProblemPath) (pool : List DequeId) (puts takes : List (List ℕ)) → IsUnusedSeat of left → IsGroup keeps g → g.of ≡ of → g.short ≡ false → 0 < length pool →
    IsEverySeat pool g.places → keeps of (record (view_joined left.view g.view) { refused = refused }) best g.parts → SameNames puts (all_puts g.places) → SameNames takes (all_takes g.places) → IsDoneUpTo keeps of (record (view_joined left.view g.view) { refused = refused }) best g.parts puts takes
done_with_left keeps of left g refused best pool puts takes new k at ok some every kept put took =
    let c = k.counted ok in
    record {
      kept = kept;
      grants = grants_beside of.key.thin (branches_in_all g.parts) g.view.granted left.view.granted new.none_granted (subst (λ (o : Shared). Grants o.key.thin 0 (branches_in_all g.parts) g.view.granted) at c.grants);
      taken = λ h. (let a = took h in let b = c.takes h in omega (arith, one_root pool g.places some every h, weigh-append h (roots g.places) (all_takes g.places)));
      put = λ h. put h ∙ c.puts h;
    }

-- the same places, of which each is one of the pool
numbers_of : (ss : List PoolSeat) → map seat_number ss ≡ map (λ (t : List DequeId × DequeId × ℕ). t.2) (map place_key ss)
numbers_of [] = refl
numbers_of (s ∷ ss) = ap (λ l. s.number ∷ l) (numbers_of ss)

seats_of : (a b : List PoolSeat) (pool : List DequeId) → map place_key a ≡ map place_key b → All (IsSeatOf pool) b → All (IsSeatOf pool) a
seats_of [] b pool e all k d lt = absurd (omega arith)
seats_of (x ∷ xs) [] pool e all k d lt = absurd (cc)
seats_of (x ∷ xs) (y ∷ ys) pool e all zero d lt =
    let first : place_key x ≡ place_key y = cc in
    let h = all 0 d (omega arith) in
    let n : x.number ≡ y.number = ap (λ (t : List DequeId × DequeId × ℕ). t.2) first in
    let q : x.deque ≡ y.deque = ap (λ (t : List DequeId × DequeId × ℕ). t.1) first in
    (ap (λ (t : List DequeId × DequeId × ℕ). t.0) first ∙ h.0, ap (slice_get pool) n ∙ h.1 ∙ ap (λ (u : DequeId). Some u) (sym q))
seats_of (x ∷ xs) (y ∷ ys) pool e all (suc k) d lt = let rest : map place_key xs ≡ map place_key ys = cc in seats_of xs ys pool rest (λ j q less. all (suc j) q (omega arith)) k d (omega arith)

pub every_place : (a b : List PoolSeat) (pool : List DequeId) → map place_key a ≡ map place_key b → IsEverySeat pool b → IsEverySeat pool a
every_place a b pool e every = (seats_of a b pool e every.0, λ h. ap (weigh h) (numbers_of a ∙ ap (map (λ (t : List DequeId × DequeId × ℕ). t.2)) e ∙ sym (numbers_of b)) ∙ every.1 h)

-- a pool with a place has a deque
pub some_deque : (pool : List DequeId) (places : List PoolSeat) → 0 < length places → IsEverySeat pool places → 0 < length pool
some_deque [] [] some every = absurd (omega arith)
some_deque [] (x ∷ places) some every = absurd (let e = every.1 (λ n. 1) in omega arith)
some_deque (d ∷ pool) places some every = omega arith
