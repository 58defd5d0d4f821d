-- What a step on one way does to all of them, and to the seat.
use Rattle.std.proofs.Common.{◌≡◌, ◌<◌, ◌≤◌, ℕ, zero, suc, Option, None, Some, MatchOption, List, [], ◌∷◌, ◌++◌, length, map, All, get_or, set, sym, refl, ap, ◌∙◌, arith}
use Rattle.std.proofs.lemmas.List.{length-map}
use Rattle.crp_pool.specs.declared.hand.Hand.{Hand}
use Rattle.crp_pool.specs.Weigh.{weigh, SameNames}
use Rattle.crp_pool.specs.Hand.{takes, taken_by}
use Rattle.crp_pool.specs.Deques.{DequeId, Own, Way, way_deque, shape, guest}
use Rattle.crp_pool.specs.Seats.{SeatKeeps}
use Rattle.crp_pool.proofs.Hands.{weigh-append}

-- one of them took a name: so did all of them together
pub taken_set : {X : Type 0} (f : X → Hand) (xs : List X) (i : ℕ) (w d : X) (x : List ℕ) → i < length xs → f w ≡ takes (f (get_or xs i d)) (x ∷ [])
    → SameNames (taken_by (map f (set xs i w))) (taken_by (map f xs) ++ x ∷ [])
taken_set f [] i w d x lt e h = absurd (omega arith)
taken_set f (v ∷ vs) zero w d x lt e h =
    let t : weigh h (f w).taken ≡ weigh h ((f v).taken ++ x ∷ []) = ap (λ (u : Hand). weigh h u.taken) e in
    let rest : List (List ℕ) = taken_by (map f vs) in
    omega (arith, weigh-append h (f v).taken (x ∷ []), weigh-append h (f w).taken rest, weigh-append h (f v).taken rest, weigh-append h ((f v).taken ++ rest) (x ∷ []))
taken_set f (v ∷ vs) (suc i) w d x lt e h =
    let rest : List (List ℕ) = taken_by (map f vs) in
    let new : List (List ℕ) = taken_by (map f (set vs i w)) in
    let below = taken_set f vs i w d x (omega arith) e h in
    omega (arith, weigh-append h (f v).taken rest, weigh-append h (f v).taken new, weigh-append h rest (x ∷ []), weigh-append h ((f v).taken ++ rest) (x ∷ []))

deques_of : (ways : List Way) → map (λ (s : DequeId × ℕ × List (List ℕ)). s.0) (map shape ways) ≡ map way_deque ways
deques_of [] = refl
deques_of (w ∷ ws) = ap (λ (ds : List DequeId). w.deque ∷ ds) (deques_of ws)

pub same_deques : (new old : List Way) → map shape new ≡ map shape old → map way_deque new ≡ map way_deque old
same_deques new old e = sym (deques_of new) ∙ ap (map (λ (s : DequeId × ℕ × List (List ℕ)). s.0)) e ∙ deques_of old

pub same_length : (new old : List Way) → map shape new ≡ map shape old → length new ≡ length old
same_length new old e = sym (length-map new shape) ∙ ap length e ∙ length-map old shape

-- each way to these deques has its share
pub one_share : (ways : List Way) (deques : List DequeId) → map shape ways ≡ map guest deques → All (λ w. 0 < w.hand.shares) ways
one_share [] deques e k d lt = absurd (omega arith)
one_share (w ∷ ws) [] e k d lt = absurd (let n : length (map shape (w ∷ ws)) ≡ 0 = ap length e in omega arith)
one_share (w ∷ ws) (q ∷ qs) e zero d lt = let first : shape w ≡ guest q = cc in let s : w.hand.shares ≡ 1 = ap (λ (t : DequeId × ℕ × List (List ℕ)). t.1) first in omega arith
one_share (w ∷ ws) (q ∷ qs) e (suc k) d lt = one_share ws qs (let e' : map shape ws ≡ map guest qs = cc in e') k d (omega arith)

pub keeps_after : (own own' : Own) (ways ways' : List Way) (capacity : ℕ) → SeatKeeps own ways capacity → own'.hand.shares ≡ own.hand.shares → own'.hand.put ≡ own.hand.put → own.slots ≤ own'.slots → own'.index ≤ own.index → map shape ways' ≡ map shape ways
    → SeatKeeps own' ways' capacity
keeps_after own own' ways ways' capacity k shares put slots index shapes = record {
  shares = let n = same_length ways' ways shapes in let s = k.shares in omega arith;
  share = let s = k.share in omega arith;
  guests = shapes ∙ k.guests ∙ ap (map guest) (sym (same_deques ways' ways shapes));
  slots = let s = k.slots in omega arith;
  index = let s = k.index in let n = ap (length {A = List ℕ}) put in omega arith;
}

-- the worker took a name: so did the seat
pub own_took : (v w : Hand) (rest : List (List ℕ)) (x : List ℕ) → w ≡ takes v (x ∷ []) → SameNames (w.taken ++ rest) ((v.taken ++ rest) ++ x ∷ [])
own_took v w rest x e h =
    let t : weigh h w.taken ≡ weigh h (v.taken ++ x ∷ []) = ap (λ (u : Hand). weigh h u.taken) e in
    omega (arith, weigh-append h v.taken (x ∷ []), weigh-append h w.taken rest, weigh-append h v.taken rest, weigh-append h (v.taken ++ rest) (x ∷ []))

-- a way took a name, or none did: so did the seat
pub way_took : (r : Option (List ℕ)) (v w : Hand) (new old : List Hand) → w ≡ v
    → MatchOption r (new ≡ old) (λ x. SameNames (taken_by new) (taken_by old ++ x ∷ []))
    → MatchOption r (w.taken ++ taken_by new ≡ v.taken ++ taken_by old) (λ x. SameNames (w.taken ++ taken_by new) ((v.taken ++ taken_by old) ++ x ∷ []))
way_took None v w new old e m = cc
way_took (Some x) v w new old e m = λ h.
    let t : weigh h w.taken ≡ weigh h v.taken = ap (λ (u : Hand). weigh h u.taken) e in
    let p = m h in
    omega (arith, weigh-append h w.taken (taken_by new), weigh-append h (taken_by old) (x ∷ []), weigh-append h v.taken (taken_by old), weigh-append h (v.taken ++ taken_by old) (x ∷ []))
