-- Every seat of a pool, later and in another order.
use Rattle.std.proofs.Common.{◌≡◌, ◌<◌, ℕ, zero, suc, Some, List, [], ◌∷◌, ◌++◌, length, length-set, map, take, get_or, set, sym, refl, ap, ◌∙◌, subst, arith}
use Rattle.std.specs.Prelude.{slice_get}
use Rattle.std.specs.List.Sorted.{IsPermutation}
use Rattle.std.proofs.lemmas.List.Sorted.{All-permutation}
use Rattle.crp_pool.specs.Weigh.{weigh}
use Rattle.crp_pool.specs.Deques.{DequeId}
use Rattle.crp_pool.specs.Seats.{PoolSeat, SameSeat, seat_number, IsSeatOf, IsEverySeat}
use Rattle.crp_pool.proofs.Owns.{weigh-map}
use Rattle.crp_pool.proofs.Orders.{weigh-IsPermutation}

-- the same seats, later, place by place
abbrev pub AreSame : List PoolSeat → List PoolSeat → Type 0
AreSame old new = (length new ≡ length old) × ((k : ℕ) (d : PoolSeat) → k < length old → SameSeat (get_or old k d) (get_or new k d))

same_numbers : (old new : List PoolSeat) → AreSame old new → map seat_number new ≡ map seat_number old
same_numbers [] [] same = refl
same_numbers [] (y ∷ ys) same = absurd (let e = same.0 in omega arith)
same_numbers (x ∷ xs) [] same = absurd (let e = same.0 in omega arith)
same_numbers (x ∷ xs) (y ∷ ys) same =
    let first : y.number ≡ x.number = (same.1 0 x (omega arith)).3 in
    let others : AreSame xs ys = ((let e = same.0 in omega arith), λ k d lt. same.1 (suc k) d (omega arith)) in
    ap (λ n. n ∷ map seat_number ys) first ∙ ap (λ l. x.number ∷ l) (same_numbers xs ys others)

-- a seat of the pool stays one
same_seat_of : (pool : List DequeId) (old new : PoolSeat) → SameSeat old new → IsSeatOf pool old → IsSeatOf pool new
same_seat_of pool old new same is = (same.0 ∙ is.0, ap (slice_get pool) same.3 ∙ is.1 ∙ ap Some (sym same.1))

-- every seat of the pool, later
pub every_later : (pool : List DequeId) (old new : List PoolSeat) → AreSame old new → IsEverySeat pool old → IsEverySeat pool new
every_later pool old new same every =
    (λ k d lt. same_seat_of pool (get_or old k d) (get_or new k d) (same.1 k d (let e = same.0 in omega arith)) (every.0 k d (let e = same.0 in omega arith)), λ h. ap (weigh h) (same_numbers old new same) ∙ every.1 h)

-- every seat of the pool, in another order
pub every_moved : (pool : List DequeId) (old new : List PoolSeat) → IsPermutation old new → IsEverySeat pool old → IsEverySeat pool new
every_moved pool old new moved every =
    (All-permutation (IsSeatOf pool) old new moved every.0, λ h. weigh-map h seat_number new ∙ weigh-IsPermutation (λ (s : PoolSeat). h s.number) old new moved ∙ sym (weigh-map h seat_number old) ∙ every.1 h)

set_same : (old : List PoolSeat) (i : ℕ) (s s' : PoolSeat) → s ≡ get_or old i s → SameSeat s s' → (k : ℕ) (d : PoolSeat) → k < length old → SameSeat (get_or old k d) (get_or (set old i s') k d)
set_same [] i s s' is same k d lt = absurd (omega arith)
set_same (x ∷ xs) zero s s' is same zero d lt = let e : s ≡ x = is in subst (λ (q : PoolSeat). SameSeat q s') e same
set_same (x ∷ xs) zero s s' is same (suc k) d lt = (refl, refl, refl, refl)
set_same (x ∷ xs) (suc i) s s' is same zero d lt = (refl, refl, refl, refl)
set_same (x ∷ xs) (suc i) s s' is same (suc k) d lt = set_same xs i s s' is same k d (omega arith)

-- every seat of the pool, after one of them put or took
pub every_set : (pool : List DequeId) (old : List PoolSeat) (i : ℕ) (s s' : PoolSeat) → s ≡ get_or old i s → SameSeat s s' → IsEverySeat pool old → IsEverySeat pool (set old i s')
every_set pool old i s s' is same every = every_later pool old (set old i s') (length-set old i s', set_same old i s s' is same) every

written : {X : Type 0} (ys zs : List X) (n : ℕ) → n ≡ length ys → take n (ys ++ zs) ≡ ys
written [] zs zero e = refl
written [] zs (suc n) e = absurd (omega arith)
written (y ∷ ys) zs zero e = absurd (omega arith)
written (y ∷ ys) zs (suc n) e = ap (λ l. y ∷ l) (written ys zs n (omega arith))

-- every seat of the pool, written back from a slice
pub every_written : (pool : List DequeId) (old slice new rest : List PoolSeat) (n : ℕ) → slice ≡ old → n ≡ length new → length new ≡ length slice
    → ((k : ℕ) (d : PoolSeat) → k < length slice → SameSeat (get_or slice k d) (get_or new k d)) → IsEverySeat pool old → IsEverySeat pool (take n (new ++ rest))
every_written pool old slice new rest n is long len same every =
    subst (IsEverySeat pool) (sym (written new rest n long)) (every_later pool slice new (len, same) (subst (IsEverySeat pool) (sym is) every))
