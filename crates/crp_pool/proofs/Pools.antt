-- Making and taking apart a pool.
use Rattle.std.proofs.Common.{◌≡◌, ◌<◌, ◌≤◌, ◌≢◌, ℕ, zero, suc, ◌+◌, ◌-◌, List, [], ◌∷◌, ◌++◌, length, map, All, take, get_or, set, sym, refl, ap, ◌∙◌, arith, add-one, subst, below_more, get_or-set_other, get_or-set_same}
use Rattle.std.proofs.lemmas.List.{length-map}
use Rattle.crp_pool.specs.declared.hand.Hand.{Hand}
use Rattle.crp_pool.specs.Hand.{hand, all_deque_shares, share_cut, taken_by}
use Rattle.crp_pool.specs.Deques.{DequeId, Own, Way, own_deque, way_hand, way_deque, shape, guest, fresh_way, IsFresh, GivesShare, EachGivesShare}
use Rattle.crp_pool.specs.Seats.{SeatKeeps, IsNewSeat, seat_of}

new_way : (w : Way) (d : DequeId) → w.deque ≡ d → w.hand ≡ hand 1 [] [] → w ≡ fresh_way d
new_way w d a b = λ k. record { deque = a k; hand = b k }

take_more_map : {X Y : Type 0} (f : X → Y) (xs : List X) (i : ℕ) (d : X) → i < length xs → map f (take (suc i) xs) ≡ map f (take i xs) ++ f (get_or xs i d) ∷ []
take_more_map f [] i d lt = absurd (omega arith)
take_more_map f (x ∷ xs) zero d lt = refl
take_more_map f (x ∷ xs) (suc i) d lt = ap (λ l. f x ∷ l) (take_more_map f xs i d (omega arith))

get_or_map : {X Y : Type 0} (f : X → Y) (xs : List X) (i : ℕ) (d : X) → get_or (map f xs) i (f d) ≡ f (get_or xs i d)
get_or_map f [] i d = refl
get_or_map f (x ∷ xs) zero d = refl
get_or_map f (x ∷ xs) (suc i) d = get_or_map f xs i d

pub row_step : (owns first : List Own) (i : ℕ) (o : Own) (w : Way) (links : List Way) → map own_deque owns ≡ map own_deque first → i < length owns → o ≡ get_or owns i o → w.deque ≡ o.deque → w.hand ≡ hand 1 [] []
    → links ≡ map fresh_way (take i (map own_deque first)) → links ++ w ∷ [] ≡ map fresh_way (take (i + 1) (map own_deque first))
row_step owns first i o w links same lt is deque new row =
    let n = length-map owns own_deque in
    let m = ap (length {A = DequeId}) same in
    let e : get_or (map own_deque first) i o.deque ≡ o.deque = rw (← same) (get_or_map own_deque owns i o ∙ sym (ap own_deque is)) in
    let w' : w ≡ fresh_way (get_or (map own_deque first) i o.deque) = new_way w _ (deque ∙ sym e) new in
    rw (row, add-one) (ap (λ (v : Way). map fresh_way (take i (map own_deque first)) ++ v ∷ []) w' ∙ sym (take_more_map fresh_way (map own_deque first) i o.deque (omega arith)))

any_default : {X : Type 0} (xs : List X) (i : ℕ) (a b : X) → i < length xs → get_or xs i a ≡ get_or xs i b
any_default [] i a b lt = absurd (omega arith)
any_default (x ∷ xs) zero a b lt = refl
any_default (x ∷ xs) (suc i) a b lt = any_default xs i a b (omega arith)

pub given_step : (owns first : List Own) (i : ℕ) (o o' : Own) → i < length owns → o ≡ get_or owns i o → GivesShare o o'
    → ((d : Own) (k : ℕ) → k < i → GivesShare (get_or first k d) (get_or owns k d))
    → ((d : Own) (k : ℕ) → i ≤ k → get_or owns k d ≡ get_or first k d)
    → (d : Own) (k : ℕ) → k < i + 1 → GivesShare (get_or first k d) (get_or (set owns i o') k d)
given_step owns first i o o' lt is gives given others d =
    below_more _ _ (λ k less. let ne : k ≢ i = omega arith in rw get_or-set_other (given d k less))
    (let e : o ≡ get_or first i d = is ∙ any_default owns i o d lt ∙ others d i (omega arith) in rw get_or-set_same (subst (λ (q : Own). GivesShare q o') e gives))

pub same_count : (owns first : List Own) → map own_deque owns ≡ map own_deque first → length owns ≡ length first
same_count owns first e = sym (length-map owns own_deque) ∙ ap length e ∙ length-map first own_deque

pub shares_step : (old new : List Own) (n : ℕ) → EachGivesShare old new → All (λ o. 1 < o.hand.shares) old → All (λ o. o.hand.shares + n ≡ all_deque_shares) old → All (λ o. o.hand.shares + (n + 1) ≡ all_deque_shares) new
shares_step old new n each more all k d lt =
    let less : k < length old = let e = each.0 in omega arith in
    let step = each.1 k d less in
    let e : (get_or new k d).hand.shares ≡ (get_or old k d).hand.shares - 1 = ap (λ (v : Hand). v.shares) step.1 in
    let p = all k d less in
    let q = more k d less in
    omega arith

pub fresh_step : (old new : List Own) (n capacity : ℕ) → EachGivesShare old new → All (IsFresh (all_deque_shares - n) capacity) old → All (IsFresh (all_deque_shares - (n + 1)) capacity) new
fresh_step old new n capacity each all k d lt =
    let less : k < length old = let e = each.0 in omega arith in
    let step = each.1 k d less in
    let was = all k d less in
    let m : all_deque_shares - n - 1 ≡ all_deque_shares - (n + 1) = omega arith in
    (step.1 ∙ ap share_cut was.0 ∙ ap (λ s. hand s [] []) m, step.2 ∙ was.1, (let a = was.2 in let b = step.3 in omega arith))

guests_of_fresh : (pool : List DequeId) → (map shape (map fresh_way pool) ≡ map guest pool) × (map way_deque (map fresh_way pool) ≡ pool) × (taken_by (map way_hand (map fresh_way pool)) ≡ [])
guests_of_fresh [] = (refl, refl, refl)
guests_of_fresh (d ∷ ds) = let below = guests_of_fresh ds in (ap (λ l. guest d ∷ l) below.0, ap (λ l. d ∷ l) below.1, below.2)

-- a new worker and its new ways make a new seat
pub new_seat : (number : ℕ) (own : Own) (ways : List Way) (pool : List DequeId) (n capacity : ℕ) → IsFresh (all_deque_shares - n) capacity own → n ≤ 64 → length pool ≡ n → ways ≡ map fresh_way pool → SeatKeeps own ways capacity × IsNewSeat pool capacity (seat_of number own ways capacity)
new_seat number own ways pool n capacity fresh few count new =
    let g = guests_of_fresh pool in
    let s : own.hand.shares ≡ all_deque_shares - n = ap (λ (v : Hand). v.shares) fresh.0 in
    let p : own.hand.put ≡ [] = ap (λ (v : Hand). v.put) fresh.0 in
    let t : own.hand.taken ≡ [] = ap (λ (v : Hand). v.taken) fresh.0 in
    let m : length ways ≡ n = ap length new ∙ length-map pool fresh_way ∙ count in
    let d : map way_deque ways ≡ pool = ap (map way_deque) new ∙ g.1 in (
      record {
        shares = omega arith;
        share = omega arith;
        guests = ap (map shape) new ∙ g.0 ∙ ap (map guest) (sym d);
        slots = fresh.2;
        index = let i = fresh.1 in omega arith;
      },
      (d, refl, p, rw t (ap (λ w. taken_by (map way_hand w)) new ∙ g.2)),
    )

-- the workers whose links were all made
pub all_fresh : (owns : List Own) (n m capacity : ℕ) → n ≡ m → All (IsFresh (all_deque_shares - n) capacity) owns → All (IsFresh (all_deque_shares - m) capacity) owns
all_fresh owns n m capacity e all = subst (λ (k : ℕ). All (IsFresh (all_deque_shares - k) capacity) owns) e all

pub two_shares : (owns : List Own) (n : ℕ) → n < 64 → All (λ o. o.hand.shares + n ≡ all_deque_shares) owns → All (λ o. 1 < o.hand.shares) owns
two_shares owns n few all k d lt = let p = all k d lt in omega arith
