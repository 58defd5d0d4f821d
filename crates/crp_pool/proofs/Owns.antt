-- What a step on one deque's worker does to all of them.
use Rattle.std.proofs.Common.{◌≡◌, ◌<◌, ◌≤◌, ℕ, zero, suc, ◌+◌, ◌*◌, Option, None, Some, MatchOption, List, [], ◌∷◌, ◌++◌, length, map, All, take, get_or, set, sym, refl, ap, ◌∙◌, arith}
use Rattle.std.proofs.lemmas.List.{length-map}
use Rattle.crp_pool.specs.declared.hand.Hand.{Hand}
use Rattle.crp_pool.specs.Weigh.{weigh, SameNames}
use Rattle.crp_pool.specs.Hand.{all_deque_shares, both, put_by, taken_by}
use Rattle.crp_pool.specs.Hand.{FoundEmpty}
use Rattle.crp_pool.specs.Deques.{DequeId, Own, Way, own_hand, own_deque, own_kept, way_hand, shape, guest, Whole, AddsUp}
use Rattle.crp_pool.proofs.Hands.{weigh-append}

pub weigh-map : {X Y : Type 0} (f : Y → ℕ) (g : X → Y) (xs : List X) → weigh f (map g xs) ≡ weigh (λ x. f (g x)) xs
weigh-map f g [] = refl
weigh-map f g (x ∷ xs) = omega (arith, weigh-map f g xs)

-- the deque that was found empty
pub found_here : (owns : List Own) (i : ℕ) (o : Own) (d : Hand) → i < length owns → o ≡ get_or owns i o → FoundEmpty o.hand → FoundEmpty (get_or (map own_hand owns) i d)
found_here [] i o d lt e h = absurd (omega arith)
found_here (x ∷ xs) zero o d lt e h = let same : x.hand ≡ o.hand = ap own_hand (sym e) in rw same h
found_here (x ∷ xs) (suc i) o d lt e h = found_here xs i o d (omega arith) e h

pub kept_shares : (new old : List Own) → map own_kept new ≡ map own_kept old → (weigh (λ o. o.hand.shares) new ≡ weigh (λ o. o.hand.shares) old) × (length new ≡ length old) × (put_by (map own_hand new) ≡ put_by (map own_hand old))
kept_shares [] [] e = (refl, refl, refl)
kept_shares [] (y ∷ ys) e = absurd (cc)
kept_shares (x ∷ xs) [] e = absurd (cc)
kept_shares (x ∷ xs) (y ∷ ys) e =
    let first : own_kept x ≡ own_kept y = cc in
    let rest : map own_kept xs ≡ map own_kept ys = cc in
    let below = kept_shares xs ys rest in
    let shares : x.hand.shares ≡ y.hand.shares = ap (λ (t : ℕ × List (List ℕ)). t.0) first in
    let put : x.hand.put ≡ y.hand.put = ap (λ (t : ℕ × List (List ℕ)). t.1) first in
    (omega (arith, below.0), omega (arith, below.1), rw (put, below.2) refl)

pub kept_all : (new old : List Own) → map own_kept new ≡ map own_kept old → All (λ o. 0 < o.hand.shares) old → All (λ o. 0 < o.hand.shares) new
kept_all [] old e all k d lt = absurd (omega arith)
kept_all (x ∷ xs) [] e all k d lt = absurd (cc)
kept_all (x ∷ xs) (y ∷ ys) e all zero d lt =
    let first : own_kept x ≡ own_kept y = cc in
    let shares : x.hand.shares ≡ y.hand.shares = ap (λ (t : ℕ × List (List ℕ)). t.0) first in
    let h : 0 < y.hand.shares = all 0 d (omega arith) in omega arith
kept_all (x ∷ xs) (y ∷ ys) e all (suc k) d lt = let rest : map own_kept xs ≡ map own_kept ys = cc in kept_all xs ys rest (λ j q less. all (suc j) q (omega arith)) k d (omega arith)

pub whole_after : (new old : List Own) → map own_kept new ≡ map own_kept old → Whole old → Whole new
whole_after new old e w = let s = kept_shares new old e in ((let p = w.0 in let n = s.1 in let q = s.0 in omega arith), kept_all new old e w.1)

shares_le : (vs : List Hand) → All FoundEmpty vs → weigh (λ v. v.shares) vs ≤ length vs * all_deque_shares
shares_le [] all = omega arith
shares_le (v ∷ vs) all = let h = (all 0 v (omega arith)).0 in omega (arith, shares_le vs (λ k d lt. all (suc k) d (omega arith)))

-- where all shares are there and each deque was found empty, what was put was taken
pub all_settled : (vs : List Hand) → weigh (λ v. v.shares) vs ≡ length vs * all_deque_shares → All FoundEmpty vs → SameNames (put_by vs) (taken_by vs)
all_settled [] whole all h = refl
all_settled (v ∷ vs) whole all h =
    let found = all 0 v (omega arith) in
    let others : All FoundEmpty vs = λ k d lt. all (suc k) d (omega arith) in
    let a : v.shares ≤ 65 = found.0 in
    let b : weigh (λ u. u.shares) vs ≤ length vs * 65 = shares_le vs others in
    let mine : v.shares ≡ 65 = omega arith in
    let theirs : weigh (λ u. u.shares) vs ≡ length vs * 65 = omega arith in
    let here = found.1 mine h in
    omega (arith, all_settled vs theirs others h, weigh-append h v.put (put_by vs), weigh-append h v.taken (taken_by vs))

pub next_taken : (r : Option (List ℕ)) (new old : List Own) → Whole old → map own_kept new ≡ map own_kept old
    → MatchOption r ((map own_hand new ≡ map own_hand old) × All FoundEmpty (map own_hand old)) (λ x. SameNames (taken_by (map own_hand new)) (taken_by (map own_hand old) ++ x ∷ []))
    → MatchOption r ((taken_by (map own_hand new) ≡ taken_by (map own_hand old)) × SameNames (put_by (map own_hand new)) (taken_by (map own_hand new))) (λ x. SameNames (taken_by (map own_hand new)) (taken_by (map own_hand old) ++ x ∷ []))
next_taken None new old whole kept m =
    let n : length (map own_hand old) ≡ length old = length-map old own_hand in
    let s : weigh (λ v. v.shares) (map own_hand old) ≡ weigh (λ o. o.hand.shares) old = weigh-map (λ (v : Hand). v.shares) own_hand old in
    let w = whole.0 in (
      ap taken_by m.0,
      rw m.0 (all_settled (map own_hand old) (omega arith) m.1),
    )
next_taken (Some x) new old whole kept m = m

-- the last of the ways
pub pop_way : (ws : List Way) (w : Way) (gs : List (DequeId × ℕ × List (List ℕ))) → map shape (ws ++ w ∷ []) ≡ take (length (ws ++ w ∷ [])) gs
    → (map shape ws ≡ take (length ws) gs) × (length ws < length gs) × ((d : DequeId × ℕ × List (List ℕ)) → shape w ≡ get_or gs (length ws) d)
pop_way [] w [] e = absurd (cc)
pop_way [] w (g ∷ gs) e = (refl, omega arith, λ d. (let q : shape w ≡ g = cc in q))
pop_way (v ∷ vs) w [] e = absurd (cc)
pop_way (v ∷ vs) w (g ∷ gs) e =
    let first : shape v ≡ g = cc in
    let rest : map shape (vs ++ w ∷ []) ≡ take (length (vs ++ w ∷ [])) gs = cc in
    let below = pop_way vs w gs rest in
    (rw (first, below.0) refl, (let n = below.1 in omega arith), below.2)

pub guest_at : (owns : List Own) (i : ℕ) (o : Own) → get_or (map guest (map own_deque owns)) i (guest o.deque) ≡ guest (get_or owns i o).deque
guest_at [] i o = refl
guest_at (x ∷ xs) zero o = refl
guest_at (x ∷ xs) (suc i) o = guest_at xs i o

pub weigh_set : {X : Type 0} (f : X → ℕ) (xs : List X) (i : ℕ) (y d : X) → i < length xs → weigh f (set xs i y) + f (get_or xs i d) ≡ weigh f xs + f y
weigh_set f [] i y d lt = absurd (omega arith)
weigh_set f (x ∷ xs) zero y d lt = omega arith
weigh_set f (x ∷ xs) (suc i) y d lt = omega (arith, weigh_set f xs i y d (omega arith))

-- a way was given to its deque's worker: the sums stay
pub gave : (f : Hand → ℕ) (owns : List Own) (i : ℕ) (o o' : Own) (ws : List Way) (w : Way) (all : ℕ) → i < length owns → o ≡ get_or owns i o → o'.hand ≡ both o.hand w.hand → AddsUp f
    → weigh f (map own_hand owns) + weigh f (map way_hand (ws ++ w ∷ [])) ≡ all → weigh f (map own_hand (set owns i o')) + weigh f (map way_hand ws) ≡ all
gave f owns i o o' ws w all lt is e adds sum =
    let a = weigh-map f own_hand owns in
    let b = weigh-map f own_hand (set owns i o') in
    let c = weigh-map f way_hand (ws ++ w ∷ []) in
    let d = weigh-map f way_hand ws in
    let s = weigh_set (λ (x : Own). f x.hand) owns i o' o lt in
    let t = weigh-append (λ (x : Way). f x.hand) ws (w ∷ []) in
    let u : f (get_or owns i o).hand ≡ f o.hand = ap (λ (x : Own). f x.hand) (sym is) in
    let v : f o'.hand ≡ f o.hand + f w.hand = ap f e ∙ adds o.hand w.hand in
    omega arith
