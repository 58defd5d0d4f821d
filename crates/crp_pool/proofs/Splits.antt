-- Taking the seats of a pool apart.
use Rattle.std.proofs.Common.{◌≡◌, ℕ, zero, suc, ◌+◌, ◌*◌, Some, List, [], ◌∷◌, ◌++◌, length, length-append, map, All, sym, refl, ap, ◌∙◌, arith}
use Rattle.std.specs.Prelude.{Vec}
use Rattle.std.specs.declared.alloc.Global.{Global}
use Rattle.std.proofs.lemmas.List.{length-map}
use Rattle.std.proofs.lemmas.List.Elements.{All-append, All-pop}
use Rattle.crp_pool.specs.declared.hand.Hand.{Hand}
use Rattle.crp_pool.specs.Weigh.{weigh, SameNames}
use Rattle.crp_pool.specs.Hand.{all_deque_shares, put_by, taken_by}
use Rattle.crp_pool.specs.Deques.{DequeId, Own, Way, own_hand, own_deque, way_hand, way_deque, shape, guest, tally, AddsUp}
use Rattle.crp_pool.specs.Seats.{PoolSeat, seat_of, SeatKeeps, IsSplit, all_puts, all_takes}
use Rattle.crp_pool.proofs.Hands.{weigh-append}
use Rattle.crp_pool.proofs.Owns.{weigh-map}

pub weigh-put_by : (h : List ℕ → ℕ) (vs : List Hand) → weigh h (put_by vs) ≡ weigh (λ v. weigh h v.put) vs
weigh-put_by h [] = refl
weigh-put_by h (v ∷ vs) = omega (arith, weigh-append h v.put (put_by vs), weigh-put_by h vs)

pub weigh-taken_by : (h : List ℕ → ℕ) (vs : List Hand) → weigh h (taken_by vs) ≡ weigh (λ v. weigh h v.taken) vs
weigh-taken_by h [] = refl
weigh-taken_by h (v ∷ vs) = omega (arith, weigh-append h v.taken (taken_by vs), weigh-taken_by h vs)

puts-append : (h : List ℕ → ℕ) (ss : List PoolSeat) (s : PoolSeat) → weigh h (all_puts (ss ++ s ∷ [])) ≡ weigh h (all_puts ss) + weigh h s.puts
puts-append h [] s = omega (arith, weigh-append h s.puts [])
puts-append h (x ∷ xs) s = omega (arith, weigh-append h x.puts (all_puts xs), weigh-append h x.puts (all_puts (xs ++ s ∷ [])), puts-append h xs s)

takes-append : (h : List ℕ → ℕ) (ss : List PoolSeat) (s : PoolSeat) → weigh h (all_takes (ss ++ s ∷ [])) ≡ weigh h (all_takes ss) + weigh h s.takes
takes-append h [] s = omega (arith, weigh-append h s.takes [])
takes-append h (x ∷ xs) s = omega (arith, weigh-append h x.takes (all_takes xs), weigh-append h x.takes (all_takes (xs ++ s ∷ [])), takes-append h xs s)

-- ways to deques have a share each, and put nothing
guests_weigh : (ways : List Way) (deques : List DequeId) → map shape ways ≡ map guest deques → (weigh (λ v. v.shares) (map way_hand ways) ≡ length ways) × ((h : List ℕ → ℕ) → weigh (λ v. weigh h v.put) (map way_hand ways) ≡ 0)
guests_weigh [] deques e = (refl, λ h. refl)
guests_weigh (w ∷ ws) [] e = absurd (cc)
guests_weigh (w ∷ ws) (d ∷ ds) e =
    let first : shape w ≡ guest d = cc in
    let rest : map shape ws ≡ map guest ds = cc in
    let below = guests_weigh ws ds rest in
    let s : w.hand.shares ≡ 1 = ap (λ (t : DequeId × ℕ × List (List ℕ)). t.1) first in
    let p : w.hand.put ≡ [] = ap (λ (t : DequeId × ℕ × List (List ℕ)). t.2) first in
    (omega (arith, below.0), λ h. (let q : weigh h w.hand.put ≡ 0 = ap (weigh h) p in let r = below.1 h in omega arith))

tally-snoc : (f : Hand → ℕ) (owns : List Own) (rows : List (List Way)) (own : Own) (ways : List Way) → tally f (owns ++ own ∷ []) (rows ++ ways ∷ []) ≡ tally f owns rows + (f own.hand + weigh f (map way_hand ways))
tally-snoc f owns rows own ways =
    let a = weigh-map f own_hand (owns ++ own ∷ []) in
    let b = weigh-map f own_hand owns in
    let c = weigh-append (λ (o : Own). f o.hand) owns (own ∷ []) in
    let d = weigh-append (λ (r : List Way). weigh f (map way_hand r)) rows (ways ∷ []) in
    omega arith

-- one seat more was taken apart
pub split_step : (number : ℕ) (seats : List PoolSeat) (owns : List Own) (rows : List (List Way)) (s : PoolSeat) (own : Own) (ways : List Way) (capacity : ℕ) → seat_of number own ways capacity ≡ s → SeatKeeps own ways capacity → IsSplit seats owns rows
    → IsSplit (seats ++ s ∷ []) (owns ++ own ∷ []) (rows ++ ways ∷ [])
split_step number seats owns rows s own ways capacity is keeps split =
    let g = guests_weigh ways _ keeps.guests in
    let n = length-append seats (s ∷ []) in
    let m = length-append owns (own ∷ []) in (
      (let t = tally-snoc (λ v. v.shares) owns rows own ways in let a = g.0 in let b = keeps.shares in let p = split.0 in omega arith),
      (let p = split.1 in omega arith),
      (λ h.
          let t = tally-snoc (λ v. weigh h v.put) owns rows own ways in
          let a = g.1 h in
          let b = puts-append h seats s in
          let q : weigh h own.hand.put ≡ weigh h s.puts = ap (λ (x : PoolSeat). weigh h x.puts) is in
          let p = split.2 h in
          omega arith),
      (λ h.
          let t = tally-snoc (λ v. weigh h v.taken) owns rows own ways in
          let b = takes-append h seats s in
          let q : weigh h (own.hand.taken ++ taken_by (map way_hand ways)) ≡ weigh h s.takes = ap (λ (x : PoolSeat). weigh h x.takes) is in
          let u = weigh-append h own.hand.taken (taken_by (map way_hand ways)) in
          let v = weigh-taken_by h (map way_hand ways) in
          let p = split.3 h in
          omega arith),
    )

pub all_of_one : {X : Type 0} (P : X → Type 0) (x : X) → P x → All P (x ∷ [])
all_of_one P x h zero d lt = h
all_of_one P x h (suc k) d lt = absurd (omega arith)

pub ways_step : (number : ℕ) (seats : List PoolSeat) (rows : List (Vec Way Global)) (s : PoolSeat) (own : Own) (links : Vec Way Global) (capacity : ℕ) → seat_of number own links.items capacity ≡ s → SeatKeeps own links.items capacity
    → ((pool : List DequeId) → All (λ (x : PoolSeat). x.pool ≡ pool) seats → All (λ (r : Vec Way Global). map shape r.items ≡ map guest pool) rows)
    → (pool : List DequeId) → All (λ (x : PoolSeat). x.pool ≡ pool) (seats ++ s ∷ []) → All (λ (r : Vec Way Global). map shape r.items ≡ map guest pool) (rows ++ links ∷ [])
ways_step number seats rows s own links capacity is keeps before pool all =
    let P : Vec Way Global → Type 0 = λ r. map shape r.items ≡ map guest pool in
    let parts = All-pop (λ (x : PoolSeat). x.pool ≡ pool) (seats ++ s ∷ []) seats (Some s) refl all in
    let same : map way_deque links.items ≡ pool = ap (λ (x : PoolSeat). x.pool) is ∙ parts.1 in
    All-append P rows (links ∷ []) (before pool parts.0) (all_of_one P links (keeps.guests ∙ ap (map guest) same))

-- all is with the workers: the rest has all shares, what the seats put and what they took
pub finished : (seats : List PoolSeat) (owns final : List Own) (rows : List (List Way)) → IsSplit seats owns rows → map own_deque final ≡ map own_deque owns
    → ((f : Hand → ℕ) → AddsUp f → weigh f (map own_hand final) ≡ tally f owns rows)
    → (weigh (λ o. o.hand.shares) final ≡ length final * all_deque_shares) × SameNames (put_by (map own_hand final)) (all_puts seats) × SameNames (taken_by (map own_hand final)) (all_takes seats)
finished seats owns final rows split same sums =
    let n : length final ≡ length owns = sym (length-map final own_deque) ∙ ap length same ∙ length-map owns own_deque in (
      (let a = sums (λ v. v.shares) (λ v w. refl) in let b = weigh-map (λ (v : Hand). v.shares) own_hand final in let p = split.0 in let q = split.1 in omega arith),
      (λ h. let a = sums (λ v. weigh h v.put) (λ v w. weigh-append h v.put w.put) in let b = weigh-put_by h (map own_hand final) in let p = split.2 h in omega arith),
      (λ h. let a = sums (λ v. weigh h v.taken) (λ v w. weigh-append h v.taken w.taken) in let b = weigh-taken_by h (map own_hand final) in let p = split.3 h in omega arith),
    )
