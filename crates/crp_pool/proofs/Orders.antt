-- Seats in any order, and in the order of their numbers.
use Rattle.std.proofs.Common.{◌≡◌, ◌<◌, ◌≤◌, ℕ, zero, suc, ◌+◌, ◌-◌, ⊎_elim, Some, List, [], ◌∷◌, ◌++◌, length, map, All, get_or, sym, refl, ap, ◌∙◌, sum_by, arith}
use Rattle.std.specs.Prelude.{slice_get}
use Rattle.std.specs.List.Sorted.{IsPermutation, IsNonDecreasingBy}
use Rattle.std.proofs.lemmas.Bool.{cases_lt}
use Rattle.std.proofs.lemmas.List.{length-map, map-append}
use Rattle.std.proofs.lemmas.List.Sums.{sum_by-cons}
use Rattle.std.proofs.lemmas.List.Sorted.{sum_by-IsPermutation, All-permutation}
use Rattle.crp_pool.specs.Weigh.{weigh, SameNames}
use Rattle.crp_pool.specs.Deques.{DequeId}
use Rattle.crp_pool.specs.Seats.{PoolSeat, seat_deque, seat_number, numbers, IsSeatOf, IsEverySeat, all_puts, all_takes, IsNewSeat}
use Rattle.crp_pool.proofs.Hands.{weigh-append}
use Rattle.crp_pool.proofs.Owns.{weigh-map}

zero_from : (n a b : ℕ) → b ≤ a → weigh (λ y. b - y) (numbers a n) ≡ 0
zero_from zero a b le = refl
zero_from (suc n) a b le = let below = zero_from n (a + 1) b (omega arith) in omega arith

zero_above : (ks : List ℕ) (b : ℕ) → ((i d : ℕ) → i < length ks → b ≤ get_or ks i d) → weigh (λ y. b - y) ks ≡ 0
zero_above [] b above = refl
zero_above (k ∷ ks) b above = let here = above 0 0 (omega arith) in let below = zero_above ks b (λ i d lt. above (suc i) d (omega arith)) in omega arith

-- numbers that do not fall, and that are these numbers in some order, are these numbers
pub sorted_numbers : (ks : List ℕ) (a n : ℕ) → ((i j d : ℕ) → i ≤ j → j < length ks → get_or ks i d ≤ get_or ks j d) → ((h : ℕ → ℕ) → weigh h ks ≡ weigh h (numbers a n)) → ks ≡ numbers a n
sorted_numbers [] a zero sorted same = refl
sorted_numbers [] a (suc n) sorted same = absurd (let e = same (λ y. 1) in omega arith)
sorted_numbers (k ∷ ks) a zero sorted same = absurd (let e = same (λ y. 1) in omega arith)
sorted_numbers (k ∷ ks) a (suc n) sorted same =
    let low : a ≤ k = (let e = same (λ y. a - y) in let z = zero_from n (a + 1) a (omega arith) in omega arith) in
    let high : k ≤ a = ⊎_elim (λ (h : a < k). absurd (let e = same (λ y. (a + 1) - y) in let z = zero_from n (a + 1) (a + 1) (omega arith) in let w = zero_above ks (a + 1) (λ i d lt. (let q = sorted 0 (suc i) d (omega arith) (omega arith) in omega arith)) in omega arith))
    (λ (h : k ≤ a). h) (cases_lt a k) in
    let is : k ≡ a = omega arith in
    let rest : ks ≡ numbers (a + 1) n = sorted_numbers ks (a + 1) n (λ i j d le lt. sorted (suc i) (suc j) d (omega arith) (omega arith)) (λ h. (let e = same h in let f : h k ≡ h a = ap h is in omega arith)) in
    ap (λ x. x ∷ ks) is ∙ ap (λ l. a ∷ l) rest

-- the deques of seats in order
pub ordered_deques : (pool : List DequeId) (seats : List PoolSeat) (a : ℕ) (ds : List DequeId) → All (λ s. slice_get pool s.number ≡ Some s.deque) seats → map seat_number seats ≡ numbers a (length ds)
    → ((k : ℕ) → k < length ds → slice_get pool (a + k) ≡ slice_get ds k) → map seat_deque seats ≡ ds
ordered_deques pool [] a [] all nums slices = refl
ordered_deques pool [] a (d ∷ ds) all nums slices = absurd (cc)
ordered_deques pool (s ∷ ss) a [] all nums slices = absurd (cc)
ordered_deques pool (s ∷ ss) a (d ∷ ds) all nums slices =
    let n : s.number ≡ a + 0 = (let q : s.number ≡ a = cc in omega arith) in
    let rest : map seat_number ss ≡ numbers (a + 1) (length ds) = cc in
    let mine : slice_get pool s.number ≡ Some s.deque = all 0 s (omega arith) in
    let there : slice_get pool (a + 0) ≡ Some d = slices 0 (omega arith) in
    let first : s.deque ≡ d = cc in
    let below = ordered_deques pool ss (a + 1) ds (λ k x lt. all (suc k) x (omega arith)) rest (λ k lt. (let e : (a + 1) + k ≡ a + suc k = omega arith in rw e (slices (suc k) (omega arith)))) in
    ap (λ x. x ∷ map seat_deque ss) first ∙ ap (λ l. d ∷ l) below

-- and the other way round
pub numbered_seats : (pool : List DequeId) (seats : List PoolSeat) (a : ℕ) (ds : List DequeId) → map seat_deque seats ≡ ds → map seat_number seats ≡ numbers a (length ds)
    → ((k : ℕ) → k < length ds → slice_get pool (a + k) ≡ slice_get ds k) → All (λ s. slice_get pool s.number ≡ Some s.deque) seats
numbered_seats pool [] a ds deques nums slices k d lt = absurd (omega arith)
numbered_seats pool (s ∷ ss) a [] deques nums slices k d lt = absurd (cc)
numbered_seats pool (s ∷ ss) a (q ∷ qs) deques nums slices zero d lt =
    let n : s.number ≡ a + 0 = (let e : s.number ≡ a = cc in omega arith) in
    let there : slice_get pool (a + 0) ≡ Some q = slices 0 (omega arith) in
    let first : s.deque ≡ q = cc in
    cc
numbered_seats pool (s ∷ ss) a (q ∷ qs) deques nums slices (suc k) d lt =
    let rest : map seat_number ss ≡ numbers (a + 1) (length qs) = cc in
    let others : map seat_deque ss ≡ qs = cc in
    numbered_seats pool ss (a + 1) qs others rest (λ j less. (let e : (a + 1) + j ≡ a + suc j = omega arith in rw e (slices (suc j) (omega arith)))) k d (omega arith)

weigh-sum_by : {X : Type 0} (f : X → ℕ) (xs : List X) → weigh f xs ≡ sum_by f xs
weigh-sum_by f [] = refl
weigh-sum_by f (x ∷ xs) = let below = weigh-sum_by f xs in omega (arith, sum_by-cons f x xs)

pub weigh-IsPermutation : {X : Type 0} (f : X → ℕ) (xs ys : List X) → IsPermutation xs ys → weigh f ys ≡ weigh f xs
weigh-IsPermutation f xs ys p = weigh-sum_by f ys ∙ sum_by-IsPermutation f xs ys p ∙ sym (weigh-sum_by f xs)

weigh-all_puts : (h : List ℕ → ℕ) (ss : List PoolSeat) → weigh h (all_puts ss) ≡ weigh (λ s. weigh h s.puts) ss
weigh-all_puts h [] = refl
weigh-all_puts h (s ∷ ss) = omega (arith, weigh-append h s.puts (all_puts ss), weigh-all_puts h ss)

weigh-all_takes : (h : List ℕ → ℕ) (ss : List PoolSeat) → weigh h (all_takes ss) ≡ weigh (λ s. weigh h s.takes) ss
weigh-all_takes h [] = refl
weigh-all_takes h (s ∷ ss) = omega (arith, weigh-append h s.takes (all_takes ss), weigh-all_takes h ss)

-- seats in another order put and took the same names
pub puts_moved : (xs ys : List PoolSeat) → IsPermutation xs ys → SameNames (all_puts ys) (all_puts xs)
puts_moved xs ys p h = weigh-all_puts h ys ∙ weigh-IsPermutation (λ s. weigh h s.puts) xs ys p ∙ sym (weigh-all_puts h xs)

pub takes_moved : (xs ys : List PoolSeat) → IsPermutation xs ys → SameNames (all_takes ys) (all_takes xs)
takes_moved xs ys p h = weigh-all_takes h ys ∙ weigh-IsPermutation (λ s. weigh h s.takes) xs ys p ∙ sym (weigh-all_takes h xs)

number_at : (ss : List PoolSeat) (i d : ℕ) (s : PoolSeat) → i < length ss → get_or (map seat_number ss) i d ≡ seat_number (get_or ss i s)
number_at [] i d s lt = absurd (omega arith)
number_at (x ∷ xs) zero d s lt = refl
number_at (x ∷ xs) (suc i) d s lt = number_at xs i d s (omega arith)

sorted_of : (ss : List PoolSeat) → IsNonDecreasingBy seat_number ss → (i j d : ℕ) → i ≤ j → j < length (map seat_number ss) → get_or (map seat_number ss) i d ≤ get_or (map seat_number ss) j d
sorted_of [] sorted i j d le lt = absurd (omega arith)
sorted_of (x ∷ xs) sorted i j d le lt =
    let n : length (map seat_number (x ∷ xs)) ≡ length (x ∷ xs) = length-map (x ∷ xs) seat_number in
    let a : get_or (map seat_number (x ∷ xs)) i d ≡ seat_number (get_or (x ∷ xs) i x) = number_at (x ∷ xs) i d x (omega arith) in
    let b : get_or (map seat_number (x ∷ xs)) j d ≡ seat_number (get_or (x ∷ xs) j x) = number_at (x ∷ xs) j d x (omega arith) in
    let h : seat_number (get_or (x ∷ xs) i x) ≤ seat_number (get_or (x ∷ xs) j x) = sorted i j x le (omega arith) in
    omega arith

-- every seat, sorted by number: the deques are those of the pool, in its order
pub in_order : (pool : List DequeId) (old new : List PoolSeat) → IsPermutation old new → IsNonDecreasingBy seat_number new → IsEverySeat pool old → (map seat_deque new ≡ pool) × All (λ s. s.pool ≡ pool) new
in_order pool old new p sorted every =
    let all : All (IsSeatOf pool) new = All-permutation (IsSeatOf pool) old new p every.0 in
    let nums : map seat_number new ≡ numbers 0 (length pool) = sorted_numbers (map seat_number new) 0 (length pool) (sorted_of new sorted)
    (λ h. weigh-map h seat_number new ∙ weigh-IsPermutation (λ (s : PoolSeat). h s.number) old new p ∙ sym (weigh-map h seat_number old) ∙ every.1 h) in
    (ordered_deques pool new 0 pool (λ k d lt. (all k d lt).1) nums (λ k lt. (let e : 0 + k ≡ k = omega arith in rw e refl)), λ k d lt. (all k d lt).0)

-- new seats are every seat
pub new_every : (pool : List DequeId) (seats : List PoolSeat) (capacity : ℕ) → map seat_deque seats ≡ pool → All (IsNewSeat pool capacity) seats → map seat_number seats ≡ numbers 0 (length pool) → IsEverySeat pool seats
new_every pool seats capacity deques new nums =
    let at : All (λ s. slice_get pool s.number ≡ Some s.deque) seats = numbered_seats pool seats 0 pool deques nums (λ k lt. (let e : 0 + k ≡ k = omega arith in rw e refl)) in
    (λ k d lt. ((new k d lt).0, at k d lt), λ h. ap (weigh h) nums)

numbers-more : (n a : ℕ) → numbers a n ++ (a + n) ∷ [] ≡ numbers a (suc n)
numbers-more zero a = (let e : a + 0 ≡ a = omega arith in rw e refl)
numbers-more (suc n) a = (let e : a + suc n ≡ (a + 1) + n = omega arith in rw e (ap (λ l. a ∷ l) (numbers-more n (a + 1))))

-- one seat more, with the next number
pub numbers_step : (seats : List PoolSeat) (s : PoolSeat) (n m : ℕ) → map seat_number seats ≡ numbers 0 n → s.number ≡ n → m ≡ suc n → map seat_number (seats ++ s ∷ []) ≡ numbers 0 m
numbers_step seats s n m before is next =
    let e : s.number ≡ 0 + n = omega arith in
    map-append seat_number seats (s ∷ []) ∙ ap (λ l. l ++ s.number ∷ []) before ∙ ap (λ k. numbers 0 n ++ k ∷ []) e ∙ numbers-more n 0 ∙ ap (numbers 0) (sym next)
