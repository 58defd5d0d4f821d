-- What contracts see of a seat, of every seat of a pool, and of what is left.
use Rattle.std.specs.Prelude.{◌≡◌, ℕ, zero, suc, Some, slice_get, ◌+◌, ◌*◌, ◌<◌, ◌≤◌, List, [], ◌∷◌, ◌++◌, length, map, All}
use Rattle.crp_pool.specs.Weigh.{weigh}
use Rattle.crp_pool.specs.Hand.{all_deque_shares, taken_by}
use Rattle.crp_pool.specs.Deques.{DequeId, Own, Way, way_hand, way_deque, shape, guest, tally}

-- a seat: its number, the deques of its pool, its own among them, how many puts are sure to succeed, and what it put and took
pub record PoolSeat : Type 0 where
  pub number : ℕ
  pub pool : List DequeId
  pub deque : DequeId
  pub capacity : ℕ
  pub puts : List (List ℕ)
  pub takes : List (List ℕ)

-- the seat of a deque's worker: what it puts goes to its own deque, and what it takes is its own or comes by a way
abbrev pub seat_of : ℕ → Own → List Way → ℕ → PoolSeat
seat_of number own ways capacity = record {
  number = number;
  pool = map way_deque ways;
  deque = own.deque;
  capacity = capacity;
  puts = own.hand.put;
  takes = own.hand.taken ++ taken_by (map way_hand ways);
}

-- what holds of a seat's parts: its worker and its ways have all shares of one deque in number, the ways put nothing, and no put is refused
-- while the seat has put fewer names than its capacity
pub record SeatKeeps (own : Own) (ways : List Way) (capacity : ℕ) : Type 0 where
  pub shares : own.hand.shares + length ways ≡ all_deque_shares
  pub share : 0 < own.hand.shares
  pub guests : map shape ways ≡ map guest (map way_deque ways)
  pub slots : capacity ≤ own.slots
  pub index : own.index ≤ length own.hand.put

-- the same seat, later
abbrev pub SameSeat : PoolSeat → PoolSeat → Type 0
SameSeat old new = (new.pool ≡ old.pool) × (new.deque ≡ old.deque) × (new.capacity ≡ old.capacity) × (new.number ≡ old.number)

-- a seat of this pool with which nothing was done
abbrev pub IsNewSeat : List DequeId → ℕ → PoolSeat → Type 0
IsNewSeat pool capacity s = (s.pool ≡ pool) × (s.capacity ≡ capacity) × (s.puts ≡ []) × (s.takes ≡ [])

-- all names that the seats put
abbrev pub all_puts : List PoolSeat → List (List ℕ)
all_puts [] = []
all_puts (s ∷ ss) = s.puts ++ all_puts ss

-- all names that the seats took
abbrev pub all_takes : List PoolSeat → List (List ℕ)
all_takes [] = []
all_takes (s ∷ ss) = s.takes ++ all_takes ss

-- the own deque of a seat
abbrev pub seat_deque : PoolSeat → DequeId
seat_deque s = s.deque

-- the number of a seat
abbrev pub seat_number : PoolSeat → ℕ
seat_number s = s.number

-- the numbers from a on, n of them
abbrev pub numbers : ℕ → ℕ → List ℕ
numbers a zero = []
numbers a (suc n) = a ∷ numbers (a + 1) n

-- a seat of this pool: its own deque is the one of its number
abbrev pub IsSeatOf : List DequeId → PoolSeat → Type 0
IsSeatOf pool s = (s.pool ≡ pool) × (slice_get pool s.number ≡ Some s.deque)

-- every seat of the pool, in any order: seats of this pool, and each number once
abbrev pub IsEverySeat : List DequeId → List PoolSeat → Type 0
IsEverySeat pool seats = All (IsSeatOf pool) seats × ((h : ℕ → ℕ) → weigh h (map seat_number seats) ≡ weigh h (numbers 0 (length pool)))

-- a pool, whose seats are out, has room for what they bring back
pub record PoolKeeps (deques owners ways room_of_owners room_of_ways : ℕ) : Type 0 where
  pub no_owners : owners ≡ 0
  pub no_ways : ways ≡ 0
  pub room : deques ≤ room_of_owners
  pub room_for_ways : deques ≤ room_of_ways

-- what the seats had is what their workers and ways have: all shares, the names put and the names taken
abbrev pub IsSplit : List PoolSeat → List Own → List (List Way) → Type 0
IsSplit seats owns rows =
    (tally (λ v. v.shares) owns rows ≡ length seats * all_deque_shares)
    × (length owns ≡ length seats)
    × ((h : List ℕ → ℕ) → tally (λ v. weigh h v.put) owns rows ≡ weigh h (all_puts seats))
    × ((h : List ℕ → ℕ) → tally (λ v. weigh h v.taken) owns rows ≡ weigh h (all_takes seats))

-- what is left: all names that were put, and those that were taken so far
pub record Rest : Type 0 where
  pub puts : List (List ℕ)
  pub takes : List (List ℕ)
