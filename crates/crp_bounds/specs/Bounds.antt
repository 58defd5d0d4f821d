-- Lower bounds on the relocations that a position still takes.
use Rattle.std.specs.Prelude.{◌≡◌, ◌≢◌, ◌≤◌, ◌<◌, ℕ, zero, suc, ◌+◌, ◌-◌, Bool, true, slice_get, Some, ◌||◌, ◌&&◌, nat_le, nat_lt, if◌then◌else◌, List, [], ◌∷◌, ◌++◌, length, map, sum_by, count_by}
use Rattle.std.specs.List.{list_any, list_all, zip}
use Rattle.crp_plan.specs.Rows.{holds, above, below}
use Rattle.crp_plan.specs.Bay.{Position}

-- an ordered container of a lower rank than c stands in the list
abbrev pub holds_lower : ℕ → ℕ → List ℕ → Bool
holds_lower ordered c stack = list_any (λ d. nat_le d ordered && nat_lt d c) stack

-- how many containers of the list stand above an ordered one of a lower rank, where `under` stands below the list
abbrev pub blocked_in : ℕ → List ℕ → List ℕ → ℕ
blocked_in ordered under [] = 0
blocked_in ordered under (c ∷ stack) = (if holds_lower ordered c under then 1 else 0) + blocked_in ordered (under ++ c ∷ []) stack

-- the blocking bound: how many containers stand above an ordered one of a lower rank; each has to be relocated (Kim and Hong 2006)
abbrev pub blocking : Position → ℕ
blocking s = sum_by (λ stack. blocked_in s.ordered [] stack) s.stacks

-- each other stack that is shorter than its height holds an ordered container of a lower rank than c. The stack that k
-- stands in is the one that holds k, since a rank stands in one place; so 'other' is said as 'does not hold k'
abbrev pub has_no_place : ℕ → ℕ → List ℕ → List (List ℕ) → ℕ → Bool
has_no_place ordered k heights stacks c =
    list_all (λ row. nat_le row.0 (length row.1) || (holds k row.1 || holds_lower ordered c row.1)) (zip heights stacks)

-- how many containers above k would block again wherever they go
abbrev pub stuck_above : ℕ → List ℕ → List (List ℕ) → ℕ → ℕ
stuck_above ordered heights stacks k = sum_by (λ stack. count_by (has_no_place ordered k heights stacks) (above k stack)) stacks

-- the same for k and so many ranks after it, in turn, the stack of each rank being cut off from it upward before the next
abbrev pub stuck_from : ℕ → List ℕ → ℕ → List (List ℕ) → ℕ → ℕ
stuck_from ordered heights zero stacks k = 0
stuck_from ordered heights (suc more) stacks k =
    stuck_above ordered heights stacks k + stuck_from ordered heights more (map (below k) stacks) (suc k)

-- the same for each rank from the next to the last
abbrev pub stuck_now : Position → ℕ
stuck_now s = stuck_from s.ordered s.heights (suc s.ordered - s.next) s.stacks s.next

-- the look-ahead bound: the blocking bound, and for each rank from the next to the last the containers above it that would block again
abbrev pub look_ahead : Position → ℕ
look_ahead s = blocking s + stuck_now s

-- a rank that stands in the list, in order and lower than c
pub record HasLower (ordered c : ℕ) (stack : List ℕ) : Type 0 where
  pub lower : ℕ
  pub is_ordered : lower ≤ ordered
  pub is_lower : lower < c
  pub stands : holds lower stack ≡ true

-- each stack but the one at this index, from 0, that is shorter than its height holds an ordered rank lower than c
abbrev pub HasNoPlace : ℕ → ℕ → List ℕ → List (List ℕ) → ℕ → Type 0
HasNoPlace ordered own heights stacks c = (i height : ℕ) (stack : List ℕ) → i ≢ own → slice_get heights i ≡ Some height → slice_get stacks i ≡ Some stack →
    length stack < height → HasLower ordered c stack
