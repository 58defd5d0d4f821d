-- The bounds of worked positions, by their definitions.
use Rattle.std.proofs.Common.{◌≡◌, ℕ, List, [], ◌∷◌, refl}
use Rattle.crp_plan.specs.Bay.{Problem, start}
use Rattle.crp_bounds.specs.Bounds.{blocking, look_ahead}

-- three rows of three tiers
abbrev three : List ℕ
three = 3 ∷ 3 ∷ 3 ∷ []

-- the blocking bound and the look-ahead bound at the start of a problem
abbrev HasBounds : Problem → ℕ → ℕ → Type 0
HasBounds p low high = (blocking (start p) ≡ low) × (look_ahead (start p) ≡ high)

-- the one blocker finds an empty row
one_empty_row : HasBounds (record { heights = 2 ∷ 2 ∷ []; ordered = 2; stacks = (1 ∷ 2 ∷ []) ∷ [] ∷ [] }) 1 1
one_empty_row = (refl, refl)

-- wherever the one blocker goes it blocks again
blocker_blocks_again : HasBounds (record { heights = three; ordered = 4; stacks = (1 ∷ 4 ∷ []) ∷ (2 ∷ []) ∷ (3 ∷ []) ∷ [] }) 1 2
blocker_blocks_again = (refl, refl)

-- two blockers, each with a place
six_containers : HasBounds (record { heights = three; ordered = 6; stacks = (1 ∷ 5 ∷ 4 ∷ []) ∷ (6 ∷ []) ∷ (3 ∷ 2 ∷ []) ∷ [] }) 2 2
six_containers = (refl, refl)

-- where there is no other row each blocker counts twice
only_one_row : HasBounds (record { heights = 3 ∷ []; ordered = 2; stacks = (1 ∷ 2 ∷ []) ∷ [] }) 1 2
only_one_row = (refl, refl)

-- where the other row is full 2 counts twice; 4 finds room where the first row was cut
other_row_is_full : HasBounds (record { heights = 2 ∷ 2 ∷ []; ordered = 4; stacks = (1 ∷ 2 ∷ []) ∷ (3 ∷ 4 ∷ []) ∷ [] }) 2 3
other_row_is_full = (refl, refl)

-- a container that stays counts above one that leaves
stay_over_ordered : HasBounds (record { heights = 2 ∷ 2 ∷ []; ordered = 1; stacks = (1 ∷ 2 ∷ []) ∷ [] ∷ [] }) 1 1
stay_over_ordered = (refl, refl)

-- and not above one that stays
stay_over_stay : HasBounds (record { heights = three; ordered = 1; stacks = (1 ∷ 4 ∷ []) ∷ (2 ∷ 3 ∷ []) ∷ [] ∷ [] }) 1 1
stay_over_stay = (refl, refl)

-- 6 counts again at rank 1, and 5 at rank 2 where the first row is cut
cut_row_has_room : HasBounds (record { heights = three; ordered = 6; stacks = (4 ∷ 1 ∷ 6 ∷ []) ∷ (2 ∷ 5 ∷ []) ∷ (3 ∷ []) ∷ [] }) 2 4
cut_row_has_room = (refl, refl)

-- 6 counts again, and 3 does not
one_of_two_blocks_again : HasBounds (record { heights = three; ordered = 6; stacks = (1 ∷ 3 ∷ 6 ∷ []) ∷ (5 ∷ 4 ∷ []) ∷ (2 ∷ []) ∷ [] }) 2 3
one_of_two_blocks_again = (refl, refl)

-- two blockers, each with a place, in four rows
seven_containers : HasBounds (record { heights = 3 ∷ three; ordered = 7; stacks = (1 ∷ 6 ∷ 5 ∷ []) ∷ (7 ∷ []) ∷ (4 ∷ 3 ∷ []) ∷ (2 ∷ []) ∷ [] }) 2 2
seven_containers = (refl, refl)

-- a row of its own height is full
unequal_heights : HasBounds (record { heights = 3 ∷ 1 ∷ 3 ∷ []; ordered = 4; stacks = (1 ∷ 4 ∷ []) ∷ (2 ∷ []) ∷ (3 ∷ []) ∷ [] }) 1 2
unequal_heights = (refl, refl)
