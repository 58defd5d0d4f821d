-- The turns of records.
use Rattle.std.proofs.Common.{◌≡◌, ℕ, ◌+◌, ◌<◌, ◌≤◌, arith, Option, Some, None, List, [], ◌∷◌, length, map, refl}
use Rattle.std.specs.Prelude.{IfSome, option_and_then}
use Rattle.crp_movins.specs.declared.order.Order.{Order}
use Rattle.crp_follow.specs.Table.{MoveColumns}
use Rattle.crp_loading.specs.Turns.{turn_of}
use Rattle.crp_loading.specs.Loading.{record_at}
use Rattle.crp_loading.specs.Views.{AreTurns}
use Rattle.crp_loading.proofs.ShipSteps.{number_within}

turn_within : (sequence : List (List ℕ)) (next : Option (List ℕ)) → IfSome (option_and_then (turn_of sequence) next) (λ turn. (1 ≤ turn) × (turn ≤ length sequence))
turn_within sequence None = tt
turn_within sequence (Some c) = go (turn_of sequence c) (number_within 1 sequence c)
  where
    go : (turn : Option ℕ) → ((i : ℕ) → turn ≡ Some i → (1 ≤ i) × (i < 1 + length sequence)) → IfSome turn (λ t. (1 ≤ t) × (t ≤ length sequence))
    go None within = tt
    go (Some i) within = let h = within i refl in (h.0, omega (arith, h.1))

pub are_turns : (sequence : List (List ℕ)) (orders : List Order) (moves : List MoveColumns) → AreTurns (length sequence) (map (record_at sequence orders) moves)
are_turns sequence orders [] = tt
are_turns sequence orders (c ∷ moves) = (turn_within sequence c.next, are_turns sequence orders moves)
