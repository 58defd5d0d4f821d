-- The yard as it stands when moves of a report were made.
use Rattle.std.specs.Prelude.{◌≡◌, ℕ, List, [], ◌∷◌, map, take, if◌then◌else◌, ⊤}
use Rattle.crp_plan.specs.BayNames.{YardBay, same_bay}
use Rattle.crp_sizes.specs.Sizes.{YardSizes, heights_at}
use Rattle.crp_yard.specs.Inventory.{Inventory, StackedBay}
use Rattle.crp_yard.specs.Text.{yard_text}
use Rattle.crp_said.specs.declared.moves.SaidMove.{SaidMove}
use Rattle.crp_follow.specs.Crane.{Leads}
use Rattle.crp_follow.specs.Stated.{moves_of}
use Rattle.crp_follow.specs.Followed.{BayFollowed}

-- moves that were made in the bay of this name
pub record Made : Type 0 where
  pub bay : YardBay
  pub moves : List SaidMove

-- of each bay as many of its first moves as are counted for it
abbrev pub first_moves : List ℕ → List BayFollowed → List Made
first_moves [] bays = []
first_moves (count ∷ counts) [] = []
first_moves (count ∷ counts) (b ∷ bays) = record { bay = b.stated.bay; moves = take count (moves_of b.stated.moves) } ∷ first_moves counts bays

-- all moves of the bays
abbrev pub all_moves : List BayFollowed → List Made
all_moves bays = map (λ b. record { bay = b.stated.bay; moves = moves_of b.stated.moves }) bays

-- the moves that were made in the bay; none in one that is not among these
abbrev pub made_in : List Made → YardBay → List SaidMove
made_in [] bay = []
made_in (m ∷ made) bay = if same_bay m.bay bay then m.moves else made_in made bay

-- the moves lead from what stood in the bay to what stands in it
abbrev pub IsBayBehind : YardSizes → List Made → StackedBay → StackedBay → Type 0
IsBayBehind sizes made old new = (new.0 ≡ old.0) × Leads (heights_at sizes old.0) old.1 (made_in made old.0) new.1

-- so it is with each bay
abbrev pub AreBaysBehind : YardSizes → List Made → List StackedBay → List StackedBay → Type 0
AreBaysBehind sizes made [] [] = ⊤
AreBaysBehind sizes made [] (new ∷ news) = ⊥
AreBaysBehind sizes made (old ∷ olds) [] = ⊥
AreBaysBehind sizes made (old ∷ olds) (new ∷ news) = IsBayBehind sizes made old new × AreBaysBehind sizes made olds news

-- the yard behind the moves
pub record IsYardBehind (yard : Inventory) (made : List Made) (after : Inventory) : Type 0 where
  pub same_sizes : after.sizes ≡ yard.sizes
  pub bays : AreBaysBehind yard.sizes made yard.bays after.bays

-- the text is the list of that yard
abbrev pub IsListBehind : Inventory → List Made → List ℕ → Type 0
IsListBehind yard made text = (after : Inventory) × IsYardBehind yard made after × (text ≡ yard_text after)
