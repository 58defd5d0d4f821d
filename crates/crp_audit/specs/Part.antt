-- What is promised of a report that ends early: each bay that stands there is so, these are the first ones of those from which a container leaves, in the
-- yard's order, and the rest is not said. It is the headline of the report with its last line (crp_said's Completed) over a sequence that leaves out the
-- containers of the bays behind. The numbers and the problems are those of the whole sequence (`first_bays_are_stated`).
use Rattle.std.specs.Prelude.{ℕ, List, take, map}
use Rattle.crp_plan.specs.BayNames.{YardBay}
use Rattle.crp_yard.specs.Inventory.{Inventory}
use Rattle.crp_order.specs.BayProblems.{problems_of}
use Rattle.crp_order.specs.OfBays.{of_bays}

-- the names of the first so many bays from which a container leaves
abbrev pub first_names : ℕ → Inventory → List (List ℕ) → List YardBay
first_names bays yard sequence = map (λ made. made.bay) (take bays (problems_of yard sequence))

-- the sequence of these bays alone; where no bay stands there, that of all
abbrev pub first_sequence : ℕ → Inventory → List (List ℕ) → List (List ℕ)
first_sequence bays yard sequence = of_bays (first_names bays yard sequence) yard sequence
