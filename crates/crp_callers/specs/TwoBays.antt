-- A yard of two bays, whose rows have two and three tiers, and lists of it.
use Rattle.std.specs.Prelude.{ℕ, List, [], ◌∷◌, codes}
use Rattle.crp_plan.specs.Bay.{Problem}
use Rattle.crp_plan.specs.BayNames.{YardBay}
use Rattle.crp_sizes.specs.Sizes.{YardSizes, one_size}
use Rattle.crp_yard.specs.declared.bay_plan.BayPlan.{BayPlan}
use Rattle.crp_yard.specs.Records.{Entry}
use Rattle.crp_yard.specs.Inventory.{Inventory, StackedBay}

abbrev pub heights : List ℕ
heights = 2 ∷ 3 ∷ []

abbrev pub sizes : YardSizes
sizes = one_size heights

-- bays of the block A
abbrev pub bay : ℕ → YardBay
bay number = record { block = codes "A"; bay = number }

-- a container that stays stands on each of the two that are to leave
abbrev pub first_bay : StackedBay
first_bay = (bay 1, (codes "LOWER" ∷ codes "STAYS" ∷ []) ∷ (codes "UPPER" ∷ codes "LINGERS" ∷ []) ∷ [])

abbrev pub second_bay : StackedBay
second_bay = (bay 2, [] ∷ (codes "ALONE" ∷ []) ∷ [])

-- the yard
abbrev pub two_bays : Inventory
two_bays = record { sizes = sizes; bays = first_bay ∷ second_bay ∷ [] }

-- the same with a bay between in which nothing stands
abbrev pub with_empty_bay : Inventory
with_empty_bay = record { sizes = sizes; bays = first_bay ∷ (bay 3, [] ∷ [] ∷ []) ∷ second_bay ∷ [] }

-- the first record of a list
abbrev pub first_record : List (List ℕ)
first_record = codes "block" ∷ codes "bay" ∷ codes "row" ∷ codes "tier" ∷ codes "container" ∷ []

-- the record of a container in the block A
abbrev pub stating : List ℕ → List ℕ → List ℕ → List ℕ → List (List ℕ)
stating bay row tier container = codes "A" ∷ bay ∷ row ∷ tier ∷ container ∷ []

-- the list of the yard: the record of the second bay stands between those of the first
abbrev pub listed : List (List (List ℕ))
listed =
    first_record
    ∷ stating (codes "1") (codes "1") (codes "1") (codes "LOWER")
    ∷ stating (codes "2") (codes "2") (codes "1") (codes "ALONE")
    ∷ stating (codes "1") (codes "2") (codes "1") (codes "UPPER")
    ∷ stating (codes "1") (codes "1") (codes "2") (codes "STAYS")
    ∷ stating (codes "1") (codes "2") (codes "2") (codes "LINGERS")
    ∷ []

-- a container at a place of the block A
abbrev pub placed : ℕ → ℕ → ℕ → List ℕ → Entry
placed number row tier container = (record { bay = bay number; row = row; tier = tier }, container)

-- what the list says
abbrev pub entries : List Entry
entries = placed 1 1 1 (codes "LOWER") ∷ placed 2 2 1 (codes "ALONE") ∷ placed 1 2 1 (codes "UPPER") ∷ placed 1 1 2 (codes "STAYS") ∷ placed 1 2 2 (codes "LINGERS") ∷ []

-- a list in which ALONE and UPPER stand on nothing: below the one stands no container, below the other one of another bay
abbrev pub two_float : List (List (List ℕ))
two_float =
    first_record
    ∷ stating (codes "1") (codes "1") (codes "1") (codes "LOWER")
    ∷ stating (codes "1") (codes "2") (codes "3") (codes "ALONE")
    ∷ stating (codes "2") (codes "1") (codes "2") (codes "UPPER")
    ∷ []

-- a list of which record 3 names the place of LOWER, and record 4 a row that there is not
abbrev pub twice_faulty : List (List (List ℕ))
twice_faulty =
    first_record
    ∷ stating (codes "1") (codes "1") (codes "1") (codes "LOWER")
    ∷ stating (codes "1") (codes "1") (codes "1") (codes "UPPER")
    ∷ stating (codes "1") (codes "3") (codes "1") (codes "ALONE")
    ∷ []

-- a yard of one container, whose name has a comma and a quote
abbrev pub quoted_yard : Inventory
quoted_yard = record { sizes = one_size (1 ∷ []); bays = (bay 1, (codes "A,\"B" ∷ []) ∷ []) ∷ [] }

-- its text
abbrev pub quoted_text : List ℕ
quoted_text = codes "block,bay,row,tier,container\nA,1,1,1,\"A,\"\"B\"\n"

-- a plan for the first bay, of which LOWER is to leave: STAYS goes onto LINGERS
abbrev pub plan_for_first : BayPlan
plan_for_first = record {
  bay = bay 1;
  plan = record { problem = record { heights = heights; ordered = 1; stacks = (1 ∷ 2 ∷ []) ∷ (3 ∷ 4 ∷ []) ∷ [] }; path = 2 ∷ [] };
  names = codes "LOWER" ∷ codes "STAYS" ∷ codes "UPPER" ∷ codes "LINGERS" ∷ [];
}

-- the yard as it leaves it
abbrev pub yard_left : Inventory
yard_left = record { sizes = sizes; bays = (bay 1, [] ∷ (codes "UPPER" ∷ codes "LINGERS" ∷ codes "STAYS" ∷ []) ∷ []) ∷ second_bay ∷ [] }

-- the problem of the first bay, of which LOWER and UPPER are to leave
abbrev pub problem_of_first : Problem
problem_of_first = record { heights = heights; ordered = 2; stacks = (1 ∷ 3 ∷ []) ∷ (2 ∷ 4 ∷ []) ∷ [] }
