-- The text of a yard.
use Rattle.std.specs.Prelude.{ℕ, suc, List, [], ◌∷◌, ◌++◌, flat_map, codes, decimal}
use Rattle.csv.specs.Writing.{default_writer, row_text}
use Rattle.crp_plan.specs.BayNames.{YardBay}
use Rattle.crp_yard.specs.Inventory.{Inventory, StackedBay}

-- the header
abbrev pub header : List (List ℕ)
header = codes "block" ∷ codes "bay" ∷ codes "row" ∷ codes "tier" ∷ codes "container" ∷ []

-- the record of a container
abbrev pub fields_at : YardBay → ℕ → ℕ → List ℕ → List (List ℕ)
fields_at bay row tier container = bay.block ∷ decimal bay.bay ∷ decimal row ∷ decimal tier ∷ container ∷ []

-- the records of a stack whose first container stands at this tier
abbrev pub records_of_stack : YardBay → ℕ → ℕ → List (List ℕ) → List (List (List ℕ))
records_of_stack bay row tier [] = []
records_of_stack bay row tier (container ∷ stack) = fields_at bay row tier container ∷ records_of_stack bay row (suc tier) stack

-- the records of the stacks of a bay, of which the first is that of this row
abbrev pub records_of_rows : YardBay → ℕ → List (List (List ℕ)) → List (List (List ℕ))
records_of_rows bay row [] = []
records_of_rows bay row (stack ∷ stacks) = records_of_stack bay row 1 stack ++ records_of_rows bay (suc row) stacks

-- the records of a yard: the header, and then the containers by bay in first-seen order, row and tier
abbrev pub records_of_yard : List StackedBay → List (List (List ℕ))
records_of_yard bays = header ∷ flat_map (λ bay. records_of_rows bay.0 1 bay.1) bays

-- records as csv writes them by its defaults: a comma between the fields, quotes where a field needs them, and a line feed at the end
abbrev pub text_of_records : List (List (List ℕ)) → List ℕ
text_of_records records = flat_map (λ fields. row_text default_writer fields) records

-- the text of a yard
abbrev pub yard_text : Inventory → List ℕ
yard_text yard = text_of_records (records_of_yard yard.bays)
