-- csv reads back what is written.
use Rattle.std.proofs.Common.{◌≡◌, ℕ, List, [], ◌∷◌, ◌++◌, None, refl, sym, ap, ◌∙◌}
use Rattle.std.specs.Prelude.{flat_map}
use Rattle.csv.specs.Machine.{next_record}
use Rattle.csv.specs.Reading.{Reached, default_config, records, strip_bom}
use Rattle.csv.specs.Writing.{read_back}
use Rattle.csv.specs.declared.parser.State.TheVariants as st
use Rattle.csv.proofs.RoundTrip.{read-write}
use Rattle.std.specs.List.{AllByRecursion}
use Rattle.crp_plan.specs.BayNames.{YardBay}
use Rattle.crp_yard.specs.Records.{records_of}
use Rattle.crp_yard.specs.Inventory.{Inventory, StackedBay}
use Rattle.crp_yard.specs.Text.{records_of_stack, records_of_rows, records_of_yard, text_of_records, yard_text}
use Rattle.crp_sizes.proofs.CsvSteps.{records-are}

-- a record of at least one field
abbrev HasFields : List (List ℕ) → Type 0
HasFields fields = read_back fields ≡ fields

reached_all : (rows : List (List (List ℕ))) → AllByRecursion HasFields rows → Reached default_config st.StartRecord (text_of_records rows) rows st.StartRecord []
unfolding Reached
reached_all [] h = (refl, refl)
reached_all (fields ∷ rows) h = ((read_back fields, st.StartRecord, text_of_records rows), read-write fields (text_of_records rows), sym h.0, reached_all rows h.1)

none_left : next_record default_config st.StartRecord [] [] [] ≡ None
unfolding next_record
none_left = refl

both : (xs ys : List (List (List ℕ))) → AllByRecursion HasFields xs → AllByRecursion HasFields ys → AllByRecursion HasFields (xs ++ ys)
both [] ys h k = k
both (x ∷ xs) ys h k = (h.0, both xs ys h.1 k)

of_stack : (bay : YardBay) (row tier : ℕ) (stack : List (List ℕ)) → AllByRecursion HasFields (records_of_stack bay row tier stack)
of_stack bay row tier [] = tt
of_stack bay row tier (c ∷ stack) = (refl, of_stack bay row _ stack)

of_rows : (bay : YardBay) (row : ℕ) (stacks : List (List (List ℕ))) → AllByRecursion HasFields (records_of_rows bay row stacks)
of_rows bay row [] = tt
of_rows bay row (stack ∷ stacks) = both (records_of_stack bay row 1 stack) (records_of_rows bay _ stacks) (of_stack bay row 1 stack) (of_rows bay _ stacks)

of_bays : (bays : List StackedBay) → AllByRecursion HasFields (flat_map (λ bay. records_of_rows bay.0 1 bay.1) bays)
of_bays [] = tt
of_bays (bay ∷ bays) = both (records_of_rows bay.0 1 bay.1) (flat_map (λ bay. records_of_rows bay.0 1 bay.1) bays) (of_rows bay.0 1 bay.1) (of_bays bays)

no_mark : (yard : Inventory) → strip_bom (yard_text yard) ≡ yard_text yard
unfolding strip_bom
no_mark yard = refl

pub reads_back : (yard : Inventory) → records_of (yard_text yard) ≡ records_of_yard yard.bays
reads_back yard =
    ap (records default_config) (no_mark yard)
    ∙ sym (records-are default_config (yard_text yard) (records_of_yard yard.bays) (st.StartRecord, [], reached_all (records_of_yard yard.bays) (refl, of_bays yard.bays), none_left))
