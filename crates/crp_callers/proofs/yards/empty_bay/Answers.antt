use Rattle.std.proofs.Common.{◌≡◌, List, ℕ, sym, ap}
use Rattle.std.specs.Fmt.{digits}
use Rattle.csv.specs.Writing.{fields_text, is_blank, escaped}
use Rattle.crp_yard.specs.Records.{records_of, entry_of, entries_of}
use Rattle.crp_yard.specs.Inventory.{inventory_of}
use Rattle.crp_yard.specs.Faults.{fault_of, fault_behind, fault_at, first_fault}
use Rattle.crp_yard.specs.Text.{yard_text, records_of_yard}
use Rattle.crp_yard.specs.Reading.{IsYardListOf}
use Rattle.crp_callers.proofs.Standing.{is_yard_still, are_named}
use Rattle.crp_callers.specs.TwoBays.{sizes, two_bays, with_empty_bay}
use Rattle.crp_callers.proofs.yards.empty_bay.Goals as goal

-- where its text reads back, it is a list of the yard without the bay
list : records_of (yard_text with_empty_bay) ≡ records_of_yard with_empty_bay.bays → IsYardListOf sizes (yard_text with_empty_bay) two_bays
unfolding digits fields_text is_blank escaped entry_of fault_of fault_behind fault_at first_fault
list e = record {
  faultless = ap (first_fault sizes) e;
  stands = sym (ap (λ (records : List (List (List ℕ))). inventory_of sizes (entries_of records)) e);
}

pub returns-clause-read : goal.returns-clause-read
returns-clause-read c = list (c.text_reads_back.ensures with_empty_bay)

pub returns-clause-same : goal.returns-clause-same
returns-clause-same c = c.places_read_back.ensures with_empty_bay two_bays sizes is_yard_still are_named (list (c.text_reads_back.ensures with_empty_bay))
