-- The JSON Lines of what is printed: the object of each of its entries, on a line of its own.
use Rattle.std.specs.Prelude.{◌≡◌, ℕ, List, flat_map}
use Rattle.std.specs.List.{AllByRecursion}
use Rattle.json.specs.Print.{print}
use Rattle.json.specs.Token.{Token}
use Rattle.crp_said.specs.Spelled.{ended}
use Rattle.crp_json.specs.declared.entry.Entry.{Entry}
use Rattle.crp_json.specs.declared.entry.Printed.{Printed}
use Rattle.crp_json.specs.Entries.{entry_text, IsEntryOf}
use Rattle.crp_json.specs.Objects.{entry_object, head_object}

-- the line before all, of this version of the program, and of the words with these tokens
abbrev pub first_line : List ℕ → List Token → List ℕ
first_line version words = ended (print (head_object version words))

-- the line of an entry
abbrev pub entry_line : Entry → List ℕ
entry_line e = ended (print (entry_object e))

-- what these entries are as lines, and as JSON Lines
abbrev pub report_of : List Entry → List ℕ
report_of entries = flat_map entry_text entries

abbrev pub json_of : List Entry → List ℕ
json_of entries = flat_map entry_line entries

-- the lines are the JSON Lines of what is printed, or of a front of it that ends behind an entry
abbrev pub AreJsonLines : Printed → List ℕ → List ℕ → Type 0
AreJsonLines printed report lines = (entries : List Entry) × AllByRecursion (IsEntryOf printed) entries × (report ≡ report_of entries) × (lines ≡ json_of entries)
