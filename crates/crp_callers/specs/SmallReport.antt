-- A report of the small bay, where the containers of ranks 1, 2 and 3 are MSCU1, MSCU2 and MSCU3.
use Rattle.std.specs.Prelude.{ℕ, List, [], ◌∷◌, ◌++◌, codes}
use Rattle.crp_said.specs.declared.moves.Place.{Place}
use Rattle.crp_said.specs.declared.moves.SaidMove.{SaidMove}
use Rattle.crp_said.specs.declared.moves.SaidMove.TheVariants.{Shift, Take}
use Rattle.crp_said.specs.declared.said.Said.TheVariants.{Optimal}
use Rattle.crp_said.specs.Spelled.{ReportSaid}
use Rattle.crp_callers.specs.SmallBay.{lines, first_bay}

abbrev pub leaving : List (List ℕ)
leaving = codes "MSCU1" ∷ codes "MSCU2" ∷ []

abbrev pub staying : List (List ℕ)
staying = codes "MSCU3" ∷ []

abbrev pub place : ℕ → ℕ → Place
place row tier = record { row = row; tier = tier }

-- MSCU3 is put onto MSCU2
abbrev pub relocation : SaidMove
relocation = Shift (place 1 2) (place 2 2) (codes "MSCU3")

abbrev pub relocation_line : List ℕ
relocation_line = codes "shift 1.2 2.2 MSCU3"

-- MSCU3 is put onto MSCU2 and back, and MSCU1 and MSCU2 leave
abbrev pub small_moves : List SaidMove
small_moves = relocation ∷ Take (place 1 1) (codes "MSCU1") ∷ Shift (place 2 2) (place 1 1) (codes "MSCU3") ∷ Take (place 2 1) (codes "MSCU2") ∷ []

abbrev pub move_lines : List (List ℕ)
move_lines = relocation_line ∷ codes "take 1.1 MSCU1" ∷ codes "shift 2.2 1.1 MSCU3" ∷ codes "take 2.1 MSCU2" ∷ []

abbrev pub report_lines : List (List ℕ)
report_lines = codes "orders 2 open 0 absent 0" ∷ codes "bay A 1: optimal 2" ∷ (move_lines ++ codes "bays 1 decided 1" ∷ [])

-- what these lines say
abbrev pub small_report : ReportSaid
small_report = record {
  numbers = record { orders = 2; vacant = 0; absent = 0 };
  bays = record { bay = first_bay; said = Optimal 2; lines = lines move_lines } ∷ [];
  count = 1;
  settled = 1;
}

-- a report of no bay, and its lines
abbrev pub empty_report : ReportSaid
empty_report = record { numbers = record { orders = 0; vacant = 0; absent = 0 }; bays = []; count = 0; settled = 0 }

abbrev pub empty_lines : List (List ℕ)
empty_lines = codes "orders 0 open 0 absent 0" ∷ codes "bays 0 decided 0" ∷ []

-- what stands in the rows before the moves
abbrev pub small_rows : List (List (List ℕ))
small_rows = (codes "MSCU1" ∷ codes "MSCU3" ∷ []) ∷ (codes "MSCU2" ∷ []) ∷ []

-- how high the rows may be
abbrev pub small_heights : List ℕ
small_heights = 2 ∷ 2 ∷ []
