-- The table of the bays of a report that is followed, for spreadsheets: a header, and a record for each bay in the order of the report.
use Rattle.std.specs.Prelude.{ℕ, ◌-◌, List, [], ◌∷◌, length, map, count_by, Option, Some, None, codes, decimal}
use Rattle.crp_yard.specs.Text.{text_of_records}
use Rattle.crp_said.specs.declared.said.Said.{Said}
use Rattle.crp_said.specs.declared.said.Said.TheVariants.{Optimal, First, NoPlan, Between, Outside}
use Rattle.crp_said.specs.Said.{cause_words, count_said}
use Rattle.crp_follow.specs.Faults.{is_shift}
use Rattle.crp_follow.specs.Stated.{moves_of}
use Rattle.crp_follow.specs.Followed.{BayFollowed}
use Rattle.crp_follow.specs.Table.{number_field, standing}

-- the header
abbrev pub summary_header : List (List ℕ)
summary_header =
    codes "block" ∷ codes "bay" ∷ codes "verdict" ∷ codes "lower" ∷ codes "upper" ∷ codes "cause" ∷ codes "moves" ∷ codes "relocations" ∷ codes "takes" ∷ codes "left" ∷ []

-- the verdict of the line of a bay, without its numbers
abbrev pub verdict_of : Said → List ℕ
verdict_of (Optimal count) = codes "optimal"
verdict_of (First count) = codes "optimal first"
verdict_of NoPlan = codes "no plan"
verdict_of (Between lower upper why) = codes "between"
verdict_of (Outside count) = codes "outside the rule"

-- the number that no plan has fewer relocations than, if one is said
abbrev pub lower_of : Said → Option ℕ
lower_of (Optimal count) = Some count
lower_of (First count) = Some count
lower_of NoPlan = None
lower_of (Between lower upper why) = Some lower
lower_of (Outside count) = None

-- why the bay is left open, if it is
abbrev pub cause_of : Said → List ℕ
cause_of (Optimal count) = []
cause_of (First count) = []
cause_of NoPlan = []
cause_of (Between lower upper why) = cause_words why
cause_of (Outside count) = codes "edited"

-- the relocations of a bay that its moves make
abbrev pub relocations_of : BayFollowed → ℕ
relocations_of b = count_by is_shift (moves_of b.stated.moves)

-- the record of a bay: its name, what its line says, how many moves it has, how many of them are relocations and how many takes, and how many containers stand
-- in it after them
abbrev pub summary_fields : BayFollowed → List (List ℕ)
summary_fields b =
    b.stated.bay.block ∷ decimal b.stated.bay.bay ∷ verdict_of b.stated.said ∷ number_field (lower_of b.stated.said) ∷ number_field (count_said b.stated.said) ∷ cause_of b.stated.said
    ∷ decimal (length b.stated.moves) ∷ decimal (relocations_of b) ∷ decimal (length b.stated.moves - relocations_of b) ∷ decimal (standing b.after) ∷ []

-- the text of the table, as csv writes records by its defaults
abbrev pub summary_text : List BayFollowed → List ℕ
summary_text bays = text_of_records (summary_header ∷ map summary_fields bays)
