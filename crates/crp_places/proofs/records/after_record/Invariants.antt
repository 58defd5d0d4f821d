use Rattle.std.proofs.Common.{◌≡◌, ◌≤◌, ℕ, List, [], length}
use Rattle.csv.specs.Machine.{next_record}
use Rattle.crp_separated.specs.Separators.{parted_by}
use Rattle.csv.specs.declared.parser.State.TheVariants as st
use Rattle.crp_places.specs.Records.{state_at}
use Rattle.crp_places.proofs.records.after_record.Given as goal

abbrev pub invariant-loop-rest : goal.invariant-loop-rest
invariant-loop-rest l =
    (length l.rest ≤ length l.text) × (fields : List (List ℕ)) × (field : List ℕ)
    × (next_record (parted_by l.separator) st.StartField [] [] l.text ≡ next_record (parted_by l.separator) (state_at l.place) fields field l.rest)

abbrev pub decreases-loop-rest : goal.decreases-loop-rest
decreases-loop-rest l = length l.rest
