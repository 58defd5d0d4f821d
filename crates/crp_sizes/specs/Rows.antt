-- Where csv's reader stands before it reads. Only private clauses speak of it.
use Rattle.std.specs.Prelude.{◌≡◌, ◌<◌, ℕ, List, Some, true}
use denote.Ref.{Bor}
use Rattle.csv.specs.Reading.{Ready, default_config, is_flexible, owned_rows_left, owned_rows_reader, reader_config, reader_state, reader_trim, source_of, strip_bom}
use Rattle.csv.specs.declared.iter.ByteRecordsIntoIter.{ByteRecordsIntoIter}
use Rattle.csv.specs.declared.parser.State.TheVariants as st
use Rattle.csv.specs.declared.reader.Trim.TheVariants as trim

-- csv's reader stands before the first record of the text, takes none for a header, and leaves its fields as they are
pub record IsAtStart (text : List ℕ) (rows : ByteRecordsIntoIter (Bor (List ℕ))) : Type 0 where
  pub trim : reader_trim (owned_rows_reader rows) ≡ trim.None
  pub ready : Ready (owned_rows_reader rows)
  pub left : 0 < owned_rows_left rows
  pub config : reader_config (owned_rows_reader rows) ≡ default_config
  pub flexible : is_flexible (owned_rows_reader rows) ≡ true
  pub source : source_of (λ s. Some s.now) (owned_rows_reader rows) ≡ Some (strip_bom text)
  pub state : reader_state (owned_rows_reader rows) ≡ st.StartRecord
