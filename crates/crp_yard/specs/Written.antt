-- What csv's writer has written of a yard. Only the clauses of private functions speak of it.
use Rattle.std.specs.Prelude.{◌≡◌, ℕ, false, List, ◌++◌, Vec}
use Rattle.std.specs.declared.alloc.Global.{Global}
use Rattle.csv.specs.Writing.{default_writer, writer_setup, writer_under, writer_pending, fields_written, has_written}
use Rattle.csv.specs.declared.writer.Writer.{Writer}

-- what was written: what went on into the list, and then what waits
abbrev pub text_written_by : Writer (Vec ℕ Global) → List ℕ
text_written_by writer = (writer_under writer).items ++ writer_pending writer

-- the writer has csv's defaults and stands between two records, the first and the last place among them
pub record IsBetweenRecords (writer : Writer (Vec ℕ Global)) : Type 0 where
  pub setup : writer_setup writer ≡ default_writer
  pub no_field : fields_written writer ≡ 0
  pub no_byte : has_written writer ≡ false

-- whole records with this text were written
pub record WritesRecords (old new : Writer (Vec ℕ Global)) (text : List ℕ) : Type 0 where
  pub between : IsBetweenRecords new
  pub written : text_written_by new ≡ text_written_by old ++ text
