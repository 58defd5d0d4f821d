-- csv's reader stands behind records of a text, and takes one more or finds none.
use Rattle.std.proofs.Common.{Bor, ◌≡◌, ◌∙◌, ◌<◌, ℕ, true, false, List, [], ◌∷◌, ◌++◌, Some, refl, sym, inl}
use Rattle.csv.specs.Reading.{Reached, ReadRecord, Ready, default_config, is_flexible, owned_rows_left, owned_rows_reader, reader_config, reader_state, reader_trim, source_of, strip_bom, took_first}
use Rattle.csv.specs.declared.iter.ByteRecordsIntoIter.{ByteRecordsIntoIter}
use Rattle.csv.specs.declared.parser.State.TheVariants as st
use Rattle.csv.specs.declared.reader.Trim.TheVariants as trim
use Rattle.csv.proofs.ReadFacts.{rows-more}
use Rattle.crp_sizes.specs.Rows.{IsAtStart}
use Rattle.crp_sizes.specs.Fields.{records_of}
use Rattle.crp_sizes.proofs.CsvSteps.{records-next, records-ended}

-- csv's reader has read these records of the text, takes none for a header, and leaves the fields of the next as they are
pub record HasRead (text : List ℕ) (records : List (List (List ℕ))) (rows : ByteRecordsIntoIter (Bor (List ℕ))) : Type 0 where
  pub trim : reader_trim (owned_rows_reader rows) ≡ trim.None
  pub ready : Ready (owned_rows_reader rows)
  pub left : 0 < owned_rows_left rows
  pub config : reader_config (owned_rows_reader rows) ≡ default_config
  pub flexible : is_flexible (owned_rows_reader rows) ≡ true
  pub unread : List ℕ
  pub source : source_of (λ s. Some s.now) (owned_rows_reader rows) ≡ Some unread
  pub reached : Reached default_config st.StartRecord (strip_bom text) records (reader_state (owned_rows_reader rows)) unread

pub started : (text : List ℕ) (rows : ByteRecordsIntoIter (Bor (List ℕ))) → IsAtStart text rows → HasRead text [] rows
unfolding Reached
started text rows at = record {
  trim = at.trim;
  ready = at.ready;
  left = at.left;
  config = at.config;
  flexible = at.flexible;
  unread = strip_bom text;
  source = at.source;
  reached = (sym at.state, refl);
}

pub read_more : (text : List ℕ) (records : List (List (List ℕ))) (fields : List (List ℕ)) (a b : ByteRecordsIntoIter (Bor (List ℕ))) → HasRead text records a
    → ReadRecord (λ s. Some s.now) (owned_rows_reader a) (owned_rows_reader b) true fields → took_first (owned_rows_reader b) ≡ true → 0 < owned_rows_left b
    → is_flexible (owned_rows_reader b) ≡ is_flexible (owned_rows_reader a) → HasRead text (records ++ fields ∷ []) b
read_more text records fields a b at read first left flexible =
    let more = rows-more (λ (s : Bor (List ℕ)). Some s.now) (owned_rows_reader a) (owned_rows_reader b) fields default_config st.StartRecord (strip_bom text) at.unread records at.config at.source at.reached read in
    record {
      trim = read.3 ∙ at.trim;
      ready = inl first;
      left = left;
      config = read.2 ∙ at.config;
      flexible = flexible ∙ at.flexible;
      unread = more.0;
      source = more.1;
      reached = more.2;
    }

-- what was read last is the record of the text that comes next
pub read_next : (text : List ℕ) (records : List (List (List ℕ))) (fields : List (List ℕ)) (rows : ByteRecordsIntoIter (Bor (List ℕ))) → HasRead text (records ++ fields ∷ []) rows
    → (after : List (List (List ℕ))) × (records_of text ≡ records ++ fields ∷ after)
read_next text records fields rows at = records-next default_config (strip_bom text) at.unread records fields (reader_state (owned_rows_reader rows)) at.reached

-- and where there is none, these were all
pub read_all : (text : List ℕ) (records : List (List (List ℕ))) (a b : ByteRecordsIntoIter (Bor (List ℕ))) → HasRead text records a
    → ReadRecord (λ s. Some s.now) (owned_rows_reader a) (owned_rows_reader b) false [] → records_of text ≡ records
read_all text records a b at read = records-ended (owned_rows_reader a) (owned_rows_reader b) (strip_bom text) at.unread records at.config at.source at.reached read
