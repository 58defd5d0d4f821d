-- The text with another byte between fields that has the same records.
use Rattle.std.specs.Prelude.{◌≢◌, ◌<◌, ◌==◌, ◌||◌, ℕ, Bool, List, [], ◌∷◌, ◌++◌, if◌then◌else◌}
use Rattle.csv.specs.Reading.{default_config, strip_bom}
use Rattle.csv.specs.declared.parser.Config.{Config}
use Rattle.crp_separated.specs.declared.places.Place.{Place}
use Rattle.crp_separated.specs.declared.places.Place.TheVariants.{FieldStart, Field, Quoted, QuoteEnd}

-- how csv reads a list with this byte between fields
abbrev pub parted_by : ℕ → Config
parted_by separator = record default_config { delimiter = separator }

-- the byte is of ASCII, no quote, and ends no line
pub record IsSeparator (separator : ℕ) : Type 0 where
  pub ascii : separator < 128
  pub no_quote : separator ≢ 34
  pub no_return : separator ≢ 13
  pub no_feed : separator ≢ 10

-- the byte ends a line
abbrev pub ends_line : ℕ → Bool
ends_line b = (b == 13) || (b == 10)

-- where the byte behind this one stands, in a field that has begun without quotes around it, or goes on behind them
abbrev pub behind_plain : ℕ → ℕ → Place
behind_plain from b = if (b == from) || ends_line b then FieldStart else Field

-- where the byte behind this one stands, in a list with `from` between its fields
abbrev pub behind : ℕ → Place → ℕ → Place
behind from FieldStart b = if b == 34 then Quoted else behind_plain from b
behind from Field b = behind_plain from b
behind from Quoted b = if b == 34 then QuoteEnd else Quoted
behind from QuoteEnd b = if b == 34 then Quoted else behind_plain from b

-- what stands for a byte in a field that is between quotes now
abbrev pub inside : ℕ → ℕ → ℕ → List ℕ
inside from to b =
    if b == from then 34 ∷ to ∷ []
    else if ends_line b then 34 ∷ b ∷ []
    else if b == 34 then 34 ∷ 34 ∷ []
    else b ∷ []

-- what stands for a byte in the list with `to` between its fields, where each field that is not empty is between quotes: the quote that ends them waits for the
-- byte behind it
abbrev pub instead : ℕ → ℕ → Place → ℕ → List ℕ
instead from to FieldStart b =
    if b == from then to ∷ []
    else if ends_line b || (b == 34) then b ∷ []
    else 34 ∷ b ∷ []
instead from to Field b = inside from to b
instead from to Quoted b = if b == 34 then [] else b ∷ []
instead from to QuoteEnd b = inside from to b

-- the bytes from a place on, with `to` between fields in place of `from`
abbrev pub translated : ℕ → ℕ → Place → List ℕ → List ℕ
translated from to place [] = []
translated from to place (b ∷ bytes) = instead from to place b ++ translated from to (behind from place b) bytes

-- where the byte behind these stands
abbrev pub behind_all : ℕ → Place → List ℕ → Place
behind_all from place [] = place
behind_all from place (b ∷ bytes) = behind_all from (behind from place b) bytes

-- the list with `to` between its fields that has the records of the list with `from` between them, without a byte order mark
abbrev pub list_with : ℕ → ℕ → List ℕ → List ℕ
list_with from to text = translated from to FieldStart (strip_bom text)
