-- A text that is a number of seconds.
use Rattle.std.specs.Prelude.{◌≡◌, ◌≤◌, ℕ, ◌*◌, ◌^◌, List, [], ◌∷◌, ◌++◌, length}
use Rattle.std.specs.Str.Parse.{AllDigits, IsNumeral, digits_value}

-- 1 to so many decimal digits
abbrev pub AreDigits : ℕ → List ℕ → Type 0
AreDigits most text = IsNumeral 10 text × (length text ≤ most)

-- the digits behind the whole seconds: none, or a point and these
abbrev pub behind_point : List ℕ → List ℕ
behind_point [] = []
behind_point (digit ∷ digits) = 46 ∷ digit ∷ digits

-- the text is so many thousandths of a second: 1 to 5 digits, and behind them, if at all, a point and 1 to 3 digits; with ten times as many for each digit
-- behind the point, they are a thousand times the number that all its digits write
pub record IsThousandths (text : List ℕ) (thousandths : ℕ) : Type 0 where
  pub whole : List ℕ
  pub part : List ℕ
  pub whole_digits : AreDigits 5 whole
  pub part_digits : AllDigits 10 part × (length part ≤ 3)
  pub joined : text ≡ whole ++ behind_point part
  pub value : thousandths * 10 ^ length part ≡ 1000 * digits_value 10 (whole ++ part)

-- the text is this number of milliseconds, in seconds: from 0.001 to 86400
abbrev pub IsSecondsText : List ℕ → ℕ → Type 0
IsSecondsText text millis = IsThousandths text millis × (1 ≤ millis) × (millis ≤ 86400000)

-- a part behind a point is so many thousandths: 1 to 3 digits. Only private clauses speak of it.
abbrev pub IsPart : List ℕ → ℕ → Type 0
IsPart text thousandths = AreDigits 3 text × (thousandths * 10 ^ length text ≡ 1000 * digits_value 10 text)
