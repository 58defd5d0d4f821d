-- Worked cases of a list with semicolons, as the list with commas.
use Rattle.std.proofs.Common.{◌≡◌, ◌∷◌, codes, refl}
use Rattle.csv.specs.Reading.{strip_bom}
use Rattle.crp_separated.specs.Separators.{list_with}

-- each field that is not empty is quoted, and a comma is none between fields
pub commas_are_bytes : list_with 59 44 (codes "A;1;;B,C\n") ≡ codes "\"A\",\"1\",,\"B,C\"\n"
unfolding strip_bom
commas_are_bytes = refl

-- quotes around a field stay, and a semicolon between them is none between fields
pub quoted_stays : list_with 59 44 (codes "\"A;B\";\"C\"\"D\"\r\n\r\nE") ≡ codes "\"A;B\",\"C\"\"D\"\r\n\r\n\"E"
unfolding strip_bom
quoted_stays = refl

-- a quote in a field that does not begin with one stands for itself
pub quote_inside : list_with 59 44 (codes "A\"B\"\"\n") ≡ codes "\"A\"\"B\"\"\"\"\"\n"
unfolding strip_bom
quote_inside = refl

-- what stands behind a closing quote joins the field
pub goes_on : list_with 59 44 (codes "\"A\",B;C\n") ≡ codes "\"A,B\",\"C\"\n"
unfolding strip_bom
goes_on = refl

-- a byte order mark is no part of a list
pub unmarked : list_with 59 44 (0xEF ∷ 0xBB ∷ 0xBF ∷ codes "A;B\n") ≡ codes "\"A\",\"B\"\n"
unfolding strip_bom
unmarked = refl
