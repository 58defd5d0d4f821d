-- How a text is read that may name a bay. Only private clauses speak of it.
use Rattle.std.specs.Prelude.{ℕ, ◌==◌, List, length, Option, Some, None, if◌then◌else◌, codes}
use Rattle.crp_cert.specs.Reading.{◌>>=◌, tag_at, number_at, word_at}

-- what stands before the first blank, and the number behind it, where that ends the text
unfoldable pub parts_at : List ℕ → Option (List ℕ × ℕ)
parts_at text = do
  block ← word_at text
  rest ← tag_at (codes " ") block.1
  bay ← number_at 4294967295 rest
  if length bay.1 == 0 then Some (block.0, bay.0) else None
