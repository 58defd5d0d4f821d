-- The name of a bay.
use Rattle.std.specs.Prelude.{◌≤◌, ℕ, List, length, All, Bool, ◌&&◌, ◌==◌}
use Rattle.std.specs.Str.{bytes_eq}

-- the block of the yard, as bytes, and the number of the bay in it
pub record YardBay : Type 0 where
  pub block : List ℕ
  pub bay : ℕ

-- one to seventeen printed characters, and a number of one to four digits that is not 0
pub record IsYardBay (name : YardBay) : Type 0 where
  pub some_characters : 1 ≤ length name.block
  pub few_characters : length name.block ≤ 17
  pub printed : All (λ b. (33 ≤ b) × (b ≤ 126)) name.block
  pub counts : 1 ≤ name.bay
  pub four_digits : name.bay ≤ 9999

-- of one block, and with one number
abbrev pub same_bay : YardBay → YardBay → Bool
same_bay a b = bytes_eq a.block b.block && (a.bay == b.bay)
