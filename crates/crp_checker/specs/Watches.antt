-- The bytes of a certificate in a file, as long as it has not ended.
use Rattle.std.specs.Prelude.{◌≡◌, ℕ, List, [], ◌++◌, codes}
use Rattle.std.specs.List.{AllByRecursion}
use Rattle.crp_checker.specs.declared.watch.Watch.{Watch}
use Rattle.crp_checker.specs.declared.watch.Watch.TheVariants.{Begun, E, En, End, Last, Other}
use Rattle.crp_checker.specs.Files.{IsWithoutEnd, BeginsWithEnd, IsOtherLine, joined_lines}

-- the first bytes of a line are this front of `end `; or the line begins with `end `; or otherwise, whatever follows
abbrev pub IsWatched : List ℕ → Watch → Type 0
IsWatched begun Begun = begun ≡ []
IsWatched begun E = begun ≡ codes "e"
IsWatched begun En = begun ≡ codes "en"
IsWatched begun End = begun ≡ codes "end"
IsWatched begun Last = BeginsWithEnd begun
IsWatched begun Other = (more : List ℕ) → BeginsWithEnd (begun ++ more) → ⊥

-- the bytes are whole lines that do not begin with `end `, and the first bytes of one
pub record IsUnended (text : List ℕ) (watch : Watch) : Type 0 where
  pub lines : List (List ℕ)
  pub begun : List ℕ
  pub others : AllByRecursion IsOtherLine lines
  pub open_line : IsWithoutEnd begun
  pub is : text ≡ joined_lines lines ++ begun
  pub watched : IsWatched begun watch
