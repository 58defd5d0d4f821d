-- A part of a report by name: some bays, and those of some blocks; or all, where nothing is named.
use Rattle.std.specs.Prelude.{ℕ, Bool, true, false, ◌||◌, List, [], ◌∷◌}
use Rattle.std.specs.List.{list_any}
use Rattle.std.specs.Str.{bytes_eq}
use Rattle.crp_plan.specs.BayNames.{YardBay, same_bay}

-- the names of bays, and the blocks
pub record NamedPart : Type 0 where
  pub bays : List YardBay
  pub blocks : List (List ℕ)

-- nothing is named
abbrev pub names_nothing : List YardBay → List (List ℕ) → Bool
names_nothing [] [] = true
names_nothing [] (block ∷ blocks) = false
names_nothing (bay ∷ bays) blocks = false

-- the bay is named, or stands in a block that is; or nothing is named
abbrev pub is_in_part : NamedPart → YardBay → Bool
is_in_part p bay = names_nothing p.bays p.blocks || (list_any (λ name. same_bay name bay) p.bays || list_any (λ block. bytes_eq block bay.block) p.blocks)
