-- What a report that is followed says of a part, and the first that is named there and not in the report.
use Rattle.std.specs.Prelude.{ℕ, Bool, not, List, filter, Option, Some, None}
use Rattle.std.specs.List.{list_any, position_from}
use Rattle.std.specs.Str.{bytes_eq}
use Rattle.crp_plan.specs.BayNames.{YardBay, same_bay}
use Rattle.crp_follow.specs.declared.unstated.Unstated.{Unstated}
use Rattle.crp_follow.specs.declared.unstated.Unstated.TheVariants.{Bay, Block}
use Rattle.crp_follow.specs.Followed.{BayFollowed}
use Rattle.crp_follow.specs.Parts.{NamedPart, is_in_part}

-- the bays of the part, in the order of the report
abbrev pub bays_of_part : NamedPart → List BayFollowed → List BayFollowed
bays_of_part p bays = filter (λ b. is_in_part p b.stated.bay) bays

-- the report has the bay of this name
abbrev pub has_bay : List BayFollowed → YardBay → Bool
has_bay bays name = list_any (λ b. same_bay name b.stated.bay) bays

-- it has a bay of this block
abbrev pub has_block : List BayFollowed → List ℕ → Bool
has_block bays block = list_any (λ b. bytes_eq block b.stated.bay.block) bays

-- a bay of this number, or where there is none a block of this one
abbrev pub bay_or_block : Option ℕ → Option ℕ → Option Unstated
bay_or_block (Some bay) block = Some (Bay bay)
bay_or_block None (Some block) = Some (Block block)
bay_or_block None None = None

-- the first bay that is named and that the report has not, and where there is none the first such block, by its number from 1
abbrev pub first_unstated : NamedPart → List BayFollowed → Option Unstated
first_unstated p bays = bay_or_block (position_from (λ name. not (has_bay bays name)) 1 p.bays) (position_from (λ block. not (has_block bays block)) 1 p.blocks)
