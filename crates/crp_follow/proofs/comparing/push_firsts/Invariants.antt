-- The records of the bays so far.
use Rattle.std.proofs.Common.{◌≡◌, ◌++◌, map, take}
use Rattle.crp_yard.specs.Text.{text_of_records}
use Rattle.crp_follow.specs.Compare.{compared_fields}
use Rattle.crp_follow.specs.Views.{bay_followed}
use Rattle.crp_follow.proofs.comparing.push_firsts.Given as goal

abbrev pub invariant-loop-bay : goal.invariant-loop-bay
invariant-loop-bay l =
    l.longer ≡ l.initial.longer ++ text_of_records (map (compared_fields (map bay_followed l.seconds)) (map bay_followed (take l.bay-index l.firsts)))
