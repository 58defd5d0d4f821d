-- The records of those of the bays so far that the first report has not.
use Rattle.std.proofs.Common.{◌≡◌, ◌++◌, map, take}
use Rattle.crp_yard.specs.Text.{text_of_records}
use Rattle.crp_follow.specs.Compare.{second_alone, second_alone_fields}
use Rattle.crp_follow.specs.Views.{bay_followed}
use Rattle.crp_follow.proofs.comparing.push_seconds.Given as goal

abbrev pub invariant-loop-bay : goal.invariant-loop-bay
invariant-loop-bay l =
    l.longer ≡ l.initial.longer ++ text_of_records (map second_alone_fields (second_alone (map bay_followed l.firsts) (map bay_followed (take l.bay-index l.seconds))))
