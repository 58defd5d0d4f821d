-- The records of the bays so far are written.
use Rattle.std.proofs.Common.{◌≡◌, ◌∷◌, map, take}
use Rattle.crp_yard.specs.Text.{text_of_records}
use Rattle.crp_follow.specs.Views.{bay_followed}
use Rattle.crp_loading.specs.Summary.{header, fields}
use Rattle.crp_loading.proofs.summary.load_summary.Given as goal

abbrev pub invariant-loop-bay : goal.invariant-loop-bay
invariant-loop-bay l = l.table ≡ text_of_records (header ∷ map (fields l.sequence) (map bay_followed (take l.bay-index l.bay-items)))
