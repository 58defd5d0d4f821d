-- The records of the moves so far.
use Rattle.std.proofs.Common.{◌≡◌, map, take}
use Rattle.crp_follow.specs.Views.{columns_as}
use Rattle.crp_loading.specs.Loading.{record_at}
use Rattle.crp_loading.specs.Views.{recorded}
use Rattle.crp_loading.proofs.recording.records_of.Given as goal

abbrev pub invariant-loop-columns : goal.invariant-loop-columns
invariant-loop-columns l = map recorded l.records.items ≡ map (record_at l.ship.sequence l.ship.orders) (map columns_as (take l.columns-index l.columns-items))
