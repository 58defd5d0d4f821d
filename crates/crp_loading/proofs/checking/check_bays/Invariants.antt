-- The bays so far have no fault.
use Rattle.std.proofs.Common.{◌≡◌, map, drop}
use Rattle.crp_follow.specs.Views.{bay_followed}
use Rattle.crp_loading.specs.Faults.{faults_of}
use Rattle.crp_loading.proofs.checking.check_bays.Given as goal

abbrev pub invariant-loop-bay : goal.invariant-loop-bay
invariant-loop-bay l = faults_of l.ship.sequence (map bay_followed l.bays) ≡ faults_of l.ship.sequence (map bay_followed (drop l.bay-index l.bays))
