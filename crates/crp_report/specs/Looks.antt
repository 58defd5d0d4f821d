-- What looks ahead find. Only private clauses speak of it.
use Rattle.std.specs.Prelude.{◌≡◌, ℕ, List, Some, slice_get}
use Rattle.crp_order.specs.declared.bay_problem.BayProblem.{BayProblem}
use Rattle.crp_solve.specs.Chosen.{Chosen}
use Rattle.crp_solve.specs.Solved.{IsSolved}
use Rattle.crp_report.specs.declared.ready.Ready.{Ready}
use Rattle.crp_report.specs.BayTexts.{AreTextsOfBay}

-- the problem of the bay is answered, and these are the texts of that
pub record IsReady (chosen : Chosen) (bay : BayProblem) (ready : Ready) : Type 0 where
  pub solved : IsSolved bay.problem chosen ready.solved
  pub texts : AreTextsOfBay (record { stated = bay; solved = ready.solved }) ready.texts

-- so it is of the bay at this place
pub record IsReadyAt (chosen : Chosen) (bays : List BayProblem) (place : ℕ) (ready : Ready) : Type 0 where
  pub bay : BayProblem
  pub stands : slice_get bays place ≡ Some bay
  pub answered : IsReady chosen bay ready
