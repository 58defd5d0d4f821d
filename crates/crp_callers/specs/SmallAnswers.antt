-- What is answered and said of bays.
use Rattle.std.specs.Prelude.{◌++◌, List, map}
use Rattle.crp_plan.specs.BayNames.{YardBay}
use Rattle.crp_said.specs.declared.said.Said.{Said}
use Rattle.crp_solve.specs.declared.answer.Solved.{Solved}
use Rattle.crp_report.specs.Answered.{Answered, said_by}
use Rattle.crp_callers.specs.SmallBay.{small, first_bay}
use Rattle.crp_callers.specs.SmallReport.{leaving, staying}

-- the small bay, answered so
abbrev pub small_answered : Solved → Answered
small_answered solved = record { stated = record { bay = first_bay; problem = small; names = leaving ++ staying }; solved = solved }

-- the names of bays, and what is said of their fewest relocations
abbrev pub said_of : List Answered → List (YardBay × Said)
said_of answered = map (λ bay. (bay.stated.bay, said_by bay.solved.answer)) answered
