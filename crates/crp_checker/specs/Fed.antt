-- What a checker has read.
use Rattle.std.specs.Prelude.{◌≡◌, ℕ, List, Option, Some, None}
use Rattle.crp_plan.specs.Bay.{Problem}
use Rattle.crp_checker.specs.declared.checker.Checker.{Checker}
use Rattle.crp_checker.specs.declared.stage.Stage.{Stage}
use Rattle.crp_checker.specs.Stages.{HasCome}

-- these bytes lead to this stage, if there is one: where no memory was left, none lead there
abbrev pub HasComeIf : Option Problem → List ℕ → Option Stage → Type 0
HasComeIf wanted bytes (Some stage) = HasCome wanted bytes stage
HasComeIf wanted bytes None = ⊥

-- the checker was asked for this problem, if for one, and fed these bytes, however they were cut
abbrev pub HasRead : Option Problem → List ℕ → Checker → Type 0
HasRead wanted bytes checker = (checker.wanted ≡ wanted) × HasComeIf wanted bytes checker.stage

-- no memory was left for it
abbrev pub IsOutOfMemory : Checker → Type 0
IsOutOfMemory checker = checker.stage ≡ None
