use Rattle.std.proofs.Common.{◌≡◌, ◌++◌, List, ℕ, length}
use Rattle.std.specs.Option.{option_copied}
use Rattle.crp_checker.specs.Stages.{HasCome}
use Rattle.crp_checker.proofs.checker.read_piece.Given as goal

abbrev pub invariant-loop-rest : goal.invariant-loop-rest
invariant-loop-rest l =
    (taken : List ℕ) × (l.piece ≡ taken ++ l.rest) × ((before : List ℕ) → HasCome (option_copied l.wanted) before l.fn.stage → HasCome (option_copied l.wanted) (before ++ taken) l.stage)

abbrev pub decreases-loop-rest : goal.decreases-loop-rest
decreases-loop-rest l = length l.rest
