-- What an answer says is what its verdict says.
use Rattle.std.proofs.Common.{◌≡◌, List, length, Option, Some, None, IfSome, refl, ap, ◌∙◌}
use Rattle.std.specs.Prelude.{option_map}
use Rattle.crp_plan.specs.declared.moves.Move.{Move}
use Rattle.crp_plan.specs.Bay.{Problem, IsPlan, relocations}
use Rattle.crp_plan.specs.Plans.{ProblemPath}
use Rattle.crp_plan.proofs.Covered.{relocations-path}
use Rattle.crp_checker.specs.Verdicts.{Says}
use Rattle.crp_solve.specs.declared.answer.Answer.{Answer}
use Rattle.crp_solve.specs.declared.answer.Answer.TheVariants.{Optimal, First, NoPlan, Between}
use Rattle.crp_solve.specs.Answers.{SaysTrue, IsPlanOf}
use Rattle.crp_c.specs.Answers.{verdict_of}

-- some plan has as many relocations as a plan that is known
some_plan : (p : Problem) (plan : Option ProblemPath) → IfSome plan (IsPlanOf p)
    → IfSome (option_map (λ route. length route.path) plan) (λ count. (moves : List Move) × IsPlan p moves × (relocations moves ≡ count))
some_plan p None is = tt
some_plan p (Some route) is = let known = is.complete in (known.0, known.1, relocations-path known.0 ∙ ap length known.2)

pub says_verdict : (p : Problem) (found : Answer) → SaysTrue p found → Says p (verdict_of found)
says_verdict p (Optimal plan cert) says = says.best
says_verdict p (First plan cert) says = (plan.path, says.first, refl)
says_verdict p (NoPlan cert) says = says.none
says_verdict p (Between lower cert plan why) says = (says.bounds, some_plan p plan says.plan_is)
