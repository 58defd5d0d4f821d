use Rattle.std.proofs.Common.{◌≡◌, ◌≤◌, ℕ, [], ◌∷◌, Option}
use Rattle.std.proofs.lemmas.Result.{IfOk-weaker}
use Rattle.crp_plan.specs.Plans.{ProblemPath}
use Rattle.crp_tree.specs.Parts.{ProblemPart, Certificate}
use Rattle.crp_solve.specs.Searches.{IsBestMet, IsShown}
use Rattle.crp_solve.proofs.One.{root_shows, one_certificate}
use Rattle.crp_solve.proofs.answering.root_cert.Goals as goal

pub returns-clause-shown : goal.returns-clause-shown
returns-clause-shown c =
    let p = c.args.problem.now in let part : ProblemPart = c.in_ok-part.part in let known = c.in_ok-part.ensures in
    IfOk-weaker c.whole.result (λ (cert : Certificate). cert ≡ record { parts = part ∷ []; lower = part.floor })
    (λ (cert : Certificate). (budget expanded : ℕ) (plan : Option ProblemPath) → IsBestMet p plan → expanded ≤ budget → IsShown p budget cert plan expanded)
    (λ cert e budget expanded plan met within.
    root_shows p part cert plan budget expanded met.is_problem e (one_certificate part cert e) known.problem known.kept known.root known.alone known.cut known.floor met within)
    c.whole.ensures.value
