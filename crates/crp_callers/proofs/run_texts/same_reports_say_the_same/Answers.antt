use Rattle.std.proofs.Common.{◌≡◌, ◌∙◌, List, [], ◌∷◌, map, refl, sym}
use Rattle.std.specs.List.{AllZip}
use Rattle.crp_said.specs.Said.{BaySaid}
use Rattle.crp_report.specs.Answered.{Answered}
use Rattle.crp_report.specs.Said.{IsSaidOf}
use Rattle.crp_callers.specs.SmallAnswers.{said_of}
use Rattle.crp_callers.proofs.run_texts.same_reports_say_the_same.Goals as goal

-- what is said of each bay is what was answered
as_answered : (answered : List Answered) (bays : List BaySaid) → AllZip IsSaidOf answered bays → said_of answered ≡ map (λ b. (b.bay, b.said)) bays
as_answered [] [] is = refl
as_answered [] (b ∷ bays) is = absurd is
as_answered (bay ∷ answered) [] is = absurd is
as_answered (bay ∷ answered) (b ∷ bays) is = λ i. (sym is.0.bay_is i, sym is.0.said_is i) ∷ as_answered answered bays is.1 i

pub returns-clause-numbers : goal.returns-clause-numbers
returns-clause-numbers c = λ chosen other seen again made also x y same. (c.reports_mean_one_thing.ensures chosen other seen again made also x y same).numbers

pub returns-clause-bays : goal.returns-clause-bays
returns-clause-bays c = λ chosen other seen again made also x y same.
    let say = c.reports_mean_one_thing.ensures chosen other seen again made also x y same in
    as_answered made.answered say.bays say.said.of_each ∙ sym (as_answered also.answered say.bays say.said_again.of_each)
