-- What the solver answers, in numbers and buffers.
use Rattle.std.specs.Prelude.{◌≡◌, ℕ, ◌<◌, ◌≤◌, List, [], length, take, drop, Some, None, option_map, unwrap_or}
use Rattle.crp_plan.specs.Bay.{Problem}
use Rattle.crp_plan.specs.BayNames.{YardBay}
use Rattle.crp_cert.specs.Writing.{certificate_text, first_certificate_text}
use Rattle.crp_checker.specs.declared.verdict.Verdict.{Verdict}
use Rattle.crp_checker.specs.declared.verdict.Verdict.TheVariants as verdict
use Rattle.crp_solve.specs.declared.answer.Answer.{Answer}
use Rattle.crp_solve.specs.declared.answer.Answer.TheVariants as answer
use Rattle.crp_solve.specs.declared.answer.Cause.{Cause}
use Rattle.crp_solve.specs.declared.answer.Cause.TheVariants as cause
use Rattle.crp_solve.specs.declared.answer.Solved.{Solved}
use Rattle.crp_solve.specs.Answers.{plan_of}
use Rattle.crp_solve.specs.Solved.{IsSolved, WasStopped}
use Rattle.crp_c.specs.declared.answered.Answered.{Answered}
use Rattle.crp_c.specs.Asked.{Asked, problem_of, bay_of, chosen_by}
use Rattle.crp_c.specs.Numbers.{numbers_of}

-- what an answer says
abbrev pub verdict_of : Answer → Verdict
verdict_of (answer.Optimal plan cert) = verdict.Optimal (length plan.path)
verdict_of (answer.First plan cert) = verdict.First (length plan.path)
verdict_of (answer.NoPlan cert) = verdict.NoPlan
verdict_of (answer.Between lower cert plan why) = verdict.Bounds lower (option_map (λ route. length route.path) plan)

-- why a search ended
abbrev pub cause_number : Cause → ℕ
cause_number cause.Budget = 1
cause_number cause.Memory = 2
cause_number cause.Time = 3

-- why it ended before the fewest relocations were known, or 0
abbrev pub cause_of : Answer → ℕ
cause_of (answer.Optimal plan cert) = 0
cause_of (answer.First plan cert) = 0
cause_of (answer.NoPlan cert) = 0
cause_of (answer.Between lower cert plan why) = cause_number why

-- the rows that the relocations of the plan go to, if there is a plan
abbrev pub path_of : Answer → List ℕ
path_of found = unwrap_or (plan_of found) []

-- the text of the certificate: that of a first best plan claims it to be that
abbrev pub text_of : YardBay → Problem → Answer → List ℕ
text_of bay p (answer.Optimal plan cert) = certificate_text bay p cert (Some plan)
text_of bay p (answer.First plan cert) = first_certificate_text bay p cert plan
text_of bay p (answer.NoPlan cert) = certificate_text bay p cert None
text_of bay p (answer.Between lower cert plan why) = certificate_text bay p cert plan

-- bytes were put into a buffer: they stand at its front and what was behind stays, where they fit; else it stays as it was
pub record IsPut (bytes before after : List ℕ) : Type 0 where
  pub front : length bytes ≤ length before → take (length bytes) after ≡ bytes
  pub behind : length bytes ≤ length before → drop (length bytes) after ≡ drop (length bytes) before
  pub kept : length before < length bytes → after ≡ before

-- the numbers are those of what was solved
pub record AreNumbersOf (asked : Asked) (solved : Solved) (answered : Answered) : Type 0 where
  pub known : answered.known ≡ numbers_of (verdict_of solved.answer)
  pub cause : answered.cause ≡ cause_of solved.answer
  pub expanded : answered.expanded ≡ solved.expanded
  pub plan_size : answered.plan_size ≡ length (path_of solved.answer)
  pub certificate_size : answered.certificate_size ≡ length (text_of (bay_of asked) (problem_of asked) solved.answer)

-- what is asked is solved as was chosen, nothing stopped it, and the plan and the certificate were put into the buffers
pub record IsAnswered (asked : Asked) (plan plan' certificate certificate' : List ℕ) (answered : Answered) : Type 0 where
  pub solved : Solved
  pub is_solved : IsSolved (problem_of asked) (chosen_by asked.search) solved
  pub never_stopped : WasStopped solved → ⊥
  pub numbers : AreNumbersOf asked solved answered
  pub plan_put : IsPut (path_of solved.answer) plan plan'
  pub certificate_put : IsPut (text_of (bay_of asked) (problem_of asked) solved.answer) certificate certificate'
