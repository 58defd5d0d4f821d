-- What is noted of a bay.
use Rattle.std.specs.Prelude.{ℕ, Bool, true, false, List, Option, Some, None, codes}
use Rattle.crp_plan.specs.BayNames.{YardBay}
use Rattle.crp_solve.specs.declared.answer.Answer.{Answer}
use Rattle.crp_solve.specs.declared.answer.Answer.TheVariants as answer
use Rattle.crp_solve.specs.declared.answer.Cause.{Cause}
use Rattle.crp_solve.specs.declared.answer.Cause.TheVariants as cause
use Rattle.crp_notes.specs.Wording.{open_note, no_plan_note}

-- why a search ended early, and what helps; its time may be over since a file stopped the run
abbrev pub advice_on : Cause → Bool → List ℕ
advice_on cause.Budget stopped = codes "its budget was spent: a larger --budget decides more, more --workers are faster, and --strong helps in large bays"
advice_on cause.Memory stopped = codes "memory ran out: close other programs, or use a machine with more memory"
advice_on cause.Time true = codes "the file that --stop names ended its search: take that file away before the next run"
advice_on cause.Time false = codes "its time was over: a larger --seconds or --total-seconds decides more, more --workers are faster, and --strong helps in large bays"

-- the note on a bay with this answer, if there is one
abbrev pub bay_note : YardBay → Answer → Bool → Option (List ℕ)
bay_note bay (answer.Optimal plan cert) stopped = None
bay_note bay (answer.First plan cert) stopped = None
bay_note bay (answer.NoPlan cert) stopped = Some (no_plan_note bay)
bay_note bay (answer.Between lower cert plan why) stopped = Some (open_note bay (advice_on why stopped))
