use Rattle.std.proofs.Common.{sym, ◌∙◌, subst}
use Rattle.crp_cert.specs.HeadsFed.{IsBayIn}
use Rattle.crp_checker.specs.Stages.{HasCome}
use Rattle.crp_checker.proofs.Concluded.{bay_now, bay_at_line, bay_at_part, bay_at_end}
use Rattle.crp_checker.proofs.checker.bay_at.Goals as goal

pub returns-in-Head : goal.returns-in-Head
returns-in-Head c wanted bytes come =
    subst (IsBayIn bytes) (sym c.same_bay.ensures) (c.bay.ensures bytes (subst (HasCome wanted bytes) c.in-Head.is come))

pub returns-in-Line : goal.returns-in-Line
returns-in-Line c wanted bytes come =
    rw (c.copy.ensures) (bay_at_line wanted bytes c.in-Line.findings c.in-Line.begun.items (subst (HasCome wanted bytes) c.in-Line.is come))

pub returns-in-Part : goal.returns-in-Part
returns-in-Part c wanted bytes come =
    rw (c.copy-in-Part.ensures) (bay_at_part wanted bytes c.in-Part.findings c.in-Part.name c.in-Part.line (subst (HasCome wanted bytes) c.in-Part.is come))

pub returns-in-Ended : goal.returns-in-Ended
returns-in-Ended c wanted bytes come =
    rw (c.copy-in-Ended.ensures) (bay_at_end wanted bytes c.in-Ended.findings (subst (HasCome wanted bytes) c.in-Ended.is come))

pub returns-in-Faulty : goal.returns-in-Faulty
returns-in-Faulty c wanted bytes come =
    subst (IsBayIn bytes) (sym (c.same_bay-in-Faulty.ensures ∙ c.as_ref.ensures.value)) (bay_now bytes c.in-Faulty.bay c.in-Faulty.fault (subst (HasCome wanted bytes) c.in-Faulty.is come))
