use Rattle.std.proofs.Common.{◌≡◌, ◌⊎◌, ◌∙◌, ◌++◌, ℕ, [], ◌∷◌, List, ap, inl, inr}
use Rattle.crp_said.specs.declared.report.ReportFault.{ReportFault}
use Rattle.crp_said.specs.declared.report.ReportFault.TheVariants.{Line, Memory}
use Rattle.crp_said.specs.Spelled.{IsMisspelled}
use Rattle.crp_said.specs.Views.{report_as}
use Rattle.crp_callers.specs.SmallBay.{lines}
use Rattle.crp_callers.specs.SmallReport.{empty_lines}
use Rattle.crp_callers.proofs.SmallReports.{more_misspelled}
use Rattle.crp_callers.proofs.reports.read_report_and_more.Goals as goal

abbrev text : List ℕ
text = lines empty_lines ++ 10 ∷ []

at_three : (fault : ReportFault) → ((line : ℕ) → IsMisspelled text line → line ≡ 3) → (fault ≡ Memory) ⊎ ((line : ℕ) × (fault ≡ Line line) × IsMisspelled text line)
    → (fault ≡ Line 3) ⊎ (fault ≡ Memory)
at_three fault one (inl is) = inr is
at_three fault one (inr wrong) = inl (wrong.1 ∙ ap Line (one wrong.0 wrong.2))

pub unreachable-requires : goal.unreachable-requires
unreachable-requires c = c.one_report.ensures.apart text (report_as c.in-Ok.field-0) 3 c.in-Ok.ensures.found more_misspelled

pub returns : goal.returns
returns c = at_three c.in-Err.fault (λ line is. c.one_report.ensures.first text line 3 is more_misspelled) c.in-Err.ensures.refused
