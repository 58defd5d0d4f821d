use Rattle.std.proofs.lemmas.Result.{IfOk-weaker, IfErr-weaker}
use Rattle.crp_said.specs.Views.{report_as}
use Rattle.crp_callers.specs.SmallBay.{lines}
use Rattle.crp_callers.specs.SmallReport.{report_lines, small_report}
use Rattle.crp_callers.proofs.Plain.{left_of}
use Rattle.crp_callers.proofs.SmallReports.{small_report_is}
use Rattle.crp_callers.proofs.reports.read_small_report.Goals as goal

pub returns-clause-read : goal.returns-clause-read
returns-clause-read c =
    IfOk-weaker c.read_report.result _ _ (λ report is. c.one_report.ensures.one (lines report_lines) (report_as report) small_report is small_report_is) c.read_report.ensures.found

pub returns-clause-refused : goal.returns-clause-refused
returns-clause-refused c =
    IfErr-weaker c.read_report.result _ _ (λ fault is. left_of (λ wrong. c.one_report.ensures.apart (lines report_lines) small_report wrong.0 small_report_is wrong.2) is) c.read_report.ensures.refused
