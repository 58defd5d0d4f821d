-- How two reports are compared over files, from how they are over their devices.
use Rattle.std.proofs.Common.{◌≡◌, ◌≢◌, ◌∙◌, ℕ, ◌+◌, List, Option, Result, Ok, Err, MatchResult, codes, refl, sym, ap, subst, inl, inr, arith}
use Rattle.std.specs.Prelude.{IsTrue}
use Rattle.crp_plan.specs.Devices.{CountsMore}
use Rattle.crp_files.specs.Known.{KnownFiles}
use Rattle.crp_report.specs.declared.status.Status.{Status}
use Rattle.crp_report.specs.Chosen.{InputChosen}
use Rattle.crp_report.specs.Runs.{SourceSeen, SinkSeen}
use Rattle.crp_jobs.specs.declared.job.CompareFiles.{CompareFiles}
use Rattle.crp_jobs.specs.declared.outcome.ToolFault.{ToolFault}
use Rattle.crp_jobs.specs.Opened.{FilesSeen, FilesFail, IsFileOpened}
use Rattle.crp_commands.specs.Lists.{IsListOpened}
use Rattle.crp_commands.specs.Compare.{AreReportsFrom, CompareChosen, CompareEnds, CompareFails, CompareFailsOverFiles, CompareReportsOverFiles, CompareSeen, ComparesOver, IsOfUnread, IsOverCompared, IsOverReports, IsUncompared, RefusesReport, compared_by}
use Rattle.crp_commands.proofs.FollowedFiles.{one_too}

-- what failed of the reports is what failed of the files, where nothing came before
pub none_before : (n a b : ℕ) → CountsMore n a b → CountsMore (0 + n) a b
none_before n a b more = omega (arith, more)

-- the devices of a call are these
pub over_devices : (chosen : CompareChosen) (names : CompareFiles) (files : FilesSeen) (yard given : SourceSeen) (shown : SinkSeen) (s : CompareSeen)
    (answer : Result Status ToolFault) → IsOverReports names files yard given shown s → MatchResult answer (CompareEnds chosen s) (CompareFails chosen s)
    → ComparesOver chosen (IsOverReports names files yard given shown) (RefusesReport names files yard given shown) answer
over_devices chosen names files yard given shown s (Ok ended) over is = (s, over, is)
over_devices chosen names files yard given shown s (Err f) over is = inr (s, over, is)

-- ---- the yard list, which is opened before the reports

more_failed : (files middle : FilesSeen) (m n : ℕ) → middle.before ≡ files.before → CountsMore n middle.after files.after → FilesFail middle (0 + m)
    → FilesFail files (n + m)
more_failed files middle m n begun closed failed = omega (arith, begun, closed, failed)

same_file : (files middle : FilesSeen) (name : List ℕ) (source : SourceSeen) → middle.known ≡ files.known → IsFileOpened middle.known name source
    → IsFileOpened files.known name source
same_file files middle name source known is = subst (λ (k : KnownFiles). IsFileOpened k name source) known is

reports_too : (names : CompareFiles) (files middle : FilesSeen) (given : SourceSeen) (n : ℕ) (s : CompareSeen) → middle.known ≡ files.known
    → middle.before ≡ files.before → CountsMore n middle.after files.after → AreReportsFrom names middle given 0 s → AreReportsFrom names files given n s
reports_too names files middle given n s known begun closed (inl (named, is, second, failed)) =
    inl (named, is, same_file files middle names.second.now s.second known second, more_failed files middle s.second.after n begun closed failed)
reports_too names files middle given n s known begun closed (inr (inl (named, is, first, failed))) =
    inr (inl (named, is, same_file files middle names.report.now s.report known first, more_failed files middle s.report.after n begun closed failed))
reports_too names files middle given n s known begun closed (inr (inr (named, other, first, second, unread, failed))) = inr (inr (
  named,
  other,
  same_file files middle names.report.now s.report known first,
  same_file files middle names.second.now s.second known second,
  unread,
  more_failed files middle (s.report.after + s.second.after) n begun closed failed,
))

devices_too : (names : CompareFiles) (files middle : FilesSeen) (yard given : SourceSeen) (shown : SinkSeen) (s : CompareSeen) → middle.known ≡ files.known
    → files.left ≡ middle.left → middle.before ≡ files.before → IsListOpened files.known names.separator names.yard.now yard → CountsMore yard.after middle.after files.after
    → IsOverReports names middle yard given shown s → IsOverCompared names files given shown s
devices_too names files middle yard given shown s known end begun is closed over = record {
  yard = subst (IsListOpened files.known names.separator names.yard.now) (sym over.yard_is) is;
  reports = subst (λ (source : SourceSeen). AreReportsFrom names files given source.after s) (sym over.yard_is)
      (reports_too names files middle given yard.after s known begun closed over.reports);
  table = over.table;
  kept = end ∙ over.kept ∙ known;
}

pub over_yard : (chosen : InputChosen) (names : CompareFiles) (files middle : FilesSeen) (yard given : SourceSeen) (out : SinkSeen) (answer : Result Status ToolFault)
    → middle.known ≡ files.known → files.left ≡ middle.left → middle.before ≡ files.before → IsListOpened files.known names.separator names.yard.now yard
    → CountsMore yard.after middle.after files.after
    → ComparesOver (compared_by names chosen) (IsOverReports names middle yard given out) (RefusesReport names middle yard given out) answer
    → MatchResult answer (CompareReportsOverFiles names chosen files given out) (CompareFailsOverFiles names chosen files given out)
over_yard chosen names files middle yard given out (Ok ended) known end begun is closed (s, over, ends) =
    (s, devices_too names files middle yard given out s known end begun is closed over, ends)
over_yard chosen names files middle yard given out (Err f) known end begun is closed (inl refusal) =
    let was = refusal.uncompared in
    inl (record {
      stated = subst (λ (k : KnownFiles). IsOfUnread k names f) known was.stated;
      one = one_too 1 yard files middle is.new refusal.unread begun closed was.one;
      kept = end ∙ was.kept ∙ known;
      unread = was.unread;
      alone = was.alone;
    })
over_yard chosen names files middle yard given out (Err f) known end begun is closed (inr (s, over, fails)) =
    inr (s, devices_too names files middle yard given out s known end begun is closed over, fails)
