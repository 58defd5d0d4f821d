-- The headline holds of what a run over files wrote.
use Rattle.std.proofs.Common.{◌≡◌, ◌∙◌, ◌⊎◌, ℕ, List, [], Option, Some, None, refl, sym, ap, subst, inl, inr, take, length}
use Rattle.std.specs.Prelude.{IfSome, IsTrue}
use Rattle.std.specs.Io.KnownBytes.{Appends}
use Rattle.std.proofs.Math.Seq.{take-length}
use Rattle.crp_audit.specs.Headline.{IsHeadline}
use Rattle.crp_headline.specs.Accepted.{handed_of}
use Rattle.crp_headline.proofs.Reported.{headline_holds}
use Rattle.crp_report.specs.declared.fault.Fault.{Fault}
use Rattle.crp_report.specs.declared.fault.Fault.TheVariants as run
use Rattle.crp_report.specs.declared.fault.Output.{Output}
use Rattle.crp_report.specs.declared.fault.Output.TheVariants as output
use Rattle.crp_report.specs.declared.status.Status.{Status}
use Rattle.crp_report.specs.Chosen.{RunChosen}
use Rattle.crp_report.specs.Runs.{RunSeen, SinkSeen, Made, IsMade, Gets, GetsFront, GetsNothing, WritesNothing, sink_of, text_for}
use Rattle.crp_jobs.specs.declared.job.Job.{Job}
use Rattle.crp_jobs.specs.declared.job.Job.TheVariants as job
use Rattle.crp_jobs.specs.declared.job.RunFiles.{RunFiles}
use Rattle.crp_jobs.specs.declared.outcome.ToolFault.{ToolFault}
use Rattle.crp_jobs.specs.declared.outcome.ToolFault.TheVariants as fault
use Rattle.crp_commands.specs.Performing.{JobSeen, ReportsOverFiles, FailsOverFiles}
use Rattle.crp_jobs.specs.Opened.{FilesSeen, IsWanted, IsLeft}
use Rattle.crp_commands.specs.Solving.{Unfinished, IsOverFiles, RunFailsOverFiles, SolveFailsOverFiles, AreTwo, all_finished, file_of, unfinished_of}
use Rattle.crp_commands.specs.Headlines.{AreFrontsWritten, KeepsHeadline, KeepsHeadlineSoFar}

each_gets : (s : RunSeen) (m : Made) → Gets s.report m.report → Gets s.certificates m.certificates → Gets s.yard_after m.yard_after →
    (each : Output) → Gets (sink_of s each) (text_for m each)
each_gets s m report certificates yard_after output.Report = report
each_gets s m report certificates yard_after output.Certificates = certificates
each_gets s m report certificates yard_after output.YardAfter = yard_after

-- ---- what stands under the names of the files

got_all : (holds : Option (List ℕ)) (text : List ℕ) → Appends (Some []) holds text → holds ≡ Some text
got_all None text is = absurd is
got_all (Some bytes) text is = ap Some is

-- a file that was empty, and got this text, holds it
stands : (files : FilesSeen) (name : Option (List ℕ)) (unfinished : ℕ) (s : SinkSeen) (text : List ℕ) → IsWanted files.known name unfinished s
    → IsLeft files name unfinished s → IsTrue files.known.states → unfinished ≡ 0 → Gets s text → IfSome name (λ n. files.left.given n ≡ Some text)
stands files None unfinished s text made left stated finished gets = tt
stands files (Some n) unfinished s text made left stated finished gets =
    left stated finished ∙ got_all s.holds text (subst (λ (o : Option (List ℕ)). Appends o s.holds text) (made.empty stated) gets)

front_stands : (files : FilesSeen) (name : Option (List ℕ)) (unfinished : ℕ) (s : SinkSeen) (text : List ℕ) → IsWanted files.known name unfinished s
    → IsLeft files name unfinished s → IsTrue files.known.states → unfinished ≡ 0 → GetsFront s text
    → IfSome name (λ n. (k : ℕ) × (files.left.given n ≡ Some (take k text)))
front_stands files None unfinished s text made left stated finished gets = tt
front_stands files (Some n) unfinished s text made left stated finished (k, gets) =
    (k, stands files (Some n) unfinished s (take k text) made left stated finished gets)

all_stand : (names : RunFiles) (files : FilesSeen) (out : SinkSeen) (s : RunSeen) (m : Made) → IsOverFiles files names out all_finished s
    → ((each : Output) → Gets (sink_of s each) (text_for m each)) → IsTrue files.known.states → AreTwo files.known names → (each : Output)
    → IfSome (file_of names each) (λ name. files.left.given name ≡ Some (text_for m each))
all_stand names files out s m over gets stated two output.Report = tt
all_stand names files out s m over gets stated two output.Certificates =
    stands files (file_of names output.Certificates) 0 s.certificates m.certificates over.certificates (over.left two output.Certificates) stated refl (gets output.Certificates)
all_stand names files out s m over gets stated two output.YardAfter =
    stands files (file_of names output.YardAfter) 0 s.yard_after m.yard_after over.yard_after (over.left two output.YardAfter) stated refl (gets output.YardAfter)

fronts_stand : (names : RunFiles) (files : FilesSeen) (out : SinkSeen) (u : Unfinished) (s : RunSeen) (m : Made) → IsOverFiles files names out u s
    → ((each : Output) → GetsFront (sink_of s each) (text_for m each)) → IsTrue files.known.states → AreTwo files.known names → (each : Output)
    → unfinished_of u each ≡ 0 → IfSome (file_of names each) (λ name. (k : ℕ) × (files.left.given name ≡ Some (take k (text_for m each))))
fronts_stand names files out u s m over gets stated two output.Report finished = tt
fronts_stand names files out u s m over gets stated two output.Certificates finished =
    front_stands files (file_of names output.Certificates) u.certificates s.certificates m.certificates over.certificates (over.left two output.Certificates) stated finished
    (gets output.Certificates)
fronts_stand names files out u s m over gets stated two output.YardAfter finished =
    front_stands files (file_of names output.YardAfter) u.yard_after s.yard_after m.yard_after over.yard_after (over.left two output.YardAfter) stated finished
    (gets output.YardAfter)

-- a whole text is a front of it
whole_front : (s : SinkSeen) (text : List ℕ) → Gets s text → GetsFront s text
whole_front s text gets = (length text, subst (λ (l : List ℕ). Appends s.held s.holds l) (sym (take-length text)) gets)

-- ---- the headline

-- of one that has ended
pub headline_kept : (j : Job) (seen : JobSeen) (ended : Status) → ReportsOverFiles j seen ended → KeepsHeadline j seen
headline_kept (job.OneFile file command stop) seen ended is = tt
headline_kept (job.Absent names settings) seen ended is = tt
headline_kept (job.Audit names settings) seen ended is = tt
headline_kept (job.Follow names heights) seen ended is = tt
headline_kept (job.Compare names settings) seen ended is = tt
headline_kept (job.Solve names chosen quiet progress) seen ended (alone, (s, over, ((m, made, status, report, certificates, yard_after), few))) =
    let gets = each_gets s m report certificates yard_after in (
      m,
      headline_holds chosen s m made,
      record {
        saw = s;
        over = over;
        is_made = made;
        written = gets;
        left = all_stand names seen.files seen.out s m over gets;
        others = over.others;
      },
    )

-- and of one that ended with a fault
abbrev HeadlineSoFar : RunFiles → RunChosen → JobSeen → Type 0
HeadlineSoFar names chosen seen = GetsNothing seen.out ⊎ ((made : Made) × IsHeadline (handed_of made) × AreFrontsWritten names chosen seen made)

nothing_yet : (names : RunFiles) (chosen : RunChosen) (seen : JobSeen) (u : Unfinished) (s : RunSeen) → IsOverFiles seen.files names seen.out u s → WritesNothing s
    → HeadlineSoFar names chosen seen
nothing_yet names chosen seen u s over nothing = inl (subst GetsNothing over.report nothing.0)

fronts_so_far : (names : RunFiles) (chosen : RunChosen) (seen : JobSeen) (u : Unfinished) (s : RunSeen) (m : Made) → IsOverFiles seen.files names seen.out u s
    → IsMade chosen s m → ((each : Output) → GetsFront (sink_of s each) (text_for m each)) → HeadlineSoFar names chosen seen
fronts_so_far names chosen seen u s m over made fronts = inr (
  m,
  headline_holds chosen s m made,
  record {
    saw = s;
    unfinished = u;
    over = over;
    is_made = made;
    written = fronts;
    left = fronts_stand names seen.files seen.out u s m over fronts;
    others = over.others;
  },
)

run_so_far : (names : RunFiles) (chosen : RunChosen) (seen : JobSeen) (f : Fault) → RunFailsOverFiles names chosen seen.files seen.out f → HeadlineSoFar names chosen seen
run_so_far names chosen seen f (inl refused) = inl refused.alone.0
run_so_far names chosen seen f (inr (s, u, over, asked, inr (unfinished, (ended, ((m, made, status, report, certificates, yard_after), few))))) =
    let gets = each_gets s m report certificates yard_after in
    fronts_so_far names chosen seen u s m over made (λ each. whole_front (sink_of s each) (text_for m each) (gets each))
run_so_far names chosen seen (run.Write sink) (inr (s, u, over, asked, inl (((m, made, fronts, part, stop), failed), few))) = fronts_so_far names chosen seen u s m over made fronts
run_so_far names chosen seen run.Memory (inr (s, u, over, asked, inl (inl nothing, few))) = nothing_yet names chosen seen u s over nothing
run_so_far names chosen seen run.Memory (inr (s, u, over, asked, inl (inr (m, made, fronts, pieces), few))) = fronts_so_far names chosen seen u s m over made fronts
run_so_far names chosen seen (run.Read source) (inr (s, u, over, asked, inl (stated, few))) = nothing_yet names chosen seen u s over stated.0
run_so_far names chosen seen (run.Yard f) (inr (s, u, over, asked, inl (stated, few))) = nothing_yet names chosen seen u s over stated.0
run_so_far names chosen seen (run.Interchange f) (inr (s, u, over, asked, inl (stated, few))) = nothing_yet names chosen seen u s over stated.0
run_so_far names chosen seen (run.Message f) (inr (s, u, over, asked, inl (stated, few))) = nothing_yet names chosen seen u s over stated.0

solve_so_far : (names : RunFiles) (chosen : RunChosen) (seen : JobSeen) (f : ToolFault) → SolveFailsOverFiles names chosen seen.files seen.out f → HeadlineSoFar names chosen seen
solve_so_far names chosen seen (fault.Run f) is = run_so_far names chosen seen f is
solve_so_far names chosen seen (fault.OneFile both) is = inl is.alone.0
solve_so_far names chosen seen (fault.Cert f) is = absurd is
solve_so_far names chosen seen (fault.Plan f) is = absurd is
solve_so_far names chosen seen (fault.Checked number refused) is = absurd is
solve_so_far names chosen seen (fault.Audited f) is = absurd is
solve_so_far names chosen seen (fault.Followed f) is = absurd is
solve_so_far names chosen seen (fault.Loaded f) is = absurd is
solve_so_far names chosen seen (fault.Unstated f) is = absurd is
solve_so_far names chosen seen (fault.Second f) is = absurd is
solve_so_far names chosen seen (fault.Sizes f) is = absurd is
solve_so_far names chosen seen fault.ReadSizes is = absurd is
solve_so_far names chosen seen fault.ReadSecond is = absurd is
solve_so_far names chosen seen (fault.ReadOf which) is = absurd is
solve_so_far names chosen seen (fault.TooLargeOf which) is = absurd is
solve_so_far names chosen seen fault.Read is = absurd is
solve_so_far names chosen seen fault.Write is = absurd is
solve_so_far names chosen seen fault.WriteTable is = absurd is
solve_so_far names chosen seen fault.WritePage is = absurd is
solve_so_far names chosen seen fault.TooLarge is = absurd is
solve_so_far names chosen seen fault.Memory is = absurd is

pub headline_so_far : (j : Job) (seen : JobSeen) (f : ToolFault) → FailsOverFiles j seen f → KeepsHeadlineSoFar j seen
headline_so_far (job.OneFile file command stop) seen f is = tt
headline_so_far (job.Absent names settings) seen f is = tt
headline_so_far (job.Audit names settings) seen f is = tt
headline_so_far (job.Follow names heights) seen f is = tt
headline_so_far (job.Compare names settings) seen f is = tt
headline_so_far (job.Solve names chosen quiet progress) seen f is = solve_so_far names chosen seen f is.1
