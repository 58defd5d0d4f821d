-- A job with the sizes of its list.
use Rattle.std.proofs.Common.{◌≡◌, ℕ, ◌+◌, ◌≤◌, List, Option, Some, None, Result, Ok, Err, MatchResult, refl, subst, inr, arith}
use Rattle.std.specs.Prelude.{◌&&◌, is_some, not}
use Rattle.std.proofs.KnownBytes.{Keeps-refl}
use Rattle.crp_plan.specs.Devices.{CountsMore, TransfersAlone, most_interruptions}
use Rattle.crp_sizes.specs.declared.fault.SizesFault.{SizesFault}
use Rattle.crp_sizes.specs.declared.fault.SizesFault.TheVariants as sizes
use Rattle.crp_sizes.specs.Reading.{failures_of_sizes}
use Rattle.crp_sizes.specs.Fields.{IsTextOf}
use Rattle.crp_sizes.specs.Sizes.{YardSizes}
use Rattle.crp_sizes.specs.Records.{IsSizesListOf}
use Rattle.crp_report.specs.Chosen.{InputChosen}
use Rattle.crp_report.specs.declared.status.Status.{Status}
use Rattle.crp_report.specs.Runs.{SinkSeen}
use Rattle.crp_files.specs.Known.{KnownFiles}
use Rattle.crp_jobs.specs.declared.job.Job.{Job}
use Rattle.crp_jobs.specs.declared.job.Job.TheVariants as job
use Rattle.crp_jobs.specs.declared.outcome.ToolFault.{ToolFault}
use Rattle.crp_jobs.specs.declared.outcome.ToolFault.TheVariants as fault
use Rattle.crp_jobs.specs.Opened.{FilesSeen, IsLeftAlone}
use Rattle.crp_jobs.specs.Sized.{list_named, separator_of, with_sizes}
use Rattle.crp_separated.specs.Inputs.{comma_list_of}
use Rattle.crp_commands.specs.Performing.{JobSeen, ReportsOverFiles, FailsOverFiles}
use Rattle.crp_commands.specs.Sized.{AsSized, IsNoList, IsUnsized, IsDone, IsFailed, behind}
use Rattle.crp_commands.specs.Headlines.{KeepsHeadline, KeepsHeadlineSoFar}
use Rattle.crp_commands.specs.Noted.{IsNoted}
use Rattle.crp_commands.proofs.Promised.{headline_kept, headline_so_far}
use Rattle.crp_commands.proofs.Noted.{unnoted, unnoted_in}

-- no more calls failed of a source that is new than may be passed over, besides those that are stated
pub few_calls : (besides before after : ℕ) (a b : Option ℕ) → before ≡ 0 → besides ≤ 1 → TransfersAlone besides before after a b → after ≤ most_interruptions + besides
few_calls besides before after a b new small (passed, was) = let few = was.few in let failed = was.failed in omega (arith, new, small, few, failed)

-- a fault states one of them at most
pub one_call : (f : SizesFault) → failures_of_sizes f ≤ 1
one_call sizes.Read = omega arith
one_call sizes.Memory = omega arith
one_call sizes.TooLarge = omega arith
one_call (sizes.Header n) = omega arith
one_call (sizes.Fields n) = omega arith
one_call (sizes.Digits n) = omega arith
one_call (sizes.Heights n) = omega arith
one_call (sizes.Twice n) = omega arith

-- where it names no list, it is done as it is
pub done_unsized : (j : Job) (seen : JobSeen) (answer : Result Status ToolFault) → list_named j ≡ None → MatchResult answer (ReportsOverFiles j seen) (FailsOverFiles j seen)
    → MatchResult answer (IsDone j seen) (IsFailed j seen)
done_unsized j seen (Ok ended) none is = rw none (is, headline_kept j seen ended is)
done_unsized j seen (Err f) none is = inr (rw none (is, headline_so_far j seen f is))

-- what was read of the list that it names
pub record IsRead (known : KnownFiles) (before separator : ℕ) (list : List ℕ × InputChosen) (sized : YardSizes) (failures : ℕ) : Type 0 where
  pub text : List ℕ
  pub n : ℕ
  pub is_text : IsTextOf (comma_list_of separator (known.given list.0)) text
  pub listed : IsSizesListOf list.1.sizes.common text sized
  pub few : n ≤ most_interruptions
  pub failed : CountsMore n before failures

as_sized : (j : Job) (seen : JobSeen) (list : List ℕ × InputChosen) (sized : YardSizes) (failures : ℕ) (Holds : Job → JobSeen → Type 0) → list_named j ≡ Some list
    → IsRead seen.files.known seen.files.before (separator_of j) list sized failures → Holds (with_sizes sized j) (behind failures seen) → AsSized j seen Holds
as_sized j seen list sized failures Holds some is holds = rw some (is.text, sized, is.n, failures, is.is_text, is.listed, is.few, is.failed, holds)

-- and where it names one, it is done with its sizes
done_with : (j : Job) (seen : JobSeen) (list : List ℕ × InputChosen) (sized : YardSizes) (failures : ℕ) (answer : Result Status ToolFault) → list_named j ≡ Some list
    → IsRead seen.files.known seen.files.before (separator_of j) list sized failures
    → MatchResult answer (ReportsOverFiles (with_sizes sized j) (behind failures seen)) (FailsOverFiles (with_sizes sized j) (behind failures seen))
    → MatchResult answer (IsDone j seen) (IsFailed j seen)
done_with j seen list sized failures (Ok ended) some is done =
    as_sized j seen list sized failures (λ k s. ReportsOverFiles k s ended × KeepsHeadline k s) some is (done, headline_kept (with_sizes sized j) (behind failures seen) ended done)
done_with j seen list sized failures (Err f) some is done =
    inr (as_sized j seen list sized failures (λ k s. FailsOverFiles k s f × KeepsHeadlineSoFar k s) some is
    (done, headline_so_far (with_sizes sized j) (behind failures seen) f done))

-- what a job saw of files of which this is known, when so many of their calls had failed
abbrev at : JobSeen → ℕ → KnownFiles → JobSeen
at seen failures known = record seen { files = record seen.files { known = known; before = failures } }

pub done_sized : (j made : Job) (seen : JobSeen) (list : List ℕ × InputChosen) (sized : YardSizes) (known : KnownFiles) (failures : ℕ) (answer : Result Status ToolFault)
    → list_named j ≡ Some list → made ≡ with_sizes sized j → known ≡ seen.files.known → IsRead seen.files.known seen.files.before (separator_of j) list sized failures
    → MatchResult answer (ReportsOverFiles made (at seen failures known)) (FailsOverFiles made (at seen failures known))
    → MatchResult answer (IsDone j seen) (IsFailed j seen)
done_sized j made seen list sized known failures answer some same kept is done =
    let own = subst (λ (k : Job). MatchResult answer (ReportsOverFiles k (at seen failures known)) (FailsOverFiles k (at seen failures known))) same done in
    done_with j seen list sized failures answer some is
    (subst (λ (k : KnownFiles). MatchResult answer (ReportsOverFiles (with_sizes sized j) (at seen failures k)) (FailsOverFiles (with_sizes sized j) (at seen failures k))) kept own)

-- as it was read with the byte between fields and the common heights of the job
pub was_read : (known : KnownFiles) (before used separator failures : ℕ) (list : List ℕ × InputChosen) (common : List ℕ) (sized : YardSizes) → used ≡ separator
    → common ≡ list.1.sizes.common → (text : List ℕ) × IsTextOf (comma_list_of used (known.given list.0)) text × IsSizesListOf common text sized → (n : ℕ) × (n ≤ most_interruptions) × CountsMore n before failures
    → IsRead known before separator list sized failures
was_read known before used separator failures list common sized byte same (text, is, listed) (n, few, failed) = record {
  text = text;
  n = n;
  is_text = subst (λ (n : ℕ). IsTextOf (comma_list_of n (known.given list.0)) text) byte is;
  listed = subst (λ (l : List ℕ). IsSizesListOf l text sized) same listed;
  few = few;
  failed = failed;
}

-- a list that was not read
pub unsized : (j : Job) (seen : JobSeen) (list : List ℕ × InputChosen) (f : ToolFault) (used : ℕ) → list_named j ≡ Some list → used ≡ separator_of j
    → IsNoList seen.files used list.0 f
    → seen.files.left ≡ seen.files.known → seen.input.after ≡ seen.input.before → IsLeftAlone seen.out → IsUnsized j seen f
unsized j seen list f used some byte none kept input out = record { list = rw some (subst (λ (n : ℕ). IsNoList seen.files n list.0 f) byte none); kept = kept; input = input; out = out }

-- or one for whose sizes memory is lacking
pub no_room : (files : FilesSeen) (separator : ℕ) (list : List ℕ × InputChosen) (sized : YardSizes) → IsRead files.known files.before separator list sized files.after → IsNoList files separator list.0 fault.Memory
no_room files separator list sized is =
    inr (record { given = comma_list_of separator (files.known.given list.0); before = 0; after = is.n }, sizes.Memory, record { bytes = refl; new = refl }, refl, tt, is.failed, omega (arith, is.few))

-- where nothing is written, nothing is noted
pub unnoted_job : (j : Job) (held : Option (List ℕ)) (failures : ℕ) → IsNoted j (record { held = held; holds = held; before = failures; after = failures })
unnoted_job (job.OneFile file command stop) held failures = unnoted_in command held failures
unnoted_job (job.Absent names settings) held failures = (Keeps-refl held, refl)
unnoted_job (job.Audit names settings) held failures = unnoted (not names.partial) held failures
unnoted_job (job.Follow names settings) held failures = unnoted (not names.partial && not (is_some names.movins)) held failures
unnoted_job (job.Compare names settings) held failures = unnoted (not names.partial) held failures
unnoted_job (job.Solve names settings quiet progress) held failures = unnoted quiet held failures

-- notes are of the job, whatever its sizes
pub noted_sized : (j : Job) (sized : YardSizes) (s : SinkSeen) → IsNoted (with_sizes sized j) s → IsNoted j s
noted_sized (job.OneFile file command stop) sized s is = is
noted_sized (job.Absent names settings) sized s is = is
noted_sized (job.Audit names settings) sized s is = is
noted_sized (job.Follow names settings) sized s is = is
noted_sized (job.Compare names settings) sized s is = is
noted_sized (job.Solve names settings quiet progress) sized s is = is
