-- How a run over files ends, from how the run over its devices does.
use Rattle.std.proofs.Common.{◌≡◌, ℕ, ◌+◌, ◌<◌, List, Option, Some, None, IsSome, Result, Ok, Err, MatchResult, refl, sym, subst, inl, inr, lit<, arith}
use Rattle.std.specs.Prelude.{IfOk, IfErr, IsTrue, MatchOption, OnOk, option_map}
use Rattle.crp_plan.specs.Devices.{CountsMore, HasFailed}
use Rattle.crp_report.specs.declared.fault.Fault.{Fault}
use Rattle.crp_report.specs.declared.fault.Fault.TheVariants as run
use Rattle.crp_report.specs.declared.fault.Output.{Output}
use Rattle.crp_report.specs.declared.fault.Output.TheVariants as output
use Rattle.crp_report.specs.declared.status.Status.{Status}
use Rattle.crp_report.specs.Chosen.{RunChosen}
use Rattle.crp_report.specs.Runs.{RunEnds, RunFails, RunSeen, SinkSeen, sink_of}
use Rattle.crp_files.specs.declared.roles.Shared.{Shared}
use Rattle.crp_files.specs.Known.{KnownFiles, IsChangedIn}
use Rattle.crp_files.specs.Roles.{IsShared, MayBeOne, Share}
use Rattle.crp_files.proofs.Prepared.{shared_still, may_share_before}
use Rattle.crp_jobs.specs.declared.job.RunFiles.{RunFiles}
use Rattle.crp_jobs.specs.declared.outcome.ToolFault.{ToolFault}
use Rattle.crp_jobs.specs.declared.outcome.ToolFault.TheVariants as fault
use Rattle.crp_jobs.specs.Names.{named_in_run}
use Rattle.crp_jobs.specs.Opened.{FilesSeen, IsFileOpened, IsWanted, IsLeft, IsOneRefused, IsLeftAlone}
use Rattle.crp_commands.specs.Lists.{IsListOpened}
use Rattle.crp_commands.specs.Solving.{Unfinished, unfinished_of, file_of, AreTwo, FailsWhereAsked, IsOverFiles, IsSharedInRun, RunReportsOverFiles, RunFailsOverFiles, SolveFailsOverFiles}
use Rattle.crp_commands.proofs.Finished.{Unless, unfinished_in, same_leave, more_and_more}
use Rattle.crp_commands.proofs.TwoFiles.{AreThere, AreWritten, Times, files_in, one_left, one_wanted, others_kept, refused_before, there_keeps, there_links, two_left, two_wanted}

-- ---- the course of a run over files

-- how many calls had failed: before the first output was finished; behind it; when both were; when the yard list was closed; and at the end
pub record Counts : Type 0 where
  pub first : ℕ
  pub one_finished : ℕ
  pub finished : ℕ
  pub one_closed : ℕ
  pub last : ℕ

-- the files that it writes have these names, where they are asked for
pub record CourseOf (names : RunFiles) (cert after : Option (List ℕ)) (k : Times) (n : Counts) (u : Unfinished) (s : RunSeen) : Type 0 where
  pub yard : IsListOpened k.first names.separator names.yard.now s.yard
  pub movins : IsFileOpened k.first names.movins.now s.movins
  pub apart : IsShared k.opened (named_in_run names) → ⊥
  pub written : AreWritten cert after k n.first n.one_finished n.finished u.certificates u.yard_after s.certificates s.yard_after
  pub yard_closed : CountsMore s.yard.after n.finished n.one_closed
  pub movins_closed : CountsMore s.movins.after n.one_closed n.last
  pub separator : s.separator ≡ names.separator

abbrev pub Course : RunFiles → Times → Counts → Unfinished → RunSeen → Type 0
Course names k n u s = CourseOf names (file_of names output.Certificates) (file_of names output.YardAfter) k n u s

-- the files, as the run saw them
abbrev pub files_of : Times → Counts → FilesSeen
files_of k n = files_in k n.first n.last

left_of : (names : RunFiles) (k : Times) (n : Counts) (u : Unfinished) (s : RunSeen) → Course names k n u s → AreTwo k.first names → (each : Output)
    → IsLeft (files_of k n) (file_of names each) (unfinished_of u each) (sink_of s each)
left_of names k n u s c two output.Report = tt
left_of names k n u s c two output.Certificates = one_left _ _ k _ _ _ _ _ n.first n.last _ _ c.written two
left_of names k n u s c two output.YardAfter = two_left _ _ k _ _ _ _ _ n.first n.last _ _ c.written

-- what is counted of the files, when all are closed
closed_all : (x y v w : ℕ) (a b d e g : ℕ) → CountsMore x a b → CountsMore y b d → CountsMore v d e → CountsMore w e g → CountsMore (v + (w + (x + y))) a g
closed_all x y v w a b d e g first second third fourth =
    let all = more_and_more (x + y + v) w a e g (more_and_more (x + y) v a d e (more_and_more x y a b d first second) third) fourth in
    let same : x + y + v + w ≡ v + (w + (x + y)) = omega arith in
    subst (λ (n : ℕ). CountsMore n a g) same all

over_course : (names : RunFiles) (k : Times) (n : Counts) (u : Unfinished) (s : RunSeen) → Course names k n u s → IsOverFiles (files_of k n) names s.report u s
over_course names k n u s c = record {
  yard = c.yard;
  movins = c.movins;
  report = refl;
  certificates = one_wanted _ _ k _ _ _ _ _ _ _ c.written;
  yard_after = two_wanted _ _ k _ _ _ _ _ _ _ c.written;
  separator = c.separator;
  failed = closed_all _ _ _ _ _ _ _ _ _ c.written.one_written.count c.written.two_written.count c.yard_closed c.movins_closed;
  left = left_of names k n u s c;
  others = λ other apart. others_kept _ _ k _ _ _ _ _ _ _ c.written other (apart output.Certificates) (apart output.YardAfter);
  apart = λ shared. c.apart (shared_still (named_in_run names) k.first k.opened (there_links _ _ _ _ c.written.begun) shared);
}

over_files : (names : RunFiles) (cert after : Option (List ℕ)) (k : Times) (n : Counts) (u : Unfinished) (s : RunSeen) → file_of names output.Certificates ≡ cert
    → file_of names output.YardAfter ≡ after → CourseOf names cert after k n u s → IsOverFiles (files_of k n) names s.report u s
over_files names cert after k n u s is_cert is_after c =
    over_course names k n u s (subst (λ (a : Option (List ℕ)). CourseOf names a (file_of names output.YardAfter) k n u s) (sym is_cert)
    (subst (λ (a : Option (List ℕ)). CourseOf names cert a k n u s) (sym is_after) c))

-- ---- how it ended

-- a write has failed only where its file was asked for, since no call fails where it was not
new_failed : (known : KnownFiles) (name : Option (List ℕ)) (unfinished : ℕ) (s : SinkSeen) → IsWanted known name unfinished s → HasFailed s.before s.after → IsSome name
new_failed known (Some n) unfinished s new failed = refl
new_failed known None unfinished s new failed = absurd (let lt : s.before < s.after = failed (rw new.0 (lit< tt)) in omega (arith, lt, new.0, new.1))

new_unfinished : (known : KnownFiles) (name : Option (List ℕ)) (unfinished : ℕ) (s : SinkSeen) → IsWanted known name unfinished s → unfinished ≡ 1 → IsSome name
new_unfinished known (Some n) unfinished s new one = refl
new_unfinished known None unfinished s new one = let none = new.2 in absurd (omega (arith, none, one))

named_some : {A B : Type 0} (f : A → B) (o : Option A) → IsSome (option_map f o) → IsSome o
named_some f (Some x) is = refl
named_some f None is = is

asked_for : (names : RunFiles) (chosen : RunChosen) (files : FilesSeen) (out : SinkSeen) (u : Unfinished) (s : RunSeen) (f : Fault) →
    IsOverFiles files names out u s → RunFails chosen s f → FailsWhereAsked names f
asked_for names chosen files out u s (run.Write output.Report) over is = tt
asked_for names chosen files out u s (run.Write output.Certificates) over is =
    let stated = is.0 in
    named_some (λ name. name.now) names.cert (new_failed files.known (file_of names output.Certificates) u.certificates s.certificates over.certificates stated.1)
asked_for names chosen files out u s (run.Write output.YardAfter) over is =
    let stated = is.0 in
    named_some (λ name. name.now) names.after (new_failed files.known (file_of names output.YardAfter) u.yard_after s.yard_after over.yard_after stated.1)
asked_for names chosen files out u s (run.Read source) over is = tt
asked_for names chosen files out u s (run.Yard f) over is = tt
asked_for names chosen files out u s (run.Interchange f) over is = tt
asked_for names chosen files out u s (run.Message f) over is = tt
asked_for names chosen files out u s run.Memory over is = tt

run_failed : (names : RunFiles) (chosen : RunChosen) (files : FilesSeen) (out : SinkSeen) (u : Unfinished) (s : RunSeen) (f : Fault)
    → IsOverFiles files names out u s → RunFails chosen s f → RunFailsOverFiles names chosen files out f
run_failed names chosen files out u s f over fails = inr (s, u, over, asked_for names chosen files out u s f over fails, inl fails)

unfinished_failed : (names : RunFiles) (chosen : RunChosen) (files : FilesSeen) (out : SinkSeen) (u : Unfinished) (s : RunSeen) (ended : Status) (sink : Output)
    → IsOverFiles files names out u s → RunEnds chosen s ended → unfinished_of u sink ≡ 1 → RunFailsOverFiles names chosen files out (run.Write sink)
unfinished_failed names chosen files out u s ended output.Report over ends one = absurd (let e : 0 ≡ 1 = one in omega (arith, e))
unfinished_failed names chosen files out u s ended output.Certificates over ends one =
    let asked = named_some (λ name. name.now) names.cert (new_unfinished files.known (file_of names output.Certificates) u.certificates s.certificates over.certificates one) in
    inr (s, u, over, asked, inr ((output.Certificates, refl, one), (ended, ends)))
unfinished_failed names chosen files out u s ended output.YardAfter over ends one =
    let asked = named_some (λ name. name.now) names.after (new_unfinished files.known (file_of names output.YardAfter) u.yard_after s.yard_after over.yard_after one) in
    inr (s, u, over, asked, inr ((output.YardAfter, refl, one), (ended, ends)))

-- how a run over these devices has ended
abbrev HasEnded : RunChosen → RunSeen → Result Status Fault → Type 0
HasEnded chosen s answer = MatchResult answer (RunEnds chosen s) (RunFails chosen s)

-- and over files
abbrev pub HasEndedOver : RunFiles → RunChosen → FilesSeen → SinkSeen → Result Status Fault → Type 0
HasEndedOver names chosen files out answer = MatchResult answer (RunReportsOverFiles names chosen files out) (RunFailsOverFiles names chosen files out)

abbrev pub unfinished_by : {A E B D : Type 0} → Result A E → Result B D → Unfinished
unfinished_by certified left = record { certificates = unfinished_in certified; yard_after = unfinished_in left }

ended_so : {A E B D : Type 0} (names : RunFiles) (chosen : RunChosen) (files : FilesSeen) (s : RunSeen) (answer : Result Status Fault) (certified : Result A E)
    (left : Result B D) (middle result : Result Status Fault) → IsOverFiles files names s.report (unfinished_by certified left) s → HasEnded chosen s answer
    → Unless answer certified (run.Write output.Certificates) middle → Unless middle left (run.Write output.YardAfter) result
    → HasEndedOver names chosen files s.report result
ended_so names chosen files s (Err f) certified left middle result over is first second =
    let then = subst (λ (m : Result Status Fault). IfErr m (λ g. result ≡ Err g)) first.failed second.failed in
    subst (HasEndedOver names chosen files s.report) (sym then) (run_failed names chosen files s.report (unfinished_by certified left) s f over is)
ended_so names chosen files s (Ok ended) (Err e) left middle result over is first second =
    let then = subst (λ (m : Result Status Fault). IfErr m (λ g. result ≡ Err g)) first.unfinished second.failed in
    subst (HasEndedOver names chosen files s.report) (sym then)
    (unfinished_failed names chosen files s.report (record { certificates = 1; yard_after = unfinished_in left }) s ended output.Certificates over is refl)
ended_so names chosen files s (Ok ended) (Ok a) (Err d) middle result over is first second =
    let then = subst (λ (m : Result Status Fault). OnOk m (result ≡ Err (run.Write output.YardAfter))) first.done second.unfinished in
    subst (HasEndedOver names chosen files s.report) (sym then)
    (unfinished_failed names chosen files s.report (record { certificates = 0; yard_after = 1 }) s ended output.YardAfter over is refl)
ended_so names chosen files s (Ok ended) (Ok a) (Ok b) middle result over is first second =
    let then = subst (λ (m : Result Status Fault). OnOk m (result ≡ m)) first.done second.done in
    subst (HasEndedOver names chosen files s.report) (sym then) (s, over, is)

pub ended_over : {A E B D : Type 0} (names : RunFiles) (chosen : RunChosen) (cert after : Option (List ℕ)) (k : Times) (n : Counts) (s : RunSeen)
    (answer : Result Status Fault) (certified : Result A E) (left : Result B D) (middle result : Result Status Fault) → file_of names output.Certificates ≡ cert
    → file_of names output.YardAfter ≡ after → CourseOf names cert after k n (unfinished_by certified left) s
    → MatchResult answer (RunEnds chosen s) (RunFails chosen s) → Unless answer certified (run.Write output.Certificates) middle
    → Unless middle left (run.Write output.YardAfter) result → HasEndedOver names chosen (files_of k n) s.report result
ended_over names chosen cert after k n s answer certified left middle result is_cert is_after course is first second =
    ended_so names chosen (files_of k n) s answer certified left middle result
    (over_files names cert after k n (unfinished_by certified left) s is_cert is_after course) is first second

-- a file of an output was refused
refused_at : (names : RunFiles) (chosen : RunChosen) (files : FilesSeen) (out : SinkSeen) (there now : KnownFiles) (sink : Output) (name : Option (List ℕ))
    → file_of names sink ≡ name → AreThere (file_of names output.Certificates) (file_of names output.YardAfter) files.known there
    → (IsShared there (named_in_run names) → ⊥) → now.may_not_create ≡ there.may_not_create → MatchOption name ⊥ (λ n. IsTrue (now.may_not_create n))
    → IsOneRefused files → IsLeftAlone out → RunFailsOverFiles names chosen files out (run.Write sink)
refused_at names chosen files out there now sink name is begun apart leave refused one alone = inl (record {
  stated = (
    subst (λ (o : Option (List ℕ)). MatchOption o ⊥ (λ n. IsTrue (files.known.may_not_create n))) (sym is)
        (refused_before _ _ files.known there now name begun leave refused),
    λ shared. apart (shared_still (named_in_run names) files.known there (there_links _ _ _ _ begun) shared),
  );
  one = one;
  alone = alone;
})

-- that of the certificates, and then that of the yard after
pub certificates_refused : (names : RunFiles) (chosen : RunChosen) (files : FilesSeen) (out : SinkSeen) (there : KnownFiles) (name : Option (List ℕ))
    → file_of names output.Certificates ≡ name → AreThere (file_of names output.Certificates) (file_of names output.YardAfter) files.known there
    → (IsShared there (named_in_run names) → ⊥) → MatchOption name ⊥ (λ n. IsTrue (there.may_not_create n)) → IsOneRefused files → IsLeftAlone out
    → RunFailsOverFiles names chosen files out (run.Write output.Certificates)
certificates_refused names chosen files out there name is begun apart refused one alone =
    refused_at names chosen files out there there output.Certificates name is begun apart refl refused one alone

pub yard_after_refused : (names : RunFiles) (chosen : RunChosen) (files : FilesSeen) (out : SinkSeen) (there now : KnownFiles) (cert name : Option (List ℕ))
    → file_of names output.YardAfter ≡ name → AreThere (file_of names output.Certificates) (file_of names output.YardAfter) files.known there
    → (IsShared there (named_in_run names) → ⊥) → IsChangedIn cert there now → MatchOption name ⊥ (λ n. IsTrue (now.may_not_create n)) → IsOneRefused files
    → IsLeftAlone out → RunFailsOverFiles names chosen files out (run.Write output.YardAfter)
yard_after_refused names chosen files out there now cert name is begun apart made refused one alone =
    refused_at names chosen files out there now output.YardAfter name is begun apart (same_leave cert there now made) refused one alone

-- ---- of a job

-- a file that would be written has another role
pub shared_over : (names : RunFiles) (files : FilesSeen) (out : SinkSeen) (s : Shared) → AreThere (file_of names output.Certificates) (file_of names output.YardAfter) files.known files.left
    → Share (MayBeOne files.left) (named_in_run names) s.written s.other → files.after ≡ files.before → IsLeftAlone out → IsSharedInRun names files out s
shared_over names files out s begun shared none alone = record {
  unemptied = record {
    shared = may_share_before (named_in_run names) files.known files.left s.written s.other (there_links _ _ _ _ begun) shared;
    kept = there_keeps _ _ files.known files.left begun;
  };
  none_failed = none;
  alone = alone;
}

-- how a run has ended is how its job has
pub ended_job : (names : RunFiles) (chosen : RunChosen) (files : FilesSeen) (out : SinkSeen) (answer : Result Status Fault) (result : Result Status ToolFault)
    → IfOk answer (λ ended. result ≡ Ok ended) → IfErr answer (λ f. result ≡ Err (fault.Run f)) → HasEndedOver names chosen files out answer
    → MatchResult result (RunReportsOverFiles names chosen files out) (SolveFailsOverFiles names chosen files out)
ended_job names chosen files out (Ok ended) result done failed over =
    subst (λ (r : Result Status ToolFault). MatchResult r (RunReportsOverFiles names chosen files out) (SolveFailsOverFiles names chosen files out)) (sym done) over
ended_job names chosen files out (Err f) result done failed over =
    subst (λ (r : Result Status ToolFault). MatchResult r (RunReportsOverFiles names chosen files out) (SolveFailsOverFiles names chosen files out)) (sym failed) over
