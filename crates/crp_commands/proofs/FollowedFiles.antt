-- How a report is followed over files, from how it is over its devices.
use Rattle.std.proofs.Common.{◌≡◌, ◌≢◌, ◌∙◌, ℕ, ◌+◌, ◌-◌, List, Bool, Option, Some, None, Result, Ok, Err, MatchResult, codes, refl, sym, ap, subst, inl, inr, arith}
use Rattle.std.specs.Prelude.{IfSome, IfErr, IsTrue, MatchOption, OnOk, is_some, option_map}
use Rattle.crp_plan.specs.Devices.{CountsMore}
use Rattle.crp_report.specs.declared.fault.Fault.TheVariants as run
use Rattle.crp_report.specs.declared.fault.Output.TheVariants as output
use Rattle.crp_report.specs.declared.status.Status.{Status}
use Rattle.crp_report.specs.Chosen.{InputChosen}
use Rattle.crp_report.specs.Runs.{SourceSeen, SinkSeen}
use Rattle.crp_jobs.specs.declared.job.FollowFiles.{FollowFiles}
use Rattle.crp_jobs.specs.declared.outcome.ToolFault.{ToolFault}
use Rattle.crp_jobs.specs.declared.outcome.ToolFault.TheVariants as fault
use Rattle.crp_commands.specs.Lists.{IsListOpened}
use Rattle.crp_commands.specs.Follow.{AnswersOver, AreTextsTo, FollowChosen, FollowEnds, FollowFails, FollowFailsOverFiles, FollowReportsOverFiles, FollowSeen, IsMessageFrom, IsOfUnfollowed, IsOverFollowed, IsOverMessage, IsOverReport, IsOverTexts, IsReportFrom, IsTextMade, IsTextRefused, IsUnfollowed, Opened, RefusesFile, TextsSeen, Unended, all_ended, chosen_by, if_asked, list_name, message_name, page_name, sink_failures, source_failures}
use Rattle.crp_commands.specs.Calls.{failures_of_tool_fault}
use Rattle.crp_files.specs.declared.roles.Shared.{Shared}
use Rattle.crp_files.specs.Known.{KnownFiles}
use Rattle.crp_files.specs.Roles.{IsShared, MayBeOne, Share}
use Rattle.crp_files.proofs.Prepared.{shared_still, may_share_before}
use Rattle.crp_jobs.specs.Names.{named_in_follow}
use Rattle.crp_jobs.specs.Opened.{FilesSeen, IsFileOpened, IsLeft, IsWanted}
use Rattle.crp_commands.proofs.Finished.{IsWritten, Unless, more_and_more, unfinished_in}
use Rattle.crp_commands.proofs.TwoFiles.{AreThere, AreWritten, Times, files_in, one_left, one_wanted, others_kept, refused_before, there_keeps, there_links, two_left, two_wanted}

-- what is known of its devices in one way is known in another
known_so : (chosen : FollowChosen) (Is Is' : Unended → FollowSeen → Type 0) (Refuses Refuses' : ToolFault → Type 0) (answer : Result Status ToolFault)
    → ((u : Unended) (s : FollowSeen) → Is u s → Is' u s) → ((f : ToolFault) → Refuses f → Refuses' f) → AnswersOver chosen Is Refuses answer → AnswersOver chosen Is' Refuses' answer
known_so chosen Is Is' Refuses Refuses' (Ok ended) so refused (s, is, ends) = (s, so all_ended s is, ends)
known_so chosen Is Is' Refuses Refuses' (Err f) so refused (inl refusal) = inl (refused f refusal)
known_so chosen Is Is' Refuses Refuses' (Err f) so refused (inr (s, u, is, stops)) = inr (s, u, so u s is, stops)

-- ---- the files that are written

-- how a sink is seen that is asked for by a name
abbrev pub seen_as : Option (List ℕ) → SinkSeen → Option SinkSeen
seen_as None sink = None
seen_as (Some name) sink = Some sink

-- it is seen exactly where a name is given for it
pub seen_if : {X : Type 0} (f : X → List ℕ) (o : Option X) (sink : SinkSeen) → if_asked (is_some o) sink ≡ seen_as (option_map f o) sink
seen_if f None sink = refl
seen_if f (Some x) sink = refl

text_made : (known : KnownFiles) (name : Option (List ℕ)) (unfinished : ℕ) (sink : SinkSeen) → IsWanted known name unfinished sink
    → IsTextMade known name unfinished (seen_as name sink)
text_made known None unfinished sink is = is.2
text_made known (Some name) unfinished sink is = is

text_left : (files : FilesSeen) (name : Option (List ℕ)) (unfinished : ℕ) (sink : SinkSeen) → IsLeft files name unfinished sink
    → IfSome (seen_as name sink) (IsLeft files name unfinished)
text_left files None unfinished sink is = tt
text_left files (Some name) unfinished sink is = is

-- what failed of a sink that was made for the call is what failed of it
text_failed : (name : Option (List ℕ)) (sink : SinkSeen) (made was now : KnownFiles) (f g unfinished : ℕ) → IsWritten name made was now f g unfinished sink
    → CountsMore (sink_failures (seen_as name sink) + unfinished) f g
text_failed None sink made was now f g unfinished is =
    let none = is.unwanted.0 in
    let same : sink.after + unfinished ≡ 0 + unfinished = omega (arith, none) in
    subst (λ (n : ℕ). CountsMore n f g) same is.count
text_failed (Some name) sink made was now f g unfinished is =
    let new = is.new in
    let same : sink.after + unfinished ≡ (sink.after - sink.before) + unfinished = omega (arith, new) in
    subst (λ (n : ℕ). CountsMore n f g) same is.count

both_failed : (a b u v f g h : ℕ) → CountsMore (a + u) f g → CountsMore (b + v) g h → CountsMore (a + b + (u + v)) f h
both_failed a b u v f g h first second =
    let same : a + u + (b + v) ≡ a + b + (u + v) = omega arith in
    subst (λ (n : ℕ). CountsMore n f h) same (more_and_more (a + u) (b + v) f g h first second)

-- the texts, as sinks of these names see them
abbrev pub texts_seen : Option (List ℕ) → Option (List ℕ) → SinkSeen → SinkSeen → SinkSeen → TextsSeen
texts_seen page list s t table = record { page = seen_as page s; list = seen_as list t; table = table }

-- the devices of a call
abbrev pub with_texts : Opened → SourceSeen → TextsSeen → FollowSeen
with_texts devices report texts = record { yard = devices.yard; movins = devices.movins; report = report; texts = texts }

over_texts : (names : FollowFiles) (k : Times) (f g h : ℕ) (u : Unended) (devices : Opened) (report : SourceSeen) (s t : SinkSeen)
    → AreWritten (page_name names) (list_name names) k f g h u.page u.list s t → (IsShared k.opened (named_in_follow names) → ⊥)
    → IsOverTexts names (files_in k f h) devices report u (with_texts devices report (texts_seen (page_name names) (list_name names) s t devices.out))
over_texts names k f g h u devices report s t written apart = record {
  texts = texts_seen (page_name names) (list_name names) s t devices.out;
  is = refl;
  table = refl;
  to = record {
    page_made = text_made k.first (page_name names) u.page s (one_wanted _ _ k f g h u.page u.list s t written);
    list_made = text_made k.first (list_name names) u.list t (two_wanted _ _ k f g h u.page u.list s t written);
    page_left = λ two. text_left (files_in k f h) (page_name names) u.page s (one_left _ _ k f g h u.page u.list f h s t written two);
    list_left = text_left (files_in k f h) (list_name names) u.list t (two_left _ _ k f g h u.page u.list f h s t written);
    others = λ other neither. others_kept _ _ k f g h u.page u.list s t written other neither.0 neither.1;
    apart = λ shared. apart (shared_still (named_in_follow names) k.first k.opened (there_links _ _ _ _ written.begun) shared);
  };
  failed = both_failed _ _ u.page u.list f g h (text_failed (page_name names) s _ _ _ f g u.page written.one_written)
      (text_failed (list_name names) t _ _ _ g h u.list written.two_written);
}

-- how often they could not be finished
abbrev pub unended_by : {A E B D : Type 0} → Result A E → Result B D → Unended
unended_by paged left = record { page = unfinished_in paged; list = unfinished_in left }

-- how a call ended, whose files were finished so
ended_texts : {A E B D : Type 0} (chosen : FollowChosen) (names : FollowFiles) (files : FilesSeen) (devices : Opened) (report : SourceSeen) (s : FollowSeen)
    (answer : Result Status ToolFault) (paged : Result A E) (left : Result B D) (middle result : Result Status ToolFault)
    → IsOverTexts names files devices report (unended_by paged left) s → MatchResult answer (FollowEnds chosen s) (FollowFails chosen s)
    → Unless answer paged fault.WritePage middle → Unless middle left (fault.Run (run.Write output.YardAfter)) result
    → AnswersOver chosen (IsOverTexts names files devices report) (RefusesFile names files devices report) result
ended_texts chosen names files devices report s (Err f) paged left middle result over is first second =
    let then = subst (λ (m : Result Status ToolFault). IfErr m (λ g. result ≡ Err g)) first.failed second.failed in
    subst (AnswersOver chosen (IsOverTexts names files devices report) (RefusesFile names files devices report)) (sym then) (inr (s, unended_by paged left, over, inl is))
ended_texts chosen names files devices report s (Ok ended) (Err e) left middle result over is first second =
    let then = subst (λ (m : Result Status ToolFault). IfErr m (λ g. result ≡ Err g)) first.unfinished second.failed in
    subst (AnswersOver chosen (IsOverTexts names files devices report) (RefusesFile names files devices report)) (sym then)
    (inr (s, record { page = 1; list = unfinished_in left }, over, inr (inl (refl, refl), (ended, is))))
ended_texts chosen names files devices report s (Ok ended) (Ok a) (Err d) middle result over is first second =
    let then = subst (λ (m : Result Status ToolFault). OnOk m (result ≡ Err (fault.Run (run.Write output.YardAfter)))) first.done second.unfinished in
    subst (AnswersOver chosen (IsOverTexts names files devices report) (RefusesFile names files devices report)) (sym then)
    (inr (s, record { page = 0; list = 1 }, over, inr (inr (refl, refl), (ended, is))))
ended_texts chosen names files devices report s (Ok ended) (Ok a) (Ok b) middle result over is first second =
    let then = subst (λ (m : Result Status ToolFault). OnOk m (result ≡ m)) first.done second.done in
    subst (AnswersOver chosen (IsOverTexts names files devices report) (RefusesFile names files devices report)) (sym then) (s, over, is)

-- the texts are asked for where they are named
texts_asked : (names : FollowFiles) (page list : Bool) (s t out : SinkSeen) → page ≡ is_some names.page → list ≡ is_some names.after
    → record { page = if_asked page s; list = if_asked list t; table = out } ≡ texts_seen (page_name names) (list_name names) s t out
texts_asked names page list s t out paged listed =
    let first = ap (λ (b : Bool). if_asked b s) paged ∙ seen_if (λ name. name.now) names.page s in
    let second = ap (λ (b : Bool). if_asked b t) listed ∙ seen_if (λ file. file.name.now) names.after t in
    ap (λ (o : Option SinkSeen). record { page = o; list = if_asked list t; table = out }) first
    ∙ ap (λ (o : Option SinkSeen). record { page = seen_as (page_name names) s; list = o; table = out }) second

-- a call that made these files and finished them
pub texts_ended : {A E B D : Type 0} (chosen : FollowChosen) (names : FollowFiles) (page list : Option (List ℕ)) (k : Times) (f g h : ℕ) (devices : Opened) (report : SourceSeen)
    (s t : SinkSeen) (paged_asked list_asked : Bool) (answer : Result Status ToolFault) (paged : Result A E) (left : Result B D) (middle result : Result Status ToolFault)
    → page_name names ≡ page → list_name names ≡ list → paged_asked ≡ is_some names.page → list_asked ≡ is_some names.after
    → AreWritten page list k f g h (unfinished_in paged) (unfinished_in left) s t → (IsShared k.opened (named_in_follow names) → ⊥)
    → (let texts : TextsSeen = record { page = if_asked paged_asked s; list = if_asked list_asked t; table = devices.out }
    in MatchResult answer (FollowEnds chosen (with_texts devices report texts)) (FollowFails chosen (with_texts devices report texts)))
    → Unless answer paged fault.WritePage middle → Unless middle left (fault.Run (run.Write output.YardAfter)) result
    → AnswersOver chosen (IsOverTexts names (files_in k f h) devices report) (RefusesFile names (files_in k f h) devices report) result
texts_ended chosen names page list k f g h devices report s t paged_asked list_asked answer paged left middle result named_page named_list is_paged is_listed written apart is
    first second =
    let texts = texts_asked names paged_asked list_asked s t devices.out is_paged is_listed in
    let both = subst (λ (o : Option (List ℕ)). AreWritten o (list_name names) k f g h (unfinished_in paged) (unfinished_in left) s t) (sym named_page)
    (subst (λ (o : Option (List ℕ)). AreWritten page o k f g h (unfinished_in paged) (unfinished_in left) s t) (sym named_list) written) in
    let over = over_texts names k f g h (unended_by paged left) devices report s t both apart in
    ended_texts chosen names (files_in k f h) devices report (with_texts devices report (texts_seen (page_name names) (list_name names) s t devices.out)) answer paged left middle
    result over
    (subst (λ (x : TextsSeen). MatchResult answer (FollowEnds chosen (with_texts devices report x)) (FollowFails chosen (with_texts devices report x))) texts is) first second

-- ---- a file that was not made, or not emptied

refused_text : (names : FollowFiles) (known there now : KnownFiles) (own name : Option (List ℕ)) → own ≡ name → AreThere (page_name names) (list_name names) known there
    → (IsShared there (named_in_follow names) → ⊥) → now.may_not_create ≡ there.may_not_create → MatchOption name ⊥ (λ n. IsTrue (now.may_not_create n))
    → IsTextRefused known.may_not_create own × (IsShared known (named_in_follow names) → ⊥)
refused_text names known there now own name is begun apart leave refused = (
  subst (IsTextRefused known.may_not_create) (sym is) (refused_before _ _ known there now name begun leave refused),
  λ shared. apart (shared_still (named_in_follow names) known there (there_links _ _ _ _ begun) shared),
)

pub page_refused : (names : FollowFiles) (known there left : KnownFiles) (name : Option (List ℕ)) → page_name names ≡ name
    → AreThere (page_name names) (list_name names) known there → (IsShared there (named_in_follow names) → ⊥) → MatchOption name ⊥ (λ n. IsTrue (there.may_not_create n))
    → IsOfUnfollowed known left names fault.WritePage
page_refused names known there left name named begun apart refused = refused_text names known there there (page_name names) name named begun apart refl refused

pub list_refused : (names : FollowFiles) (known there now left : KnownFiles) (name : Option (List ℕ)) → list_name names ≡ name
    → AreThere (page_name names) (list_name names) known there → (IsShared there (named_in_follow names) → ⊥) → now.may_not_create ≡ there.may_not_create
    → MatchOption name ⊥ (λ n. IsTrue (now.may_not_create n)) → IsOfUnfollowed known left names (fault.Run (run.Write output.YardAfter))
list_refused names known there now left name named begun apart leave refused = refused_text names known there now (list_name names) name named begun apart leave refused

pub texts_shared : (names : FollowFiles) (known there : KnownFiles) (s : Shared) → AreThere (page_name names) (list_name names) known there
    → Share (MayBeOne there) (named_in_follow names) s.written s.other → IsOfUnfollowed known there names (fault.OneFile s)
texts_shared names known there s begun shared = record {
  shared = may_share_before (named_in_follow names) known there s.written s.other (there_links _ _ _ _ begun) shared;
  kept = there_keeps _ _ known there begun;
}

-- what is said of the files then is said of those that were opened before them
stated_too : (names : FollowFiles) (files middle : FilesSeen) (f : ToolFault) → middle.known ≡ files.known → files.left ≡ middle.left
    → IsOfUnfollowed middle.known middle.left names f → IsOfUnfollowed files.known files.left names f
stated_too names files middle f known end is =
    subst (λ (k : KnownFiles). IsOfUnfollowed files.known k names f) (sym end) (subst (λ (k : KnownFiles). IsOfUnfollowed k middle.left names f) known is)

-- what stands in files that are made behind others: what was known before it was known at first, and what is left by it is left at the end
texts_too : (names : FollowFiles) (files middle : FilesSeen) (u : Unended) (t : TextsSeen) → middle.known ≡ files.known → files.left ≡ middle.left
    → AreTextsTo middle names u t → AreTextsTo files names u t
texts_too names files middle u t known end is =
    let with_known = subst (λ (k : KnownFiles). AreTextsTo (record { known = k; left = middle.left; before = middle.before; after = middle.after }) names u t) known is in
    let with_left = subst (λ (k : KnownFiles). AreTextsTo (record { known = files.known; left = k; before = middle.before; after = middle.after }) names u t) (sym end) with_known in record {
      page_made = with_left.page_made;
      list_made = with_left.list_made;
      page_left = with_left.page_left;
      list_left = with_left.list_left;
      others = with_left.others;
      apart = with_left.apart;
    }

-- ---- what is opened before others: what fails of it comes to what fails of those

-- the same report, where more has failed before it
more_before : (name : List ℕ) (files middle : FilesSeen) (input : SourceSeen) (before n : ℕ) (u : Unended) (s : FollowSeen) → middle.known ≡ files.known → middle.before ≡ files.before
    → CountsMore n middle.after files.after → IsReportFrom name middle input before u s → IsReportFrom name files input (n + before) u s
more_before name files middle input before n u s known begun more (inl (named, is, failed)) =
    inl (named, is, omega (arith, begun, more, failed))
more_before name files middle input before n u s known begun more (inr (named, opened, unread, failed)) =
    inr (named, subst (λ (k : KnownFiles). IsFileOpened k name s.report) known opened, unread, omega (arith, begun, more, failed))

-- so much has failed, and of one that was open nothing has
pub one_too : (n : ℕ) (source : SourceSeen) (files middle : FilesSeen) → source.before ≡ 0 → source.after ≡ source.before → middle.before ≡ files.before
    → CountsMore source.after middle.after files.after → CountsMore n middle.before middle.after → CountsMore n files.before files.after
one_too n source files middle new alone begun closed one = omega (arith, new, alone, begun, closed, one)

-- ---- the report

-- as the standard input
pub over_input : (chosen : FollowChosen) (names : FollowFiles) (files : FilesSeen) (devices : Opened) (input : SourceSeen) (answer : Result Status ToolFault)
    → names.report.now ≡ codes "-" → AnswersOver chosen (IsOverTexts names files devices input) (RefusesFile names files devices input) answer
    → AnswersOver chosen (IsOverReport names files devices input) (RefusesFile names files devices input) answer
over_input chosen names files devices input answer named =
    known_so chosen (IsOverTexts names files devices input) (IsOverReport names files devices input) (RefusesFile names files devices input) (RefusesFile names files devices input) answer
    (λ u s over. subst (IsOverReport names files devices input u) (sym over.is)
    (record { yard = refl; movins = refl; report = inl (named, refl, omega (arith, over.failed)); texts = over.to; table = over.table }))
    (λ f refusal. refusal)

-- as a file
pub over_report : (chosen : FollowChosen) (names : FollowFiles) (files middle : FilesSeen) (devices : Opened) (report input : SourceSeen) (answer : Result Status ToolFault)
    → names.report.now ≢ codes "-" → middle.known ≡ files.known → files.left ≡ middle.left → middle.before ≡ files.before → IsFileOpened files.known names.report.now report
    → input.after ≡ input.before → CountsMore report.after middle.after files.after
    → AnswersOver chosen (IsOverTexts names middle devices report) (RefusesFile names middle devices report) answer
    → AnswersOver chosen (IsOverReport names files devices input) (RefusesFile names files devices input) answer
over_report chosen names files middle devices report input answer named known end begun opened unread closed =
    known_so chosen (IsOverTexts names middle devices report) (IsOverReport names files devices input) (RefusesFile names middle devices report) (RefusesFile names files devices input)
    answer
    (λ u s over. subst (IsOverReport names files devices input u) (sym over.is) (record {
      yard = refl;
      movins = refl;
      report = inr (named, opened, unread, omega (arith, begun, closed, over.failed));
      texts = texts_too names files middle u over.texts known end over.to;
      table = over.table;
    }))
    (λ f refusal. record {
      stated = stated_too names files middle f known end refusal.stated;
      failed = one_too (failures_of_tool_fault f) report files middle opened.new refusal.unread begun closed refusal.failed;
      yard = refusal.yard;
      movins = refusal.movins;
      unread = unread;
      out = refusal.out;
    })

-- ---- the message

-- the devices that are open
abbrev pub opened : SourceSeen → Option SourceSeen → SinkSeen → Opened
opened yard movins out = record { yard = yard; movins = movins; out = out }

-- what failed of a message that was opened for the call is what failed of it
message_failed : (message : SourceSeen) (seen : Option SourceSeen) → seen ≡ Some message → message.before ≡ 0 → message.after + 0 ≡ source_failures seen
message_failed message seen is new =
    subst (λ (o : Option SourceSeen). message.after + 0 ≡ source_failures o) (sym is) (let same : message.after + 0 ≡ message.after - message.before = omega arith in same)

-- whether there is one is known
pub asked_so : (chosen : FollowChosen) (names : FollowFiles) (files : FilesSeen) (yard input message : SourceSeen) (out : SinkSeen) (a b : Bool) (answer : Result Status ToolFault)
    → a ≡ b → AnswersOver chosen (IsOverReport names files (opened yard (if_asked a message) out) input) (RefusesFile names files (opened yard (if_asked a message) out) input) answer
    → AnswersOver chosen (IsOverReport names files (opened yard (if_asked b message) out) input) (RefusesFile names files (opened yard (if_asked b message) out) input) answer
asked_so chosen names files yard input message out a b answer is over =
    subst (λ (asked : Bool). AnswersOver chosen (IsOverReport names files (opened yard (if_asked asked message) out) input)
    (RefusesFile names files (opened yard (if_asked asked message) out) input) answer) is over

-- read from its file
pub over_message : (chosen : FollowChosen) (names : FollowFiles) (files middle : FilesSeen) (yard input message : SourceSeen) (out : SinkSeen) (name : List ℕ)
    (answer : Result Status ToolFault) → message_name names ≡ Some name → middle.known ≡ files.known → files.left ≡ middle.left → middle.before ≡ files.before
    → IsFileOpened files.known name message → CountsMore message.after middle.after files.after
    → AnswersOver chosen (IsOverReport names middle (opened yard (Some message) out) input) (RefusesFile names middle (opened yard (Some message) out) input) answer
    → AnswersOver chosen (IsOverMessage names files yard input out) (RefusesFile names files (opened yard None out) input) answer
over_message chosen names files middle yard input message out name answer named known end begun is closed =
    known_so chosen (IsOverReport names middle (opened yard (Some message) out) input) (IsOverMessage names files yard input out)
    (RefusesFile names middle (opened yard (Some message) out) input) (RefusesFile names files (opened yard None out) input) answer
    (λ u s over. record {
      yard = over.yard;
      movins = subst (λ (o : Option SourceSeen). IsMessageFrom files.known (message_name names) o) (sym over.movins)
          (subst (λ (o : Option (List ℕ)). IsMessageFrom files.known o (Some message)) (sym named) is);
      report = subst (λ (m : ℕ). IsReportFrom names.report.now files input m u s) (message_failed message s.movins over.movins is.new)
          (more_before names.report.now files middle input 0 message.after u s known begun closed over.report);
      texts = texts_too names files middle u s.texts known end over.texts;
      table = over.table;
    })
    (λ f refusal. record {
      stated = stated_too names files middle f known end refusal.stated;
      failed = one_too (failures_of_tool_fault f) message files middle is.new refusal.movins begun closed refusal.failed;
      yard = refusal.yard;
      movins = tt;
      unread = refusal.unread;
      out = refusal.out;
    })

-- where there is none
pub over_none : (chosen : FollowChosen) (names : FollowFiles) (files : FilesSeen) (yard input : SourceSeen) (out : SinkSeen) (answer : Result Status ToolFault)
    → message_name names ≡ None → AnswersOver chosen (IsOverReport names files (opened yard None out) input) (RefusesFile names files (opened yard None out) input) answer
    → AnswersOver chosen (IsOverMessage names files yard input out) (RefusesFile names files (opened yard None out) input) answer
over_none chosen names files yard input out answer unnamed =
    known_so chosen (IsOverReport names files (opened yard None out) input) (IsOverMessage names files yard input out)
    (RefusesFile names files (opened yard None out) input) (RefusesFile names files (opened yard None out) input) answer
    (λ u s over. record {
      yard = over.yard;
      movins = subst (λ (o : Option SourceSeen). IsMessageFrom files.known (message_name names) o) (sym over.movins)
          (subst (λ (o : Option (List ℕ)). IsMessageFrom files.known o None) (sym unnamed) tt);
      report = subst (λ (o : Option SourceSeen). IsReportFrom names.report.now files input (source_failures o) u s) (sym over.movins) over.report;
      texts = over.texts;
      table = over.table;
    })
    (λ f refusal. refusal)

-- ---- the yard list

pub over_yard : (input_chosen : InputChosen) (names : FollowFiles) (files middle : FilesSeen) (yard input : SourceSeen) (out : SinkSeen) (answer : Result Status ToolFault)
    → middle.known ≡ files.known → files.left ≡ middle.left → middle.before ≡ files.before → IsListOpened files.known names.separator names.yard.now yard → CountsMore yard.after middle.after files.after
    → AnswersOver (chosen_by names input_chosen) (IsOverMessage names middle yard input out) (RefusesFile names middle (opened yard None out) input) answer
    → MatchResult answer (FollowReportsOverFiles names input_chosen files input out) (FollowFailsOverFiles names input_chosen files input out)
over_yard input_chosen names files middle yard input out answer known end begun is closed =
    known_so (chosen_by names input_chosen) (IsOverMessage names middle yard input out) (IsOverFollowed names files input out) (RefusesFile names middle (opened yard None out) input)
    (IsUnfollowed names files input out) answer
    (λ u s over. record {
      yard = subst (IsListOpened files.known names.separator names.yard.now) (sym over.yard) is;
      movins = subst (λ (k : KnownFiles). IsMessageFrom k (message_name names) s.movins) known over.movins;
      report = subst (λ (source : SourceSeen). IsReportFrom names.report.now files input (source.after + source_failures s.movins) u s) (sym over.yard)
          (more_before names.report.now files middle input (source_failures s.movins) yard.after u s known begun closed over.report);
      texts = texts_too names files middle u s.texts known end over.texts;
      table = over.table;
    })
    (λ f refusal. record {
      stated = stated_too names files middle f known end refusal.stated;
      failed = one_too (failures_of_tool_fault f) yard files middle is.new refusal.yard begun closed refusal.failed;
      unread = refusal.unread;
      alone = refusal.out;
    })
