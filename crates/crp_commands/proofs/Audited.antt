-- How an audit ends, from how its parts do.
use Rattle.std.proofs.Common.{◌≡◌, ◌∙◌, ◌+◌, ℕ, List, Option, Result, Ok, Err, MatchResult, sym, ap, subst, inl, inr}
use Rattle.crp_plan.specs.Devices.{CountsMore}
use Rattle.crp_report.specs.declared.status.Status.{Status}
use Rattle.crp_report.specs.Chosen.{InputChosen}
use Rattle.crp_report.specs.Runs.{GetsNothing}
use Rattle.crp_yard.specs.Inventory.{Inventory}
use Rattle.crp_yard.specs.Reading.{IsTextOf}
use Rattle.crp_movins.specs.LoadOrders.{LoadOrders}
use Rattle.crp_audit.specs.Headline.{Handed, handed}
use Rattle.crp_jobs.specs.declared.job.AuditFiles.{AuditFiles}
use Rattle.crp_jobs.specs.declared.outcome.Statement.{Statement}
use Rattle.crp_jobs.specs.declared.outcome.ToolFault.{ToolFault}
use Rattle.crp_jobs.specs.declared.outcome.ToolFault.TheVariants as fault
use Rattle.crp_commands.specs.declared.auditing.TheConstants.{MOST_REPORT}
use Rattle.crp_commands.specs.Calls.{IsTextWithin}
use Rattle.crp_commands.specs.Partial.{IsReportIn, part_of}
use Rattle.crp_commands.specs.Audit.{AuditChosen, AuditSeen, AuditEnds, AuditFails, AuditFailsWith, AuditReportsOverFiles, AuditFailsOverFiles, IsHandedIn, IsInputOf, audited_by, IsInputAccepted, IsNoStatement, IsOverNamed, StopsOn, statement_of}
use Rattle.crp_jobs.specs.Opened.{FilesSeen}
use Rattle.crp_commands.proofs.Finished.{more_and_more}

-- a statement was not read
pub unread : (chosen : AuditChosen) (s : AuditSeen) (which : Statement) (f : ToolFault) → GetsNothing s.out → IsInputAccepted chosen.input s
    → IsNoStatement which (statement_of s which) f → AuditFailsWith chosen s f
unread chosen s which (fault.ReadOf other) nothing input is =
    (nothing, input, subst (λ (w : Statement). IsNoStatement w (statement_of s w) (fault.ReadOf other)) (sym is.0) is)
unread chosen s which (fault.TooLargeOf other) nothing input is =
    (nothing, input, subst (λ (w : Statement). IsNoStatement w (statement_of s w) (fault.TooLargeOf other)) (sym is.0) is)
unread chosen s which fault.Memory nothing input is = inl nothing
unread chosen s which (fault.Cert f) nothing input is = absurd is
unread chosen s which (fault.Plan f) nothing input is = absurd is
unread chosen s which (fault.Checked number why) nothing input is = absurd is
unread chosen s which (fault.Audited f) nothing input is = absurd is
unread chosen s which (fault.Followed f) nothing input is = absurd is
unread chosen s which (fault.Loaded f) nothing input is = absurd is
unread chosen s which (fault.Unstated f) nothing input is = absurd is
unread chosen s which (fault.Second f) nothing input is = absurd is
unread chosen s which (fault.Sizes f) nothing input is = absurd is
unread chosen s which fault.ReadSizes nothing input is = absurd is
unread chosen s which fault.ReadSecond nothing input is = absurd is
unread chosen s which (fault.Run f) nothing input is = absurd is
unread chosen s which fault.Read nothing input is = absurd is
unread chosen s which fault.Write nothing input is = absurd is
unread chosen s which fault.WriteTable nothing input is = absurd is
unread chosen s which fault.WritePage nothing input is = absurd is
unread chosen s which (fault.OneFile both) nothing input is = absurd is
unread chosen s which fault.TooLarge nothing input is = absurd is

-- this was handed in
pub in_hand : (chosen : AuditChosen) (s : AuditSeen) (old yard : Inventory) (listed orders : LoadOrders) (whole sequence : List (List ℕ)) (text report certificates : List ℕ) (bays : Option ℕ)
    → IsInputOf chosen.input s.yard s.movins old listed whole → IsTextWithin MOST_REPORT s.report.given text → IsReportIn chosen.partial text report bays → yard ≡ old → orders ≡ listed
    → sequence ≡ part_of bays old whole → IsTextOf s.certificates.given certificates → IsHandedIn chosen s (handed yard orders sequence report certificates)
in_hand chosen s old yard listed orders whole sequence text report certificates bays input within is same_yard same_orders part given = record {
  text = text;
  bays = bays;
  sequence = whole;
  input = subst (λ v. IsInputOf chosen.input s.yard s.movins v orders whole) (sym same_yard) (subst (λ v. IsInputOf chosen.input s.yard s.movins old v whole) (sym same_orders) input);
  given = within;
  report = is;
  part = part ∙ ap (λ v. part_of bays v whole) (sym same_yard);
  certificates = given;
}

-- the audit stopped on what was handed in
pub stopped : (chosen : AuditChosen) (s : AuditSeen) (h : Handed) (f : ToolFault) → IsHandedIn chosen s h → StopsOn h s.out f → AuditFailsWith chosen s f
stopped chosen s h (fault.Run g) is stops = absurd stops
stopped chosen s h (fault.ReadOf which) is stops = absurd stops
stopped chosen s h (fault.TooLargeOf which) is stops = absurd stops
stopped chosen s h fault.Memory is stops = inr (h, is, stops)
stopped chosen s h f is stops = (h, is, stops)

-- what is counted of the files, when all four are closed
pub closed_four : (w x y z : ℕ) (a b c d e : ℕ) → CountsMore w a b → CountsMore x b c → CountsMore y c d → CountsMore z d e → CountsMore (w + (x + (y + z))) a e
closed_four w x y z a b c d e first second third fourth =
    more_and_more w (x + (y + z)) a b e first (more_and_more x (y + z) b c e second (more_and_more y z c d e third fourth))

-- over files it ends as over its sources
pub over_files : (names : AuditFiles) (chosen : InputChosen) (files : FilesSeen) (s : AuditSeen) (answer : Result Status ToolFault) → IsOverNamed files names s.out s →
    MatchResult answer (AuditEnds (audited_by names chosen) s) (AuditFails (audited_by names chosen) s) →
    MatchResult answer (AuditReportsOverFiles names chosen files s.out) (AuditFailsOverFiles names chosen files s.out)
over_files names chosen files s (Ok ended) over is = (s, over, is)
over_files names chosen files s (Err f) over is = inr (s, over, is)
