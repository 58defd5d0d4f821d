-- What is written of a head, and how refusals are stated.
use Rattle.std.proofs.Common.{◌≡◌, ℕ, List, ◌++◌, Option, Some, None, refl, sym, ap, subst, ◌∙◌, append_assoc}
use Rattle.std.specs.Io.KnownBytes.{Keeps}
use Rattle.crp_cert.specs.declared.fault.CertFault.{CertFault}
use Rattle.crp_cert.specs.Faults.{IsFirstFault}
use Rattle.crp_cert.specs.declared.head.Head.{Head}
use Rattle.crp_cert.specs.Text.{IsHead, IsHeadOf}
use Rattle.crp_solve.specs.declared.answer.Solved.{Solved}
use Rattle.crp_solve.specs.Chosen.{Chosen}
use Rattle.crp_solve.specs.Solved.{IsSolved}
use Rattle.crp_headline.specs.Accepted.{IsAcceptedAs}
use Rattle.crp_headline.proofs.Accepted.{answer_accepted}
use Rattle.crp_commands.specs.Prove.{IsProofOf}
use Rattle.crp_report.specs.Report.{text_of}
use Rattle.crp_jobs.specs.declared.outcome.ToolFault.{ToolFault}
use Rattle.crp_jobs.specs.declared.outcome.ToolFault.TheVariants as fault
use Rattle.crp_yard.specs.Reading.{IsTextOf}
use Rattle.crp_commands.specs.Calls.{CallSeen, IsNoHead, CallFailsWith}
use Rattle.crp_commands.specs.Replay.{IsReplay, IsNoReplay, IsNoReport}

-- five pieces, one after the other
pub five_pieces : (text one two three four five a b c d e : List ℕ) → one ≡ text ++ a → two ≡ one ++ b → three ≡ two ++ c → four ≡ three ++ d → five ≡ four ++ e →
    five ≡ text ++ (a ++ (b ++ (c ++ (d ++ e))))
five_pieces text one two three four five a b c d e p q r s t =
    t ∙ ap (λ l. l ++ e) s ∙ append_assoc three d e
    ∙ ap (λ l. l ++ (d ++ e)) r ∙ append_assoc two c (d ++ e)
    ∙ ap (λ l. l ++ (c ++ (d ++ e))) q ∙ append_assoc one b (c ++ (d ++ e))
    ∙ ap (λ l. l ++ (b ++ (c ++ (d ++ e)))) p ∙ append_assoc text a (b ++ (c ++ (d ++ e)))

pub keeps_same : (known : Option (List ℕ)) → Keeps known known
keeps_same None = tt
keeps_same (Some xs) = refl

-- a command without a head states why, where nothing was written
pub no_head_reported : (limit : ℕ) (IsReport : List ℕ → List ℕ → Type 0) (IsRefused : List ℕ → ToolFault → Type 0) (seen : CallSeen) (f : ToolFault) → Keeps seen.held seen.holds →
    ((bytes : List ℕ) (g : CertFault) → IsFirstFault bytes g → IsRefused bytes (fault.Cert g)) → IsNoHead limit seen.given seen.source_before seen.source_after f → CallFailsWith limit IsReport IsRefused seen f
no_head_reported limit IsReport IsRefused seen (fault.Cert f) keeps refuses none = (keeps, (none.0, none.1, refuses none.0 f none.2))
no_head_reported limit IsReport IsRefused seen (fault.Plan f) keeps refuses none = absurd none
no_head_reported limit IsReport IsRefused seen fault.Read keeps refuses none = (keeps, none)
no_head_reported limit IsReport IsRefused seen fault.Write keeps refuses none = absurd none
no_head_reported limit IsReport IsRefused seen fault.TooLarge keeps refuses none = (keeps, none)
no_head_reported limit IsReport IsRefused seen fault.Memory keeps refuses none = keeps
no_head_reported limit IsReport IsRefused seen (fault.Checked number why) keeps refuses none = absurd none
no_head_reported limit IsReport IsRefused seen (fault.Run f) keeps refuses none = absurd none
no_head_reported limit IsReport IsRefused seen (fault.Audited f) keeps refuses none = absurd none
no_head_reported limit IsReport IsRefused seen (fault.ReadOf which) keeps refuses none = absurd none
no_head_reported limit IsReport IsRefused seen (fault.TooLargeOf which) keeps refuses none = absurd none
no_head_reported limit IsReport IsRefused seen (fault.Followed f) keeps refuses none = absurd none
no_head_reported limit IsReport IsRefused seen (fault.Loaded f) keeps refuses none = absurd none
no_head_reported limit IsReport IsRefused seen (fault.Unstated f) keeps refuses none = absurd none
no_head_reported limit IsReport IsRefused seen (fault.Second f) keeps refuses none = absurd none
no_head_reported limit IsReport IsRefused seen (fault.Sizes f) keeps refuses none = absurd none
no_head_reported limit IsReport IsRefused seen fault.ReadSizes keeps refuses none = absurd none
no_head_reported limit IsReport IsRefused seen fault.ReadSecond keeps refuses none = absurd none
no_head_reported limit IsReport IsRefused seen fault.WriteTable keeps refuses none = absurd none
no_head_reported limit IsReport IsRefused seen fault.WritePage keeps refuses none = absurd none
no_head_reported limit IsReport IsRefused seen (fault.OneFile both) keeps refuses none = absurd none

-- a replay without a report states why, where nothing was written
pub no_report_reported : (limit : ℕ) (seen : CallSeen) (bytes : List ℕ) (head : Head) (f : ToolFault) → Keeps seen.held seen.holds → IsTextOf seen.given bytes → IsHeadOf bytes head → IsNoReport head f →
    CallFailsWith limit IsReplay IsNoReplay seen f
no_report_reported limit seen bytes head (fault.Cert f) keeps given is none = absurd none
no_report_reported limit seen bytes head (fault.Plan f) keeps given is none = (keeps, (bytes, given, (head, is, none)))
no_report_reported limit seen bytes head fault.Read keeps given is none = absurd none
no_report_reported limit seen bytes head fault.Write keeps given is none = absurd none
no_report_reported limit seen bytes head fault.TooLarge keeps given is none = absurd none
no_report_reported limit seen bytes head fault.Memory keeps given is none = keeps
no_report_reported limit seen bytes head (fault.Checked number why) keeps given is none = absurd none
no_report_reported limit seen bytes head (fault.Run f) keeps given is none = absurd none
no_report_reported limit seen bytes head (fault.Audited f) keeps given is none = absurd none
no_report_reported limit seen bytes head (fault.ReadOf which) keeps given is none = absurd none
no_report_reported limit seen bytes head (fault.TooLargeOf which) keeps given is none = absurd none
no_report_reported limit seen bytes head (fault.Followed f) keeps given is none = absurd none
no_report_reported limit seen bytes head (fault.Loaded f) keeps given is none = absurd none
no_report_reported limit seen bytes head (fault.Unstated f) keeps given is none = absurd none
no_report_reported limit seen bytes head (fault.Second f) keeps given is none = absurd none
no_report_reported limit seen bytes head (fault.Sizes f) keeps given is none = absurd none
no_report_reported limit seen bytes head fault.ReadSizes keeps given is none = absurd none
no_report_reported limit seen bytes head fault.ReadSecond keeps given is none = absurd none
no_report_reported limit seen bytes head fault.WriteTable keeps given is none = absurd none
no_report_reported limit seen bytes head fault.WritePage keeps given is none = absurd none
no_report_reported limit seen bytes head (fault.OneFile both) keeps given is none = absurd none

-- the certificate of a true answer, as it was made and as it is written
pub proof_of : (chosen : Chosen) (head : Head) (solved : Solved) (made written : List ℕ) → IsHead head → IsSolved head.problem chosen solved →
    made ≡ text_of head.bay head.problem solved.answer → written ≡ made → IsProofOf chosen head solved written
proof_of chosen head solved made written of_head answered is same = record {
  answered = answered;
  is = same ∙ is;
  accepted = subst (λ l. IsAcceptedAs l head.bay head.problem solved.answer) (sym (same ∙ is))
      (answer_accepted head.bay head.problem chosen.budget solved.answer solved.expanded of_head.name answered.answer);
}
