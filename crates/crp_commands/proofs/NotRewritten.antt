-- Why a report is not written anew.
use Rattle.std.proofs.Common.{◌≡◌, ◌⊎◌, inl, inr, ℕ, ◌<◌, List, length, Option, Some, None, sym, subst}
use Rattle.std.specs.Prelude.{IfSome}
use Rattle.std.specs.Io.KnownBytes.{Keeps}
use Rattle.crp_yard.specs.Reading.{IsTextOf}
use Rattle.crp_follow.specs.declared.fault.FollowFault.{FollowFault}
use Rattle.crp_follow.specs.declared.fault.FollowFault.TheVariants as followed
use Rattle.crp_follow.specs.Stated.{most_bytes}
use Rattle.crp_follow.specs.Rewritten.{IsEditedFault}
use Rattle.crp_jobs.specs.Outcomes.{fault_of_follow}
use Rattle.crp_jobs.specs.declared.outcome.Statement.TheVariants as statement
use Rattle.crp_jobs.specs.declared.outcome.ToolFault.{ToolFault}
use Rattle.crp_jobs.specs.declared.outcome.ToolFault.TheVariants as fault
use Rattle.crp_commands.specs.Calls.{CallSeen}
use Rattle.crp_commands.specs.Follow.{IsNoReport}
use Rattle.crp_commands.specs.Rewrite.{RewriteFailsWith}

-- the text of a source is too long, so what the source had is
too_long : (given : Option (List ℕ)) (text : List ℕ) → IsTextOf given text → most_bytes < length text → IfSome given (λ xs. most_bytes < length xs)
too_long None text is long = tt
too_long (Some xs) text is long = subst (λ (l : List ℕ). most_bytes < length l) is long

-- the first fault of an edited report refuses it, where nothing was written
pub not_rewritten : (seen : CallSeen) (text : List ℕ) (f : FollowFault) → Keeps seen.held seen.holds → IsTextOf seen.given text → (f ≡ followed.Memory) ⊎ IsEditedFault text f
    → RewriteFailsWith seen (fault_of_follow f)
not_rewritten seen text f keeps given (inl e) = subst (λ g. RewriteFailsWith seen (fault_of_follow g)) (sym e) keeps
not_rewritten seen text followed.TooLong keeps given (inr w) = (keeps, too_long seen.given text given w)
not_rewritten seen text (followed.Orders line) keeps given (inr w) = (keeps, (text, given, w))
not_rewritten seen text (followed.NoLine line) keeps given (inr w) = (keeps, (text, given, w))
not_rewritten seen text (followed.Count line) keeps given (inr w) = (keeps, (text, given, w))
not_rewritten seen text (followed.NoBay line) keeps given (inr w) = absurd w
not_rewritten seen text (followed.Again line) keeps given (inr w) = absurd w
not_rewritten seen text (followed.Relocations line) keeps given (inr w) = absurd w
not_rewritten seen text (followed.Lift line) keeps given (inr w) = absurd w
not_rewritten seen text (followed.Container line) keeps given (inr w) = absurd w
not_rewritten seen text (followed.SetDown line) keeps given (inr w) = absurd w
not_rewritten seen text followed.Memory keeps given (inr w) = absurd w

-- no report was read, where nothing was written
pub unread_report : (seen : CallSeen) (f : ToolFault) → Keeps seen.held seen.holds → IsNoReport (record { given = seen.given; before = seen.source_before; after = seen.source_after }) f
    → RewriteFailsWith seen f
unread_report seen (fault.ReadOf statement.Report) keeps none = (keeps, none)
unread_report seen (fault.ReadOf statement.Certificates) keeps none = absurd none
unread_report seen (fault.Followed followed.TooLong) keeps none = (keeps, none)
unread_report seen (fault.Followed (followed.Orders line)) keeps none = absurd none
unread_report seen (fault.Followed (followed.NoLine line)) keeps none = absurd none
unread_report seen (fault.Followed (followed.Count line)) keeps none = absurd none
unread_report seen (fault.Followed (followed.NoBay line)) keeps none = absurd none
unread_report seen (fault.Followed (followed.Again line)) keeps none = absurd none
unread_report seen (fault.Followed (followed.Relocations line)) keeps none = absurd none
unread_report seen (fault.Followed (followed.Lift line)) keeps none = absurd none
unread_report seen (fault.Followed (followed.Container line)) keeps none = absurd none
unread_report seen (fault.Followed (followed.SetDown line)) keeps none = absurd none
unread_report seen (fault.Followed followed.Memory) keeps none = absurd none
unread_report seen fault.Memory keeps none = keeps
unread_report seen (fault.Cert why) keeps none = absurd none
unread_report seen (fault.Plan why) keeps none = absurd none
unread_report seen fault.Read keeps none = absurd none
unread_report seen fault.Write keeps none = absurd none
unread_report seen fault.TooLarge keeps none = absurd none
unread_report seen (fault.Checked number why) keeps none = absurd none
unread_report seen (fault.Run why) keeps none = absurd none
unread_report seen (fault.Audited why) keeps none = absurd none
unread_report seen (fault.TooLargeOf which) keeps none = absurd none
unread_report seen (fault.Loaded why) keeps none = absurd none
unread_report seen (fault.Unstated why) keeps none = absurd none
unread_report seen (fault.Second why) keeps none = absurd none
unread_report seen (fault.Sizes why) keeps none = absurd none
unread_report seen fault.ReadSizes keeps none = absurd none
unread_report seen fault.ReadSecond keeps none = absurd none
unread_report seen fault.WriteTable keeps none = absurd none
unread_report seen fault.WritePage keeps none = absurd none
unread_report seen (fault.OneFile both) keeps none = absurd none
