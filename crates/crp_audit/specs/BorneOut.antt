-- What the certificates of a headline show: for each bay a verdict that bears out what is said of it.
use Rattle.std.specs.Prelude.{◌≡◌, List, ⊤}
use Rattle.std.specs.List.{AllZip}
use Rattle.crp_plan.specs.BayNames.{YardBay}
use Rattle.crp_checker.specs.declared.verdict.Verdict.{Verdict}
use Rattle.crp_checker.specs.Files.{FileShows}
use Rattle.crp_said.specs.declared.said.SaidCause.TheVariants as cause
use Rattle.crp_said.specs.declared.said.Said.{Said}
use Rattle.crp_said.specs.declared.said.Said.TheVariants.{Between}
use Rattle.crp_audit.specs.Headline.{Handed, Reported, IsBorneOut}

-- it is shown of this bay, and bears out what is said of it
abbrev pub IsShownOfBay : Handed → Reported → YardBay × Verdict → Type 0
IsShownOfBay h b shown = (shown.0 ≡ b.bay.0) × IsBorneOut h b shown.1

-- the checker accepts the certificates, and what they show is for each of these bays, in their order, a verdict that bears out what is said of it
pub record AreBorneOut (h : Handed) (bays : List Reported) : Type 0 where
  pub shown : List (YardBay × Verdict)
  pub accepted : FileShows h.certificates shown
  pub each : AllZip (IsShownOfBay h) bays shown

-- it is said that the moves of the bay were edited
abbrev pub IsEdited : Said → Type 0
IsEdited (Between lower upper cause.Edited) = ⊤
IsEdited said = ⊥
