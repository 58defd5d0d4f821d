-- What accepted texts show.
use Rattle.std.specs.Prelude.{◌≡◌, ℕ, List, Option, None}
use Rattle.crp_plan.specs.BayNames.{YardBay}
use Rattle.crp_plan.specs.Bay.{Problem}
use Rattle.crp_cert.specs.declared.script.Script.{Script}
use Rattle.crp_checker.specs.declared.verdict.Verdict.{Verdict}
use Rattle.crp_checker.specs.AcceptedTexts.{IsAcceptedText}
use Rattle.crp_checker.specs.Verdicts.{IsVerdict}

-- the bytes are an accepted text, of the problem that is asked for, if one is, and this is what it shows
abbrev pub TextShows : Option Problem → List ℕ → Verdict → Type 0
TextShows wanted bytes verdict = (script : Script) × IsAcceptedText wanted bytes script × IsVerdict script verdict

-- the same of a text for this bay, and with this plan, if it has one
abbrev pub TextStates : Option Problem → List ℕ → YardBay → Option (List ℕ) → Verdict → Type 0
TextStates wanted bytes bay plan verdict =
    (script : Script) × IsAcceptedText wanted bytes script × (script.head.bay ≡ bay) × (script.head.plan ≡ plan) × IsVerdict script verdict

-- the bytes are an accepted text for this bay, and this is what it shows
abbrev pub TextShowsFor : List ℕ → YardBay → Verdict → Type 0
TextShowsFor bytes bay verdict = (script : Script) × IsAcceptedText None bytes script × (script.head.bay ≡ bay) × IsVerdict script verdict
