-- What the numbers of a check mean.
use Rattle.std.specs.Prelude.{◌≡◌, ℕ, List, None}
use Rattle.crp_plan.specs.Bay.{Problem}
use Rattle.crp_checker.specs.declared.verdict.Verdict.{Verdict}
use Rattle.crp_checker.specs.declared.refused.Refused.{Refused}
use Rattle.crp_checker.specs.Verdicts.{Says}
use Rattle.crp_checker.specs.Shown.{TextShows}
use Rattle.crp_checker.specs.Refusals.{IsRefusal}
use Rattle.crp_c.specs.declared.known.Known.{Known}
use Rattle.crp_c.specs.declared.fault.Fault.{Fault}
use Rattle.crp_c.specs.Numbers.{numbers_of}
use Rattle.crp_c.specs.Faults.{fault_of}

-- the bytes are an accepted text, and this is what it shows
abbrev pub IsShown : List ℕ → Known → Type 0
IsShown bytes known = (verdict : Verdict) × TextShows None bytes verdict × (known ≡ numbers_of verdict)

-- they are refused, for this
abbrev pub IsRefusedFor : List ℕ → Fault → Type 0
IsRefusedFor bytes fault = (refused : Refused) × IsRefusal None bytes refused × (fault ≡ fault_of refused)

-- what the numbers say of a problem is so
abbrev pub IsTrueOf : Problem → Known → Type 0
IsTrueOf p known = (verdict : Verdict) × Says p verdict × (known ≡ numbers_of verdict)
