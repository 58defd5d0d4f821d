-- When a certificate is accepted.
use Rattle.std.specs.Prelude.{◌≡◌, ℕ, List, Option, IfSome}
use Rattle.crp_plan.specs.Bay.{Problem}
use Rattle.crp_tree.specs.Claims.{Claimed, IsAccepted}
use Rattle.crp_tree.specs.First.{IsFirstAccepted}
use Rattle.crp_cert.specs.declared.claim.Claim.{Claim}
use Rattle.crp_cert.specs.declared.claim.Claim.TheVariants.{AtLeast, First}
use Rattle.crp_cert.specs.declared.script.Script.{Script}
use Rattle.crp_cert.specs.Script.{IsScriptOf, claim_of}

-- the problem is the one that is asked for, if one is
abbrev pub IsWanted : Option Problem → Problem → Type 0
IsWanted wanted p = IfSome wanted (λ q. q ≡ p)

-- what is claimed is accepted: as a lower bound, or as a claim of the first best plan
abbrev pub IsAcceptedUnder : Claim → Claimed → Type 0
IsAcceptedUnder (AtLeast least) claimed = IsAccepted claimed
IsAcceptedUnder (First least) claimed = (path : List ℕ) × IsFirstAccepted claimed path

-- the claim of the script is accepted
abbrev pub IsAcceptedScript : Script → Type 0
IsAcceptedScript script = IsAcceptedUnder script.head.claim (claim_of script)

-- the bytes are the text of a script whose claim is accepted, and whose problem is the one that is asked for, if one is
pub record IsAcceptedText (wanted : Option Problem) (bytes : List ℕ) (script : Script) : Type 0 where
  pub is_text : IsScriptOf bytes script
  pub as_wanted : IsWanted wanted script.head.problem
  pub accepted : IsAcceptedScript script

-- they are the text of no such script
abbrev pub IsNotAccepted : Option Problem → List ℕ → Type 0
IsNotAccepted wanted bytes = (script : Script) → IsAcceptedText wanted bytes script → ⊥
