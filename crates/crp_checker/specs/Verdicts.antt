-- What a certificate shows, and what that means.
use Rattle.std.specs.Prelude.{◌≡◌, ◌≢◌, ℕ, ◌≤◌, List, length, Option, Some, IfSome, option_map}
use Rattle.crp_plan.specs.declared.moves.Move.{Move}
use Rattle.crp_plan.specs.Bay.{Problem, cap, IsPlan, IsBest, relocations}
use Rattle.crp_tree.specs.Claims.{Claimed}
use Rattle.crp_tree.specs.First.{IsFirstBest}
use Rattle.crp_cert.specs.declared.claim.Claim.{Claim}
use Rattle.crp_cert.specs.declared.claim.Claim.TheVariants as claim
use Rattle.crp_cert.specs.declared.script.Script.{Script}
use Rattle.crp_cert.specs.Script.{claim_of}
use Rattle.crp_checker.specs.declared.verdict.Verdict.{Verdict}
use Rattle.crp_checker.specs.declared.verdict.Verdict.TheVariants.{Optimal, NoPlan, Bounds, First}

-- how many relocations the plan of a claim has, if it has a plan
abbrev pub plan_count : Claimed → Option ℕ
plan_count claim = option_map length claim.plan

-- under a lower bound: it is the fewest where the plan has as many relocations; there is no plan where the bound is the cap; else these are a bound
-- and the relocations of a plan, if there is one
abbrev pub IsVerdictOf : ℕ → ℕ → Option ℕ → Verdict → Type 0
IsVerdictOf bound most count (Optimal fewest) = (fewest ≡ bound) × (count ≡ Some bound)
IsVerdictOf bound most count NoPlan = (count ≢ Some bound) × (bound ≡ most)
IsVerdictOf bound most count (Bounds lower upper) = (count ≢ Some bound) × (bound ≢ most) × (lower ≡ bound) × (upper ≡ count)
IsVerdictOf bound most count (First fewest) = ⊥

-- the same under any claim: where the first best plan is claimed, that it has as many relocations as the bound
abbrev pub IsVerdictUnder : Claim → ℕ → Option ℕ → Verdict → Type 0
IsVerdictUnder (claim.AtLeast least) most count verdict = IsVerdictOf least most count verdict
IsVerdictUnder (claim.First least) most count verdict = verdict ≡ First least

-- what a script shows, by its claim, the cap of its problem and its plan
abbrev pub IsVerdict : Script → Verdict → Type 0
IsVerdict script verdict = IsVerdictUnder script.head.claim (cap script.head.problem) (plan_count (claim_of script)) verdict

-- what a verdict says of a problem: that the fewest relocations of a plan are so many; that there is no plan; that no plan has fewer
-- than the lower bound, and some plan has as many as the upper one, if there is one; or that the first best plan has so many
abbrev pub Says : Problem → Verdict → Type 0
Says p (Optimal count) = IsBest p count
Says p NoPlan = (moves : List Move) → IsPlan p moves → ⊥
Says p (Bounds lower upper) =
    ((moves : List Move) → IsPlan p moves → lower ≤ relocations moves)
    × IfSome upper (λ count. (moves : List Move) × IsPlan p moves × (relocations moves ≡ count))
Says p (First count) = (path : List ℕ) × IsFirstBest p path × (length path ≡ count)
