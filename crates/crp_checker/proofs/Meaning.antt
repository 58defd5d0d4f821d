-- What an accepted certificate shows, and how a refusal is stated.
use Rattle.std.proofs.Common.{◌≡◌, ◌↔◌, ℕ, ◌≤◌, List, length, Option, Some, None, IfSome, option_map, refl, sym, ap, ◌∙◌, subst}
use Rattle.crp_plan.specs.declared.moves.Move.{Move}
use Rattle.crp_plan.specs.Bay.{Problem, cap, IsPlan, IsBest, relocations}
use Rattle.crp_plan.specs.Faults.{IsPlanPath}
use Rattle.crp_plan.proofs.Covered.{relocations-path}
use Rattle.crp_tree.specs.Claims.{Claimed, IsAccepted}
use Rattle.crp_tree.specs.First.{IsFirstBest}
use Rattle.crp_tree.proofs.Accepted.{bounded, no_plan_at_cap, best}
use Rattle.crp_tree.proofs.Firsts.{first_is}
use Rattle.crp_cert.specs.declared.claim.Claim.{Claim}
use Rattle.crp_cert.specs.declared.claim.Claim.TheVariants as claim
use Rattle.crp_cert.specs.declared.head.Head.{Head}
use Rattle.crp_cert.specs.declared.script.Script.{Script}
use Rattle.crp_cert.specs.Text.{bound, IsHeadOf}
use Rattle.crp_cert.specs.Script.{IsScriptOf, claim_of}
use Rattle.crp_cert.proofs.Heads.{head_once}
use Rattle.crp_checker.specs.declared.refused.Refused.{Refused}
use Rattle.crp_checker.specs.declared.refused.Refused.TheVariants as refused
use Rattle.crp_checker.specs.declared.verdict.Verdict.{Verdict}
use Rattle.crp_checker.specs.declared.verdict.Verdict.TheVariants.{Optimal, NoPlan, Bounds, First}
use Rattle.crp_checker.specs.AcceptedTexts.{IsAcceptedUnder, IsAcceptedScript, IsAcceptedText}
use Rattle.crp_checker.specs.Verdicts.{plan_count, IsVerdictOf, IsVerdictUnder, IsVerdict, Says}
use Rattle.crp_checker.specs.Refusals.{IsFirstWrongClaim, IsRefusal}
use Rattle.crp_checker.proofs.Under.{accepted_claim}

-- a plan with as many relocations as the bound is a best one
best_from : (c : Claimed) (plan : Option (List ℕ)) → c.plan ≡ plan → IsAccepted c → option_map length plan ≡ Some c.lower → IsBest c.problem c.lower
best_from c None e ok n = absurd (cc)
best_from c (Some rows) e ok n = best c rows ok e (let m : length rows ≡ c.lower = cc in m)

-- some plan has as many relocations as the one that is stated
reached_from : (p : Problem) (plan : Option (List ℕ)) → IfSome plan (IsPlanPath p) → IfSome (option_map length plan) (λ count. (moves : List Move) × IsPlan p moves × (relocations moves ≡ count))
reached_from p None ok = tt
reached_from p (Some rows) ok = (ok.0, ok.1, relocations-path ok.0 ∙ ap length ok.2)

-- what a verdict says of an accepted lower bound is so
says_of_bound : (c : Claimed) (verdict : Verdict) → IsAccepted c → IsVerdictOf c.lower (cap c.problem) (plan_count c) verdict → Says c.problem verdict
says_of_bound c (Optimal count) ok v = subst (IsBest c.problem) (sym v.0) (best_from c c.plan refl ok v.1)
says_of_bound c NoPlan ok v = λ moves plan. no_plan_at_cap c moves ok v.1 plan
says_of_bound c (Bounds lower upper) ok v = (
  λ moves plan. subst (λ n. n ≤ relocations moves) (sym v.2) (bounded c moves ok plan),
  subst (λ o. IfSome o (λ count. (moves : List Move) × IsPlan c.problem moves × (relocations moves ≡ count))) (sym v.3) (reached_from c.problem c.plan ok.plan_is),
)
says_of_bound c (First count) ok v = absurd v

-- so is what one says under any claim
says_under : (what : Claim) (c : Claimed) (verdict : Verdict) → c.lower ≡ bound what → IsAcceptedUnder what c → IsVerdictUnder what (cap c.problem) (plan_count c) verdict → Says c.problem verdict
says_under (claim.AtLeast least) c verdict e ok v = says_of_bound c verdict ok (subst (λ n. IsVerdictOf n (cap c.problem) (plan_count c) verdict) (sym e) v)
says_under (claim.First least) c verdict e ok v = let first = ok.1 in subst (Says c.problem) (sym v) (ok.0, first_is c ok.0 first, first.count ∙ e)

pub says_from : (script : Script) (verdict : Verdict) → IsAcceptedScript script → IsVerdict script verdict → Says script.head.problem verdict
says_from script verdict ok v = says_under script.head.claim (claim_of script) verdict refl ok v

-- the bytes of a script begin with no other head
pub head_is : (bytes : List ℕ) (parsed : Script) (head : Head) → IsScriptOf bytes parsed → IsHeadOf bytes head → head ≡ parsed.head
head_is bytes parsed head is of =
    let readable = is.0 in
    let rest = of.1 in
    (head_once head parsed.head rest.0 _ of.0 readable.is_head (sym rest.1 ∙ is.1)).0

-- what an accepted certificate shows of the problem that its bytes state
pub says_of_head : (wanted : Option Problem) (bytes : List ℕ) (parsed : Script) (verdict : Verdict) (head : Head) → IsAcceptedText wanted bytes parsed → IsVerdict parsed verdict → IsHeadOf bytes head → Says head.problem verdict
says_of_head wanted bytes parsed verdict head known v of =
    subst (λ h. Says h.problem verdict) (sym (head_is bytes parsed head known.is_text of)) (says_from parsed verdict known.accepted v)

-- and of each plan of that problem
pub bound_of_head : (wanted : Option Problem) (bytes : List ℕ) (parsed : Script) (head : Head) (moves : List Move) → IsAcceptedText wanted bytes parsed → IsHeadOf bytes head → IsPlan head.problem moves → bound head.claim ≤ relocations moves
bound_of_head wanted bytes parsed head moves known of plan =
    let same = head_is bytes parsed head known.is_text of in
    subst (λ h. bound h.claim ≤ relocations moves) (sym same) (bounded (claim_of parsed) moves (accepted_claim parsed.head.claim (claim_of parsed) known.accepted) (subst (λ h. IsPlan h.problem moves) same plan))

-- at the cap there is no plan
pub none_of_head : (wanted : Option Problem) (bytes : List ℕ) (parsed : Script) (head : Head) (moves : List Move) → IsAcceptedText wanted bytes parsed → IsHeadOf bytes head → bound head.claim ≡ cap head.problem → IsPlan head.problem moves → ⊥
none_of_head wanted bytes parsed head moves known of most plan =
    let same = head_is bytes parsed head known.is_text of in
    no_plan_at_cap (claim_of parsed) moves (accepted_claim parsed.head.claim (claim_of parsed) known.accepted) (subst (λ h. bound h.claim ≡ cap h.problem) same most) (subst (λ h. IsPlan h.problem moves) same plan)

-- a claim that is wrong is refused for that
pub claim_refused : (wanted : Option Problem) (bytes : List ℕ) (parsed : Script) (r : Refused) → IsScriptOf bytes parsed → IsFirstWrongClaim wanted parsed r → IsRefusal wanted bytes r
claim_refused wanted bytes parsed (refused.Cert fault) is w = absurd w
claim_refused wanted bytes parsed r is w = (parsed, is, w)

-- the bound, the cap and a plan give one verdict
pub one_verdict_of : (bound most : ℕ) (count : Option ℕ) (verdict other : Verdict) → IsVerdictOf bound most count verdict → IsVerdictOf bound most count other → verdict ≡ other
one_verdict_of bound most count (Optimal n) (Optimal m) a b = ap (λ k. Optimal k) (a.0 ∙ sym b.0)
one_verdict_of bound most count (Optimal n) NoPlan a b = absurd (b.0 a.1)
one_verdict_of bound most count (Optimal n) (Bounds l u) a b = absurd (b.0 a.1)
one_verdict_of bound most count NoPlan (Optimal m) a b = absurd (a.0 b.1)
one_verdict_of bound most count NoPlan NoPlan a b = refl
one_verdict_of bound most count NoPlan (Bounds l u) a b = absurd (b.1 a.1)
one_verdict_of bound most count (Bounds l u) (Optimal m) a b = absurd (a.0 b.1)
one_verdict_of bound most count (Bounds l u) NoPlan a b = absurd (a.1 b.1)
one_verdict_of bound most count (Bounds l u) (Bounds l' u') a b = ap (λ k. Bounds k u) (a.2 ∙ sym b.2) ∙ ap (λ k. Bounds l' k) (a.3 ∙ sym b.3)
one_verdict_of bound most count (First n) other a b = absurd a
one_verdict_of bound most count verdict (First n) a b = absurd b

-- so does each claim
pub one_verdict_under : (what : Claim) (most : ℕ) (count : Option ℕ) (verdict other : Verdict) → IsVerdictUnder what most count verdict → IsVerdictUnder what most count other → verdict ≡ other
one_verdict_under (claim.AtLeast least) most count verdict other a b = one_verdict_of least most count verdict other a b
one_verdict_under (claim.First least) most count verdict other a b = a ∙ sym b

-- ---- the first best plan

-- the plan of an accepted claim of the first best plan
pub plan_of_first : (wanted : Option Problem) (bytes : List ℕ) (script : Script) (least : ℕ) → IsAcceptedText wanted bytes script → script.head.claim ≡ claim.First least →
    (path : List ℕ) × (script.head.plan ≡ Some path) × (length path ≡ least) × IsFirstBest script.head.problem path
plan_of_first wanted bytes script least known e =
    let ok = subst (λ c. IsAcceptedUnder c (claim_of script)) e known.accepted in
    let first = ok.1 in
    (ok.0, first.plan_is, first.count ∙ ap bound e, first_is (claim_of script) ok.0 first)

-- the verdict says so of such claims alone
pub says_first : (what : Claim) (most : ℕ) (count : Option ℕ) (verdict : Verdict) (least : ℕ) → IsVerdictUnder what most count verdict → (verdict ≡ First least) ↔ (what ≡ claim.First least)
says_first (claim.AtLeast low) most count verdict least v = (λ e. absurd (subst (IsVerdictOf low most count) e v), λ e. absurd (let no : ⊥ = cc in no))
says_first (claim.First low) most count verdict least v = (
  λ e. let parsed : First low ≡ First least = sym v ∙ e in let same : low ≡ least = cc in ap (λ n. claim.First n) same,
  λ e. let same : low ≡ least = cc in v ∙ ap (λ n. First n) same,
)
