-- What is accepted under a claim: a lower bound, or the first best plan.
use Rattle.std.proofs.Common.{◌≡◌, ℕ, ◌+◌, ◌≤◌, Bool, true, false, cond, List, [], ◌∷◌, length, All, Option, Some, None, option_map, refl, sym, ap, ◌∙◌, subst, arith}
use Rattle.std.specs.List.{AllByRecursion}
use Rattle.std.specs.Ordering.{nat_cmp, is_lt}
use Rattle.std.specs.Cmp.Lexicographic.{slice_cmp}
use Rattle.std.proofs.lemmas.Option.{none-some, same_Some}
use Rattle.std.proofs.lemmas.List.Elements.{All-from_recursion, recursion_from_All, All-weaker}
use Rattle.crp_plan.specs.Bay.{Problem}
use Rattle.crp_tree.specs.Trees.{Node, cuts, value, HasAtLeast}
use Rattle.crp_tree.specs.Claims.{Part, Claimed, IsAccepted, nodes_in}
use Rattle.crp_tree.specs.First.{MeetsNeed, need_at, IsFirstAccepted}
use Rattle.crp_tree.proofs.Firsts.{as_number}
use Rattle.crp_cert.specs.declared.claim.Claim.{Claim}
use Rattle.crp_cert.specs.declared.claim.Claim.TheVariants.{AtLeast, First}
use Rattle.crp_cert.specs.Text.{bound}
use Rattle.crp_checker.specs.Nodes.{need_of}
use Rattle.crp_checker.specs.AcceptedTexts.{IsAcceptedUnder}
use Rattle.crp_checker.specs.Refusals.{HasItsPlan}
use Rattle.crp_checker.proofs.Shapes.{MeetNeed}

-- no cut needs less than the bound
pub need_least : (claim : Claim) (plan : Option (List ℕ)) (path : List ℕ) → bound claim ≤ need_of claim plan path
need_least (AtLeast least) plan path = omega arith
need_least (First least) None path = omega arith
need_least (First least) (Some plan) path = by_test (is_lt (slice_cmp nat_cmp path plan))
  where
    by_test : (b : Bool) → least ≤ cond b (least + 1) least
    by_test true = omega arith
    by_test false = omega arith

-- so no cut that has what it needs is below the bound
pub high_under : (claim : Claim) (plan : Option (List ℕ)) (list : List Node) → MeetNeed (need_of claim plan) list → HasAtLeast (bound claim) list
high_under claim plan list met =
    All-weaker (λ cut. need_of claim plan cut.path ≤ value cut) (λ cut. bound claim ≤ value cut) (λ cut le. let least = need_least claim plan cut.path in omega arith) (cuts list) met

-- the cuts of parts have what they need
abbrev pub MeetNeedIn : (List ℕ → ℕ) → Problem → List Part → Type 0
MeetNeedIn need p parts = AllByRecursion (λ part. MeetNeed need (nodes_in p part)) parts

-- and meet the need of a plan
abbrev MeetsNeedIn : ℕ → List ℕ → Problem → List Part → Type 0
MeetsNeedIn k path p parts = AllByRecursion (λ part. All (MeetsNeed k path) (cuts (nodes_in p part))) parts

met_by : (k : ℕ) (path : List ℕ) (p : Problem) (parts : List Part) → MeetNeedIn (need_at k path) p parts → MeetsNeedIn k path p parts
met_by k path p [] met = tt
met_by k path p (part ∷ parts) met = (
  All-weaker (λ cut. need_at k path cut.path ≤ value cut) (MeetsNeed k path) (λ cut le. (as_number k path cut).1 le) (cuts (nodes_in p part)) met.0,
  met_by k path p parts met.1,
)

met_from : (k : ℕ) (path : List ℕ) (p : Problem) (parts : List Part) → MeetsNeedIn k path p parts → MeetNeedIn (need_at k path) p parts
met_from k path p [] met = tt
met_from k path p (part ∷ parts) met = (
  All-weaker (MeetsNeed k path) (λ cut. need_at k path cut.path ≤ value cut) (λ cut m. (as_number k path cut).0 m) (cuts (nodes_in p part)) met.0,
  met_from k path p parts met.1,
)

-- a claim with its plan, of which each cut has what it needs, is accepted
pub accepted_under : (claim : Claim) (c : Claimed) → c.lower ≡ bound claim → IsAccepted c → HasItsPlan claim c.plan → MeetNeedIn (need_of claim c.plan) c.problem c.parts → IsAcceptedUnder claim c
accepted_under (AtLeast least) c e ok its met = ok
accepted_under (First least) c e ok its met = by_plan c.plan refl its met
  where
    by_plan : (plan : Option (List ℕ)) → c.plan ≡ plan → option_map length plan ≡ Some least → MeetNeedIn (need_of (First least) plan) c.problem c.parts → (path : List ℕ) × IsFirstAccepted c path
    by_plan None is count met = absurd (none-some least count)
    by_plan (Some path) is count met = (
      path,
      record {
        accepted = ok;
        plan_is = is;
        count = same_Some (length path) least count ∙ sym e;
        each_need = All-from_recursion (λ part. All (MeetsNeed c.lower path) (cuts (nodes_in c.problem part))) c.parts
            (met_by c.lower path c.problem c.parts (subst (λ k. MeetNeedIn (need_at k path) c.problem c.parts) (sym e) met));
      },
    )

-- what is accepted is accepted as a lower bound
pub accepted_claim : (claim : Claim) (c : Claimed) → IsAcceptedUnder claim c → IsAccepted c
accepted_claim (AtLeast least) c ok = ok
accepted_claim (First least) c ok = let first = ok.1 in first.accepted

-- it has its plan
pub plan_under : (claim : Claim) (c : Claimed) → c.lower ≡ bound claim → IsAcceptedUnder claim c → HasItsPlan claim c.plan
plan_under (AtLeast least) c e ok = tt
plan_under (First least) c e ok = let first = ok.1 in ap (option_map length) first.plan_is ∙ ap Some (first.count ∙ e)

-- and each of its cuts has what it needs
pub met_under : (claim : Claim) (c : Claimed) → c.lower ≡ bound claim → IsAcceptedUnder claim c → MeetNeedIn (need_of claim c.plan) c.problem c.parts
met_under (AtLeast least) c e ok =
    subst (λ k. MeetNeedIn (λ path. k) c.problem c.parts) e (recursion_from_All (λ part. HasAtLeast c.lower (nodes_in c.problem part)) c.parts ok.each_cut)
met_under (First least) c e ok =
    let first = ok.1 in
    subst (λ plan. MeetNeedIn (need_of (First least) plan) c.problem c.parts) (sym first.plan_is)
    (subst (λ k. MeetNeedIn (need_at k ok.0) c.problem c.parts) e
    (met_from c.lower ok.0 c.problem c.parts (recursion_from_All (λ part. All (MeetsNeed c.lower ok.0) (cuts (nodes_in c.problem part))) c.parts first.each_need)))
