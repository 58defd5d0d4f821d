-- A text begins with at most one head's text.
use Rattle.std.proofs.Common.{◌≡◌, ℕ, ◌*◌, ◌≤◌, List, [], ◌∷◌, ◌++◌, length, get_or, Option, sym, ap, ◌∙◌, arith, append_assoc, All}
use Rattle.std.specs.List.{flat_map, AllByRecursion}
use Rattle.std.proofs.lemmas.List.Elements.{recursion_from_All}
use Rattle.std.proofs.lemmas.List.Sums.{sum_by-cons}
use Rattle.crp_plan.specs.BayNames.{YardBay}
use Rattle.crp_plan.specs.Rows.{total, tallest, FitRows}
use Rattle.crp_plan.specs.Bay.{Problem, IsProblem}
use Rattle.crp_plan.specs.Faults.{stated_with}
use Rattle.crp_plan.proofs.Steps.{same_rows}
use Rattle.crp_plan.proofs.Tallies.{low_heights, tallest_low, few_containers, cap_low, in_bay}
use Rattle.crp_cert.specs.declared.claim.Claim.{Claim}
use Rattle.crp_cert.specs.declared.head.Head.{Head}
use Rattle.crp_cert.specs.declared.size.Size.{Size}
use Rattle.crp_cert.specs.declared.version.Version.{Version}
use Rattle.crp_cert.specs.declared.version.Version.TheVariants.{One, Two, Three}
use Rattle.crp_cert.specs.Text.{title_line, bay_line, size_line, stated_heights, row_line, claim_line, plan_line, head_text, first_row, first_part, size_of, IsSize, IsHead}
use Rattle.crp_cert.specs.Faults.{MayState}
use Rattle.crp_cert.proofs.Lines.{AreLow, bay_once, size_once, rows_once, plan_once}
use Rattle.crp_cert.proofs.Readers.{once, title_reader, claim_reader}
use Rattle.crp_cert.proofs.Heights.{heights_once, may_state}

-- the text of a head and what follows it, line by line
pub head_then : (head : Head) (rest : List ℕ) → head_text head ++ rest
    ≡ title_line head.version ++ (bay_line head.bay ++ (size_line (size_of head.problem) ++ (stated_heights head.version head.problem.heights
    ++ (flat_map row_line head.problem.stacks ++ (claim_line head.claim ++ (plan_line head.plan ++ rest))))))
head_then head rest =
    let claims : List ℕ = claim_line head.claim in let plans : List ℕ = plan_line head.plan in
    let rows : List ℕ = flat_map row_line head.problem.stacks in let sizes : List ℕ = size_line (size_of head.problem) in let bays : List ℕ = bay_line head.bay in
    six (title_line head.version) bays sizes (stated_heights head.version head.problem.heights) rows claims plans rest
  where
    six : (t b s h r c p rest : List ℕ) → (t ++ (b ++ (s ++ (h ++ (r ++ (c ++ p)))))) ++ rest ≡ t ++ (b ++ (s ++ (h ++ (r ++ (c ++ (p ++ rest))))))
    six t b s h r c p rest = simp append_assoc

-- no height is above the tallest
all_low : (heights : List ℕ) → AllByRecursion (λ height. height ≤ tallest heights) heights
all_low heights = below (tallest heights) heights (omega arith)
  where
    below : (m : ℕ) (heights : List ℕ) → tallest heights ≤ m → AllByRecursion (λ height. height ≤ m) heights
    below m [] le = tt
    below m (height ∷ heights) le = (omega arith, below m heights (omega arith))

-- no more containers than places
room : (m : ℕ) (heights : List ℕ) (stacks : List (List ℕ)) → FitRows heights stacks → AllByRecursion (λ height. height ≤ m) heights → total stacks ≤ length stacks * m
room m [] [] fit low = omega arith
room m [] (stack ∷ stacks) fit low = absurd fit
room m (height ∷ heights) [] fit low = absurd fit
room m (height ∷ heights) (stack ∷ stacks) fit low =
    let a = fit.0 in let b = low.0 in
    omega (arith, sum_by-cons length stack stacks, room m heights stacks fit.1 low.1)

-- the first height is no more than the tallest
first_low : (heights : List ℕ) → get_or heights 0 0 ≤ tallest heights
first_low [] = omega arith
first_low (height ∷ heights) = omega arith

-- what the size line of a head says is within the limits
pub size_is : (head : Head) → IsHead head → IsSize (size_of head.problem)
size_is head is =
    let p : Problem = head.problem in
    let rows : length p.stacks ≡ length p.heights = same_rows p.heights p.stacks is.problem.stacks_fit in
    let some = is.problem.some_rows in let few = is.problem.few_rows in
    let high = (is.problem.heights_fit 0 0 (omega arith)).0 in
    record {
      some_rows = omega arith;
      few_rows = omega arith;
      some_tiers = omega (arith, first_low p.heights, high);
      few_tiers = tallest_low 8 p.heights (low_heights p is.problem);
      ordered_fit = is.problem.ordered_fit;
      room = room (tallest p.heights) p.heights p.stacks is.problem.stacks_fit (all_low p.heights);
    }

-- the first part stands in line 19 at the latest
pub first_few : (head : Head) → IsHead head → first_part head ≤ 19
first_few head is = let rows = (size_is head is).few_rows in omega (arith, row_early head.version)
  where
    row_early : (version : Version) → first_row version ≤ 5
    row_early One = omega arith
    row_early Two = omega arith
    row_early Three = omega arith

-- no stack is higher than eight, and ranks have one digit or two
pub stacks_low : (p : Problem) → IsProblem p → AllByRecursion (AreLow 8) p.stacks
stacks_low p is = both p.heights p.stacks is.stacks_fit (low_heights p is)
    (in_bay (λ x. x ≤ 99) p.stacks (λ x some. let h = is.no_other x some in omega (arith, few_containers p is, h.1)))
  where
    both : (heights : List ℕ) (stacks : List (List ℕ)) → FitRows heights stacks → AllByRecursion (λ height. height ≤ 8) heights → AllByRecursion (λ stack. All (λ x. x ≤ 99) stack) stacks → AllByRecursion (AreLow 8) stacks
    both [] [] fit low ranks = tt
    both [] (stack ∷ stacks) fit low ranks = absurd fit
    both (height ∷ heights) [] fit low ranks = absurd fit
    both (height ∷ heights) (stack ∷ stacks) fit low ranks =
        let a = fit.0 in let b = low.0 in
        ((omega arith, recursion_from_All (λ x. x ≤ 99) stack ranks.0), both heights stacks fit.1 low.1 ranks.1)

-- what a head states of the heights
pub head_states : (head : Head) → IsHead head → MayState head.version (size_of head.problem) head.problem.heights
head_states head is = may_state head.version head.problem is.problem is.can_state

-- a text begins with one head's text at most
pub head_once : (a b : Head) (x y : List ℕ) → IsHead a → IsHead b → head_text a ++ x ≡ head_text b ++ y → (a ≡ b) × (x ≡ y)
head_once a b x y is-a is-b e =
    let e0 = sym (head_then a x) ∙ e ∙ head_then b y in
    let titles = once title_reader a.version b.version _ _ tt tt e0 in
    let bays = bay_once a.bay b.bay _ _ is-a.name is-b.name titles.1 in
    let sizes = size_once (size_of a.problem) (size_of b.problem) _ _ (size_is a is-a) (size_is b is-b) bays.1 in
    let heights = heights_once a.version b.version (size_of a.problem) (size_of b.problem) a.problem.heights b.problem.heights _ _ titles.0 sizes.0 (size_is a is-a) (head_states a is-a) (head_states b is-b) sizes.1 in
    let len : length a.problem.stacks ≡ length b.problem.stacks = ap (λ (s : Size). s.rows) sizes.0 in
    let rows = rows_once 8 a.problem.stacks b.problem.stacks _ _ len (stacks_low a.problem is-a.problem) (stacks_low b.problem is-b.problem) heights.1 in
    let problems : a.problem ≡ b.problem =
    ap (λ (h : List ℕ). stated_with h a.problem.ordered a.problem.stacks) heights.0 ∙ ap (λ (s : Size). stated_with b.problem.heights s.ordered a.problem.stacks) sizes.0
    ∙ ap (stated_with b.problem.heights b.problem.ordered) rows.0 in
    let low-a = cap_low a.problem is-a.problem in let low-b = cap_low b.problem is-b.problem in let c-a = is-a.claim in let c-b = is-b.claim in
    let claims = once (claim_reader Two 673 (omega arith)) a.claim b.claim _ _ (record { can_claim = tt; within = omega arith }) (record { can_claim = tt; within = omega arith }) rows.1 in
    let plans = plan_once a.plan b.plan x y is-a.plan is-b.plan claims.1 in (
      ap (λ (v : Version). record a { version = v }) titles.0 ∙ ap (λ (n : YardBay). record a { version = b.version; bay = n }) bays.0
          ∙ ap (λ (p : Problem). record a { version = b.version; bay = b.bay; problem = p }) problems
          ∙ ap (λ (n : Claim). record a { version = b.version; bay = b.bay; problem = b.problem; claim = n }) claims.0 ∙ ap (λ (o : Option (List ℕ)). record b { plan = o }) plans.0,
      plans.1,
    )
