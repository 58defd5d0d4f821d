-- A height for each row.
use Rattle.std.proofs.Common.{◌≡◌, ℕ, zero, suc, ◌+◌, ◌<◌, ◌≤◌, List, [], ◌∷◌, length, replicate, take, get_or, sym, ap, ◌∙◌, subst, arith, All}
use Rattle.std.specs.Prelude.{max, Result, Ok, Err, IfErr}
use Rattle.std.specs.List.{AllByRecursion}
use Rattle.std.proofs.lemmas.List.{get_or-map, length-replicate, get_or-replicate}
use Rattle.std.proofs.lemmas.List.Elements.{All-from_recursion, recursion_from_All, All-replicate}
use Rattle.crp_plan.specs.Rows.{total, FitRows, tallest}
use Rattle.crp_plan.specs.Bay.{IsProblem}
use Rattle.crp_plan.specs.declared.problem.ProblemFault.{ProblemFault}
use Rattle.crp_plan.specs.declared.problem.ProblemFault.TheVariants.{Rows, Tiers, TooHigh, Ranks, Ordered}
use Rattle.crp_plan.specs.Faults.{stacks_of, stated_with, HasRows, HasTiers, FitTiers, HasHeights, AreHeights, AreRanks, IsFirstFault, IsFirstFaultWith}
use Rattle.crp_plan.proofs.Steps.{same_rows}
use Rattle.crp_plan.proofs.Tallies.{Row, fit_same, same_fit, fits_to}

-- stacks that fit, row by row
pub fit_from : (heights : List ℕ) (stacks : List (List ℕ)) → length heights ≡ length stacks → ((k : ℕ) → k < length stacks → length (get_or stacks k []) ≤ get_or heights k 0) → FitRows heights stacks
fit_from [] [] e h = tt
fit_from [] (stack ∷ stacks) e h = absurd (omega (arith, e))
fit_from (height ∷ heights) [] e h = absurd (omega (arith, e))
fit_from (height ∷ heights) (stack ∷ stacks) e h = (h 0 (omega arith), fit_from heights stacks (omega (arith, e)) (λ k lt. h (suc k) (omega arith)))

pub fit_to : (heights : List ℕ) (stacks : List (List ℕ)) → FitRows heights stacks → (k : ℕ) → length (get_or stacks k []) ≤ get_or heights k 0
fit_to [] [] fit k = omega arith
fit_to [] (stack ∷ stacks) fit k = absurd fit
fit_to (height ∷ heights) [] fit k = absurd fit
fit_to (height ∷ heights) (stack ∷ stacks) fit zero = fit.0
fit_to (height ∷ heights) (stack ∷ stacks) fit (suc k) = fit_to heights stacks fit.1 k

-- the stack of a list of bytes
pub stack_at : (rows : List Row) (k : ℕ) (d : Row) → k < length rows → get_or (stacks_of rows) k [] ≡ (get_or rows k d).items
stack_at rows k d lt = get_or-map (λ (row : Row). row.items) rows k d [] lt

-- the largest of the heights up to the next
tallest_more : (heights : List ℕ) (i : ℕ) → i < length heights → tallest (take (suc i) heights) ≡ max (tallest (take i heights)) (get_or heights i 0)
tallest_more [] i lt = absurd (omega arith)
tallest_more (height ∷ heights) zero lt = omega arith
tallest_more (height ∷ heights) (suc i) lt = let more = tallest_more heights i (omega arith) in omega (arith, more)

pub tallest_next : (heights : List ℕ) (i : ℕ) → i < length heights → tallest (take (i + 1) heights) ≡ max (tallest (take i heights)) (get_or heights i 0)
tallest_next heights i lt = let e : i + 1 ≡ suc i = omega arith in ap (λ n. tallest (take n heights)) e ∙ tallest_more heights i lt

-- no stack has more than 8 containers
pub low_stacks : (heights : List ℕ) (stacks : List (List ℕ)) → FitRows heights stacks → AllByRecursion (λ height. HasTiers height) heights → AllByRecursion (λ stack. length stack ≤ 8) stacks
low_stacks [] [] fit are = tt
low_stacks [] (stack ∷ stacks) fit are = absurd fit
low_stacks (height ∷ heights) [] fit are = absurd fit
low_stacks (height ∷ heights) (stack ∷ stacks) fit are = let a = fit.0 in let b = are.0.1 in (omega arith, low_stacks heights stacks fit.1 are.1)

pub low_rows : (heights : List ℕ) (rows : List Row) → FitRows heights (stacks_of rows) → AreHeights heights → All (λ (row : Row). length row.items ≤ 8) rows
low_rows heights rows fit are =
    fits_to 8 rows (All-from_recursion (λ stack. length stack ≤ 8) (stacks_of rows) (low_stacks heights (stacks_of rows) fit (recursion_from_All (λ height. HasTiers height) heights are)))

-- when a statement with a height for each row is a problem
pub made_with : (heights : List ℕ) (ordered : ℕ) (stacks : List (List ℕ)) → HasHeights heights stacks → AreHeights heights → FitRows heights stacks → AreRanks stacks → ordered ≤ total stacks →
    IsProblem (stated_with heights ordered stacks)
made_with heights ordered stacks has are fit ranks few = let rows = has.0 in let same = has.1 in record {
  some_rows = omega (arith, rows.0);
  few_rows = omega (arith, rows.1);
  heights_fit = are;
  stacks_fit = fit;
  each_once = ranks.each_once;
  no_other = ranks.no_other;
  ordered_fit = few;
}

pub has_heights : (heights : List ℕ) (ordered : ℕ) (stacks : List (List ℕ)) → IsProblem (stated_with heights ordered stacks) → HasHeights heights stacks
has_heights heights ordered stacks is =
    let same = same_rows heights stacks is.stacks_fit in let a : 1 ≤ length heights = is.some_rows in let b : length heights ≤ 12 = is.few_rows in
    ((omega arith, omega arith), sym same)

pub ranks_of : (heights : List ℕ) (ordered : ℕ) (stacks : List (List ℕ)) → IsProblem (stated_with heights ordered stacks) → AreRanks stacks
ranks_of heights ordered stacks is = record { each_once = is.each_once; no_other = is.no_other }

-- one height for all rows
pub same_are : (n tiers : ℕ) → HasTiers tiers → AreHeights (replicate n tiers)
same_are n tiers has = All-replicate (λ height. HasTiers height) n tiers has

pub are_same : (n tiers : ℕ) → 1 ≤ n → AreHeights (replicate n tiers) → HasTiers tiers
are_same n tiers some are = subst HasTiers (get_or-replicate n 0 tiers 0 (omega arith)) (are 0 0 (omega (arith, length-replicate n tiers)))

pub low_to : (tiers : ℕ) (stacks : List (List ℕ)) → FitTiers tiers stacks → FitRows (replicate (length stacks) tiers) stacks
low_to tiers stacks low = fit_same tiers stacks (recursion_from_All (λ stack. length stack ≤ tiers) stacks low)

pub low_from : (tiers : ℕ) (stacks : List (List ℕ)) → FitRows (replicate (length stacks) tiers) stacks → FitTiers tiers stacks
low_from tiers stacks fit = All-from_recursion (λ stack. length stack ≤ tiers) stacks (same_fit tiers stacks fit)

pub has_same : (tiers : ℕ) (stacks : List (List ℕ)) → HasRows stacks → HasHeights (replicate (length stacks) tiers) stacks
has_same tiers stacks rows = (rows, length-replicate (length stacks) tiers)

-- where all rows have one height the first fault is that of so many tiers
pub one_height : (tiers ordered : ℕ) (stacks : List (List ℕ)) (fault : ProblemFault) → IsFirstFaultWith (replicate (length stacks) tiers) ordered stacks fault → IsFirstFault tiers ordered stacks fault
one_height tiers ordered stacks Rows is = λ rows. is (has_same tiers stacks rows)
one_height tiers ordered stacks Tiers is = (is.0.0, λ some. is.1 (same_are (length stacks) tiers some))
one_height tiers ordered stacks TooHigh is = (is.0.0, are_same (length stacks) tiers is.0.0.0 is.1, λ low. is.2 (low_to tiers stacks low))
one_height tiers ordered stacks Ranks is = (is.0.0, are_same (length stacks) tiers is.0.0.0 is.1, low_from tiers stacks is.2, is.3)
one_height tiers ordered stacks Ordered is = (is.0.0, are_same (length stacks) tiers is.0.0.0 is.1, low_from tiers stacks is.2, is.3, is.4)

pub refused_too : {X : Type 0} (tiers ordered : ℕ) (stacks : List (List ℕ)) (heights : List ℕ) (result : Result X ProblemFault) → heights ≡ replicate (length stacks) tiers →
    IfErr result (IsFirstFaultWith heights ordered stacks) → IfErr result (IsFirstFault tiers ordered stacks)
refused_too tiers ordered stacks heights (Ok p) e is = is
refused_too tiers ordered stacks heights (Err fault) e is = one_height tiers ordered stacks fault (subst (λ h. IsFirstFaultWith h ordered stacks fault) e is)
