-- A height for each row: what the text of a version states, and stacks under the first of the heights.
use Rattle.std.proofs.Common.{◌≡◌, ℕ, zero, suc, ◌<◌, ◌≤◌, Bool, true, false, cond, ◌==◌, ◌&&◌, List, [], ◌∷◌, ◌++◌, length, take, get_or, replicate, Option, Some, None, refl, sym, ap, ◌∙◌, subst, arith, nat_le}
use Rattle.std.specs.List.{list_all, AllByRecursion}
use Rattle.std.proofs.lemmas.Bool.{and_parts, and_from, leb-true, le-leb, eqb-true, eq-eqb}
use Rattle.std.proofs.lemmas.List.{take_all, length-replicate}
use Rattle.std.proofs.lemmas.List.Elements.{recursion_from_All, All-from_recursion}
use Rattle.std.proofs.lemmas.Option.{some_pair_parts}
use Rattle.std.specs.Prelude.{codes}
use Rattle.crp_plan.specs.Rows.{FitRows, tallest}
use Rattle.crp_plan.specs.Bay.{Problem, IsProblem}
use Rattle.crp_plan.specs.Faults.{HasTiers, AreHeights}
use Rattle.crp_plan.proofs.Steps.{same_rows}
use Rattle.crp_plan.proofs.Tallies.{tallest_same}
use Rattle.crp_plan.proofs.Heights.{same_are}
use Rattle.crp_cert.specs.declared.size.Size.{Size}
use Rattle.crp_cert.specs.declared.version.Version.{Version}
use Rattle.crp_cert.specs.declared.version.Version.TheVariants.{One, Two, Three}
use Rattle.crp_cert.specs.Text.{heights_line, stated_heights, size_of, has_heights, HasOneHeight, CanState, IsSize}
use Rattle.crp_cert.specs.Faults.{AreHeightsOf, MayState}
use Rattle.crp_cert.specs.Reading.{◌>>=◌, tag_at, numbers_at, is_height, are_heights, heights_line_at, heights_at}
use Rattle.crp_cert.specs.Writing.{are_equal, version_for}
use Rattle.crp_cert.proofs.Numbers.{bind_some, if_some, tag_takes, numbers_take, numbers_again}
use Rattle.crp_cert.proofs.Lines.{numbers_line_then}
use Rattle.crp_cert.proofs.Readers.{IsReader, once, all_to, all_from}

-- ---- a test of heights

-- a height that passes the test is one
tiers_to : (height : ℕ) → is_height height ≡ true → HasTiers height
tiers_to height e = let p = and_parts (nat_le 1 height) (nat_le height 8) e in (leb-true 1 height p.0, leb-true height 8 p.1)

-- and back
tiers_from : (height : ℕ) → HasTiers height → is_height height ≡ true
tiers_from height has = and_from _ _ (le-leb 1 height has.0) (le-leb height 8 has.1)

-- what the test of heights means
heights_to : (size : Size) (heights : List ℕ) → are_heights size heights ≡ true → AreHeightsOf size heights
heights_to size heights e =
    let a = and_parts (length heights == size.rows) (tallest heights == size.tiers && list_all is_height heights) e in
    let b = and_parts (tallest heights == size.tiers) (list_all is_height heights) a.1 in
    record {
      for_each_row = eqb-true (length heights) size.rows a.0;
      are_heights = All-from_recursion (λ height. HasTiers height) heights (all_to (λ height. HasTiers height) is_height tiers_to heights b.1);
      largest = eqb-true (tallest heights) size.tiers b.0;
    }

-- and back
heights_from : (size : Size) (heights : List ℕ) → AreHeightsOf size heights → are_heights size heights ≡ true
heights_from size heights are =
    and_from _ _ (eq-eqb (length heights) size.rows are.for_each_row)
    (and_from _ _ (eq-eqb (tallest heights) size.tiers are.largest)
    (all_from (λ height. HasTiers height) is_height tiers_from heights (recursion_from_All (λ height. HasTiers height) heights are.are_heights)))

-- ---- the heights line

-- heights that pass the test
abbrev kept_heights : Size → List ℕ × List ℕ → Option (List ℕ × List ℕ)
kept_heights size x = cond (are_heights size x.0) (Some (x.0, x.1)) None

-- what is read of a heights line is what it says
line_takes : (size : Size) (bytes heights rest : List ℕ) → heights_line_at size bytes ≡ Some (heights, rest) → AreHeightsOf size heights × (bytes ≡ heights_line heights ++ rest)
unfolding heights_line_at
line_takes size bytes heights rest e =
    let a = bind_some (tag_at (codes "heights") bytes) (λ a. numbers_at 12 a >>= kept_heights size) (heights, rest) e in
    let x = bind_some (numbers_at 12 a.0) (kept_heights size) (heights, rest) a.2 in
    let k = if_some (are_heights size x.0.0) (Some (x.0.0, x.0.1)) (heights, rest) x.2 in
    let p = some_pair_parts x.0.0 heights x.0.1 rest k.1 in
    let n = numbers_take 12 a.0 x.0.0 x.0.1 x.1 in
    let whole : bytes ≡ heights_line x.0.0 ++ x.0.1 = tag_takes (codes "heights") bytes a.0 a.1 ∙ ap (λ l. codes "heights" ++ l) n.0 ∙ sym (numbers_line_then (codes "heights") x.0.0 x.0.1) in
    (subst (AreHeightsOf size) p.0 (heights_to size x.0.0 k.0), whole ∙ ap (λ l. heights_line l ++ x.0.1) p.0 ∙ ap (λ l. heights_line heights ++ l) p.1)

-- heights have one digit
pub digits : (heights : List ℕ) → AreHeights heights → AllByRecursion (λ n. n ≤ 99) heights
digits heights are = lower heights (recursion_from_All (λ height. HasTiers height) heights are)
  where
    lower : (heights : List ℕ) → AllByRecursion (λ height. HasTiers height) heights → AllByRecursion (λ n. n ≤ 99) heights
    lower [] all = tt
    lower (height ∷ heights) all = (let le = all.0.1 in omega arith, lower heights all.1)

-- a heights line is read again
line_again : (size : Size) (heights rest : List ℕ) → IsSize size → AreHeightsOf size heights → heights_line_at size (heights_line heights ++ rest) ≡ Some (heights, rest)
unfolding heights_line_at
line_again size heights rest is are =
    let few = is.few_rows in let each = are.for_each_row in
    ap (heights_line_at size) (numbers_line_then (codes "heights") heights rest)
    ∙ rw (numbers_again 12 heights rest (omega arith) (digits heights are.are_heights)) (ap (λ (b : Bool). cond b (Some (heights, rest)) None) (heights_from size heights are))

-- the heights line
pub line_reader : (size : Size) → IsSize size → IsReader (AreHeightsOf size) heights_line (heights_line_at size)
line_reader size is = record { takes = line_takes size; again = λ heights rest are. line_again size heights rest is are }

-- the heights of a version
pub heights_reader : (version : Version) (size : Size) → IsSize size → IsReader (MayState version size) (stated_heights version) (heights_at version size)
heights_reader One size is = record {
  takes = λ bytes heights rest e. let p = some_pair_parts (replicate size.rows size.tiers) heights bytes rest e in (sym p.0, p.1);
  again = λ heights rest same. ap (λ (h : List ℕ). Some (h, rest)) (sym same);
}
heights_reader Two size is = line_reader size is
heights_reader Three size is = line_reader size is

-- bytes begin with one statement of heights at most
pub heights_once : (v w : Version) (s t : Size) (heights others x y : List ℕ) → v ≡ w → s ≡ t → IsSize s → MayState v s heights → MayState w t others →
    stated_heights v heights ++ x ≡ stated_heights w others ++ y → (heights ≡ others) × (x ≡ y)
heights_once v w s t heights others x y ev es is state state' e =
    once (heights_reader v s is) heights others x y state
    (subst (λ (u : Version). MayState u s others) (sym ev) (subst (λ (z : Size). MayState w z others) (sym es) state'))
    (e ∙ ap (λ (u : Version). stated_heights u others ++ y) (sym ev))

-- ---- what is stated

-- what may be stated is a height for each row
pub heights_are : (version : Version) (size : Size) (heights : List ℕ) → IsSize size → MayState version size heights → AreHeightsOf size heights
heights_are One size heights is same =
    subst (AreHeightsOf size) (sym same) (record {
      for_each_row = length-replicate size.rows size.tiers;
      are_heights = same_are size.rows size.tiers (is.some_tiers, is.few_tiers);
      largest = tallest_same size.rows size.tiers is.some_rows;
    })
heights_are Two size heights is are = are
heights_are Three size heights is are = are

-- a problem has a height for each row
each_height : (p : Problem) → IsProblem p → AreHeightsOf (size_of p) p.heights
each_height p is = record { for_each_row = sym (same_rows p.heights p.stacks is.stacks_fit); are_heights = is.heights_fit; largest = refl }

-- the heights of a problem may be stated
pub may_state : (version : Version) (p : Problem) → IsProblem p → CanState version p → MayState version (size_of p) p.heights
may_state One p is same = same
may_state Two p is any = each_height p is
may_state Three p is any = each_height p is

-- and the other way round, for the problem that they state
pub can_state : (version : Version) (size : Size) (p : Problem) → length p.stacks ≡ size.rows → tallest p.heights ≡ size.tiers → MayState version size p.heights → CanState version p
can_state One size p rows tiers same = same ∙ ap (λ n. replicate n size.tiers) (sym rows) ∙ ap (replicate (length p.stacks)) (sym tiers)
can_state Two size p rows tiers are = tt
can_state Three size p rows tiers are = tt

-- so may any heights that fit the size, in a version that has a line of them
pub may_line : (version : Version) (size : Size) (heights : List ℕ) → has_heights version ≡ true → AreHeightsOf size heights → MayState version size heights
may_line One size heights with_line are = absurd cc
may_line Two size heights with_line are = are
may_line Three size heights with_line are = are

pub line_is : (version : Version) (heights : List ℕ) → has_heights version ≡ true → stated_heights version heights ≡ heights_line heights
line_is One heights with_line = absurd cc
line_is Two heights with_line = refl
line_is Three heights with_line = refl

-- ---- the version that is written

-- elements that are equal to one
each_same : (m : ℕ) (heights : List ℕ) → list_all (λ height. height == m) heights ≡ true → heights ≡ replicate (length heights) m
each_same m [] e = refl
each_same m (height ∷ heights) e =
    let a = and_parts (height == m) (list_all (λ h. h == m) heights) e in
    ap (λ h. h ∷ heights) (eqb-true height m a.0) ∙ ap (λ l. m ∷ l) (each_same m heights a.1)

-- and back
same_each : (m n : ℕ) → list_all (λ height. height == m) (replicate n m) ≡ true
same_each m zero = refl
same_each m (suc n) = and_from _ _ (eq-eqb m m refl) (same_each m n)

-- the test of equal heights
equal_to : (p : Problem) → IsProblem p → are_equal p.heights ≡ true → HasOneHeight p
equal_to p is e = each_same (tallest p.heights) p.heights e ∙ ap (λ n. replicate n (tallest p.heights)) (sym (same_rows p.heights p.stacks is.stacks_fit))

equal_from : (p : Problem) → HasOneHeight p → are_equal p.heights ≡ true
equal_from p same = ap (list_all (λ height. height == tallest p.heights)) same ∙ same_each (tallest p.heights) (length p.stacks)

-- the version of a test
abbrev by_test : Bool → Version
by_test b = cond b One Two

-- version 1 is written where the rows have one height
pub one_to : (p : Problem) → IsProblem p → version_for p ≡ One → HasOneHeight p
one_to p is e = by_cases (are_equal p.heights) refl e
  where
    by_cases : (b : Bool) → are_equal p.heights ≡ b → by_test b ≡ One → HasOneHeight p
    by_cases true f g = equal_to p is f
    by_cases false f g = absurd cc

pub one_from : (p : Problem) → HasOneHeight p → version_for p ≡ One
one_from p same = ap by_test (equal_from p same)

-- the version that is written can state the problem
pub written_can : (p : Problem) → IsProblem p → CanState (version_for p) p
written_can p is = by_cases (are_equal p.heights) refl
  where
    by_cases : (b : Bool) → are_equal p.heights ≡ b → CanState (by_test b) p
    by_cases true f = equal_to p is f
    by_cases false f = tt

-- ---- stacks under the first of the heights

-- one stack more, which is no higher than its row
pub front_push : (heights : List ℕ) (stacks : List (List ℕ)) (stack : List ℕ) → FitRows (take (length stacks) heights) stacks → length stacks < length heights → length stack ≤ get_or heights (length stacks) 0 →
    FitRows (take (length (stacks ++ stack ∷ [])) heights) (stacks ++ stack ∷ [])
front_push [] stacks stack fit more low = absurd (omega arith)
front_push (height ∷ heights) [] stack fit more low = (low, tt)
front_push (height ∷ heights) (s ∷ stacks) stack fit more low = (fit.0, front_push heights stacks stack fit.1 (omega arith) low)

-- the last stack
pub front_last : (heights : List ℕ) (stacks : List (List ℕ)) (stack : List ℕ) → FitRows (take (length (stacks ++ stack ∷ [])) heights) (stacks ++ stack ∷ []) → length stack ≤ get_or heights (length stacks) 0
front_last [] [] stack fit = absurd fit
front_last [] (s ∷ stacks) stack fit = absurd fit
front_last (height ∷ heights) [] stack fit = fit.0
front_last (height ∷ heights) (s ∷ stacks) stack fit = front_last heights stacks stack fit.1

-- the stacks before
pub front_fewer : (heights : List ℕ) (a b : List (List ℕ)) → FitRows (take (length (a ++ b)) heights) (a ++ b) → FitRows (take (length a) heights) a
front_fewer [] [] b fit = tt
front_fewer (height ∷ heights) [] b fit = tt
front_fewer [] (s ∷ a) b fit = absurd fit
front_fewer (height ∷ heights) (s ∷ a) b fit = (fit.0, front_fewer heights a b fit.1)

-- no stack
pub front_none : (heights : List ℕ) → FitRows (take 0 heights) []
front_none [] = tt
front_none (height ∷ heights) = tt

-- all stacks
pub front_whole : (heights : List ℕ) (stacks : List (List ℕ)) → length stacks ≡ length heights → FitRows (take (length stacks) heights) stacks → FitRows heights stacks
front_whole heights stacks all fit = subst (λ h. FitRows h stacks) (take_all (length stacks) heights (omega arith)) fit

pub front_of : (heights : List ℕ) (stacks : List (List ℕ)) → FitRows heights stacks → FitRows (take (length stacks) heights) stacks
front_of heights stacks fit =
    let all = same_rows heights stacks fit in
    subst (λ h. FitRows h stacks) (sym (take_all (length stacks) heights (omega arith))) fit

-- no stack is higher than eight
pub front_low : (heights : List ℕ) (stacks : List (List ℕ)) → AllByRecursion (λ height. HasTiers height) heights → FitRows (take (length stacks) heights) stacks → AllByRecursion (λ stack. length stack ≤ 8) stacks
front_low [] [] are fit = tt
front_low (height ∷ heights) [] are fit = tt
front_low [] (s ∷ stacks) are fit = absurd fit
front_low (height ∷ heights) (s ∷ stacks) are fit = (let a = fit.0 in let b = are.0.1 in omega arith, front_low heights stacks are.1 fit.1)

-- a test of it
abbrev pub is_front : List ℕ → List (List ℕ) → Bool
is_front heights [] = true
is_front [] (stack ∷ stacks) = false
is_front (height ∷ heights) (stack ∷ stacks) = nat_le (length stack) height && is_front heights stacks

-- what the test means
pub front_to : (heights : List ℕ) (stacks : List (List ℕ)) → is_front heights stacks ≡ true → FitRows (take (length stacks) heights) stacks
front_to [] [] e = tt
front_to (height ∷ heights) [] e = tt
front_to [] (s ∷ stacks) e = absurd cc
front_to (height ∷ heights) (s ∷ stacks) e = let a = and_parts (nat_le (length s) height) (is_front heights stacks) e in (leb-true (length s) height a.0, front_to heights stacks a.1)

-- and back
pub front_from : (heights : List ℕ) (stacks : List (List ℕ)) → FitRows (take (length stacks) heights) stacks → is_front heights stacks ≡ true
front_from [] [] fit = refl
front_from (height ∷ heights) [] fit = refl
front_from [] (s ∷ stacks) fit = absurd fit
front_from (height ∷ heights) (s ∷ stacks) fit = and_from _ _ (le-leb (length s) height fit.0) (front_from heights stacks fit.1)

-- a row of the heights is no higher than eight
pub height_low : (heights : List ℕ) (i : ℕ) → AllByRecursion (λ height. HasTiers height) heights → i < length heights → get_or heights i 0 ≤ 8
height_low [] i are lt = absurd (omega arith)
height_low (height ∷ heights) zero are lt = are.0.1
height_low (height ∷ heights) (suc i) are lt = height_low heights i are.1 (omega arith)
