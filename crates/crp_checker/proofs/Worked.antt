-- Worked certificates, by the definitions.
use Rattle.std.proofs.Common.{◌≡◌, ◌≢◌, ℕ, inl, inr, List, [], ◌∷◌, ◌++◌, All, Some, None, codes, refl, arith, lit<}
use Rattle.std.proofs.lemmas.List.Elements.{All-from_recursion}
use Rattle.crp_plan.specs.Bay.{Problem, Position, start, cap}
use Rattle.crp_bay.specs.Positions.{settled, targets}
use Rattle.crp_tree.specs.Tree.{CutB, CutL, no_trees, one_and}
use Rattle.crp_checker.specs.declared.verdict.Verdict.TheVariants.{Optimal, NoPlan, Bounds}
use Rattle.crp_tree.specs.Trees.{Node, nodes_of_each}
use Rattle.crp_checker.specs.Nodes.{IsLow, IsFirstWrong}
use Rattle.crp_checker.specs.Verdicts.{IsVerdictOf}
use Rattle.crp_checker.specs.Files.{BeginsWithTexts}

-- six containers in three rows of three tiers, and the position before the first relocation
abbrev six : Problem
six = record { heights = 3 ∷ 3 ∷ 3 ∷ []; ordered = 6; stacks = (1 ∷ 5 ∷ 4 ∷ []) ∷ (6 ∷ []) ∷ (3 ∷ 2 ∷ []) ∷ [] }

abbrev before : Position
before = settled (start six)

-- below the root: a cut by the blocking bound at row 2, one by the look-ahead bound at row 3
abbrev blocking_first : List Node
blocking_first = nodes_of_each [] before (targets before) (one_and CutB (one_and CutL no_trees))

-- where at least 3 is claimed, the first of them is the first that is wrong; the branch above is symbol 1, so it is symbol 2 of the part
first_is_low : IsFirstWrong (λ path. 3) (IsLow (λ path. 3)) blocking_first 1
first_is_low = record {
  before = [];
  node = record { path = 2 ∷ []; place = _; mark = _ };
  after = _;
  list_is = refl;
  number = refl;
  right = tt;
  wrong = (refl, lit< tt);
}

-- a plan with as many relocations as the bound; the bound at the cap; a bound below a plan
three_is_best : IsVerdictOf 3 (cap six) (Some 3) (Optimal 3)
three_is_best = (refl, refl)

none_at_the_cap : IsVerdictOf 5 5 None NoPlan
none_at_the_cap = (λ e. cc, refl)

between_two_and_three : IsVerdictOf 2 (cap six) (Some 3) (Bounds 2 (Some 3))
between_two_and_three = (λ e. let n : ◌≡◌ {A = ℕ} 3 2 = cc in omega arith, λ e. omega arith, refl, refl)

-- bytes without LF
title : All (λ b. b ≢ 10) (codes "CRP")
title = All-from_recursion (λ b. b ≢ 10) (codes "CRP") (λ e. omega arith, (λ e. omega arith, (λ e. omega arith, tt)))

last : All (λ b. b ≢ 10) (codes "end 1")
last = All-from_recursion (λ b. b ≢ 10) (codes "end 1") (λ e. omega arith, (λ e. omega arith, (λ e. omega arith, (λ e. omega arith, (λ e. omega arith, tt)))))

rest : All (λ b. b ≢ 10) (codes "end 2")
rest = All-from_recursion (λ b. b ≢ 10) (codes "end 2") (λ e. omega arith, (λ e. omega arith, (λ e. omega arith, (λ e. omega arith, (λ e. omega arith, tt)))))

-- a file of one certificate, down to its line that begins with `end `, and of a rest that is one more
one_and_a_rest : BeginsWithTexts (codes "CRP" ++ (10 ∷ codes "end 1") ++ (10 ∷ codes "end 2")) ((codes "CRP" ++ (10 ∷ codes "end 1") ++ (10 ∷ [])) ∷ codes "end 2" ∷ []) []
one_and_a_rest = (
  codes "end 2",
  refl,
  inl (record {
    lines = (codes "CRP" ++ (10 ∷ [])) ∷ [];
    last = codes "end 1" ++ (10 ∷ []);
    others = (record { is_line = record { body = codes "CRP"; one_line = title; is = refl }; other = λ b. let e = b.1 in cc }, tt);
    is_line = record { body = codes "end 1"; one_line = last; is = refl };
    is_end = (codes "1" ++ (10 ∷ []), refl);
    is = refl;
  }),
  (
    [],
    refl,
    inr (record { lines = []; rest = codes "end 2"; others = tt; part_line = rest; is = refl; some_bytes = λ e. cc }, refl),
    refl,
  ),
)
