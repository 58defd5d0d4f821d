-- The problems of the first bays alone.
use Rattle.std.proofs.Common.{◌≡◌, ◌<◌, ◌∙◌, ◌||◌, ℕ, zero, suc, Bool, true, false, List, [], ◌∷◌, ◌++◌, map, take, drop, refl, sym, ap, subst, arith}
use Rattle.std.specs.Prelude.{filter}
use Rattle.std.specs.List.{AllByRecursion, IsDistinct, list_any}
use Rattle.std.proofs.lemmas.List.{take-append-drop}
use Rattle.crp_plan.specs.BayNames.{same_bay}
use Rattle.crp_sizes.proofs.Bays.{same_bay_self}
use Rattle.crp_yard.specs.Inventory.{Inventory, IsYard}
use Rattle.crp_movins.specs.LoadOrders.{LoadOrders}
use Rattle.crp_order.specs.declared.bay_problem.BayProblem.{BayProblem}
use Rattle.crp_order.specs.BayProblems.{problems_of}
use Rattle.crp_order.specs.OfBays.{is_chosen}
use Rattle.crp_order.proofs.ChosenSteps.{problems-chosen, absent-chosen}
use Rattle.crp_order.proofs.NamedSteps.{all_once}
use Rattle.crp_said.proofs.Bytes.{all_weaker}
use Rattle.crp_audit.specs.Headline.{handed, numbers_in}
use Rattle.crp_audit.specs.Part.{first_names, first_sequence}

-- ---- a test that some pass and others do not

filter_split : (p : BayProblem → Bool) (xs ys : List BayProblem) → AllByRecursion (λ x. p x ≡ true) xs → AllByRecursion (λ y. p y ≡ false) ys → filter p (xs ++ ys) ≡ xs
filter_split p [] [] is not_is = refl
filter_split p [] (y ∷ ys) is not_is = rw (not_is.0) (filter_split p [] ys is not_is.1)
filter_split p (x ∷ xs) ys is not_is = rw (is.0) (ap (λ l. x ∷ l) (filter_split p xs ys is.1 not_is))

-- the bay has the name of one of these
abbrev has_one : List BayProblem → BayProblem → Bool
has_one xs y = list_any (λ other. same_bay other y.bay) (map (λ made. made.bay) xs)

or_right : (a b : Bool) → b ≡ true → (a || b) ≡ true
or_right true b e = refl
or_right false b e = e

neither : (a b : Bool) → a ≡ false → b ≡ false → (a || b) ≡ false
neither false b e k = k
neither true b e k = cc

each_has : (xs : List BayProblem) → AllByRecursion (λ x. has_one xs x ≡ true) xs
each_has [] = tt
each_has (x ∷ xs) = (
  rw (same_bay_self x.bay) refl,
  all_weaker (λ y. has_one xs y ≡ true) (λ y. has_one (x ∷ xs) y ≡ true) xs (λ y e. or_right (same_bay x.bay y.bay) (has_one xs y) e) (each_has xs),
)

none_has : (ys : List BayProblem) → AllByRecursion (λ y. has_one [] y ≡ false) ys
none_has [] = tt
none_has (y ∷ ys) = (refl, none_has ys)

apart : (x : BayProblem) (xs ys : List BayProblem) → AllByRecursion (λ other. same_bay x.bay other ≡ false) (map (λ made. made.bay) (xs ++ ys)) → AllByRecursion (λ y. has_one xs y ≡ false) ys
    → AllByRecursion (λ y. has_one (x ∷ xs) y ≡ false) ys
apart x xs ys other more = both ys (behind xs other) more
  where
    behind : (zs : List BayProblem) → AllByRecursion (λ other. same_bay x.bay other ≡ false) (map (λ made. made.bay) (zs ++ ys)) → AllByRecursion (λ other. same_bay x.bay other ≡ false) (map (λ made. made.bay) ys)
    behind [] all = all
    behind (z ∷ zs) all = behind zs all.1

    both : (ys : List BayProblem) → AllByRecursion (λ other. same_bay x.bay other ≡ false) (map (λ made. made.bay) ys) → AllByRecursion (λ y. has_one xs y ≡ false) ys
        → AllByRecursion (λ y. has_one (x ∷ xs) y ≡ false) ys
    both [] one two = tt
    both (y ∷ ys) one two = (neither (same_bay x.bay y.bay) (has_one xs y) one.0 two.0, both ys one.1 two.1)

others_have : (xs ys : List BayProblem) → IsDistinct same_bay (map (λ made. made.bay) (xs ++ ys)) → AllByRecursion (λ y. has_one xs y ≡ false) ys
unfolding IsDistinct
others_have [] ys once = none_has ys
others_have (x ∷ xs) ys once = apart x xs ys once.0 (others_have xs ys once.1)

-- ---- the first of several bays

chosen_first : (bays : ℕ) (all : List BayProblem) → IsDistinct same_bay (map (λ made. made.bay) all) → 0 < bays
    → filter (λ made. is_chosen (map (λ other. other.bay) (take bays all)) made.bay) all ≡ take bays all
chosen_first zero all once some = absurd (omega arith)
chosen_first (suc bays) [] once some = refl
chosen_first (suc bays) (first ∷ all) once some =
    let front : List BayProblem = first ∷ take bays all in
    let parts : front ++ drop bays all ≡ first ∷ all = ap (λ l. first ∷ l) (take-append-drop bays all) in
    ap (filter (has_one front)) (sym parts)
    ∙ filter_split (has_one front) front (drop bays all) (each_has front)
    (others_have front (drop bays all) (subst (λ l. IsDistinct same_bay (map (λ made. made.bay) l)) (sym parts) once))

pub problems_first : (bays : ℕ) (yard : Inventory) (sequence : List (List ℕ)) → IsYard yard → 0 < bays
    → problems_of yard (first_sequence bays yard sequence) ≡ take bays (problems_of yard sequence)
problems_first bays yard sequence is some =
    problems-chosen (first_names bays yard sequence) yard sequence is
    ∙ chosen_first bays (problems_of yard sequence) (all_once yard sequence (problems_of yard sequence) is refl) some

pub numbers_same : (bays : ℕ) (yard : Inventory) (orders : LoadOrders) (sequence : List (List ℕ)) (report certificates : List ℕ)
    → numbers_in (handed yard orders (first_sequence bays yard sequence) report certificates) ≡ numbers_in (handed yard orders sequence report certificates)
numbers_same bays yard orders sequence report certificates =
    let same = absent-chosen (first_names bays yard sequence) yard sequence in rw same refl
