-- In another order the parts have the same names, give the same names, and are refused for the same.
use Rattle.std.proofs.Common.{◌≡◌, ℕ, inl, inr, List, [], ◌∷◌, flat_map, Contains, sum_by, refl, sym, ◌∙◌, arith}
use Rattle.std.specs.List.Sorted.{IsPermutation}
use Rattle.std.proofs.lemmas.List.Sums.{sum_by-cons}
use Rattle.std.proofs.lemmas.List.Sorted.{sum_by-IsPermutation, Contains-permutation, All-permutation, IsPermutation-map, IsPermutation-sym}
use Rattle.std.proofs.lemmas.List.Elements.{All-weaker}
use Rattle.crp_plan.specs.Bay.{Problem}
use Rattle.crp_tree.specs.Claims.{times}
use Rattle.crp_tree.specs.Parts.{ProblemPart, given_of, names_of}
use Rattle.crp_tree.proofs.Givers.{times-cons, times-append, times_in, in_times}
use Rattle.crp_gather.specs.declared.fault.GatherFault.{GatherFault}
use Rattle.crp_gather.specs.declared.fault.GatherFault.TheVariants as fault
use Rattle.crp_tree.specs.Names.{IsFirst}
use Rattle.crp_gather.specs.Gathers.{Need, Belongs, AreWhole, IsDouble, IsGap, IsStranger, IsGatherFault}
use Rattle.crp_gather.proofs.InOrder.{part_name}

-- a name stands in the list as often as parts have it
times_is : (name : List ℕ) (xs : List ProblemPart) → times name (names_of xs) ≡ sum_by (λ (x : ProblemPart). times name (x.name ∷ [])) xs
times_is name [] = refl
times_is name (x ∷ xs) = omega (arith, times-cons name x.name (names_of xs), times-cons name x.name [], times_is name xs, sum_by-cons (λ (y : ProblemPart). times name (y.name ∷ [])) x xs)

-- so another order changes nothing
pub times_moved : (name : List ℕ) (xs ys : List ProblemPart) → IsPermutation xs ys → times name (names_of ys) ≡ times name (names_of xs)
times_moved name xs ys moved = times_is name ys ∙ sum_by-IsPermutation (λ (x : ProblemPart). times name (x.name ∷ [])) xs ys moved ∙ sym (times_is name xs)

-- and it is given as often as the parts give it
given_is : (name : List ℕ) (xs : List ProblemPart) → times name (flat_map given_of xs) ≡ sum_by (λ (x : ProblemPart). times name (given_of x)) xs
given_is name [] = refl
given_is name (x ∷ xs) = omega (arith, times-append name (given_of x) (flat_map given_of xs), given_is name xs, sum_by-cons (λ (y : ProblemPart). times name (given_of y)) x xs)

given_moved : (name : List ℕ) (xs ys : List ProblemPart) → IsPermutation xs ys → times name (flat_map given_of ys) ≡ times name (flat_map given_of xs)
given_moved name xs ys moved = given_is name ys ∙ sum_by-IsPermutation (λ (x : ProblemPart). times name (given_of x)) xs ys moved ∙ sym (given_is name xs)

-- the needed names stay
pub wanted_moved : (name : List ℕ) (xs ys : List ProblemPart) → IsPermutation xs ys → Need xs name → Need ys name
wanted_moved name xs ys moved (inl e) = inl e
wanted_moved name xs ys moved (inr c) = inr (times_in name (flat_map given_of ys) (omega (arith, given_moved name xs ys moved, in_times name (flat_map given_of xs) c)))

-- the names that parts have stay
pub named_moved : (name : List ℕ) (xs ys : List ProblemPart) → IsPermutation xs ys → Contains (names_of xs) name → Contains (names_of ys) name
named_moved name xs ys moved c = Contains-permutation (names_of xs) (names_of ys) name (IsPermutation-map part_name xs ys moved) c

-- so does each part's place
pub belongs_moved : (p : Problem) (xs ys : List ProblemPart) → IsPermutation xs ys → (x : ProblemPart) → Belongs p xs x → Belongs p ys x
belongs_moved p xs ys moved x b = (b.0, wanted_moved x.name xs ys moved b.1)

-- a whole is one in any order
pub whole_moved : (p : Problem) (xs ys : List ProblemPart) → IsPermutation xs ys → AreWhole p xs → AreWhole p ys
whole_moved p xs ys moved w = record {
  belong = All-permutation (Belongs p ys) xs ys moved (All-weaker (Belongs p xs) (Belongs p ys) (belongs_moved p xs ys moved) xs w.belong);
  each_one = λ name n. times_moved name xs ys moved ∙ w.each_one name (wanted_moved name ys xs (IsPermutation-sym xs ys moved) n);
}

-- what holds of the same names has the same first
pub first_same : (H K : List ℕ → Type 0) (name : List ℕ) → ((n : List ℕ) → H n → K n) → ((n : List ℕ) → K n → H n) → IsFirst H name → IsFirst K name
first_same H K name to from f = record { holds = to name f.holds; first = λ other k. f.first other (from other k) }

pub double_moved : (xs ys : List ProblemPart) → IsPermutation xs ys → (n : List ℕ) → IsDouble xs n → IsDouble ys n
double_moved xs ys moved n d = omega (arith, times_moved n xs ys moved)

pub missing_moved : (xs ys : List ProblemPart) → IsPermutation xs ys → (n : List ℕ) → IsGap xs n → IsGap ys n
missing_moved xs ys moved n m = (wanted_moved n xs ys moved m.0, λ c. m.1 (named_moved n ys xs (IsPermutation-sym xs ys moved) c))

pub stranger_moved : (p : Problem) (xs ys : List ProblemPart) → IsPermutation xs ys → (n : List ℕ) → IsStranger p xs n → IsStranger p ys n
stranger_moved p xs ys moved n s = record {
  part = s.part;
  stands = Contains-permutation xs ys s.part moved s.stands;
  named = s.named;
  strange = λ b. s.strange (belongs_moved p ys xs (IsPermutation-sym xs ys moved) s.part b);
}

-- a refusal is one in any order
pub refusal_moved : (p : Problem) (xs ys : List ProblemPart) (f : GatherFault) → IsPermutation xs ys → IsGatherFault p xs f → IsGatherFault p ys f
refusal_moved p xs ys (fault.Double name) moved r = first_same (IsDouble xs) (IsDouble ys) name (double_moved xs ys moved) (double_moved ys xs (IsPermutation-sym xs ys moved)) r
refusal_moved p xs ys (fault.Missing name) moved r =
    let back = IsPermutation-sym xs ys moved in (
      λ n d. r.0 n (double_moved ys xs back n d),
      first_same (IsGap xs) (IsGap ys) name (missing_moved xs ys moved) (missing_moved ys xs back) r.1,
    )
refusal_moved p xs ys (fault.Stranger name) moved r =
    let back = IsPermutation-sym xs ys moved in (
      λ n d. r.0 n (double_moved ys xs back n d),
      λ n m. r.1 n (missing_moved ys xs back n m),
      first_same (IsStranger p xs) (IsStranger p ys) name (stranger_moved p xs ys moved) (stranger_moved p ys xs back) r.2,
    )
refusal_moved p xs ys fault.Memory moved r = tt
