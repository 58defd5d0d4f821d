-- Names that are needed and not held, and names that are held and not needed.
use Rattle.std.proofs.Common.{◌≡◌, ℕ, ◌<◌, ◌↔◌, List, [], length, take, get_or, All, Contains, sym, ◌∙◌, subst}
use Rattle.std.specs.List.Sorted.{IsSorted}
use Rattle.std.proofs.lemmas.List.{get_or_default}
use Rattle.std.proofs.lemmas.List.Elements.{All-contains, Contains-get_or}
use Rattle.crp_tree.specs.Names.{IsFirst}
use Rattle.crp_tree.specs.Claims.{IsRootOrGiven}
use Rattle.crp_tree.proofs.InOrder.{name_cmp, first_is_first}
use Rattle.crp_checker.specs.Needs.{IsWithoutPart, IsWithoutNeed}

-- at this index stands the first of those wanted that is not held
abbrev pub IsAbsentAt : List (List ℕ) → List (List ℕ) → ℕ → Type 0
IsAbsentAt wanted held i = (i < length wanted) × All (Contains held) (take i wanted) × (Contains held (get_or wanted i []) → ⊥)

-- the same of equal lists
pub absent_in : (wanted held wanted' held' : List (List ℕ)) (i : ℕ) → wanted ≡ wanted' → held ≡ held' → IsAbsentAt wanted held i → IsAbsentAt wanted' held' i
absent_in wanted held wanted' held' i d e a = subst (λ w. IsAbsentAt w held' i) d (subst (λ h. IsAbsentAt wanted h i) e a)

-- the least needed name without a part
pub least_missing : (names given needed : List (List ℕ)) (i : ℕ) (name : List ℕ) → ((x : List ℕ) → Contains needed x ↔ IsRootOrGiven given x) → IsSorted name_cmp needed →
    name ≡ get_or needed i name → IsAbsentAt needed names i → IsFirst (IsWithoutPart names given) name
least_missing names given needed i name all sorted is absent =
    let lt = absent.0 in
    let before = absent.1 in
    let none = absent.2 in
    let same : get_or needed i [] ≡ name = get_or_default needed i [] name lt ∙ sym is in
    record {
      holds = ((all name).0 (subst (Contains needed) (sym is) (Contains-get_or needed i name lt)), λ c. none (subst (Contains names) (sym same) c));
      first = λ other w. first_is_first names needed i name other sorted lt before is ((all other).1 w.0) w.1;
    }

-- no needed name is without a part, where each is among those held
pub none_missing : (names given needed : List (List ℕ)) → ((x : List ℕ) → Contains needed x ↔ IsRootOrGiven given x) → All (Contains names) needed → (other : List ℕ) → IsWithoutPart names given other → ⊥
none_missing names given needed all held other w = w.1 (All-contains (Contains names) needed other held ((all other).1 w.0))

-- the least name of a part that is not needed
pub least_unneeded : (names given needed : List (List ℕ)) (i : ℕ) (name : List ℕ) → ((x : List ℕ) → Contains needed x ↔ IsRootOrGiven given x) → IsSorted name_cmp names →
    name ≡ get_or names i name → IsAbsentAt names needed i → IsFirst (IsWithoutNeed names given) name
least_unneeded names given needed i name all sorted is absent =
    let lt = absent.0 in
    let before = absent.1 in
    let none = absent.2 in
    let same : get_or names i [] ≡ name = get_or_default names i [] name lt ∙ sym is in
    record {
      holds = (subst (Contains names) (sym is) (Contains-get_or names i name lt), λ n. none (subst (Contains needed) (sym same) ((all name).1 n)));
      first = λ other w. first_is_first needed names i name other sorted lt before is w.0 (λ c. w.1 ((all other).0 c));
    }

-- the names that are held are the needed ones, where each is among the others
pub same_names : (names given needed : List (List ℕ)) → ((x : List ℕ) → Contains needed x ↔ IsRootOrGiven given x) → All (Contains names) needed → All (Contains needed) names →
    (name : List ℕ) → Contains names name ↔ IsRootOrGiven given name
same_names names given needed all forth back name =
    (λ c. (all name).0 (All-contains (Contains needed) names name back c), λ n. All-contains (Contains names) needed name forth ((all name).1 n))
