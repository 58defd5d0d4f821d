-- Holding the names that parts have against those that are needed. No public clause cites this module.
use Rattle.std.specs.Prelude.{ℕ, List, Contains, ⊤}
use Rattle.crp_tree.specs.Names.{IsFirst}
use Rattle.crp_tree.specs.Claims.{IsRootOrGiven}
use Rattle.crp_checker.specs.declared.refused.Refused.{Refused}
use Rattle.crp_checker.specs.declared.refused.Refused.TheVariants as refused

-- the name is needed, and not held
abbrev pub IsWithoutPart : List (List ℕ) → List (List ℕ) → List ℕ → Type 0
IsWithoutPart names given name = IsRootOrGiven given name × ¬ Contains names name

-- the name is held, and not needed
abbrev pub IsWithoutNeed : List (List ℕ) → List (List ℕ) → List ℕ → Type 0
IsWithoutNeed names given name = Contains names name × ¬ IsRootOrGiven given name

-- why names are refused
abbrev pub IsNamesRefusal : List (List ℕ) → List (List ℕ) → Refused → Type 0
IsNamesRefusal names given (refused.Missing name) = IsFirst (IsWithoutPart names given) name
IsNamesRefusal names given (refused.Unneeded name) = ((other : List ℕ) → IsWithoutPart names given other → ⊥) × IsFirst (IsWithoutNeed names given) name
IsNamesRefusal names given refused.Memory = ⊤
IsNamesRefusal names given r = ⊥
