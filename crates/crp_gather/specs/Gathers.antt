-- When parts are the whole search of a problem, and why they make no certificate where they are not.
use Rattle.std.specs.Prelude.{◌≡◌, ◌≤◌, ℕ, List, [], ◌∷◌, flat_map, All, Contains, ⊤}
use Rattle.crp_plan.specs.Bay.{Problem}
use Rattle.crp_tree.specs.Names.{IsFirst}
use Rattle.crp_tree.specs.Claims.{IsRootOrGiven, times}
use Rattle.crp_tree.specs.Parts.{ProblemPart, given_of, names_of}
use Rattle.crp_gather.specs.declared.fault.GatherFault.{GatherFault}
use Rattle.crp_gather.specs.declared.fault.GatherFault.TheVariants as fault

-- these parts need a part of this name: it is the root, or one of them gives it
abbrev pub Need : List ProblemPart → List ℕ → Type 0
Need parts name = IsRootOrGiven (flat_map given_of parts) name

-- the part is about the problem, and needed
abbrev pub Belongs : Problem → List ProblemPart → ProblemPart → Type 0
Belongs p parts part = (part.problem ≡ p) × Need parts part.name

-- the parts are a whole: each belongs, and each needed name has one
pub record AreWhole (p : Problem) (parts : List ProblemPart) : Type 0 where
  pub belong : All (Belongs p parts) parts
  pub each_one : (name : List ℕ) → Need parts name → times name (names_of parts) ≡ 1

-- two parts have the name
abbrev pub IsDouble : List ProblemPart → List ℕ → Type 0
IsDouble parts name = 2 ≤ times name (names_of parts)

-- the name is needed, and no part has it
abbrev pub IsGap : List ProblemPart → List ℕ → Type 0
IsGap parts name = Need parts name × ¬ Contains (names_of parts) name

-- a part of the name does not belong: it is about another problem, or not needed
pub record IsStranger (p : Problem) (parts : List ProblemPart) (name : List ℕ) : Type 0 where
  pub part : ProblemPart
  pub stands : Contains parts part
  pub named : part.name ≡ name
  pub strange : ¬ Belongs p parts part

-- it holds of no name
abbrev pub IsNever : (List ℕ → Type 0) → Type 0
IsNever Holds = (name : List ℕ) → Holds name → ⊥

-- why parts make no certificate: the first double; or, without one, the first gap; or, without either, the first stranger. It may also be out of memory
abbrev pub IsGatherFault : Problem → List ProblemPart → GatherFault → Type 0
IsGatherFault p parts (fault.Double name) = IsFirst (IsDouble parts) name
IsGatherFault p parts (fault.Missing name) = IsNever (IsDouble parts) × IsFirst (IsGap parts) name
IsGatherFault p parts (fault.Stranger name) = IsNever (IsDouble parts) × IsNever (IsGap parts) × IsFirst (IsStranger p parts) name
IsGatherFault p parts fault.Memory = ⊤

-- the names of the parts are the root and all names that they give, each as often
abbrev pub IsBalanced : List ProblemPart → Type 0
IsBalanced parts = (name : List ℕ) → times name (names_of parts) ≡ times name ([] ∷ flat_map given_of parts)
