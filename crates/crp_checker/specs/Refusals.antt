-- Why a certificate is refused: the first fault of its text, or else of what it claims.
use Rattle.std.specs.Prelude.{◌≡◌, ℕ, List, ◌∷◌, ◌++◌, length, map, Contains, Option, Some, IfSome, option_map, ⊤}
use Rattle.std.specs.List.{AllByRecursion}
use Rattle.crp_plan.specs.Bay.{Problem}
use Rattle.crp_plan.specs.Faults.{IsPlanPath, IsPlanFault}
use Rattle.crp_tree.specs.Names.{IsFirst}
use Rattle.crp_tree.specs.Trees.{Node}
use Rattle.crp_tree.specs.Claims.{Part, nodes_in, IsNeeded, names}
use Rattle.crp_cert.specs.declared.claim.Claim.{Claim}
use Rattle.crp_cert.specs.declared.claim.Claim.TheVariants.{AtLeast, First}
use Rattle.crp_cert.specs.declared.script.Script.{Script}
use Rattle.crp_cert.specs.Script.{IsScriptOf}
use Rattle.crp_cert.specs.ScriptFaults.{IsFirstFaultOfScript}
use Rattle.crp_checker.specs.declared.refused.Refused.{Refused}
use Rattle.crp_checker.specs.declared.refused.Refused.TheVariants as refused
use Rattle.crp_checker.specs.Nodes.{need_of, IsLow, IsAtEnd, IsUnshown, IsRight, IsFirstWrong}
use Rattle.crp_checker.specs.AcceptedTexts.{IsWanted}

-- the name of a part, and its nodes in the order of their symbols
pub record NamedNodes : Type 0 where
  pub name : List ℕ
  pub nodes : List Node

abbrev pub named_nodes : Problem → Part → NamedNodes
named_nodes p part = record { name = part.name; nodes = nodes_in p part }

-- the names and nodes of parts
abbrev pub nodes_by_name : Problem → List Part → List NamedNodes
nodes_by_name p parts = map (named_nodes p) parts

-- no node of the part is wrong
abbrev pub IsRightPart : (List ℕ → ℕ) → NamedNodes → Type 0
IsRightPart need part = AllByRecursion (IsRight need) part.nodes

-- part by part and symbol by symbol, the first wrong node is that of symbol number k, from 1, of the part with this name, and it is wrong
-- in this way
pub record IsFirstWrongNode (need : List ℕ → ℕ) (Wrong : Node → Type 0) (parts : List NamedNodes) (name : List ℕ) (k : ℕ) : Type 0 where
  pub before : List NamedNodes
  pub part : NamedNodes
  pub after : List NamedNodes
  pub parts_are : parts ≡ before ++ part ∷ after
  pub named : part.name ≡ name
  pub right : AllByRecursion (IsRightPart need) before
  pub first : IsFirstWrong need Wrong part.nodes k

-- what each cut of a script needs
abbrev pub need_in : Script → List ℕ → ℕ
need_in script = need_of script.head.claim script.head.plan

-- the nodes of a script's parts
abbrev pub nodes_of_script : Script → List NamedNodes
nodes_of_script script = nodes_by_name script.head.problem script.parts

-- no node of any part is wrong
abbrev pub AreRightParts : Script → Type 0
AreRightParts script = AllByRecursion (IsRightPart (need_in script)) (nodes_of_script script)

-- the first wrong node is wrong in this way
abbrev pub IsFirstWrongIn : Script → (Node → Type 0) → List ℕ → ℕ → Type 0
IsFirstWrongIn script Wrong name k = IsFirstWrongNode (need_in script) Wrong (nodes_of_script script) name k

-- a part of this name is needed, and there is none
abbrev pub IsMissing : Script → List ℕ → Type 0
IsMissing script name = IsNeeded script.head.problem script.parts name × ¬ Contains (names script.parts) name

-- there is a part of this name, and it is not needed
abbrev pub IsUnneeded : Script → List ℕ → Type 0
IsUnneeded script name = Contains (names script.parts) name × ¬ IsNeeded script.head.problem script.parts name

-- where the first best plan is claimed, there is a plan, of as many relocations as the bound
abbrev pub HasItsPlan : Claim → Option (List ℕ) → Type 0
HasItsPlan (AtLeast least) plan = ⊤
HasItsPlan (First least) plan = option_map length plan ≡ Some least

-- the problem is the one that is asked for, if one is; the plan, if there is one, is complete and legal; and the claim has its plan
pub record HasRightHead (wanted : Option Problem) (script : Script) : Type 0 where
  pub as_wanted : IsWanted wanted script.head.problem
  pub plan_is : IfSome script.head.plan (IsPlanPath script.head.problem)
  pub its_plan : HasItsPlan script.head.claim script.head.plan

-- what is wrong with the claim of a script, where all that is looked at before is right: the problem, the plan, that the claim has its plan, the
-- nodes, the needed names without a part, the parts that are not needed
abbrev pub IsFirstWrongClaim : Option Problem → Script → Refused → Type 0
IsFirstWrongClaim wanted script (refused.Cert fault) = ⊥
IsFirstWrongClaim wanted script refused.OtherProblem = ¬ IsWanted wanted script.head.problem
IsFirstWrongClaim wanted script (refused.Plan fault) =
    IsWanted wanted script.head.problem × ((rows : List ℕ) × (script.head.plan ≡ Some rows) × IsPlanFault script.head.problem rows fault)
IsFirstWrongClaim wanted script refused.NoFirstPlan =
    IsWanted wanted script.head.problem × IfSome script.head.plan (IsPlanPath script.head.problem) × ¬ HasItsPlan script.head.claim script.head.plan
IsFirstWrongClaim wanted script (refused.Low part symbol) = HasRightHead wanted script × IsFirstWrongIn script (IsLow (need_in script)) part symbol
IsFirstWrongClaim wanted script (refused.Finished part symbol) = HasRightHead wanted script × IsFirstWrongIn script IsAtEnd part symbol
IsFirstWrongClaim wanted script (refused.Unshown part symbol) = HasRightHead wanted script × IsFirstWrongIn script (IsUnshown (need_in script)) part symbol
IsFirstWrongClaim wanted script (refused.Missing name) = HasRightHead wanted script × AreRightParts script × IsFirst (IsMissing script) name
IsFirstWrongClaim wanted script (refused.Unneeded name) =
    HasRightHead wanted script × AreRightParts script × ((other : List ℕ) → IsMissing script other → ⊥) × IsFirst (IsUnneeded script) name
IsFirstWrongClaim wanted script refused.Memory = ⊥

-- why the bytes are refused: the first fault of the text, or, where they are the text of a script, what is wrong with its claim
abbrev pub IsRefusal : Option Problem → List ℕ → Refused → Type 0
IsRefusal wanted bytes (refused.Cert fault) = IsFirstFaultOfScript bytes fault
IsRefusal wanted bytes r = (script : Script) × IsScriptOf bytes script × IsFirstWrongClaim wanted script r
