-- A small bay: two rows of two tiers, and three containers, of which two leave.
use Rattle.std.specs.Prelude.{ℕ, List, [], ◌∷◌, ◌++◌, flat_map, Some, codes}
use Rattle.crp_plan.specs.Bay.{Problem}
use Rattle.crp_plan.specs.BayNames.{YardBay}
use Rattle.crp_tree.specs.Tree.{CutL}
use Rattle.crp_cert.specs.declared.claim.Claim.TheVariants.{AtLeast}
use Rattle.crp_cert.specs.declared.head.Head.{Head}
use Rattle.crp_cert.specs.declared.script.Script.{Script}
use Rattle.crp_cert.specs.declared.version.Version.TheVariants.{One}

-- lines, each ended by LF
abbrev pub lines : List (List ℕ) → List ℕ
lines list = flat_map (λ line. line ++ 10 ∷ []) list

-- container 3 stands on container 1, and container 2 stands alone
abbrev pub small : Problem
small = record { heights = 2 ∷ 2 ∷ []; ordered = 2; stacks = (1 ∷ 3 ∷ []) ∷ (2 ∷ []) ∷ [] }

-- bay 1 of block A
abbrev pub first_bay : YardBay
first_bay = record { block = codes "A"; bay = 1 }

-- the head of a certificate of the small bay, with a plan that puts container 3 onto container 2 and back
abbrev pub small_head : Head
small_head = record { version = One; bay = first_bay; problem = small; claim = AtLeast 2; plan = Some (2 ∷ 1 ∷ []) }

-- its lines
abbrev pub head_lines : List (List ℕ)
head_lines = codes "CRP-CERT 1" ∷ codes "bay A 1" ∷ codes "size 2 2 2 3" ∷ codes "row 1 3" ∷ codes "row 2" ∷ codes "at least 2" ∷ codes "plan 2 1" ∷ []

-- a certificate of the small bay: its head, and one part, a cut by the look-ahead bound at the empty path
abbrev pub small_script : Script
small_script = record { head = small_head; parts = record { name = []; tree = CutL } ∷ [] }

-- its lines
abbrev pub script_lines : List (List ℕ)
script_lines = head_lines ++ codes "part /: L" ∷ codes "end 1" ∷ []
