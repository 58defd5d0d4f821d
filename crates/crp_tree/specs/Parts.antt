-- Parts of the search of a problem with the floors that they show, and the certificates that they make.
use Rattle.std.specs.Prelude.{◌≡◌, ℕ, ◌≤◌, ◌↔◌, List, map, All, AllPairs, Contains, Option}
use Rattle.crp_plan.specs.Bay.{Problem, IsProblem, cap}
use Rattle.crp_tree.specs.Tree.{Tree}
use Rattle.crp_tree.specs.Names.{Precedes}
use Rattle.crp_tree.specs.Trees.{Node, cuts, branches, least_value, Shows}
use Rattle.crp_tree.specs.Claims.{Part, IsPart, IsNeeded, Claimed, nodes_in, given_by}

-- a part of the search of a problem: the path that it stands at, its tree, and the floor that it shows
pub record ProblemPart : Type 0 where
  pub problem : Problem
  pub name : List ℕ
  pub tree : Tree
  pub floor : ℕ

-- its name and its tree
abbrev pub part_of : ProblemPart → Part
part_of x = record { name = x.name; tree = x.tree }

-- its nodes
abbrev pub nodes_of : ProblemPart → List Node
nodes_of x = nodes_in x.problem (part_of x)

-- the names that it gives to other parts
abbrev pub given_of : ProblemPart → List (List ℕ)
given_of x = given_by x.problem (part_of x)

-- its cuts
abbrev pub cuts_in : ProblemPart → List Node
cuts_in x = cuts (nodes_of x)

-- its branches
abbrev pub branches_in : ProblemPart → List Node
branches_in x = branches (nodes_of x)

-- what a part keeps: it is a part of its problem, its floor is the least value of its cuts, or the cap where none is below that, and it shows its floor
pub record IsKeptPart (x : ProblemPart) : Type 0 where
  pub is_problem : IsProblem x.problem
  pub is_part : IsPart x.problem (part_of x)
  pub floor_is : x.floor ≡ least_value (cap x.problem) (nodes_of x)
  pub shows : Shows x.problem x.name (given_of x) x.floor

-- what a part in memory keeps: that, and the names that it gives
pub record IsPartGiving (x : ProblemPart) (given : List (List ℕ)) : Type 0 where
  pub kept : IsKeptPart x
  pub given_is : given ≡ given_of x

-- the number is the least of the list: it stands there, and none is below it
pub record IsLeast (number : ℕ) (list : List ℕ) : Type 0 where
  pub stands : Contains list number
  pub lowest : All (λ other. number ≤ other) list

-- parts, and the lower bound that they show together
pub record Certificate : Type 0 where
  pub parts : List ProblemPart
  pub lower : ℕ

-- the names of the parts
abbrev pub names_of : List ProblemPart → List (List ℕ)
names_of parts = map (λ x. x.name) parts

-- the floors of the parts
abbrev pub floors_of : List ProblemPart → List ℕ
floors_of parts = map (λ x. x.floor) parts

-- what a certificate keeps: the parts rise by name, and the bound is the least floor
pub record IsCertificate (c : Certificate) : Type 0 where
  pub rising : AllPairs Precedes (names_of c.parts)
  pub lower_is : IsLeast c.lower (floors_of c.parts)

-- the certificate is about the problem, and its parts are the needed ones
pub record IsAbout (p : Problem) (cert : Certificate) : Type 0 where
  pub is_problem : IsProblem p
  pub certificate : IsCertificate cert
  pub of_problem : All (λ part. part.problem ≡ p) cert.parts
  pub kept : All IsKeptPart cert.parts
  pub as_needed : (name : List ℕ) → Contains (names_of cert.parts) name ↔ IsNeeded p (map part_of cert.parts) name

-- what the certificate claims of the problem, with a plan or none
abbrev pub claimed : Problem → Certificate → Option (List ℕ) → Claimed
claimed p cert plan = record { problem = p; lower = cert.lower; plan = plan; parts = map part_of cert.parts }
