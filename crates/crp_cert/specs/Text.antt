-- The text of a certificate's head, line by line. Each line ends with LF.
use Rattle.std.specs.Prelude.{◌≡◌, ◌≤◌, ◌+◌, ◌*◌, ℕ, Bool, true, false, List, [], ◌∷◌, ◌++◌, length, All, Option, Some, None, IfSome, codes, replicate, ⊤}
use Rattle.std.specs.List.{flat_map}
use Rattle.std.specs.Fmt.{decimal}
use Rattle.crp_plan.specs.BayNames.{YardBay, IsYardBay}
use Rattle.crp_plan.specs.Rows.{total, tallest}
use Rattle.crp_plan.specs.Bay.{Problem, IsProblem, cap}
use Rattle.crp_cert.specs.declared.claim.Claim.{Claim}
use Rattle.crp_cert.specs.declared.claim.Claim.TheVariants.{AtLeast, First}
use Rattle.crp_cert.specs.declared.head.Head.{Head}
use Rattle.crp_cert.specs.declared.size.Size.{Size}
use Rattle.crp_cert.specs.declared.version.Version.{Version}
use Rattle.crp_cert.specs.declared.version.Version.TheVariants.{One, Two, Three}

-- each number after a space
abbrev pub spaced : List ℕ → List ℕ
spaced ns = flat_map (λ n. 32 ∷ decimal n) ns

-- a word, numbers, and the end of the line
abbrev pub numbers_line : List ℕ → List ℕ → List ℕ
numbers_line word ns = word ++ (spaced ns ++ 10 ∷ [])

-- the first line
abbrev pub title_line : Version → List ℕ
title_line One = codes "CRP-CERT 1" ++ 10 ∷ []
title_line Two = codes "CRP-CERT 2" ++ 10 ∷ []
title_line Three = codes "CRP-CERT 3" ++ 10 ∷ []

-- the version has a line of heights
abbrev pub has_heights : Version → Bool
has_heights One = false
has_heights Two = true
has_heights Three = true

-- the name of the bay: its block and its number
abbrev pub bay_line : YardBay → List ℕ
bay_line name = codes "bay " ++ (name.block ++ (spaced (name.bay ∷ []) ++ 10 ∷ []))

-- the rows, the largest height of a row, the containers that are to leave, and all containers
abbrev pub size_line : Size → List ℕ
size_line size = numbers_line (codes "size") (size.rows ∷ size.tiers ∷ size.ordered ∷ size.total ∷ [])

-- how high each row may be
abbrev pub heights_line : List ℕ → List ℕ
heights_line heights = numbers_line (codes "heights") heights

-- what a version has of the heights: version 1 no line, since each row is as high as the tiers
abbrev pub stated_heights : Version → List ℕ → List ℕ
stated_heights One heights = []
stated_heights Two heights = heights_line heights
stated_heights Three heights = heights_line heights

-- the ranks of a stack, from bottom to top
abbrev pub row_line : List ℕ → List ℕ
row_line stack = numbers_line (codes "row") stack

-- the relocations that each plan is claimed to have at least
abbrev pub bound : Claim → ℕ
bound (AtLeast least) = least
bound (First least) = least

-- what is claimed: a lower bound, or that the plan has so many relocations and is the first best one
abbrev pub claim_line : Claim → List ℕ
claim_line (AtLeast least) = numbers_line (codes "at least") (least ∷ [])
claim_line (First least) = numbers_line (codes "first") (least ∷ [])

-- the rows that the relocations of a plan go to, or that there is no plan
abbrev pub plan_line : Option (List ℕ) → List ℕ
plan_line None = codes "plan -" ++ 10 ∷ []
plan_line (Some rows) = numbers_line (codes "plan") rows

-- what a size line may say
pub record IsSize (size : Size) : Type 0 where
  pub some_rows : 1 ≤ size.rows
  pub few_rows : size.rows ≤ 12
  pub some_tiers : 1 ≤ size.tiers
  pub few_tiers : size.tiers ≤ 8
  pub ordered_fit : size.ordered ≤ size.total
  pub room : size.total ≤ size.rows * size.tiers

-- what a plan line may say: at most 672 numbers of one or two digits
abbrev pub AreRows : List ℕ → Type 0
AreRows rows = (length rows ≤ 672) × All (λ row. row ≤ 99) rows

-- the size that a problem has
abbrev pub size_of : Problem → Size
size_of p = record { rows = length p.stacks; tiers = tallest p.heights; ordered = p.ordered; total = total p.stacks }

-- the rows of the problem have one height
abbrev pub HasOneHeight : Problem → Type 0
HasOneHeight p = p.heights ≡ replicate (length p.stacks) (tallest p.heights)

-- a text of this version can state the problem: version 1 where the rows have one height, the others always
abbrev pub CanState : Version → Problem → Type 0
CanState One p = HasOneHeight p
CanState Two p = ⊤
CanState Three p = ⊤

-- a text of this version can claim this: version 1 a lower bound alone
abbrev pub CanClaim : Version → Claim → Type 0
CanClaim One (AtLeast least) = ⊤
CanClaim One (First least) = ⊥
CanClaim Two claim = ⊤
CanClaim Three claim = ⊤

-- what a head may say
pub record IsHead (head : Head) : Type 0 where
  pub name : IsYardBay head.bay
  pub problem : IsProblem head.problem
  pub can_state : CanState head.version head.problem
  pub can_claim : CanClaim head.version head.claim
  pub claim : bound head.claim ≤ cap head.problem
  pub plan : IfSome head.plan AreRows

-- the lines down to the plan, in order
abbrev pub head_text : Head → List ℕ
head_text head =
    title_line head.version ++ (bay_line head.bay ++ (size_line (size_of head.problem) ++ (stated_heights head.version head.problem.heights
    ++ (flat_map row_line head.problem.stacks ++ (claim_line head.claim ++ plan_line head.plan)))))

-- the bytes begin with the head's text; what follows it is anything
abbrev pub IsHeadOf : List ℕ → Head → Type 0
IsHeadOf bytes head = IsHead head × ((rest : List ℕ) × (bytes ≡ head_text head ++ rest))

-- the number of the first row's line, from 1
abbrev pub first_row : Version → ℕ
first_row One = 4
first_row Two = 5
first_row Three = 5

-- the number of the first part's line: before it stand the rows, the claim and the plan
abbrev pub first_part : Head → ℕ
first_part head = first_row head.version + length head.problem.stacks + 2
