-- Symbols that come piece by piece: what is still to come.
use Rattle.std.specs.Prelude.{◌≡◌, ℕ, zero, suc, ◌+◌, ◌≤◌, List, [], ◌∷◌, ◌++◌, slice_index}
use Rattle.std.specs.List.{AllByRecursion}
use Rattle.std.specs.Fmt.{decimal}
use Rattle.crp_plan.specs.Rows.{occurrences}
use Rattle.crp_plan.specs.Bay.{Position}
use Rattle.crp_chains.specs.Chains.{IsChain, gain}
use Rattle.crp_chains.specs.Named.{family_of}
use Rattle.crp_thinning.specs.declared.reading.Reading.{Reading}
use Rattle.crp_thinning.specs.Symbols.{family_text, Closes}

-- a tree that is to come: the thinned position where it is to fit, and how much it has to show
pub record Task : Type 0 where
  pub place : Position
  pub need : ℕ

-- the text is the symbols of a tree for each of the tasks, one after the other
abbrev pub Owes : List Task → List ℕ → Type 0
Owes [] text = text ≡ []
Owes (task ∷ tasks) text = (here : List ℕ) × (rest : List ℕ) × Closes task.place task.need here × (text ≡ here ++ rest) × Owes tasks rest

-- ranks with a point behind each
abbrev pub points : List ℕ → List ℕ
points [] = []
points (x ∷ xs) = decimal x ++ 46 ∷ points xs

-- the digits of a number that has begun; of 0 none
abbrev pub digits_of : ℕ → List ℕ
digits_of zero = []
digits_of (suc n) = decimal (suc n)

-- what was read of the chain that is read
abbrev pub begun : Reading → List ℕ
begun r = points r.ranks.items ++ digits_of r.number

-- the text ends a family at a position, of which the chains before are read, and goes on with the trees for the tasks: the chain that is read and those to
-- come are chains without a common container, none of which was in a chain before, and gain as much as is still wanted
pub record EndsFamily (s : Position) (r : Reading) (tasks : List Task) (text : List ℕ) : Type 0 where
  pub family : List (List ℕ)
  pub rest : List ℕ
  pub is_text : begun r ++ text ≡ family_text family ++ rest
  pub chains : AllByRecursion (IsChain s) (family_of s family)
  pub apart : (x : ℕ) → slice_index r.seen x + occurrences x family ≤ 1
  pub gains : r.wanted ≤ gain s (family_of s family)
  pub owes : Owes tasks rest

-- what is followed: trees that are to come; a family, where a cut by chains has begun at a position, and then trees; or nothing is to come that would fit
pub data Following : Type 0 where
  Trees : List Task → Following
  Family : Position → Reading → List Task → Following
  Refused : Following

-- the text is what is still to come
abbrev pub Takes : Following → List ℕ → Type 0
Takes (Trees tasks) text = Owes tasks text
Takes (Family s r tasks) text = EndsFamily s r tasks text
Takes Refused text = ⊥
