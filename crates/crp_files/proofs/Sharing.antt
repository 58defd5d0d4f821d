-- Roles, one after the other.
use Rattle.std.proofs.Common.{◌≡◌, ◌<◌, ◌≤◌, ◌+◌, ℕ, List, [], ◌∷◌, slice_index_or, refl, sym, ap, ◌∙◌, subst, inl, inr, arith}
use Rattle.std.proofs.Math.Nat.{eq-or-lt_of_le}
use Rattle.crp_files.specs.declared.roles.Role.{Role}
use Rattle.crp_files.specs.declared.roles.Role.TheVariants as role

-- where each stands among all
abbrev pub place : Role → ℕ
place role.YardList = 0
place role.Sizes = 1
place role.Report = 2
place role.Message = 3
place role.Certificates = 4
place role.YardAfter = 5
place role.Page = 6
place role.StandardInput = 7
place role.StandardOutput = 8
place role.StandardError = 9

abbrev all_roles : List Role
all_roles =
    role.YardList ∷ role.Sizes ∷ role.Report ∷ role.Message ∷ role.Certificates ∷ role.YardAfter ∷ role.Page ∷ role.StandardInput ∷ role.StandardOutput ∷ role.StandardError ∷ []

at_place : (r d : Role) → slice_index_or all_roles (place r) d ≡ r
at_place role.YardList d = refl
at_place role.Sizes d = refl
at_place role.Report d = refl
at_place role.Message d = refl
at_place role.Certificates d = refl
at_place role.YardAfter d = refl
at_place role.Page d = refl
at_place role.StandardInput d = refl
at_place role.StandardOutput d = refl
at_place role.StandardError d = refl

place_within : (r : Role) → place r < 10
place_within role.YardList = omega arith
place_within role.Sizes = omega arith
place_within role.Report = omega arith
place_within role.Message = omega arith
place_within role.Certificates = omega arith
place_within role.YardAfter = omega arith
place_within role.Page = omega arith
place_within role.StandardInput = omega arith
place_within role.StandardOutput = omega arith
place_within role.StandardError = omega arith

-- it holds of none of the first so many
abbrev pub NoneBefore : (Role → Type 0) → ℕ → Type 0
NoneBefore Holds n = (r : Role) → place r < n → Holds r → ⊥

pub none_yet : (Holds : Role → Type 0) → NoneBefore Holds 0
none_yet Holds r before holds = omega (arith, before)

pub one_more : (Holds : Role → Type 0) (n : ℕ) (d : Role) → (Holds (slice_index_or all_roles n d) → ⊥) → NoneBefore Holds n → NoneBefore Holds (n + 1)
one_more Holds n d not so_far r before holds = elim (eq-or-lt_of_le {n = place r} {m = n} (omega (arith, before))) [
  | inl same ↦ not (subst Holds (sym (ap (λ (i : ℕ). slice_index_or all_roles i d) (sym same) ∙ at_place r d)) holds)
  | inr earlier ↦ so_far r earlier holds
]

pub none_at_all : (Holds : Role → Type 0) (n : ℕ) → 10 ≤ n → NoneBefore Holds n → (r : Role) → Holds r → ⊥
none_at_all Holds n whole so_far r holds = let within = place_within r in so_far r (omega (arith, whole, within)) holds
