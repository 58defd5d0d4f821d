-- Lists each of whose members stands before all later ones.
use Rattle.std.proofs.Common.{ℕ, suc, ◌<◌, ⊎_elim, List, [], ◌∷◌, ◌++◌, map, Contains, All, subst, arith}
use Rattle.std.specs.List.{AllPairs}
use Rattle.std.proofs.lemmas.List.Elements.{Contains-append_cases, All-cons, All-nil}
use Rattle.std.proofs.lemmas.List.Kept.{AllPairs-cons, AllPairs-from_increasing}
use Rattle.crp_plan.specs.Bay.{Position}
use Rattle.crp_bay.specs.Positions.{targets}
use Rattle.crp_bay.proofs.Members.{in_head, in_tail}
use Rattle.crp_bay.proofs.Reaching.{targets_rise}

-- each member stands before all later ones
abbrev pub InOrder : {A : Type 0} → (A → A → Type 0) → List A → Type 0
InOrder R [] = Unit {0}
InOrder R (x ∷ xs) = ((y : _) → Contains xs y → R x y) × InOrder R xs

-- two lists in order, where each member of the first stands before all of the second, are in order as one
pub in_order_append : {A : Type 0} (R : A → A → Type 0) (xs ys : List A) → InOrder R xs → InOrder R ys → ((x y : A) → Contains xs x → Contains ys y → R x y) → InOrder R (xs ++ ys)
in_order_append R [] ys a b across = b
in_order_append R (x ∷ xs) ys a b across = (
  λ y c. ⊎_elim (λ h. a.0 y h) (λ h. across x y (in_head x xs) h) (Contains-append_cases xs ys y c),
  in_order_append R xs ys a.1 b (λ u v c d. across u v (in_tail x xs u c) d),
)

-- what holds of each member holds of all
pub from_members : {A : Type 0} (P : A → Type 0) (xs : List A) → ((x : A) → Contains xs x → P x) → All P xs
from_members P [] h = All-nil P
from_members P (x ∷ xs) h = All-cons P x xs (h x (in_head x xs)) (from_members P xs (λ y c. h y (in_tail x xs y c)))

-- the same, as it is said of lists
pub all_pairs : {A : Type 0} (R : A → A → Type 0) (xs : List A) → InOrder R xs → AllPairs R xs
all_pairs R [] h = λ i j d lt within. absurd (omega arith)
all_pairs R (x ∷ xs) h = AllPairs-cons R x xs (from_members (R x) xs h.0) (all_pairs R xs h.1)

-- and the other way round
pub in_order : {A : Type 0} (R : A → A → Type 0) (xs : List A) → AllPairs R xs → InOrder R xs
in_order R [] h = tt
in_order R (x ∷ xs) h = (
  λ y c. let k : ℕ = c.0 in let lt = c.1 in subst (R x) c.2 (h 0 (suc k) y (omega arith) (omega arith)),
  in_order R xs (λ i j d lt within. h (suc i) (suc j) d (omega arith) (omega arith)),
)

-- what is made of a list in order is in order
pub in_order_map : {A C : Type 0} (R : C → C → Type 0) (f : A → C) (xs : List A) → AllPairs (λ x y. R (f x) (f y)) xs → AllPairs R (map f xs)
in_order_map R f [] h = λ i j d lt within. absurd (omega arith)
in_order_map R f (x ∷ xs) h =
    let o = in_order (λ a b. R (f a) (f b)) (x ∷ xs) h in
    AllPairs-cons R (f x) (map f xs) (images (R (f x)) f xs o.0) (in_order_map R f xs (all_pairs (λ a b. R (f a) (f b)) xs o.1))
  where
    images : {A C : Type 0} (P : C → Type 0) (f : A → C) (xs : List A) → ((x : A) → Contains xs x → P (f x)) → All P (map f xs)
    images P f [] h = All-nil P
    images P f (x ∷ xs) h = All-cons P (f x) (map f xs) (h x (in_head x xs)) (images P f xs (λ y c. h y (in_tail x xs y c)))

-- the legal rows rise
pub targets_in_order : (s : Position) → InOrder ◌<◌ (targets s)
targets_in_order s = in_order ◌<◌ (targets s) (AllPairs-from_increasing (targets s) (targets_rise s))
