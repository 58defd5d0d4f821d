-- Members of lists, and beginnings of paths.
use Rattle.std.proofs.Common.{◌≡◌, ℕ, ◌≤◌, ◌⊎◌, inl, inr, ⊎_elim, List, [], ◌∷◌, map, Contains, refl, sym, subst, arith}
use Rattle.std.specs.List.{flat_map}
use Rattle.std.proofs.lemmas.List.Elements.{Contains-append_left, Contains-append_right}
use Rattle.std.proofs.lemmas.Bool.{cases_eq}
use Rattle.crp_bay.proofs.Members.{not_in_nil, in_head, in_tail, in_cons_cases}
use Rattle.crp_tree.specs.Trees.{Begins, least}

-- the image of a member is one of the images
pub in_map : {X Y : Type 0} (f : X → Y) (xs : List X) (x : X) → Contains xs x → Contains (map f xs) (f x)
in_map f [] x c = absurd (not_in_nil x c)
in_map f (y ∷ xs) x c = ⊎_elim
    (λ e. subst (λ z. Contains (f y ∷ map f xs) (f z)) e (in_head (f y) (map f xs)))
    (λ c'. in_tail (f y) (map f xs) (f x) (in_map f xs x c'))
    (in_cons_cases y xs x c)

-- an image is that of a member
pub from_map : {X Y : Type 0} (f : X → Y) (xs : List X) (y : Y) → Contains (map f xs) y → (x : X) × Contains xs x × (f x ≡ y)
from_map f [] y c = absurd (not_in_nil y c)
from_map f (x ∷ xs) y c = ⊎_elim
    (λ e. (x, in_head x xs, e))
    (λ c'. let r = from_map f xs y c' in (r.0, in_tail x xs r.0 r.1, r.2))
    (in_cons_cases (f x) (map f xs) y c)

-- a member of a member's list is in the lists joined
pub in_flat_map : {X Y : Type 0} (f : X → List Y) (xs : List X) (x : X) (y : Y) → Contains xs x → Contains (f x) y → Contains (flat_map f xs) y
in_flat_map f [] x y c d = absurd (not_in_nil x c)
in_flat_map f (z ∷ xs) x y c d = ⊎_elim
    (λ e. Contains-append_left (f z) (flat_map f xs) y (subst (λ w. Contains (f w) y) (sym e) d))
    (λ c'. Contains-append_right (f z) (flat_map f xs) y (in_flat_map f xs x y c' d))
    (in_cons_cases z xs x c)

-- whether a path begins with a name is decided
pub begins_or_not : (path name : List ℕ) → Begins path name ⊎ (Begins path name → ⊥)
begins_or_not path [] = inl (path, refl)
begins_or_not [] (n ∷ name) = inr (λ b. let e = b.1 in cc)
begins_or_not (x ∷ path) (n ∷ name) = ⊎_elim
    (λ e. ⊎_elim
    (λ b. inl (b.0, let r = b.1 in cc))
    (λ no. inr (λ b. no (b.0, let r = b.1 in cc)))
    (begins_or_not path name))
    (λ ne. inr (λ b. ne (let r = b.1 in cc)))
    (cases_eq x n)

-- whether a path begins with one of the names is decided
pub some_or_none : (path : List ℕ) (given : List (List ℕ)) → ((g : List ℕ) × Contains given g × Begins path g) ⊎ ((g : List ℕ) → Contains given g → Begins path g → ⊥)
some_or_none path [] = inr (λ g c b. not_in_nil g c)
some_or_none path (n ∷ given) = ⊎_elim
    (λ b. inl (n, in_head n given, b))
    (λ no. ⊎_elim
    (λ r. inl (r.0, in_tail n given r.0 r.1, r.2))
    (λ none. inr (λ g c b. ⊎_elim (λ e. no (subst (Begins path) (sym e) b)) (λ c'. none g c' b) (in_cons_cases n given g c)))
    (some_or_none path given))
    (begins_or_not path n)

-- the least of the values is below each of them
pub least_under : (most : ℕ) (values : List ℕ) (v : ℕ) → Contains values v → least most values ≤ v
least_under most [] v c = absurd (not_in_nil v c)
least_under most (w ∷ values) v c = ⊎_elim
    (λ e. omega arith)
    (λ c'. let r = least_under most values v c' in omega arith)
    (in_cons_cases w values v c)
