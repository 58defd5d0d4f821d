-- A list cut at one of its elements, and what stands before a move.
use Rattle.std.proofs.Common.{◌≡◌, ℕ, zero, suc, List, [], ◌∷◌, ◌++◌, Option, Some, None, IfSome, take, drop, ap}
use Rattle.std.specs.Prelude.{slice_get}

pub cut_at : {A : Type 0} (xs : List A) (k : ℕ) (x : A) → slice_get xs k ≡ Some x → xs ≡ take k xs ++ x ∷ drop (suc k) xs
cut_at [] k x e = absurd cc
cut_at (y ∷ xs) zero x e = (let same : y ≡ x = cc in ap (λ z. z ∷ xs) same)
cut_at (y ∷ xs) (suc k) x e = ap (λ l. y ∷ l) (cut_at xs k x e)

pub where_some : {T : Type 0} (r : Option T) (P Q : T → Type 0) → IfSome r P → ((x : T) → P x → Q x) → IfSome r Q
where_some None P Q p to = tt
where_some (Some x) P Q p to = to x p

pub some_same : {A : Type 0} (x y : A) → Some x ≡ Some y → x ≡ y
some_same x y e = cc
