-- Plain facts, of no subject.
use Rattle.std.proofs.Common.{Result, Ok, Err, MatchResult, IfErr, Option, None, Some, MatchOption, refl, ◌≡◌, ◌≢◌, ◌⊎◌, ℕ, ◌≤◌, ◌==◌, All, Bool, true, false, List, [], ◌∷◌, inl, inr, arith}
use Rattle.std.specs.Prelude.{if◌then◌else◌, nat_le}
use Rattle.std.proofs.lemmas.List.Elements.{All-from_recursion}
use Rattle.std.specs.List.{AllByRecursion}
use Rattle.std.proofs.lemmas.Bool.Decides.{nat_tests}

-- one of two facts, where the other does not hold
pub left_of : {A B : Type 0} → (B → ⊥) → A ⊎ B → A
left_of not_b (inl a) = a
left_of not_b (inr b) = absurd (not_b b)

-- no byte of these is LF, as a test
abbrev pub is_line : List ℕ → Bool
is_line [] = true
is_line (b ∷ body) = if b == 10 then false else is_line body

pub one_line : (body : List ℕ) → is_line body ≡ true → AllByRecursion (λ b. b ≢ 10) body
one_line [] is = tt
one_line (b ∷ body) is = (λ e. absurd (grind (arith, nat_tests)), one_line body (grind (arith, nat_tests)))

-- no byte of these is below 0x20, as a test
abbrev pub is_printed : List ℕ → Bool
is_printed [] = true
is_printed (b ∷ name) = if nat_le 32 b then is_printed name else false

printed_each : (name : List ℕ) → is_printed name ≡ true → AllByRecursion (λ b. 32 ≤ b) name
printed_each [] is = tt
printed_each (b ∷ name) is = (grind (arith, nat_tests), printed_each name (grind (arith, nat_tests)))

pub printed : (name : List ℕ) → is_printed name ≡ true → All (λ b. 32 ≤ b) name
printed name is = All-from_recursion (λ b. 32 ≤ b) name (printed_each name is)

-- what holds where there is no value, and what holds of the value
pub either_way : {A : Type 0} (o : Option A) (P : Type 0) (Q : A → Type 0) → (o ≡ None → P) → ((a : A) → o ≡ Some a → Q a) → MatchOption o P Q
either_way None P Q p q = p refl
either_way (Some a) P Q p q = q a refl

-- what holds of an error
pub of_error : {T E : Type 0} (r : Result T E) (P : T → Type 0) (Q R : E → Type 0) → ((e : E) → Q e → R e) → MatchResult r P Q → IfErr r R
of_error (Ok x) P Q R on is = tt
of_error (Err e) P Q R on is = on e is
