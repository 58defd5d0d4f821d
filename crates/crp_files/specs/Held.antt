-- A file that is written where it is wanted, as its writer sees it.
use Rattle.std.specs.Prelude.{ℕ, List, Option, Some, None}

-- the bytes that a sink was given, where it states them, how many of its calls have failed, and how many of these were interrupted, where it states that
pub record Held : Type 0 where
  pub contents : Option (List ℕ)
  pub failures : ℕ
  pub interrupted : Option ℕ

-- those of a file; where none is wanted, no bytes are stated, and no call fails
abbrev pub held_of : {A : Type 0} → (A → Option (List ℕ)) → (A → ℕ) → (A → Option ℕ) → Option A → Held
held_of contents failures interrupted (Some file) = record { contents = contents file; failures = failures file; interrupted = interrupted file }
held_of contents failures interrupted None = record { contents = None; failures = 0; interrupted = Some 0 }
