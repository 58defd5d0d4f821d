-- Printed characters are ASCII, and so UTF-8.
use Rattle.std.proofs.Common.{ℕ, zero, suc, ◌<◌, ◌≤◌, List, [], ◌∷◌, arith}
use Rattle.std.specs.Prelude.{All, slice_index}
use Rattle.std.specs.Str.{IsUtf8}
use Rattle.std.proofs.lemmas.Str.{IsUtf8-from_ascii}

printed : (bytes : List ℕ) (i : ℕ) → All (λ b. (33 ≤ b) × (b ≤ 126)) bytes → slice_index bytes i < 128
printed [] i all = omega arith
printed (b ∷ bytes) zero all = let h = all 0 0 (omega arith) in omega (arith, h.1)
printed (b ∷ bytes) (suc i) all = printed bytes i (λ k d few. all (suc k) d (omega (arith, few)))

pub printed_text : (bytes : List ℕ) → All (λ b. (33 ≤ b) × (b ≤ 126)) bytes → IsUtf8 bytes
printed_text bytes all = IsUtf8-from_ascii bytes (λ i. printed bytes i all)
