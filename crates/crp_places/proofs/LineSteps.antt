-- The line ends before an offset, byte by byte.
use Rattle.std.proofs.Common.{◌≡◌, ◌≢◌, ◌<◌, ◌≤◌, ◌+◌, ◌-◌, ℕ, zero, suc, cond, List, [], ◌∷◌, length, drop, get_or, refl, arith, sub-one}
use Rattle.crp_places.specs.Lines.{ends_line, line_ends_before}

-- before an offset that is not 0, the first byte counts, and then those behind it
pub line_ends-more : (bytes : List ℕ) (offset : ℕ) → 1 ≤ length bytes → offset ≢ 0
    → line_ends_before bytes offset ≡ cond (ends_line (get_or bytes 0 0) (drop 1 bytes)) 1 0 + line_ends_before (drop 1 bytes) (offset - 1)
line_ends-more [] offset some more = absurd (omega arith)
line_ends-more (b ∷ bytes) zero some more = absurd (more refl)
line_ends-more (b ∷ bytes) (suc offset) some more = rw sub-one refl

-- no bytes have no line ends
pub line_ends-none : (bytes : List ℕ) (offset : ℕ) → length bytes < 1 → line_ends_before bytes offset ≡ 0
line_ends-none [] zero none = refl
line_ends-none [] (suc offset) none = refl
line_ends-none (b ∷ bytes) offset none = absurd (omega arith)
