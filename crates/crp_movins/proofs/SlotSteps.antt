-- A slot is written in six or seven digits.
use Rattle.std.proofs.Common.{◌≡◌, ℕ, List, [], ◌∷◌, length, take, drop, refl, arith}
use Rattle.crp_movins.specs.Digits.{number_of, slot_of}

-- six digits: two of the bay
pub six-slot : (text : List ℕ) → length text ≡ 6 → slot_of text ≡ record { bay = number_of (take 2 text); row = number_of (take 2 (drop 2 text)); tier = number_of (drop 2 (drop 2 text)) }
unfolding slot_of
six-slot (a ∷ b ∷ c ∷ d ∷ e ∷ f ∷ []) h = refl
six-slot _ h = absurd (omega arith)

-- seven digits: three of the bay
pub seven-slot : (text : List ℕ) → length text ≡ 7 → slot_of text ≡ record { bay = number_of (take 3 text); row = number_of (take 2 (drop 3 text)); tier = number_of (drop 2 (drop 3 text)) }
unfolding slot_of
seven-slot (a ∷ b ∷ c ∷ d ∷ e ∷ f ∷ g ∷ []) h = refl
seven-slot _ h = absurd (omega arith)
