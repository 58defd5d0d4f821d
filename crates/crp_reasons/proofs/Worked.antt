-- Worked reasons, by the definitions.
use Rattle.std.proofs.Common.{◌≡◌, ℕ, true, false, List, [], ◌∷◌, codes, refl, arith}
use Rattle.std.specs.Fmt.{digits}
use Rattle.std.proofs.lemmas.List.Elements.{All-nil, All-cons}
use Rattle.crp_plan.specs.Bay.{Position}
use Rattle.crp_row.specs.Reasons.{IsReasonByte, AreReasons, reasons_text}
use Rattle.crp_reasons.specs.Rests.{Digits, Whole, Ends}
use Rattle.crp_reasons.proofs.Bracketed.{no_bracket}

-- a thinned branch, with a cut by the blocking bound and one by the look-ahead bound
twelve : reasons_text 12 (codes "RBL") ≡ codes "[12:RBL]"
unfolding digits
twelve = refl

-- a cut by two chains
chains : reasons_text 12 (codes "RBLT12.17.30,9.11;") ≡ codes "[12:RBLT12.17.30,9.11;]"
unfolding digits
chains = refl

-- no relocation, and no text
least : reasons_text 0 [] ≡ codes "[0:]"
unfolding digits
least = refl

-- the highest number
most : reasons_text 255 (codes "B") ≡ codes "[255:B]"
unfolding digits
most = refl

-- a leading zero is not written
leading : reasons_text 7 (codes "B") ≡ codes "[07:B]" → ⊥
unfolding digits
leading e = cc

-- a text may be empty
empty : AreReasons 255 []
empty = (omega arith, All-nil IsReasonByte)

-- a number above 255 is none of reasons
high : AreReasons 256 [] → ⊥
high are = (let le = are.0 in omega arith)

-- a bracket may not stand in a text
bracket : AreReasons 1 (codes "B]") → ⊥
bracket are = no_bracket (are.1 1 0 (omega arith))

letter : AreReasons 12 (codes "B")
letter = (omega arith, All-cons IsReasonByte 66 [] (0, omega arith, refl) (All-nil IsReasonByte))

-- behind the digit 1 the rest of reasons with the number 12 may come
rest_of_twelve : (s : Position) → Ends false (Digits s 1) 12 (codes "2:B]")
unfolding digits
rest_of_twelve s = (codes "B", letter, λ t. absurd cc, refl)

-- behind the last bracket nothing may come
behind_the_end : (n byte : ℕ) (rest : List ℕ) → Ends false (Whole 12 true) n (byte ∷ rest) → ⊥
behind_the_end n byte rest ends = (let e = ends.2 in cc)
