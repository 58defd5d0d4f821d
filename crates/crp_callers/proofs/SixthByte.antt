-- What is said of the sixth byte of a message of six bytes, of which a front is seen.
use Rattle.std.proofs.Common.{◌≡◌, ◌≤◌, ◌⊎◌, ◌++◌, lit≤, ℕ, zero, suc, List, [], ◌∷◌, length, take, Some, inl, inr, sym, ap, ◌∙◌, subst}
use Rattle.std.proofs.Math.Seq.{take-append_seam, take-nil}
use Rattle.std.specs.Prelude.{codes, decimal, Option}
use Rattle.std.specs.Fmt.{digits}
use Rattle.csv.specs.Reading.{strip_bom}
use Rattle.crp_files.specs.Known.{IsFront}
use Rattle.edi_text.specs.declared.fault.EdiFault.TheVariants as edi
use Rattle.crp_jobs.specs.Instead.{IsKindLine, words_for_message}
use Rattle.crp_jobs.specs.MessageLines.{IsEdiLine}
use Rattle.crp_jobs.specs.Placed.{IsOfFront}

abbrev message : List ℕ
message = codes "UNB+\nX"

-- the line says where the byte stands, or where the file ends
abbrev pub IsSaid : List ℕ → Type 0
IsSaid line = (line ≡ codes "offset 5 is at line 2: X") ⊎ ((n : ℕ) × (n ≤ 2) × (line ≡ codes "the file ends at line " ++ decimal n))

said_of_front : (k : ℕ) (line : List ℕ) → IsEdiLine (edi.Tag 5) 5 (take k message) line → IsSaid line
unfolding digits
said_of_front zero line e = inr (1, lit≤ tt, e)
said_of_front (suc zero) line e = inr (1, lit≤ tt, e)
said_of_front (suc (suc zero)) line e = inr (1, lit≤ tt, e)
said_of_front (suc (suc (suc zero))) line e = inr (1, lit≤ tt, e)
said_of_front (suc (suc (suc (suc zero)))) line e = inr (1, lit≤ tt, e)
said_of_front (suc (suc (suc (suc (suc zero))))) line e = inr (2, lit≤ tt, e)
said_of_front (suc (suc (suc (suc (suc (suc k)))))) line e =
    inl (subst (λ (t : List ℕ). IsEdiLine (edi.Tag 5) 5 (85 ∷ 78 ∷ 66 ∷ 43 ∷ 10 ∷ 88 ∷ t) line) (take-nil k) e)

none_is_kind : (k : ℕ) (line : List ℕ) → IsKindLine words_for_message (strip_bom (take k message)) line → ⊥
unfolding strip_bom
none_is_kind zero line e = cc
none_is_kind (suc zero) line e = cc
none_is_kind (suc (suc zero)) line e = cc
none_is_kind (suc (suc (suc zero))) line e = cc
none_is_kind (suc (suc (suc (suc zero)))) line e = cc
none_is_kind (suc (suc (suc (suc (suc zero))))) line e = cc
none_is_kind (suc (suc (suc (suc (suc (suc k)))))) line e =
    let at : IsKindLine words_for_message (strip_bom (85 ∷ 78 ∷ 66 ∷ 43 ∷ 10 ∷ 88 ∷ [])) line =
    subst (λ (t : List ℕ). IsKindLine words_for_message (strip_bom (85 ∷ 78 ∷ 66 ∷ 43 ∷ 10 ∷ 88 ∷ t)) line) (take-nil k) e in cc

-- a front is the first bytes
front_is : (front : List ℕ) → IsFront (Some message) front → take (length front) message ≡ front
front_is front (rest, e) = ap (take (length front)) e ∙ take-append_seam front rest

-- what the line on the sixth byte of the message says, whatever front of it is seen
pub said : (known : Option (List ℕ)) (line : List ℕ) → known ≡ Some message
    → IsOfFront known (λ front. IsEdiLine (edi.Tag 5) 5 front line) ⊎ IsOfFront known (λ front. IsKindLine words_for_message (strip_bom front) line) → IsSaid line
said known line e (inl is) =
    let (front, of, at) = subst (λ (o : Option (List ℕ)). IsOfFront o (λ front. IsEdiLine (edi.Tag 5) 5 front line)) e is in
    said_of_front (length front) line (subst (λ (t : List ℕ). IsEdiLine (edi.Tag 5) 5 t line) (sym (front_is front of)) at)
said known line e (inr is) =
    let (front, of, at) = subst (λ (o : Option (List ℕ)). IsOfFront o (λ front. IsKindLine words_for_message (strip_bom front) line)) e is in
    absurd (none_is_kind (length front) line (subst (λ (t : List ℕ). IsKindLine words_for_message (strip_bom t) line) (sym (front_is front of)) at))
