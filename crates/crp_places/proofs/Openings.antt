-- What stands before the first segment, and what the service characters are then.
use Rattle.std.proofs.Common.{◌≡◌, ◌≢◌, ◌≤◌, ℕ, true, false, cond, eqb, List, [], ◌∷◌, ◌++◌, length, drop, get_or, Option, Some, None, refl, sym, ap, subst, ◌∙◌, inl, inr, ⊎_elim, arith, append_assoc, tests, rules}
use Rattle.edi_text.specs.Spelling.{BeginsWithAdvice, IsLineEnd, AreLineEnds, Opens, advice_text}
use Rattle.edi_text.specs.FirstFault.{BeginsWithLineEnd}
use Rattle.edi_text.specs.Reading.{HasOpening, after_line_ends, is_line_end}

line_end-test : (b : ℕ) → IsLineEnd b → is_line_end b ≡ true
line_end-test b (inl e) = rw e refl
line_end-test b (inr e) = rw e refl

other-test : (b : ℕ) → (IsLineEnd b → ⊥) → is_line_end b ≡ false
other-test b h =
    let a : b ≢ 13 = λ e. h (inl e) in
    let c : b ≢ 10 = λ e. h (inr e) in
    grind (arith, tests)

-- line ends are passed over, up to what begins with none
pub gap-passed : (gap rest : List ℕ) → AreLineEnds gap → (BeginsWithLineEnd rest → ⊥) → after_line_ends (gap ++ rest) ≡ rest
gap-passed [] [] h stop = refl
gap-passed [] (b ∷ rest) h stop = rw (other-test b stop) refl
gap-passed (b ∷ gap) rest h stop = rw (line_end-test b h.0) (gap-passed gap rest h.1 stop)

pub advice-first : (text : List ℕ) → 9 ≤ length text → get_or text 0 0 ≡ 85 → get_or text 1 0 ≡ 78 → get_or text 2 0 ≡ 65 → BeginsWithAdvice text
advice-first [] long u n a = absurd (omega arith)
advice-first (x ∷ []) long u n a = absurd (omega arith)
advice-first (x ∷ y ∷ []) long u n a = absurd (omega arith)
advice-first (x ∷ y ∷ z ∷ rest) long u n a = (rest, rw (u, n, a) refl)

-- where the text begins with service string advice, its seventh and its ninth byte are the signs, and the rest stands behind its line ends
pub opens-advice : (text rest : List ℕ) (named : _) → BeginsWithAdvice text → HasOpening text named rest
    → (named.release ≡ cond (eqb (get_or text 6 0) 32) None (Some (get_or text 6 0))) × (named.terminator ≡ get_or text 8 0) × (after_line_ends (drop 9 text) ≡ rest)
opens-advice text rest named begins h = go h.opens
  where
    go : Opens text named h.opening → (named.release ≡ cond (eqb (get_or text 6 0) 32) None (Some (get_or text 6 0))) × (named.terminator ≡ get_or text 8 0) × (after_line_ends (drop 9 text) ≡ rest)
    go (inl a) =
        let whole : text ≡ advice_text a.advice ++ (a.gap ++ rest) = h.whole ∙ ap (λ (x : List ℕ). x ++ rest) a.whole ∙ append_assoc (advice_text a.advice) a.gap rest in
        let stop : BeginsWithLineEnd rest → ⊥ = ⊎_elim (λ (e : h.opening ≡ []). let none : advice_text a.advice ++ a.gap ≡ [] = sym a.whole ∙ e in absurd cc) (λ (f : BeginsWithLineEnd rest → ⊥). f) h.passed in
        let P : List ℕ → Type 0 = λ t. (named.release ≡ cond (eqb (get_or t 6 0) 32) None (Some (get_or t 6 0))) × (named.terminator ≡ get_or t 8 0) × (after_line_ends (drop 9 t) ≡ rest) in
        subst P (sym whole) (rw a.named refl, rw a.named refl, gap-passed a.gap rest a.line_ends stop)
    go (inr a) = absurd (a.no_advice begins)

-- a space stands for no release character
pub release-none : (release : Option ℕ) (b : ℕ) → b ≡ 32 → release ≡ None → release ≡ cond (eqb b 32) None (Some b)
release-none release b e h = rw e h

pub release-some : (release : Option ℕ) (b : ℕ) → b ≢ 32 → release ≡ Some b → release ≡ cond (eqb b 32) None (Some b)
release-some release b e h = let test : eqb b 32 ≡ false = search (rules, tests) in rw test h
