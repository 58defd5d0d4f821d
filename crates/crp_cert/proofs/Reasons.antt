-- Reasons in brackets: what is read is what they say, and they are read again.
use Rattle.std.proofs.Common.{◌≡◌, ℕ, ◌≤◌, ⊎_elim, Bool, true, false, cond, ◌==◌, List, [], ◌∷◌, ◌++◌, Some, Contains, refl, sym, ap, ◌∙◌, subst, arith, append_assoc, length, length-append, ◌<◌}
use Rattle.std.specs.Prelude.{codes}
use Rattle.std.specs.List.{list_any, AllByRecursion}
use Rattle.std.specs.Fmt.{decimal}
use Rattle.std.proofs.lemmas.Bool.{cases_Bool, eqb-true, eq-eqb}
use Rattle.std.proofs.lemmas.Option.{same_Some}
use Rattle.std.proofs.lemmas.List.Elements.{recursion_from_All, All-from_recursion}
use Rattle.crp_bay.proofs.Members.{not_in_nil, in_head, in_tail, in_cons_cases}
use Rattle.crp_row.specs.Reasons.{IsReasonByte, AreReasons, reasons_text}
use Rattle.crp_cert.specs.Reading.{◌>>=◌, tag_at, number_at, is_reason_byte, reason_word_at, reasons_at}
use Rattle.crp_cert.proofs.Numbers.{bind_some, tag_takes, number_takes, number_again}
use Rattle.crp_cert.proofs.Readers.{IsReader}

-- ---- the bytes of a text

-- a list has a byte exactly where a test finds it
any_to : (b : ℕ) (xs : List ℕ) → list_any (λ x. x == b) xs ≡ true → Contains xs b
any_to b [] e = absurd cc
any_to b (x ∷ xs) e = ⊎_elim
    (λ yes. subst (λ y. Contains (x ∷ xs) y) (eqb-true x b yes) (in_head x xs))
    (λ no'. in_tail x xs b (any_to b xs (rw no' at e)))
    (cases_Bool (x == b))

any_from : (b : ℕ) (xs : List ℕ) → Contains xs b → list_any (λ x. x == b) xs ≡ true
any_from b [] c = absurd (not_in_nil b c)
any_from b (x ∷ xs) c = ⊎_elim
    (λ yes. rw yes refl)
    (λ no'. rw no' (⊎_elim (λ same. let t : (x == b) ≡ true = eq-eqb x b same in cc) (any_from b xs) (in_cons_cases x xs b c)))
    (cases_Bool (x == b))

byte_to : (b : ℕ) → is_reason_byte b ≡ true → IsReasonByte b
byte_to b e = any_to b (codes "BLTRF0123456789.,;") e

pub byte_from : (b : ℕ) → IsReasonByte b → is_reason_byte b ≡ true
byte_from b c = any_from b (codes "BLTRF0123456789.,;") c

-- what is taken is such bytes, and what stands there
word_bytes : (bytes : List ℕ) → AllByRecursion IsReasonByte (reason_word_at bytes).0
word_bytes [] = tt
word_bytes (b ∷ bytes) = by_test (word_bytes bytes) (is_reason_byte b) refl
  where
    by_test : AllByRecursion IsReasonByte (reason_word_at bytes).0 → (t : Bool) → is_reason_byte b ≡ t → AllByRecursion IsReasonByte (cond {A = List ℕ × List ℕ} t (b ∷ (reason_word_at bytes).0, (reason_word_at bytes).1) ([], b ∷ bytes)).0
    by_test all true e = (byte_to b e, all)
    by_test all false e = tt

pub word_is : (bytes : List ℕ) → bytes ≡ (reason_word_at bytes).0 ++ (reason_word_at bytes).1
word_is [] = refl
word_is (b ∷ bytes) = by_test (word_is bytes) (is_reason_byte b)
  where
    by_test : bytes ≡ (reason_word_at bytes).0 ++ (reason_word_at bytes).1 → (t : Bool) → b ∷ bytes ≡ (cond {A = List ℕ × List ℕ} t (b ∷ (reason_word_at bytes).0, (reason_word_at bytes).1) ([], b ∷ bytes)).0 ++ (cond {A = List ℕ × List ℕ} t (b ∷ (reason_word_at bytes).0, (reason_word_at bytes).1) ([], b ∷ bytes)).1
    by_test is true = ap (λ l. b ∷ l) is
    by_test is false = refl

-- a text is taken again, down to the bracket
word_again : (text rest : List ℕ) → AllByRecursion IsReasonByte text → reason_word_at (text ++ 93 ∷ rest) ≡ (text, 93 ∷ rest)
word_again [] rest all = refl
word_again (b ∷ text) rest all =
    rw (byte_from b all.0) (ap (λ (w : List ℕ × List ℕ). (b ∷ w.0, w.1)) (word_again text rest all.1))

-- ---- reasons

-- a number and a text
abbrev pub Reasons : Type 0
Reasons = ℕ × List ℕ

abbrev pub AreFit : Reasons → Type 0
AreFit x = AreReasons x.0 x.1

abbrev pub text_of : Reasons → List ℕ
text_of x = reasons_text x.0 x.1

-- the pieces of the text
pieces : (n : ℕ) (text rest : List ℕ) → reasons_text n text ++ rest ≡ 91 ∷ (decimal n ++ 58 ∷ (text ++ 93 ∷ rest))
pieces n text rest =
    ap (λ l. 91 ∷ l) (append_assoc (decimal n) (58 ∷ (text ++ 93 ∷ [])) rest ∙ ap (λ l. decimal n ++ 58 ∷ l) (append_assoc text (93 ∷ []) rest))

takes : (bytes : List ℕ) (x : Reasons) (rest : List ℕ) → reasons_at bytes ≡ Some (x, rest) → AreFit x × (bytes ≡ text_of x ++ rest)
unfolding reasons_at
takes bytes x rest e =
    let a = bind_some (tag_at (codes "[") bytes) (λ a. number_at 255 a >>= λ bound. (tag_at (codes ":") bound.1 >>= λ text. (tag_at (codes "]") (reason_word_at text).1 >>= λ rest'. Some ((bound.0, (reason_word_at text).0), rest')))) (x, rest) e in
    let n = bind_some (number_at 255 a.0) (λ bound. tag_at (codes ":") bound.1 >>= λ text. (tag_at (codes "]") (reason_word_at text).1 >>= λ rest'. Some ((bound.0, (reason_word_at text).0), rest'))) (x, rest) a.2 in
    let t = bind_some (tag_at (codes ":") n.0.1) (λ text. tag_at (codes "]") (reason_word_at text).1 >>= λ rest'. Some ((n.0.0, (reason_word_at text).0), rest')) (x, rest) n.2 in
    let r = bind_some (tag_at (codes "]") (reason_word_at t.0).1) (λ rest'. Some ((n.0.0, (reason_word_at t.0).0), rest')) (x, rest) t.2 in
    let word : List ℕ = (reason_word_at t.0).0 in
    let number = number_takes 255 a.0 n.0.0 n.0.1 (omega arith) (omega arith) n.1 in
    let text : t.0 ≡ word ++ 93 ∷ r.0 = word_is t.0 ∙ ap (λ l. word ++ l) (tag_takes (codes "]") (reason_word_at t.0).1 r.0 r.1) in
    let whole : bytes ≡ reasons_text n.0.0 word ++ r.0 =
    tag_takes (codes "[") bytes a.0 a.1
    ∙ ap (λ l. 91 ∷ l) (number.0 ∙ ap (λ l. decimal n.0.0 ++ l) (tag_takes (codes ":") n.0.1 t.0 t.1 ∙ ap (λ l. 58 ∷ l) text)) ∙ sym (pieces n.0.0 word r.0) in
    subst (λ (v : Reasons × List ℕ). AreFit v.0 × (bytes ≡ text_of v.0 ++ v.1)) (same_Some ((n.0.0, word), r.0) (x, rest) r.2)
    ((number.1, All-from_recursion IsReasonByte word (word_bytes t.0)), whole)

again : (x : Reasons) (rest : List ℕ) → AreFit x → reasons_at (text_of x ++ rest) ≡ Some (x, rest)
unfolding reasons_at
again x rest fits =
    ap reasons_at (pieces x.0 x.1 rest)
    ∙ ap (λ o. o >>= λ bound. (tag_at (codes ":") bound.1 >>= λ text. (tag_at (codes "]") (reason_word_at text).1 >>= λ rest'. Some ((bound.0, (reason_word_at text).0), rest'))))
    (number_again 255 x.0 58 (x.1 ++ 93 ∷ rest) (omega arith) (omega arith) fits.0 refl)
    ∙ ap (λ (w : List ℕ × List ℕ). tag_at (codes "]") w.1 >>= λ rest'. Some ((x.0, w.0), rest')) (word_again x.1 rest (recursion_from_All IsReasonByte x.1 fits.1))

pub reasons_reader : IsReader AreFit text_of reasons_at
reasons_reader = record { takes = takes; again = again }

-- they begin with a bracket, and take some bytes
pub opens : (b : ℕ) (bytes : List ℕ) (x : Reasons) (rest : List ℕ) → reasons_at (b ∷ bytes) ≡ Some (x, rest) → b ≡ 91
opens b bytes x rest e = first (takes (b ∷ bytes) x rest e).1
  where
    first : b ∷ bytes ≡ text_of x ++ rest → b ≡ 91
    first f = cc

pub shorter : (bytes : List ℕ) (x : Reasons) (rest : List ℕ) → reasons_at bytes ≡ Some (x, rest) → length rest < length bytes
shorter bytes x rest e =
    omega (arith, ap length (takes bytes x rest e).1, length-append (text_of x) rest, long x.0 x.1)
  where
    long : (n : ℕ) (text : List ℕ) → 1 ≤ length (reasons_text n text)
    long n text = omega arith
