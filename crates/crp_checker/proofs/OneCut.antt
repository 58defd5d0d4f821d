-- A file is cut into texts in one way.
use Rattle.std.proofs.Common.{◌≡◌, ◌≢◌, ℕ, ◌⊎◌, ⊎_elim, List, [], ◌∷◌, ◌++◌, length, refl, sym, ap, ◌∙◌, subst, arith, append_assoc, length-append}
use Rattle.std.specs.List.{AllByRecursion}
use Rattle.std.proofs.lemmas.List.{append-nil}
use Rattle.std.proofs.lemmas.List.Elements.{recursion_from_All}
use Rattle.crp_checker.specs.Files.{IsWithoutEnd, IsLine, BeginsWithEnd, IsOtherLine, joined_lines, IsEnded, HasNoEndLine, BeginsWithTexts}

-- two fronts without LF, each followed by LF, are one
until_end : (xs ys x y : List ℕ) → AllByRecursion (λ b. b ≢ 10) xs → AllByRecursion (λ b. b ≢ 10) ys → xs ++ 10 ∷ x ≡ ys ++ 10 ∷ y → (xs ≡ ys) × (x ≡ y)
until_end [] [] x y a b e = (refl, let rest : x ≡ y = cc in rest)
until_end [] (c ∷ ys) x y a b e = absurd (b.0 (let h : c ≡ 10 = cc in h))
until_end (c ∷ xs) [] x y a b e = absurd (a.0 (let h : c ≡ 10 = cc in h))
until_end (c ∷ xs) (d ∷ ys) x y a b e =
    let first : c ≡ d = cc in
    let r = until_end xs ys x y a.1 b.1 (let rest : xs ++ 10 ∷ x ≡ ys ++ 10 ∷ y = cc in rest) in
    (ap (λ z. z ∷ xs) first ∙ ap (λ l. d ∷ l) r.0, r.1)

-- what two equal texts begin with is one line
one_line : (a b x y : List ℕ) → IsLine a → IsLine b → a ++ x ≡ b ++ y → (a ≡ b) × (x ≡ y)
one_line a b x y k l e =
    let text : k.body ++ 10 ∷ x ≡ l.body ++ 10 ∷ y =
    sym (append_assoc k.body (10 ∷ []) x) ∙ ap (λ t. t ++ x) (sym k.is) ∙ e ∙ ap (λ t. t ++ y) l.is ∙ append_assoc l.body (10 ∷ []) y in
    let r = until_end k.body l.body x y (recursion_from_All (λ c. c ≢ 10) k.body k.one_line) (recursion_from_All (λ c. c ≢ 10) l.body l.one_line) text in
    (k.is ∙ ap (λ t. t ++ 10 ∷ []) r.0 ∙ sym l.is, r.1)

-- bytes without LF do not begin with a line
no_line_in : (rest line x : List ℕ) → IsWithoutEnd rest → IsLine line → line ++ x ≡ rest → ⊥
no_line_in rest line x none k e =
    go k.body x rest (recursion_from_All (λ b. b ≢ 10) rest none) (sym (append_assoc k.body (10 ∷ []) x) ∙ ap (λ t. t ++ x) (sym k.is) ∙ e)
  where
    go : (body x rest : List ℕ) → AllByRecursion (λ b. b ≢ 10) rest → body ++ 10 ∷ x ≡ rest → ⊥
    go [] x [] none e = cc
    go [] x (b ∷ rest) none e = none.0 (let h : b ≡ 10 = cc in h)
    go (c ∷ body) x [] none e = cc
    go (c ∷ body) x (b ∷ rest) none e = go body x rest none.1 (let r : body ++ 10 ∷ x ≡ rest = cc in r)

-- the same text down to the first line that begins with `end `
ends_once : (ls ms : List (List ℕ)) (l m x y : List ℕ) → AllByRecursion IsOtherLine ls → AllByRecursion IsOtherLine ms → IsLine l → BeginsWithEnd l → IsLine m → BeginsWithEnd m →
    joined_lines ls ++ (l ++ x) ≡ joined_lines ms ++ (m ++ y) → (joined_lines ls ++ l ≡ joined_lines ms ++ m) × (x ≡ y)
ends_once [] [] l m x y os ps k a n b e = one_line l m x y k n e
ends_once [] (other ∷ ms) l m x y os ps k a n b e =
    let o = ps.0 in
    let same = one_line l other x (joined_lines ms ++ (m ++ y)) k o.is_line (e ∙ append_assoc other (joined_lines ms) (m ++ y)) in
    absurd (o.other (subst BeginsWithEnd same.0 a))
ends_once (other ∷ ls) [] l m x y os ps k a n b e =
    let o = os.0 in
    let same = one_line other m (joined_lines ls ++ (l ++ x)) y o.is_line n (sym (append_assoc other (joined_lines ls) (l ++ x)) ∙ e) in
    absurd (o.other (subst BeginsWithEnd (sym same.0) b))
ends_once (first ∷ ls) (other ∷ ms) l m x y os ps k a n b e =
    let o = os.0 in
    let p = ps.0 in
    let same = one_line first other (joined_lines ls ++ (l ++ x)) (joined_lines ms ++ (m ++ y)) o.is_line p.is_line (sym (append_assoc first (joined_lines ls) (l ++ x)) ∙ e ∙ append_assoc other (joined_lines ms) (m ++ y)) in
    let r = ends_once ls ms l m x y os.1 ps.1 k a n b same.1 in (
      append_assoc first (joined_lines ls) l ∙ ap (λ t. t ++ (joined_lines ls ++ l)) same.0 ∙ ap (λ t. other ++ t) r.0 ∙ sym (append_assoc other (joined_lines ms) m),
      r.1,
    )

-- a text that ends does not begin one that is open
ends_not_open : (ls ms : List (List ℕ)) (l rest x : List ℕ) → AllByRecursion IsOtherLine ls → AllByRecursion IsOtherLine ms → IsLine l → BeginsWithEnd l → IsWithoutEnd rest → joined_lines ls ++ (l ++ x) ≡ joined_lines ms ++ rest → ⊥
ends_not_open [] [] l rest x os ps k a none e = no_line_in rest l x none k e
ends_not_open [] (other ∷ ms) l rest x os ps k a none e =
    let o = ps.0 in
    let same = one_line l other x (joined_lines ms ++ rest) k o.is_line (e ∙ append_assoc other (joined_lines ms) rest) in
    o.other (subst BeginsWithEnd same.0 a)
ends_not_open (first ∷ ls) [] l rest x os ps k a none e =
    let o = os.0 in
    no_line_in rest first (joined_lines ls ++ (l ++ x)) none o.is_line (sym (append_assoc first (joined_lines ls) (l ++ x)) ∙ e)
ends_not_open (first ∷ ls) (other ∷ ms) l rest x os ps k a none e =
    let o = os.0 in
    let p = ps.0 in
    let same = one_line first other (joined_lines ls ++ (l ++ x)) (joined_lines ms ++ rest) o.is_line p.is_line (sym (append_assoc first (joined_lines ls) (l ++ x)) ∙ e ∙ append_assoc other (joined_lines ms) rest) in
    ends_not_open ls ms l rest x os.1 ps.1 k a none same.1

one_ended : (t u x y : List ℕ) → IsEnded t → IsEnded u → t ++ x ≡ u ++ y → (t ≡ u) × (x ≡ y)
one_ended t u x y a b e =
    let text : joined_lines a.lines ++ (a.last ++ x) ≡ joined_lines b.lines ++ (b.last ++ y) =
    sym (append_assoc (joined_lines a.lines) a.last x) ∙ ap (λ l. l ++ x) (sym a.is) ∙ e ∙ ap (λ l. l ++ y) b.is ∙ append_assoc (joined_lines b.lines) b.last y in
    let r = ends_once a.lines b.lines a.last b.last x y a.others b.others a.is_line a.is_end b.is_line b.is_end text in
    (a.is ∙ r.0 ∙ sym b.is, r.1)

ended_or_open : (t u x : List ℕ) → IsEnded t → HasNoEndLine u → t ++ x ≡ u → ⊥
ended_or_open t u x a b e =
    ends_not_open a.lines b.lines a.last b.rest x a.others b.others a.is_line a.is_end b.part_line
    (sym (append_assoc (joined_lines a.lines) a.last x) ∙ ap (λ l. l ++ x) (sym a.is) ∙ e ∙ b.is)

-- what stands at the front of a file, which this follows
abbrev pub Stands : List ℕ → List ℕ → Type 0
Stands text after = IsEnded text ⊎ (HasNoEndLine text × (after ≡ []))

-- a text has a byte
pub some_text : (text after : List ℕ) → Stands text after → text ++ after ≡ [] → ⊥
some_text text after s e = ⊎_elim
    (λ a. let line = a.is_line in omega (arith, ap length e, length-append text after, ap length a.is, length-append (joined_lines a.lines) a.last, ap length line.is, length-append line.body (10 ∷ [])))
    (λ o. let k = o.0 in k.some_bytes (nothing text after e))
    s
  where
    nothing : (xs ys : List ℕ) → xs ++ ys ≡ [] → xs ≡ []
    nothing [] ys e = refl
    nothing (x ∷ xs) ys e = absurd (cc)

pub first_text : (t u x y : List ℕ) → Stands t x → Stands u y → t ++ x ≡ u ++ y → (t ≡ u) × (x ≡ y)
first_text t u x y a b e = ⊎_elim
    (λ p. ⊎_elim
    (λ q. one_ended t u x y p q e)
    (λ q. absurd (ended_or_open t u x p q.0 (e ∙ ap (λ l. u ++ l) q.1 ∙ append-nil u)))
    b)
    (λ p. ⊎_elim
    (λ q. absurd (ended_or_open u t y q p.0 (sym e ∙ ap (λ l. t ++ l) p.1 ∙ append-nil t)))
    (λ q. (sym (append-nil t) ∙ ap (λ l. t ++ l) (sym p.1) ∙ e ∙ ap (λ l. u ++ l) q.1 ∙ append-nil u, p.1 ∙ sym q.1))
    b)
    a

-- the texts of a file are these and no others
pub one_cut_only : (file : List ℕ) (texts others : List (List ℕ)) → BeginsWithTexts file texts [] → BeginsWithTexts file others [] → texts ≡ others
one_cut_only file [] [] a b = refl
one_cut_only file [] (u ∷ others) a b = absurd (some_text u b.0 b.2 (sym b.1 ∙ a))
one_cut_only file (t ∷ texts) [] a b = absurd (some_text t a.0 a.2 (sym a.1 ∙ b))
one_cut_only file (t ∷ texts) (u ∷ others) a b =
    let first = first_text t u a.0 b.0 a.2 b.2 (sym a.1 ∙ b.1) in
    let rest = one_cut_only a.0 texts others a.3 (subst (λ l. BeginsWithTexts l others []) (sym first.1) b.3) in
    ap (λ l. l ∷ texts) first.0 ∙ ap (λ l. u ∷ l) rest
