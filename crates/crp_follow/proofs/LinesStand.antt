-- Where the lines of a text stand.
use Rattle.std.proofs.Common.{◌≡◌, ◌≢◌, ◌∙◌, ◌⊎◌, inl, inr, ℕ, suc, ◌+◌, ◌-◌, ◌==◌, arith, List, [], ◌∷◌, ◌++◌, length, take, refl, sym, ap, subst, append_assoc, append-nil, cond, Bool, true, false}
use Rattle.std.specs.Prelude.{count_by, slice_index}
use Rattle.std.proofs.lemmas.Bool.{ne_eqb, eqb-true}
use Rattle.std.proofs.lemmas.List.Sums.{sum_by-cons, sum_by-append}
use Rattle.crp_plan.proofs.Lists.{one_if}
use Rattle.crp_said.specs.Spelled.{ended, line_behind}
use Rattle.crp_said.proofs.Bytes.{IsPlain}
use Rattle.crp_follow.specs.Lines.{Line, after_mark, begun_with, pieces_of, without_cr, line_unless_empty, numbered, lines_in, BeginsBehind, EndsBefore, IsCrOrNone, StandsIn}
use Rattle.crp_follow.proofs.Cuts.{head_same, tail_same}
use Rattle.crp_follow.proofs.Pieces.{plain_without}

-- ---- the bytes are the pieces

-- the piece is all of the bytes, or stands before an LF
abbrev IsCut : List ℕ → List ℕ → List (List ℕ) → (List ℕ → Type 0) → Type 0
IsCut bytes piece pieces More = ((bytes ≡ piece) × (pieces ≡ [])) ⊎ ((more : List ℕ) × (bytes ≡ piece ++ 10 ∷ more) × More more)

abbrev AreCut : List (List ℕ) → List ℕ → Type 0
AreCut [] bytes = bytes ≡ []
AreCut (piece ∷ pieces) bytes = IsPlain piece × IsCut bytes piece pieces (AreCut pieces)

begun_cut : (b : ℕ) (pieces : List (List ℕ)) (bytes : List ℕ) → b ≢ 10 → AreCut pieces bytes → AreCut (begun_with b pieces) (b ∷ bytes)
begun_cut b [] bytes not e = ((not, tt), inl (ap (λ l. b ∷ l) e, refl))
begun_cut b (piece ∷ pieces) bytes not (plain, inl (e, none)) = ((not, plain), inl (ap (λ l. b ∷ l) e, none))
begun_cut b (piece ∷ pieces) bytes not (plain, inr (more, e, rest)) = ((not, plain), inr (more, ap (λ l. b ∷ l) e, rest))

next_cut : (b : ℕ) (bytes : List ℕ) (t : Bool) → (b == 10) ≡ t → AreCut (pieces_of bytes) bytes → AreCut (cond t ([] ∷ pieces_of bytes) (begun_with b (pieces_of bytes))) (b ∷ bytes)
next_cut b bytes true e so = (tt, inr (bytes, ap (λ x. x ∷ bytes) (eqb-true b 10 e), so))
next_cut b bytes false e so = begun_cut b (pieces_of bytes) bytes (λ ten. let t : (10 == 10) ≡ false = subst (λ x. (x == 10) ≡ false) ten e in cc) so

are_cut : (bytes : List ℕ) → AreCut (pieces_of bytes) bytes
are_cut [] = refl
are_cut (b ∷ bytes) = next_cut b bytes (b == 10) refl (are_cut bytes)

-- ---- a piece is a line and a CR, or no CR

abbrev HasEnd : List ℕ → List ℕ → Type 0
HasEnd piece body = (cr : List ℕ) × (piece ≡ body ++ cr) × IsCrOrNone cr

last_cut : (piece : List ℕ) (x : ℕ) → slice_index (x ∷ piece) (length piece) ≡ 13 → x ∷ piece ≡ take (length piece) (x ∷ piece) ++ 13 ∷ []
last_cut [] x e = ap (λ y. y ∷ []) e
last_cut (y ∷ piece) x e = ap (λ l. x ∷ l) (last_cut piece y e)

end_of : (piece : List ℕ) (x : ℕ) (t : Bool) → (slice_index (x ∷ piece) (length piece) == 13) ≡ t → HasEnd (x ∷ piece) (cond t (take (length piece) (x ∷ piece)) (x ∷ piece))
end_of piece x true e = (13 ∷ [], last_cut piece x (eqb-true (slice_index (x ∷ piece) (length piece)) 13 e), inr refl)
end_of piece x false e = ([], sym (append-nil (x ∷ piece)), inl refl)

has_end : (piece : List ℕ) → HasEnd piece (without_cr piece)
has_end [] = ([], refl, inl refl)
has_end (x ∷ piece) =
    let n : length piece ≡ suc (length piece) - 1 = omega arith in
    subst (λ k. HasEnd (x ∷ piece) (cond (slice_index (x ∷ piece) k == 13) (take k (x ∷ piece)) (x ∷ piece))) n (end_of piece x (slice_index (x ∷ piece) (length piece) == 13) refl)

-- ---- LF before a line

abbrev ends : List ℕ → ℕ
ends bytes = count_by (λ b. b == 10) bytes

ends-append : (xs ys : List ℕ) → ends (xs ++ ys) ≡ ends xs + ends ys
ends-append xs ys = sum_by-append (λ b. one_if (b == 10)) xs ys

no_ends : (xs : List ℕ) → IsPlain xs → ends xs ≡ 0
no_ends [] plain = refl
no_ends (b ∷ xs) plain =
    let not : one_if (b == 10) ≡ 0 = ap one_if (ne_eqb b 10 plain.0) in
    let rest = no_ends xs plain.1 in omega (arith, not, rest, sum_by-cons (λ (c : ℕ). one_if (c == 10)) b xs)

one_end : (xs : List ℕ) → IsPlain xs → ends (ended xs) ≡ 1
one_end xs plain =
    let none = no_ends xs plain in
    let last : ends (10 ∷ []) ≡ 1 = refl in omega (arith, none, last, ends-append xs (10 ∷ []))

next_number : (front piece : List ℕ) (n : ℕ) → IsPlain piece → n ≡ line_behind front → suc n ≡ line_behind (front ++ ended piece)
next_number front piece n plain e =
    let one = one_end piece plain in omega (arith, e, one, ends-append front (ended piece))

-- ---- a line among those of the pieces

then_ended : (front piece more : List ℕ) → front ++ (piece ++ 10 ∷ more) ≡ (front ++ ended piece) ++ more
then_ended front piece more = ap (λ l. front ++ l) (sym (append_assoc piece (10 ∷ []) more)) ∙ sym (append_assoc front (ended piece) more)

ends_before : (pieces : List (List ℕ)) (bytes piece : List ℕ) → IsCut bytes piece pieces (AreCut pieces) → (rest : List ℕ) × (bytes ≡ piece ++ rest) × EndsBefore rest
ends_before pieces bytes piece (inl (e, none)) = ([], e ∙ sym (append-nil piece), inl refl)
ends_before pieces bytes piece (inr (more, e, so)) = (10 ∷ more, e, inr (more, refl))

-- the line of this piece
own_line : (pieces : List (List ℕ)) (front bytes piece : List ℕ) (n : ℕ) (line : Line) → BeginsBehind front → n ≡ line_behind front → IsPlain piece → IsCut bytes piece pieces (AreCut pieces)
    → line.number ≡ n → line.body ≡ without_cr piece → line.body ≢ [] → StandsIn (front ++ bytes) line
own_line pieces front bytes piece n line begins at plain so number body some =
    let (cr, piece_is, cr_is) = has_end piece in
    let (rest, is, ends) = ends_before pieces bytes piece so in
    record {
      front = front;
      cr = cr;
      rest = rest;
      bytes_are = ap (λ l. front ++ l) (is ∙ ap (λ l. l ++ rest) (piece_is ∙ ap (λ l. l ++ cr) (sym body)) ∙ append_assoc line.body cr rest);
      begins = begins;
      one_line = subst IsPlain (sym body) (plain_without piece plain);
      some = some;
      cr_is = cr_is;
      ends = ends;
      number_is = number ∙ at;
    }

nothing : (before : List Line) (line : Line) (later : List Line) → [] ≡ before ++ line ∷ later → ⊥
nothing [] line later e = cc
nothing (k ∷ before) line later e = cc

-- the lines of these pieces stand in them
abbrev Stand : List (List ℕ) → Type 0
Stand pieces =
    (front bytes : List ℕ) (n : ℕ) (before later : List Line) (line : Line) → AreCut pieces bytes → BeginsBehind front → n ≡ line_behind front → numbered n pieces ≡ before ++ line ∷ later
    → StandsIn (front ++ bytes) line

later_line : (pieces : List (List ℕ)) → Stand pieces → (front bytes piece : List ℕ) (n : ℕ) (before later : List Line) (line : Line) → IsPlain piece
    → IsCut bytes piece pieces (AreCut pieces) → BeginsBehind front → n ≡ line_behind front → numbered (suc n) pieces ≡ before ++ line ∷ later → StandsIn (front ++ bytes) line
later_line pieces again front bytes piece n before later line plain (inl (all, none)) begins at e = absurd (nothing before line later (sym (ap (numbered (suc n)) none) ∙ e))
later_line pieces again front bytes piece n before later line plain (inr (more, all, so)) begins at e =
    subst (λ (l : List ℕ). StandsIn l line) (sym (ap (λ l. front ++ l) all ∙ then_ended front piece more))
    (again (front ++ ended piece) more (suc n) before later line so (inr (front ++ piece, sym (append_assoc front piece (10 ∷ [])))) (next_number front piece n plain at) e)

here : (pieces : List (List ℕ)) → Stand pieces → (front bytes piece body : List ℕ) (n : ℕ) (before later : List Line) (line : Line) → body ≡ without_cr piece → IsPlain piece
    → IsCut bytes piece pieces (AreCut pieces) → BeginsBehind front → n ≡ line_behind front → line_unless_empty n body ++ numbered (suc n) pieces ≡ before ++ line ∷ later → StandsIn (front ++ bytes) line
here pieces again front bytes piece [] n before later line is plain so begins at e = later_line pieces again front bytes piece n before later line plain so begins at e
here pieces again front bytes piece (b ∷ body) n [] later line is plain so begins at e =
    let same : record { number = n; body = b ∷ body } ≡ line = head_same (record { number = n; body = b ∷ body }) line (numbered (suc n) pieces) later e in
    own_line pieces front bytes piece n line begins at plain so (ap (λ (l : Line). l.number) (sym same)) (ap (λ (l : Line). l.body) (sym same) ∙ is)
    (λ none. let no_body : ◌≡◌ {A = List ℕ} (b ∷ body) [] = ap (λ (l : Line). l.body) same ∙ none in cc)
here pieces again front bytes piece (b ∷ body) n (k ∷ before) later line is plain so begins at e =
    later_line pieces again front bytes piece n before later line plain so begins at (tail_same (record { number = n; body = b ∷ body }) k (numbered (suc n) pieces) (before ++ line ∷ later) e)

stands : (pieces : List (List ℕ)) → Stand pieces
stands [] front bytes n before later line so begins at e = absurd (nothing before line later e)
stands (piece ∷ pieces) front bytes n before later line (plain, so) begins at e =
    here pieces (stands pieces) front bytes piece (without_cr piece) n before later line refl plain so begins at e

pub line_stands : (text : List ℕ) (before later : List Line) (line : Line) → lines_in text ≡ before ++ line ∷ later → StandsIn (after_mark text) line
line_stands text before later line e = stands (pieces_of (after_mark text)) [] (after_mark text) 1 before later line (are_cut (after_mark text)) (inl refl) refl e
