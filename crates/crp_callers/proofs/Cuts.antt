-- What the pieces of a run come to that were written before one of them.
use Rattle.std.proofs.Common.{◌≡◌, ◌⊎◌, ℕ, List, [], ◌∷◌, ◌++◌, refl, sym, ap, subst, inl, inr, append-nil, append_assoc}
use Rattle.crp_report.specs.declared.fault.Output.TheVariants as output
use Rattle.crp_report.specs.Answered.{Answered}
use Rattle.crp_report.specs.Report.{AreBayLines, AreLinesOfBays, certificate_of, certificates_text}
use Rattle.crp_report.specs.Pieces.{Piece, piece, bytes_for, AreBayPieces}

-- these bytes are in the pieces for the report, and these in those for the certificates
pub record Have (pieces : List Piece) (report certificates : List ℕ) : Type 0 where
  pub got_report : bytes_for output.Report pieces ≡ report
  pub got_certificates : bytes_for output.Certificates pieces ≡ certificates

-- the lines of the next bay, or these last ones
abbrev pub IsNextOf : List ℕ → List Answered → List ℕ → Type 0
IsNextOf last [] text = text ≡ last
IsNextOf last (bay ∷ left) text = AreBayLines bay text

-- the piece has the lines of the next bay, or the last one
pub record AtLines (last : List ℕ) (answered : List Answered) (before : List Piece) (now : Piece) : Type 0 where
  pub done : List Answered
  pub left : List Answered
  pub answered_are : answered ≡ done ++ left
  pub lines : List ℕ
  pub are_lines : AreLinesOfBays done lines
  pub next : List ℕ
  pub is_next : IsNextOf last left next
  pub now_is : now ≡ piece output.Report next
  pub have : Have before lines (certificates_text done)

-- it has the certificate of a bay
pub record AtCertificate (answered : List Answered) (before : List Piece) (now : Piece) : Type 0 where
  pub done : List Answered
  pub bay : Answered
  pub left : List Answered
  pub answered_are : answered ≡ done ++ bay ∷ left
  pub lines : List ℕ
  pub are_lines : AreLinesOfBays done lines
  pub own : List ℕ
  pub are_own : AreBayLines bay own
  pub now_is : now ≡ piece output.Certificates (certificate_of bay)
  pub have : Have before (lines ++ own) (certificates_text done)

-- it has the yard after
pub record AtEnd (last yard_after : List ℕ) (answered : List Answered) (before : List Piece) (now : Piece) (behind : List Piece) : Type 0 where
  pub lines : List ℕ
  pub are_lines : AreLinesOfBays answered lines
  pub now_is : now ≡ piece output.YardAfter yard_after
  pub none_behind : behind ≡ []
  pub have : Have before (lines ++ last) (certificates_text answered)

abbrev pub IsCut : List ℕ → List ℕ → List Answered → List Piece → Piece → List Piece → Type 0
IsCut last yard_after answered before now behind = AtLines last answered before now ⊎ (AtCertificate answered before now ⊎ AtEnd last yard_after answered before now behind)

abbrev pub end_of : List ℕ → List ℕ → List Piece
end_of last yard_after = piece output.Report last ∷ piece output.YardAfter yard_after ∷ []

-- ---- heads and tails

pub head_is : {A : Type 0} (x y : A) (xs ys : List A) → x ∷ xs ≡ y ∷ ys → x ≡ y
head_is x y xs ys e = cc

pub tail_is : {A : Type 0} (x y : A) (xs ys : List A) → x ∷ xs ≡ y ∷ ys → xs ≡ ys
tail_is x y xs ys e = cc

some_more : {A : Type 0} (xs ys : List A) (y : A) → [] ≡ xs ++ y ∷ ys → ⊥
some_more [] ys y e = cc
some_more (x ∷ xs) ys y e = cc

-- ---- cuts

have_nothing : Have [] [] []
have_nothing = record { got_report = refl; got_certificates = refl }

-- one piece for the report
have_lines : (a : Piece) (own : List ℕ) → piece output.Report own ≡ a → Have (a ∷ []) own []
have_lines a own is = subst (λ (p : Piece). Have (p ∷ []) own []) is (record { got_report = append-nil own; got_certificates = refl })

-- the lines of a bay and its certificate, and then others
have_more : (a b : Piece) (before : List Piece) (own one report certificates : List ℕ) → piece output.Report own ≡ a → piece output.Certificates one ≡ b
    → Have before report certificates → Have (a ∷ b ∷ before) (own ++ report) (one ++ certificates)
have_more a b before own one report certificates x y have =
    subst (λ (list : List Piece). Have list (own ++ report) (one ++ certificates)) (λ i. x i ∷ y i ∷ before)
    (record { got_report = ap (λ l. own ++ l) have.got_report; got_certificates = ap (λ l. one ++ l) have.got_certificates })

cut_end : (last yard_after : List ℕ) (before : List Piece) (now : Piece) (behind : List Piece) → end_of last yard_after ≡ before ++ now ∷ behind
    → IsCut last yard_after [] before now behind
cut_end last yard_after [] now behind e =
    inl (record { done = []; left = []; answered_are = refl; lines = []; are_lines = refl; next = last; is_next = refl; now_is = sym (head_is _ _ _ _ e); have = have_nothing })
cut_end last yard_after (a ∷ []) now behind e =
    inr (inr (record {
      lines = [];
      are_lines = refl;
      now_is = sym (head_is _ _ _ _ (tail_is _ _ _ _ e));
      none_behind = sym (tail_is _ _ _ _ (tail_is _ _ _ _ e));
      have = have_lines a last (head_is _ _ _ _ e);
    }))
cut_end last yard_after (a ∷ b ∷ before) now behind e = absurd (some_more before behind now (tail_is _ _ _ _ (tail_is _ _ _ _ e)))

-- behind a bay more
further : (last yard_after : List ℕ) (bay : Answered) (answered : List Answered) (own : List ℕ) (a b : Piece) (before : List Piece) (now : Piece) (behind : List Piece)
    → AreBayLines bay own → piece output.Report own ≡ a → piece output.Certificates (certificate_of bay) ≡ b → IsCut last yard_after answered before now behind
    → IsCut last yard_after (bay ∷ answered) (a ∷ b ∷ before) now behind
further last yard_after bay answered own a b before now behind are x y (inl at) =
    inl (record {
      done = bay ∷ at.done;
      left = at.left;
      answered_are = ap (λ l. bay ∷ l) at.answered_are;
      lines = own ++ at.lines;
      are_lines = (own, at.lines, are, at.are_lines, refl);
      next = at.next;
      is_next = at.is_next;
      now_is = at.now_is;
      have = have_more a b before own (certificate_of bay) at.lines (certificates_text at.done) x y at.have;
    })
further last yard_after bay answered own a b before now behind are x y (inr (inl at)) =
    inr (inl (record {
      done = bay ∷ at.done;
      bay = at.bay;
      left = at.left;
      answered_are = ap (λ l. bay ∷ l) at.answered_are;
      lines = own ++ at.lines;
      are_lines = (own, at.lines, are, at.are_lines, refl);
      own = at.own;
      are_own = at.are_own;
      now_is = at.now_is;
      have = subst (λ (l : List ℕ). Have (a ∷ b ∷ before) l (certificates_text (bay ∷ at.done))) (sym (append_assoc own at.lines at.own))
          (have_more a b before own (certificate_of bay) (at.lines ++ at.own) (certificates_text at.done) x y at.have);
    }))
further last yard_after bay answered own a b before now behind are x y (inr (inr at)) =
    inr (inr (record {
      lines = own ++ at.lines;
      are_lines = (own, at.lines, are, at.are_lines, refl);
      now_is = at.now_is;
      none_behind = at.none_behind;
      have = subst (λ (l : List ℕ). Have (a ∷ b ∷ before) l (certificates_text (bay ∷ answered))) (sym (append_assoc own at.lines last))
          (have_more a b before own (certificate_of bay) (at.lines ++ last) (certificates_text answered) x y at.have);
    }))

pub cut : (last yard_after : List ℕ) (answered : List Answered) (bays : List Piece) → AreBayPieces answered bays → (before : List Piece) (now : Piece) (behind : List Piece)
    → bays ++ end_of last yard_after ≡ before ++ now ∷ behind → IsCut last yard_after answered before now behind
cut last yard_after [] bays are before now behind e = cut_end last yard_after before now behind (subst (λ (l : List Piece). l ++ end_of last yard_after ≡ before ++ now ∷ behind) are e)
cut last yard_after (bay ∷ answered) bays are [] now behind e =
    let f : piece output.Report are.0 ∷ piece output.Certificates (certificate_of bay) ∷ (are.1 ++ end_of last yard_after) ≡ now ∷ behind =
    subst (λ (l : List Piece). l ++ end_of last yard_after ≡ now ∷ behind) are.4 e in
    inl (record {
      done = [];
      left = bay ∷ answered;
      answered_are = refl;
      lines = [];
      are_lines = refl;
      next = are.0;
      is_next = are.2;
      now_is = sym (head_is _ _ _ _ f);
      have = have_nothing;
    })
cut last yard_after (bay ∷ answered) bays are (a ∷ []) now behind e =
    let f : piece output.Report are.0 ∷ piece output.Certificates (certificate_of bay) ∷ (are.1 ++ end_of last yard_after) ≡ a ∷ now ∷ behind =
    subst (λ (l : List Piece). l ++ end_of last yard_after ≡ a ∷ now ∷ behind) are.4 e in
    inr (inl (record {
      done = [];
      bay = bay;
      left = answered;
      answered_are = refl;
      lines = [];
      are_lines = refl;
      own = are.0;
      are_own = are.2;
      now_is = sym (head_is _ _ _ _ (tail_is _ _ _ _ f));
      have = have_lines a are.0 (head_is _ _ _ _ f);
    }))
cut last yard_after (bay ∷ answered) bays are (a ∷ b ∷ before) now behind e =
    let f : piece output.Report are.0 ∷ piece output.Certificates (certificate_of bay) ∷ (are.1 ++ end_of last yard_after) ≡ a ∷ b ∷ (before ++ now ∷ behind) =
    subst (λ (l : List Piece). l ++ end_of last yard_after ≡ a ∷ b ∷ (before ++ now ∷ behind)) are.4 e in
    further last yard_after bay answered are.0 a b before now behind are.2 (head_is _ _ _ _ f) (head_is _ _ _ _ (tail_is _ _ _ _ f))
    (cut last yard_after answered are.1 are.3 before now behind (tail_is _ _ _ _ (tail_is _ _ _ _ f)))
