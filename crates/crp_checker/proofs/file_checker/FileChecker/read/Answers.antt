use Rattle.std.proofs.Common.{◌≡◌, ◌≢◌, ◌⊎◌, ⊎_elim, inl, inr, None, Bool, true, false, List, ℕ, [], ◌∷◌, ◌++◌, take, drop, refl, sym, ap, ◌∙◌, subst}
use Rattle.std.proofs.lemmas.Result.{err_from_is_err_and}
use Rattle.crp_checker.specs.Fed.{HasRead}
use Rattle.crp_checker.specs.Watches.{IsUnended}
use Rattle.crp_checker.proofs.Watching.{nothing_unended}
use Rattle.crp_checker.proofs.FileFed.{front_on, front_more, refused_next, cut_piece}
use Rattle.crp_checker.proofs.file_checker.FileChecker.read.Goals as goal

-- two lists without an element between them
none_of_both : (xs ys : List ℕ) → xs ≡ [] → ys ≡ [] → xs ++ ys ≡ []
none_of_both xs ys e f = ap (λ l. l ++ ys) e ∙ f

some_of_both : (xs ys : List ℕ) → (xs ≢ []) ⊎ (ys ≢ []) → xs ++ ys ≢ []
some_of_both [] ys some e = ⊎_elim (λ no'. no' refl) (λ no'. no' e) some
some_of_both (x ∷ xs) ys some e = cc

-- none has begun
not_begun : ◌≡◌ {A = Bool} false true → ◌≢◌ {A = List ℕ} [] []
not_begun e same = cc

pub returns-in_default-clause-on : goal.returns-in_default-clause-on
returns-in_default-clause-on c file verdicts at =
    let piece : List ℕ = c.args.piece.now in
    record {
      text = at.text ++ piece;
      front = front_on file verdicts at.text piece at.front;
      read = c.in_ok-feed.ensures.read None at.text at.read;
      unended = c.in_default.ensures.on at.text at.unended;
      none_begun = λ e. let none = c.has_bytes-self.ensures.none e in none_of_both at.text piece (at.none_begun none.0) none.1;
      some_begun = λ e. some_of_both at.text piece (⊎_elim (λ before. inl (at.some_begun before)) (λ now'. inr now') (c.has_bytes-self.ensures.some e));
      none_refused = at.none_refused;
    }

pub returns-in_err-bay-clause-refused : goal.returns-in_err-bay-clause-refused
returns-in_err-bay-clause-refused c =
    let p = err_from_is_err_and c.from_residual-in_err-bay.result c.from_residual-in_err-bay.ensures.1 in
    let piece : List ℕ = c.args.piece.now in
    let n = c.in-Some.taken in
    rw (p.1, p.2)
    (⊎_elim (λ memory. inl memory)
    (λ why. inr (λ file verdicts more at.
    refused_next (file ++ (piece ++ more)) verdicts (at.text ++ (piece ++ more)) (at.text ++ take n piece) (drop n piece ++ more) c.in_err-bay.field-0.0
    (front_on file verdicts at.text (piece ++ more) at.front) (cut_piece at.text piece more n) (inl (c.in-Some.ensures.ended at.text at.unended))
    (inr (why None (at.text ++ take n piece) (subst (HasRead None (at.text ++ take n piece)) (sym c.replace-checker.ensures.value) (c.in_ok-feed-2.ensures.read None at.text at.read))))))
    c.in_err-bay.ensures.refused)

pub returns-clause-on : goal.returns-clause-on
returns-clause-on c file verdicts at =
    let piece : List ℕ = c.args.piece.now in
    let n = c.in-Some.taken in
    let read = subst (HasRead None (at.text ++ take n piece)) (sym c.replace-checker.ensures.value) (c.in_ok-feed-2.ensures.read None at.text at.read) in (
      c.in-Some.ensures.some,
      c.in-Some.ensures.within,
      record {
        text = [];
        front = front_more (file ++ take n piece) verdicts (at.text ++ take n piece) c.in_ok-bay.bay c.in_ok-bay.verdict (front_on file verdicts at.text (take n piece) at.front) (c.in-Some.ensures.ended at.text at.unended)
            (c.in_ok-bay.ensures.bay (at.text ++ take n piece) read);
        read = subst (HasRead None []) (sym c.replace-checker.ensures.after) c.new.ensures;
        unended = subst (IsUnended []) (sym c.in-Some.ensures.begun) nothing_unended;
        none_begun = λ e. refl;
        some_begun = λ e. not_begun e;
        none_refused = at.none_refused;
      },
    )
