use Rattle.std.proofs.Common.{◌≡◌, ℕ, ◌-◌, List, ◌++◌, ◌∷◌, [], length, take, drop, refl, sym, ap, ◌∙◌, subst, append_assoc, append-nil}
use Rattle.std.proofs.lemmas.List.{take-append-drop}
use Rattle.crp_checker.specs.declared.line.SymbolLine.{SymbolLine}
use Rattle.crp_checker.specs.Kept.{need_by}
use Rattle.crp_checker.specs.Lines.{LineIs}
use Rattle.crp_checker.proofs.OnWalks.{rest_is}
use Rattle.crp_checker.proofs.Lines.{none_begun, walks, stays_wrong}
use Rattle.crp_checker.proofs.line.SymbolLine.feed.Goals as goal

pub loop-byte-init : goal.loop-byte-init
loop-byte-init c =
    ([], refl, λ top before is. subst (λ l. LineIs (need_by c.args.need.now) c.args.need.now.version top l c.args.self.now) (sym (append-nil before)) is)

pub returns-then-self : goal.returns-then-self
returns-then-self c top before is =
    let need = need_by c.args.need.now in
    let version = c.args.need.now.version in
    let so_far = c.loop-byte.invariant in
    subst (λ l. LineIs need version top l c.loop-byte.self) (append_assoc before so_far.0 c.loop-byte.rest.now ∙ ap (λ l. before ++ l) (sym so_far.1))
    (stays_wrong need version top (before ++ so_far.0) c.loop-byte.rest.now c.loop-byte.self c.if-self.true (so_far.2 top before is))

pub loop-byte-preserved-then-is_some : goal.loop-byte-preserved-then-is_some
loop-byte-preserved-then-is_some c =
    let need = need_by c.args.need.now in
    let version = c.args.need.now.version in
    let so_far = c.loop-byte.invariant in
    let byte : List ℕ = c.in-Some.byte.now ∷ [] in (
      so_far.0 ++ byte,
      so_far.1 ∙ ap (λ l. so_far.0 ++ l) c.in-Some.ensures.cases.0 ∙ sym (append_assoc so_far.0 byte c.in-Some.behind.now),
      λ top before is. subst (λ l. LineIs need version top l c.read_reasons.new.self) (append_assoc before so_far.0 byte) (c.in_ok-read_reasons.ensures top (before ++ so_far.0) (so_far.2 top before is)),
    )

pub loop-byte-preserved-then-walked-eq0 : goal.loop-byte-preserved-then-walked-eq0
loop-byte-preserved-then-walked-eq0 c =
    let need = need_by c.args.need.now in
    let version = c.args.need.now.version in
    let so_far = c.loop-byte.invariant in
    let line : SymbolLine = c.loop-byte.self in
    let walked : SymbolLine = record line { owing = c.walk.new.self; found = c.walk.new.found } in
    let none = none_begun line.reasons (sym c.is_some.ensures ∙ c.if-is_some.false) in
    let byte : List ℕ = c.in-Some.byte.now ∷ [] in (
      so_far.0 ++ byte,
      so_far.1 ∙ ap (λ l. so_far.0 ++ l) c.in-Some.ensures.cases.0 ∙ sym (append_assoc so_far.0 byte c.in-Some.behind.now),
      λ top before is.
          let came : List ℕ = before ++ so_far.0 in
          let on = walks need version top came c.loop-byte.rest.now line walked c.in_ok-walked.walked c.if-self.false none (so_far.2 top before is) c.if-self.false none refl c.in_ok-walked.ensures in
          let same : came ++ take c.in_ok-walked.walked c.loop-byte.rest.now ≡ came = ap (λ n. came ++ take n c.loop-byte.rest.now) c.if-walked-eq0.true ∙ append-nil came in
          subst (λ l. LineIs need version top l c.read_behind.new.self) (append_assoc before so_far.0 byte)
          (c.read_behind.ensures top came (subst (λ l. LineIs need version top l walked) same on)),
    )

pub loop-byte-preserved : goal.loop-byte-preserved
loop-byte-preserved c =
    let need = need_by c.args.need.now in
    let version = c.args.need.now.version in
    let so_far = c.loop-byte.invariant in
    let line : SymbolLine = c.loop-byte.self in
    let walked : SymbolLine = record line { owing = c.walk.new.self; found = c.walk.new.found } in
    let none = none_begun line.reasons (sym c.is_some.ensures ∙ c.if-is_some.false) in
    let rest : List ℕ = c.loop-byte.rest.now in
    let n = c.in_ok-walked.walked in
    let more : List ℕ = take n rest in
    let left : List ℕ = take (length rest - n) (drop n rest) in (
      so_far.0 ++ more,
      so_far.1 ∙ ap (λ l. so_far.0 ++ l) (sym (take-append-drop n rest) ∙ ap (λ l. more ++ l) (sym (rest_is n rest))) ∙ sym (append_assoc so_far.0 more left),
      λ top before is. subst (λ l. LineIs need version top l walked) (append_assoc before so_far.0 more)
          (walks need version top (before ++ so_far.0) rest line walked n c.if-self.false none (so_far.2 top before is) c.if-self.false none refl c.in_ok-walked.ensures),
    )

-- a list without an element
none_of : (xs : List ℕ) → length xs ≡ 0 → xs ≡ []
none_of [] e = refl
none_of (x ∷ xs) e = absurd cc

pub returns : goal.returns
returns c top before is =
    let so_far = c.loop-byte.invariant in
    let all : c.args.piece.now ≡ so_far.0 = so_far.1 ∙ ap (λ l. so_far.0 ++ l) (none_of c.loop-byte.rest.now c.in_default.ensures.cases) ∙ append-nil so_far.0 in
    subst (λ l. LineIs (need_by c.args.need.now) c.args.need.now.version top (before ++ l) c.loop-byte.self) (sym all) (so_far.2 top before is)
