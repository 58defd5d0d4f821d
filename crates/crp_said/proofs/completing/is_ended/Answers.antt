use Rattle.std.proofs.Common.{◌≡◌, ◌≢◌, ◌∙◌, ℕ, List, [], ◌∷◌, length, true, false, refl, sym, ap, subst, ◌==◌}
use Rattle.std.proofs.lemmas.Bool.{eqb-true}
use Rattle.crp_said.specs.Spelled.{IsLastLine}
use Rattle.crp_said.specs.Completed.{words_in}
use Rattle.crp_said.proofs.MoreLines.{ended_by_empty, ended_by_last, ended_by_other}
use Rattle.crp_said.proofs.completing.is_ended.Goals as goal

none : (xs : List ℕ) → length xs ≡ 0 → xs ≡ []
none [] e = refl
none (x ∷ xs) e = cc

pub returns-then-is_empty : goal.returns-then-is_empty
returns-then-is_empty c lines line words before =
    let long : length c.args.words.now ≡ 0 = eqb-true (length c.args.words.now) 0 (sym c.is_empty.ensures ∙ c.if-is_empty.true) in
    let empty : words_in line ≡ [] = sym words ∙ none c.args.words.now long in
    let more = ended_by_empty lines line empty in (λ t. more.0 (before.0 t), λ ends. before.1 (more.1 ends))

pub returns-in-Some : goal.returns-in-Some
returns-in-Some c lines line words before =
    let found = c.in-Some.ensures.found in
    let last : IsLastLine c.args.words.now = (c.in-Some.field-0.0, c.in-Some.field-0.1, found.0, found.1, found.2) in
    (λ t. ended_by_last lines line (subst IsLastLine words last), λ ends. refl)

pub returns-in-None : goal.returns-in-None
returns-in-None c lines line words before =
    let some : words_in line ≢ [] =
    (λ e. let t : c.is_empty.result ≡ true = c.is_empty.ensures ∙ ap (λ (xs : List ℕ). length xs == 0) (words ∙ e) in let f : c.is_empty.result ≡ false = c.if-is_empty.false in cc) in
    let other : ¬ IsLastLine (words_in line) = λ last. c.in-None.ensures.none (subst IsLastLine (sym words) last) in
    (λ t. let f : false ≡ true = t in cc, λ ends. absurd (ended_by_other lines line some other ends))
