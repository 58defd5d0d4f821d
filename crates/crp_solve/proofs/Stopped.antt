-- What a worker knows whose claims a gate has stopped.
use Rattle.std.proofs.Common.{◌≡◌, ◌<◌, ◌≤◌, ◌+◌, if◌then◌else◌, ◌||◌, ℕ, zero, suc, Bool, true, false, Result, Ok, Err, IfOk, IfErr, refl, sym, ap, ◌∙◌, arith}
use Rattle.std.specs.Result.{IsOkAnd, IsErrAnd}
use Rattle.std.proofs.lemmas.Bool.{le-ltb}
use Rattle.crp_plan.specs.declared.running.View.{View}
use Rattle.crp_search.specs.Limits.{ClaimsExpansion}
use Rattle.crp_solve.specs.Desks.{refused_by, known_with}
use Rattle.crp_solve.specs.Groups.{RefusesAsBoth}

-- one claim at least counts as refused, where some were they all do, and never fewer
some_refused : (n : ℕ) → 0 < refused_by true n
some_refused zero = omega arith
some_refused (suc n) = omega arith

none_at_first : (n : ℕ) → n ≡ 0 → refused_by true n ≡ n + 1
none_at_first zero e = refl
none_at_first (suc n) e = absurd (omega (arith, e))

as_before : (n : ℕ) → 0 < n → refused_by true n ≡ n
as_before zero lt = absurd (omega arith)
as_before (suc n) lt = refl

no_less : (stopped : Bool) (n : ℕ) → n ≤ refused_by stopped n
no_less true zero = omega arith
no_less true (suc n) = omega arith
no_less false n = omega arith

-- so a claim that is stopped is refused, as one behind the budget, and later ones do nothing
pub claim_stopped : (budget : ℕ) (before now : Bool) (view : View) → now ≡ true → ClaimsExpansion budget (known_with before view) false (known_with now view)
claim_stopped budget before false view e = absurd (cc)
claim_stopped budget false true view e = record {
  tries = λ none. record {
    spent = budget;
    answer_is = sym (le-ltb budget budget (omega arith));
    after = ap (λ n. record view { refused = n }) (none_at_first view.refused none)
        ∙ ap (λ (b : Bool). if b then record view { granted = view.granted + 1 } else record view { refused = view.refused + 1 }) (sym (le-ltb budget budget (omega arith)));
  };
  was_refused = λ some. (refl, ap (λ n. record view { refused = n }) (as_before view.refused some));
}
claim_stopped budget true true view e = record {
  tries = λ none. absurd (let some = some_refused view.refused in omega (arith, none));
  was_refused = λ some. (refl, refl);
}

-- what two workers were refused, whose claims may have been stopped
both_refused : (a b : Bool) (m n : ℕ) → (0 < refused_by a m → 0 < refused_by (a || b) (m + n)) × (0 < refused_by b n → 0 < refused_by (a || b) (m + n))
both_refused false false m n = (λ some. omega (arith, some), λ some. omega (arith, some))
both_refused true b m n = (λ some. some_refused (m + n), λ some. some_refused (m + n))
both_refused false true m n = (λ some. some_refused (m + n), λ some. some_refused (m + n))

pub joined_refused : (a b : Bool) (v w : View) → RefusesAsBoth (known_with a v) (known_with b w) (refused_by (a || b) (v.refused + w.refused))
joined_refused a b v w = let both = both_refused a b v.refused w.refused in record { mine = both.0; others = both.1 }

-- what a search came to that a gate may have stopped: two facts of it
pub of_found : {T E : Type 0} {P Q : T → Type 0} {R : Type 0} (found : Result T E) → ((x : T) → P x → Q x → R) → IsOkAnd found P → IfOk found Q → R
of_found (Ok x) make p q = make x p q
of_found (Err e) make p q = absurd p

pub of_fault : {T E : Type 0} {P Q : E → Type 0} {R : Type 0} (found : Result T E) → ((x : E) → P x → Q x → R) → IsErrAnd found P → IfErr found Q → R
of_fault (Ok x) make p q = absurd p
of_fault (Err e) make p q = make e p q
