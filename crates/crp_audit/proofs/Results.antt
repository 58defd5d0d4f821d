-- What a call or an option gives, in other words.
use Rattle.std.proofs.Common.{◌≡◌, subst, Result, Ok, Err, Option, Some, None, IfOk, IfErr}
use Rattle.std.specs.Prelude.{MatchOption, MatchResult}

pub ok_by : {T E : Type 0} (r : Result T E) (P Q : T → Type 0) → IfOk r P → ((x : T) → P x → Q x) → IfOk r Q
ok_by (Ok x) P Q p by = by x p
ok_by (Err e) P Q p by = tt

pub err_by : {T E : Type 0} (r : Result T E) (P Q : E → Type 0) → IfErr r P → ((e : E) → P e → Q e) → IfErr r Q
err_by (Ok x) P Q p by = tt
err_by (Err e) P Q p by = by e p

pub match_by : {A : Type 0} (o : Option A) (N : Type 0) (P Q : A → Type 0) → MatchOption o N P → ((x : A) → P x → Q x) → MatchOption o N Q
match_by None N P Q is by = is
match_by (Some x) N P Q is by = by x is

pub both_by : {T E : Type 0} (r : Result T E) (P : T → Type 0) (Q : E → Type 0) → IfOk r P → IfErr r Q → MatchResult r P Q
both_by (Ok x) P Q p q = p
both_by (Err e) P Q p q = q

pub ok_at : {T E : Type 0} (r : Result T E) (x : T) (P : T → Type 0) (Q : E → Type 0) → r ≡ Ok x → MatchResult r P Q → P x
ok_at r x P Q e is = subst (λ y. MatchResult y P Q) e is

pub err_at : {T E : Type 0} (r : Result T E) (x : E) (P : T → Type 0) (Q : E → Type 0) → r ≡ Err x → MatchResult r P Q → Q x
err_at r x P Q e is = subst (λ y. MatchResult y P Q) e is
