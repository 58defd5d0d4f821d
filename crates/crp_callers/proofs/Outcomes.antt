-- What a call or an option gives, in other words.
use Rattle.std.proofs.Common.{Result, Ok, Err, Option, Some, None, IfOk, IfErr, IfSome}
use Rattle.std.specs.Prelude.{MatchResult}

pub ok_by : {T E : Type 0} (r : Result T E) (P Q : T → Type 0) → IfOk r P → ((x : T) → P x → Q x) → IfOk r Q
ok_by (Ok x) P Q p by = by x p
ok_by (Err e) P Q p by = tt

pub err_by : {T E : Type 0} (r : Result T E) (P Q : E → Type 0) → IfErr r P → ((e : E) → P e → Q e) → IfErr r Q
err_by (Ok x) P Q p by = tt
err_by (Err e) P Q p by = by e p

pub some_by : {T : Type 0} (r : Option T) (P Q : T → Type 0) → IfSome r P → ((x : T) → P x → Q x) → IfSome r Q
some_by None P Q p by = tt
some_by (Some x) P Q p by = by x p

pub both_by : {T E : Type 0} (r : Result T E) (P : T → Type 0) (Q : E → Type 0) → IfOk r P → IfErr r Q → MatchResult r P Q
both_by (Ok x) P Q p q = p
both_by (Err e) P Q p q = q
