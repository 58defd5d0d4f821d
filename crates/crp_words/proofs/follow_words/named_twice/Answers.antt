use Rattle.std.proofs.Common.{Option, Some, None, IfNone, inl, inr}
use Rattle.crp_words.proofs.follow_words.named_twice.Goals as goal

none_of : {A : Type 0} {P Q : Type 0} (o : Option A) → (P → Q) → IfNone o P → IfNone o Q
none_of None f p = f p
none_of (Some x) f p = tt

pub returns-clause-none : goal.returns-clause-none
returns-clause-none c = none_of c.one_file-7.result (λ none twice. elim twice [
  | inl h ↦ c.in_default.ensures.none h
  | inr (inl h) ↦ c.in_default-one_file.ensures.none h
  | inr (inr (inl h)) ↦ c.in_default-one_file-2.ensures.none h
  | inr (inr (inr (inl h))) ↦ c.in_default-one_file-3.ensures.none h
  | inr (inr (inr (inr (inl h)))) ↦ c.in_default-one_file-4.ensures.none h
  | inr (inr (inr (inr (inr (inl h))))) ↦ c.in_default-one_file-5.ensures.none h
  | inr (inr (inr (inr (inr (inr h))))) ↦ none h
]) c.one_file-7.ensures.none
