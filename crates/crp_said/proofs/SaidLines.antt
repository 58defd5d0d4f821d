-- What a line says of the fewest relocations: what is read is what stands there, and it is read again.
use Rattle.std.proofs.Common.{◌≡◌, ℕ, ◌≤◌, ⊎_elim, cond, List, [], ◌∷◌, ◌++◌, Option, Some, None, refl, sym, ap, ◌∙◌, subst, inl, inr, ◌⊎◌}
use Rattle.std.specs.Prelude.{codes, IfSome}
use Rattle.std.specs.Fmt.{decimal}
use Rattle.std.specs.Str.{bytes_eq}
use Rattle.std.specs.Option.{option_or}
use Rattle.std.proofs.lemmas.Slice.Eq.{bytes_eq-Decides}
use Rattle.std.proofs.lemmas.Option.{some_pair_parts, same_Some, none-some}
use Rattle.std.proofs.lemmas.List.{append-nil}
use Rattle.crp_said.specs.declared.said.SaidCause.{SaidCause}
use Rattle.crp_said.specs.declared.said.SaidCause.TheVariants.{Budget, Memory, Time, Edited}
use Rattle.crp_said.specs.declared.said.Said.{Said}
use Rattle.crp_said.specs.declared.said.Said.TheVariants.{Optimal, First, NoPlan, Between, Outside}
use Rattle.crp_cert.specs.Reading.{◌>>=◌, tag_at, number_at}
use Rattle.crp_cert.proofs.Numbers.{bind_some, if_some, chosen, tag_takes}
use Rattle.crp_said.specs.Said.{cause_words, upper_words, said_words}
use Rattle.crp_said.specs.Spelled.{most, IsSmall}
use Rattle.crp_said.specs.Fields.{upper_at, cause_at, said_optimal_at, said_none_at, said_between_at, said_outside_at, said_at}
use Rattle.crp_said.proofs.Digits.{number_found, number_reread, number_whole}

-- one of two was read
pub either_read : {A : Type 0} (a b : Option A) (x : A) → option_or a b ≡ Some x → (a ≡ Some x) ⊎ (b ≡ Some x)
either_read None b x e = inr e
either_read (Some y) b x e = inl e

-- the bytes are these, and no others can be read
only : {A : Type 0} (bytes these : List ℕ) (a x : A) → cond (bytes_eq bytes these) (Some a) None ≡ Some x → (bytes ≡ these) × (a ≡ x)
only bytes these a x e = let c = if_some (bytes_eq bytes these) (Some a) x e in ((bytes_eq-Decides bytes these).0 c.0, same_Some a x c.1)

-- the bytes are these, or it is read from others
first_or : {A : Type 0} (bytes these : List ℕ) (a x : A) (others : Option A) → cond (bytes_eq bytes these) (Some a) others ≡ Some x → ((bytes ≡ these) × (a ≡ x)) ⊎ (others ≡ Some x)
first_or bytes these a x others e =
    ⊎_elim (λ yes. inl ((bytes_eq-Decides bytes these).0 yes.0, same_Some a x yes.1)) (λ no. inr no.1) (chosen (bytes_eq bytes these) (Some a) others (Some x) e)

-- ---- what is read is what stands there

abbrev IsRead : List ℕ → Said → Type 0
IsRead bytes s = IsSmall s × (bytes ≡ said_words s)

optimal_takes : (bytes : List ℕ) (s : Said) → said_optimal_at bytes ≡ Some s → IsRead bytes s
unfolding said_optimal_at
optimal_takes bytes s e =
    let a = bind_some (tag_at (codes "optimal ") bytes) _ s e in
    let n = bind_some (number_at most a.0) _ s a.2 in
    let count : ℕ = n.0.0 in
    let x = number_found a.0 count n.0.1 n.1 in
    let text : bytes ≡ codes "optimal " ++ (decimal count ++ n.0.1) = tag_takes (codes "optimal ") bytes a.0 a.1 ∙ ap (λ l. codes "optimal " ++ l) x.0 in
    ⊎_elim
    (λ plain. subst (IsRead bytes) plain.1 (x.1, text ∙ ap (λ l. codes "optimal " ++ (decimal count ++ l)) plain.0 ∙ ap (λ l. codes "optimal " ++ l) (append-nil (decimal count))))
    (λ first. subst (IsRead bytes) first.1 (x.1, text ∙ ap (λ l. codes "optimal " ++ (decimal count ++ l)) first.0))
    (⊎_elim inl (λ others. inr (only n.0.1 (codes " first") (First count) s others))
    (first_or n.0.1 [] (Optimal count) s (cond (bytes_eq n.0.1 (codes " first")) (Some (First count)) None) n.2))

none_takes : (bytes : List ℕ) (s : Said) → said_none_at bytes ≡ Some s → IsRead bytes s
none_takes bytes s e =
    let c = if_some (bytes_eq bytes (codes "no plan")) (Some NoPlan) s e in
    subst (IsRead bytes) (same_Some NoPlan s c.1) (tt, (bytes_eq-Decides bytes (codes "no plan")).0 c.0)

upper_takes : (bytes : List ℕ) (u : Option ℕ) (rest : List ℕ) → upper_at bytes ≡ Some (u, rest) → IfSome u (λ n. n ≤ most) × (bytes ≡ upper_words u ++ rest)
upper_takes bytes u rest e =
    ⊎_elim
    (λ no.
    let t = bind_some (tag_at (codes "none") bytes) (λ rest. Some (None, rest)) (u, rest) no in
    let p = some_pair_parts None u t.0 rest t.2 in
    (subst (λ v. IfSome v (λ n. n ≤ most)) p.0 tt, tag_takes (codes "none") bytes t.0 t.1 ∙ ap (λ v. upper_words v ++ t.0) p.0 ∙ ap (λ l. upper_words u ++ l) p.1))
    (λ some.
    let t = bind_some (number_at most bytes) (λ x. Some (Some x.0, x.1)) (u, rest) some in
    let p = some_pair_parts (Some t.0.0) u t.0.1 rest t.2 in
    let x = number_found bytes t.0.0 t.0.1 t.1 in
    (subst (λ v. IfSome v (λ n. n ≤ most)) p.0 x.1, x.0 ∙ ap (λ v. upper_words v ++ t.0.1) p.0 ∙ ap (λ l. upper_words u ++ l) p.1))
    (either_read (tag_at (codes "none") bytes >>= λ rest. Some (None, rest)) (number_at most bytes >>= λ x. Some (Some x.0, x.1)) (u, rest) e)

cause_takes : (bytes : List ℕ) (why : SaidCause) → cause_at bytes ≡ Some why → bytes ≡ cause_words why
cause_takes bytes why e =
    let edited = cond (bytes_eq bytes (codes "edited")) (Some Edited) None in
    let time = cond (bytes_eq bytes (codes "time")) (Some Time) edited in
    let memory = cond (bytes_eq bytes (codes "memory")) (Some Memory) time in
    ⊎_elim (λ is. is.0 ∙ ap cause_words is.1)
    (λ others.
    ⊎_elim (λ is. is.0 ∙ ap cause_words is.1)
    (λ others.
    ⊎_elim (λ is. is.0 ∙ ap cause_words is.1)
    (λ last. let is = only bytes (codes "edited") Edited why last in is.0 ∙ ap cause_words is.1)
    (first_or bytes (codes "time") Time why edited others))
    (first_or bytes (codes "memory") Memory why time others))
    (first_or bytes (codes "budget") Budget why memory e)

between_takes : (bytes : List ℕ) (s : Said) → said_between_at bytes ≡ Some s → IsRead bytes s
unfolding said_between_at
between_takes bytes s e =
    let a = bind_some (tag_at (codes "between ") bytes) _ s e in
    let lower = bind_some (number_at most a.0) _ s a.2 in
    let b = bind_some (tag_at (codes " and ") lower.0.1) _ s lower.2 in
    let upper = bind_some (upper_at b.0) _ s b.2 in
    let c = bind_some (tag_at (codes ", ") upper.0.1) _ s upper.2 in
    let why = bind_some (cause_at c.0) _ s c.2 in
    let made : Said = Between lower.0.0 upper.0.0 why.0 in
    let x = number_found a.0 lower.0.0 lower.0.1 lower.1 in
    let y = upper_takes b.0 upper.0.0 upper.0.1 upper.1 in
    let small : IsSmall made = (x.1, y.0) in
    let text : bytes ≡ said_words made =
    tag_takes (codes "between ") bytes a.0 a.1
    ∙ ap (λ l. codes "between " ++ l) (x.0 ∙ ap (λ l. decimal lower.0.0 ++ l) (tag_takes (codes " and ") lower.0.1 b.0 b.1
    ∙ ap (λ l. codes " and " ++ l) (y.1 ∙ ap (λ l. upper_words upper.0.0 ++ l) (tag_takes (codes ", ") upper.0.1 c.0 c.1 ∙ ap (λ l. codes ", " ++ l) (cause_takes c.0 why.0 why.1))))) in
    subst (IsRead bytes) (same_Some made s why.2) (small, text)

outside_takes : (bytes : List ℕ) (s : Said) → said_outside_at bytes ≡ Some s → IsRead bytes s
unfolding said_outside_at
outside_takes bytes s e =
    let a = bind_some (tag_at (codes "outside the rule ") bytes) _ s e in
    let n = bind_some (number_at most a.0) _ s a.2 in
    let x = number_found a.0 n.0.0 n.0.1 n.1 in
    let ends = only n.0.1 (codes ", edited") (Outside n.0.0) s n.2 in
    subst (IsRead bytes) ends.1
    (x.1, tag_takes (codes "outside the rule ") bytes a.0 a.1 ∙ ap (λ l. codes "outside the rule " ++ l) (x.0 ∙ ap (λ l. decimal n.0.0 ++ l) ends.0))

pub said_takes : (bytes : List ℕ) (s : Said) → said_at bytes ≡ Some s → IsSmall s × (bytes ≡ said_words s)
said_takes bytes s e =
    ⊎_elim (optimal_takes bytes s)
    (λ other. ⊎_elim (none_takes bytes s)
    (λ more. ⊎_elim (between_takes bytes s) (outside_takes bytes s) (either_read (said_between_at bytes) (said_outside_at bytes) s more))
    (either_read (said_none_at bytes) (option_or (said_between_at bytes) (said_outside_at bytes)) s other))
    (either_read (said_optimal_at bytes) (option_or (said_none_at bytes) (option_or (said_between_at bytes) (said_outside_at bytes))) s e)

-- ---- and it is read again

upper_again : (u : Option ℕ) (rest : List ℕ) → IfSome u (λ n. n ≤ most) → upper_at (upper_words u ++ 44 ∷ rest) ≡ Some (u, 44 ∷ rest)
upper_again None rest low = refl
upper_again (Some n) rest low = not_none (tag_at (codes "none") (decimal n ++ 44 ∷ rest)) refl
  where
    not_none : (o : Option (List ℕ)) → tag_at (codes "none") (decimal n ++ 44 ∷ rest) ≡ o
        → option_or (let k : Option (Option ℕ × List ℕ) = (o >>= λ rest. Some (None, rest)) in k) (number_at most (decimal n ++ 44 ∷ rest) >>= λ x. Some (Some x.0, x.1)) ≡ Some (Some n, 44 ∷ rest)
    not_none None e = ap (λ (o : Option (ℕ × List ℕ)). o >>= λ x. Some (Some x.0, x.1)) (number_reread n 44 rest low refl)
    not_none (Some more) e =
        let k : decimal n ++ 44 ∷ rest ≡ codes "none" ++ more = tag_takes (codes "none") (decimal n ++ 44 ∷ rest) more e in
        let read = ap (number_at most) (sym k) ∙ number_reread n 44 rest low refl in
        absurd (none-some (n, 44 ∷ rest) (let x : None ≡ Some (n, 44 ∷ rest) = read in x))

cause_again : (why : SaidCause) → cause_at (cause_words why) ≡ Some why
cause_again Budget = refl
cause_again Memory = refl
cause_again Time = refl
cause_again Edited = refl

pub said_again : (s : Said) → IsSmall s → said_at (said_words s) ≡ Some s
unfolding said_optimal_at said_between_at said_outside_at
said_again (Optimal n) low = rw (number_whole n low) refl
said_again (First n) low = rw (number_reread n 32 (codes "first") low refl) refl
said_again NoPlan low = refl
said_again (Between lower upper why) low =
    let third : List ℕ = cause_words why in
    let second : List ℕ = upper_words upper ++ (codes ", " ++ third) in
    rw (number_reread lower 32 (codes "and " ++ second) low.0 refl, upper_again upper (32 ∷ third) low.1, cause_again why) refl
said_again (Outside n) low = rw (number_reread n 44 (codes " edited") low refl) refl
