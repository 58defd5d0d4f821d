-- Which containers stand above missing ones.
use Rattle.std.proofs.Common.{◌≡◌, ℕ, zero, suc, ◌≤◌, Bool, true, false, ◌==◌, List, [], ◌∷◌, ◌++◌, length, filter, Some, slice_get, All, refl, sym, ap, ◌∙◌, subst, ⊎_elim, arith, append-nil, append_assoc}
use Rattle.std.specs.List.{list_all}
use Rattle.std.proofs.lemmas.Option.{same_Some}
use Rattle.std.proofs.lemmas.Bool.{cases_Bool, cases_eq, and_parts, and_from, ne_eqb, both_ways}
use Rattle.std.proofs.lemmas.List.Elements.{All-nil, All-cons, All-head, All-tail}
use Rattle.crp_plan.specs.Rows.{occurrences}
use Rattle.crp_plan.proofs.Lists.{times, one_if, times-cons, times_push, same_is_one, other_is_zero, occurrences-cons}
use Rattle.crp_bounds.specs.Bounds.{holds_lower}
use Rattle.crp_thinned.specs.Missing.{SitsLow}
use Rattle.crp_thinned.proofs.Kept.{rows_left, other, without, head_kept, head_missing, stands_there, stands_somewhere}

-- what is asked of a container with these below it
abbrev pub Low : (ℕ → Bool) → ℕ → List ℕ → ℕ → Type 0
Low keep ordered under x = keep x ≡ true → list_all keep under ≡ false → holds_lower ordered x under ≡ false

-- with one more on top
pub sits_push : (keep : ℕ → Bool) (ordered : ℕ) (under xs : List ℕ) (x : ℕ) → SitsLow keep ordered under xs → Low keep ordered (under ++ xs) x → SitsLow keep ordered under (xs ++ x ∷ [])
sits_push keep ordered under [] x sits low = (subst (λ l. Low keep ordered l x) (append-nil under) low, tt)
sits_push keep ordered under (y ∷ xs) x sits low =
    (sits.0, sits_push keep ordered (under ++ y ∷ []) xs x sits.1 (subst (λ l. Low keep ordered l x) (sym (append_assoc under (y ∷ []) xs)) low))

-- and without it
pub sits_rest : (keep : ℕ → Bool) (ordered : ℕ) (under xs : List ℕ) (x : ℕ) → SitsLow keep ordered under (xs ++ x ∷ []) → SitsLow keep ordered under xs × Low keep ordered (under ++ xs) x
sits_rest keep ordered under [] x sits = (tt, subst (λ l. Low keep ordered l x) (sym (append-nil under)) sits.0)
sits_rest keep ordered under (y ∷ xs) x sits =
    let r = sits_rest keep ordered (under ++ y ∷ []) xs x sits.1 in
    ((sits.0, r.0), subst (λ l. Low keep ordered l x) (append_assoc under (y ∷ []) xs) r.1)

-- where all stay, nothing stands above a missing one
pub sits_whole : (keep : ℕ → Bool) (ordered : ℕ) (under xs : List ℕ) → ((x : ℕ) → keep x ≡ true) → SitsLow keep ordered under xs
sits_whole keep ordered under [] all = tt
sits_whole keep ordered under (x ∷ xs) all = ((λ k f. absurd (both_ways (list_all keep under) f (each under))), sits_whole keep ordered (under ++ x ∷ []) xs all)
  where
    each : (ys : List ℕ) → list_all keep ys ≡ true
    each [] = refl
    each (y ∷ ys) = and_from (keep y) (list_all keep ys) (all y) (each ys)

-- where none stays
sits_none : (keep : ℕ → Bool) (ordered x : ℕ) (under ys : List ℕ) → filter keep ys ≡ [] → SitsLow (without x keep) ordered under ys
sits_none keep ordered x under [] e = tt
sits_none keep ordered x under (y ∷ ys) e = ⊎_elim
    (λ t. absurd (let h : y ∷ filter keep ys ≡ [] = sym (head_kept keep y ys t) ∙ e in omega (arith, ap length h)))
    (λ f. ((λ k a. absurd (both_ways (keep y) f (and_parts (keep y) (other x y) k).0)), sits_none keep ordered x (under ++ y ∷ []) ys (sym (head_missing keep y ys f) ∙ e)))
    (cases_Bool (keep y))

-- below a place without it nothing changes
same_under : (keep : ℕ → Bool) (x : ℕ) (under : List ℕ) → times x under ≡ 0 → list_all (without x keep) under ≡ list_all keep under
same_under keep x [] h = refl
same_under keep x (y ∷ ys) h =
    let ne : y ≡ x → ⊥ = λ e. omega (arith, times-cons x y ys, ap one_if (ap (λ z. z == x) e), same_is_one x) in
    ⊎_elim
    (λ t. rw t (rw (ne_eqb y x ne) (same_under keep x ys (omega (arith, times-cons x y ys)))))
    (λ f. rw f refl)
    (cases_Bool (keep y))

low_without : (keep : ℕ → Bool) (ordered x : ℕ) (under : List ℕ) (y : ℕ) → times x under ≡ 0 → Low keep ordered under y → Low (without x keep) ordered under y
low_without keep ordered x under y h low k a = low (and_parts (keep y) (other x y) k).0 (sym (same_under keep x under h) ∙ a)

-- a stack without it
sits_absent : (keep : ℕ → Bool) (ordered x : ℕ) (under ys : List ℕ) → times x under ≡ 0 → times x ys ≡ 0 → SitsLow keep ordered under ys → SitsLow (without x keep) ordered under ys
sits_absent keep ordered x under [] a b sits = tt
sits_absent keep ordered x under (y ∷ ys) a b sits = (
  low_without keep ordered x under y a sits.0,
  sits_absent keep ordered x (under ++ y ∷ []) ys (omega (arith, times_push x under y, times-cons x y ys)) (omega (arith, times-cons x y ys)) sits.1,
)

-- the parts of two lists that are the same
same_heads : (y : ℕ) (ys zs : List ℕ) (z : ℕ) → y ∷ ys ≡ z ∷ zs → (y ≡ z) × (ys ≡ zs)
same_heads y ys zs z e = (cc, cc)

-- the top of a stack that is left: it is the head and nothing is left above, or it is the top of the rest
top_of : (x y : ℕ) (ys rest : List ℕ) → y ∷ ys ≡ rest ++ x ∷ [] → ((more : List ℕ) → ys ≡ more ++ x ∷ [] → ⊥) → (y ≡ x) × (ys ≡ [])
top_of x y ys [] e never = same_heads y ys [] x e
top_of x y ys (r ∷ rest) e never = absurd (never rest (same_heads y ys (rest ++ x ∷ []) r e).1)

top_later : (x y : ℕ) (ys rest : List ℕ) → y ∷ ys ≡ rest ++ x ∷ [] → (y ≡ x → ⊥) → (more : List ℕ) × (ys ≡ more ++ x ∷ [])
top_later x y ys [] e never = absurd (never (same_heads y ys [] x e).0)
top_later x y ys (r ∷ rest) e never = (rest, (same_heads y ys (rest ++ x ∷ []) r e).1)

-- what stands above it is missing
top_same : (keep : ℕ → Bool) (ordered x : ℕ) (under : List ℕ) (y : ℕ) (ys rest : List ℕ) → times x (y ∷ ys) ≤ 1 → filter keep (y ∷ ys) ≡ rest ++ x ∷ [] → y ≡ x → SitsLow (without x keep) ordered (under ++ y ∷ []) ys
top_same keep ordered x under y ys rest b e q =
    let none : times x ys ≡ 0 = omega (arith, times-cons x y ys, ap one_if (ap (λ z. z == x) q), same_is_one x) in
    let never : (more : List ℕ) → filter keep ys ≡ more ++ x ∷ [] → ⊥ = λ more h. absurd (omega (arith, stands_there keep x ys more h)) in
    ⊎_elim
    (λ t. sits_none keep ordered x (under ++ y ∷ []) ys (top_of x y (filter keep ys) rest (sym (head_kept keep y ys t) ∙ e) never).1)
    (λ f. absurd (never rest (sym (head_missing keep y ys f) ∙ e)))
    (cases_Bool (keep y))

-- a stack that it is on top of, when it is missing too
sits_top : (keep : ℕ → Bool) (ordered x : ℕ) (under ys rest : List ℕ) → times x under ≡ 0 → times x ys ≤ 1 → filter keep ys ≡ rest ++ x ∷ [] → SitsLow keep ordered under ys → SitsLow (without x keep) ordered under ys
sits_top keep ordered x under [] rest a b e sits = tt
sits_top keep ordered x under (y ∷ ys) rest a b e sits = (
  low_without keep ordered x under y a sits.0,
  ⊎_elim
      (λ q. top_same keep ordered x under y ys rest b e q)
      (λ ne.
      let zero_is : one_if (y == x) ≡ 0 = other_is_zero x y ne in
      let c = times-cons x y ys in
      let a' : times x (under ++ y ∷ []) ≡ 0 = omega (arith, times_push x under y, a) in
      let b' : times x ys ≤ 1 = omega (arith, b) in
      ⊎_elim
      (λ t. let r = top_later x y (filter keep ys) rest (sym (head_kept keep y ys t) ∙ e) ne in sits_top keep ordered x (under ++ y ∷ []) ys r.0 a' b' r.1 sits.1)
      (λ f. sits_top keep ordered x (under ++ y ∷ []) ys rest a' b' (sym (head_missing keep y ys f) ∙ e) sits.1)
      (cases_Bool (keep y)))
      (cases_eq y x),
)

-- all stacks without it
all_absent : (keep : ℕ → Bool) (ordered x : ℕ) (stacks : List (List ℕ)) → occurrences x stacks ≡ 0 → All (SitsLow keep ordered []) stacks → All (SitsLow (without x keep) ordered []) stacks
all_absent keep ordered x [] h low = All-nil (SitsLow (without x keep) ordered [])
all_absent keep ordered x (y ∷ ys) h low =
    let c = occurrences-cons x y ys in
    All-cons (SitsLow (without x keep) ordered []) y ys
    (sits_absent keep ordered x [] y refl (omega (arith, c, h)) (All-head (SitsLow keep ordered []) y ys low))
    (all_absent keep ordered x ys (omega (arith, c, h)) (All-tail (SitsLow keep ordered []) y ys low))

-- the stacks when the top of one is missing too
pub low_without_top : (keep : ℕ → Bool) (ordered x : ℕ) (stacks : List (List ℕ)) (i : ℕ) (rest : List ℕ) → occurrences x stacks ≤ 1 → slice_get (rows_left keep stacks) i ≡ Some (rest ++ x ∷ []) →
    All (SitsLow keep ordered []) stacks → All (SitsLow (without x keep) ordered []) stacks
low_without_top keep ordered x [] i rest once h low = All-nil (SitsLow (without x keep) ordered [])
low_without_top keep ordered x (y ∷ ys) zero rest once h low =
    let e : filter keep y ≡ rest ++ x ∷ [] = same_Some (filter keep y) (rest ++ x ∷ []) h in
    let c = occurrences-cons x y ys in
    let some = stands_there keep x y rest e in
    All-cons (SitsLow (without x keep) ordered []) y ys
    (sits_top keep ordered x [] y rest refl (omega (arith, c, once)) e (All-head (SitsLow keep ordered []) y ys low))
    (all_absent keep ordered x ys (omega (arith, c, once, some)) (All-tail (SitsLow keep ordered []) y ys low))
low_without_top keep ordered x (y ∷ ys) (suc i) rest once h low =
    let c = occurrences-cons x y ys in
    let some = stands_somewhere keep x ys i rest h in
    All-cons (SitsLow (without x keep) ordered []) y ys
    (sits_absent keep ordered x [] y refl (omega (arith, c, once, some)) (All-head (SitsLow keep ordered []) y ys low))
    (low_without_top keep ordered x ys i rest (omega (arith, c, once)) h (All-tail (SitsLow keep ordered []) y ys low))

-- at one stack
pub low_at : (P : List ℕ → Type 0) (stacks : List (List ℕ)) (i : ℕ) (stack : List ℕ) → slice_get stacks i ≡ Some stack → All P stacks → P stack
low_at P [] i stack h low = cc
low_at P (y ∷ ys) zero stack h low = subst P (same_Some y stack h) (All-head P y ys low)
low_at P (y ∷ ys) (suc i) stack h low = low_at P ys i stack h (All-tail P y ys low)

-- where all below stay
pub all_stay : (keep : ℕ → Bool) (xs : List ℕ) → list_all keep xs ≡ true → filter keep xs ≡ xs
all_stay keep [] h = refl
all_stay keep (x ∷ xs) h =
    let p = and_parts (keep x) (list_all keep xs) h in
    head_kept keep x xs p.0 ∙ ap (λ l. x ∷ l) (all_stay keep xs p.1)
