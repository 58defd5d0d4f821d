-- Whether containers are chains is decided.
use Rattle.std.proofs.Common.{◌≡◌, ℕ, zero, suc, ◌+◌, ◌<◌, ◌≤◌, inl, inr, ⊎_elim, true, List, [], ◌∷◌, ◌++◌, length, map, Contains, Some, slice_get, refl, sym, ap, subst, arith, length-append}
use Rattle.std.specs.List.{AllByRecursion}
use Rattle.std.proofs.lemmas.Option.{same_Some, slice_get_within}
use Rattle.std.proofs.lemmas.Bool.{cases_lt}
use Rattle.std.proofs.lemmas.List.Elements.{Contains-append_left, Contains-append_right}
use Rattle.crp_plan.specs.Rows.{holds, occurrences}
use Rattle.crp_plan.specs.Bay.{Position}
use Rattle.crp_plan.proofs.Lists.{times, times-cons, other_is_zero, occurrences-cons}
use Rattle.crp_bay.proofs.Members.{in_head}
use Rattle.crp_chains.specs.declared.blocker.Blocker.{Blocker}
use Rattle.crp_chains.specs.Chains.{StandsOn, IsBlocker, StandsAbove, ComesBefore, MayFollow, AreLinked, AreInTime, IsChain, ranks_of, IsFamily}
use Rattle.crp_steps.proofs.Finite.{IsDecided, same_decided, both_or_not, three_or_not, either_or_not, eq_or_not, le_or_not, lt_or_not, true_or_not, up_to, all_or_not}

-- the rank stands in the stack, on a list with the property
record IsIn (P : List ℕ → Type 0) (stack : List ℕ) (rank : ℕ) : Type 0 where
  beneath : List ℕ
  over : List ℕ
  is : stack ≡ beneath ++ rank ∷ over
  has : P beneath

in_split : (P : List ℕ → Type 0) (x : ℕ) (stack : List ℕ) (rank : ℕ) → ((x ≡ rank) × P [] → ⊥) → (IsIn (λ l. P (x ∷ l)) stack rank → ⊥) → (beneath over : List ℕ) → x ∷ stack ≡ beneath ++ rank ∷ over → P beneath → ⊥
in_split P x stack rank never none [] over e has = let h : x ≡ rank = cc in never (h, has)
in_split P x stack rank never none (y ∷ beneath) over e has =
    let h : y ≡ x = cc in
    let t : stack ≡ beneath ++ rank ∷ over = cc in
    none (record { beneath = beneath; over = over; is = t; has = subst (λ z. P (z ∷ beneath)) h has })

in_or_not : (P : List ℕ → Type 0) → ((beneath : List ℕ) → IsDecided (P beneath)) → (stack : List ℕ) (rank : ℕ) → IsDecided (IsIn P stack rank)
in_or_not P d [] rank = inr (λ i. omega (arith, ap length i.is, length-append i.beneath (rank ∷ i.over)))
in_or_not P d (x ∷ stack) rank = ⊎_elim
    (λ here. inl (record { beneath = []; over = stack; is = ap (λ y. y ∷ stack) here.0; has = here.1 }))
    (λ no. ⊎_elim
    (λ i. inl (record { beneath = x ∷ i.beneath; over = i.over; is = ap (λ l. x ∷ l) i.is; has = i.has }))
    (λ none. inr (λ i. in_split P x stack rank no none i.beneath i.over i.is i.has))
    (in_or_not (λ l. P (x ∷ l)) (λ l. d (x ∷ l)) stack rank))
    (both_or_not (x ≡ rank) (P []) (eq_or_not x rank) (d []))

-- the rank stands in one of the stacks, on a list with the property
record IsOn (P : List ℕ → Type 0) (stacks : List (List ℕ)) (rank : ℕ) : Type 0 where
  beneath : List ℕ
  stands : StandsOn stacks beneath rank
  has : P beneath

on_split : (P : List ℕ → Type 0) (stack : List ℕ) (stacks : List (List ℕ)) (rank : ℕ) → (IsIn P stack rank → ⊥) → (IsOn P stacks rank → ⊥) → (row : ℕ) (beneath over : List ℕ) → slice_get (stack ∷ stacks) row ≡ Some (beneath ++ rank ∷ over) → P beneath → ⊥
on_split P stack stacks rank never none zero beneath over e has = never (record { beneath = beneath; over = over; is = same_Some stack (beneath ++ rank ∷ over) e; has = has })
on_split P stack stacks rank never none (suc row) beneath over e has = none (record { beneath = beneath; stands = record { row = row; over = over; stands = e }; has = has })

on_or_not : (P : List ℕ → Type 0) → ((beneath : List ℕ) → IsDecided (P beneath)) → (stacks : List (List ℕ)) (rank : ℕ) → IsDecided (IsOn P stacks rank)
on_or_not P d [] rank = inr (λ o. let st = o.stands in let lt = slice_get_within [] st.row (o.beneath ++ rank ∷ st.over) st.stands in omega arith)
on_or_not P d (stack ∷ stacks) rank = ⊎_elim
    (λ i. inl (record { beneath = i.beneath; stands = record { row = 0; over = i.over; stands = ap Some i.is }; has = i.has }))
    (λ no. ⊎_elim
    (λ o. let st = o.stands in inl (record { beneath = o.beneath; stands = record { row = suc st.row; over = st.over; stands = st.stands }; has = o.has }))
    (λ none. inr (λ o. let st = o.stands in on_split P stack stacks rank no none st.row o.beneath st.over st.stands o.has))
    (on_or_not P d stacks rank))
    (in_or_not P d stack rank)

-- the turn is the least ordered rank of the list
abbrev IsTurn : Position → ℕ → List ℕ → Type 0
IsTurn s turn beneath = (holds turn beneath ≡ true) × ((x : ℕ) → x ≤ s.ordered → holds x beneath ≡ true → turn ≤ x)

turn_or_not : (s : Position) (turn : ℕ) (beneath : List ℕ) → IsDecided (IsTurn s turn beneath)
turn_or_not s turn beneath = both_or_not (holds turn beneath ≡ true) ((x : ℕ) → x ≤ s.ordered → holds x beneath ≡ true → turn ≤ x)
    (true_or_not (holds turn beneath))
    (up_to (λ x. holds x beneath ≡ true → turn ≤ x)
    (λ x. ⊎_elim (λ le. inl (λ t. le)) (λ no. ⊎_elim (λ t. inr (λ h. no (h t))) (λ absent. inl (λ t. absurd (absent t))) (true_or_not (holds x beneath))) (le_or_not turn x))
    s.ordered)

pub blocker_or_not : (s : Position) (b : Blocker) → IsDecided (IsBlocker s b)
blocker_or_not s b = same_decided ((b.turn ≤ s.ordered) × (b.turn < b.rank) × IsOn (IsTurn s b.turn) s.stacks b.rank) (IsBlocker s b) (
  λ z. let o = z.2 in record { beneath = o.beneath; stands = o.stands; turn_stands = o.has.0; is_ordered = z.0; is_lower = z.1; least = o.has.1 },
  λ i. (i.is_ordered, i.is_lower, record { beneath = i.beneath; stands = i.stands; has = (i.turn_stands, i.least) }),
)
    (three_or_not (b.turn ≤ s.ordered) (b.turn < b.rank) (IsOn (IsTurn s b.turn) s.stacks b.rank)
    (le_or_not b.turn s.ordered) (lt_or_not b.turn b.rank) (on_or_not (IsTurn s b.turn) (turn_or_not s b.turn) s.stacks b.rank))

above_or_not : (s : Position) (upper lower : ℕ) → IsDecided (StandsAbove s upper lower)
above_or_not s upper lower = same_decided (IsOn (λ beneath. holds lower beneath ≡ true) s.stacks upper) (StandsAbove s upper lower)
    (λ o. record { beneath = o.beneath; stands = o.stands; held = o.has }, λ a. record { beneath = a.beneath; stands = a.stands; has = a.held })
    (on_or_not (λ beneath. holds lower beneath ≡ true) (λ beneath. true_or_not (holds lower beneath)) s.stacks upper)

follow_or_not : (s : Position) (a b : Blocker) → IsDecided (MayFollow s a b)
follow_or_not s a b = same_decided ((a.rank ≤ s.ordered) × (a.rank < b.rank) × ComesBefore s a b) (MayFollow s a b)
    (λ z. record { leaves = z.0; rising = z.1; before = z.2 }, λ m. (m.leaves, m.rising, m.before))
    (three_or_not (a.rank ≤ s.ordered) (a.rank < b.rank) (ComesBefore s a b)
    (le_or_not a.rank s.ordered) (lt_or_not a.rank b.rank)
    (either_or_not (a.turn < b.turn) ((a.turn ≡ b.turn) × StandsAbove s a.rank b.rank) (lt_or_not a.turn b.turn)
    (both_or_not (a.turn ≡ b.turn) (StandsAbove s a.rank b.rank) (eq_or_not a.turn b.turn) (above_or_not s a.rank b.rank))))

linked_or_not : (s : Position) (chain : List Blocker) → IsDecided (AreLinked s chain)
linked_or_not s [] = inl tt
linked_or_not s (a ∷ []) = inl tt
linked_or_not s (a ∷ b ∷ chain) = both_or_not (MayFollow s a b) (AreLinked s (b ∷ chain)) (follow_or_not s a b) (linked_or_not s (b ∷ chain))

in_time_or_not : (chain : List Blocker) → IsDecided (AreInTime chain)
in_time_or_not [] = inl tt
in_time_or_not (a ∷ chain) = all_or_not (λ (b : Blocker). b.turn < a.rank) (λ b. lt_or_not b.turn a.rank) chain

chain_or_not : (s : Position) (chain : List Blocker) → IsDecided (IsChain s chain)
chain_or_not s chain = same_decided (AllByRecursion (IsBlocker s) chain × AreLinked s chain × AreInTime chain) (IsChain s chain)
    (λ z. record { blockers = z.0; linked = z.1; in_time = z.2 }, λ c. (c.blockers, c.linked, c.in_time))
    (three_or_not (AllByRecursion (IsBlocker s) chain) (AreLinked s chain) (AreInTime chain)
    (all_or_not (IsBlocker s) (blocker_or_not s) chain) (linked_or_not s chain) (in_time_or_not chain))

-- no rank above this stands in the lists
list_under : (ys : List ℕ) → (most : ℕ) × ((x : ℕ) → most < x → times x ys ≡ 0)
list_under [] = (0, λ x lt. refl)
list_under (y ∷ ys) = let t = list_under ys in (y + t.0, λ x lt. omega (arith, times-cons x y ys, other_is_zero x y (λ e. omega arith), t.1 x (omega arith)))

lists_under : (lists : List (List ℕ)) → (most : ℕ) × ((x : ℕ) → most < x → occurrences x lists ≡ 0)
lists_under [] = (0, λ x lt. refl)
lists_under (ys ∷ lists) = let t = lists_under lists in let u = list_under ys in (u.0 + t.0, λ x lt. omega (arith, occurrences-cons x ys lists, u.1 x (omega arith), t.1 x (omega arith)))

apart_or_not : (lists : List (List ℕ)) → IsDecided ((x : ℕ) → occurrences x lists ≤ 1)
apart_or_not lists =
    let t = lists_under lists in
    same_decided ((x : ℕ) → x ≤ t.0 → occurrences x lists ≤ 1) ((x : ℕ) → occurrences x lists ≤ 1)
    (λ all x. ⊎_elim (λ lt. omega (arith, t.1 x lt)) (λ le. all x le) (cases_lt t.0 x), λ all x le. all x)
    (up_to (λ x. occurrences x lists ≤ 1) (λ x. le_or_not (occurrences x lists) 1) t.0)

pub family_or_not : (s : Position) (family : List (List Blocker)) → IsDecided (IsFamily s family)
family_or_not s family = same_decided (AllByRecursion (IsChain s) family × ((x : ℕ) → occurrences x (map ranks_of family) ≤ 1)) (IsFamily s family)
    (λ z. record { chains = z.0; apart = z.1 }, λ f. (f.chains, f.apart))
    (both_or_not (AllByRecursion (IsChain s) family) ((x : ℕ) → occurrences x (map ranks_of family) ≤ 1) (all_or_not (IsChain s) (chain_or_not s) family) (apart_or_not (map ranks_of family)))

-- ---- the ranks that may be in a chain

-- all ranks of the stacks
abbrev pub all_of : List (List ℕ) → List ℕ
all_of [] = []
all_of (stack ∷ stacks) = stack ++ all_of stacks

pub stands_there : (stacks : List (List ℕ)) (rank row : ℕ) (beneath over : List ℕ) → slice_get stacks row ≡ Some (beneath ++ rank ∷ over) → Contains (all_of stacks) rank
stands_there [] rank row beneath over e = let lt = slice_get_within [] row (beneath ++ rank ∷ over) e in absurd (omega arith)
stands_there (stack ∷ stacks) rank zero beneath over e =
    Contains-append_left stack (all_of stacks) rank (subst (λ l. Contains l rank) (sym (same_Some stack (beneath ++ rank ∷ over) e)) (Contains-append_right beneath (rank ∷ over) rank (in_head rank over)))
stands_there (stack ∷ stacks) rank (suc row) beneath over e = Contains-append_right stack (all_of stacks) rank (stands_there stacks rank row beneath over e)
