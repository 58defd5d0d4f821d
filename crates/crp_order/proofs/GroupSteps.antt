-- The containers that leave each bay, one container of the sequence after the other.
use Prim.Native.Nat.{zero}
use Rattle.std.proofs.Common.{◌≡◌, ◌<◌, ◌+◌, ◌==◌, ℕ, suc, true, false, cond, List, [], ◌∷◌, ◌++◌, length, take, get_or, set, map, replicate, Some, slice_get, Vec, Global, refl, sym, ap, ◌∙◌, inl, inr, arith}
use Rattle.std.proofs.lemmas.Bool.{cases_eq, eq-eqb, ne_eqb}
use Rattle.std.proofs.lemmas.List.{take_more, length-replicate, length-set, map-append}
use Rattle.std.proofs.lemmas.List.Elements.{filter-append}
use denote.Ref.{Bor}
use Rattle.std.specs.Option.{option_map}
use Rattle.std.proofs.lemmas.Option.{slice_get_within, slice_get-map, slice_get_read, same_Some}
use Rattle.crp_plan.proofs.Lists.{get_put_same, get_put_other}
use Rattle.crp_yard.specs.Inventory.{StackedBay, is_among}
use Rattle.crp_order.specs.BayProblems.{standing, leaving}
use Rattle.crp_order.specs.Groups.{pointed, AreGroups}

slice_get-replicate : {X : Type 0} (n j : ℕ) (x : X) → j < n → slice_get (replicate n x) j ≡ Some x
slice_get-replicate zero j x h = absurd (omega arith)
slice_get-replicate (suc n) zero x h = refl
slice_get-replicate (suc n) (suc j) x h = slice_get-replicate n j x (omega arith)

pub groups-none : (bays : List StackedBay) (groups : List (List (List ℕ))) (n : ℕ) → n ≡ length bays → groups ≡ replicate n [] → AreGroups [] bays groups
groups-none bays groups n count e = record {
  one_for_each = ap length e ∙ length-replicate n [] ∙ count;
  leaving_there = λ j bay at. rw e (slice_get-replicate n j [] (omega (arith, slice_get_within bays j bay at)));
}

leaving-more : (sequence : List (List ℕ)) (i : ℕ) (x : List ℕ) (stacks : List (List (List ℕ))) → i < length sequence → x ≡ get_or sequence i x
    → leaving (take (i + 1) sequence) stacks ≡ leaving (take i sequence) stacks ++ cond (is_among (standing stacks) x) (x ∷ []) []
leaving-more sequence i x stacks h at = rw (take_more sequence i x h, ← at) (filter-append (is_among (standing stacks)) (take i sequence) (x ∷ []))

append-nil : (xs : List (List ℕ)) → xs ++ [] ≡ xs
append-nil [] = refl
append-nil (x ∷ xs) = ap (λ ys. x ∷ ys) (append-nil xs)

-- a container that stands in no bay
pub groups-pass : (sequence : List (List ℕ)) (bays : List StackedBay) (groups : List (List (List ℕ))) (i : ℕ) (x : List ℕ) → i < length sequence → x ≡ get_or sequence i x
    → AreGroups (take i sequence) bays groups → ((j : ℕ) (bay : StackedBay) → slice_get bays j ≡ Some bay → is_among (standing bay.1) x ≡ false) → AreGroups (take (i + 1) sequence) bays groups
groups-pass sequence bays groups i x h at before none = record {
  one_for_each = before.one_for_each;
  leaving_there = λ j bay e. before.leaving_there j bay e ∙ ap Some (sym (leaving-more sequence i x bay.1 h at ∙ ap (λ b. leaving (take i sequence) bay.1 ++ cond b (x ∷ []) []) (none j bay e) ∙ append-nil (leaving (take i sequence) bay.1)));
}

-- a container that stands in the bay with the number k, whose group it joins
pub groups-join : (sequence : List (List ℕ)) (bays : List StackedBay) (groups : List (List (List ℕ))) (i : ℕ) (x : List ℕ) (k : ℕ) (group : List (List ℕ)) → i < length sequence → x ≡ get_or sequence i x
    → AreGroups (take i sequence) bays groups → ((j : ℕ) (bay : StackedBay) → slice_get bays j ≡ Some bay → is_among (standing bay.1) x ≡ (k == j)) → slice_get groups k ≡ Some group
    → AreGroups (take (i + 1) sequence) bays (set groups k (group ++ x ∷ []))
groups-join sequence bays groups i x k group h at before which found = record {
  one_for_each = length-set groups k (group ++ x ∷ []) ∙ before.one_for_each;
  leaving_there = λ j bay e. elim (cases_eq j k) [
    | inl eq ↦
        let here : is_among (standing bay.1) x ≡ true = which j bay e ∙ eq-eqb k j (sym eq) in
        let old : leaving (take i sequence) bay.1 ≡ group = same_Some (leaving (take i sequence) bay.1) group (sym (before.leaving_there j bay e) ∙ ap (slice_get groups) eq ∙ found) in
        let new : leaving (take (i + 1) sequence) bay.1 ≡ group ++ x ∷ [] =
        leaving-more sequence i x bay.1 h at ∙ ap (λ b. leaving (take i sequence) bay.1 ++ cond b (x ∷ []) []) here ∙ ap (λ g. g ++ x ∷ []) old in
        ap (slice_get (set groups k (group ++ x ∷ []))) eq ∙ get_put_same groups k group (group ++ x ∷ []) found ∙ ap Some (sym new)
    | inr ne ↦
        let there : is_among (standing bay.1) x ≡ false = which j bay e ∙ ne_eqb k j (λ eq. ne (sym eq)) in
        let same : leaving (take (i + 1) sequence) bay.1 ≡ leaving (take i sequence) bay.1 =
        leaving-more sequence i x bay.1 h at ∙ ap (λ b. leaving (take i sequence) bay.1 ++ cond b (x ∷ []) []) there ∙ append-nil (leaving (take i sequence) bay.1) in
        get_put_other groups k j (group ++ x ∷ []) ne ∙ before.leaving_there j bay e ∙ ap Some (sym same)
  ];
}

-- the groups as lists of references
abbrev pub Group : Type 0
Group = Vec (Bor (List ℕ)) Global

pub group_found : (groups : List Group) (k : ℕ) (group : Group) → k < length groups → group ≡ get_or groups k group → slice_get (map (λ g. pointed g.items) groups) k ≡ Some (pointed group.items)
group_found groups k group h e = slice_get-map (λ (g : Group). pointed g.items) groups k ∙ ap (option_map (λ (g : Group). pointed g.items)) (slice_get_read groups (length groups) k group refl h e)

pub group_pushed : (old new : List (Bor (List ℕ))) (last : Bor (List ℕ)) (x : List ℕ) → new ≡ old ++ last ∷ [] → last.now ≡ x → pointed new ≡ pointed old ++ x ∷ []
group_pushed old new last x e is = ap pointed e ∙ map-append (λ reference. reference.now) old (last ∷ []) ∙ ap (λ y. pointed old ++ y ∷ []) is

pub groups_set : (groups : List Group) (k : ℕ) (group : Group) (last : List (List ℕ)) → pointed group.items ≡ last
    → map (λ g. pointed g.items) (set groups k group) ≡ set (map (λ g. pointed g.items) groups) k last
groups_set [] k group last e = refl
groups_set (g ∷ groups) zero group last e = ap (λ l. l ∷ map (λ (h : Group). pointed h.items) groups) e
groups_set (g ∷ groups) (suc k) group last e = ap (λ l. pointed g.items ∷ l) (groups_set groups k group last e)
