use Rattle.std.proofs.Common.{◌≡◌, ℕ, ◌≤◌, ◌↔◌, List, length, filter, sym, ap, ◌∙◌, subst, All, Contains}
use Rattle.std.specs.List.Sorted.{IsSorted}
use Rattle.std.proofs.lemmas.List.Elements.{All-contains}
use Rattle.crp_tree.specs.Names.{IsFirst}
use Rattle.crp_tree.specs.Claims.{IsRootOrGiven}
use Rattle.crp_tree.proofs.InOrder.{name_cmp, sorted_from_rising}
use Rattle.crp_checker.specs.Gathered.{Gathered, gathered, is_short, is_longer, first_in}
use Rattle.crp_checker.specs.Needs.{IsWithoutPart, IsWithoutNeed}
use Rattle.crp_checker.proofs.InOrder.{absent_in, least_missing, none_missing, least_unneeded, same_names}
use Rattle.crp_checker.proofs.Gathering.{first_missing, longer_missing, needed_short}
use Rattle.crp_checker.proofs.needed.hold_names.Goals as goal
use Rattle.crp_checker.proofs.needed.hold_names.Goals.{In_ok-needed, In_default}

-- the needed names of at most 8 rows
short_needed : (c : In_ok-needed) (list : List (List ℕ)) → c.args.given ≡ gathered list → (name : List ℕ) → Contains c.in_ok-needed.needed.items name ↔ IsRootOrGiven (filter is_short list) name
short_needed c list kept =
    subst (λ l. (name : List ℕ) → Contains c.in_ok-needed.needed.items name ↔ IsRootOrGiven l name) (c.into_parts-short.ensures.short ∙ ap (λ (g : Gathered). g.short) kept) c.in_ok-needed.ensures.all

-- the first of the longer ones
longer_is : (c : In_ok-needed) (list : List (List ℕ)) → c.args.given ≡ gathered list → c.into_parts-short.result.1 ≡ first_in (filter is_longer list)
longer_is c list kept = c.into_parts-short.ensures.longer ∙ ap (λ (g : Gathered). g.longer) kept

-- no part has a longer name
low : (c : In_ok-needed) (name : List ℕ) → Contains c.args.names.items name → length name ≤ 8
low c name held = All-contains (λ n. length n ≤ 8) c.args.names.items name c.requires.short held

-- no needed name of at most 8 rows is absent
held : (c : In_default) → All (Contains c.args.names.items) c.in_ok-needed.needed.items
held c =
    subst (λ l. All (Contains c.args.names.items) l) c.deref.ensures.value
    (subst (λ l. All (Contains l) c.deref.result.now) c.deref-2.ensures.value c.in_default.ensures.none)

pub first_absent-requires : goal.first_absent-requires
first_absent-requires c = subst (IsSorted name_cmp) (sym c.deref-2.ensures.value) (sorted_from_rising c.args.names.items c.requires.rising)

pub returns-in-Some-clause-refused : goal.returns-in-Some-clause-refused
returns-in-Some-clause-refused c list kept =
    let d = (goal.at.returns-in-Some-clause-refused c).In_ok-needed in
    let names = c.args.names.items in
    let s = c.index.result.now in
    subst (IsFirst (IsWithoutPart names list)) (sym c.in_ok-name.ensures)
    (first_missing names list s c.into_parts-short.result.1 (low d) (longer_is d list kept)
    (least_missing names (filter is_short list) c.in_ok-needed.needed.items c.in-Some.i s (short_needed d list kept) c.in_ok-needed.ensures.sorted c.index.ensures
    (absent_in c.deref.result.now c.deref-2.result.now _ _ c.in-Some.i c.deref.ensures.value c.deref-2.ensures.value c.in-Some.ensures.found)))

pub returns-in-Some-longer-clause-refused : goal.returns-in-Some-longer-clause-refused
returns-in-Some-longer-clause-refused c list kept =
    let d = (goal.at.returns-in-Some-longer-clause-refused c).In_ok-needed in
    let e = (goal.at.returns-in-Some-longer-clause-refused c).In_default in
    let names = c.args.names.items in
    longer_missing names list c.in-Some-longer.name (low d) (sym c.in-Some-longer.is ∙ longer_is d list kept)
    (none_missing names (filter is_short list) c.in_ok-needed.needed.items (short_needed d list kept) (held e))

pub returns-in-Some-first_absent-clause-refused : goal.returns-in-Some-first_absent-clause-refused
returns-in-Some-first_absent-clause-refused c list kept =
    let d = (goal.at.returns-in-Some-first_absent-clause-refused c).In_ok-needed in
    let e = (goal.at.returns-in-Some-first_absent-clause-refused c).In_default in
    let names = c.args.names.items in
    let needed = c.in_ok-needed.needed.items in
    let all = needed_short list needed (sym c.in_default-longer.is ∙ longer_is d list kept) (short_needed d list kept) in
    let x = c.index-in-Some-first_absent.result.now in (
      none_missing names list needed all (held e),
      subst (IsFirst (IsWithoutNeed names list)) (sym (c.in_ok-name-2.ensures ∙ c.rows.ensures.value))
          (least_unneeded names list needed c.in-Some-first_absent.i x all (sorted_from_rising names c.requires.rising) c.index-in-Some-first_absent.ensures
          (absent_in c.deref-3.result.now c.deref-4.result.now _ _ c.in-Some-first_absent.i c.deref-3.ensures.value c.deref-4.ensures.value c.in-Some-first_absent.ensures.found)),
    )

pub returns-clause-same : goal.returns-clause-same
returns-clause-same c list kept =
    let d = (goal.at.returns-clause-same c).In_ok-needed in
    let e = (goal.at.returns-clause-same c).In_default in
    let names = c.args.names.items in
    let needed = c.in_ok-needed.needed.items in
    let all = needed_short list needed (sym c.in_default-longer.is ∙ longer_is d list kept) (short_needed d list kept) in
    same_names names list needed all (held e)
    (subst (λ l. All (Contains needed) l) c.deref-3.ensures.value (subst (λ l. All (Contains l) c.deref-3.result.now) c.deref-4.ensures.value c.in_default-first_absent.ensures.none))
