-- Containers that block, by the words that compute.
use Rattle.std.proofs.Common.{◌≡◌, ℕ, zero, suc, ◌+◌, ◌-◌, ◌<◌, ◌≤◌, min, true, false, Bool, ◌==◌, nat_le, nat_lt, count_by, take, List, [], ◌∷◌, ◌++◌, length, map, get_or, Some, slice_get, refl, sym, ap, ◌∙◌, subst, ⊎_elim, arith, append-nil}
use Rattle.std.specs.List.{AllByRecursion, list_all, zip}
use Rattle.std.proofs.lemmas.Option.{same_Some}
use Rattle.std.proofs.lemmas.Bool.{cases_Bool, cases_lt, or_left, or_right, and_parts, and_from, ltb-true, lt-ltb, eq-eqb, leb-true, both_ways}
use Rattle.std.proofs.lemmas.Slice.Zip.{length-zip}
use Rattle.std.proofs.lemmas.List.Sums.{sum_by_push}
use Rattle.crp_plan.specs.Rows.{holds, occurrences, above, below}
use Rattle.crp_plan.specs.Bay.{Position}
use Rattle.crp_plan.proofs.Lists.{times, one_if, times-cons, times_held, same_is_one, at_le_sum}
use Rattle.crp_plan.proofs.Determined.{same_row}
use Rattle.crp_plan.proofs.Buried.{below_not_held}
use Rattle.crp_bay.specs.Positions.{place}
use Rattle.crp_bay.proofs.Walked.{is_place}
use Rattle.crp_bounds.specs.Leasts.{least_ordered}
use Rattle.crp_bounds.proofs.Counting.{rows_more, rows_all}
use Rattle.crp_bounds.proofs.Cutting.{splits_at, least_le, least_held, times-append}
use Rattle.crp_chains.specs.declared.blocker.Blocker.{Blocker}
use Rattle.crp_chains.specs.Chains.{StandsOn, IsBlocker, StandsAbove, AreLinked, AreInTime, IsChain, ranks_of}
use Rattle.crp_chains.proofs.Clear.{IsClear}

-- the least is an ordered one
least_in : (ordered : ℕ) (xs : List ℕ) → least_ordered ordered xs < 255 → least_ordered ordered xs ≤ ordered
least_in ordered [] lt = absurd (omega arith)
least_in ordered (y ∷ xs) lt = ⊎_elim
    (λ a. let lt' : min y (least_ordered ordered xs) < 255 = rw a at lt in
    let le : y ≤ ordered = leb-true y ordered a in
    rw a (⊎_elim (λ less. omega arith) (λ ge. let ih = least_in ordered xs (omega arith) in omega arith) (cases_lt y (least_ordered ordered xs))))
    (λ a. let lt' : least_ordered ordered xs < 255 = rw a at lt in rw a (least_in ordered xs lt'))
    (cases_Bool (nat_le y ordered))

-- who stands above a lower ordered one blocks
pub blocker_made : (s : Position) (row : ℕ) (stack : List ℕ) (c k : ℕ) → slice_get s.stacks row ≡ Some stack → holds c stack ≡ true → k ≡ least_ordered s.ordered (below c stack) → k < c → c ≤ 255 →
    IsBlocker s (record { rank = c; turn = k })
blocker_made s row stack c k here held e lt few = record {
  beneath = below c stack;
  stands = record { row = row; over = above c stack; stands = here ∙ ap (λ z. Some z) (splits_at c stack held) };
  turn_stands = least_held s.ordered (below c stack) k (sym e) (omega arith);
  is_ordered = omega (arith, e, least_in s.ordered (below c stack) (omega arith));
  is_lower = lt;
  least = λ x le in_it. omega (arith, e, least_le s.ordered x (below c stack) in_it le);
}

-- a list holds what stands between two parts of it
pub holds_own : (low : List ℕ) (c : ℕ) (over : List ℕ) → holds c (low ++ c ∷ over) ≡ true
holds_own [] c over = or_left (c == c) (holds c over) (eq-eqb c c refl)
holds_own (x ∷ low) c over = or_right (x == c) (holds c (low ++ c ∷ over)) (holds_own low c over)

-- what is below a rank that stands once
pub stands_below : (stacks : List (List ℕ)) (low : List ℕ) (c row : ℕ) (stack : List ℕ) → occurrences c stacks ≤ 1 → StandsOn stacks low c → slice_get stacks row ≡ Some stack → holds c stack ≡ true → below c stack ≡ low
stands_below stacks low c row stack once st here held =
    let whole : List ℕ = low ++ c ∷ st.over in
    let e : st.row ≡ row = same_row c stacks st.row row whole stack once st.stands here (times_held c whole (holds_own low c st.over)) (times_held c stack held) in
    let same : stack ≡ whole = same_Some stack whole (sym here ∙ ap (slice_get stacks) (sym e) ∙ st.stands) in
    let free : holds c low ≡ false = ⊎_elim
    (λ t. absurd (omega (arith, once, at_le_sum (times c) stacks st.row whole st.stands, times-append c low (c ∷ st.over), times-cons c c st.over, same_is_one c, times_held c low t)))
    (λ f. f)
    (cases_Bool (holds c low)) in
    let none : below c (c ∷ st.over) ≡ [] = rw (eq-eqb c c refl) refl in
    ap (below c) same ∙ below_not_held c low (c ∷ st.over) free ∙ ap (λ l. low ++ l) none ∙ append-nil low

-- a rank stands on one list
pub one_beneath : (stacks : List (List ℕ)) (a b : List ℕ) (c : ℕ) → occurrences c stacks ≤ 1 → StandsOn stacks a c → StandsOn stacks b c → a ≡ b
one_beneath stacks a b c once u v =
    sym (stands_below stacks a c u.row (a ++ c ∷ u.over) once u u.stands (holds_own a c u.over)) ∙ stands_below stacks b c u.row (a ++ c ∷ u.over) once v u.stands (holds_own a c u.over)

-- a container has one turn
pub one_turn : (s : Position) (a b : Blocker) → IsClear s → IsBlocker s a → IsBlocker s b → a.rank ≡ b.rank → a ≡ b
one_turn s a b sound i j e =
    let here : StandsOn s.stacks j.beneath a.rank = subst (StandsOn s.stacks j.beneath) (sym e) j.stands in
    let same : i.beneath ≡ j.beneath = one_beneath s.stacks i.beneath j.beneath a.rank (sound.once a.rank) i.stands here in
    let le : a.turn ≤ b.turn = i.least b.turn j.is_ordered (ap (holds b.turn) same ∙ j.turn_stands) in
    let ge : b.turn ≤ a.turn = j.least a.turn i.is_ordered (ap (holds a.turn) (sym same) ∙ i.turn_stands) in
    let turns : a.turn ≡ b.turn = omega arith in
    ap (λ r. record { rank = r; turn = a.turn }) e ∙ ap (λ t. record { rank = b.rank; turn = t }) turns

pub same_chain : (s : Position) (a b : List Blocker) → IsClear s → AllByRecursion (IsBlocker s) a → AllByRecursion (IsBlocker s) b → ranks_of a ≡ ranks_of b → a ≡ b
same_chain s [] [] sound i j e = refl
same_chain s [] (y ∷ ys) sound i j e = cc
same_chain s (x ∷ xs) [] sound i j e = cc
same_chain s (x ∷ xs) (y ∷ ys) sound i j e =
    let h : x.rank ≡ y.rank = cc in
    let t : ranks_of xs ≡ ranks_of ys = cc in
    ap (λ z. z ∷ xs) (one_turn s x y sound i.0 j.0 h) ∙ ap (λ zs. y ∷ zs) (same_chain s xs ys sound i.1 j.1 t)

pub same_family : (s : Position) (a b : List (List Blocker)) → IsClear s → AllByRecursion (IsChain s) a → AllByRecursion (IsChain s) b → map ranks_of a ≡ map ranks_of b → a ≡ b
same_family s [] [] sound i j e = refl
same_family s [] (y ∷ ys) sound i j e = cc
same_family s (x ∷ xs) [] sound i j e = cc
same_family s (x ∷ xs) (y ∷ ys) sound i j e =
    let h : ranks_of x ≡ ranks_of y = cc in
    let t : map ranks_of xs ≡ map ranks_of ys = cc in
    let c : IsChain s x = i.0 in
    let d : IsChain s y = j.0 in
    ap (λ z. z ∷ xs) (same_chain s x y sound c.blockers d.blockers h) ∙ ap (λ zs. y ∷ zs) (same_family s xs ys sound i.1 j.1 t)

-- where a rank stands above no lower ordered one, it does not block
pub blocker_refused : (s : Position) (row : ℕ) (stack : List ℕ) (b : Blocker) → IsClear s → slice_get s.stacks row ≡ Some stack → holds b.rank stack ≡ true →
    b.rank ≤ least_ordered s.ordered (below b.rank stack) → IsBlocker s b → ⊥
blocker_refused s row stack b sound here held ge i =
    let own : below b.rank stack ≡ i.beneath = stands_below s.stacks i.beneath b.rank row stack (sound.once b.rank) i.stands here held in
    let le = least_le s.ordered b.turn (below b.rank stack) (ap (holds b.turn) own ∙ i.turn_stands) i.is_ordered in
    let lower : b.turn < b.rank = i.is_lower in
    omega arith

-- nor does one that stands in no row
pub blocker_absent : (s : Position) (b : Blocker) → ((i : ℕ) (stack : List ℕ) → slice_get s.stacks i ≡ Some stack → holds b.rank stack ≡ false) → IsBlocker s b → ⊥
blocker_absent s b free i =
    let st : StandsOn s.stacks i.beneath b.rank = i.stands in
    let whole : List ℕ = i.beneath ++ b.rank ∷ st.over in
    both_ways (holds b.rank whole) (free st.row whole st.stands) (holds_own i.beneath b.rank st.over)

-- who stands above whom, in the row of the turn
pub above_reads : (s : Position) (a : Blocker) (row : ℕ) (stack : List ℕ) (lower : ℕ) → IsClear s → IsBlocker s a → row ≡ place a.turn s.stacks → slice_get s.stacks row ≡ Some stack →
    (holds lower (below a.rank stack) ≡ true → StandsAbove s a.rank lower) × (StandsAbove s a.rank lower → holds lower (below a.rank stack) ≡ true)
above_reads s a row stack lower sound i is here = (λ h. record { beneath = i.beneath; stands = i.stands; held = ap (holds lower) (sym own) ∙ h }, back)
  where
    st : StandsOn s.stacks i.beneath a.rank
    st = i.stands

    whole : List ℕ
    whole = i.beneath ++ a.rank ∷ i.stands.over

    in_whole : 1 ≤ times a.turn (i.beneath ++ a.rank ∷ i.stands.over)
    in_whole = omega (arith, times-append a.turn i.beneath (a.rank ∷ i.stands.over), times_held a.turn i.beneath i.turn_stands)

    at_row : place a.turn s.stacks ≡ i.stands.row
    at_row = is_place a.turn s.stacks i.stands.row (i.beneath ++ a.rank ∷ i.stands.over) (sound.once a.turn) i.stands.stands in_whole

    same : stack ≡ i.beneath ++ a.rank ∷ i.stands.over
    same = same_Some stack (i.beneath ++ a.rank ∷ i.stands.over) (sym here ∙ ap (slice_get s.stacks) (is ∙ at_row) ∙ i.stands.stands)

    own : below a.rank stack ≡ i.beneath
    own = stands_below s.stacks i.beneath a.rank row stack (sound.once a.rank) i.stands here (ap (holds a.rank) same ∙ holds_own i.beneath a.rank i.stands.over)

    back : StandsAbove s a.rank lower → holds lower (below a.rank stack) ≡ true
    back u = ap (holds lower) (own ∙ one_beneath s.stacks i.beneath u.beneath a.rank (sound.once a.rank) i.stands u.stands) ∙ u.held

-- one more
pub each_push : {X : Type 0} (P : X → Type 0) (xs : List X) (x : X) → AllByRecursion P xs → P x → AllByRecursion P (xs ++ x ∷ [])
each_push P [] x a p = (p, tt)
each_push P (y ∷ xs) x a p = (a.0, each_push P xs x a.1 p)

-- a member by its place among the ranks
pub member_at : (P : Blocker → Type 0) (chain : List Blocker) (i : ℕ) → i < length (ranks_of chain) → AllByRecursion P chain → (b : Blocker) × (b.rank ≡ get_or (ranks_of chain) i 0) × P b
member_at P [] i lt a = absurd (omega arith)
member_at P (b ∷ chain) zero lt a = (b, refl, a.0)
member_at P (b ∷ chain) (suc i) lt a = member_at P chain i (omega arith) a.1

-- ranks of which one does not block
pub member_refused : (s : Position) (ranks : List ℕ) (i : ℕ) → i < length ranks → ((b : Blocker) → b.rank ≡ get_or ranks i 0 → IsBlocker s b → ⊥) → (chain : List Blocker) → ranks_of chain ≡ ranks → AllByRecursion (IsBlocker s) chain → ⊥
member_refused s ranks i lt no_one chain e a =
    let m = member_at (IsBlocker s) chain i (omega (arith, ap length e)) a in
    no_one m.0 (m.1 ∙ ap (λ l. get_or l i 0) e) m.2

-- fewer than two are linked
pub linked_short : (s : Position) (chain : List Blocker) → length chain ≤ 1 → AreLinked s chain
linked_short s [] le = tt
linked_short s (a ∷ []) le = tt
linked_short s (a ∷ b ∷ chain) le = absurd (omega arith)

-- turns before a rank, by their test
all_before : (rank : ℕ) (chain : List Blocker) → list_all (λ b. nat_lt b.turn rank) chain ≡ true → AllByRecursion (λ b. b.turn < rank) chain
all_before rank [] h = tt
all_before rank (b ∷ chain) h =
    let p = and_parts (nat_lt b.turn rank) (list_all (λ b. nat_lt b.turn rank) chain) h in
    (ltb-true b.turn rank p.0, all_before rank chain p.1)

before_all : (rank : ℕ) (chain : List Blocker) → AllByRecursion (λ b. b.turn < rank) chain → list_all (λ b. nat_lt b.turn rank) chain ≡ true
before_all rank [] h = refl
before_all rank (b ∷ chain) h = and_from (nat_lt b.turn rank) (list_all (λ b. nat_lt b.turn rank) chain) (lt-ltb b.turn rank h.0) (before_all rank chain h.1)

pub in_time_reads : (chain : List Blocker) (first : Blocker) (rest : List Blocker) → chain ≡ first ∷ rest →
    (list_all (λ b. nat_lt b.turn first.rank) rest ≡ true → AreInTime chain) × (AreInTime chain → list_all (λ b. nat_lt b.turn first.rank) rest ≡ true)
in_time_reads chain first rest e = (
  λ h. subst AreInTime (sym e) (all_before first.rank rest h),
  λ h. before_all first.rank rest (subst AreInTime e h),
)

-- one row more is counted
zip_at : (hs : List ℕ) (xs : List (List ℕ)) (i h : ℕ) (x : List ℕ) → slice_get hs i ≡ Some h → slice_get xs i ≡ Some x → slice_get (zip hs xs) i ≡ Some (h, x)
zip_at [] xs i h x eh ex = cc
zip_at (k ∷ hs) [] i h x eh ex = cc
zip_at (k ∷ hs) (y ∷ xs) zero h x eh ex = ap (λ n. Some (n, y)) (same_Some k h eh) ∙ ap (λ z. Some (h, z)) (same_Some y x ex)
zip_at (k ∷ hs) (y ∷ xs) (suc i) h x eh ex = zip_at hs xs i h x eh ex

pub row_counted : (f : ℕ × List ℕ → Bool) (hs : List ℕ) (xs : List (List ℕ)) (row h count : ℕ) (x : List ℕ) → 1 ≤ row → slice_get hs (row - 1) ≡ Some h → slice_get xs (row - 1) ≡ Some x →
    count ≡ count_by f (take (row - 1) (zip hs xs)) → count + one_if (f (h, x)) ≡ count_by f (take (row + 1 - 1) (zip hs xs))
row_counted f hs xs row h count x lo eh ex e =
    omega (
      arith,
      e,
      ap (count_by f) (rows_more (zip hs xs) row (h, x) lo (zip_at hs xs (row - 1) h x eh ex)),
      sum_by_push (λ r. one_if (f r)) (take (row - 1) (zip hs xs)) (h, x),
    )

pub rows_counted : (f : ℕ × List ℕ → Bool) (hs : List ℕ) (xs : List (List ℕ)) (row count : ℕ) → length hs ≤ row - 1 → count ≡ count_by f (take (row - 1) (zip hs xs)) → count ≡ count_by f (zip hs xs)
rows_counted f hs xs row count end e = e ∙ ap (count_by f) (rows_all (zip hs xs) row (omega (arith, length-zip hs xs)))
