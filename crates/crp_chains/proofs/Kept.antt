-- Chains under moves: who blocks, who comes up first, and which rows are open.
use Rattle.std.proofs.Common.{◌≡◌, ◌≢◌, ℕ, suc, ◌-◌, ◌<◌, ◌≤◌, true, List, [], ◌∷◌, ◌++◌, Some, slice_get, slice_set, refl, sym, ap, ◌∙◌, subst, inl, inr, ⊎_elim, arith, append-nil}
use Rattle.std.specs.List.{AllByRecursion}
use Rattle.std.proofs.lemmas.Option.{same_Some}
use Rattle.std.proofs.lemmas.Bool.{cases_eq, cases_lt, lt-ltb, both_ways}
use Rattle.crp_plan.specs.Rows.{holds}
use Rattle.crp_plan.specs.Bay.{Position, IsTaken, IsShifted}
use Rattle.crp_plan.proofs.Lists.{get_put_same, get_put_other}
use Rattle.crp_plan.proofs.Sound.{apart}
use Rattle.crp_bounds.specs.Bounds.{holds_lower}
use Rattle.crp_bounds.proofs.Blocked.{lower_from_held}
use Rattle.crp_chains.specs.declared.blocker.Blocker.{Blocker}
use Rattle.crp_chains.specs.Chains.{StandsOn, IsBlocker, StandsAbove, ComesBefore, MayFollow, AreLinked, IsChain, standing_at, is_open}
use Rattle.crp_chains.proofs.Clear.{IsClear}
use Rattle.crp_chains.proofs.Stands.{popped, pushed, beneath_stands, none_above, on_top}
use Rattle.crp_chains.proofs.Opening.{each_weaker, each_both, standing_split, standing_prefix, closed_lower, open_prefix}

-- a turn is not before the next container's
pub turn_late : (s : Position) (b : Blocker) → IsClear s → IsBlocker s b → s.next ≤ b.turn
turn_late s b sound k = ⊎_elim
    (λ lt. absurd (omega (arith, beneath_stands s.stacks k.beneath b.rank b.turn k.stands k.turn_stands, sound.gone b.turn lt)))
    (λ ge. ge)
    (cases_lt b.turn s.next)

-- who blocks is not the next container
pub rank_late : (s : Position) (b : Blocker) → IsClear s → IsBlocker s b → s.next < b.rank
rank_late s b sound k = let lower : b.turn < b.rank = k.is_lower in omega (arith, turn_late s b sound k)

-- the stacks after a shift
abbrev pub stacks_shifted : (s : Position) (from to : ℕ) (t : Position) → IsShifted s from to t → List (List ℕ)
stacks_shifted s from to t k = slice_set (slice_set s.stacks (from - 1) k.rest) (to - 1) (k.onto ++ k.moved ∷ [])

abbrev pub put : (s : Position) (from to : ℕ) (t : Position) → IsShifted s from to t → Position
put s from to t k = record s { stacks = stacks_shifted s from to t k }

onto_still : (s : Position) (from to : ℕ) (t : Position) → (k : IsShifted s from to t) → slice_get (slice_set s.stacks (from - 1) k.rest) (to - 1) ≡ Some k.onto
onto_still s from to t k = get_put_other s.stacks (from - 1) (to - 1) k.rest (apart from to k.from_counts k.to_counts k.another) ∙ k.target

pub onto_after : (s : Position) (from to : ℕ) (t : Position) → (k : IsShifted s from to t) → slice_get (stacks_shifted s from to t k) (to - 1) ≡ Some (k.onto ++ k.moved ∷ [])
onto_after s from to t k = get_put_same (slice_set s.stacks (from - 1) k.rest) (to - 1) k.onto (k.onto ++ k.moved ∷ []) (onto_still s from to t k)

stands_shifted : (s : Position) (from to : ℕ) (t : Position) → (k : IsShifted s from to t) → (low : List ℕ) (a : ℕ) → a ≢ k.moved →
    StandsOn s.stacks low a → StandsOn (stacks_shifted s from to t k) low a
stands_shifted s from to t k low a ne st =
    pushed (slice_set s.stacks (from - 1) k.rest) (to - 1) k.onto k.moved low a (onto_still s from to t k) (popped s.stacks (from - 1) k.rest k.moved low a k.stack ne st)

blocker_shifted : (s : Position) (from to : ℕ) (t : Position) → (k : IsShifted s from to t) → (b : Blocker) → b.rank ≢ k.moved → IsBlocker s b → IsBlocker (put s from to t k) b
blocker_shifted s from to t k b ne i = record {
  beneath = i.beneath;
  stands = stands_shifted s from to t k i.beneath b.rank ne i.stands;
  turn_stands = i.turn_stands;
  is_ordered = i.is_ordered;
  is_lower = i.is_lower;
  least = i.least;
}

before_shifted : (s : Position) (from to : ℕ) (t : Position) → (k : IsShifted s from to t) → (a b : Blocker) → a.rank ≢ k.moved → ComesBefore s a b → ComesBefore (put s from to t k) a b
before_shifted s from to t k a b ne c = ⊎_elim
    (λ lt. inl lt)
    (λ p. let u : StandsAbove s a.rank b.rank = p.1 in inr (p.0, record { beneath = u.beneath; stands = stands_shifted s from to t k u.beneath a.rank ne u.stands; held = u.held }))
    c

linked_shifted : (s : Position) (from to : ℕ) (t : Position) → (k : IsShifted s from to t) → (chain : List Blocker) → AllByRecursion (λ b. b.rank ≢ k.moved) chain →
    AreLinked s chain → AreLinked (put s from to t k) chain
linked_shifted s from to t k [] others l = tt
linked_shifted s from to t k (a ∷ []) others l = tt
linked_shifted s from to t k (a ∷ b ∷ chain) others l =
    let f : MayFollow s a b = l.0 in
    (record { leaves = f.leaves; rising = f.rising; before = before_shifted s from to t k a b others.0 f.before }, linked_shifted s from to t k (b ∷ chain) others.1 l.1)

-- a chain that the moved container is not in stays one
pub chain_shifted : (s : Position) (from to : ℕ) (t : Position) → (k : IsShifted s from to t) → (chain : List Blocker) → AllByRecursion (λ b. b.rank ≢ k.moved) chain →
    IsChain s chain → IsChain (put s from to t k) chain
chain_shifted s from to t k chain others c = record {
  blockers = each_both (λ b. b.rank ≢ k.moved) (IsBlocker s) (IsBlocker (put s from to t k)) (λ b ne i. blocker_shifted s from to t k b ne i) chain others c.blockers;
  linked = linked_shifted s from to t k chain others c.linked;
  in_time = c.in_time;
}

-- the same where it is lifted out
abbrev pub out : (s : Position) (i : ℕ) (rest : List ℕ) → Position
out s i rest = record s { stacks = slice_set s.stacks i rest }

stands_lifted : (s : Position) (i : ℕ) (rest : List ℕ) (x : ℕ) → slice_get s.stacks i ≡ Some (rest ++ x ∷ []) → (low : List ℕ) (a : ℕ) → a ≢ x → StandsOn s.stacks low a → StandsOn (slice_set s.stacks i rest) low a
stands_lifted s i rest x top low a ne st = popped s.stacks i rest x low a top ne st

blocker_lifted : (s : Position) (i : ℕ) (rest : List ℕ) (x : ℕ) → slice_get s.stacks i ≡ Some (rest ++ x ∷ []) → (b : Blocker) → b.rank ≢ x → IsBlocker s b → IsBlocker (out s i rest) b
blocker_lifted s i rest x top b ne j = record {
  beneath = j.beneath;
  stands = stands_lifted s i rest x top j.beneath b.rank ne j.stands;
  turn_stands = j.turn_stands;
  is_ordered = j.is_ordered;
  is_lower = j.is_lower;
  least = j.least;
}

linked_lifted : (s : Position) (i : ℕ) (rest : List ℕ) (x : ℕ) → slice_get s.stacks i ≡ Some (rest ++ x ∷ []) → (chain : List Blocker) → AllByRecursion (λ b. b.rank ≢ x) chain → AreLinked s chain → AreLinked (out s i rest) chain
linked_lifted s i rest x top [] others l = tt
linked_lifted s i rest x top (a ∷ []) others l = tt
linked_lifted s i rest x top (a ∷ b ∷ chain) others l =
    let f : MayFollow s a b = l.0 in
    (record { leaves = f.leaves; rising = f.rising; before = before f.before }, linked_lifted s i rest x top (b ∷ chain) others.1 l.1)
  where
    before : ComesBefore s a b → ComesBefore (out s i rest) a b
    before c = ⊎_elim
        (λ lt. inl lt)
        (λ p. let u : StandsAbove s a.rank b.rank = p.1 in inr (p.0, record { beneath = u.beneath; stands = stands_lifted s i rest x top u.beneath a.rank others.0 u.stands; held = u.held }))
        c

pub chain_lifted : (s : Position) (i : ℕ) (rest : List ℕ) (x : ℕ) → slice_get s.stacks i ≡ Some (rest ++ x ∷ []) → (chain : List Blocker) → AllByRecursion (λ b. b.rank ≢ x) chain → IsChain s chain → IsChain (out s i rest) chain
chain_lifted s i rest x top chain others c = record {
  blockers = each_both (λ b. b.rank ≢ x) (IsBlocker s) (IsBlocker (out s i rest)) (λ b ne j. blocker_lifted s i rest x top b ne j) chain others c.blockers;
  linked = linked_lifted s i rest x top chain others c.linked;
  in_time = c.in_time;
}

-- and where the turn is passed over
abbrev pub later_turn : (s : Position) → ℕ → Position
later_turn s n = record s { next = n }

linked_passed : (s : Position) (n : ℕ) (chain : List Blocker) → AreLinked s chain → AreLinked (later_turn s n) chain
linked_passed s n [] l = tt
linked_passed s n (a ∷ []) l = tt
linked_passed s n (a ∷ b ∷ chain) l =
    let f : MayFollow s a b = l.0 in
    (record { leaves = f.leaves; rising = f.rising; before = before f.before }, linked_passed s n (b ∷ chain) l.1)
  where
    before : ComesBefore s a b → ComesBefore (later_turn s n) a b
    before c = ⊎_elim
        (λ lt. inl lt)
        (λ p. let u : StandsAbove s a.rank b.rank = p.1 in inr (p.0, record { beneath = u.beneath; stands = u.stands; held = u.held }))
        c

pub chain_passed : (s : Position) (n : ℕ) (chain : List Blocker) → IsChain s chain → IsChain (later_turn s n) chain
chain_passed s n chain c = record {
  blockers = each_weaker (IsBlocker s) (IsBlocker (later_turn s n)) (λ b i. record {
    beneath = i.beneath;
    stands = i.stands;
    turn_stands = i.turn_stands;
    is_ordered = i.is_ordered;
    is_lower = i.is_lower;
    least = i.least;
  }) chain c.blockers;
  linked = linked_passed s n chain c.linked;
  in_time = c.in_time;
}

-- the others of a chain have greater ranks than its first, which is to leave where there are any
pub later : (s : Position) (a : Blocker) (chain : List Blocker) → AreLinked s (a ∷ chain) → AllByRecursion (λ b. (a.rank ≤ s.ordered) × (a.rank < b.rank)) chain
later s a [] l = tt
later s a (b ∷ chain) l =
    let f : MayFollow s a b = l.0 in
    let leaves : a.rank ≤ s.ordered = f.leaves in
    let rising : a.rank < b.rank = f.rising in
    ((leaves, rising), each_weaker (λ c. (b.rank ≤ s.ordered) × (b.rank < c.rank)) (λ c. (a.rank ≤ s.ordered) × (a.rank < c.rank)) (λ c p. let q = p.1 in (leaves, omega arith)) chain (later s b chain l.1))

-- a chain without its first is a chain
pub chain_rest : (s : Position) (a : Blocker) (chain : List Blocker) → IsChain s (a ∷ chain) → IsChain s chain
chain_rest s a [] c = record { blockers = tt; linked = tt; in_time = tt }
chain_rest s a (b ∷ chain) c =
    let f : MayFollow s a b = c.linked.0 in
    let rising : a.rank < b.rank = f.rising in
    record {
      blockers = c.blockers.1;
      linked = c.linked.1;
      in_time = each_weaker (λ d. d.turn < a.rank) (λ d. d.turn < b.rank) (λ d lt. omega arith) chain c.in_time.1;
    }

-- a container is on top of a stack, and the next one is beneath it
pub record IsLift (s : Position) (i : ℕ) (rest : List ℕ) (x : ℕ) : Type 0 where
  pub unfinished : s.next ≤ s.ordered
  pub stack : slice_get s.stacks i ≡ Some (rest ++ x ∷ [])
  pub buried : holds s.next rest ≡ true

pub lift_of : (s : Position) (from to : ℕ) (t : Position) → (k : IsShifted s from to t) → IsLift s (from - 1) k.rest k.moved
lift_of s from to t k = record { unfinished = k.unfinished; stack = k.stack; buried = k.buried }

-- the container on top comes up first of all, so it follows none
not_second : (s : Position) (i : ℕ) (rest : List ℕ) (x : ℕ) → IsClear s → IsLift s i rest x → (a b : Blocker) → IsBlocker s a → IsBlocker s b → MayFollow s a b → b.rank ≢ x
not_second s i rest x sound k a b ia j f e =
    let rising : a.rank < b.rank = f.rising in
    let ne : a.rank ≢ x = λ h. omega arith in
    let here : StandsOn s.stacks j.beneath x = subst (StandsOn s.stacks j.beneath) e j.stands in
    let own : j.beneath ≡ rest = on_top s.stacks i rest x j.beneath (sound.once x) k.stack here in
    let first : b.turn ≤ s.next = j.least s.next k.unfinished (ap (holds s.next) own ∙ k.buried) in
    ⊎_elim
    (λ lt. omega (arith, turn_late s a sound ia))
    (λ p. let u : StandsAbove s a.rank b.rank = p.1 in
    none_above s.stacks i rest x u.beneath a.rank (sound.once x) k.stack ne u.stands (ap (λ y. holds y u.beneath) (sym e) ∙ u.held))
    f.before

-- so of a chain only the first can be lifted
pub others_lifted : (s : Position) (i : ℕ) (rest : List ℕ) (x : ℕ) → IsClear s → IsLift s i rest x → (a : Blocker) (chain : List Blocker) → AllByRecursion (IsBlocker s) (a ∷ chain) → AreLinked s (a ∷ chain) →
    AllByRecursion (λ b. b.rank ≢ x) chain
others_lifted s i rest x sound k a [] each l = tt
others_lifted s i rest x sound k a (b ∷ chain) each l =
    (not_second s i rest x sound k a b each.0 each.1.0 l.0, others_lifted s i rest x sound k b chain each.1 l.1)

pub others : (s : Position) (from to : ℕ) (t : Position) → IsClear s → (k : IsShifted s from to t) → (a : Blocker) (chain : List Blocker) → AllByRecursion (IsBlocker s) (a ∷ chain) → AreLinked s (a ∷ chain) →
    AllByRecursion (λ b. b.rank ≢ k.moved) chain
others s from to t sound k a chain each l = others_lifted s (from - 1) k.rest k.moved sound (lift_of s from to t k) a chain each l

-- a row that is open after a lift was open before it
pub open_lifted : (s : Position) (j : ℕ) (rest : List ℕ) (c : ℕ) → IsClear s → IsLift s j rest c → (b : Blocker) → IsBlocker s b → (i h : ℕ) (x y : List ℕ) →
    slice_get s.stacks i ≡ Some x → slice_get (slice_set s.stacks j rest) i ≡ Some y → is_open s.ordered h y b ≡ true → is_open s.ordered h x b ≡ true
open_lifted s j rest c sound k b blocks i h x y hx hy o = ⊎_elim
    (λ e.
    let x_is : x ≡ rest ++ c ∷ [] = same_Some x (rest ++ c ∷ []) (sym hx ∙ ap (slice_get s.stacks) e ∙ k.stack) in
    let y_is : y ≡ rest = same_Some y rest (sym hy ∙ ap (slice_get (slice_set s.stacks j rest)) e ∙ get_put_same s.stacks j (rest ++ c ∷ []) rest k.stack) in
    ap (λ l. is_open s.ordered h l b) x_is ∙ lifted (ap (λ l. is_open s.ordered h l b) (sym y_is) ∙ o))
    (λ other.
    let same : x ≡ y = same_Some x y (sym hx ∙ sym (get_put_other s.stacks j i rest other) ∙ hy) in
    ap (λ l. is_open s.ordered h l b) same ∙ o)
    (cases_eq i j)
  where
    lifted : is_open s.ordered h rest b ≡ true → is_open s.ordered h (rest ++ c ∷ []) b ≡ true
    lifted t' = ⊎_elim
        (λ p.
        let low : holds_lower s.ordered b.rank (standing_at b.turn rest) ≡ true =
        ap (holds_lower s.ordered b.rank) p.0 ∙ lower_from_held s.ordered s.next b.rank rest k.unfinished (rank_late s b sound blocks) k.buried in
        absurd (both_ways (is_open s.ordered h rest b) (closed_lower s.ordered h rest b low) t'))
        (λ e. open_prefix s.ordered h b (rest ++ c ∷ []) rest ([], sym e ∙ sym (append-nil (standing_at b.turn (rest ++ c ∷ [])))) t')
        (standing_split b.turn rest (c ∷ []))

-- a row that is open after a shift was open before it
pub open_shifted : (s : Position) (from to : ℕ) (t : Position) → IsClear s → (k : IsShifted s from to t) → (b : Blocker) → IsBlocker s b → (i h : ℕ) (x y : List ℕ) →
    slice_get s.stacks i ≡ Some x → slice_get (stacks_shifted s from to t k) i ≡ Some y → is_open s.ordered h y b ≡ true → is_open s.ordered h x b ≡ true
open_shifted s from to t sound k b blocks i h x y hx hy o = ⊎_elim
    (λ e.
    let x_is : x ≡ k.onto = same_Some x k.onto (sym hx ∙ ap (slice_get s.stacks) e ∙ k.target) in
    let y_is : y ≡ k.onto ++ k.moved ∷ [] = same_Some y (k.onto ++ k.moved ∷ []) (sym hy ∙ ap (slice_get (stacks_shifted s from to t k)) e ∙ onto_after s from to t k) in
    ap (λ l. is_open s.ordered h l b) x_is
    ∙ open_prefix s.ordered h b k.onto (k.onto ++ k.moved ∷ []) (standing_prefix b.turn k.onto (k.moved ∷ [])) (ap (λ l. is_open s.ordered h l b) (sym y_is) ∙ o))
    (λ ne. open_lifted s (from - 1) k.rest k.moved sound (lift_of s from to t k) b blocks i h x y hx
    (sym (get_put_other (slice_set s.stacks (from - 1) k.rest) (to - 1) i (k.onto ++ k.moved ∷ []) ne) ∙ hy) o)
    (cases_eq i (to - 1))

-- the stacks after a take
abbrev pub left : (s : Position) (row : ℕ) (t : Position) → IsTaken s row t → Position
left s row t k = record s { next = suc s.next; stacks = slice_set s.stacks (row - 1) k.rest }

stands_taken : (s : Position) (row : ℕ) (t : Position) → (k : IsTaken s row t) → (low : List ℕ) (a : ℕ) → s.next < a → StandsOn s.stacks low a → StandsOn (slice_set s.stacks (row - 1) k.rest) low a
stands_taken s row t k low a lt st = popped s.stacks (row - 1) k.rest s.next low a k.stack (λ e. omega arith) st

blocker_taken : (s : Position) (row : ℕ) (t : Position) → IsClear s → (k : IsTaken s row t) → (b : Blocker) → IsBlocker s b → IsBlocker (left s row t k) b
blocker_taken s row t sound k b i = record {
  beneath = i.beneath;
  stands = stands_taken s row t k i.beneath b.rank (rank_late s b sound i) i.stands;
  turn_stands = i.turn_stands;
  is_ordered = i.is_ordered;
  is_lower = i.is_lower;
  least = i.least;
}

linked_taken : (s : Position) (row : ℕ) (t : Position) → IsClear s → (k : IsTaken s row t) → (chain : List Blocker) → AllByRecursion (IsBlocker s) chain → AreLinked s chain → AreLinked (left s row t k) chain
linked_taken s row t sound k [] each l = tt
linked_taken s row t sound k (a ∷ []) each l = tt
linked_taken s row t sound k (a ∷ b ∷ chain) each l =
    let f : MayFollow s a b = l.0 in
    (record { leaves = f.leaves; rising = f.rising; before = before f.before }, linked_taken s row t sound k (b ∷ chain) each.1 l.1)
  where
    before : ComesBefore s a b → ComesBefore (left s row t k) a b
    before c = ⊎_elim
        (λ lt. inl lt)
        (λ p. let u : StandsAbove s a.rank b.rank = p.1 in inr (p.0, record { beneath = u.beneath; stands = stands_taken s row t k u.beneath a.rank (rank_late s a sound each.0) u.stands; held = u.held }))
        c

-- a chain stays one at a take
pub chain_taken : (s : Position) (row : ℕ) (t : Position) → IsClear s → (k : IsTaken s row t) → (chain : List Blocker) → IsChain s chain → IsChain (left s row t k) chain
chain_taken s row t sound k chain c = record {
  blockers = each_weaker (IsBlocker s) (IsBlocker (left s row t k)) (λ b i. blocker_taken s row t sound k b i) chain c.blockers;
  linked = linked_taken s row t sound k chain c.blockers c.linked;
  in_time = c.in_time;
}

-- nothing waits for a container on top
turn_after : (s : Position) (row : ℕ) (t : Position) → IsClear s → IsTaken s row t → (b : Blocker) → IsBlocker s b → s.next < b.turn
turn_after s row t sound k b i = ⊎_elim
    (λ e. absurd (none_above s.stacks (row - 1) k.rest s.next i.beneath b.rank (sound.once s.next) k.stack (λ h. omega (arith, rank_late s b sound i)) i.stands (ap (λ y. holds y i.beneath) (sym e) ∙ i.turn_stands)))
    (λ ne. omega (arith, turn_late s b sound i))
    (cases_eq b.turn s.next)

-- a row that is open after a take was open before it
pub open_taken : (s : Position) (row : ℕ) (t : Position) → IsClear s → (k : IsTaken s row t) → (b : Blocker) → IsBlocker s b → (i h : ℕ) (x y : List ℕ) →
    slice_get s.stacks i ≡ Some x → slice_get (slice_set s.stacks (row - 1) k.rest) i ≡ Some y → is_open s.ordered h y b ≡ true → is_open s.ordered h x b ≡ true
open_taken s row t sound k b blocks i h x y hx hy o = ⊎_elim
    (λ e.
    let x_is : x ≡ k.rest ++ s.next ∷ [] = same_Some x (k.rest ++ s.next ∷ []) (sym hx ∙ ap (slice_get s.stacks) e ∙ k.stack) in
    let y_is : y ≡ k.rest = same_Some y k.rest (sym hy ∙ ap (slice_get (slice_set s.stacks (row - 1) k.rest)) e ∙ get_put_same s.stacks (row - 1) (k.rest ++ s.next ∷ []) k.rest k.stack) in
    let same : standing_at b.turn (k.rest ++ s.next ∷ []) ≡ standing_at b.turn k.rest = stands in
    ap (λ l. is_open s.ordered h l b) x_is
    ∙ open_prefix s.ordered h b (k.rest ++ s.next ∷ []) k.rest ([], sym same ∙ sym (append-nil (standing_at b.turn (k.rest ++ s.next ∷ [])))) (ap (λ l. is_open s.ordered h l b) (sym y_is) ∙ o))
    (λ other.
    let same : x ≡ y = same_Some x y (sym hx ∙ sym (get_put_other s.stacks (row - 1) i k.rest other) ∙ hy) in
    ap (λ l. is_open s.ordered h l b) same ∙ o)
    (cases_eq i (row - 1))
  where
    gone : standing_at b.turn (s.next ∷ []) ≡ []
    gone = rw (lt-ltb s.next b.turn (turn_after s row t sound k b blocks)) refl

    stands : standing_at b.turn (k.rest ++ s.next ∷ []) ≡ standing_at b.turn k.rest
    stands = ⊎_elim
        (λ p. p.1 ∙ ap (λ l. k.rest ++ l) gone ∙ append-nil k.rest ∙ sym p.0)
        (λ e. e)
        (standing_split b.turn k.rest (s.next ∷ []))
