-- The list of the jobs of a position has all of them and no others, in their order.
use Rattle.std.proofs.Common.{◌≡◌, ℕ, zero, suc, ◌+◌, ◌-◌, ◌<◌, ◌≤◌, Bool, true, false, ◌==◌, ◌&&◌, nat_lt, List, [], ◌∷◌, ◌++◌, Some, slice_get, refl, sym, ap, ◌∙◌, subst, ◌⊎◌, inl, inr, ⊎_elim, arith, append_assoc, append-nil}
use Rattle.std.specs.Prelude.{if◌then◌else◌}
use Rattle.std.proofs.lemmas.Bool.{cases_Bool, cases_lt, cases_eq, and_parts, and_from, or_cases, or_left, or_right, ltb-true, lt-ltb, eqb-true, eq-eqb, both_ways}
use Rattle.crp_plan.specs.Rows.{holds, occurrences}
use Rattle.crp_plan.specs.Bay.{Position, IsSound}
use Rattle.crp_plan.proofs.Lists.{times, times-cons, one_if, same_is_one, at_le_sum, occurrences-cons, times_held}
use Rattle.crp_bounds.proofs.Cutting.{times-append}
use Rattle.crp_prices.specs.declared.job.Job.{Job}
use Rattle.crp_prices.specs.Prices.{StandsOn, IsFirst, StandsAbove, least_of}
use Rattle.crp_prices.proofs.Clear.{IsClear, clear}
use Rattle.crp_prices.proofs.Standing.{one_beneath}
use Rattle.crp_prices.proofs.Jobs.{first_late}
use Rattle.crp_prices.specs.declared.job.MarkedJob.{MarkedJob}
use Rattle.crp_prices.specs.Pass.{Has, IsReadBefore, AreRead, AreJobs}
use Rattle.crp_prices.specs.AllJobs.{turn_of, later_jobs, first_jobs, holder, turn_jobs, jobs_in, jobs_of}
use Rattle.crp_prices.proofs.Turns.{Blocks, first_from, turn_first, first_least, turn_is}

-- jobs of two lists
has_left : (x : MarkedJob) (xs ys : List MarkedJob) → Has x xs → Has x (xs ++ ys)
has_left x [] ys h = absurd h
has_left x (y ∷ xs) ys h = ⊎_elim (λ e. inl e) (λ o. inr (has_left x xs ys o)) h

has_right : (x : MarkedJob) (xs ys : List MarkedJob) → Has x ys → Has x (xs ++ ys)
has_right x [] ys h = h
has_right x (y ∷ xs) ys h = inr (has_right x xs ys h)

has_part : (x : MarkedJob) (xs ys : List MarkedJob) → Has x (xs ++ ys) → Has x xs ⊎ Has x ys
has_part x [] ys h = inr h
has_part x (y ∷ xs) ys h = ⊎_elim (λ e. inl (inl e)) (λ o. ⊎_elim (λ a. inl (inr a)) (λ b. inr b) (has_part x xs ys o)) h

read_both : (s : Position) (xs ys : List MarkedJob) → AreRead s xs → AreRead s ys → ((x y : MarkedJob) → Has x xs → Has y ys → IsReadBefore s x y) → AreRead s (xs ++ ys)
read_both s [] ys a b c = b
read_both s (x ∷ xs) ys a b c = (
  λ y has. ⊎_elim (λ l. a.0 y l) (λ r. c x y (inl refl) r) (has_part y xs ys has),
  read_both s xs ys a.1 b (λ u v hu hv. c u v (inr hu) hv),
)

-- a list of one job or none
one_had : (b : Bool) (c x : MarkedJob) → Has x (if b then c ∷ [] else []) → (b ≡ true) × (c ≡ x)
one_had true c x h = ⊎_elim (λ e. (refl, e)) (λ o. absurd o) h
one_had false c x h = absurd h

one_has : (b : Bool) (c : MarkedJob) → b ≡ true → Has c (if b then c ∷ [] else [])
one_has true c e = inl refl
one_has false c e = cc

one_read : (s : Position) (b : Bool) (c : MarkedJob) → AreRead s (if b then c ∷ [] else [])
one_read s true c = (λ y has. absurd has, tt)
one_read s false c = tt

-- later jobs
record IsLaterOne (s : Position) (turn most : ℕ) (x : MarkedJob) : Type 0 where
  is_turn : x.turn ≡ turn
  is_later : x.is_later ≡ true
  few : x.rank ≤ most
  after : turn_of s x.rank < turn
  before : turn < x.rank

later_had : (s : Position) (turn r : ℕ) (x : MarkedJob) → Has x (later_jobs s turn r) → IsLaterOne s turn r x
later_had s turn zero x h = absurd h
later_had s turn (suc r) x h = ⊎_elim
    (λ l.
    let c : MarkedJob = record { rank = suc r; turn = turn; is_later = true } in
    let q = one_had (nat_lt (turn_of s (suc r)) turn && nat_lt turn (suc r)) c x l in
    let p = and_parts (nat_lt (turn_of s (suc r)) turn) (nat_lt turn (suc r)) q.0 in
    subst (IsLaterOne s turn (suc r)) q.1 (record {
      is_turn = refl;
      is_later = refl;
      few = omega arith;
      after = ltb-true (turn_of s (suc r)) turn p.0;
      before = ltb-true turn (suc r) p.1;
    }))
    (λ o.
    let k : IsLaterOne s turn r x = later_had s turn r x o in
    let few : x.rank ≤ r = k.few in
    record { is_turn = k.is_turn; is_later = k.is_later; few = omega arith; after = k.after; before = k.before })
    (has_part x (if nat_lt (turn_of s (suc r)) turn && nat_lt turn (suc r) then record { rank = suc r; turn = turn; is_later = true } ∷ [] else []) (later_jobs s turn r) h)

later_has : (s : Position) (turn r rank : ℕ) → rank ≤ r → turn_of s rank < turn → turn < rank → Has (record { rank = rank; turn = turn; is_later = true }) (later_jobs s turn r)
later_has s turn zero rank few after before = absurd (omega arith)
later_has s turn (suc r) rank few after before = ⊎_elim
    (λ e.
    let own : nat_lt (turn_of s (suc r)) turn && nat_lt turn (suc r) ≡ true =
    subst (λ n. nat_lt (turn_of s n) turn && nat_lt turn n ≡ true) e (and_from (nat_lt (turn_of s rank) turn) (nat_lt turn rank) (lt-ltb (turn_of s rank) turn after) (lt-ltb turn rank before)) in
    has_left (record { rank = rank; turn = turn; is_later = true }) here (later_jobs s turn r)
    (subst (λ n. Has (record { rank = n; turn = turn; is_later = true }) here) (sym e) (one_has (nat_lt (turn_of s (suc r)) turn && nat_lt turn (suc r)) (record { rank = suc r; turn = turn; is_later = true }) own)))
    (λ ne. has_right (record { rank = rank; turn = turn; is_later = true }) here (later_jobs s turn r) (later_has s turn r rank (omega arith) after before))
    (cases_eq rank (suc r))
  where
    here : List MarkedJob
    here = if nat_lt (turn_of s (suc r)) turn && nat_lt turn (suc r) then record { rank = suc r; turn = turn; is_later = true } ∷ [] else []

later_read : (s : Position) (turn r : ℕ) → AreRead s (later_jobs s turn r)
later_read s turn zero = tt
later_read s turn (suc r) = read_both s here (later_jobs s turn r) (one_read s b c) (later_read s turn r) (λ x y hx hy.
    let q = one_had b c x hx in
    let k : IsLaterOne s turn r y = later_had s turn r y hy in
    let few : y.rank ≤ r = k.few in
    subst (λ u. IsReadBefore s u y) q.1 (inr (sym k.is_turn, inl (refl, λ later. omega arith))))
  where
    b : Bool
    b = nat_lt (turn_of s (suc r)) turn && nat_lt turn (suc r)

    c : MarkedJob
    c = record { rank = suc r; turn = turn; is_later = true }

    here : List MarkedJob
    here = if b then c ∷ [] else []

-- first jobs
record IsFirstOne (ordered turn : ℕ) (under stack : List ℕ) (x : MarkedJob) : Type 0 where
  is_turn : x.turn ≡ turn
  is_first : x.is_later ≡ false
  blocks : Blocks ordered x.rank turn under stack

first_had : (ordered turn : ℕ) (under stack : List ℕ) (x : MarkedJob) → Has x (first_jobs ordered turn under stack) → IsFirstOne ordered turn under stack x
first_had ordered turn under [] x h = absurd h
first_had ordered turn under (c ∷ stack) x h = ⊎_elim
    (λ l.
    let k : IsFirstOne ordered turn (under ++ c ∷ []) stack x = first_had ordered turn (under ++ c ∷ []) stack x l in
    let b : Blocks ordered x.rank turn (under ++ c ∷ []) stack = k.blocks in
    record {
      is_turn = k.is_turn;
      is_first = k.is_first;
      blocks = record {
        beneath = c ∷ b.beneath;
        over = b.over;
        parts = ap (λ m. c ∷ m) b.parts;
        least = ap (least_of ordered) (sym (append_assoc under (c ∷ []) b.beneath)) ∙ b.least;
        lower = b.lower;
      };
    })
    (λ o.
    let q = one_had ((least_of ordered under == turn) && nat_lt turn c) (record { rank = c; turn = turn; is_later = false }) x o in
    let p = and_parts (least_of ordered under == turn) (nat_lt turn c) q.0 in
    subst (IsFirstOne ordered turn under (c ∷ stack)) q.1 (record {
      is_turn = refl;
      is_first = refl;
      blocks = record {
        beneath = [];
        over = stack;
        parts = refl;
        least = ap (least_of ordered) (append-nil under) ∙ eqb-true (least_of ordered under) turn p.0;
        lower = ltb-true turn c p.1;
      };
    }))
    (has_part x (first_jobs ordered turn (under ++ c ∷ []) stack) (if (least_of ordered under == turn) && nat_lt turn c then record { rank = c; turn = turn; is_later = false } ∷ [] else []) h)

first_has : (ordered turn rank : ℕ) (under beneath over : List ℕ) → least_of ordered (under ++ beneath) ≡ turn → turn < rank →
    Has (record { rank = rank; turn = turn; is_later = false }) (first_jobs ordered turn under (beneath ++ rank ∷ over))
first_has ordered turn rank under [] over least lower =
    has_right (record { rank = rank; turn = turn; is_later = false }) (first_jobs ordered turn (under ++ rank ∷ []) over) _
    (one_has ((least_of ordered under == turn) && nat_lt turn rank) (record { rank = rank; turn = turn; is_later = false })
    (and_from (least_of ordered under == turn) (nat_lt turn rank) (eq-eqb (least_of ordered under) turn (ap (least_of ordered) (sym (append-nil under)) ∙ least)) (lt-ltb turn rank lower)))
first_has ordered turn rank under (c ∷ beneath) over least lower =
    has_left (record { rank = rank; turn = turn; is_later = false }) (first_jobs ordered turn (under ++ c ∷ []) (beneath ++ rank ∷ over)) _
    (first_has ordered turn rank (under ++ c ∷ []) beneath over (ap (least_of ordered) (append_assoc under (c ∷ []) beneath) ∙ least) lower)

-- the upper one is read first
first_read : (s : Position) (row turn : ℕ) (whole under stack : List ℕ) → IsClear s → slice_get s.stacks row ≡ Some whole → whole ≡ under ++ stack →
    AreRead s (first_jobs s.ordered turn under stack)
first_read s row turn whole under [] is here parts = tt
first_read s row turn whole under (c ∷ stack) is here parts =
    read_both s (first_jobs s.ordered turn (under ++ c ∷ []) stack) (if b then low ∷ [] else [])
    (first_read s row turn whole (under ++ c ∷ []) stack is here (parts ∙ sym (append_assoc under (c ∷ []) stack))) (one_read s b low) (λ x y hx hy.
    let q = one_had b low y hy in
    let k : IsFirstOne s.ordered turn (under ++ c ∷ []) stack x = first_had s.ordered turn (under ++ c ∷ []) stack x hx in
    let over : Blocks s.ordered x.rank turn (under ++ c ∷ []) stack = k.blocks in
    subst (λ u. IsReadBefore s x u) q.1 (inr (
      k.is_turn,
      inr (
        k.is_first,
        refl,
        λ above.
            let r : StandsAbove s c x.rank = above in
            let on : StandsOn s.stacks under c = record { row = row; over = stack; stands = here ∙ ap (λ l. Some l) parts } in
            let same : r.beneath ≡ under = one_beneath s.stacks r.beneath under c (is.once c) r.stands on in
            let held : holds x.rank under ≡ true = ap (holds x.rank) (sym same) ∙ r.held in
            omega (
              arith,
              is.once x.rank,
              at_le_sum (times x.rank) s.stacks row whole here,
              ap (times x.rank) parts,
              times-append x.rank under (c ∷ stack),
              times_held x.rank under held,
              times-cons x.rank c stack,
              ap (times x.rank) over.parts,
              times-append x.rank over.beneath (x.rank ∷ over.over),
              times-cons x.rank x.rank over.over,
              same_is_one x.rank,
            ),
      ),
    )))
  where
    b : Bool
    b = (least_of s.ordered under == turn) && nat_lt turn c

    low : MarkedJob
    low = record { rank = c; turn = turn; is_later = false }

-- the row of a turn
holder_row : (x : ℕ) (stacks : List (List ℕ)) → 1 ≤ occurrences x stacks → (row : ℕ) × (slice_get stacks row ≡ Some (holder x stacks))
holder_row x [] some = absurd (omega arith)
holder_row x (stack ∷ stacks) some = ⊎_elim
    (λ t. let e : holder x (stack ∷ stacks) ≡ stack = rw t refl in (zero, ap (λ l. Some l) (sym e)))
    (λ f.
    let e : holder x (stack ∷ stacks) ≡ holder x stacks = rw f refl in
    let q = holder_row x stacks (omega (arith, occurrences-cons x stack stacks, not_held stack f)) in
    (suc q.0, q.1 ∙ ap (λ l. Some l) (sym e)))
    (cases_Bool (holds x stack))
  where
    not_held : (ys : List ℕ) → holds x ys ≡ false → times x ys ≡ 0
    not_held [] f = refl
    not_held (y ∷ ys) f = ⊎_elim
        (λ t. absurd (both_ways (holds x (y ∷ ys)) f (or_left (y == x) (holds x ys) t)))
        (λ other. omega (
          arith,
          times-cons x y ys,
          ap one_if other,
          not_held ys (⊎_elim (λ t. absurd (both_ways (holds x (y ∷ ys)) f (or_right (y == x) (holds x ys) t))) (λ g. g) (cases_Bool (holds x ys))),
        ))
        (cases_Bool (y == x))

holder_is : (x : ℕ) (stacks : List (List ℕ)) (row : ℕ) (stack : List ℕ) → occurrences x stacks ≤ 1 → slice_get stacks row ≡ Some stack → holds x stack ≡ true → holder x stacks ≡ stack
holder_is x [] row stack once here held = cc
holder_is x (top ∷ stacks) zero stack once here held =
    let same : top ≡ stack = cc in
    let t : holds x top ≡ true = ap (holds x) same ∙ held in
    let e : holder x (top ∷ stacks) ≡ top = rw t refl in
    e ∙ same
holder_is x (top ∷ stacks) (suc row) stack once here held = ⊎_elim
    (λ t. absurd (omega (arith, once, occurrences-cons x top stacks, times_held x top t, at_le_sum (times x) stacks row stack here, times_held x stack held)))
    (λ f.
    let e : holder x (top ∷ stacks) ≡ holder x stacks = rw f refl in
    e ∙ holder_is x stacks row stack (omega (arith, once, occurrences-cons x top stacks)) here held)
    (cases_Bool (holds x top))

holds_low : (x : ℕ) (xs ys : List ℕ) → holds x xs ≡ true → holds x (xs ++ ys) ≡ true
holds_low x [] ys h = cc
holds_low x (y ∷ xs) ys h = ⊎_elim
    (λ e. or_left (y == x) (holds x (xs ++ ys)) e)
    (λ e. or_right (y == x) (holds x (xs ++ ys)) (holds_low x xs ys e))
    (or_cases (y == x) (holds x xs) h)

-- all jobs of a turn
turn_first_has : (s : Position) (most : ℕ) (j : Job) → IsClear s → IsFirst s j → Has (record { rank = j.rank; turn = j.turn; is_later = false }) (turn_jobs s most j.turn)
turn_first_has s most j is f =
    let st : StandsOn s.stacks f.beneath j.rank = f.stands in
    let whole : List ℕ = f.beneath ++ j.rank ∷ st.over in
    let e : holder j.turn s.stacks ≡ whole = holder_is j.turn s.stacks st.row whole (is.once j.turn) st.stands (holds_low j.turn f.beneath (j.rank ∷ st.over) f.turn_stands) in
    has_right (record { rank = j.rank; turn = j.turn; is_later = false }) (later_jobs s j.turn most) (first_jobs s.ordered j.turn [] (holder j.turn s.stacks))
    (subst (λ l. Has (record { rank = j.rank; turn = j.turn; is_later = false }) (first_jobs s.ordered j.turn [] l)) (sym e)
    (first_has s.ordered j.turn j.rank [] f.beneath st.over (first_least s j f) f.is_lower))

turn_had : (s : Position) (most turn : ℕ) (x : MarkedJob) → Has x (turn_jobs s most turn) → IsLaterOne s turn most x ⊎ IsFirstOne s.ordered turn [] (holder turn s.stacks) x
turn_had s most turn x h = ⊎_elim
    (λ l. inl (later_had s turn most x l))
    (λ r. inr (first_had s.ordered turn [] (holder turn s.stacks) x r))
    (has_part x (later_jobs s turn most) (first_jobs s.ordered turn [] (holder turn s.stacks)) h)

turn_of_had : (s : Position) (most turn : ℕ) (x : MarkedJob) → Has x (turn_jobs s most turn) → x.turn ≡ turn
turn_of_had s most turn x h = ⊎_elim (λ k. k.is_turn) (λ k. k.is_turn) (turn_had s most turn x h)

turn_read : (s : Position) (most turn : ℕ) → IsClear s → 1 ≤ occurrences turn s.stacks → AreRead s (turn_jobs s most turn)
turn_read s most turn is stands =
    let q = holder_row turn s.stacks stands in
    read_both s (later_jobs s turn most) (first_jobs s.ordered turn [] (holder turn s.stacks)) (later_read s turn most)
    (first_read s q.0 turn (holder turn s.stacks) [] (holder turn s.stacks) is q.1 refl) (λ x y hx hy.
    let a : IsLaterOne s turn most x = later_had s turn most x hx in
    let b : IsFirstOne s.ordered turn [] (holder turn s.stacks) y = first_had s.ordered turn [] (holder turn s.stacks) y hy in
    inr (a.is_turn ∙ sym b.is_turn, inl (a.is_later, λ later. absurd (both_ways y.is_later b.is_first later))))

-- all jobs of turns
in_has : (s : Position) (most turn turns : ℕ) (x : MarkedJob) → turn ≤ x.turn → x.turn < turn + turns → Has x (turn_jobs s most x.turn) → Has x (jobs_in s most turn turns)
in_has s most turn zero x le lt h = absurd (omega arith)
in_has s most turn (suc turns) x le lt h = ⊎_elim
    (λ e. has_left x (turn_jobs s most turn) (jobs_in s most (suc turn) turns) (subst (λ n. Has x (turn_jobs s most n)) (sym e) h))
    (λ ne. has_right x (turn_jobs s most turn) (jobs_in s most (suc turn) turns) (in_has s most (suc turn) turns x (omega arith) (omega arith) h))
    (cases_eq turn x.turn)

in_had : (s : Position) (most turn turns : ℕ) (x : MarkedJob) → Has x (jobs_in s most turn turns) → (turn ≤ x.turn) × (x.turn < turn + turns) × Has x (turn_jobs s most x.turn)
in_had s most turn zero x h = absurd h
in_had s most turn (suc turns) x h = ⊎_elim
    (λ l.
    let e : x.turn ≡ turn = turn_of_had s most turn x l in
    (omega arith, omega arith, subst (λ n. Has x (turn_jobs s most n)) (sym e) l))
    (λ r.
    let q = in_had s most (suc turn) turns x r in
    let a : suc turn ≤ x.turn = q.0 in
    let b : x.turn < suc turn + turns = q.1 in
    (omega arith, omega arith, q.2))
    (has_part x (turn_jobs s most turn) (jobs_in s most (suc turn) turns) h)

in_read : (s : Position) (most turn turns : ℕ) → IsClear s → ((v : ℕ) → turn ≤ v → v < turn + turns → 1 ≤ occurrences v s.stacks) → AreRead s (jobs_in s most turn turns)
in_read s most turn zero is stand = tt
in_read s most turn (suc turns) is stand = read_both s (turn_jobs s most turn) (jobs_in s most (suc turn) turns) (turn_read s most turn is (stand turn (omega arith) (omega arith)))
    (in_read s most (suc turn) turns is (λ v le lt. stand v (omega arith) (omega arith))) (λ x y hx hy.
    let e : x.turn ≡ turn = turn_of_had s most turn x hx in
    let q = in_had s most (suc turn) turns y hy in
    let later : suc turn ≤ y.turn = q.0 in
    inl (omega arith))

-- what blocks stands
pub own_stands : (s : Position) (j : Job) → IsFirst s j → 1 ≤ occurrences j.rank s.stacks
own_stands s j f =
    let st : StandsOn s.stacks f.beneath j.rank = f.stands in
    omega (
      arith,
      at_le_sum (times j.rank) s.stacks st.row (f.beneath ++ j.rank ∷ st.over) st.stands,
      times-append j.rank f.beneath (j.rank ∷ st.over),
      times-cons j.rank j.rank st.over,
      same_is_one j.rank,
    )

-- the list has all jobs in their order
pub jobs_are : (s : Position) (most : ℕ) → IsSound s → ((x : ℕ) → 1 ≤ occurrences x s.stacks → x ≤ most) → AreJobs s (jobs_of s most)
jobs_are s most sound few = record {
  first = λ j f.
      let a : s.next ≤ j.turn = first_late s j is f in
      let b : j.turn ≤ s.ordered = f.is_ordered in
      in_has s most s.next (suc s.ordered - s.next) (record { rank = j.rank; turn = j.turn; is_later = false }) a (omega arith) (turn_first_has s most j is f);
  later = λ j l.
      let b : IsFirst s (record { rank = j.rank; turn = l.first }) = l.blocks in
      let first : s.next ≤ l.first = first_late s (record { rank = j.rank; turn = l.first }) is b in
      let after : l.first < j.turn = l.later in
      let le : j.turn ≤ s.ordered = l.is_ordered in
      let soon : j.turn < j.rank = ⊎_elim (λ lt. omega arith) (λ ge. l.soon ge) (cases_lt s.ordered j.rank) in
      let t : turn_of s j.rank ≡ l.first = turn_is s (record { rank = j.rank; turn = l.first }) is b in
      in_has s most s.next (suc s.ordered - s.next) (record { rank = j.rank; turn = j.turn; is_later = true }) (omega arith) (omega arith)
      (has_left (record { rank = j.rank; turn = j.turn; is_later = true }) (later_jobs s j.turn most) (first_jobs s.ordered j.turn [] (holder j.turn s.stacks))
      (later_has s j.turn most j.rank (few j.rank (own_stands s (record { rank = j.rank; turn = l.first }) b)) (omega arith) soon));
  is_first = λ x has e.
      let q = in_had s most s.next (suc s.ordered - s.next) x has in
      let a : s.next ≤ x.turn = q.0 in
      let b : x.turn < s.next + (suc s.ordered - s.next) = q.1 in
      let k : IsFirstOne s.ordered x.turn [] (holder x.turn s.stacks) x = ⊎_elim (λ l. absurd (both_ways x.is_later e l.is_later)) (λ f. f) (turn_had s most x.turn x q.2) in
      let r = holder_row x.turn s.stacks (omega (arith, sound.waiting x.turn a (omega arith))) in
      first_from s r.0 x.rank x.turn (holder x.turn s.stacks) r.1 (omega arith) k.blocks;
  is_later = λ x has e.
      let q = in_had s most s.next (suc s.ordered - s.next) x has in
      let k : IsLaterOne s x.turn most x = ⊎_elim (λ l. l) (λ f. absurd (both_ways x.is_later f.is_first e)) (turn_had s most x.turn x q.2) in
      let a : s.next ≤ x.turn = q.0 in
      let b : x.turn < s.next + (suc s.ordered - s.next) = q.1 in
      let after : turn_of s x.rank < x.turn = k.after in
      record {
        first = turn_of s x.rank;
        blocks = turn_first s x.rank (omega arith);
        later = after;
        is_ordered = omega arith;
        stands = omega (arith, sound.waiting x.turn a (omega arith));
        soon = λ le. k.before;
      };
  in_order = in_read s most s.next (suc s.ordered - s.next) is (λ v le lt. omega (arith, sound.waiting v le (omega arith)));
}
  where
    is : IsClear s
    is = clear s sound
