-- Jobs and their order, before and after a move: who is of the later position is of the earlier one.
use Rattle.std.proofs.Common.{◌≡◌, ◌≢◌, ℕ, suc, ◌+◌, ◌-◌, ◌<◌, ◌≤◌, true, ◌==◌, List, [], ◌∷◌, ◌++◌, Some, slice_get, slice_set, refl, sym, ap, ◌∙◌, subst, inl, inr, ⊎_elim, arith}
use Rattle.std.specs.List.{AllByRecursion}
use Rattle.std.proofs.lemmas.Bool.{cases_eq, cases_lt}
use Rattle.crp_plan.specs.Rows.{holds, occurrences}
use Rattle.crp_plan.specs.Bay.{Position, IsTaken, IsShifted}
use Rattle.crp_plan.proofs.Lists.{times, one_if, times_push, same_is_one, times_held, at_le_sum, get_put_same, get_put_other}
use Rattle.crp_plan.proofs.Determined.{same_row, times_under}
use Rattle.crp_plan.proofs.Sound.{apart, occurrences_taken, occurrences_shifted}
use Rattle.crp_prices.specs.declared.job.Job.{Job}
use Rattle.crp_prices.specs.Prices.{StandsOn, IsFirst, IsLater, IsJob, StandsAbove, ComesBefore, AreInOrder}
use Rattle.crp_prices.proofs.Clear.{IsClear}
use Rattle.crp_prices.proofs.Standing.{popped, unpopped, pushed, unpushed, beneath_stands, none_above, on_top, one_beneath}

-- a turn is not before the next container's
pub first_late : (s : Position) (j : Job) → IsClear s → IsFirst s j → s.next ≤ j.turn
first_late s j sound k = ⊎_elim
    (λ lt. absurd (omega (arith, beneath_stands s.stacks k.beneath j.rank j.turn k.stands k.turn_stands, sound.gone j.turn lt)))
    (λ ge. ge)
    (cases_lt j.turn s.next)

pub job_late : (s : Position) (j : Job) → IsClear s → IsJob s j → s.next ≤ j.turn
job_late s j sound k = ⊎_elim
    (λ f. first_late s j sound f)
    (λ l. let lt : l.first < j.turn = l.later in omega (arith, first_late s (record { rank = j.rank; turn = l.first }) sound l.blocks))
    k

-- who blocks is not the next container
pub rank_late : (s : Position) (j : Job) → IsClear s → IsJob s j → s.next < j.rank
rank_late s j sound k = ⊎_elim
    (λ f. let lt : j.turn < j.rank = f.is_lower in omega (arith, first_late s j sound f))
    (λ l. let b : IsFirst s (record { rank = j.rank; turn = l.first }) = l.blocks in
    let lt : l.first < j.rank = b.is_lower in omega (arith, first_late s (record { rank = j.rank; turn = l.first }) sound l.blocks))
    k

-- a container has one first turn
pub one_turn : (s : Position) (a b : Job) → IsClear s → IsFirst s a → IsFirst s b → a.rank ≡ b.rank → a.turn ≡ b.turn
one_turn s a b sound i j e =
    let here : StandsOn s.stacks j.beneath a.rank = subst (StandsOn s.stacks j.beneath) (sym e) j.stands in
    let same : i.beneath ≡ j.beneath = one_beneath s.stacks i.beneath j.beneath a.rank (sound.once a.rank) i.stands here in
    let le : a.turn ≤ b.turn = i.least b.turn j.is_ordered (ap (holds b.turn) same ∙ j.turn_stands) in
    let ge : b.turn ≤ a.turn = j.least a.turn i.is_ordered (ap (holds a.turn) (sym same) ∙ i.turn_stands) in
    omega arith

-- so no job is both the first one and a later one
pub not_both : (s : Position) (j : Job) → IsClear s → IsLater s j → IsFirst s j → ⊥
not_both s j sound l f =
    let lt : l.first < j.turn = l.later in
    omega (arith, one_turn s (record { rank = j.rank; turn = l.first }) j sound l.blocks f refl)

-- the position that has these stacks and this turn
abbrev pub made : Position → ℕ → List (List ℕ) → Position
made s n stacks = record s { next = n; stacks = stacks }

-- what a move of x does: the others stand on what they stood on; jobs of x are later ones of before; and x stands beneath nobody
pub record Moves (s : Position) (n : ℕ) (stacks : List (List ℕ)) (x : ℕ) : Type 0 where
  pub before : IsClear s
  pub after : IsClear (made s n stacks)
  pub forth : (low : List ℕ) (a : ℕ) → a ≢ x → StandsOn s.stacks low a → StandsOn stacks low a
  pub back : (low : List ℕ) (a : ℕ) → a ≢ x → StandsOn stacks low a → StandsOn s.stacks low a
  pub fewer : (y : ℕ) → occurrences y stacks ≤ occurrences y s.stacks
  pub own : (j : Job) → j.rank ≡ x → IsJob (made s n stacks) j → IsLater s j
  pub on_nobody : (a : ℕ) → a ≢ x → StandsAbove (made s n stacks) a x → ⊥

first_forth : (s : Position) (n : ℕ) (stacks : List (List ℕ)) (x : ℕ) → Moves s n stacks x → (j : Job) → j.rank ≢ x → IsFirst s j → IsFirst (made s n stacks) j
first_forth s n stacks x m j ne i = record {
  beneath = i.beneath;
  stands = m.forth i.beneath j.rank ne i.stands;
  turn_stands = i.turn_stands;
  is_ordered = i.is_ordered;
  is_lower = i.is_lower;
  least = i.least;
}

pub first_back : (s : Position) (n : ℕ) (stacks : List (List ℕ)) (x : ℕ) → Moves s n stacks x → (j : Job) → j.rank ≢ x → IsFirst (made s n stacks) j → IsFirst s j
first_back s n stacks x m j ne i = record {
  beneath = i.beneath;
  stands = m.back i.beneath j.rank ne i.stands;
  turn_stands = i.turn_stands;
  is_ordered = i.is_ordered;
  is_lower = i.is_lower;
  least = i.least;
}

later_back : (s : Position) (n : ℕ) (stacks : List (List ℕ)) (x : ℕ) → Moves s n stacks x → (j : Job) → j.rank ≢ x → IsLater (made s n stacks) j → IsLater s j
later_back s n stacks x m j ne l = record {
  first = l.first;
  blocks = first_back s n stacks x m (record { rank = j.rank; turn = l.first }) ne l.blocks;
  later = l.later;
  is_ordered = l.is_ordered;
  stands = let there : 1 ≤ occurrences j.turn stacks = l.stands in omega (arith, m.fewer j.turn);
  soon = l.soon;
}

pub job_back : (s : Position) (n : ℕ) (stacks : List (List ℕ)) (x : ℕ) → Moves s n stacks x → (j : Job) → IsJob (made s n stacks) j → IsJob s j
job_back s n stacks x m j k = ⊎_elim
    (λ e. inr (m.own j e k))
    (λ ne. ⊎_elim (λ f. inl (first_back s n stacks x m j ne f)) (λ l. inr (later_back s n stacks x m j ne l)) k)
    (cases_eq j.rank x)

before_back : (s : Position) (n : ℕ) (stacks : List (List ℕ)) (x : ℕ) → Moves s n stacks x → (a b : Job) → IsJob (made s n stacks) a →
    ComesBefore (made s n stacks) a b → ComesBefore s a b
before_back s n stacks x m a b k c = ⊎_elim
    (λ lt. inl lt)
    (λ p. inr (
      p.0,
      p.1,
      λ first. ⊎_elim
          (λ e. absurd (not_both s a m.before (m.own a e k) first))
          (λ ne.
          let q = p.2 (first_forth s n stacks x m a ne first) in
          let above : StandsAbove (made s n stacks) a.rank b.rank = q.1 in
          ⊎_elim
          (λ e. absurd (m.on_nobody a.rank ne (subst (StandsAbove (made s n stacks) a.rank) e above)))
          (λ other. (first_back s n stacks x m b other q.0, record { beneath = above.beneath; stands = m.back above.beneath a.rank ne above.stands; held = above.held }))
          (cases_eq b.rank x))
          (cases_eq a.rank x),
    ))
    c

-- all jobs of a list, and their order
pub jobs_back : (s : Position) (n : ℕ) (stacks : List (List ℕ)) (x : ℕ) → Moves s n stacks x → (jobs : List Job) → AllByRecursion (IsJob (made s n stacks)) jobs → AllByRecursion (IsJob s) jobs
jobs_back s n stacks x m [] k = tt
jobs_back s n stacks x m (j ∷ jobs) k = (job_back s n stacks x m j k.0, jobs_back s n stacks x m jobs k.1)

all_before_back : (s : Position) (n : ℕ) (stacks : List (List ℕ)) (x : ℕ) → Moves s n stacks x → (a : Job) (jobs : List Job) → IsJob (made s n stacks) a →
    AllByRecursion (ComesBefore (made s n stacks) a) jobs → AllByRecursion (ComesBefore s a) jobs
all_before_back s n stacks x m a [] k c = tt
all_before_back s n stacks x m a (b ∷ jobs) k c = (before_back s n stacks x m a b k c.0, all_before_back s n stacks x m a jobs k c.1)

pub order_back : (s : Position) (n : ℕ) (stacks : List (List ℕ)) (x : ℕ) → Moves s n stacks x → (jobs : List Job) → AllByRecursion (IsJob (made s n stacks)) jobs →
    AreInOrder (made s n stacks) jobs → AreInOrder s jobs
order_back s n stacks x m [] k o = tt
order_back s n stacks x m (j ∷ jobs) k o = (all_before_back s n stacks x m j jobs k.0 o.0, order_back s n stacks x m jobs k.1 o.1)

-- the stacks after a shift
abbrev pub stacks_shifted : (s : Position) (from to : ℕ) (t : Position) → IsShifted s from to t → List (List ℕ)
stacks_shifted s from to t k = slice_set (slice_set s.stacks (from - 1) k.rest) (to - 1) (k.onto ++ k.moved ∷ [])

abbrev pub put : (s : Position) (from to : ℕ) (t : Position) → IsShifted s from to t → Position
put s from to t k = made s s.next (stacks_shifted s from to t k)

pub onto_still : (s : Position) (from to : ℕ) (t : Position) → (k : IsShifted s from to t) → slice_get (slice_set s.stacks (from - 1) k.rest) (to - 1) ≡ Some k.onto
onto_still s from to t k = get_put_other s.stacks (from - 1) (to - 1) k.rest (apart from to k.from_counts k.to_counts k.another) ∙ k.target

pub onto_after : (s : Position) (from to : ℕ) (t : Position) → (k : IsShifted s from to t) → slice_get (stacks_shifted s from to t k) (to - 1) ≡ Some (k.onto ++ k.moved ∷ [])
onto_after s from to t k = get_put_same (slice_set s.stacks (from - 1) k.rest) (to - 1) k.onto (k.onto ++ k.moved ∷ []) (onto_still s from to t k)

-- a container that stands above the next one has a greater rank
pub above_next : (s : Position) (from to : ℕ) (t : Position) → IsClear s → (k : IsShifted s from to t) → s.next < k.moved
above_next s from to t sound k =
    let there : 1 ≤ occurrences k.moved s.stacks =
    omega (arith, at_le_sum (times k.moved) s.stacks (from - 1) (k.rest ++ k.moved ∷ []) k.stack, times_push k.moved k.rest k.moved, same_is_one k.moved) in
    let ne : k.moved ≢ s.next = k.not_top in
    ⊎_elim (λ lt. absurd (omega (arith, sound.gone k.moved lt))) (λ le. omega arith) (cases_lt k.moved s.next)

-- nothing stands there that has left
pub stack_late : (s : Position) (i x : ℕ) (stack : List ℕ) → IsClear s → slice_get s.stacks i ≡ Some stack → holds x stack ≡ true → s.next ≤ x
stack_late s i x stack sound here held = ⊎_elim
    (λ lt. absurd (omega (arith, sound.gone x lt, at_le_sum (times x) s.stacks i stack here, times_held x stack held)))
    (λ ge. ge)
    (cases_lt x s.next)

-- what was beneath a container on top is no less late
pub rest_late : (s : Position) (i x y : ℕ) (rest : List ℕ) → IsClear s → slice_get s.stacks i ≡ Some (rest ++ y ∷ []) → holds x rest ≡ true → s.next ≤ x
rest_late s i x y rest sound here held = ⊎_elim
    (λ lt. absurd (omega (arith, sound.gone x lt, at_le_sum (times x) s.stacks i (rest ++ y ∷ []) here, times_push x rest y, times_held x rest held)))
    (λ ge. ge)
    (cases_lt x s.next)

-- the container that is moved has a first job, in the turn that it is
pub moved_first : (s : Position) (from to : ℕ) (t : Position) → IsClear s → (k : IsShifted s from to t) → IsFirst s (record { rank = k.moved; turn = s.next })
moved_first s from to t sound k = record {
  beneath = k.rest;
  stands = record { row = from - 1; over = []; stands = k.stack };
  turn_stands = k.buried;
  is_ordered = k.unfinished;
  is_lower = above_next s from to t sound k;
  least = λ x le held. rest_late s (from - 1) x k.moved k.rest sound k.stack held;
}

clear_shifted : (s : Position) (from to : ℕ) (t : Position) → IsClear s → (k : IsShifted s from to t) → IsClear (put s from to t k)
clear_shifted s from to t sound k = record { once = λ x. omega (arith, count x, sound.once x); gone = λ x lt. count x ∙ sound.gone x lt }
  where
    count : (x : ℕ) → occurrences x (stacks_shifted s from to t k) ≡ occurrences x s.stacks
    count x = occurrences_shifted x k.moved s.stacks (from - 1) (to - 1) k.rest k.onto (apart from to k.from_counts k.to_counts k.another) k.stack k.target

-- where it goes the next container does not stand
pub next_elsewhere : (s : Position) (from to : ℕ) (t : Position) → IsClear s → (k : IsShifted s from to t) → holds s.next k.onto ≡ true → ⊥
next_elsewhere s from to t sound k held =
    apart from to k.from_counts k.to_counts k.another
    (same_row s.next s.stacks (to - 1) (from - 1) k.onto (k.rest ++ k.moved ∷ []) (sound.once s.next) k.target k.stack (times_held s.next k.onto held) (times_under s.next k.moved k.rest k.buried))

-- all jobs that it has after the shift are later than the turn that it is
pub moved_later : (s : Position) (from to : ℕ) (t : Position) → IsClear s → (k : IsShifted s from to t) → (j : Job) → j.rank ≡ k.moved → IsJob (put s from to t k) j → s.next < j.turn
moved_later s from to t sound k j e job =
    let after : IsClear (put s from to t k) = clear_shifted s from to t sound k in
    ⊎_elim
    (λ f.
    let here : StandsOn (stacks_shifted s from to t k) f.beneath k.moved = subst (StandsOn (stacks_shifted s from to t k) f.beneath) e f.stands in
    let under : f.beneath ≡ k.onto = on_top (stacks_shifted s from to t k) (to - 1) k.onto k.moved f.beneath (after.once k.moved) (onto_after s from to t k) here in
    ⊎_elim
    (λ same. absurd (next_elsewhere s from to t sound k (ap (λ y. holds y k.onto) same ∙ ap (holds j.turn) (sym under) ∙ f.turn_stands)))
    (λ ne. omega (arith, first_late (put s from to t k) j after f))
    (cases_eq s.next j.turn))
    (λ l. let lt : l.first < j.turn = l.later in omega (arith, first_late (put s from to t k) (record { rank = j.rank; turn = l.first }) after l.blocks))
    job

moved_own : (s : Position) (from to : ℕ) (t : Position) → IsClear s → (k : IsShifted s from to t) → (j : Job) → j.rank ≡ k.moved → IsJob (put s from to t k) j → IsLater s j
moved_own s from to t sound k j e job = record {
  first = s.next;
  blocks = subst (λ r. IsFirst s (record { rank = r; turn = s.next })) (sym e) (moved_first s from to t sound k);
  later = moved_later s from to t sound k j e job;
  is_ordered = ⊎_elim (λ f. f.is_ordered) (λ l. l.is_ordered) job;
  stands = ⊎_elim
      (λ f. omega (arith, beneath_stands (stacks_shifted s from to t k) f.beneath j.rank j.turn f.stands f.turn_stands, count j.turn))
      (λ l. let there : 1 ≤ occurrences j.turn (stacks_shifted s from to t k) = l.stands in omega (arith, count j.turn))
      job;
  soon = ⊎_elim (λ f le. f.is_lower) (λ l. l.soon) job;
}
  where
    count : (x : ℕ) → occurrences x (stacks_shifted s from to t k) ≡ occurrences x s.stacks
    count x = occurrences_shifted x k.moved s.stacks (from - 1) (to - 1) k.rest k.onto (apart from to k.from_counts k.to_counts k.another) k.stack k.target

-- a shift moves the container that makes way
pub shift_moves : (s : Position) (from to : ℕ) (t : Position) → IsClear s → (k : IsShifted s from to t) → Moves s s.next (stacks_shifted s from to t k) k.moved
shift_moves s from to t sound k = record {
  before = sound;
  after = clear_shifted s from to t sound k;
  forth = λ low a ne st. pushed mid (to - 1) k.onto k.moved low a (onto_still s from to t k) (popped s.stacks (from - 1) k.rest k.moved low a k.stack ne st);
  back = λ low a ne st. unpopped s.stacks (from - 1) k.rest k.moved low a k.stack (unpushed mid (to - 1) k.onto k.moved low a (onto_still s from to t k) ne st);
  fewer = λ y. omega (arith, occurrences_shifted y k.moved s.stacks (from - 1) (to - 1) k.rest k.onto (apart from to k.from_counts k.to_counts k.another) k.stack k.target);
  own = moved_own s from to t sound k;
  on_nobody = λ a ne u.
      let after : IsClear (put s from to t k) = clear_shifted s from to t sound k in
      none_above (stacks_shifted s from to t k) (to - 1) k.onto k.moved u.beneath a (after.once k.moved) (onto_after s from to t k) ne u.stands u.held;
}
  where
    mid : List (List ℕ)
    mid = slice_set s.stacks (from - 1) k.rest

-- the stacks after a take
abbrev pub left : (s : Position) (row : ℕ) (t : Position) → IsTaken s row t → Position
left s row t k = made s (suc s.next) (slice_set s.stacks (row - 1) k.rest)

pub clear_taken : (s : Position) (row : ℕ) (t : Position) → IsClear s → (k : IsTaken s row t) → IsClear (left s row t k)
clear_taken s row t sound k = record {
  once = λ x. omega (arith, count x, sound.once x);
  gone = λ x lt. ⊎_elim
      (λ e. omega (arith, count x, sound.once x, ap (λ y. one_if (y == x)) e, same_is_one x))
      (λ ne. omega (arith, count x, sound.gone x (omega arith)))
      (cases_eq s.next x);
}
  where
    count : (x : ℕ) → occurrences x (slice_set s.stacks (row - 1) k.rest) + one_if (s.next == x) ≡ occurrences x s.stacks
    count x = occurrences_taken x s.next s.stacks (row - 1) k.rest k.stack

-- a take moves the next container, which has no job
pub take_moves : (s : Position) (row : ℕ) (t : Position) → IsClear s → (k : IsTaken s row t) → Moves s (suc s.next) (slice_set s.stacks (row - 1) k.rest) s.next
take_moves s row t sound k = record {
  before = sound;
  after = clear_taken s row t sound k;
  forth = λ low a ne st. popped s.stacks (row - 1) k.rest s.next low a k.stack ne st;
  back = λ low a ne st. unpopped s.stacks (row - 1) k.rest s.next low a k.stack st;
  fewer = λ y. omega (arith, occurrences_taken y s.next s.stacks (row - 1) k.rest k.stack);
  own = λ j e job. absurd (omega (arith, rank_late (left s row t k) j (clear_taken s row t sound k) job));
  on_nobody = λ a ne u.
      let after : IsClear (left s row t k) = clear_taken s row t sound k in
      omega (arith, beneath_stands (slice_set s.stacks (row - 1) k.rest) u.beneath a s.next u.stands u.held, after.gone s.next (omega arith));
}
