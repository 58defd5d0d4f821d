-- Where the jobs of a turn begin.
use Rattle.std.proofs.Common.{◌≡◌, ℕ, zero, suc, ◌<◌, ◌≤◌, List, [], ◌∷◌, length, drop, Some, slice_get, slice_index, refl, sym, ap, ◌∙◌, subst, inl, inr, ⊎_elim, arith, length-drop}
use Rattle.std.proofs.lemmas.Bool.{cases_lt, lt-ltb, le-ltb}
use Rattle.crp_prices.specs.declared.job.MarkedJob.{MarkedJob}
use Rattle.crp_prices.specs.Pass.{Has}
use Rattle.crp_prices.specs.Columns.{from_on, AreRising}
use Rattle.crp_prices.specs.Tables.{AreReadable, AreStarts}

pub has_at : (jobs : List MarkedJob) (i : ℕ) (x : MarkedJob) → slice_get jobs i ≡ Some x → Has x jobs
has_at [] i x here = cc
has_at (y ∷ jobs) zero x here = let same : y ≡ x = cc in inl same
has_at (y ∷ jobs) (suc i) x here = inr (has_at jobs i x here)

pub has_drop : (n : ℕ) (jobs : List MarkedJob) (x : MarkedJob) → Has x (drop n jobs) → Has x jobs
has_drop zero jobs x has = has
has_drop (suc n) [] x has = has
has_drop (suc n) (y ∷ jobs) x has = inr (has_drop n jobs x has)

has_behind : (n i : ℕ) (jobs : List MarkedJob) (x : MarkedJob) → n ≤ i → slice_get jobs i ≡ Some x → Has x (drop n jobs)
has_behind zero i jobs x le here = has_at jobs i x here
has_behind (suc n) i [] x le here = cc
has_behind (suc n) zero (y ∷ jobs) x le here = absurd (omega arith)
has_behind (suc n) (suc i) (y ∷ jobs) x le here = has_behind n i jobs x (omega arith) here

skip : (v : ℕ) (x : MarkedJob) (jobs : List MarkedJob) → x.turn < v → from_on v (x ∷ jobs) ≡ from_on v jobs
skip v x jobs lt = rw (lt-ltb x.turn v lt) refl

stop : (v : ℕ) (x : MarkedJob) (jobs : List MarkedJob) → v ≤ x.turn → from_on v (x ∷ jobs) ≡ x ∷ jobs
stop v x jobs le = rw (le-ltb x.turn v le) refl

-- the jobs from a turn on are not before it
pub late_on : (v : ℕ) (jobs : List MarkedJob) → AreRising jobs → (y : MarkedJob) → Has y (from_on v jobs) → v ≤ y.turn
late_on v [] r y has = absurd has
late_on v (x ∷ jobs) r y has = ⊎_elim
    (λ lt. late_on v jobs r.1 y (subst (Has y) (skip v x jobs lt) has))
    (λ ge. ⊎_elim
    (λ same. let t : x.turn ≡ y.turn = ap (λ (z : MarkedJob). z.turn) same in omega arith)
    (λ o. omega (arith, r.0 y o))
    (subst (Has y) (stop v x jobs ge) has))
    (cases_lt x.turn v)

fewer_at_all : (v : ℕ) (jobs : List MarkedJob) → length (from_on v jobs) ≤ length jobs
fewer_at_all v [] = omega arith
fewer_at_all v (x ∷ jobs) = ⊎_elim
    (λ lt. omega (arith, fewer_at_all v jobs, ap length (skip v x jobs lt)))
    (λ ge. omega (arith, ap length (stop v x jobs ge)))
    (cases_lt x.turn v)

-- from a later turn on there are no more
fewer_on : (v w : ℕ) (jobs : List MarkedJob) → v ≤ w → length (from_on w jobs) ≤ length (from_on v jobs)
fewer_on v w [] le = omega arith
fewer_on v w (x ∷ jobs) le = ⊎_elim
    (λ lt. omega (arith, fewer_on v w jobs le, ap length (skip v x jobs lt), ap length (skip w x jobs (omega arith))))
    (λ ge. omega (arith, fewer_at_all w (x ∷ jobs), ap length (stop v x jobs ge)))
    (cases_lt x.turn v)

-- from one turn on, and then from a later one
pub on_and_on : (v w : ℕ) (jobs : List MarkedJob) → v ≤ w → from_on w (from_on v jobs) ≡ from_on w jobs
on_and_on v w [] le = refl
on_and_on v w (x ∷ jobs) le = ⊎_elim
    (λ lt. ap (from_on w) (skip v x jobs lt) ∙ on_and_on v w jobs le ∙ sym (skip w x jobs (omega arith)))
    (λ ge. ap (from_on w) (stop v x jobs ge))
    (cases_lt x.turn v)

pub all_on : (jobs : List MarkedJob) → from_on 0 jobs ≡ jobs
all_on [] = refl
all_on (x ∷ jobs) = stop 0 x jobs (omega arith)

-- what stands before the begin of a turn is before the turn
before_begin : (jobs : List MarkedJob) (n v i : ℕ) (x : MarkedJob) → n ≤ length jobs → drop n jobs ≡ from_on v jobs → i < n → slice_get jobs i ≡ Some x → x.turn < v
before_begin [] n v i x le is lt here = cc
before_begin (y ∷ jobs) zero v i x le is lt here = absurd (omega arith)
before_begin (y ∷ jobs) (suc n) v i x le is lt here = ⊎_elim
    (λ early. first i lt here early (λ m m_lt m_here. before_begin jobs n v m x (omega arith) (is ∙ skip v y jobs early) m_lt m_here))
    (λ late. absurd (omega (arith, ap length is, ap length (stop v y jobs late), length-drop n jobs)))
    (cases_lt y.turn v)
  where
    first : (i : ℕ) → i < suc n → slice_get (y ∷ jobs) i ≡ Some x → y.turn < v → ((m : ℕ) → m < n → slice_get jobs m ≡ Some x → x.turn < v) → x.turn < v
    first zero lt here early others = let same : y ≡ x = cc in let t : y.turn ≡ x.turn = ap (λ (z : MarkedJob). z.turn) same in omega arith
    first (suc i) lt here early others = others i (omega arith) here

-- in a turn that comes after a job, the same jobs are left, whether those up to this one are looked at or not
pub left_after : (jobs : List MarkedJob) (i v : ℕ) (x : MarkedJob) → AreRising jobs → slice_get jobs i ≡ Some x → x.turn < v → from_on v (drop (suc i) jobs) ≡ from_on v jobs
left_after [] i v x r here lt = cc
left_after (y ∷ jobs) zero v x r here lt =
    let same : y ≡ x = cc in
    let t : y.turn ≡ x.turn = ap (λ (z : MarkedJob). z.turn) same in
    sym (skip v y jobs (omega arith))
left_after (y ∷ jobs) (suc i) v x r here lt =
    left_after jobs i v x r.1 here lt ∙ sym (skip v y jobs (omega (arith, r.0 x (has_at jobs i x here))))

-- what stands before a turn's begin, and what does not
pub before_start : (jobs : List MarkedJob) (starts : List ℕ) (v i : ℕ) (x : MarkedJob) → AreStarts jobs starts → v < 98 → i < slice_index starts v → slice_get jobs i ≡ Some x → x.turn < v
before_start jobs starts v i x s few lt here = before_begin jobs (slice_index starts v) v i x (s.within v few) (s.begins v few) lt here

pub after_start : (jobs : List MarkedJob) (starts : List ℕ) (v i : ℕ) (x : MarkedJob) → AreRising jobs → AreStarts jobs starts → v < 98 → slice_get jobs i ≡ Some x → x.turn < v →
    i < slice_index starts v
after_start jobs starts v i x r s few here early = ⊎_elim
    (λ lt. lt)
    (λ ge. absurd (omega (arith, late_on v jobs r x (subst (Has x) (s.begins v few) (has_behind (slice_index starts v) i jobs x ge here)))))
    (cases_lt i (slice_index starts v))

-- the begins rise
pub starts_rise : (jobs : List MarkedJob) (starts : List ℕ) (v w : ℕ) → AreStarts jobs starts → v ≤ w → w < 98 → slice_index starts v ≤ slice_index starts w
starts_rise jobs starts v w s le few = omega (
  arith,
  fewer_on v w jobs le,
  ap length (s.begins v (omega arith)),
  ap length (s.begins w few),
  length-drop (slice_index starts v) jobs,
  length-drop (slice_index starts w) jobs,
  s.within v (omega arith),
  s.within w few,
)

-- a job that can be read: its turn and rank, where it stands between the begins of its turn and of its container's, and the jobs after that
pub record Placed (jobs : List MarkedJob) (starts : List ℕ) (i : ℕ) (x : MarkedJob) : Type 0 where
  pub soon : x.turn < x.rank
  pub ranks : x.rank ≤ 96
  pub after : slice_index starts x.turn ≤ i
  pub before : i < slice_index starts x.rank
  pub resumes : i < slice_index starts (suc x.rank)
  pub left : drop (slice_index starts (suc x.rank)) jobs ≡ from_on (suc x.rank) (drop (suc i) jobs)

pub placed : (jobs : List MarkedJob) (starts : List ℕ) (i : ℕ) (x : MarkedJob) → AreReadable jobs → AreStarts jobs starts → slice_get jobs i ≡ Some x → Placed jobs starts i x
placed jobs starts i x r s here =
    let soon : x.turn < x.rank = r.soon x (has_at jobs i x here) in
    let ranks : x.rank ≤ 96 = r.ranks x (has_at jobs i x here) in
    record {
      soon = soon;
      ranks = ranks;
      after = ⊎_elim
          (λ lt. absurd (omega (arith, before_start jobs starts x.turn i x s (omega arith) lt here)))
          (λ ge. ge)
          (cases_lt i (slice_index starts x.turn));
      before = after_start jobs starts x.rank i x r.rising s (omega arith) here soon;
      resumes = after_start jobs starts (suc x.rank) i x r.rising s (omega arith) here (omega arith);
      left = s.begins (suc x.rank) (omega arith) ∙ sym (left_after jobs i (suc x.rank) x r.rising here (omega arith));
    }
