-- What a scope brings at most.
use Rattle.std.proofs.Common.{◌≡◌, ℕ, zero, suc, ◌+◌, ◌-◌, ◌*◌, ◌<◌, ◌≤◌, Bool, true, false, nat_lt, List, [], ◌∷◌, refl, inl, inr, ⊎_elim, arith}
use Rattle.std.specs.Prelude.{if◌then◌else◌}
use Rattle.std.proofs.lemmas.Bool.{cases_Bool, ltb-true}
use Rattle.crp_prices.specs.declared.job.MarkedJob.{MarkedJob}
use Rattle.crp_prices.specs.Pass.{Has, is_within, earns_above, offer, scan, best}
use Rattle.crp_prices.proofs.Growing.{within_parts}

-- one job, what stands on it up to its container's turn, and what comes after that
both_few : (tall a b n most : ℕ) → a + b + 1 ≤ n → most + (tall * (a * most) + suc tall * (b * most)) ≤ suc tall * (n * most)
both_few tall a b n most le =
    let more : ℕ = n - (a + b + 1) in
    let e : n ≡ a + b + 1 + more = omega arith in
    rw e (omega arith)

one_few : (tall n most : ℕ) → 1 ≤ n → most + tall * (n * most) ≤ suc tall * (n * most)
one_few tall zero most some = absurd (omega arith)
one_few tall (suc n) most some = omega arith

offer_few : (within below : Bool) (paid own on above rest total : ℕ) → (within ≡ true → below ≡ true → paid + (own + on) ≤ total) → (within ≡ true → below ≡ false → above + rest ≤ total) →
    offer within below paid own on above rest ≤ total
offer_few false below paid own on above rest total a b = omega arith
offer_few true true paid own on above rest total a b = a refl refl
offer_few true false paid own on above rest total a b = b refl refl

-- no price is greater than `most`, and each job is done before its container leaves
pub record AreFew (price : ℕ → ℕ → ℕ) (most : ℕ) (all : List MarkedJob) : Type 0 where
  pub prices : (c v : ℕ) → price c v ≤ most
  pub soon : (x : MarkedJob) → Has x all → x.turn < x.rank

scan_few : (price : ℕ → ℕ → ℕ) (unit ordered most : ℕ) (all : List MarkedJob) (inner : ℕ → ℕ → List MarkedJob → ℕ) (tall : ℕ) → AreFew price most all →
    ((low from n : ℕ) (jobs : List MarkedJob) → ((x : MarkedJob) → Has x jobs → Has x all) → low ≤ from + n → inner low from jobs ≤ tall * (n * most)) →
    (low from n : ℕ) (jobs : List MarkedJob) → ((x : MarkedJob) → Has x jobs → Has x all) → low ≤ from + n → scan price unit ordered all inner low from jobs ≤ suc tall * (n * most)
scan_few price unit ordered most all inner tall few is low from n [] part le = omega arith
scan_few price unit ordered most all inner tall few is low from n (x ∷ jobs) part le =
    let own : ℕ = if x.is_later then inner x.rank x.turn all else inner x.rank from jobs in
    let rest : (y : MarkedJob) → Has y jobs → Has y all = λ y has. part y (inr has) in
    let paid : price x.rank x.turn ≤ most = few.prices x.rank x.turn in
    let soon : x.turn < x.rank = few.soon x (part x (inl refl)) in
    let skipped = scan_few price unit ordered most all inner tall few is low from n jobs rest le in
    let taken = offer_few (is_within low from x) (nat_lt x.rank low) (price x.rank x.turn) own (scan price unit ordered all inner low (suc x.rank) jobs) (earns_above price unit ordered low x)
    (inner low from jobs) (suc tall * (n * most))
    (λ t below.
    let d = within_parts low from x t in
    let before : x.turn < low = d.0 in
    let since : from ≤ x.turn = d.1 in
    let lower : x.rank < low = ltb-true x.rank low below in
    omega (
      arith,
      paid,
      own_few rest since soon,
      scan_few price unit ordered most all inner tall few is low (suc x.rank) (low - suc x.rank) jobs rest (omega arith),
      both_few tall (x.rank - from) (low - suc x.rank) n most (omega arith),
    ))
    (λ t above.
    let d = within_parts low from x t in
    let before : x.turn < low = d.0 in
    let since : from ≤ x.turn = d.1 in
    omega (arith, above_few, is low from n jobs rest le, one_few tall n most (omega arith))) in
    omega (arith, skipped, taken)
  where
    own_few : ((y : MarkedJob) → Has y jobs → Has y all) → from ≤ x.turn → x.turn < x.rank →
        (if x.is_later then inner x.rank x.turn all else inner x.rank from jobs) ≤ tall * ((x.rank - from) * most)
    own_few rest since soon = ⊎_elim
        (λ t. rw t (is x.rank x.turn (x.rank - from) all (λ y has. has) (omega arith)))
        (λ f. rw f (is x.rank from (x.rank - from) jobs rest (omega arith)))
        (cases_Bool x.is_later)

    above_few : earns_above price unit ordered low x ≤ most
    above_few = ⊎_elim
        (λ t. rw t (few.prices x.rank x.turn))
        (λ f. rw f (omega (arith, few.prices x.rank x.turn)))
        (cases_Bool (nat_lt ordered low))

pub best_few : (price : ℕ → ℕ → ℕ) (unit ordered most : ℕ) (all : List MarkedJob) → AreFew price most all → (room tall low from n : ℕ) (jobs : List MarkedJob) →
    ((x : MarkedJob) → Has x jobs → Has x all) → room ≤ tall → low ≤ from + n → best price unit ordered all room low from jobs ≤ tall * (n * most)
best_few price unit ordered most all few zero tall low from n jobs part high le = omega arith
best_few price unit ordered most all few (suc room) zero low from n jobs part high le = absurd (omega arith)
best_few price unit ordered most all few (suc room) (suc tall) low from n jobs part high le =
    scan_few price unit ordered most all (best price unit ordered all room) tall few (λ l f m js p e. best_few price unit ordered most all few room tall l f m js p (omega arith) e) low from n jobs part le
