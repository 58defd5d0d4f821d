-- What a scope brings is at least what a job brings that is taken out of the list: later jobs of one turn may be taken in any order.
use Rattle.std.proofs.Common.{◌≡◌, ℕ, zero, suc, ◌+◌, ◌<◌, ◌≤◌, true, false, nat_lt, List, [], ◌∷◌, refl, ap, subst, ◌⊎◌, inl, inr, ⊎_elim, arith}
use Rattle.std.specs.Prelude.{if◌then◌else◌}
use Rattle.std.proofs.lemmas.Bool.{cases_Bool, lt-ltb, le-ltb, both_ways}
use Rattle.crp_prices.specs.declared.job.MarkedJob.{MarkedJob}
use Rattle.crp_prices.specs.Pass.{is_within, earns_above, offer, best}
use Rattle.crp_prices.proofs.Growing.{ArePartOf, part_own, best_grows, within_parts, within_from}

-- the job is taken out of the list, with all that stand before it, but for later jobs of its turn and of a greater rank, where it is a later job: those may stay
abbrev pub Picks : MarkedJob → List MarkedJob → List MarkedJob → Type 0
Picks j [] rest = ⊥
Picks j (x ∷ jobs) rest = ((x ≡ j) × (jobs ≡ rest)) ⊎ (Picks j jobs rest ⊎ ((more : List MarkedJob) × (rest ≡ x ∷ more) × Picks j jobs more × (j.rank < x.rank) × (x.turn ≡ j.turn)
    × (j.is_later ≡ true)))

-- a job within the scope, not lower than its low
pub offers_above : (price : ℕ → ℕ → ℕ) (unit ordered : ℕ) (all : List MarkedJob) (room low from : ℕ) (x : MarkedJob) (jobs : List MarkedJob) → x.turn < low → from ≤ x.turn → low ≤ x.rank →
    earns_above price unit ordered low x + best price unit ordered all room low from jobs ≤ best price unit ordered all (suc room) low from (x ∷ jobs)
offers_above price unit ordered all room low from x jobs lt le high =
    let value : ℕ = earns_above price unit ordered low x + best price unit ordered all room low from jobs in
    let brings : offer (is_within low from x) (nat_lt x.rank low) (price x.rank x.turn)
    (if x.is_later then best price unit ordered all room x.rank x.turn all else best price unit ordered all room x.rank from jobs)
    (best price unit ordered all (suc room) low (suc x.rank) jobs) (earns_above price unit ordered low x) (best price unit ordered all room low from jobs) ≡ value =
    rw (within_from low from x lt le) (rw (le-ltb x.rank low high) refl) in
    omega (arith, brings)

-- a job within the scope, lower than its low
pub offers_below : (price : ℕ → ℕ → ℕ) (unit ordered : ℕ) (all : List MarkedJob) (room low from : ℕ) (x : MarkedJob) (jobs : List MarkedJob) → x.turn < low → from ≤ x.turn → x.rank < low →
    price x.rank x.turn + ((if x.is_later then best price unit ordered all room x.rank x.turn all else best price unit ordered all room x.rank from jobs)
    + best price unit ordered all (suc room) low (suc x.rank) jobs) ≤ best price unit ordered all (suc room) low from (x ∷ jobs)
offers_below price unit ordered all room low from x jobs lt le below =
    let own : ℕ = if x.is_later then best price unit ordered all room x.rank x.turn all else best price unit ordered all room x.rank from jobs in
    let value : ℕ = price x.rank x.turn + (own + best price unit ordered all (suc room) low (suc x.rank) jobs) in
    let brings : offer (is_within low from x) (nat_lt x.rank low) (price x.rank x.turn) own
    (best price unit ordered all (suc room) low (suc x.rank) jobs) (earns_above price unit ordered low x) (best price unit ordered all room low from jobs) ≡ value =
    rw (within_from low from x lt le) (rw (lt-ltb x.rank low below) refl) in
    omega (arith, brings)

-- jobs may be left out
pub skips : (price : ℕ → ℕ → ℕ) (unit ordered : ℕ) (all : List MarkedJob) (room low from : ℕ) (x : MarkedJob) (jobs : List MarkedJob) →
    best price unit ordered all room low from jobs ≤ best price unit ordered all room low from (x ∷ jobs)
skips price unit ordered all zero low from x jobs = omega arith
skips price unit ordered all (suc room) low from x jobs = omega arith

-- a job of an earlier turn brings nothing
pub early : (price : ℕ → ℕ → ℕ) (unit ordered : ℕ) (all : List MarkedJob) (room low from : ℕ) (x : MarkedJob) (jobs : List MarkedJob) → x.turn < from →
    best price unit ordered all room low from (x ∷ jobs) ≤ best price unit ordered all room low from jobs
early price unit ordered all zero low from x jobs lt = omega arith
early price unit ordered all (suc room) low from x jobs lt =
    let own : ℕ = if x.is_later then best price unit ordered all room x.rank x.turn all else best price unit ordered all room x.rank from jobs in
    let none : offer (is_within low from x) (nat_lt x.rank low) (price x.rank x.turn) own
    (best price unit ordered all (suc room) low (suc x.rank) jobs) (earns_above price unit ordered low x) (best price unit ordered all room low from jobs) ≡ 0 =
    ⊎_elim (λ t. let d = within_parts low from x t in let ge : from ≤ x.turn = d.1 in absurd (omega arith)) (λ f. rw f refl) (cases_Bool (is_within low from x)) in
    omega (arith, none)

-- what is left of the list is part of it
pub picks_part : (j : MarkedJob) (jobs rest : List MarkedJob) → Picks j jobs rest → ArePartOf rest jobs
picks_part j [] rest p = absurd p
picks_part j (x ∷ jobs) rest p = ⊎_elim
    (λ h. inl (subst (λ l. ArePartOf l jobs) h.1 (part_own jobs)))
    (λ o. ⊎_elim
    (λ s. inl (picks_part j jobs rest s))
    (λ k. inr (k.0, k.1, picks_part j jobs k.0 k.2))
    o)
    p

-- where the job is taken out below one of its turn and of a greater rank, that can be taken before it
exchanged : (price : ℕ → ℕ → ℕ) (unit ordered : ℕ) (all : List MarkedJob) (low from : ℕ) (j x : MarkedJob) → j.turn < low → from ≤ j.turn → low ≤ j.rank → (jobs more : List MarkedJob) →
    ((room : ℕ) → earns_above price unit ordered low j + best price unit ordered all room low from more ≤ best price unit ordered all (suc room) low from jobs) →
    j.rank < x.rank → x.turn ≡ j.turn → (room : ℕ) →
    earns_above price unit ordered low j + best price unit ordered all room low from (x ∷ more) ≤ best price unit ordered all (suc room) low from (x ∷ jobs)
exchanged price unit ordered all low from j x lt le high jobs more under above same zero = omega (arith, under zero, skips price unit ordered all 1 low from x jobs)
exchanged price unit ordered all low from j x lt le high jobs more under above same (suc room) =
    let put = offers_above price unit ordered all (suc room) low from x jobs (omega arith) (omega arith) (omega arith) in
    let own : ℕ = if x.is_later then best price unit ordered all room x.rank x.turn all else best price unit ordered all room x.rank from more in
    let brings : offer (is_within low from x) (nat_lt x.rank low) (price x.rank x.turn) own
    (best price unit ordered all (suc room) low (suc x.rank) more) (earns_above price unit ordered low x) (best price unit ordered all room low from more)
    ≡ earns_above price unit ordered low x + best price unit ordered all room low from more =
    rw (within_from low from x (omega arith) (omega arith)) (rw (le-ltb x.rank low (omega arith)) refl) in
    omega (arith, under room, under (suc room), put, brings, skips price unit ordered all (suc (suc room)) low from x jobs)

-- a job that is taken and is no new low
pub taken_above : (price : ℕ → ℕ → ℕ) (unit ordered : ℕ) (all : List MarkedJob) (low from : ℕ) (j : MarkedJob) → j.turn < low → from ≤ j.turn → low ≤ j.rank →
    (jobs rest : List MarkedJob) (room : ℕ) → Picks j jobs rest →
    earns_above price unit ordered low j + best price unit ordered all room low from rest ≤ best price unit ordered all (suc room) low from jobs
taken_above price unit ordered all low from j lt le high [] rest room p = absurd p
taken_above price unit ordered all low from j lt le high (x ∷ jobs) rest room p = ⊎_elim
    (λ h.
    let one : earns_above price unit ordered low j + best price unit ordered all room low from jobs ≤ best price unit ordered all (suc room) low from (j ∷ jobs) =
    offers_above price unit ordered all room low from j jobs lt le high in
    omega (arith, one, ap (λ l. best price unit ordered all room low from l) h.1, ap (λ y. best price unit ordered all (suc room) low from (y ∷ jobs)) h.0))
    (λ o. ⊎_elim
    (λ s. omega (arith, taken_above price unit ordered all low from j lt le high jobs rest room s, skips price unit ordered all (suc room) low from x jobs))
    (λ k.
    let e : rest ≡ x ∷ k.0 = k.1 in
    omega (
      arith,
      ap (λ l. best price unit ordered all room low from l) e,
      exchanged price unit ordered all low from j x lt le high jobs k.0 (λ m. taken_above price unit ordered all low from j lt le high jobs k.0 m k.2) k.3 k.4 room,
    ))
    o)
    p

-- a first job that is taken as the new low
taken_first : (price : ℕ → ℕ → ℕ) (unit ordered : ℕ) (all : List MarkedJob) (low from : ℕ) (j : MarkedJob) → j.turn < low → from ≤ j.turn → j.rank < low → j.is_later ≡ false →
    (jobs rest : List MarkedJob) (room : ℕ) → Picks j jobs rest →
    price j.rank j.turn + (best price unit ordered all room j.rank j.turn rest + best price unit ordered all (suc room) low (suc j.rank) rest)
    ≤ best price unit ordered all (suc room) low from jobs
taken_first price unit ordered all low from j lt le below first [] rest room p = absurd p
taken_first price unit ordered all low from j lt le below first (x ∷ jobs) rest room p = ⊎_elim
    (λ h.
    let one = offers_below price unit ordered all room low from j jobs lt le below in
    let own : (if j.is_later then best price unit ordered all room j.rank j.turn all else best price unit ordered all room j.rank from jobs)
    ≡ best price unit ordered all room j.rank from jobs = rw first refl in
    let later = best_grows price unit ordered all room j.rank j.turn from jobs jobs le (part_own jobs) in
    omega (
      arith,
      one,
      own,
      later,
      ap (λ l. best price unit ordered all room j.rank j.turn l) h.1,
      ap (λ l. best price unit ordered all (suc room) low (suc j.rank) l) h.1,
      ap (λ y. best price unit ordered all (suc room) low from (y ∷ jobs)) h.0,
    ))
    (λ o. ⊎_elim
    (λ s. omega (arith, taken_first price unit ordered all low from j lt le below first jobs rest room s, skips price unit ordered all (suc room) low from x jobs))
    (λ k. absurd (both_ways j.is_later first k.5))
    o)
    p

-- a later job that is taken as the new low
taken_later : (price : ℕ → ℕ → ℕ) (unit ordered : ℕ) (all : List MarkedJob) (low from : ℕ) (j : MarkedJob) → j.turn < low → from ≤ j.turn → j.rank < low → j.turn < j.rank → j.is_later ≡ true →
    (jobs rest : List MarkedJob) (room : ℕ) → Picks j jobs rest →
    price j.rank j.turn + (best price unit ordered all room j.rank j.turn all + best price unit ordered all (suc room) low (suc j.rank) rest)
    ≤ best price unit ordered all (suc room) low from jobs
taken_later price unit ordered all low from j lt le below soon later [] rest room p = absurd p
taken_later price unit ordered all low from j lt le below soon later (x ∷ jobs) rest room p = ⊎_elim
    (λ h.
    let one = offers_below price unit ordered all room low from j jobs lt le below in
    let own : (if j.is_later then best price unit ordered all room j.rank j.turn all else best price unit ordered all room j.rank from jobs)
    ≡ best price unit ordered all room j.rank j.turn all = rw later refl in
    omega (
      arith,
      one,
      own,
      ap (λ l. best price unit ordered all (suc room) low (suc j.rank) l) h.1,
      ap (λ y. best price unit ordered all (suc room) low from (y ∷ jobs)) h.0,
    ))
    (λ o. ⊎_elim
    (λ s. omega (arith, taken_later price unit ordered all low from j lt le below soon later jobs rest room s, skips price unit ordered all (suc room) low from x jobs))
    (λ k.
    let e : rest ≡ x ∷ k.0 = k.1 in
    let same : x.turn ≡ j.turn = k.4 in
    omega (
      arith,
      taken_later price unit ordered all low from j lt le below soon later jobs k.0 room k.2,
      early price unit ordered all (suc room) low (suc j.rank) x k.0 (omega arith),
      ap (λ l. best price unit ordered all (suc room) low (suc j.rank) l) e,
      skips price unit ordered all (suc room) low from x jobs,
    ))
    o)
    p

-- a job that is taken as the new low
pub taken_below : (price : ℕ → ℕ → ℕ) (unit ordered : ℕ) (all : List MarkedJob) (low from : ℕ) (j : MarkedJob) → j.turn < low → from ≤ j.turn → j.rank < low → j.turn < j.rank →
    (jobs rest : List MarkedJob) (room : ℕ) → Picks j jobs rest → ArePartOf rest all →
    price j.rank j.turn + (best price unit ordered all room j.rank j.turn rest + best price unit ordered all (suc room) low (suc j.rank) rest)
    ≤ best price unit ordered all (suc room) low from jobs
taken_below price unit ordered all low from j lt le below soon jobs rest room p part = ⊎_elim
    (λ t. omega (arith, taken_later price unit ordered all low from j lt le below soon t jobs rest room p, best_grows price unit ordered all room j.rank j.turn j.turn rest all (omega arith) part))
    (λ f. taken_first price unit ordered all low from j lt le below f jobs rest room p)
    (cases_Bool j.is_later)
