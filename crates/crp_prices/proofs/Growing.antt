-- A scope brings no less by more jobs, and from an earlier turn on.
use Rattle.std.proofs.Common.{◌≡◌, ℕ, zero, suc, ◌<◌, ◌≤◌, Bool, true, false, not, nat_lt, List, [], ◌∷◌, refl, ap, subst, ◌⊎◌, inl, inr, ⊎_elim, arith}
use Rattle.std.specs.Prelude.{if◌then◌else◌}
use Rattle.std.proofs.lemmas.Bool.{and_parts, and_from, ltb-true, ltb-false, lt-ltb, le-ltb, not-true, not_from_false}
use Rattle.crp_prices.specs.declared.job.MarkedJob.{MarkedJob}
use Rattle.crp_prices.specs.Pass.{is_within, earns_above, offer, scan, best}

-- jobs of a list, in its order
abbrev pub ArePartOf : List MarkedJob → List MarkedJob → Type 0
ArePartOf part [] = part ≡ []
ArePartOf part (x ∷ jobs) = ArePartOf part jobs ⊎ ((rest : List MarkedJob) × (part ≡ x ∷ rest) × ArePartOf rest jobs)

pub part_own : (jobs : List MarkedJob) → ArePartOf jobs jobs
part_own [] = refl
part_own (x ∷ jobs) = inr (jobs, refl, part_own jobs)

pub part_part : (a b c : List MarkedJob) → ArePartOf a b → ArePartOf b c → ArePartOf a c
part_part a b [] p q = subst (ArePartOf a) q p
part_part a b (x ∷ c) p q = ⊎_elim
    (λ l. inl (part_part a b c p l))
    (λ r.
    let p' : ArePartOf a (x ∷ r.0) = subst (ArePartOf a) r.1 p in
    ⊎_elim
    (λ l. inl (part_part a r.0 c l r.2))
    (λ t. inr (t.0, t.1, part_part t.0 r.0 c t.2 r.2))
    p')
    q

pub offer_grows : (w w' below : Bool) (paid inner inner' resumed resumed' above rest rest' : ℕ) → (w ≡ true → w' ≡ true) → inner ≤ inner' → resumed ≤ resumed' → rest ≤ rest' →
    offer w below paid inner resumed above rest ≤ offer w' below paid inner' resumed' above rest'
offer_grows false w' below paid inner inner' resumed resumed' above rest rest' t i r g = omega arith
offer_grows true true true paid inner inner' resumed resumed' above rest rest' t i r g = omega arith
offer_grows true true false paid inner inner' resumed resumed' above rest rest' t i r g = omega arith
offer_grows true false below paid inner inner' resumed resumed' above rest rest' t i r g = let e = t refl in cc

choice_grows : (b : Bool) (same less more : ℕ) → less ≤ more → (if b then same else less) ≤ (if b then same else more)
choice_grows true same less more le = omega arith
choice_grows false same less more le = le

pub within_parts : (low from : ℕ) (x : MarkedJob) → is_within low from x ≡ true → (x.turn < low) × (from ≤ x.turn)
within_parts low from x h =
    let p = and_parts (nat_lt x.turn low) (not (nat_lt x.turn from)) h in
    (ltb-true x.turn low p.0, ltb-false x.turn from (not-true (nat_lt x.turn from) p.1))

pub within_from : (low from : ℕ) (x : MarkedJob) → x.turn < low → from ≤ x.turn → is_within low from x ≡ true
within_from low from x lt le = and_from (nat_lt x.turn low) (not (nat_lt x.turn from)) (lt-ltb x.turn low lt) (not_from_false (nat_lt x.turn from) (le-ltb x.turn from le))

-- what is said of a scope's function of low, turn and jobs
abbrev pub Grows : (ℕ → ℕ → List MarkedJob → ℕ) → Type 0
Grows f = (low from from' : ℕ) (part jobs : List MarkedJob) → from' ≤ from → ArePartOf part jobs → f low from part ≤ f low from' jobs

scan_grows : (price : ℕ → ℕ → ℕ) (unit ordered : ℕ) (all : List MarkedJob) (inner : ℕ → ℕ → List MarkedJob → ℕ) → Grows inner →
    (low from from' : ℕ) (part jobs : List MarkedJob) → from' ≤ from → ArePartOf part jobs → scan price unit ordered all inner low from part ≤ scan price unit ordered all inner low from' jobs
scan_grows price unit ordered all inner g low from from' part [] le p = omega (arith, ap (λ l. scan price unit ordered all inner low from l) p)
scan_grows price unit ordered all inner g low from from' part (x ∷ jobs) le p = ⊎_elim
    (λ q. let r = scan_grows price unit ordered all inner g low from from' part jobs le q in omega arith)
    (λ q.
    let rest : List MarkedJob = q.0 in
    let same : part ≡ x ∷ rest = q.1 in
    let within : ArePartOf rest jobs = q.2 in
    let skipped = scan_grows price unit ordered all inner g low from from' rest jobs le within in
    let taken = offer_grows (is_within low from x) (is_within low from' x) (nat_lt x.rank low) (price x.rank x.turn)
    (if x.is_later then inner x.rank x.turn all else inner x.rank from rest) (if x.is_later then inner x.rank x.turn all else inner x.rank from' jobs)
    (scan price unit ordered all inner low (suc x.rank) rest) (scan price unit ordered all inner low (suc x.rank) jobs)
    (earns_above price unit ordered low x) (inner low from rest) (inner low from' jobs)
    (λ h. let d = within_parts low from x h in within_from low from' x d.0 (let a : from ≤ x.turn = d.1 in omega arith))
    (choice_grows x.is_later (inner x.rank x.turn all) (inner x.rank from rest) (inner x.rank from' jobs) (g x.rank from from' rest jobs le within))
    (scan_grows price unit ordered all inner g low (suc x.rank) (suc x.rank) rest jobs (omega arith) within)
    (g low from from' rest jobs le within) in
    omega (arith, ap (λ l. scan price unit ordered all inner low from l) same, skipped, taken))
    p

pub best_grows : (price : ℕ → ℕ → ℕ) (unit ordered : ℕ) (all : List MarkedJob) (room : ℕ) → Grows (best price unit ordered all room)
best_grows price unit ordered all zero low from from' part jobs le p = omega arith
best_grows price unit ordered all (suc room) low from from' part jobs le p =
    scan_grows price unit ordered all (best price unit ordered all room) (best_grows price unit ordered all room) low from from' part jobs le p
