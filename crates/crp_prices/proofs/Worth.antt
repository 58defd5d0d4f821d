-- A history that jobs allow earns at most what the scopes are worth.
use Rattle.std.proofs.Common.{◌≡◌, ℕ, suc, ◌+◌, ◌-◌, ◌<◌, ◌≤◌, min, Bool, true, false, not, nat_lt, List, [], ◌∷◌, ◌++◌, length, refl, sym, ap, ◌∙◌, ⊎_elim, arith}
use Rattle.std.specs.Bool.{⊤}
use Rattle.std.proofs.lemmas.Bool.{cases_lt, and_parts, ltb-true, lt-ltb, le-ltb, both_ways, not-true}
use Rattle.crp_plan.specs.Rows.{holds}
use Rattle.crp_prices.specs.declared.job.Job.{Job}
use Rattle.crp_prices.specs.Prices.{standing_at, is_open, AreOpen, least_of, earns_on, earned}
use Rattle.crp_prices.proofs.Playing.{standing_late, least_held}
use Rattle.crp_prices.specs.declared.job.MarkedJob.{MarkedJob}
use Rattle.crp_prices.specs.Pass.{Scope, with_one, scopes_of, earns_above, best, worth}
use Rattle.crp_prices.proofs.Growing.{ArePartOf, part_part}
use Rattle.crp_prices.proofs.Taking.{Picks, picks_part, taken_above, taken_below}
use Rattle.crp_prices.proofs.Scopes.{one_below, one_above, all_one, Innermost, innermost, scopes_stand, worth_grows, worth_on}

-- the job with a mark
abbrev pub marked_as : Job → Bool → MarkedJob
marked_as j later = record { rank = j.rank; turn = j.turn; is_later = later }

-- the jobs can be taken out of the list one after the other
abbrev pub Allow : ℕ → ℕ → List MarkedJob → List Job → Type 0
Allow ordered from jobs [] = ⊤
Allow ordered from jobs (j ∷ history) = (later : Bool) × (rest : List MarkedJob) × Picks (marked_as j later) jobs rest × (from ≤ j.turn) × (j.turn < j.rank) × (j.turn ≤ ordered)
    × Allow ordered j.turn rest history

-- an event takes from what the scopes are worth at least what it earns
event : (price : ℕ → ℕ → ℕ) (unit ordered : ℕ) (all : List MarkedJob) (height : ℕ) (standing : List ℕ) (j : Job) (later : Bool) (jobs rest : List MarkedJob) (t : Scope) (outer : List Scope) →
    t.size < height → t.low ≡ least_of ordered standing → j.turn < t.low → j.turn < j.rank → Picks (marked_as j later) jobs rest → ArePartOf rest all → ArePartOf rest jobs →
    earns_on price unit ordered standing j + worth price unit ordered all height j.turn rest (with_one j.rank (t ∷ outer)) ≤ worth price unit ordered all height j.turn jobs (t ∷ outer)
event price unit ordered all height standing j later jobs rest t outer room low before soon p part less = ⊎_elim
    (λ below.
    let well : earns_on price unit ordered standing j ≡ price j.rank j.turn = rw (lt-ltb (min j.rank ordered) (least_of ordered standing) (omega arith)) refl in
    omega (
      arith,
      well,
      ap (λ l. worth price unit ordered all height j.turn rest l) (one_below j.rank t outer below),
      ap (λ n. best price unit ordered all n t.low j.turn jobs) size,
      ap (λ n. best price unit ordered all n t.low (suc j.rank) rest) size,
      taken_below price unit ordered all t.low j.turn (marked_as j later) before (omega arith) below soon jobs rest (height - suc t.size) p part,
      worth_grows price unit ordered all height (suc t.low) (suc t.low) rest jobs outer (omega arith) less,
    ))
    (λ above.
    omega (
      arith,
      earns_same above,
      ap (λ l. worth price unit ordered all height j.turn rest l) (one_above j.rank t outer above),
      ap (λ n. best price unit ordered all n t.low j.turn jobs) size,
      taken_above price unit ordered all t.low j.turn (marked_as j later) before (omega arith) above jobs rest (height - suc t.size) p,
      worth_grows price unit ordered all height (suc t.low) (suc t.low) rest jobs outer (omega arith) less,
    ))
    (cases_lt j.rank t.low)
  where
    size : height - t.size ≡ suc (height - suc t.size)
    size = omega arith

    earns_same : t.low ≤ j.rank → earns_on price unit ordered standing j ≡ earns_above price unit ordered t.low (marked_as j later)
    earns_same above = ⊎_elim
        (λ none.
        let a : earns_on price unit ordered standing j ≡ price j.rank j.turn = rw (lt-ltb (min j.rank ordered) (least_of ordered standing) (omega arith)) refl in
        let b : earns_above price unit ordered t.low (marked_as j later) ≡ price j.rank j.turn = rw (lt-ltb ordered t.low none) refl in
        a ∙ sym b)
        (λ some.
        let a : earns_on price unit ordered standing j ≡ price j.rank j.turn - (unit + price j.rank (least_of ordered standing)) =
        rw (le-ltb (min j.rank ordered) (least_of ordered standing) (omega arith)) refl in
        let b : earns_above price unit ordered t.low (marked_as j later) ≡ price j.rank j.turn - (unit + price j.rank t.low) = rw (le-ltb ordered t.low some) refl in
        a ∙ ap (λ n. price j.rank j.turn - (unit + price j.rank n)) (sym low) ∙ sym b)
        (cases_lt ordered t.low)

-- a job is open before the turn of the low
before_low : (height ordered : ℕ) (stack : List ℕ) (j : Job) → j.turn ≤ ordered → is_open height stack j ≡ true →
    (length (standing_at j.turn stack) < height) × (j.turn < least_of ordered (standing_at j.turn stack))
before_low height ordered stack j le o =
    let w : List ℕ = standing_at j.turn stack in
    let p = and_parts (nat_lt (length w) height) (not (holds j.turn w)) o in
    let free : holds j.turn w ≡ false = not-true (holds j.turn w) p.1 in (
      ltb-true (length w) height p.0,
      ⊎_elim
          (λ lt. lt)
          (λ ge.
          let held : holds (least_of ordered w) w ≡ true = least_held ordered (least_of ordered w) w refl (omega arith) in
          let late : j.turn ≤ least_of ordered w = standing_late j.turn (least_of ordered w) stack held in
          let same : least_of ordered w ≡ j.turn = omega arith in
          absurd (both_ways (holds j.turn w) free (ap (λ n. holds n w) (sym same) ∙ held)))
          (cases_lt j.turn (least_of ordered w)),
    )

-- all events of a history
pub earned_worth : (price : ℕ → ℕ → ℕ) (unit ordered : ℕ) (all : List MarkedJob) (height : ℕ) (history : List Job) (stack : List ℕ) (from : ℕ) (jobs : List MarkedJob) →
    Allow ordered from jobs history → AreOpen height stack history → ArePartOf jobs all →
    earned price unit ordered stack history ≤ worth price unit ordered all height from jobs (scopes_of ordered stack)
earned_worth price unit ordered all height [] stack from jobs a o part = omega arith
earned_worth price unit ordered all height (j ∷ history) stack from jobs a o part =
    let w : List ℕ = standing_at j.turn stack in
    let later : Bool = a.0 in
    let rest : List MarkedJob = a.1 in
    let p : Picks (marked_as j later) jobs rest = a.2 in
    let less : ArePartOf rest jobs = picks_part (marked_as j later) jobs rest p in
    let there = before_low height ordered stack j a.5 o.0 in
    let top : Innermost (scopes_of ordered w) (length w) (least_of ordered w) = innermost ordered w in
    let after = earned_worth price unit ordered all height history (w ++ j.rank ∷ []) j.turn rest a.6 o.1 (part_part rest jobs all less part) in
    let one = event price unit ordered all height w j later jobs rest top.scope top.outer (omega (arith, there.0, top.size_is)) top.low_is (omega (arith, there.1, top.low_is)) a.4 p
    (part_part rest jobs all less part) less in
    omega (
      arith,
      after,
      one,
      ap (λ l. worth price unit ordered all height j.turn rest l) (all_one (record { low = suc ordered; size = 0 } ∷ []) w j.rank ∙ ap (λ l. with_one j.rank l) top.are),
      ap (λ l. worth price unit ordered all height j.turn jobs l) (scopes_stand j.turn ordered stack a.5 ∙ top.are),
      worth_on price unit ordered all height from j.turn jobs (scopes_of ordered stack) a.3,
    )
