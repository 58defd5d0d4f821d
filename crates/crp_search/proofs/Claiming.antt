-- What claims make of a worker's view: one after the other, and one that is refused behind them.
use Rattle.std.proofs.Common.{◌≡◌, ℕ, zero, suc, ◌+◌, ◌<◌, ◌≤◌, ⊎_elim, Bool, true, false, if◌then◌else◌, List, sym, ap, ◌∙◌, arith}
use Rattle.std.proofs.lemmas.Bool.{cases_lt}
use Rattle.crp_plan.specs.Bay.{Problem}
use Rattle.crp_plan.specs.declared.running.View.{View}
use Rattle.crp_thinning.specs.declared.claims.Unclosed.{Unclosed}
use Rattle.crp_thinning.specs.declared.claims.Unclosed.TheVariants.{Open, Refused, Memory}
use Rattle.crp_thinning.specs.Claiming.{Granted, Claimed}
use Rattle.crp_search.specs.Limits.{ClaimsExpansion}
use Rattle.crp_search.specs.Tries.{OnlyGranted, LastRefused, EndsTry}

-- ---- one claim

-- one that was granted
granted_one : (budget : ℕ) (v w : View) → ClaimsExpansion budget v true w → w ≡ record v { granted = v.granted + 1 }
granted_one budget v w c = ⊎_elim
    (λ (some : 0 < v.refused). let no : true ≡ false = (c.was_refused some).0 in absurd (cc))
    (λ (none : v.refused ≤ 0).
    let k = c.tries (omega arith) in
    k.after ∙ ap (λ t. if t then record v { granted = v.granted + 1 } else record v { refused = v.refused + 1 }) (sym k.answer_is))
    (cases_lt 0 v.refused)

-- one that was refused, now or before
pub record RefusedOne (v w : View) : Type 0 where
  pub only : w ≡ record v { refused = w.refused }
  pub some : 0 < w.refused
  pub no_less : v.refused ≤ w.refused
  pub one_more : w.refused ≤ v.refused + 1

refused_one : (budget : ℕ) (v w : View) → ClaimsExpansion budget v false w → RefusedOne v w
refused_one budget v w c = ⊎_elim
    (λ (some : 0 < v.refused).
    let same : w ≡ v = (c.was_refused some).1 in
    let refused : w.refused ≡ v.refused = ap (λ (x : View). x.refused) same in
    record { only = same ∙ ap (λ n. record v { refused = n }) (sym refused); some = omega arith; no_less = omega arith; one_more = omega arith })
    (λ (none : v.refused ≤ 0).
    let k = c.tries (omega arith) in
    let after : w ≡ record v { refused = v.refused + 1 } = k.after ∙ ap (λ t. if t then record v { granted = v.granted + 1 } else record v { refused = v.refused + 1 }) (sym k.answer_is) in
    let refused : w.refused ≡ v.refused + 1 = ap (λ (x : View). x.refused) after in
    record { only = after ∙ ap (λ n. record v { refused = n }) (sym refused); some = omega arith; no_less = omega arith; one_more = omega arith })
    (cases_lt 0 v.refused)

-- ---- many, one after the other, of whatever makes them

-- what stays besides the view
abbrev Same : {X : Type 0} → (X → Problem) → (X → ℕ) → (X → List (List ℕ)) → X → X → Type 0
Same problem budget puts old new = (problem new ≡ problem old) × (budget new ≡ budget old) × (puts new ≡ puts old)

-- what a claim does
abbrev Does : {X : Type 0} → (X → Bool → X → Type 0) → (X → Problem) → (X → ℕ) → (X → View) → (X → List (List ℕ)) → Type 0
Does {X} claims problem budget view puts = (old new : X) (granted : Bool) → claims old granted new → ClaimsExpansion (budget old) (view old) granted (view new) × Same problem budget puts old new

module _ {X : Type 0} (claims : X → Bool → X → Type 0) (problem : X → Problem) (budget : X → ℕ) (view : X → View) (puts : X → List (List ℕ)) (does : Does claims problem budget view puts) where
  granted_views : (count : ℕ) (old new : X) → Granted claims count old new → view new ≡ record (view old) { granted = (view old).granted + count }
  granted_views zero old new g =
      let none : (view old).granted ≡ (view old).granted + 0 = omega arith in
      ap view g ∙ ap (λ n. record (view old) { granted = n }) none
  granted_views (suc count) old new g =
      let one = granted_one (budget old) (view old) (view g.0) (does old g.0 true g.1).0 in
      let here : (view g.0).granted ≡ (view old).granted + 1 = ap (λ (x : View). x.granted) one in
      let all : (view g.0).granted + count ≡ (view old).granted + suc count = omega arith in
      granted_views count g.0 new g.2 ∙ ap (λ (v : View). record v { granted = (view g.0).granted + count }) one ∙ ap (λ n. record (view old) { granted = n }) all

  pub granted_same : (count : ℕ) (old new : X) → Granted claims count old new → Same problem budget puts old new
  granted_same zero old new g = (ap problem g, ap budget g, ap puts g)
  granted_same (suc count) old new g =
      let one = (does old g.0 true g.1).1 in
      let more = granted_same count g.0 new g.2 in
      (more.0 ∙ one.0, more.1 ∙ one.1, more.2 ∙ one.2)

  pub only_granted : (count most : ℕ) (old new : X) → count ≤ most → Granted claims count old new → OnlyGranted 0 most (view old) (view new)
  only_granted count most old new few g =
      let all = granted_views count old new g in
      let granted : (view new).granted ≡ (view old).granted + count = ap (λ (x : View). x.granted) all in
      record { only = all ∙ ap (λ n. record (view old) { granted = n }) (sym granted); enough = omega arith; few = omega arith }

  -- then one that is refused
  pub and_refused : (most : ℕ) (old now new : X) → OnlyGranted 0 most (view old) (view now) → claims now false new → LastRefused most (view old) (view new)
  and_refused most old now new k c =
      let one = refused_one (budget now) (view now) (view new) (does now new false c).0 in
      let granted : (view new).granted ≡ (view now).granted = ap (λ (x : View). x.granted) one.only in
      let before : (view now).refused ≡ (view old).refused = ap (λ (x : View). x.refused) k.only in
      let enough = k.enough in
      let few = k.few in
      let some = one.some in
      let no_less = one.no_less in
      let one_more = one.one_more in
      record {
        only = one.only ∙ ap (λ (v : View). record v { refused = (view new).refused }) k.only ∙ ap (λ n. record (view old) { granted = n; refused = (view new).refused }) (sym granted);
        enough = omega arith;
        few = omega arith;
        some = some;
        no_less = omega arith;
        one_more = omega arith;
      }

  -- what a closer claimed that closed nothing
  pub ends_try : (most : ℕ) (why : Unclosed) (old new : X) → Claimed claims most why old new → EndsTry most why (view old) (view new)
  ends_try most Open old new k = only_granted k.0 most old new k.1 k.2
  ends_try most Refused old new k =
      let few = k.1 in
      and_refused most old k.2.0 new (only_granted k.0 most old k.2.0 (omega arith) k.2.1) k.2.2
  ends_try most Memory old new k = only_granted k.0 most old new k.1 k.2

  pub tried_same : (most : ℕ) (why : Unclosed) (old new : X) → Claimed claims most why old new → Same problem budget puts old new
  tried_same most Open old new k = granted_same k.0 old new k.2
  tried_same most Refused old new k =
      let more = granted_same k.0 old k.2.0 k.2.1 in
      let one = (does k.2.0 new false k.2.2).1 in
      (one.0 ∙ more.0, one.1 ∙ more.1, one.2 ∙ more.2)
  tried_same most Memory old new k = granted_same k.0 old new k.2
