-- Each step keeps the rule.
use Rattle.std.proofs.Common.{◌≡◌, ℕ, ◌+◌, ◌-◌, ◌*◌, ◌%◌, ◌^◌, ◌<◌, ◌≤◌, ◌≢◌, ◌⊎◌, List, [], eqb, min, slice_index, slice_set, set, sym, refl, ap, ◌∙◌, subst, inl, inr, ⊎_elim, arith, le_refl, length-set, get_or-set_same, get_or-set_other, eq-eqb, ne_eqb}
use Rattle.std.specs.List.{sum_by}
use Rattle.std.proofs.lemmas.Bool.{cases_lt}
use mathlib.Core.Option.{some, none}
use mathlib.Core.Logic.{dite}
use native.Mathlib.Decide.{ℕ_discrete}
use lib.ListN.{get_elem?}
use prog.Atomic.{either}
use Rattle.atomic_table.specs.Table.{State, Me, step, stepped, keeps, Allows, Splits, Joins, Final, Seen}
use Rattle.atomic_table.proofs.Lists.{at_set, at_snoc, set_here, set_else, set_again}
use Rattle.crp_plan.specs.Running.{words, after_see, after_offer}
use Rattle.crp_incumbent.specs.declared.rule.Key.{Key}
use Rattle.crp_incumbent.specs.declared.rule.KeyedView.{KeyedView}
use Rattle.crp_incumbent.specs.Rule.{claims_at, limit_at, most_budget, all_shares, one_open, open_in, lent_in, gone, kept, given, joined_seat, IsPlanCount, IsLimit, IsAbove, IsLive, IsBatch, granted_of, refused_of, loan_of, share_of, least_mine, KeepsRule, Keeps}
use Rattle.crp_incumbent.specs.Steps.{IsLimitBeside, Saw, OfferedUnder, granted_more, refused_more, Settled, TookUnder, RefusedUnder, Looked}
use Rattle.crp_incumbent.proofs.Lists.{index_is, at_below, sum-le, sum-set, sum-snoc, least-set, least-at, least-top, least-snoc, min_cases, least_known, sum_of_gone, least_of_gone}

abbrev Mine : Type 0
Mine = Me (Unit {0}) KeyedView

abbrev St : Type 0
St = State (Unit {0}) KeyedView

under : (key : Key) (limit limit' n : ℕ) → limit' ≤ limit → IsAbove key limit n → IsAbove key limit' n
under key limit limit' n le h = let low = h.low in record { low = omega arith; high = h.high; known = h.known }

lower : (key : Key) (limit limit' : ℕ) (s : KeyedView) → limit' ≤ limit → IsLive key limit s → IsLive key limit' s
lower key limit limit' s le h = record {
  same = h.same;
  seen = under key limit limit' s.view.seen le h.seen;
  mine = under key limit limit' s.view.mine le h.mine;
  refused = h.refused;
  share = h.share;
}

-- a view with a share is of a seat that lives
living : (key : Key) (limit : ℕ) (s : KeyedView) → 1 ≤ s.view.share → IsLive key limit s ⊎ (s ≡ gone) → IsLive key limit s
living key limit s h e = ⊎_elim (λ (l : IsLive key limit s). l) (λ (g : s ≡ gone). let z : s.view.share ≡ 0 = ap share_of g in absurd (omega arith)) e

-- the limit itself is the start or a plan's count, and at most the start
limit_above : (key : Key) (claims limit : ℕ) (views : List KeyedView) → KeepsRule key claims limit views → IsAbove key limit limit
limit_above key claims limit views k = let is = k.least in let start = k.start in let top = least-top key.start views in
    let known : IsLimit key (least_mine key.start views) = least_known key views (omega arith) (λ i s e. ⊎_elim (λ (l : IsLive key limit s). inl l.mine.known) (λ (g : s ≡ gone). inr g) (k.each i s e)) in
    record { low = le_refl limit; high = omega arith; known = subst (IsLimit key) (sym is) known }

-- the seat id steps from v to w
moved : (key : Key) (claims limit claims' limit' : ℕ) (views : List KeyedView) (id : ℕ) (v w : KeyedView) → KeepsRule key claims limit views → get_elem? views id ≡ some v
    → limit' ≤ limit → IsLive key limit' w → w.view.mine ≤ v.view.mine → min limit w.view.mine ≡ limit' → w.view.share ≡ v.view.share
    → open_in claims' + w.view.granted ≡ open_in claims + v.view.granted → lent_in claims' + v.loan ≡ lent_in claims + w.loan → lent_in claims' ≤ open_in claims'
    → (open_in claims ≡ 0 → open_in claims' ≡ 0) → (v.view.refused < w.view.refused → open_in claims' ≡ 0)
    → KeepsRule key claims' limit' (set views id w)
moved key claims limit claims' limit' views id v w k at le live mine least share grant loan covered stays more = let is = k.least in let granted = k.granted in let lent = k.lent in let whole = k.whole in
    let g = sum-set granted_of views id v w at in let r = sum-set refused_of views id v w at in let n = sum-set loan_of views id v w at in let h = sum-set share_of views id v w at in
    let l = least-set key.start views id v w at in let here = set_here views id w (at_below views id v at) in let m = least-at key.start (set views id w) id w here in record {
      budget = k.budget;
      start = k.start;
      each = λ j s e. ⊎_elim (λ (t : (j ≡ id) × (w ≡ s)). inl (subst (IsLive key limit') t.1 live))
          (λ (t : (j ≢ id) × (get_elem? views j ≡ some s)). ⊎_elim (λ (o : IsLive key limit s). inl (lower key limit limit' s le o)) (λ (o : s ≡ gone). inr o) (k.each j s t.1)) (at_set views id j w s e);
      least = omega arith;
      granted = omega arith;
      lent = omega arith;
      covered = covered;
      refused = λ some_refused. ⊎_elim (λ (t : 0 < sum_by refused_of views). stays (k.refused t)) (λ (t : sum_by refused_of views ≤ 0). more (omega arith)) (cases_lt 0 (sum_by refused_of views));
      whole = omega arith;
    }

-- the limit becomes n
put_limit : (key : Key) (s : St) (n : ℕ) (views : List KeyedView) → Keeps key s → KeepsRule key (slice_index s.words claims_at) n views → Keeps key record { words = slice_set s.words limit_at n; homes = s.homes; views = views }
put_limit key s n views k h = let long = k.words in record {
  words = length-set s.words limit_at n ∙ long;
  kept = subst (λ (x : ℕ × ℕ). KeepsRule key x.0 x.1 views) (λ i. (sym (get_or-set_other s.words limit_at claims_at n 0 (λ e. omega arith)) i, sym (get_or-set_same s.words limit_at n 0 (omega arith)) i)) h;
}

-- the word of the claims becomes n
put_claims : (key : Key) (s : St) (n : ℕ) (views : List KeyedView) → Keeps key s → KeepsRule key n (slice_index s.words limit_at) views → Keeps key record { words = slice_set s.words claims_at n; homes = s.homes; views = views }
put_claims key s n views k h = let long = k.words in record {
  words = length-set s.words claims_at n ∙ long;
  kept = subst (λ (x : ℕ × ℕ). KeepsRule key x.0 x.1 views) (λ i. (sym (get_or-set_same s.words claims_at n 0 (omega arith)) i, sym (get_or-set_other s.words claims_at limit_at n 0 (λ e. omega arith)) i)) h;
}

-- what the rule states a live seat of the limit
below : (key : Key) (claims limit : ℕ) (views : List KeyedView) (v : KeyedView) → KeepsRule key claims limit views → IsLive key limit v → IsLimitBeside v limit
below key claims limit views v k live = record {
  seen = live.seen.low;
  mine = live.mine.low;
  start = subst (λ (q : Key). IsAbove q limit limit) (sym live.same) (limit_above key claims limit views k);
}

pub sees : (key : Key) (slots id : ℕ) (m : Mine) → m.1 ≡ [] → 1 ≤ m.0.view.share → Allows (Keeps key) slots id m limit_at (λ n. n) (Saw (step slots limit_at 0 0 none) m)
sees key slots id m empty share s k _ at _ = let claims : ℕ = slice_index s.words claims_at in let limit : ℕ = slice_index s.words limit_at in
    let live = living key limit m.0 share (k.kept.each id m.0 at) in let above = limit_above key claims limit s.views k.kept in
    let w : KeyedView = record m.0 { view = (after_see (words limit 0 m.0.view)).view } in
    let live' : IsLive key limit w = record { same = live.same; seen = above; mine = live.mine; refused = live.refused; share = live.share } in let low = live.mine.low in (
      w,
      keeps,
      tt,
      put_limit key s limit (set s.views id w) k (moved key claims limit claims limit s.views id m.0 w k.kept at (le_refl limit) live' (le_refl _) (omega arith) refl refl refl k.kept.covered (λ z. z) (λ z. absurd (omega arith))),
      record { below = below key claims limit s.views m.0 k.kept live; after = record { standing = refl; slots = empty } },
    )

pub offers : (key : Key) (slots id count : ℕ) (m : Mine) → m.1 ≡ [] → 1 ≤ m.0.view.share → IsPlanCount key.problem count
    → Allows (Keeps key) slots id m limit_at (λ n. min n count) (OfferedUnder (step slots limit_at count 0 none) m)
offers key slots id count m empty share plan s k _ at _ = let claims : ℕ = slice_index s.words claims_at in let limit : ℕ = slice_index s.words limit_at in
    let live = living key limit m.0 share (k.kept.each id m.0 at) in let above = limit_above key claims limit s.views k.kept in
    let w : KeyedView = record m.0 { view = (after_offer count (words limit 0 m.0.view)).view } in
    let low = live.mine.low in let high = live.mine.high in let top = above.high in
    let seen : IsAbove key (min limit count) (min limit count) = record { low = le_refl _; high = omega arith; known = min_cases limit count (IsLimit key) above.known (inr plan) } in
    let mine : IsAbove key (min limit count) (min m.0.view.mine count) = record { low = omega arith; high = omega arith; known = min_cases m.0.view.mine count (IsLimit key) live.mine.known (inr plan) } in
    let live' : IsLive key (min limit count) w = record { same = live.same; seen = seen; mine = mine; refused = live.refused; share = live.share } in (
      w,
      keeps,
      tt,
      put_limit key s (min limit count) (set s.views id w) k (moved key claims limit claims (min limit count) s.views id m.0 w k.kept at (omega arith) live' (omega arith) (omega arith) refl refl refl k.kept.covered (λ z. z) (λ z. absurd (omega arith))),
      record { below = below key claims limit s.views m.0 k.kept live; after = record { standing = refl; slots = empty } },
    )

share_below : (key : Key) (claims limit : ℕ) (views : List KeyedView) (id : ℕ) (v : KeyedView) → KeepsRule key claims limit views → get_elem? views id ≡ some v → v.view.share ≤ all_shares
share_below key claims limit views id v k at = let whole = k.whole in let h = sum-set share_of views id v gone at in omega arith

-- what is lent to a seat is at most what is lent in all
loan_below : (key : Key) (claims limit : ℕ) (views : List KeyedView) (id : ℕ) (v : KeyedView) → KeepsRule key claims limit views → get_elem? views id ≡ some v → v.loan ≤ lent_in claims
loan_below key claims limit views id v k at = let lent = k.lent in let n = sum-set loan_of views id v gone at in omega arith

-- a load that leaves the seat as it is
same_claims : (key : Key) (s : St) (id : ℕ) (v : KeyedView) → Keeps key s → get_elem? s.views id ≡ some v → Keeps key record { words = slice_set s.words claims_at (slice_index s.words claims_at); homes = s.homes; views = set s.views id v }
same_claims key s id v k at = let claims : ℕ = slice_index s.words claims_at in let limit : ℕ = slice_index s.words limit_at in
    put_claims key s claims (set s.views id v) k (subst (KeepsRule key claims limit) (sym (set_again s.views id v at)) k.kept)

pub looks : (key : Key) (slots id : ℕ) (m : Mine) → Allows (Keeps key) slots id m claims_at (λ n. n) (Looked (step slots claims_at 0 0 none) m)
looks key slots id m s k _ at _ = let claims : ℕ = slice_index s.words claims_at in let limit : ℕ = slice_index s.words limit_at in let lent = loan_below key claims limit s.views id m.0 k.kept at in (
  m.0,
  keeps,
  tt,
  same_claims key s id m.0 k at,
  record { share = share_below key claims limit s.views id m.0 k.kept at; loan = omega arith },
)

-- all refused claims are at most all shares
refused_below : (key : Key) (claims limit : ℕ) (views : List KeyedView) → KeepsRule key claims limit views → sum_by refused_of views ≤ all_shares
refused_below key claims limit views k = let whole = k.whole in let le = sum-le refused_of share_of views
    (λ i s e. ⊎_elim (λ (l : IsLive key limit s). l.refused) (λ (g : s ≡ gone). let r : s.view.refused ≡ 0 = ap refused_of g in omega arith) (k.each i s e)) in omega arith

-- the seat steps on the claims alone
claims_step : (key : Key) (s : St) (id claims' : ℕ) (v w : KeyedView) → Keeps key s → get_elem? s.views id ≡ some v → IsLive key (slice_index s.words limit_at) w → w.view.mine ≡ v.view.mine → w.view.share ≡ v.view.share
    → open_in claims' + w.view.granted ≡ open_in (slice_index s.words claims_at) + v.view.granted → lent_in claims' + v.loan ≡ lent_in (slice_index s.words claims_at) + w.loan → lent_in claims' ≤ open_in claims'
    → (open_in (slice_index s.words claims_at) ≡ 0 → open_in claims' ≡ 0) → (v.view.refused < w.view.refused → open_in claims' ≡ 0)
    → Keeps key record { words = slice_set s.words claims_at claims'; homes = s.homes; views = set s.views id w }
claims_step key s id claims' v w k at live mine share grant loan covered stays more = let claims : ℕ = slice_index s.words claims_at in let limit : ℕ = slice_index s.words limit_at in let low = live.mine.low in
    put_claims key s claims' (set s.views id w) k (moved key claims limit claims' limit s.views id v w k.kept at (le_refl limit) live (omega arith) (omega arith) share grant loan covered stays more)

pub settles : (key : Key) (slots id used settled : ℕ) (m : Mine) → m.1 ≡ [] → 1 ≤ m.0.view.share → used ≤ m.0.loan → settled ≡ used * one_open + m.0.loan
    → Allows (Keeps key) slots id m claims_at (λ n. (n + (2 ^ 64 - settled)) % 2 ^ 64) (Settled (step slots claims_at settled 0 none) m)
settles key slots id used settled m empty share within is s k _ at small = let claims : ℕ = slice_index s.words claims_at in let limit : ℕ = slice_index s.words limit_at in
    let live = living key limit m.0 share (k.kept.each id m.0 at) in let lent = loan_below key claims limit s.views id m.0 k.kept at in let covered = k.kept.covered in
    let w : KeyedView = record m.0 { view = granted_more used m.0.view; loan = 0 } in
    let live' : IsLive key limit w = record { same = live.same; seen = live.seen; mine = live.mine; refused = live.refused; share = share } in
    let claims' : ℕ = (claims + (2 ^ 64 - settled)) % 2 ^ 64 in
    let open' : open_in claims' + used ≡ open_in claims = omega arith in let lent' : lent_in claims' + m.0.loan ≡ lent_in claims = omega arith in (
      w,
      keeps,
      tt,
      claims_step key s id claims' m.0 w k at live' refl refl (omega arith) (omega arith) (omega arith) (λ z. omega arith) (λ z. absurd (omega arith)),
      record { used = used; operand = is; standing = refl; slots = empty },
    )

pub takes : (key : Key) (slots id old new more : ℕ) (m : Mine) → m.1 ≡ [] → 1 ≤ m.0.view.share → IsBatch old m.0.loan more → new + one_open ≡ old + more
    → Allows (Keeps key) slots id m claims_at (λ n. either (eqb n old) new n) (TookUnder (step slots claims_at old new none) m)
takes key slots id old new more m empty share batch is s k _ at small = let claims : ℕ = slice_index s.words claims_at in let limit : ℕ = slice_index s.words limit_at in dite (ℕ_discrete claims old)
    (λ hit. let live = living key limit m.0 share (k.kept.each id m.0 at) in let covered = batch.covered in let lent = batch.all_lent in let granted = k.kept.granted in
    let w : KeyedView = record m.0 { view = granted_more 1 m.0.view; loan = m.0.loan + (new + one_open - old) } in
    let live' : IsLive key limit w = record { same = live.same; seen = live.seen; mine = live.mine; refused = live.refused; share = share } in
    let budget : m.0.key.budget ≡ key.budget = ap (λ (q : Key). q.budget) live.same in
    let open' : open_in new + 1 ≡ open_in claims = omega arith in let lent' : lent_in new ≡ lent_in claims + more = omega arith in (
      w,
      keeps,
      tt,
      subst (λ b. Keeps key (stepped s claims_at (either b new claims) id m.1 w keeps)) (sym (eq-eqb claims old hit))
          (claims_step key s id new m.0 w k at live' refl refl (omega arith) (omega arith) (omega arith) (λ z. absurd (omega arith)) (λ z. absurd (omega arith))),
      record { budget = λ _. omega arith; took = λ _. refl; missed = λ not. absurd (not hit); slots = empty },
    ))
    (λ miss. (
      m.0,
      keeps,
      tt,
      subst (λ b. Keeps key (stepped s claims_at (either b new claims) id m.1 m.0 keeps)) (sym (ne_eqb claims old miss)) (same_claims key s id m.0 k at),
      record { budget = λ hit. absurd (miss hit); took = λ hit. absurd (miss hit); missed = λ _. refl; slots = empty },
    ))

pub refuses : (key : Key) (slots id : ℕ) (m : Mine) → m.1 ≡ [] → 1 ≤ m.0.view.share → m.0.view.refused ≡ 0 → Allows (Keeps key) slots id m claims_at (λ n. n) (RefusedUnder (step slots claims_at 0 0 none) m)
refuses key slots id m empty share fresh s k _ at small = let claims : ℕ = slice_index s.words claims_at in let limit : ℕ = slice_index s.words limit_at in dite (ℕ_discrete claims 0)
    (λ hit. let live = living key limit m.0 share (k.kept.each id m.0 at) in let w : KeyedView = record m.0 { view = refused_more m.0.view } in
    let live' : IsLive key limit w = record { same = live.same; seen = live.seen; mine = live.mine; refused = omega arith; share = share } in (
      w,
      keeps,
      tt,
      claims_step key s id claims m.0 w k at live' refl refl refl refl k.kept.covered (λ z. z) (λ z. omega arith),
      record { none = λ _. refl; some = λ not. absurd (not hit); slots = empty },
    ))
    (λ miss. (
      m.0,
      keeps,
      tt,
      same_claims key s id m.0 k at,
      record { none = λ hit. absurd (miss hit); some = λ _. refl; slots = empty },
    ))

pub splits : (key : Key) (id : ℕ) (v : KeyedView) → 1 < v.view.share → v.view.refused < v.view.share → Splits (Keeps key) id v (kept v) (given v)
splits key id v more left s k at = let claims : ℕ = slice_index s.words claims_at in let limit : ℕ = slice_index s.words limit_at in let views = s.views in
    let live = living key limit v (omega arith) (k.kept.each id v at) in let low = live.mine.low in let high = live.mine.high in
    let one : List KeyedView = set views id (kept v) in let here = set_here views id (kept v) (at_below views id v at) in
    let start : v.key.start ≡ key.start = ap (λ (q : Key). q.start) live.same in
    let live_kept : IsLive key limit (kept v) = record { same = live.same; seen = live.seen; mine = live.mine; refused = omega arith; share = omega arith } in
    let live_given : IsLive key limit (given v) = record { same = live.same; seen = live.seen; mine = record { low = omega arith; high = omega arith; known = inl start }; refused = omega arith; share = omega arith } in
    let is = k.kept.least in let granted = k.kept.granted in let lent = k.kept.lent in let whole = k.kept.whole in
    let g = sum-set granted_of views id v (kept v) at in let g' = sum-snoc granted_of one (given v) in
    let r = sum-set refused_of views id v (kept v) at in let r' = sum-snoc refused_of one (given v) in
    let n = sum-set loan_of views id v (kept v) at in let n' = sum-snoc loan_of one (given v) in
    let h = sum-set share_of views id v (kept v) at in let h' = sum-snoc share_of one (given v) in
    let l = least-set key.start views id v (kept v) at in let l' = least-snoc key.start one (given v) in let top = least-top key.start one in let m = least-at key.start one id (kept v) here in record {
      words = k.words;
      kept = record {
        budget = k.kept.budget;
        start = k.kept.start;
        each = λ j s' e. ⊎_elim (λ (e' : get_elem? one j ≡ some s'). ⊎_elim (λ (t : (j ≡ id) × (kept v ≡ s')). inl (subst (IsLive key limit) t.1 live_kept))
            (λ (t : (j ≢ id) × (get_elem? views j ≡ some s')). k.kept.each j s' t.1) (at_set views id j (kept v) s' e'))
            (λ (e' : given v ≡ s'). inl (subst (IsLive key limit) e' live_given)) (at_snoc one (given v) s' j e);
        least = omega arith;
        granted = omega arith;
        lent = omega arith;
        covered = k.kept.covered;
        refused = λ some_refused. k.kept.refused (omega arith);
        whole = omega arith;
      };
    }

above_both : (key : Key) (limit a b : ℕ) → IsAbove key limit a → IsAbove key limit b → IsAbove key limit (min a b)
above_both key limit a b p q = let low = p.low in let low' = q.low in let high = p.high in record { low = omega arith; high = omega arith; known = min_cases a b (IsLimit key) p.known q.known }

pub joins : (key : Key) (id other : ℕ) (v w : KeyedView) → 1 ≤ v.view.share → 1 ≤ w.view.share → Joins (Keeps key) id v other w (joined_seat v w) gone
joins key id other v w share_v share_w s k at differ at' = let claims : ℕ = slice_index s.words claims_at in let limit : ℕ = slice_index s.words limit_at in let views = s.views in let b : KeyedView = joined_seat v w in
    let one : List KeyedView = set views id b in let two : List KeyedView = set one other gone in
    let at_w : get_elem? views other ≡ some w = sym (set_else views id other b differ) ∙ at' in
    let here : get_elem? one id ≡ some b = set_here views id b (at_below views id v at) in
    let still : get_elem? two id ≡ some b = set_else one other id gone (λ e. differ (sym e)) ∙ here in
    let live = living key limit v share_v (k.kept.each id v at) in let live_w = living key limit w share_w (k.kept.each other w at_w) in
    let low = live.mine.low in let low_w = live_w.mine.low in let refused = live.refused in let refused_w = live_w.refused in
    let live_b : IsLive key limit b = record { same = live.same; seen = above_both key limit _ _ live.seen live_w.seen; mine = above_both key limit _ _ live.mine live_w.mine; refused = omega arith; share = omega arith } in
    let is = k.kept.least in let granted = k.kept.granted in let lent = k.kept.lent in let whole = k.kept.whole in let small = k.kept.start in
    let g = sum-set granted_of views id v b at in let g' = sum-set granted_of one other w gone at' in
    let r = sum-set refused_of views id v b at in let r' = sum-set refused_of one other w gone at' in
    let n = sum-set loan_of views id v b at in let n' = sum-set loan_of one other w gone at' in
    let h = sum-set share_of views id v b at in let h' = sum-set share_of one other w gone at' in
    let l = least-set key.start views id v b at in let l' = least-set key.start one other w gone at' in let top = least-top key.start one in
    let m = least-at key.start one id b here in let m' = least-at key.start two id b still in record {
      words = k.words;
      kept = record {
        budget = k.kept.budget;
        start = k.kept.start;
        each = λ j s' e. ⊎_elim (λ (t : (j ≡ other) × (gone ≡ s')). inr (sym t.1))
            (λ (t : (j ≢ other) × (get_elem? one j ≡ some s')). ⊎_elim (λ (u : (j ≡ id) × (b ≡ s')). inl (subst (IsLive key limit) u.1 live_b))
            (λ (u : (j ≢ id) × (get_elem? views j ≡ some s')). k.kept.each j s' u.1) (at_set views id j b s' t.1)) (at_set one other j gone s' e);
        least = omega arith;
        granted = omega arith;
        lent = omega arith;
        covered = k.kept.covered;
        refused = λ some_refused. k.kept.refused (omega arith);
        whole = omega arith;
      };
    }

-- the words at the end, where one seat has all shares
pub closes : (key : Key) (id : ℕ) (v : KeyedView) (ws : List ℕ) (xs : List (Unit {0})) → v.view.share ≡ all_shares → Final (Seen (Keeps key) id v) ws xs → (claims limit : ℕ) → get_elem? ws claims_at ≡ some claims → get_elem? ws limit_at ≡ some limit
    → (limit ≡ min key.start v.view.mine) × (limit ≤ v.view.seen) × (v.view.mine ≤ key.start) × (open_in claims + v.view.granted ≡ key.budget) × (v.loan ≤ open_in claims) × (0 < v.view.refused → open_in claims ≡ 0) × (v.view.refused ≤ all_shares) × (key.budget ≤ most_budget)
closes key id v ws xs all f claims limit e0 e1 = let s = f.0 in let k = f.1.0.kept in let at = f.1.1 in let views = s.views in let rest : List KeyedView = set views id gone in
    let a : slice_index s.words claims_at ≡ claims = ap (λ (l : List ℕ). slice_index l claims_at) f.2 ∙ index_is ws claims_at claims e0 in
    let b : slice_index s.words limit_at ≡ limit = ap (λ (l : List ℕ). slice_index l limit_at) f.2 ∙ index_is ws limit_at limit e1 in
    let is = k.least in let granted = k.granted in let covered = k.covered in let whole = k.whole in let small = k.start in
    let h = sum-set share_of views id v gone at in let none_left : sum_by share_of rest ≡ 0 = omega arith in
    let each : (i : ℕ) (t : KeyedView) → get_elem? rest i ≡ some t → (1 ≤ t.view.share) ⊎ (t ≡ gone) = λ i t e. ⊎_elim (λ (u : (i ≡ id) × (gone ≡ t)). inr (sym u.1))
    (λ (u : (i ≢ id) × (get_elem? views i ≡ some t)). ⊎_elim (λ (l : IsLive key (slice_index s.words limit_at) t). inl l.share) (λ (g : t ≡ gone). inr g) (k.each i t u.1)) (at_set views id i gone t e) in
    let g = sum-set granted_of views id v gone at in let g' = sum_of_gone granted_of rest refl none_left each in
    let r = sum-set refused_of views id v gone at in let r' = sum_of_gone refused_of rest refl none_left each in
    let n = loan_below key (slice_index s.words claims_at) (slice_index s.words limit_at) views id v k at in
    let l = least-set key.start views id v gone at in let l' = least_of_gone key.start rest (omega arith) none_left each in let top = least-top key.start views in
    let live = living key (slice_index s.words limit_at) v (omega arith) (k.each id v at) in let refused = live.refused in let low = live.seen.low in let high = live.mine.high in let few = k.budget in
    let same : open_in (slice_index s.words claims_at) ≡ open_in claims = ap open_in a in
    (omega arith, omega arith, omega arith, omega arith, omega arith, (λ some_refused. let z = k.refused (omega arith) in omega arith), omega arith, omega arith)

-- what is known at the end is the count of all claims
pub counts : (budget free granted refused loan used : ℕ) → free + granted ≡ budget → used ≤ loan → loan ≤ free → (0 < refused → free ≡ 0) → granted + used ≡ min (budget - free + used + refused) budget
counts budget free granted refused loan used sum within lent last =
    ⊎_elim (λ (h : 0 < refused). let none = last h in omega arith) (λ (h : refused ≤ 0). omega arith) (cases_lt 0 refused)
