-- What is kept over pushes and pops.
use Rattle.std.proofs.Common.{◌≡◌, ℕ, ◌+◌, ◌-◌, ◌<◌, ◌≤◌, min, Bool, true, false, nat_le, if◌then◌else◌, List, [], ◌∷◌, ◌++◌, length, reverse, get_or, set, sym, ap, ◌∙◌, subst, ⊎_elim, arith}
use Rattle.std.specs.Bool.{OnTrue}
use Rattle.std.proofs.lemmas.Bool.{cases_lt}
use Rattle.std.proofs.lemmas.List.{reverse-append}
use Rattle.crp_plan.specs.Bay.{Position}
use Rattle.crp_bay.specs.Positions.{stack_at, can_shift, child}
use Rattle.crp_bay.specs.Back.{PlaceAndTrail}
use Rattle.crp_bay.specs.Located.{moved}
use Rattle.crp_bay.proofs.Pushing.{goes_reached}
use Rattle.crp_bounds.specs.Leasts.{least_ordered, KnowsLeasts, KnowsBounds}
use Rattle.crp_bounds.specs.Undoing.{KnowsAll}
use Rattle.crp_bounds.specs.declared.undo.Undo.{Undo}
use Rattle.crp_bounds.proofs.Leasts.{knows_child, blocking_goes, known_again}

-- what is known now
pub known_now : (undos : List Undo) (trail : List Position) (leasts : List ℕ) (count : ℕ) (s : Position) → KnowsAll undos trail leasts count s → KnowsBounds leasts count s
known_now [] [] leasts count s k = k
known_now [] (t ∷ trail) leasts count s k = absurd k
known_now (u ∷ undos) [] leasts count s k = absurd k
known_now (u ∷ undos) (t ∷ trail) leasts count s k = k.0

-- as much is kept as there are pushes
pub kept_length : (undos : List Undo) (trail : List Position) (leasts : List ℕ) (count : ℕ) (s : Position) → KnowsAll undos trail leasts count s → length undos ≡ length trail
kept_length [] [] leasts count s k = omega arith
kept_length [] (t ∷ trail) leasts count s k = absurd k
kept_length (u ∷ undos) [] leasts count s k = absurd k
kept_length (u ∷ undos) (t ∷ trail) leasts count s k = omega (arith, kept_length undos trail (set leasts u.rank u.least) u.blocking t k.2)

-- what holds where a test passes
pub on_true : {P : Type 0} (b : Bool) → b ≡ true → OnTrue b P → P
on_true true e h = h
on_true false e h = absurd cc

-- a container that a relocation frees was counted
pub counted : (s : Position) (row : ℕ) (leasts : List ℕ) (count rank onto : ℕ) → KnowsBounds leasts count s → can_shift s row ≡ true → rank ≡ moved s → rank ≤ 96 → onto ≡ least_ordered s.ordered (stack_at s (row - 1)) → rank ≤ onto → 1 ≤ count
counted s row leasts count rank onto k can er few eo le =
    let goes = blocking_goes s row k.reached can (omega (arith, er)) in
    let e = goes.1 (omega (arith, er, eo)) in let b = k.blocks in omega arith

-- what a push finds and changes
pub record Changes (s : Position) (row : ℕ) (leasts : List ℕ) (count least count' : ℕ) (u : Undo) : Type 0 where
  pub can : can_shift s row ≡ true
  pub rank_is : u.rank ≡ moved s
  pub rank_few : u.rank ≤ 96
  pub old_least : u.least ≡ get_or leasts u.rank 0
  pub old_count : u.blocking ≡ count
  pub new_least : least ≡ (if nat_le u.rank s.ordered then min u.rank (least_ordered s.ordered (stack_at s (row - 1))) else least_ordered s.ordered (stack_at s (row - 1)))
  pub freed : u.rank ≤ least_ordered s.ordered (stack_at s (row - 1)) → count' + 1 ≡ count
  pub blocked : least_ordered s.ordered (stack_at s (row - 1)) < u.rank → count' ≡ count

-- what is known after a push
pub knows_pushed : (s : Position) (row : ℕ) (leasts : List ℕ) (count least count' : ℕ) (u : Undo) → KnowsBounds leasts count s → Changes s row leasts count least count' u → KnowsBounds (set leasts u.rank least) count' (child s row)
knows_pushed s row leasts count least count' u k c =
    let few : moved s ≤ 96 = let b = c.rank_few in omega (arith, c.rank_is) in
    let made : least ≡ (if nat_le (moved s) s.ordered then min (moved s) (least_ordered s.ordered (stack_at s (row - 1))) else least_ordered s.ordered (stack_at s (row - 1))) =
    c.new_least ∙ ap (λ x. (if nat_le x s.ordered then min x (least_ordered s.ordered (stack_at s (row - 1))) else least_ordered s.ordered (stack_at s (row - 1)))) c.rank_is in
    let goes = blocking_goes s row k.reached c.can few in
    record {
      reached = goes_reached s row k.reached c.can;
      leasts_known = subst (λ x. KnowsLeasts (set leasts x least) (child s row)) (sym c.rank_is) (knows_child leasts s row least k.reached c.can few k.leasts_known made);
      blocks = ⊎_elim
          (λ lt. c.blocked lt ∙ k.blocks ∙ sym (goes.0 (omega (arith, c.rank_is))))
          (λ le. let e = c.freed le in let f = goes.1 (omega (arith, c.rank_is)) in let b = k.blocks in omega arith)
          (cases_lt (least_ordered s.ordered (stack_at s (row - 1))) u.rank);
    }

-- the push is kept
pub kept_pushed : (undos more : List Undo) (old new : PlaceAndTrail) (row : ℕ) (leasts : List ℕ) (count least count' : ℕ) (u : Undo) → KnowsAll (reverse undos) old.trail leasts count old.place → Changes old.place row leasts count least count' u →
    new ≡ record { place = child old.place row; trail = old.place ∷ old.trail } → more ≡ undos ++ u ∷ [] → KnowsAll (reverse more) new.trail (set leasts u.rank least) count' new.place
kept_pushed undos more old new row leasts count least count' u k c en em =
    let turned : reverse more ≡ u ∷ reverse undos = ap reverse em ∙ reverse-append undos (u ∷ []) in
    let again : set (set leasts u.rank least) u.rank u.least ≡ leasts = ap (set (set leasts u.rank least) u.rank) c.old_least ∙ known_again leasts u.rank least in
    let now : KnowsBounds (set leasts u.rank least) count' (child old.place row) = knows_pushed old.place row leasts count least count' u (known_now (reverse undos) old.trail leasts count old.place k) c in
    let before : KnowsAll (reverse undos) old.trail (set (set leasts u.rank least) u.rank u.least) u.blocking old.place =
    subst (λ l. KnowsAll (reverse undos) old.trail l u.blocking old.place) (sym again) (subst (λ n. KnowsAll (reverse undos) old.trail leasts n old.place) (sym c.old_count) k) in
    subst (λ us. KnowsAll us new.trail (set leasts u.rank least) count' new.place) (sym turned)
    (subst (λ (v : PlaceAndTrail). KnowsAll (u ∷ reverse undos) v.trail (set leasts u.rank least) count' v.place) (sym en) (now, c.rank_few, before))
