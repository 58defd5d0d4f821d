-- The prices of a table up to a place, listed.
use Rattle.std.proofs.Common.{◌≡◌, ◌≢◌, ◌∙◌, inl, inr, ℕ, ◌+◌, ◌*◌, ◌<◌, ◌≤◌, ◌⊎◌, ◌==◌, false, cond, List, [], ◌∷◌, ◌++◌, refl, sym, ap, subst, arith}
use Rattle.std.specs.Prelude.{◌/◌, ◌%◌, ◌&&◌, slice_index}
use Rattle.std.specs.List.{AllByRecursion}
use Rattle.std.proofs.lemmas.Bool.{cases_lt, lt-ltb, le-ltb}
use Rattle.std.proofs.lemmas.Bool.Decides.{eqb_tells}
use Rattle.crp_prices.specs.declared.list.Priced.{Priced}
use Rattle.crp_prices.specs.PriceTable.{price_in}
use Rattle.crp_prices.specs.PriceLists.{IsPriced, StandsBefore, AreListed, listed_price}

-- where a price stands in a table
abbrev pub place : Priced → ℕ
place e = e.rank * 97 + e.turn

-- all stand before a place
abbrev pub Early : ℕ → List Priced → Type 0
Early i = AllByRecursion (λ e. place e < i)

-- what is listed up to a place
pub record AreGathered (table : List ℕ) (i : ℕ) (list : List Priced) : Type 0 where
  pub listed : AreListed list
  pub early : Early i list
  pub before : (rank turn : ℕ) → turn ≤ 96 → rank * 97 + turn < i → listed_price list rank turn ≡ slice_index table (rank * 97 + turn)

more_early : (i : ℕ) (list : List Priced) → Early i list → Early (i + 1) list
more_early i [] all = tt
more_early i (e ∷ list) all = (omega (arith, all.0), more_early i list all.1)

early_behind : (i : ℕ) (list : List Priced) (e : Priced) → Early i list → place e < i + 1 → Early (i + 1) (list ++ e ∷ [])
early_behind i [] e all is = (is, tt)
early_behind i (x ∷ list) e all is = (omega (arith, all.0), early_behind i list e all.1 is)

-- a job that is not that of a price
not_it : (e : Priced) (rank turn : ℕ) → e.turn ≤ 96 → turn ≤ 96 → place e ≢ rank * 97 + turn → (e.rank == rank) && (e.turn == turn) ≡ false
not_it e rank turn low also apart =
    elim (eqb_tells e.rank rank) [
      | inl r ↦
          elim (eqb_tells e.turn turn) [
            | inl t ↦ absurd (apart (ap (λ x. x * 97 + e.turn) r.1 ∙ ap (λ x. rank * 97 + x) t.1))
            | inr t ↦ rw (r.0, t.0) refl
          ]
      | inr r ↦ rw r.0 refl
    ]

-- a price of a job at a place or behind it is not listed
none_behind : (i : ℕ) (list : List Priced) (rank turn : ℕ) → AreListed list → Early i list → turn ≤ 96 → i ≤ rank * 97 + turn → listed_price list rank turn ≡ 0
none_behind i [] rank turn listed early low le = refl
none_behind i (e ∷ list) rank turn listed early low le =
    rw (not_it e rank turn listed.0.turn low (λ same. omega (arith, same, early.0, le))) (none_behind i list rank turn listed.2 early.1 low le)

-- of a list with one more price, another job has the price that it had
another : (list : List Priced) (e : Priced) (rank turn : ℕ) → e.turn ≤ 96 → turn ≤ 96 → place e ≢ rank * 97 + turn → listed_price (list ++ e ∷ []) rank turn ≡ listed_price list rank turn
another [] e rank turn low also apart = rw (not_it e rank turn low also apart) refl
another (x ∷ list) e rank turn low also apart = ap (λ p. cond ((x.rank == rank) && (x.turn == turn)) x.price p) (another list e rank turn low also apart)

-- and its job has its price
its_price : (i : ℕ) (list : List Priced) (e : Priced) (rank turn : ℕ) → AreListed list → Early i list → turn ≤ 96 → e.rank ≡ rank → e.turn ≡ turn → i ≤ rank * 97 + turn
    → listed_price (list ++ e ∷ []) rank turn ≡ e.price
its_price i [] e rank turn listed early low r t le =
    elim (eqb_tells e.rank rank) [
      | inl a ↦
          elim (eqb_tells e.turn turn) [
            | inl b ↦ rw (a.0, b.0) refl
            | inr b ↦ absurd (b.1 t)
          ]
      | inr a ↦ absurd (a.1 r)
    ]
its_price i (x ∷ list) e rank turn listed early low r t le =
    rw (not_it x rank turn listed.0.turn low (λ same. omega (arith, same, early.0, le))) (its_price i list e rank turn listed.2 early.1 low r t le)

listed_behind : (i : ℕ) (list : List Priced) (e : Priced) → AreListed list → Early i list → IsPriced e → place e ≡ i → AreListed (list ++ e ∷ [])
listed_behind i [] e listed early is at = (is, tt, tt)
listed_behind i (x ∷ list) e listed early is at =
    (listed.0, all_before x list listed.1, listed_behind i list e listed.2 early.1 is at)
  where
    stands : StandsBefore x e
    stands = elim (cases_lt x.rank e.rank) [ inl lt ↦ inl lt | inr ge ↦ inr (omega (arith, ge, early.0, at, is.turn, listed.0.turn), omega (arith, ge, early.0, at, is.turn, listed.0.turn)) ]

    all_before : (y : Priced) (ys : List Priced) → AllByRecursion (StandsBefore x) ys → AllByRecursion (StandsBefore x) (ys ++ e ∷ [])
    all_before y [] all = (stands, tt)
    all_before y (z ∷ ys) all = (all.0, all_before y ys all.1)

-- ---- place by place

pub gathered_none : (table : List ℕ) → AreGathered table 0 []
gathered_none table = record { listed = tt; early = tt; before = λ rank turn low lt. absurd (omega (arith, lt)) }

-- a price that is 0 is not listed
pub gathered_on : (table : List ℕ) (i : ℕ) (list : List Priced) → AreGathered table i list → slice_index table i ≡ 0 → AreGathered table (i + 1) list
gathered_on table i list g none = record { listed = g.listed; early = more_early i list g.early; before = λ rank turn low lt. by rank turn low lt (cases_lt (rank * 97 + turn) i) }
  where
    by : (rank turn : ℕ) → turn ≤ 96 → rank * 97 + turn < i + 1 → (rank * 97 + turn < i) ⊎ (i ≤ rank * 97 + turn) → listed_price list rank turn ≡ slice_index table (rank * 97 + turn)
    by rank turn low lt (inl soon) = g.before rank turn low soon
    by rank turn low lt (inr ge) = none_behind i list rank turn g.listed g.early low ge ∙ sym (ap (slice_index table) (omega (arith, lt, ge)) ∙ none)

-- each other is
pub gathered_more : (table : List ℕ) (i : ℕ) (list : List Priced) (e : Priced) → AreGathered table i list → IsPriced e → place e ≡ i → e.price ≡ slice_index table i
    → AreGathered table (i + 1) (list ++ e ∷ [])
gathered_more table i list e g is at price =
    record { listed = listed_behind i list e g.listed g.early is at; early = early_behind i list e g.early (omega (arith, at)); before = λ rank turn low lt. by rank turn low lt (cases_lt (rank * 97 + turn) i) }
  where
    by : (rank turn : ℕ) → turn ≤ 96 → rank * 97 + turn < i + 1 → (rank * 97 + turn < i) ⊎ (i ≤ rank * 97 + turn) → listed_price (list ++ e ∷ []) rank turn ≡ slice_index table (rank * 97 + turn)
    by rank turn low lt (inl soon) = another list e rank turn is.turn low (λ same. omega (arith, same, at, soon)) ∙ g.before rank turn low soon
    by rank turn low lt (inr ge) =
        its_price i list e rank turn g.listed g.early low (omega (arith, at, lt, ge, low, is.turn)) (omega (arith, at, lt, ge, low, is.turn)) ge ∙ price
        ∙ ap (slice_index table) (omega (arith, lt, ge))

-- beyond the table there is none
none_beyond : (list : List Priced) (rank turn : ℕ) → AreListed list → (97 ≤ rank) ⊎ (97 ≤ turn) → listed_price list rank turn ≡ 0
none_beyond [] rank turn listed far = refl
none_beyond (e ∷ list) rank turn listed far = rw (other far) (none_beyond list rank turn listed.2 far)
  where
    other : (97 ≤ rank) ⊎ (97 ≤ turn) → (e.rank == rank) && (e.turn == turn) ≡ false
    other (inl great) = elim (eqb_tells e.rank rank) [ inl r ↦ absurd (omega (arith, r.1, great, listed.0.rank)) | inr r ↦ rw r.0 refl ]
    other (inr late) =
        elim (eqb_tells e.turn turn) [
          | inl t ↦ absurd (omega (arith, t.1, late, listed.0.turn))
          | inr t ↦ elim (eqb_tells e.rank rank) [ inl r ↦ rw (r.0, t.0) refl | inr r ↦ rw r.0 refl ]
        ]

-- behind the whole table each price is listed
pub gathered_all : (table : List ℕ) (list : List Priced) → AreGathered table (97 * 97) list → (rank turn : ℕ) → listed_price list rank turn ≡ price_in table rank turn
gathered_all table list g rank turn = by (cases_lt rank 97) (cases_lt turn 97)
  where
    by : (rank < 97) ⊎ (97 ≤ rank) → (turn < 97) ⊎ (97 ≤ turn) → listed_price list rank turn ≡ price_in table rank turn
    by (inl low) (inl soon) = rw (lt-ltb rank 97 low, lt-ltb turn 97 soon) (g.before rank turn (omega (arith, soon)) (omega (arith, low, soon)))
    by (inl low) (inr late) = rw (lt-ltb rank 97 low, le-ltb turn 97 late) (none_beyond list rank turn g.listed (inr late))
    by (inr great) at = rw (le-ltb rank 97 great) (none_beyond list rank turn g.listed (inl great))

-- what stands at a place may be listed
pub priced_at : (table : List ℕ) (i : ℕ) → i < 97 * 97 → 0 < slice_index table i → ((rank turn : ℕ) → price_in table rank turn ≤ 9999)
    → IsPriced (record { rank = i / 97; turn = i % 97; price = slice_index table i })
priced_at table i lt some few = record {
  rank = omega (arith, lt);
  turn = omega arith;
  some = some;
  few = subst (λ p. p ≤ 9999) (same ∙ ap (slice_index table) (omega arith)) (few (i / 97) (i % 97));
}
  where
    same : price_in table (i / 97) (i % 97) ≡ slice_index table (i / 97 * 97 + i % 97)
    same = rw (lt-ltb (i / 97) 97 (omega (arith, lt)), lt-ltb (i % 97) 97 (omega arith)) refl
