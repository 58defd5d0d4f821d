-- The number of the bay in which each container stands.
use Rattle.std.proofs.Common.{◌≡◌, ◌<◌, ◌+◌, ◌==◌, ℕ, Bool, true, false, cond, List, length, take, get_or, Option, Some, None, IfSome, slice_get, refl, sym, ap, ◌∙◌, inl, inr, arith}
use Rattle.std.specs.Prelude.{◌||◌}
use Rattle.std.specs.Str.{bytes_eq}
use denote.Ref.{Bor}
use Rattle.std.proofs.lemmas.Bool.{cases_eq, eq-eqb, ne_eqb}
use Rattle.std.proofs.lemmas.List.Folds.{list_any_more}
use Rattle.std.proofs.lemmas.Option.{same_Some}
use Rattle.crp_yard.specs.Inventory.{Inventory, StackedBay, IsYard, is_among}
use Rattle.crp_order.specs.BayProblems.{standing}
use Rattle.crp_order.specs.Groups.{kept_of, is_index, ArePlaced, Places}
use Rattle.crp_order.proofs.YardSteps.{apart}

abbrev pub Kept : Type 0
Kept = List (Bor (List ℕ) × ℕ)

both : (a b : Bool) (n : ℕ) (old : Option ℕ) → cond b (Some n) (cond a (Some n) old) ≡ cond (a || b) (Some n) old
both true true n old = refl
both true false n old = refl
both false b n old = refl

-- one container more
pub place-more : (old mid new : Kept) (stack : List (List ℕ)) (i : ℕ) (x : List ℕ) (n : ℕ) → Places old mid (take i stack) n → i < length stack → x ≡ get_or stack i x
    → ((c : Bor (List ℕ)) → kept_of new c.now ≡ cond (bytes_eq x c.now) (Some n) (kept_of mid c.now)) → (turn : (c : List ℕ) → bytes_eq x c ≡ bytes_eq c x)
    → Places old new (take (i + 1) stack) n
place-more old mid new stack i x n before within at put turn c =
    let more : is_among (take (i + 1) stack) c.now ≡ (is_among (take i stack) c.now || bytes_eq c.now (get_or stack i x)) = list_any_more (λ y. bytes_eq c.now y) stack i x within in
    let last : is_among (take (i + 1) stack) c.now ≡ (is_among (take i stack) c.now || bytes_eq c.now x) = more ∙ ap (λ y. is_among (take i stack) c.now || bytes_eq c.now y) (sym at) in
    rw (put c, before c, turn c.now, last) (both (is_among (take i stack) c.now) (bytes_eq c.now x) n (kept_of old c.now))

low_step : (n : ℕ) (b : Bool) (old : Option ℕ) → IfSome old (λ i. i < n) → IfSome (cond b (Some n) old) (λ i. i < n + 1)
low_step n true old h = omega arith
low_step n false None h = tt
low_step n false (Some i) h = omega arith

not_yet : (n : ℕ) (old : Option ℕ) → IfSome old (λ i. i < n) → false ≡ is_index old n
not_yet n None h = refl
not_yet n (Some i) h = sym (ne_eqb i n (λ e. absurd (omega arith)))

-- one bay more
pub placed-more : (yard : Inventory) (n : ℕ) (bay : StackedBay) (old new : Kept) → IsYard yard → slice_get yard.bays n ≡ Some bay → ArePlaced n yard.bays old → Places old new (standing bay.1) n
    → ArePlaced (n + 1) yard.bays new
placed-more yard n bay old new is here before put = record {
  standing_there = λ c j b h e. rw (put c) (by c.now (is_among (standing bay.1) c.now) refl j b h e (before.standing_there c) (before.number_is_low c));
  number_is_low = λ c. rw (put c) (low_step n (is_among (standing bay.1) c.now) (kept_of old c.now) (before.number_is_low c));
}
  where
    earlier : (c : List ℕ) (j : ℕ) (b : StackedBay) → j < n → slice_get yard.bays j ≡ Some b → is_among (standing bay.1) c ≡ true → (r : Bool) → is_among (standing b.1) c ≡ r → r ≡ (n == j)
    earlier c j b lt e there true this = absurd (apart yard is c j n b bay lt e here this there)
    earlier c j b lt e there false this = sym (ne_eqb n j (λ eq. absurd (omega arith)))

    by : (c : List ℕ) (there : Bool) → is_among (standing bay.1) c ≡ there → (j : ℕ) (b : StackedBay) → j < n + 1 → slice_get yard.bays j ≡ Some b
        → ((k : ℕ) (d : StackedBay) → k < n → slice_get yard.bays k ≡ Some d → is_among (standing d.1) c ≡ is_index (kept_of old c) k) → IfSome (kept_of old c) (λ i. i < n)
        → is_among (standing b.1) c ≡ is_index (cond there (Some n) (kept_of old c)) j
    by c true there j b h e known low =
        elim (cases_eq j n) [
          | inl eq ↦
              let same : b ≡ bay = same_Some b bay (sym e ∙ ap (slice_get yard.bays) eq ∙ here) in
              ap (λ x. is_among (standing x.1) c) same ∙ there ∙ sym (eq-eqb n j (sym eq))
          | inr ne ↦ earlier c j b (omega arith) e there (is_among (standing b.1) c) refl
        ]
    by c false there j b h e known low =
        elim (cases_eq j n) [
          | inl eq ↦
              let same : b ≡ bay = same_Some b bay (sym e ∙ ap (slice_get yard.bays) eq ∙ here) in
              ap (λ x. is_among (standing x.1) c) same ∙ there ∙ not_yet n (kept_of old c) low ∙ ap (is_index (kept_of old c)) (sym eq)
          | inr ne ↦ known j b (omega arith) e
        ]
