use Rattle.std.proofs.Common.{arith, ◌≡◌, ◌*◌, ◌+◌, ◌≤◌, ◌&&◌, ℕ, zero, suc, length, nat_lt, slice_index, sym, ap, ◌∙◌, subst, refl, ⊎_elim}
use Rattle.std.specs.List.{All}
use Rattle.std.proofs.Math.ListN.{replicate}
use Rattle.std.proofs.lemmas.List.{length-replicate}
use Rattle.std.proofs.lemmas.Bool.{cases_Bool}
use Rattle.std.proofs.lemmas.List.Elements.{All-replicate}
use Rattle.crp_prices.proofs.prices.Prices.new.Goals as goal

pub invariant_of-result : goal.invariant_of-result
invariant_of-result c =
    let items : c.in_ok-vec.field-0.items ≡ replicate 9409 0 = c.in_ok-vec.ensures.items_if_clones_equal (λ y e. e) in
    (ap length items ∙ length-replicate {A = ℕ} 9409 0, subst (All (λ price. price ≤ 9999)) (sym items) (All-replicate (λ price. price ≤ 9999) 9409 0 (omega arith)))

all_zero : (n i : ℕ) → slice_index (replicate n 0) i ≡ 0
all_zero zero i = refl
all_zero (suc n) zero = refl
all_zero (suc n) (suc i) = all_zero n i

pub returns : goal.returns
returns c rank turn =
    let none : slice_index c.in_ok-vec.field-0.items (rank * 97 + turn) ≡ 0 =
    ap (λ l. slice_index l (rank * 97 + turn)) (c.in_ok-vec.ensures.items_if_clones_equal (λ y e. e)) ∙ all_zero 9409 (rank * 97 + turn) in
    ⊎_elim (λ t. rw t none) (λ f. rw f refl) (cases_Bool (nat_lt rank 97 && nat_lt turn 97))
