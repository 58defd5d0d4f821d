-- What a claim that is refused does to a seat, as contracts see it.
use Rattle.std.proofs.Common.{◌≡◌, ℕ, Bool, false, nat_lt, if◌then◌else◌, sym, subst, le-ltb, le_refl}
use Rattle.atomic_table.specs.Seated.{TableId}
use Rattle.crp_incumbent.specs.declared.rule.KeyedView.{KeyedView}
use Rattle.crp_incumbent.specs.Seats.{Seat, seat_at, with_view, ClaimsOne}
use Rattle.crp_incumbent.specs.Steps.{granted_more, refused_more}

-- it is refused at the budget, whatever was granted to whom
pub claims_refused : (table table' : TableId) (s s' : KeyedView) (used : ℕ) → table' ≡ table → s' ≡ record s { view = refused_more s.view } → ClaimsOne (seat_at table s used) false (seat_at table' s' used)
claims_refused table table' s s' used same after = let budget : ℕ = s.key.budget in let a : Seat = seat_at table s used in let none : nat_lt budget budget ≡ false = le-ltb budget budget (le_refl budget) in record {
  spent = budget;
  answer_is = sym none;
  after = subst (λ (c : Bool). seat_at table' s' used ≡ with_view a (if c then granted_more 1 a.view else refused_more a.view)) (sym none) (λ i. seat_at (same i) (after i) used);
}
