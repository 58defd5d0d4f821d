-- Where the bay of six containers begins, and where a legal relocation leads.
use Rattle.std.proofs.Common.{◌≡◌, ℕ, [], ◌∷◌, Bool, true, false, IsTrue, ◌↔◌, ap, ◌∙◌, sym, subst}
use Rattle.std.specs.Bool.{OnTrue}
use Rattle.std.specs.Prelude.{Contains}
use Rattle.std.proofs.lemmas.Bool.{false≢true}
use Rattle.crp_plan.specs.Bay.{Problem, start}
use Rattle.crp_bay.specs.Back.{PlaceAndTrail}
use Rattle.crp_bay.specs.Positions.{settled, child, targets}
use Rattle.crp_callers.specs.SmallBays.{bay_of_six}

abbrev pub first_of : Problem → PlaceAndTrail
first_of p = record { place = settled (start p); trail = [] }

pub begins : (p : Problem) (s : PlaceAndTrail) → p ≡ bay_of_six → s ≡ first_of p → s ≡ first_of bay_of_six
begins p s six is = is ∙ ap first_of six

abbrev pub relocated : PlaceAndTrail → ℕ → PlaceAndTrail
relocated s row = record { place = child s.place row; trail = s.place ∷ s.trail }

leads : (made : Bool) (s t : PlaceAndTrail) (row : ℕ) → (IsTrue made ↔ Contains (targets s.place) row) → OnTrue made (t ≡ relocated s row) → Contains (targets s.place) row → t ≡ relocated s row
leads true s t row legal pushed is = pushed
leads false s t row legal pushed is = absurd (false≢true (legal.1 is))

pub goes : (made : Bool) (s t known : PlaceAndTrail) (row : ℕ) → s ≡ known → (IsTrue made ↔ Contains (targets s.place) row) → OnTrue made (t ≡ relocated s row)
    → Contains (targets known.place) row → t ≡ relocated known row
goes made s t known row same legal pushed is =
    leads made s t row legal pushed (subst (λ (x : PlaceAndTrail). Contains (targets x.place) row) (sym same) is) ∙ ap (λ (x : PlaceAndTrail). relocated x row) same
