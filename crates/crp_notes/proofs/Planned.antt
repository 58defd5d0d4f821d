-- The note of a size, by what is kept of it.
use Rattle.std.proofs.Common.{◌≡◌, ◌∙◌, ℕ, ◌+◌, List, [], ◌∷◌, length, Some, slice_get, sym, ap, arith, tests}
use Rattle.std.specs.Prelude.{nat_lt, nat_le}
use Rattle.std.proofs.lemmas.Option.{none-some, same_Some}
use Rattle.crp_plan.specs.BayNames.{YardBay}
use Rattle.crp_yard.specs.Inventory.{Inventory}
use Rattle.crp_notes.specs.declared.sizes.Size.{Size}
use Rattle.crp_notes.specs.Wording.{beyond_note}
use Rattle.crp_notes.specs.Beyond.{Planned, planned_beyond, note_if_some, note_on}
use Rattle.crp_notes.specs.Kept.{IsKept}

-- on so many containers, above a tier
pub one_above : (tier n : ℕ) → nat_le tier n ≡ nat_lt tier (n + 1)
one_above tier n = grind (arith, tests)

-- the note of a size, by what is kept of it
pub kept_note : (yard : Inventory) (planned : List Planned) (size : Size) → IsKept yard planned size
    → note_on yard planned size.heights.items ≡ note_if_some size.heights.items size.row size.tier size.beyond.items
kept_note yard planned size kept =
    let heights = size.heights.items in
    (λ i. note_if_some heights (sym kept.row i) (sym kept.tier i) (planned_beyond heights (sym kept.row i) (sym kept.tier i) planned))
    ∙ ap (note_if_some heights size.row size.tier) (sym kept.beyond)

pub some_note : (heights : List ℕ) (row tier : ℕ) (bays : List YardBay) (first : YardBay) → slice_get bays 0 ≡ Some first
    → Some (beyond_note heights first (length bays) row tier) ≡ note_if_some heights row tier bays
some_note heights row tier [] first e = absurd (none-some first e)
some_note heights row tier (bay ∷ bays) first e = ap (λ (b : YardBay). Some (beyond_note heights b (length (bay ∷ bays)) row tier)) (sym (same_Some bay first e))
