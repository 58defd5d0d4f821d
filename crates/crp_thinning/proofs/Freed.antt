-- A relocation or a lift frees one container of those that block.
use Rattle.std.proofs.Common.{◌≡◌, ℕ, ◌+◌, ◌-◌, ◌<◌, ◌≤◌, List, ◌∷◌, Contains, sym, ◌∙◌, subst, arith}
use Rattle.crp_plan.specs.Bay.{Position}
use Rattle.crp_bounds.specs.Bounds.{blocking}
use Rattle.crp_thinned.specs.Thinned.{good_rows, child_at, child_without}
use Rattle.crp_thinned.specs.Missing.{IsSoundlyThin}
use Rattle.crp_thinned.proofs.Falling.{shift_blocks, lift_blocks, over_row, over_lift}
use Rattle.crp_thinning.specs.Steps.{AreFreed}

pub freed_at : (s : Position) (row : ℕ) → IsSoundlyThin s → Contains (good_rows s) row → blocking (child_at s row) + 1 ≡ blocking s
freed_at s row thin c = let k = over_row s row thin c in omega (arith, shift_blocks s row thin c, k.blocks)

pub freed_without : (s : Position) → IsSoundlyThin s → s.next ≤ s.ordered → blocking (child_without s) + 1 ≡ blocking s
freed_without s thin le = let k = over_lift s thin le in omega (arith, lift_blocks s thin le, k.blocks)

-- forward
pub freed_on : (count : ℕ) (s t : Position) (trail now : List Position) → count ≡ blocking s → count ≤ 96 → AreFreed count trail → blocking t + 1 ≡ blocking s → now ≡ s ∷ trail → AreFreed (count - 1) now
freed_on count s t trail now is few freed less e =
    let n : count - 1 + 1 ≡ count = omega arith in
    subst (AreFreed (count - 1)) (sym e) (n ∙ is, omega arith, subst (λ k. AreFreed k trail) (sym n) freed)

-- and back
pub freed_back : (count : ℕ) (s : Position) (trail old : List Position) → AreFreed count old → old ≡ s ∷ trail → (count + 1 ≡ blocking s) × (count < 96) × AreFreed (count + 1) trail
freed_back count s trail old freed e = subst (AreFreed count) e freed
