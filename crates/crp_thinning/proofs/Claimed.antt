-- Claims, one after the other.
use Rattle.std.proofs.Common.{◌≡◌, ◌≤◌, ℕ, zero, suc, ◌+◌, ◌-◌, Bool, true, false, refl, sym, subst, arith}
use Rattle.crp_thinning.specs.declared.claims.Unclosed.{Unclosed}
use Rattle.crp_thinning.specs.declared.claims.Unclosed.TheVariants.{Open, Refused, Memory}
use Rattle.crp_thinning.specs.Claiming.{Granted, Claimed}

pub granted_more : {X : Type 0} (claims : X → Bool → X → Type 0) (m n : ℕ) (old now new : X) → Granted claims m old now → Granted claims n now new → Granted claims (m + n) old new
granted_more claims zero n old now new g h = let e : 0 + n ≡ n = omega arith in subst (λ k. Granted claims k old new) (sym e) (subst (λ x. Granted claims n x new) g h)
granted_more claims (suc m) n old now new g h = let e : suc m + n ≡ suc (m + n) = omega arith in subst (λ k. Granted claims k old new) (sym e) (g.0, g.1, granted_more claims m n g.0 now new g.2 h)

-- one more before
pub granted_first : {X : Type 0} (claims : X → Bool → X → Type 0) (n : ℕ) (old now new : X) → claims old true now → Granted claims n now new → Granted claims (n + 1) old new
granted_first claims n old now new c h = let e : n + 1 ≡ suc n = omega arith in subst (λ k. Granted claims k old new) (sym e) (now, c, h)

-- the first is refused
pub one_refused : {X : Type 0} (claims : X → Bool → X → Type 0) (most : ℕ) (old new : X) → 1 ≤ most → claims old false new → Claimed claims most Refused old new
one_refused claims most old new some c = (0, omega arith, (old, refl, c))

-- memory is short behind one that is granted
pub one_granted : {X : Type 0} (claims : X → Bool → X → Type 0) (most : ℕ) (old new : X) → 1 ≤ most → claims old true new → Claimed claims most Memory old new
one_granted claims most old new some c = (1, some, (new, c, refl))

-- so many are granted before
pub claimed_after : {X : Type 0} (claims : X → Bool → X → Type 0) (m most : ℕ) (why : Unclosed) (old now new : X) → m ≤ most → Granted claims m old now → Claimed claims (most - m) why now new → Claimed claims most why old new
claimed_after claims m most Open old now new le g k = (m + k.0, (let few = k.1 in omega arith), granted_more claims m k.0 old now new g k.2)
claimed_after claims m most Refused old now new le g k = (m + k.0, (let few = k.1 in omega arith), (k.2.0, granted_more claims m k.0 old now k.2.0 g k.2.1, k.2.2))
claimed_after claims m most Memory old now new le g k = (m + k.0, (let few = k.1 in omega arith), granted_more claims m k.0 old now new g k.2)

-- one is
pub claimed_first : {X : Type 0} (claims : X → Bool → X → Type 0) (most : ℕ) (why : Unclosed) (old now new : X) → 1 ≤ most → claims old true now → Claimed claims (most - 1) why now new → Claimed claims most why old new
claimed_first claims most why old now new some c k = claimed_after claims 1 most why old now new some (now, c, refl) k
