-- The fields of a record, as csv finds them.
use Prim.Native.Nat.{zero}
use Rattle.std.proofs.Common.{◌≡◌, ℕ, suc, List, [], ◌∷◌, None, get_or, refl}
use Rattle.csv.specs.Records.{field_at}

-- past the last field there are no bytes
pub no_field : (fields : List (List ℕ)) (i : ℕ) → field_at fields i ≡ None → get_or fields i [] ≡ []
unfolding field_at
no_field [] i e = refl
no_field (f ∷ fields) zero e = cc
no_field (f ∷ fields) (suc i) e = no_field fields i e
