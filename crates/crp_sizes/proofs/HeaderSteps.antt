-- The header of a list of sizes.
use Rattle.std.proofs.Common.{◌≡◌, ◌∙◌, ℕ, true, false, List, [], ◌∷◌, length, get_or, sym, ap, arith}
use Rattle.std.specs.Prelude.{◌==◌, codes}
use Rattle.std.specs.Str.{bytes_eq}
use Rattle.std.proofs.lemmas.Bool.{eqb-true, false≢true}
use Rattle.std.proofs.lemmas.Slice.Eq.{bytes_eq-Decides}
use Rattle.crp_sizes.proofs.BaySteps.{both}
use Rattle.crp_sizes.specs.Records.{header, is_header}
use Rattle.crp_sizes.specs.Faults.{LacksHeader}

three : (fields : List (List ℕ)) (x y z : List ℕ) → length fields ≡ 3 → get_or fields 0 [] ≡ x → get_or fields 1 [] ≡ y → get_or fields 2 [] ≡ z → fields ≡ x ∷ y ∷ z ∷ []
three [] x y z long a b c = absurd (omega (arith, long))
three (f ∷ []) x y z long a b c = absurd (omega (arith, long))
three (f ∷ g ∷ []) x y z long a b c = absurd (omega (arith, long))
three (f ∷ g ∷ h ∷ []) x y z long a b c = λ i. a i ∷ b i ∷ c i ∷ []
three (f ∷ g ∷ h ∷ k ∷ rest) x y z long a b c = absurd (omega (arith, long))

pub header_is : (fields : List (List ℕ)) → is_header fields ≡ true → fields ≡ header
header_is fields e =
    let parts = both (length fields == 3) _ e in
    let one = both (bytes_eq (get_or fields 0 []) (codes "block")) _ parts.1 in
    let two = both (bytes_eq (get_or fields 1 []) (codes "bay")) (bytes_eq (get_or fields 2 []) (codes "heights")) one.1 in
    three fields (codes "block") (codes "bay") (codes "heights") (eqb-true (length fields) 3 parts.0)
    ((bytes_eq-Decides (get_or fields 0 []) (codes "block")).0 one.0)
    ((bytes_eq-Decides (get_or fields 1 []) (codes "bay")).0 two.0)
    ((bytes_eq-Decides (get_or fields 2 []) (codes "heights")).0 two.1)

-- records that begin with others have it not
pub no_header : (records : List (List (List ℕ))) (fields : List (List ℕ)) (after : List (List (List ℕ))) → records ≡ fields ∷ after → is_header fields ≡ false → LacksHeader records
no_header records fields after begun other rest e =
    let same : fields ≡ header = ap (λ (l : List (List (List ℕ))). get_or l 0 []) (sym begun ∙ e) in
    false≢true (sym other ∙ ap is_header same)

-- nor have no records
pub none_there : (records : List (List (List ℕ))) → records ≡ [] → LacksHeader records
none_there records none rest e = let both : [] ≡ header ∷ rest = sym none ∙ e in absurd (cc)
