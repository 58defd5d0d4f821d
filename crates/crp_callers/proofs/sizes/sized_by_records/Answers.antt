use Rattle.std.proofs.Common.{◌≡◌, ℕ, List, Some, None, Option, refl, ap}
use Rattle.std.specs.Prelude.{unwrap_or}
use Rattle.crp_sizes.specs.Sizes.{YardSizes, heights_of}
use Rattle.crp_callers.proofs.sizes.sized_by_records.Goals as goal

pub returns-clause-own : goal.returns-clause-own
returns-clause-own c = λ common text sizes i size is there.
    ap (λ (o : Option (List ℕ)). unwrap_or o sizes.common) ((c.sized_as_listed.ensures text sizes.listed size.0 size.1 is.list).1 (i, there))

-- a bay that is not listed has the common heights
unlisted : (sizes : YardSizes) (common : List ℕ) (o : Option (List ℕ)) → sizes.common ≡ common → ((heights : List ℕ) → o ≡ Some heights → ⊥) → unwrap_or o sizes.common ≡ common
unlisted sizes common None e none = e
unlisted sizes common (Some heights) e none = absurd (none heights refl)

pub returns-clause-others : goal.returns-clause-others
returns-clause-others c = λ common text sizes bay is none.
    unlisted sizes common (heights_of sizes.listed bay) is.others (λ heights e.
    let (i, there) = (c.sized_as_listed.ensures text sizes.listed bay heights is.list).0 e in none i (bay, heights) there refl)
