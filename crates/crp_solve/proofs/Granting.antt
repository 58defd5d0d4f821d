-- Claims that were granted, and branches, from none on.
use Rattle.std.proofs.Common.{◌≡◌, ℕ, ◌+◌, sym, subst, arith}
use Rattle.crp_search.specs.Searched.{Grants}

-- of two workers
pub grants_joined : (thin mine others granted more branches : ℕ) → branches ≡ mine + others → Grants thin 0 mine granted → Grants thin 0 others more → Grants thin 0 branches (granted + more)
grants_joined thin mine others granted more branches sum a b = record {
  enough = let x = a.enough in let y = b.enough in omega arith;
  alone = λ none. let x = a.alone none in let y = b.alone none in omega arith;
}

-- of one who had claimed nothing before
pub grants_first : (thin before branches granted sum : ℕ) → before ≡ 0 → sum ≡ branches → Grants thin before branches granted → Grants thin 0 sum granted
grants_first thin before branches granted sum none same g =
    subst (λ n. Grants thin 0 n granted) (sym same) (subst (λ n. Grants thin n branches granted) none g)

-- with one who claimed nothing
pub grants_beside : (thin branches granted idle : ℕ) → idle ≡ 0 → Grants thin 0 branches granted → Grants thin 0 branches (idle + granted)
grants_beside thin branches granted idle none g = record {
  enough = let x = g.enough in omega arith;
  alone = λ zero. let x = g.alone zero in omega arith;
}

-- each is a branch where no thinned branch is tried
pub grants_alone : (thin branches granted : ℕ) → thin ≡ 0 → Grants thin 0 branches granted → granted ≡ branches
grants_alone thin branches granted none g = let x = g.enough in let y = g.alone none in omega arith
