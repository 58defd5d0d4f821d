-- Lists of prices that rise.
use Rattle.std.proofs.Common.{◌∙◌, inl, inr, List, [], ◌∷◌, ◌++◌, arith}
use Rattle.std.specs.List.{AllByRecursion}
use Rattle.crp_prices.specs.declared.list.Priced.{Priced}
use Rattle.crp_prices.specs.PriceLists.{IsPriced, StandsBefore, AreListed}

before_on : (a b c : Priced) → StandsBefore a b → StandsBefore b c → StandsBefore a c
before_on a b c (inl low) (inl also) = inl (omega (arith, low, also))
before_on a b c (inl low) (inr (same, late)) = inl (omega (arith, low, same))
before_on a b c (inr (same, late)) (inl also) = inl (omega (arith, same, also))
before_on a b c (inr (same, late)) (inr (too, later)) = inr (same ∙ too, omega (arith, late, later))

last_of : (x : Priced) (front : List Priced) (last : Priced) → AllByRecursion (StandsBefore x) (front ++ last ∷ []) → StandsBefore x last
last_of x [] last all = all.0
last_of x (y ∷ front) last all = last_of x front last all.1

all_more : (x : Priced) (list : List Priced) (e : Priced) → AllByRecursion (StandsBefore x) list → StandsBefore x e → AllByRecursion (StandsBefore x) (list ++ e ∷ [])
all_more x [] e all is = (is, tt)
all_more x (y ∷ list) e all is = (all.0, all_more x list e all.1 is)

-- one more behind the last
pub listed_more : (front : List Priced) (last e : Priced) → AreListed (front ++ last ∷ []) → StandsBefore last e → IsPriced e → AreListed ((front ++ last ∷ []) ++ e ∷ [])
listed_more [] last e listed is may = (listed.0, (is, tt), (may, tt, tt))
listed_more (x ∷ front) last e listed is may =
    (listed.0, all_more x (front ++ last ∷ []) e listed.1 (before_on x last e (last_of x front last listed.1) is), listed_more front last e listed.2 is may)

-- and it stands so only there
pub listed_last : (front : List Priced) (last e : Priced) → AreListed ((front ++ last ∷ []) ++ e ∷ []) → StandsBefore last e × IsPriced e
listed_last [] last e listed = (listed.1.0, listed.2.0)
listed_last (x ∷ front) last e listed = listed_last front last e listed.2

-- each may be listed
pub listed_each : (front : List Priced) (e : Priced) (behind : List Priced) → AreListed (front ++ e ∷ behind) → IsPriced e
listed_each [] e behind listed = listed.0
listed_each (x ∷ front) e behind listed = listed_each front e behind listed.2
