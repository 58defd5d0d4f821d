-- What closes a position can be spelled: its text has only the bytes of reasons.
use Rattle.std.proofs.Common.{◌≡◌, ℕ, zero, suc, ◌+◌, ◌-◌, ◌/◌, ◌%◌, ◌^◌, ◌<◌, ◌≤◌, Bool, true, false, List, [], ◌∷◌, ◌++◌, Contains, All, codes, refl, sym, subst, arith}
use Rattle.std.specs.List.{AllByRecursion}
use Rattle.std.specs.Fmt.{decimal}
use Rattle.std.proofs.lemmas.Fmt.{decimal_by_steps}
use Rattle.std.proofs.lemmas.Bool.{cases_Bool}
use Rattle.std.proofs.lemmas.List.Elements.{All-from_recursion}
use Rattle.crp_plan.specs.Bay.{Position}
use Rattle.crp_bay.specs.Positions.{can_take, taken, shifted}
use Rattle.crp_bay.specs.Reached.{IsReached}
use Rattle.crp_bay.proofs.Members.{in_head, in_tail}
use Rattle.crp_thinned.specs.Tree.{Tree, CutB, CutL, CutT, Branch, Thin, Free, Given, Trees, no_trees, one_and}
use Rattle.crp_thinned.specs.Thinned.{is_missing, passed, lifted, settle_most, good_rows, free_row, child_at, child_without, FitsThinned, FitsEachGood}
use Rattle.crp_thinned.specs.Missing.{IsSoundlyThin}
use Rattle.crp_thinned.proofs.Keeping.{thin_without, thin_at}
use Rattle.crp_thinned.proofs.Thinning.{IsFree, free_is}
use Rattle.crp_thinning.specs.Steps.{IsFine}
use Rattle.crp_thinning.specs.OneChain.{IsRank}
use Rattle.crp_thinning.specs.Symbols.{chain_text, family_text, symbols_of, symbols_of_each, Closes}
use Rattle.crp_thinning.proofs.Begun.{fine_start, thin_start}
use Rattle.crp_thinning.proofs.Forward.{fine_taken, fine_passed, fine_lifted, fine_shifted}
use Rattle.crp_thinning.proofs.Texts.{IsShort}
use Rattle.crp_thinning.proofs.Ending.{short_family}
use Rattle.crp_row.specs.Reasons.{IsReasonByte, AreReasons}

-- ---- bytes

abbrev AreBytes : List ℕ → Type 0
AreBytes text = AllByRecursion IsReasonByte text

both : (xs ys : List ℕ) → AreBytes xs → AreBytes ys → AreBytes (xs ++ ys)
both [] ys a b = b
both (x ∷ xs) ys a b = (a.0, both xs ys a.1 b)

digit : (d : ℕ) → d < 10 → IsReasonByte (48 + d)
digit zero lt = (5, omega arith, refl)
digit (suc zero) lt = (6, omega arith, refl)
digit (suc (suc zero)) lt = (7, omega arith, refl)
digit (suc (suc (suc zero))) lt = (8, omega arith, refl)
digit (suc (suc (suc (suc zero)))) lt = (9, omega arith, refl)
digit (suc (suc (suc (suc (suc zero))))) lt = (10, omega arith, refl)
digit (suc (suc (suc (suc (suc (suc zero)))))) lt = (11, omega arith, refl)
digit (suc (suc (suc (suc (suc (suc (suc zero))))))) lt = (12, omega arith, refl)
digit (suc (suc (suc (suc (suc (suc (suc (suc zero)))))))) lt = (13, omega arith, refl)
digit (suc (suc (suc (suc (suc (suc (suc (suc (suc zero))))))))) lt = (14, omega arith, refl)
digit (suc (suc (suc (suc (suc (suc (suc (suc (suc (suc d)))))))))) lt = absurd (omega arith)

digits : (n : ℕ) → n < 2 ^ 64 → AreBytes (decimal n)
digits n small = decimal_by_steps P one step n small
  where
    P : ℕ → List ℕ → Type 0
    P m ds = AreBytes ds

    one : (m : ℕ) → m < 10 → P m ((48 + m) ∷ [])
    one m lt = (digit m lt, tt)

    step : (m : ℕ) (ds : List ℕ) → 10 ≤ m → P (m / 10) ds → P m (ds ++ (48 + m % 10) ∷ [])
    step m ds ten h = both ds ((48 + m % 10) ∷ []) h (digit (m % 10) (omega arith), tt)

letter_b : IsReasonByte 66
letter_b = (0, omega arith, refl)

letter_l : IsReasonByte 76
letter_l = (1, omega arith, refl)

letter_t : IsReasonByte 84
letter_t = (2, omega arith, refl)

letter_r : IsReasonByte 82
letter_r = (3, omega arith, refl)

letter_f : IsReasonByte 70
letter_f = (4, omega arith, refl)

point : IsReasonByte 46
point = (15, omega arith, refl)

comma : IsReasonByte 44
comma = (16, omega arith, refl)

end : IsReasonByte 59
end = (17, omega arith, refl)

-- ---- families

rank_bytes : (x : ℕ) → IsRank x → AreBytes (decimal x)
rank_bytes x is = let le = is.1 in digits x (omega arith)

chain_bytes : (chain : List ℕ) → AllByRecursion IsRank chain → AreBytes (chain_text chain)
chain_bytes [] ranks = tt
chain_bytes (x ∷ []) ranks = rank_bytes x ranks.0
chain_bytes (x ∷ y ∷ chain) ranks = both (decimal x ++ 46 ∷ []) (chain_text (y ∷ chain)) (both (decimal x) (46 ∷ []) (rank_bytes x ranks.0) (point, tt)) (chain_bytes (y ∷ chain) ranks.1)

family_bytes : (family : List (List ℕ)) → AllByRecursion IsShort family → AreBytes (family_text family)
family_bytes [] short = (end, tt)
family_bytes (chain ∷ []) short = both (chain_text chain) (59 ∷ []) (chain_bytes chain (let k = short.0 in k.ranks)) (end, tt)
family_bytes (chain ∷ other ∷ family) short = both (chain_text chain ++ 44 ∷ []) (family_text (other ∷ family)) (both (chain_text chain) (44 ∷ []) (chain_bytes chain (let k = short.0 in k.ranks)) (comma, tt)) (family_bytes (other ∷ family) short.1)

-- ---- thinned positions

-- some steps lead on
abbrev IsSomehowFine : Position → Type 0
IsSomehowFine s = (count : ℕ) × IsFine count s

-- so settling leads on, if the rest of it does
abbrev LeadOn : ℕ → Type 0
LeadOn most = (count : ℕ) (s : Position) → IsFine count s → IsSomehowFine (settle_most most s)

by_missing : (most count : ℕ) (s : Position) (t : Bool) → LeadOn most → IsFine count s → can_take s ≡ false → is_missing s ≡ t → IsSomehowFine (settle_most (suc most) s)
by_missing most count s true on f stays e = rw stays (rw e (on (suc count) (passed s) (fine_passed count s f e)))
by_missing most count s false on f stays e = rw stays (rw e (count, f))

by_take : (most count : ℕ) (s : Position) (t : Bool) → LeadOn most → IsFine count s → can_take s ≡ t → IsSomehowFine (settle_most (suc most) s)
by_take most count s true on f e = rw e (on (suc count) (taken s) (fine_taken count s f e))
by_take most count s false on f e = by_missing most count s (is_missing s) on f e refl

fine_settled : (most count : ℕ) (s : Position) → IsFine count s → IsSomehowFine (settle_most most s)
fine_settled zero count s f = (count, f)
fine_settled (suc most) count s f = by_take most count s (can_take s) (fine_settled most) f refl

-- ---- trees

mutual
  tree_bytes : (count : ℕ) (s : Position) (tree : Tree) → IsFine count s → IsSoundlyThin s → FitsThinned s tree → AreBytes (symbols_of tree)
  tree_bytes count s CutB f thin fits = (letter_b, tt)
  tree_bytes count s CutL f thin fits = (letter_l, tt)
  tree_bytes count s (CutT family) f thin fits = (letter_t, family_bytes family (short_family count s family f fits.chains))
  tree_bytes count s (Branch all) f thin fits = absurd fits
  tree_bytes count s (Thin all) f thin fits = (letter_r, each_bytes count s (good_rows s) all f thin fits.0 (λ row in_rows. in_rows) fits.1)
  tree_bytes count s (Free tree) f thin fits =
      let free = free_is s fits.0 in
      let below = fine_settled _ (suc count) (shifted s (free_row s)) (fine_shifted count s (free_row s) f thin free.legal) in
      (letter_f, tree_bytes below.0 (child_at s (free_row s)) tree below.1 (thin_at s (free_row s) thin free.legal) fits.1)
  tree_bytes count s Given f thin fits = absurd fits

  each_bytes : (count : ℕ) (s : Position) (rows : List ℕ) (all : Trees) → IsFine count s → IsSoundlyThin s → s.next ≤ s.ordered → ((row : ℕ) → Contains rows row → Contains (good_rows s) row) → FitsEachGood s rows all → AreBytes (symbols_of_each all)
  each_bytes count s [] no_trees f thin left good fits = tt
  each_bytes count s [] (one_and last no_trees) f thin left good fits =
      let below = fine_settled _ (suc count) (lifted s) (fine_lifted count s f thin left) in
      both (symbols_of last) [] (tree_bytes below.0 (child_without s) last below.1 (thin_without s thin left) fits) tt
  each_bytes count s [] (one_and last (one_and tree trees)) f thin left good fits = absurd fits
  each_bytes count s (row ∷ rows) no_trees f thin left good fits = tt
  each_bytes count s (row ∷ rows) (one_and tree trees) f thin left good fits =
      let legal = good row (in_head row rows) in
      let below = fine_settled _ (suc count) (shifted s row) (fine_shifted count s row f thin legal) in
      both (symbols_of tree) (symbols_of_each trees) (tree_bytes below.0 (child_at s row) tree below.1 (thin_at s row thin legal) fits.0)
      (each_bytes count s rows trees f thin left (λ other among. good other (in_tail row rows other among)) fits.1)

-- what closes a position of a bay, and shows no more than a byte says, may stand in brackets
pub closes_spelled : (s : Position) (bound : ℕ) (text : List ℕ) → IsReached s → bound ≤ 255 → Closes s bound text → AreReasons bound text
closes_spelled s bound text reached low k =
    (low, subst (All IsReasonByte) (sym k.is_text) (All-from_recursion IsReasonByte (symbols_of k.tree) (tree_bytes 0 s k.tree (fine_start s reached) (thin_start s reached) k.fits)))
