-- The text of heights, byte by byte.
use Rattle.std.proofs.Common.{◌≡◌, ◌∙◌, ◌<◌, ◌+◌, ◌*◌, ◌%◌, ◌⊎◌, ℕ, zero, suc, List, [], ◌∷◌, ◌++◌, length, get_or, take, drop, refl, sym, ap, ap₂, subst, arith}
use Rattle.std.proofs.lemmas.Grind.{flat_map-append}
use Rattle.std.proofs.lemmas.List.{append_assoc}
use Rattle.std.proofs.Math.Seq.{take-suc}
use Rattle.crp_sizes.specs.Heights.{behind_points, IsHeightsText, HasHeightAt}

-- ---- from heights to their text

-- two bytes for each
pub length_behind : (heights : List ℕ) → length (behind_points heights) ≡ 2 * length heights
length_behind [] = refl
length_behind (height ∷ heights) = let e = length_behind heights in omega (arith, e)

-- a point
point_at : (heights : List ℕ) (k : ℕ) → k < length heights → get_or (behind_points heights) (2 * k) 0 ≡ 46
point_at [] k within = absurd (omega arith)
point_at (height ∷ heights) zero within = refl
point_at (height ∷ heights) (suc k) within =
    let n : suc (suc (2 * k)) ≡ 2 * suc k = omega arith in
    subst (λ (i : ℕ). get_or (behind_points (height ∷ heights)) i 0 ≡ 46) n (point_at heights k (omega arith))

-- and the digit
digit_at : (heights : List ℕ) (k : ℕ) → k < length heights → get_or (behind_points heights) (2 * k + 1) 0 ≡ 48 + get_or heights k 0
digit_at [] k within = absurd (omega arith)
digit_at (height ∷ heights) zero within = refl
digit_at (height ∷ heights) (suc k) within =
    let n : suc (suc (2 * k + 1)) ≡ 2 * suc k + 1 = omega arith in
    subst (λ (i : ℕ). get_or (behind_points (height ∷ heights)) i 0 ≡ 48 + get_or heights k 0) n (digit_at heights k (omega arith))

-- with a point before it the text is their digits, each behind a point
pub with_point : (heights : List ℕ) (text : List ℕ) → IsHeightsText heights text → 46 ∷ text ≡ behind_points heights
with_point [] text is = absurd (omega (arith, is.0.0.0))
with_point (height ∷ heights) text is = ap (λ (t : List ℕ). 46 ∷ t) is.1

long_text : (heights : List ℕ) (text : List ℕ) → IsHeightsText heights text → suc (length text) ≡ 2 * length heights
long_text heights text is = ap length (with_point heights text is) ∙ length_behind heights

-- a text of another length is of no heights
pub none_so_long : (text : List ℕ) → (length text % 2 ≡ 0) ⊎ (23 < length text) → (heights : List ℕ) → IsHeightsText heights text → ⊥
none_so_long text wrong heights is = let long = long_text heights text is in omega (arith, long, is.0.0.1, wrong)

-- nor is one in which a height is missing
pub none_there : (text : List ℕ) (k : ℕ) → 2 * k < length text → ((height : ℕ) → HasHeightAt text k height → ⊥) → (heights : List ℕ) → IsHeightsText heights text → ⊥
none_there text k short none heights is =
    let e = with_point heights text is in
    let long = long_text heights text is in
    let within : k < length heights = omega (arith, long) in
    none (get_or heights k 0) (
      ap (λ (l : List ℕ). get_or l (2 * k) 0) e ∙ point_at heights k within,
      ap (λ (l : List ℕ). get_or l (2 * k + 1) 0) e ∙ digit_at heights k within,
      is.0.1 k 0 within,
    )

-- ---- from the text to its heights

-- one height more
pub one_more : (heights : List ℕ) (text : List ℕ) (k height : ℕ) → 2 * k < length text → behind_points heights ≡ take (2 * k) (46 ∷ text) → HasHeightAt text k height
    → behind_points (heights ++ height ∷ []) ≡ take (2 * (k + 1)) (46 ∷ text)
one_more heights text k height short so_far there =
    let whole : List ℕ = 46 ∷ text in
    let n : suc (suc (2 * k)) ≡ 2 * (k + 1) = omega arith in
    let m : 2 * k + 1 ≡ suc (2 * k) = omega arith in
    let first : take (suc (2 * k)) whole ≡ take (2 * k) whole ++ 46 ∷ [] = take-suc whole (2 * k) 0 (omega arith) ∙ ap (λ x. take (2 * k) whole ++ x ∷ []) there.0 in
    let digit : get_or whole (suc (2 * k)) 0 ≡ 48 + height = ap (λ i. get_or whole i 0) (sym m) ∙ there.1 in
    let second : take (suc (suc (2 * k))) whole ≡ take (suc (2 * k)) whole ++ (48 + height) ∷ [] =
    take-suc whole (suc (2 * k)) 0 (omega arith) ∙ ap (λ x. take (suc (2 * k)) whole ++ x ∷ []) digit in
    let both : take (suc (suc (2 * k))) whole ≡ take (2 * k) whole ++ 46 ∷ (48 + height) ∷ [] =
    second ∙ ap (λ (l : List ℕ). l ++ (48 + height) ∷ []) first ∙ append_assoc (take (2 * k) whole) (46 ∷ []) ((48 + height) ∷ []) in
    flat_map-append (λ (h : ℕ). 46 ∷ (48 + h) ∷ []) heights (height ∷ []) ∙ ap (λ (l : List ℕ). l ++ 46 ∷ (48 + height) ∷ []) so_far ∙ sym both ∙ ap (λ i. take i whole) n

-- ---- a text is that of one list of heights

same_behind : (heights others : List ℕ) → behind_points heights ≡ behind_points others → heights ≡ others
same_behind [] [] e = refl
same_behind [] (other ∷ others) e = absurd (cc)
same_behind (height ∷ heights) [] e = absurd (cc)
same_behind (height ∷ heights) (other ∷ others) e =
    let digit : 48 + height ≡ 48 + other = ap (λ (l : List ℕ). get_or l 1 0) e in
    let one : height ≡ other = omega (arith, digit) in
    let more : behind_points heights ≡ behind_points others = ap (λ (l : List ℕ). drop 2 l) e in
    ap₂ (λ x xs. x ∷ xs) one (same_behind heights others more)

pub one_heights : (text heights others : List ℕ) → IsHeightsText heights text → IsHeightsText others text → heights ≡ others
one_heights text heights others is also = same_behind heights others (sym (with_point heights text is) ∙ with_point others text also)
