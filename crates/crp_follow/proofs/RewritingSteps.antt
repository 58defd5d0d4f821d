-- A report with lines that count its moves, bay by bay.
use Rattle.std.proofs.Common.{◌≡◌, ◌∙◌, ◌⊎◌, inl, inr, ℕ, zero, suc, ◌+◌, ◌<◌, ◌≤◌, arith, Bool, true, false, cond, List, [], ◌∷◌, ◌++◌, length, length-append, map, take, get_or, refl, sym, ap, subst, append_assoc, append-nil}
use Rattle.std.specs.Prelude.{count_by}
use Rattle.std.specs.List.{AllByRecursion, AllZip, flat_map}
use Rattle.std.proofs.lemmas.List.{map-append, take_more, length-map}
use Rattle.std.proofs.lemmas.List.Concat.{flat_map-append}
use Rattle.std.proofs.lemmas.List.Sums.{sum_by-append, sum_by-cons}
use Rattle.crp_said.specs.declared.numbers.Numbers.{Numbers}
use Rattle.crp_said.specs.Said.{BaySaid, counts_line, bay_text, bays_line, is_settled}
use Rattle.crp_follow.specs.declared.fault.FollowFault.{FollowFault}
use Rattle.crp_follow.specs.declared.fault.FollowFault.TheVariants as fault
use Rattle.crp_follow.specs.declared.stated.StatedBay.{StatedBay}
use Rattle.crp_follow.specs.Lines.{Line, lines_in}
use Rattle.crp_follow.specs.Stated.{most_bytes, BayStated, move_line, bay_lines, GoOnWith}
use Rattle.crp_follow.specs.TextFaults.{IsFrontFault, IsTextFault}
use Rattle.crp_follow.specs.Views.{bay_stated}
use Rattle.crp_follow.specs.Rewritten.{IsEdited, IsEditedFault, IsCountedAnew, HasFewMoves, AreRewritten, IsRewritten}
use Rattle.crp_follow.proofs.OneText.{few_in_text}

-- ---- one bay more

zip_more : {A B : Type 0} (R : A → B → Type 0) (xs : List A) (ys : List B) (x : A) (y : B) → AllZip R xs ys → R x y → AllZip R (xs ++ x ∷ []) (ys ++ y ∷ [])
zip_more R [] [] x y all r = (r, tt)
zip_more R [] (b ∷ ys) x y all r = absurd all
zip_more R (a ∷ xs) [] x y all r = absurd all
zip_more R (a ∷ xs) (b ∷ ys) x y all r = (all.0, zip_more R xs ys x y all.1 r)

-- so many of the first bays were added, and no more of them are decided
abbrev pub SoFar : List StatedBay → ℕ → List ℕ → List ℕ → ℕ → Type 0
SoFar bays i old new decided = AreRewritten (map bay_stated (take i bays)) old new decided × (decided ≤ i)

pub none_rewritten : (bays : List StatedBay) (text : List ℕ) → SoFar bays 0 text text 0
none_rewritten bays text = (record { said = []; counted = none bays; decided_is = refl; text = sym (append-nil text) }, omega arith)
  where
    none : (bays : List StatedBay) → AllZip IsCountedAnew (map bay_stated (take 0 bays)) []
    none [] = tt
    none (b ∷ bays) = tt

one_at_most : (t : Bool) (decided i : ℕ) → decided ≤ i → decided + cond t 1 0 ≤ i + 1
one_at_most true decided i low = omega (arith, low)
one_at_most false decided i low = omega (arith, low)

settled_more : (said : List BaySaid) (s : BaySaid) → count_by (λ (b : BaySaid). is_settled b.said) (said ++ s ∷ []) ≡ count_by (λ (b : BaySaid). is_settled b.said) said + cond (is_settled s.said) 1 0
settled_more said s =
    let one : BaySaid → ℕ = λ b. cond (is_settled b.said) 1 0 in
    let both = sum_by-append one said (s ∷ []) in
    let last = sum_by-cons one s [] in omega (arith, both, last)

pub rewritten_more : (bays : List StatedBay) (i : ℕ) (b : StatedBay) (s : BaySaid) (old text new : List ℕ) (decided : ℕ) → i < length bays → b ≡ get_or bays i b
    → SoFar bays i old text decided → IsCountedAnew (bay_stated b) s → new ≡ text ++ bay_text s
    → SoFar bays (i + 1) old new (decided + cond (is_settled s.said) 1 0)
rewritten_more bays i b s old text new decided lt at (before, low) counted longer =
    let front = map bay_stated (take i bays) in
    let more : map bay_stated (take (i + 1) bays) ≡ front ++ bay_stated b ∷ [] =
    ap (map bay_stated) (take_more bays i b lt ∙ ap (λ x. take i bays ++ x ∷ []) (sym at)) ∙ map-append bay_stated (take i bays) (b ∷ []) in (
      subst (λ (l : List BayStated). AreRewritten l old new (decided + cond (is_settled s.said) 1 0)) (sym more) (record {
        said = before.said ++ s ∷ [];
        counted = zip_more IsCountedAnew front before.said (bay_stated b) s before.counted counted;
        decided_is = ap (λ n. n + cond (is_settled s.said) 1 0) before.decided_is ∙ sym (settled_more before.said s);
        text = longer ∙ ap (λ l. l ++ bay_text s) before.text ∙ append_assoc old (flat_map bay_text before.said) (bay_text s)
            ∙ ap (λ l. old ++ l) (ap (λ l. flat_map bay_text before.said ++ l) (sym (append-nil (bay_text s))) ∙ sym (flat_map-append bay_text before.said (s ∷ [])));
      }),
      one_at_most (is_settled s.said) decided i low,
    )

-- the bay at this place has few moves
pub few_moves_at : (bays : List StatedBay) (i : ℕ) (b : StatedBay) → AllByRecursion HasFewMoves (map bay_stated bays) → i < length bays → b ≡ get_or bays i b → length b.moves.items ≤ most_bytes
few_moves_at [] i b few lt at = absurd (omega (arith, lt))
few_moves_at (x ∷ bays) zero b few lt at = subst (λ (y : StatedBay). length y.moves.items ≤ most_bytes) (sym at) few.0
few_moves_at (x ∷ bays) (suc i) b few lt at = few_moves_at bays i b few.1 (omega (arith, lt)) at

zip_length : {A B : Type 0} (R : A → B → Type 0) (xs : List A) (ys : List B) → AllZip R xs ys → length ys ≡ length xs
zip_length R [] [] all = refl
zip_length R [] (b ∷ ys) all = absurd all
zip_length R (a ∷ xs) [] all = absurd all
zip_length R (a ∷ xs) (b ∷ ys) all = ap suc (zip_length R xs ys all.1)

-- all bays were added, and the last line
pub all_rewritten : (report first text last anew : List ℕ) (n : Numbers) (bays : List StatedBay) (list : List StatedBay) (count decided : ℕ) → IsEdited report n (map bay_stated bays) → list ≡ bays
    → first ≡ counts_line n → AreRewritten (map bay_stated list) first text decided → count ≡ length bays → last ≡ bays_line count decided → anew ≡ text ++ last → IsRewritten report anew
all_rewritten report first text last anew n bays list count decided edited same begins added many ends is =
    let stated = map bay_stated bays in
    let a : AreRewritten stated first text decided = subst (λ (l : List StatedBay). AreRewritten (map bay_stated l) first text decided) same added in
    let so_many : count ≡ length a.said = many ∙ sym (length-map bays bay_stated) ∙ sym (zip_length IsCountedAnew stated a.said a.counted) in
    record {
      numbers = n;
      bays = stated;
      said = a.said;
      edited = edited;
      counted = a.counted;
      is = is ∙ ap (λ l. l ++ last) a.text ∙ append_assoc first (flat_map bay_text a.said) last ∙ ap (λ l. l ++ (flat_map bay_text a.said ++ last)) begins
          ∙ ap (λ l. counts_line n ++ (flat_map bay_text a.said ++ l)) (ends ∙ ap (λ k. bays_line k decided) so_many ∙ ap (bays_line (length a.said)) a.decided_is);
    }

-- ---- what an edited report states

few_each : (n : ℕ) (bays : List BayStated) (x : List Line) → length (flat_map bay_lines bays ++ x) ≤ n → AllByRecursion (λ (b : BayStated). length b.moves ≤ n) bays
few_each n [] x few = tt
few_each n (b ∷ bays) x few =
    let a = length-append (bay_lines b ++ flat_map bay_lines bays) x in
    let c = length-append (bay_lines b) (flat_map bay_lines bays) in
    let d = length-append (flat_map bay_lines bays) x in
    let m : length (map move_line b.moves) ≡ length b.moves = length-map b.moves move_line in
    (omega (arith, a, c, m, few), few_each n bays x (omega (arith, a, c, d, few)))

pub all_few_moves : (text : List ℕ) (n : Numbers) (bays : List BayStated) (x : List Line) → length text ≤ most_bytes → GoOnWith (lines_in text) n bays x → AllByRecursion HasFewMoves bays
all_few_moves text n bays x short f =
    let few : length (lines_in text) ≤ length text = few_in_text text in
    let e : length (lines_in text) ≡ suc (length (flat_map bay_lines bays ++ x)) = ap length f.lines_are in
    let s : length text ≤ 8388608 = short in
    few_each 8388608 bays x (omega (arith, few, e, s))

-- a fault of the front is the first of the text, whatever its last line counts
pub front_is_text : (text : List ℕ) (f : FollowFault) → (f ≡ fault.Memory) ⊎ IsFrontFault text f → (f ≡ fault.Memory) ⊎ IsTextFault text f
front_is_text text f (inl e) = inl e
front_is_text text fault.TooLong (inr w) = inr w
front_is_text text (fault.Orders line) (inr w) = inr w
front_is_text text (fault.NoLine line) (inr w) = absurd w
front_is_text text (fault.Count line) (inr w) = absurd w
front_is_text text (fault.NoBay line) (inr w) = absurd w
front_is_text text (fault.Again line) (inr w) = absurd w
front_is_text text (fault.Relocations line) (inr w) = absurd w
front_is_text text (fault.Lift line) (inr w) = absurd w
front_is_text text (fault.Container line) (inr w) = absurd w
front_is_text text (fault.SetDown line) (inr w) = absurd w
front_is_text text fault.Memory (inr w) = absurd w

pub front_is_edited : (text : List ℕ) (f : FollowFault) → (f ≡ fault.Memory) ⊎ IsFrontFault text f → (f ≡ fault.Memory) ⊎ IsEditedFault text f
front_is_edited text f (inl e) = inl e
front_is_edited text fault.TooLong (inr w) = inr w
front_is_edited text (fault.Orders line) (inr w) = inr w
front_is_edited text (fault.NoLine line) (inr w) = absurd w
front_is_edited text (fault.Count line) (inr w) = absurd w
front_is_edited text (fault.NoBay line) (inr w) = absurd w
front_is_edited text (fault.Again line) (inr w) = absurd w
front_is_edited text (fault.Relocations line) (inr w) = absurd w
front_is_edited text (fault.Lift line) (inr w) = absurd w
front_is_edited text (fault.Container line) (inr w) = absurd w
front_is_edited text (fault.SetDown line) (inr w) = absurd w
front_is_edited text fault.Memory (inr w) = absurd w
