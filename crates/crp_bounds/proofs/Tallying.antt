-- How the look-ahead count goes over the ranks, with nothing cut but the counts of what is left.
use Rattle.std.proofs.Common.{◌≡◌, ◌≢◌, ℕ, zero, suc, ◌+◌, ◌-◌, ◌*◌, ◌<◌, ◌≤◌, max, Bool, true, false, ◌==◌, nat_le, nat_lt, List, [], ◌∷◌, ◌++◌, length, map, take, drop, get_or, set, count_by, refl, sym, ap, ◌∙◌, ⊎_elim, arith, length-set}
use Rattle.std.proofs.Math.Seq.{drop-cons}
use Rattle.std.proofs.lemmas.Bool.{cases_Bool, cases_eq, cases_lt, both_ways, lt-leb, or_left, or_right, or_cases, eqb-true, ne_eqb}
use Rattle.std.proofs.lemmas.List.{take-take, length-take, get_or-set_same, get_or-set_other}
use Rattle.std.proofs.lemmas.List.Sums.{sum_by-cons}
use Rattle.crp_plan.specs.Rows.{holds, occurrences, above, below}
use Rattle.crp_plan.proofs.Lists.{times, one_if, times-cons, times_held, times_not_held, same_is_one}
use Rattle.crp_bay.specs.Positions.{place}
use Rattle.crp_bounds.specs.Bounds.{has_no_place, stuck_from}
use Rattle.crp_bounds.specs.Leasts.{least_ordered}
use Rattle.crp_bounds.specs.Offers.{cut, offer, offers, greatest}
use Rattle.crp_bounds.proofs.Stuck.{counted, counted_absent, cut_absent}
use Rattle.crp_bounds.proofs.Counting.{one_rank}
use Rattle.crp_bounds.proofs.Meaning.{cut_reads}
use Rattle.crp_bounds.proofs.Cutting.{occurrences_cut, cut_at, cut_times, cut_set, cut_one, counted_one, times-append, gone_below, gone_own, held_in, no_place_test, offers_set, greatest_set, offer_low, least_below, open_found, open_ends, count_same, above_greater}

-- how far the count has come: what is left of each stack, the greatest offer, and how many have counted
pub record Ahead (ordered next : ℕ) (heights : List ℕ) (stacks : List (List ℕ)) (k : ℕ) (left : List ℕ) (most again : ℕ) : Type 0 where
  pub gone : (d : ℕ) → d < k → occurrences d (cut left stacks) ≡ 0
  pub within : (r : ℕ) → get_or left r 0 ≤ length (get_or stacks r [])
  pub greatest_is : most ≡ greatest (offers ordered heights (cut left stacks))
  pub tallied : again + stuck_from ordered heights (suc ordered - k) (cut left stacks) k ≡ stuck_from ordered heights (suc ordered - next) stacks next
  pub few : again + 8 * next ≤ 8 * k
  pub left_long : length left ≡ 16

-- a rank that is cut off already
pub ahead_absent : (ordered next : ℕ) (heights : List ℕ) (stacks : List (List ℕ)) (k : ℕ) (left : List ℕ) (most again : ℕ) → Ahead ordered next heights stacks k left most again → occurrences k stacks ≤ 1 → k ≤ ordered →
    holds k (take (get_or left (place k stacks) 0) (get_or stacks (place k stacks) [])) ≡ false → Ahead ordered next heights stacks (k + 1) left most again
ahead_absent ordered next heights stacks k left most again a once le free =
    let none : occurrences k (cut left stacks) ≡ 0 = cut_times k left stacks once ∙ times_not_held k (take (get_or left (place k stacks) 0) (get_or stacks (place k stacks) [])) free in
    let few = a.few in
    record {
      gone = λ d lt. ⊎_elim (λ less. a.gone d less) (λ ge. let e : d ≡ k = omega arith in ap (λ x. occurrences x (cut left stacks)) e ∙ none) (cases_lt d k);
      within = a.within;
      greatest_is = a.greatest_is;
      tallied = omega (arith, a.tallied, one_rank ordered heights (cut left stacks) (cut left stacks) k le (sym (cut_absent k (cut left stacks) none)), counted_absent (has_no_place ordered k heights (cut left stacks)) k (cut left stacks) none);
      few = omega arith;
      left_long = a.left_long;
    }

-- as many stacks are left
pub length_cut : (left : List ℕ) (stacks : List (List ℕ)) → length (cut left stacks) ≡ length stacks
length_cut left [] = refl
length_cut [] (y ∷ ys) = ap suc (length_cut [] ys)
length_cut (n ∷ left) (y ∷ ys) = ap suc (length_cut left ys)

-- as many offers as rows
pub length_offers : (ordered : ℕ) (heights : List ℕ) (stacks : List (List ℕ)) → length heights ≡ length stacks → length (offers ordered heights stacks) ≡ length heights
length_offers ordered [] stacks e = refl
length_offers ordered (h ∷ hs) [] e = absurd (omega arith)
length_offers ordered (h ∷ hs) (x ∷ xs) e = ap suc (length_offers ordered hs xs (omega arith))

-- what code finds of a rank that is left: its row, how many stand below it there, and how many above it count
pub record Met (ordered : ℕ) (heights : List ℕ) (stacks : List (List ℕ)) (k : ℕ) (left : List ℕ) (most r kept more offered : ℕ) : Type 0 where
  pub is_row : r ≡ place k stacks
  pub row_there : r < length heights
  pub ranks : (x : ℕ) → holds x (get_or stacks r []) ≡ true → x ≤ 96
  pub held : holds k (take (get_or left r 0) (get_or stacks r [])) ≡ true
  pub below_it : take kept (take (get_or left r 0) (get_or stacks r [])) ≡ below k (take (get_or left r 0) (get_or stacks r []))
  pub lower : kept < length (take (get_or left r 0) (get_or stacks r []))
  pub counts : more ≡ count_by (nat_lt most) (above k (take (get_or left r 0) (get_or stacks r [])))
  pub few : more ≤ 8
  pub offer_is : offered ≡ least_ordered ordered (take kept (take (get_or left r 0) (get_or stacks r [])))

-- what holds of the bay
pub record Bay (ordered : ℕ) (heights : List ℕ) (stacks : List (List ℕ)) : Type 0 where
  pub same_rows : length heights ≡ length stacks
  pub few_rows : length heights ≤ 12
  pub once : (x : ℕ) → occurrences x stacks ≤ 1
  pub fit : (r : ℕ) → length (get_or stacks r []) ≤ get_or heights r 0
  pub few_ordered : ordered ≤ 96

-- what stands in a part stands in the list
held_part : (x n : ℕ) (xs : List ℕ) → holds x (take n xs) ≡ true → holds x xs ≡ true
held_part x zero xs h = cc
held_part x (suc n) [] h = cc
held_part x (suc n) (y ∷ xs) h = ⊎_elim
    (λ t. or_left (y == x) (holds x xs) t)
    (λ t. or_right (y == x) (holds x xs) (held_part x n xs t))
    (or_cases (y == x) (holds x (take n xs)) h)

held_above : (k x : ℕ) (xs : List ℕ) → holds x (above k xs) ≡ true → holds x xs ≡ true
held_above k x [] h = cc
held_above k x (y ∷ xs) h = ⊎_elim
    (λ t. let h' : holds x xs ≡ true = rw t at h in or_right (y == x) (holds x xs) h')
    (λ f. let h' : holds x (above k xs) ≡ true = rw f at h in or_right (y == x) (holds x xs) (held_above k x xs h'))
    (cases_Bool (y == k))

-- less is left of its stack
met_set : (ordered next : ℕ) (heights : List ℕ) (stacks : List (List ℕ)) (k : ℕ) (left : List ℕ) (most again r kept more offered : ℕ) → Ahead ordered next heights stacks k left most again → Bay ordered heights stacks →
    Met ordered heights stacks k left most r kept more offered → cut (set left r kept) stacks ≡ set (cut left stacks) r (take kept (take (get_or left r 0) (get_or stacks r [])))
met_set ordered next heights stacks k left most again r kept more offered a b m =
    let lower = m.lower in let rows = b.few_rows in let there = m.row_there in let long = a.left_long in
    cut_set left stacks r kept (omega arith) ∙ ap (set (cut left stacks) r) (sym (take-take kept (get_or left r 0) (get_or stacks r []) (omega (arith, length-take (get_or left r 0) (get_or stacks r [])))))

-- all stacks are cut off at the rank by that
pub met_cut : (ordered next : ℕ) (heights : List ℕ) (stacks : List (List ℕ)) (k : ℕ) (left : List ℕ) (most again r kept more offered : ℕ) → Ahead ordered next heights stacks k left most again → Bay ordered heights stacks →
    Met ordered heights stacks k left most r kept more offered → cut (set left r kept) stacks ≡ map (below k) (cut left stacks)
met_cut ordered next heights stacks k left most again r kept more offered a b m =
    let W : List (List ℕ) = cut left stacks in
    let here : get_or W r [] ≡ take (get_or left r 0) (get_or stacks r []) = cut_at left stacks r in
    let once : occurrences k W ≤ 1 = omega (arith, occurrences_cut k left stacks, b.once k) in
    met_set ordered next heights stacks k left most again r kept more offered a b m ∙ ap (set W r) (m.below_it ∙ ap (below k) (sym here)) ∙ sym (cut_one k W r (ap (holds k) here ∙ m.held) once)

-- a rank that is left: its stack is cut off at it
pub ahead_met : (ordered next : ℕ) (heights : List ℕ) (stacks : List (List ℕ)) (k : ℕ) (left : List ℕ) (most again r kept more offered : ℕ) → Ahead ordered next heights stacks k left most again → Bay ordered heights stacks → k ≤ ordered →
    Met ordered heights stacks k left most r kept more offered → Ahead ordered next heights stacks (k + 1) (set left r kept) (max most offered) (again + more)
ahead_met ordered next heights stacks k left most again r kept more offered a b le m =
    let w : List ℕ = take (get_or left r 0) (get_or stacks r []) in
    let W : List (List ℕ) = cut left stacks in
    let lower = m.lower in let few = m.few in let old_few = a.few in let rows = b.few_rows in let there = m.row_there in
    let long = a.left_long in
    let here : get_or W r [] ≡ w = cut_at left stacks r in
    let shorter : length w ≤ get_or left r 0 = omega (arith, length-take (get_or left r 0) (get_or stacks r [])) in
    let held : holds k (get_or W r []) ≡ true = ap (holds k) here ∙ m.held in
    let once : occurrences k W ≤ 1 = omega (arith, occurrences_cut k left stacks, b.once k) in
    let now : cut (set left r kept) stacks ≡ set W r (take kept w) = met_set ordered next heights stacks k left most again r kept more offered a b m in
    let same : cut (set left r kept) stacks ≡ map (below k) W = met_cut ordered next heights stacks k left most again r kept more offered a b m in
    let once_w : times k w ≤ 1 = omega (arith, held_in k W r held, ap (times k) here) in
    let gone_w : (d : ℕ) → d < k → times d w ≡ 0 = λ d lt. ⊎_elim
    (λ t. let q = held_in d W r (ap (holds d) here ∙ t) in omega (arith, q, a.gone d lt, ap (times d) here))
    (λ f. times_not_held d w f)
    (cases_Bool (holds d w)) in
    let count : more ≡ count_by (has_no_place ordered k heights W) (above k w) =
    m.counts ∙ count_same (nat_lt most) (has_no_place ordered k heights W) (above k w) (λ c h.
    ap (λ g. nat_lt g c) a.greatest_is ∙ sym (no_place_test ordered k c heights W le (above_greater k c w m.held once_w gone_w h)
    (let small = m.ranks c (held_part c (get_or left r 0) (get_or stacks r []) (held_above k c w h)) in omega arith))) in
    let counted_w : counted (has_no_place ordered k heights W) k W ≡ count_by (has_no_place ordered k heights W) (above k w) =
    counted_one (has_no_place ordered k heights W) k W r held once ∙ ap (λ l. count_by (has_no_place ordered k heights W) (above k l)) here in
    let room : nat_le (get_or heights r 0) (length (take kept w)) ≡ false = lt-leb (get_or heights r 0) (length (take kept w)) (let fit = b.fit r in omega (arith, length-take kept w, length-take (get_or left r 0) (get_or stacks r []))) in
    let offer_now : offer ordered (get_or heights r 0) (take kept w) ≡ offered = (rw room refl) ∙ sym m.offer_is in
    let offers_now : offers ordered heights (cut (set left r kept) stacks) ≡ set (offers ordered heights W) r offered =
    ap (offers ordered heights) now ∙ offers_set ordered heights W r (take kept w) ∙ ap (set (offers ordered heights W) r) offer_now in
    let old_offer : get_or (offers ordered heights W) r 0 ≤ least_ordered ordered w = omega (arith, offer_low ordered heights W r, ap (least_ordered ordered) here) in
    let not_lower : get_or (offers ordered heights W) r 0 ≤ offered = omega (arith, old_offer, least_below ordered k w, ap (least_ordered ordered) m.below_it, m.offer_is) in
    let offers_long : r < length (offers ordered heights W) = omega (arith, length_offers ordered heights W (omega (arith, b.same_rows, length_cut left stacks))) in
    record {
      gone = λ d lt. ap (occurrences d) same ∙ ⊎_elim
          (λ less. omega (arith, gone_below d k W, a.gone d less))
          (λ ge. let e : d ≡ k = omega arith in ap (λ x. occurrences x (map (below k) W)) e ∙ gone_own k W)
          (cases_lt d k);
      within = λ i. ⊎_elim
          (λ q. let read : get_or (set left r kept) i 0 ≡ kept = ap (λ j. get_or (set left r kept) j 0) q ∙ get_or-set_same left r kept 0 (omega arith) in
          omega (arith, read, ap (λ j. length (get_or stacks j [])) q, length-take (get_or left r 0) (get_or stacks r [])))
          (λ ne. omega (arith, get_or-set_other left r i kept 0 ne, a.within i))
          (cases_eq i r);
      greatest_is = ap (λ n. max n offered) a.greatest_is ∙ sym (ap greatest offers_now ∙ greatest_set (offers ordered heights W) r offered offers_long not_lower);
      tallied = omega (arith, a.tallied, one_rank ordered heights W (cut (set left r kept) stacks) k le same, count, counted_w);
      few = omega arith;
      left_long = length-set left r kept ∙ a.left_long;
    }

-- where a row stays open to the end nothing counts any more
pub ahead_ends : (ordered next : ℕ) (heights : List ℕ) (stacks : List (List ℕ)) (k : ℕ) (left : List ℕ) (most again : ℕ) → Ahead ordered next heights stacks k left most again → k ≤ ordered → ordered ≤ 96 → most ≡ 255 →
    again ≡ stuck_from ordered heights (suc ordered - next) stacks next
ahead_ends ordered next heights stacks k left most again a le few e =
    let W : List (List ℕ) = cut left stacks in
    omega (arith, a.tallied, open_ends ordered heights (suc ordered - k) W k (omega arith) few (open_found ordered heights W (sym a.greatest_is ∙ e)))

-- one container lower
pub one_down : (p : ℕ → Bool) (xs : List ℕ) (i k : ℕ) → i < length xs → get_or xs i 0 ≢ k → holds k (drop (suc i) xs) ≡ false → holds k xs ≡ true →
    (1 ≤ i) × (holds k (drop (suc (i - 1)) xs) ≡ false) × (count_by p (drop (suc (i - 1)) xs) ≡ one_if (p (get_or xs i 0)) + count_by p (drop (suc i) xs))
one_down p xs zero k lt ne free h =
    let split : xs ≡ get_or xs 0 0 ∷ drop 1 xs = drop-cons xs 0 0 lt in
    let h' : holds k (get_or xs 0 0 ∷ drop 1 xs) ≡ true = ap (holds k) (sym split) ∙ h in
    absurd (⊎_elim (λ t. ne (eqb-true (get_or xs 0 0) k t)) (λ t. both_ways (holds k (drop 1 xs)) free t) (or_cases (get_or xs 0 0 == k) (holds k (drop 1 xs)) h'))
one_down p xs (suc i) k lt ne free h =
    let e : suc (suc i - 1) ≡ suc i = omega arith in
    let split : drop (suc (suc i - 1)) xs ≡ get_or xs (suc i) 0 ∷ drop (suc (suc i)) xs = ap (λ n. drop n xs) e ∙ drop-cons xs (suc i) 0 lt in (
      omega arith,
      ap (holds k) split ∙ (rw (ne_eqb (get_or xs (suc i) 0) k ne) free),
      ap (count_by p) split ∙ sum_by-cons (λ c. one_if (p c)) (get_or xs (suc i) 0) (drop (suc (suc i)) xs),
    )

-- the rank is found
pub found_at : (xs : List ℕ) (i k : ℕ) → i < length xs → get_or xs i 0 ≡ k → times k xs ≤ 1 → (take i xs ≡ below k xs) × (drop (suc i) xs ≡ above k xs)
found_at xs i k lt e once =
    let split : xs ≡ take i xs ++ k ∷ drop (suc i) xs = parts xs i lt ∙ ap (λ x. take i xs ++ x ∷ drop (suc i) xs) e in
    let t : times k xs ≡ times k (take i xs) + (one_if (k == k) + times k (drop (suc i) xs)) = ap (times k) split ∙ times-append k (take i xs) (k ∷ drop (suc i) xs) ∙ ap (λ n. times k (take i xs) + n) (times-cons k k (drop (suc i) xs)) in
    let free : holds k (take i xs) ≡ false = ⊎_elim (λ h. let held = times_held k (take i xs) h in absurd (omega (arith, t, same_is_one k))) (λ f. f) (cases_Bool (holds k (take i xs))) in
    let r = cut_reads k (take i xs) (drop (suc i) xs) free in
    (sym (ap (below k) split ∙ r.1), sym (ap (above k) split ∙ r.0))
  where
    parts : (ys : List ℕ) (j : ℕ) → j < length ys → ys ≡ take j ys ++ get_or ys j 0 ∷ drop (suc j) ys
    parts [] j lt' = absurd (omega arith)
    parts (y ∷ ys) zero lt' = refl
    parts (y ∷ ys) (suc j) lt' = ap (λ l. y ∷ l) (parts ys j (omega arith))
