-- The ranks of a bay's problem, by what stands where.
use Prim.Native.Nat.{zero}
use Rattle.std.proofs.Common.{◌≡◌, ◌≤◌, ◌<◌, ◌+◌, ◌⊎◌, ℕ, suc, Bool, true, false, cond, not, List, [], ◌∷◌, ◌++◌, length, get_or, Some, slice_get, refl, sym, ap, ◌∙◌, subst, inl, inr, ⊎_elim, arith}
use Rattle.std.specs.Prelude.{filter}
use Rattle.std.specs.Option.{option_map}
use Rattle.std.specs.Str.{bytes_eq}
use Rattle.std.proofs.lemmas.Bool.{eqb-true, true≢false}
use Rattle.std.proofs.lemmas.List.{append-nil}
use Rattle.std.proofs.lemmas.Option.{same_Some, slice_get-map, slice_get_within, get_or_from_slice_get}
use Rattle.crp_sizes.specs.Sizes.{heights_at}
use Rattle.crp_yard.specs.Inventory.{Inventory, StackedBay, IsYard, times, is_among}
use Rattle.crp_yard.proofs.ListingSteps.{times_absent}
use Rattle.crp_yard.proofs.Seams.{in_front}
use Rattle.crp_order.specs.Sequenced.{AreSequenced}
use Rattle.crp_order.specs.BayProblems.{standing, leaving, staying, ranked, rank_in, ranks_in, problem_of}
use Rattle.crp_order.specs.ByRank.{at_place, RankedContainer, AreRanked}
use Rattle.crp_order.proofs.Once.{one_if, same, itself, among, times-filter, once}
use Rattle.crp_order.proofs.RankSteps.{rank_low, rank_at, within}
use Rattle.crp_order.proofs.YardSteps.{stacks_of_bay, stands_once}

-- a filter keeps the order of ranks
rank-cond : (c x : List ℕ) (q : Bool) (xs ys : List (List ℕ)) → rank_in (cond q (x ∷ xs) xs ++ ys) c ≡ cond q (cond (bytes_eq c x) 1 (suc (rank_in (xs ++ ys) c))) (rank_in (xs ++ ys) c)
rank-cond c x true xs ys = refl
rank-cond c x false xs ys = refl

kept_step : (q e f : Bool) (a b c d : ℕ) → (e ≡ true → q ≡ true) → 1 ≤ d → cond e 1 (suc a) < cond f 1 (suc b) → (a < b → c < d) → cond q (cond e 1 (suc c)) c < cond q (cond f 1 (suc d)) d
kept_step true true true a b c d passes low h later = absurd (omega arith)
kept_step true true false a b c d passes low h later = omega arith
kept_step true false true a b c d passes low h later = absurd (omega arith)
kept_step true false false a b c d passes low h later = omega (arith, later (omega arith))
kept_step false true f a b c d passes low h later = absurd (true≢false (sym (passes refl)))
kept_step false false true a b c d passes low h later = absurd (omega arith)
kept_step false false false a b c d passes low h later = later (omega arith)

rank-kept : (p : List ℕ → Bool) (a b : List ℕ) (xs ys : List (List ℕ)) → p a ≡ true → rank_in xs a < rank_in xs b → rank_in (filter p xs ++ ys) a < rank_in (filter p xs ++ ys) b
rank-kept p a b [] ys passes h = absurd (omega arith)
rank-kept p a b (x ∷ xs) ys passes h =
    rw (rank-cond a x (p x) (filter p xs) ys, rank-cond b x (p x) (filter p xs) ys)
    (kept_step (p x) (bytes_eq a x) (bytes_eq b x) (rank_in xs a) (rank_in xs b) (rank_in (filter p xs ++ ys) a) (rank_in (filter p xs ++ ys) b)
    (λ e. ap p (sym (same a x e)) ∙ passes) (rank_low (filter p xs ++ ys) b) h (rank-kept p a b xs ys passes))

-- the rank in two lists, one behind the other
rank-front : (c : List ℕ) (xs ys : List (List ℕ)) → 1 ≤ times c xs → rank_in (xs ++ ys) c ≤ length xs
rank-front c [] ys some = absurd (omega arith)
rank-front c (x ∷ xs) ys some = by (bytes_eq c x) some (rank-front c xs ys)
  where
    by : (b : Bool) → 1 ≤ one_if b + times c xs → (1 ≤ times c xs → rank_in (xs ++ ys) c ≤ length xs) → cond b 1 (suc (rank_in (xs ++ ys) c)) ≤ suc (length xs)
    by true h later = omega arith
    by false h later = omega (arith, later (omega (arith, h)))

rank-behind : (c : List ℕ) (xs ys : List (List ℕ)) → times c xs ≡ 0 → rank_in (xs ++ ys) c ≡ length xs + rank_in ys c
rank-behind c [] ys none = omega arith
rank-behind c (x ∷ xs) ys none = by (bytes_eq c x) none (rank-behind c xs ys)
  where
    by : (b : Bool) → one_if b + times c xs ≡ 0 → (times c xs ≡ 0 → rank_in (xs ++ ys) c ≡ length xs + rank_in ys c) → cond b 1 (suc (rank_in (xs ++ ys) c)) ≡ suc (length xs) + rank_in ys c
    by true h later = absurd (omega (arith, h))
    by false h later = omega (arith, later (omega (arith, h)))

-- in a list without doubles the rank is the place
rank_there : (xs : List (List ℕ)) (i : ℕ) (a : List ℕ) → ((c : List ℕ) → times c xs ≤ 1) → slice_get xs i ≡ Some a → rank_in xs a ≡ suc i
rank_there xs i a once at =
    let is : get_or xs i [] ≡ a = get_or_from_slice_get xs i a [] at in
    eqb-true (rank_in xs a) (suc i) (rank_at xs a i (slice_get_within xs i a at) once ∙ ap (λ x. bytes_eq x a) is ∙ itself a)

stands_among : (xs : List (List ℕ)) (i : ℕ) (a : List ℕ) → slice_get xs i ≡ Some a → 1 ≤ times a xs
stands_among xs i a at = subst (λ x. 1 ≤ times x xs) (get_or_from_slice_get xs i a [] at) (within xs i (slice_get_within xs i a at))

-- places of a bay, stack behind stack
behind : {X : Type 0} (xs ys : List X) (k : ℕ) → slice_get (xs ++ ys) (length xs + k) ≡ slice_get ys k
behind [] ys k = let e : 0 + k ≡ k = omega arith in ap (slice_get ys) e
behind (x ∷ xs) ys k = let e : suc (length xs) + k ≡ suc (length xs + k) = omega arith in ap (slice_get (x ∷ xs ++ ys)) e ∙ behind xs ys k

somewhere : (stacks : List (List (List ℕ))) (row tier : ℕ) (a : List ℕ) → at_place stacks row tier ≡ Some a → (i : ℕ) × (slice_get (standing stacks) i ≡ Some a)
somewhere [] row tier a at = absurd (cc)
somewhere (stack ∷ stacks) zero tier a at = (tier, in_front stack (standing stacks) tier a at)
somewhere (stack ∷ stacks) (suc row) tier a at =
    let later = somewhere stacks row tier a at in
    (length stack + later.0, behind stack (standing stacks) later.0 ∙ later.1)

abbrev IsBefore : ℕ → ℕ → ℕ → ℕ → Type 0
IsBefore row tier other_row other_tier = (row < other_row) ⊎ ((row ≡ other_row) × (tier < other_tier))

in_order : (stacks : List (List (List ℕ))) (row tier other_row other_tier : ℕ) (a b : List ℕ) → at_place stacks row tier ≡ Some a → at_place stacks other_row other_tier ≡ Some b
    → IsBefore row tier other_row other_tier → (i : ℕ) × (j : ℕ) × (i < j) × (slice_get (standing stacks) i ≡ Some a) × (slice_get (standing stacks) j ≡ Some b)
in_order [] row tier other_row other_tier a b at_a at_b before = absurd (cc)
in_order (stack ∷ stacks) zero tier zero other_tier a b at_a at_b before =
    let lower : tier < other_tier = ⊎_elim (λ h. absurd (omega arith)) (λ h. h.1) before in
    (tier, other_tier, lower, in_front stack (standing stacks) tier a at_a, in_front stack (standing stacks) other_tier b at_b)
in_order (stack ∷ stacks) zero tier (suc other_row) other_tier a b at_a at_b before =
    let later = somewhere stacks other_row other_tier b at_b in
    (tier, length stack + later.0, omega (arith, slice_get_within stack tier a at_a), in_front stack (standing stacks) tier a at_a, behind stack (standing stacks) later.0 ∙ later.1)
in_order (stack ∷ stacks) (suc row) tier zero other_tier a b at_a at_b before = absurd (⊎_elim (λ h. omega arith) (λ h. omega (arith, h.0)) before)
in_order (stack ∷ stacks) (suc row) tier (suc other_row) other_tier a b at_a at_b before =
    let found = in_order stacks row tier other_row other_tier a b at_a at_b (⊎_elim (λ h. inl (omega arith)) (λ h. inr (omega (arith, h.0), h.1)) before) in
    (length stack + found.0, length stack + found.1, omega (arith, found.2), behind stack (standing stacks) found.0 ∙ found.3, behind stack (standing stacks) found.1 ∙ found.4)

-- the rank at a place is that of the container there
ranks-at : (names : List (List ℕ)) (stacks : List (List (List ℕ))) (row tier : ℕ) → at_place (ranks_in names stacks) row tier ≡ option_map (rank_in names) (at_place stacks row tier)
ranks-at names [] row tier = refl
ranks-at names (stack ∷ stacks) zero tier = slice_get-map (rank_in names) stack tier
ranks-at names (stack ∷ stacks) (suc row) tier = ranks-at names stacks row tier

-- a bay in which no container stands twice, and a sequence in which none comes twice
module _ (heights : List ℕ) (sequence : List (List ℕ)) (stacks : List (List (List ℕ))) (sequenced : (c : List ℕ) → times c sequence ≤ 1) (standing_once : (c : List ℕ) → times c (standing stacks) ≤ 1) where
  abbrev Here : Type 0
  Here = RankedContainer stacks (problem_of heights sequence stacks)

  rank_is : (a : Here) → a.rank ≡ rank_in (ranked sequence stacks) a.container
  rank_is a =
      same_Some a.rank (rank_in (ranked sequence stacks) a.container)
      (sym a.ranked ∙ ranks-at (ranked sequence stacks) stacks a.row a.tier ∙ ap (option_map (rank_in (ranked sequence stacks))) a.stands)

  is_here : (a : Here) → is_among (standing stacks) a.container ≡ true
  is_here a = let found = somewhere stacks a.row a.tier a.container a.stands in among a.container (standing stacks) (stands_among (standing stacks) found.0 a.container found.1)

  -- as often as in the sequence
  leaves-as : (a : Here) → times a.container (leaving sequence stacks) ≡ times a.container sequence
  leaves-as a = times-filter (is_among (standing stacks)) a.container sequence ∙ ap (λ b. cond b (times a.container sequence) 0) (is_here a)

  stays-as : (a : Here) → is_among sequence a.container ≡ false → a.rank ≡ length (leaving sequence stacks) + rank_in (staying sequence stacks) a.container
  stays-as a absent = rank_is a ∙ rank-behind a.container (leaving sequence stacks) (staying sequence stacks) (leaves-as a ∙ times_absent a.container sequence absent)

  bay_ranked : AreRanked sequence stacks (problem_of heights sequence stacks)
  bay_ranked = record {
    leave_first = λ a i at. omega (arith, rank_is a, rank-front a.container (leaving sequence stacks) (staying sequence stacks) (omega (arith, leaves-as a, stands_among sequence i a.container at)));
    in_sequence = λ a b i j at_a at_b before.
        omega (
          arith,
          rank_is a,
          rank_is b,
          rank-kept (is_among (standing stacks)) a.container b.container sequence (staying sequence stacks) (is_here a)
              (omega (arith, rank_there sequence i a.container sequenced at_a, rank_there sequence j b.container sequenced at_b)),
        );
    stay_behind = λ a absent. omega (arith, stays-as a absent, rank_low (staying sequence stacks) a.container);
    by_row_then_tier = λ a b absent_a absent_b before.
        let places = in_order stacks a.row a.tier b.row b.tier a.container b.container a.stands b.stands before in
        let kept = rank-kept (λ c. not (is_among sequence c)) a.container b.container (standing stacks) [] (ap not absent_a)
        (omega (arith, places.2, rank_there (standing stacks) places.0 a.container standing_once places.3, rank_there (standing stacks) places.1 b.container standing_once places.4)) in
        omega (arith, stays-as a absent_a, stays-as b absent_b, subst (λ xs. rank_in xs a.container < rank_in xs b.container) (append-nil (staying sequence stacks)) kept);
  }

pub are_ranked : (yard : Inventory) (sequence : List (List ℕ)) (number : ℕ) (bay : StackedBay) → IsYard yard → AreSequenced sequence → slice_get yard.bays number ≡ Some bay
    → AreRanked sequence bay.1 (problem_of (heights_at yard.sizes bay.0) sequence bay.1)
are_ranked yard sequence number bay is sequenced at =
    bay_ranked (heights_at yard.sizes bay.0) sequence bay.1 (once sequence sequenced.once)
    (subst (λ s. (c : List ℕ) → times c (standing s) ≤ 1) (stacks_of_bay yard number bay at) (stands_once yard number is (slice_get_within yard.bays number bay at)))
