-- Worked thinned trees, by the definitions.
use Rattle.std.proofs.Common.{◌≡◌, ◌<◌, ◌≤◌, ℕ, true, false, [], ◌∷◌, map, refl, sym, ap, inl, ⊎_elim, arith}
use Rattle.std.proofs.lemmas.Bool.{cases_eq}
use Rattle.crp_plan.specs.Rows.{occurrences}
use Rattle.crp_plan.proofs.Lists.{times, times-cons, other_is_zero, occurrences-cons}
use Rattle.crp_plan.specs.Bay.{Position}
use Rattle.crp_bounds.specs.Bounds.{blocking, look_ahead}
use Rattle.crp_chains.specs.declared.blocker.Blocker.{Blocker}
use Rattle.crp_chains.specs.Chains.{IsBlocker, IsChain, MayFollow}
use Rattle.crp_chains.specs.Named.{family_of}
use Rattle.crp_chains.proofs.Blockers.{blocker_made}
use Rattle.crp_thinned.specs.Tree.{Tree, CutB, CutL, CutT, Branch, Thin, Free, no_trees, one_and}
use Rattle.crp_thinned.specs.Hindering.{hindered, lower_blocking, hinders_nobody}
use Rattle.crp_thinned.specs.Thinned.{good_rows, free_rows, blocker, child_at, child_without, settled_over, cut_value, thinned_cuts, FitsThinned, shown}

-- three containers that are to leave, and one that stays, in rows of two, three and three tiers: 3 is in the way of 1
abbrev four : Position
four = record { heights = 2 ∷ 3 ∷ 3 ∷ []; ordered = 3; next = 1; stacks = [] ∷ (2 ∷ []) ∷ (1 ∷ 4 ∷ 3 ∷ []) ∷ [] }

blocker_of_four : blocker four ≡ 3
blocker_of_four = refl

-- it is well placed in row 1, and badly above 2
good_rows_of_four : good_rows four ≡ 1 ∷ []
good_rows_of_four = refl

at_row_one : child_at four 1 ≡ record { heights = 2 ∷ 3 ∷ 3 ∷ []; ordered = 3; next = 1; stacks = (3 ∷ []) ∷ (2 ∷ []) ∷ (1 ∷ 4 ∷ []) ∷ [] }
at_row_one = refl

without_three : child_without four ≡ record { heights = 2 ∷ 3 ∷ 3 ∷ []; ordered = 3; next = 1; stacks = [] ∷ (2 ∷ []) ∷ (1 ∷ 4 ∷ []) ∷ [] }
without_three = refl

-- either bound is 2
bounds_of_four : (blocking four ≡ 2) × (look_ahead four ≡ 2)
bounds_of_four = (refl, refl)

-- thinned out it is 3: on row 1 the container that stays counts twice, and without 3 there are two counted and one to come
abbrev thin_four : Tree
thin_four = Thin (one_and CutL (one_and CutB no_trees))

fits_four : FitsThinned four thin_four
fits_four = (omega arith, (tt, tt))

shown_by_four : shown four thin_four ≡ 3
shown_by_four = refl

cuts_of_four : map cut_value (thinned_cuts 0 four thin_four) ≡ 3 ∷ 3 ∷ []
cuts_of_four = refl

-- without the last tree it does not fit, nor with one more, nor with a branch below
no_last : FitsThinned four (Thin (one_and CutL no_trees)) → ⊥
no_last f = (f.1).1

one_more : FitsThinned four (Thin (one_and CutL (one_and CutL (one_and CutB no_trees)))) → ⊥
one_more f = (f.1).1

branch_below : FitsThinned four (Thin (one_and (Branch no_trees) (one_and CutB no_trees))) → ⊥
branch_below f = (f.1).0

-- 1 leaves, 2 and 3 are missing and passed over, 4 leaves, and 6 is in the way of 5
abbrev gaps : Position
gaps = record { heights = 3 ∷ 3 ∷ []; ordered = 6; next = 1; stacks = (5 ∷ 6 ∷ 1 ∷ []) ∷ (4 ∷ []) ∷ [] }

over_gaps : settled_over gaps ≡ record { heights = 3 ∷ 3 ∷ []; ordered = 6; next = 5; stacks = (5 ∷ 6 ∷ []) ∷ [] ∷ [] }
over_gaps = refl

-- where all have left, a thinned branch would count two for nothing: so it fits at no such position
abbrev left_all : Position
left_all = record { heights = 2 ∷ 2 ∷ []; ordered = 1; next = 2; stacks = [] ∷ (2 ∷ []) ∷ [] }

for_nothing : shown left_all (Thin (one_and CutB no_trees)) ≡ 2
for_nothing = refl

fits_nowhere : FitsThinned left_all (Thin (one_and CutB no_trees)) → ⊥
fits_nowhere f = let le : 2 ≤ 1 = f.0 in omega arith

-- five that are to leave: 3 is in the way of 1, and 5 below it too. Well placed is 3 on the empty row 1 and above 4
abbrev five : Position
five = record { heights = 3 ∷ 3 ∷ 4 ∷ []; ordered = 5; next = 1; stacks = [] ∷ (4 ∷ []) ∷ (2 ∷ 1 ∷ 5 ∷ 3 ∷ []) ∷ [] }

good_rows_of_five : good_rows five ≡ 1 ∷ 2 ∷ []
good_rows_of_five = refl

-- on row 1 it would take the place of 5, which has to be relocated before 3 leaves, is well placed there and not above 3; above 4 it hinders nobody
misses_row_one : (hindered 5 3 [] [] (2 ∷ 1 ∷ 5 ∷ 3 ∷ []) ≡ 1) × (hindered 5 3 (4 ∷ []) [] (2 ∷ 1 ∷ 5 ∷ 3 ∷ []) ≡ 0)
misses_row_one = (refl, refl)

free_rows_of_five : free_rows five ≡ 2 ∷ []
free_rows_of_five = refl

-- so one tree suffices where a thinned branch has three
fits_five : FitsThinned five (Free CutL)
fits_five = (omega arith, tt)

shown_by_five : shown five (Free CutL) ≡ 2
shown_by_five = refl

cuts_of_five : map cut_value (thinned_cuts 0 five (Free CutL)) ≡ 2 ∷ []
cuts_of_five = refl

-- the container that stays in `four` would miss row 1: so 3 has no such row, and no branch with one tree fits there
none_of_four : free_rows four ≡ []
none_of_four = refl

free_nowhere : FitsThinned four (Free CutB) → ⊥
free_nowhere f = let some : 1 ≤ 0 = f.0 in omega arith

-- 3 and 2 are in the way of 1, and 2 may come to stand on 3: on a row of two tiers there is room for both, on a row of one tier there is not
room_for_two : (lower_blocking 3 3 [] (1 ∷ 2 ∷ 3 ∷ []) ≡ 1) × (hinders_nobody 3 3 ((1 ∷ 2 ∷ 3 ∷ []) ∷ [] ∷ []) 2 [] ≡ true) × (hinders_nobody 3 3 ((1 ∷ 2 ∷ 3 ∷ []) ∷ [] ∷ []) 1 [] ≡ false)
room_for_two = (refl, refl, refl)

-- one that stays never leaves again: that is no place
stays_there : hinders_nobody 1 2 ((1 ∷ 2 ∷ []) ∷ [] ∷ []) 2 [] ≡ false
stays_there = refl

-- 5 is missing. 7 makes way for 1 and then 8 for 2, for both the third row alone is open: by the other bounds two, by this chain three
abbrev chained : Position
chained = record { heights = 3 ∷ 3 ∷ 3 ∷ 2 ∷ []; ordered = 9; next = 1; stacks = (4 ∷ 1 ∷ 7 ∷ []) ∷ (2 ∷ 8 ∷ []) ∷ (9 ∷ []) ∷ (6 ∷ 3 ∷ []) ∷ [] }

abbrev at_turn : ℕ → ℕ → Blocker
at_turn c k = record { rank = c; turn = k }

family_of_chained : family_of chained ((7 ∷ 8 ∷ []) ∷ []) ≡ (at_turn 7 1 ∷ at_turn 8 2 ∷ []) ∷ []
family_of_chained = refl

fits_chained : FitsThinned chained (CutT ((7 ∷ 8 ∷ []) ∷ []))
fits_chained = record { chains = (chain, tt); apart = once }
  where
    chain : IsChain chained (at_turn 7 1 ∷ at_turn 8 2 ∷ [])
    chain = record {
      blockers = (
        blocker_made chained 0 (4 ∷ 1 ∷ 7 ∷ []) 7 1 refl refl refl (omega arith) (omega arith),
        (blocker_made chained 1 (2 ∷ 8 ∷ []) 8 2 refl refl refl (omega arith) (omega arith), tt),
      );
      linked = (record { leaves = omega arith; rising = omega arith; before = inl (omega arith) }, tt);
      in_time = (omega arith, tt);
    }

    one : (x : ℕ) → times x (8 ∷ []) ≤ 1
    one x = ⊎_elim
        (λ e. omega (arith, ap (λ y. times y (8 ∷ [])) e))
        (λ ne. omega (arith, times-cons x 8 [], other_is_zero x 8 (λ e. ne (sym e))))
        (cases_eq x 8)

    once : (x : ℕ) → occurrences x ((7 ∷ 8 ∷ []) ∷ []) ≤ 1
    once x = ⊎_elim
        (λ e. omega (arith, ap (λ y. occurrences y ((7 ∷ 8 ∷ []) ∷ [])) e))
        (λ ne. omega (arith, occurrences-cons x (7 ∷ 8 ∷ []) [], times-cons x 7 (8 ∷ []), times-cons x 8 [], other_is_zero x 7 (λ e. ne (sym e)), one x))
        (cases_eq x 7)

bounds_of_chained : (blocking chained ≡ 2) × (look_ahead chained ≡ 2) × (shown chained (CutT ((7 ∷ 8 ∷ []) ∷ [])) ≡ 3)
bounds_of_chained = (refl, refl, refl)

cuts_of_chained : map cut_value (thinned_cuts 2 chained (CutT ((7 ∷ 8 ∷ []) ∷ []))) ≡ 5 ∷ []
cuts_of_chained = refl

-- 4 does not block; 5 is missing; 8 comes up after 7; and none stands in two places of a family
four_stays : FitsThinned chained (CutT ((4 ∷ []) ∷ [])) → ⊥
four_stays f = let c : IsChain chained (at_turn 4 10 ∷ []) = f.chains.0 in let b : IsBlocker chained (at_turn 4 10) = c.blockers.0 in let le : 10 ≤ 9 = b.is_ordered in omega arith

five_missing : FitsThinned chained (CutT ((5 ∷ []) ∷ [])) → ⊥
five_missing f = let c : IsChain chained (at_turn 5 10 ∷ []) = f.chains.0 in let b : IsBlocker chained (at_turn 5 10) = c.blockers.0 in let le : 10 ≤ 9 = b.is_ordered in omega arith

eight_first : FitsThinned chained (CutT ((8 ∷ 7 ∷ []) ∷ [])) → ⊥
eight_first f = let c : IsChain chained (at_turn 8 2 ∷ at_turn 7 1 ∷ []) = f.chains.0 in let l : MayFollow chained (at_turn 8 2) (at_turn 7 1) = c.linked.0 in let lt : 8 < 7 = l.rising in omega arith

seven_twice : FitsThinned chained (CutT ((7 ∷ []) ∷ (7 ∷ []) ∷ [])) → ⊥
seven_twice f = let le : 2 ≤ 1 = f.apart 7 in omega arith
