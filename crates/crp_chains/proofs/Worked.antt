-- Families at worked positions, by their definitions, and what goes wrong without each condition on a chain.
use Rattle.std.proofs.Common.{◌≡◌, ◌≤◌, ℕ, List, [], ◌∷◌, Option, Some, None, refl, sym, ap, arith, inl, inr, ⊎_elim}
use Rattle.std.proofs.lemmas.Bool.{cases_eq}
use Rattle.crp_plan.specs.Rows.{occurrences}
use Rattle.crp_plan.specs.Bay.{Problem, Position, start}
use Rattle.crp_plan.proofs.Lists.{times, times-cons, other_is_zero, occurrences-cons}
use Rattle.crp_bay.specs.Positions.{at}
use Rattle.crp_bounds.specs.Bounds.{blocking, look_ahead}
use Rattle.crp_chains.specs.declared.blocker.Blocker.{Blocker}
use Rattle.crp_chains.specs.Chains.{IsBlocker, MayFollow, AreInTime, IsChain, IsFamily, standing_at, open_rows, gain}
use Rattle.crp_chains.proofs.Blockers.{blocker_made}

abbrev blocker : ℕ → ℕ → Blocker
blocker c k = record { rank = c; turn = k }

-- two of a chain
abbrev pair : Blocker → Blocker → List Blocker
pair a b = a ∷ b ∷ []

-- whose turn it is at the end of a path
abbrev next_at : Problem → List ℕ → ℕ
next_at p path = after (at p path)
  where
    after : Option Position → ℕ
    after None = 0
    after (Some s) = s.next

-- Four rows of three tiers. 7 makes way for 1 and then 8 for 2; for both only the third row is open, where 9 stands: once 7 is there, 8 has
-- to block again
abbrev four_rows : Problem
four_rows = record { heights = 3 ∷ 3 ∷ 3 ∷ 3 ∷ []; ordered = 9; stacks = (4 ∷ 1 ∷ 7 ∷ []) ∷ (2 ∷ 8 ∷ []) ∷ (9 ∷ []) ∷ (6 ∷ 5 ∷ 3 ∷ []) ∷ [] }

seven : IsBlocker (start four_rows) (blocker 7 1)
seven = blocker_made (start four_rows) 0 (4 ∷ 1 ∷ 7 ∷ []) 7 1 refl refl refl (omega arith) (omega arith)

eight : IsBlocker (start four_rows) (blocker 8 2)
eight = blocker_made (start four_rows) 1 (2 ∷ 8 ∷ []) 8 2 refl refl refl (omega arith) (omega arith)

-- when the turn of 2 comes, 4 alone is left of the first row
left_of_first : standing_at 2 (4 ∷ 1 ∷ 7 ∷ []) ≡ 4 ∷ []
left_of_first = refl

seven_eight : IsChain (start four_rows) (pair (blocker 7 1) (blocker 8 2))
seven_eight = record {
  blockers = (seven, (eight, tt));
  linked = (record { leaves = omega arith; rising = omega arith; before = inl (omega arith) }, tt);
  in_time = (omega arith, tt);
}

family : IsFamily (start four_rows) (pair (blocker 7 1) (blocker 8 2) ∷ [])
family = record { chains = (seven_eight, tt); apart = once }
  where
    one : (x : ℕ) → times x (8 ∷ []) ≤ 1
    one x = ⊎_elim
        (λ e. omega (arith, ap (λ y. times y (8 ∷ [])) e))
        (λ ne. omega (arith, times-cons x 8 [], other_is_zero x 8 (λ e. ne (sym e))))
        (cases_eq x 8)

    once : (x : ℕ) → occurrences x ((7 ∷ 8 ∷ []) ∷ []) ≤ 1
    once x = ⊎_elim
        (λ e. omega (arith, ap (λ y. occurrences y ((7 ∷ 8 ∷ []) ∷ [])) e))
        (λ ne. omega (arith, occurrences-cons x (7 ∷ 8 ∷ []) [], times-cons x 7 (8 ∷ []), times-cons x 8 [], other_is_zero x 7 (λ e. ne (sym e)), one x))
        (cases_eq x 7)

-- neither bound before sees it
bounds_before : (blocking (start four_rows) ≡ 2) × (look_ahead (start four_rows) ≡ 2)
bounds_before = (refl, refl)

one_row_open : open_rows (start four_rows) (pair (blocker 7 1) (blocker 8 2)) ≡ 1
one_row_open = refl

family_gains : gain (start four_rows) (pair (blocker 7 1) (blocker 8 2) ∷ []) ≡ 1
family_gains = refl

-- and three relocations do
three_do : next_at four_rows (3 ∷ 3 ∷ 1 ∷ []) ≡ 10
three_do = refl

-- where the third row has one tier no row is open, and each blocks again
no_row_open : gain (start (record four_rows { heights = 3 ∷ 3 ∷ 1 ∷ 3 ∷ [] })) (pair (blocker 7 1) (blocker 8 2) ∷ []) ≡ 2
no_row_open = refl

-- Two that stay. 5 and 6 both go onto the empty row and block no more: two relocations do, where a chain of them would gain one
abbrev both_stay : Problem
both_stay = record { heights = 3 ∷ 3 ∷ 3 ∷ 1 ∷ []; ordered = 3; stacks = (3 ∷ 1 ∷ 5 ∷ []) ∷ (2 ∷ 6 ∷ []) ∷ [] ∷ (4 ∷ []) ∷ [] }

stay_would_gain : (blocking (start both_stay) ≡ 2) × (gain (start both_stay) (pair (blocker 5 1) (blocker 6 2) ∷ []) ≡ 1) × (next_at both_stay (3 ∷ 3 ∷ []) ≡ 4)
stay_would_gain = (refl, refl, refl)

-- they are none, since 5 is not to leave
stay_not_linked : MayFollow (start both_stay) (blocker 5 1) (blocker 6 2) → ⊥
stay_not_linked f = let le = f.leaves in omega arith

-- Too late. 3 has left when 7 comes up, which finds the row as it was: two relocations do, where a chain of them would gain one
abbrev too_late : Problem
too_late = record { heights = 5 ∷ 2 ∷ 2 ∷ []; ordered = 8; stacks = (6 ∷ 4 ∷ 2 ∷ 1 ∷ 3 ∷ []) ∷ (5 ∷ 7 ∷ []) ∷ (8 ∷ []) ∷ [] }

late_would_gain : (blocking (start too_late) ≡ 2) × (gain (start too_late) (pair (blocker 3 1) (blocker 7 5) ∷ []) ≡ 1) × (next_at too_late (3 ∷ 3 ∷ []) ≡ 9)
late_would_gain = (refl, refl, refl)

-- they are none, since the turn of 5 comes after 3
late_not_in_time : AreInTime (pair (blocker 3 1) (blocker 7 5)) → ⊥
late_not_in_time t = let lt = t.0 in omega arith

-- Equal turns. 6 stands above 5, so it comes up first, and 5 goes onto it: two relocations do, where a chain of 5 and 6 would gain one
abbrev above_first : Problem
above_first = record { heights = 3 ∷ 3 ∷ 3 ∷ []; ordered = 7; stacks = (1 ∷ 5 ∷ 6 ∷ []) ∷ (7 ∷ []) ∷ (4 ∷ 3 ∷ 2 ∷ []) ∷ [] }

above_would_gain : (blocking (start above_first) ≡ 2) × (gain (start above_first) (pair (blocker 5 1) (blocker 6 1) ∷ []) ≡ 1) × (next_at above_first (2 ∷ 2 ∷ []) ≡ 8)
above_would_gain = (refl, refl, refl)

-- the other way round they are no chain, since ranks rise; where 5 stands above 6 they are one, and one row is not enough
abbrev below_first : Problem
below_first = record above_first { stacks = (1 ∷ 6 ∷ 5 ∷ []) ∷ (7 ∷ []) ∷ (4 ∷ 3 ∷ 2 ∷ []) ∷ [] }

five_six : IsChain (start below_first) (pair (blocker 5 1) (blocker 6 1))
five_six = record {
  blockers = (
    blocker_made (start below_first) 0 (1 ∷ 6 ∷ 5 ∷ []) 5 1 refl refl refl (omega arith) (omega arith),
    (blocker_made (start below_first) 0 (1 ∷ 6 ∷ 5 ∷ []) 6 1 refl refl refl (omega arith) (omega arith), tt),
  );
  linked = (
    record {
      leaves = omega arith;
      rising = omega arith;
      before = inr (refl, record { beneath = 1 ∷ 6 ∷ []; stands = record { row = 0; over = []; stands = refl }; held = refl });
    },
    tt,
  );
  in_time = (omega arith, tt);
}

five_six_gain : (blocking (start below_first) ≡ 2) × (look_ahead (start below_first) ≡ 2) × (gain (start below_first) (pair (blocker 5 1) (blocker 6 1) ∷ []) ≡ 1)
five_six_gain = (refl, refl, refl)
