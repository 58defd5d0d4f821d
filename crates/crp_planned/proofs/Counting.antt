-- How many containers leave the bays: no more than are ordered.
use Rattle.std.proofs.Common.{◌≡◌, ◌≤◌, ◌+◌, ℕ, Bool, true, false, cond, List, [], ◌∷◌, ◌++◌, length, refl, arith}
use Rattle.std.specs.Prelude.{◌||◌, filter}
use Rattle.std.specs.List.{list_any}
use Rattle.std.proofs.lemmas.Bool.{false≢true}
use Rattle.crp_yard.specs.Inventory.{StackedBay, is_among, times, containers_of}
use Rattle.crp_yard.proofs.ListingSteps.{times-append}
use Rattle.crp_order.specs.BayProblems.{standing, leaving, is_called}
use Rattle.crp_order.proofs.Once.{one_if, some_times}

-- how many leave these bays
abbrev pub leave_all : List (List ℕ) → List StackedBay → ℕ
leave_all sequence [] = 0
leave_all sequence (bay ∷ bays) = length (leaving sequence bay.1) + leave_all sequence bays

-- in how many bays a container stands
abbrev in_bays : List ℕ → List StackedBay → ℕ
in_bays c [] = 0
in_bays c (bay ∷ bays) = one_if (is_among (standing bay.1) c) + in_bays c bays

none_leave : (bays : List StackedBay) → leave_all [] bays ≡ 0
none_leave [] = refl
none_leave (bay ∷ bays) = omega (arith, none_leave bays)

one_longer : (c : List ℕ) (rest : List (List ℕ)) (t : Bool) → length (cond t (c ∷ rest) rest) ≡ one_if t + length rest
one_longer c rest true = omega arith
one_longer c rest false = omega arith

one_leaves : (c : List ℕ) (sequence : List (List ℕ)) (bays : List StackedBay) → leave_all (c ∷ sequence) bays ≡ in_bays c bays + leave_all sequence bays
one_leaves c sequence [] = refl
one_leaves c sequence (bay ∷ bays) =
    omega (arith, one_leaves c sequence bays, one_longer c (leaving sequence bay.1) (is_among (standing bay.1) c))

stands_in : (c : List ℕ) (bays : List StackedBay) → in_bays c bays ≤ times c (containers_of bays)
stands_in c [] = omega arith
stands_in c (bay ∷ bays) =
    omega (arith, stands_in c bays, by (is_among (standing bay.1) c) refl, times-append c (standing bay.1) (containers_of bays))
  where
    by : (t : Bool) → is_among (standing bay.1) c ≡ t → one_if t ≤ times c (standing bay.1)
    by true e = some_times c (standing bay.1) e
    by false e = omega arith

-- where each container stands in one place, each leaves one bay at most
pub few_leave : (sequence : List (List ℕ)) (bays : List StackedBay) → ((c : List ℕ) → times c (containers_of bays) ≤ 1) → leave_all sequence bays ≤ length sequence
few_leave [] bays once = omega (arith, none_leave bays)
few_leave (c ∷ sequence) bays once = omega (arith, one_leaves c sequence bays, stands_in c bays, once c, few_leave sequence bays once)

pub fewer_stand : (test : StackedBay → Bool) (bays : List StackedBay) (c : List ℕ) → times c (containers_of (filter test bays)) ≤ times c (containers_of bays)
fewer_stand test [] c = omega arith
fewer_stand test (bay ∷ bays) c = by (test bay) (fewer_stand test bays c)
  where
    by : (t : Bool) → times c (containers_of (filter test bays)) ≤ times c (containers_of bays)
        → times c (containers_of (cond t (bay ∷ filter test bays) (filter test bays))) ≤ times c (standing bay.1 ++ containers_of bays)
    by true rest = omega (arith, rest, times-append c (standing bay.1) (containers_of (filter test bays)), times-append c (standing bay.1) (containers_of bays))
    by false rest = omega (arith, rest, times-append c (standing bay.1) (containers_of bays))

-- some container leaves a bay that is called
pub some_leave : (sequence : List (List ℕ)) (bay : StackedBay) → is_called sequence bay ≡ true → 1 ≤ length (leaving sequence bay.1)
some_leave [] bay e = absurd (false≢true e)
some_leave (c ∷ sequence) bay e = by (is_among (standing bay.1) c) e (some_leave sequence bay)
  where
    by : (t : Bool) → (t || list_any (is_among (standing bay.1)) sequence) ≡ true → (is_called sequence bay ≡ true → 1 ≤ length (leaving sequence bay.1))
        → 1 ≤ length (cond t (c ∷ leaving sequence bay.1) (leaving sequence bay.1))
    by true h later = omega arith
    by false h later = later h
