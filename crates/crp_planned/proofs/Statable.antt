-- The moves that a crane makes in a bay of a yard list can be stated in lines.
use Rattle.std.proofs.Common.{◌≡◌, ◌≤◌, ℕ, zero, suc, List, [], ◌∷◌, ◌++◌, length, length-append, Some, slice_set, refl, sym, subst, arith}
use Rattle.std.specs.List.{AllByRecursion}
use Rattle.std.proofs.lemmas.List.Elements.{recursion_from_All}
use Rattle.std.proofs.lemmas.Option.{none-some, slice_get_within}
use Rattle.crp_plan.specs.Faults.{AreHeights}
use Rattle.crp_yard.specs.Inventory.{FitBay}
use Rattle.crp_sizes.proofs.Lists.{member}
use Rattle.crp_yard.proofs.NamedBays.{all_both}
use Rattle.crp_yard.proofs.YardSteps.{fit_rows, low_stacks}
use Rattle.crp_said.specs.declared.moves.SaidMove.{SaidMove}
use Rattle.crp_said.specs.declared.moves.SaidMove.TheVariants.{Shift, Take}
use Rattle.crp_said.specs.Spelled.{CanBeStated}
use Rattle.crp_follow.specs.Crane.{Stack, stack_of, with_stack, CanMake, Leads}
use Rattle.crp_planned.proofs.Listed.{IsName, AreNamed}

-- no row rises above its height
abbrev pub KeepsHeights : Type 0
KeepsHeights = (heights : List ℕ) (rows after : List Stack) (moves : List SaidMove) → Leads heights rows moves after → FitBay heights rows → FitBay heights after

-- rows of a bay of a yard list
pub record AreRows (heights : List ℕ) (rows : List Stack) : Type 0 where
  pub few : length heights ≤ 12
  pub tiers : AreHeights heights
  pub fit : FitBay heights rows
  pub named : AreNamed rows

-- ---- lists

all_put : {X : Type 0} (P : X → Type 0) (xs : List X) (i : ℕ) (x : X) → AllByRecursion P xs → P x → AllByRecursion P (slice_set xs i x)
all_put P [] i x all own = tt
all_put P (y ∷ xs) zero x all own = (own, all.1)
all_put P (y ∷ xs) (suc i) x all own = (all.0, all_put P xs i x all.1 own)

all_parts : {X : Type 0} (P : X → Type 0) (xs : List X) (x : X) → AllByRecursion P (xs ++ x ∷ []) → AllByRecursion P xs × P x
all_parts P [] x all = (tt, all.0)
all_parts P (y ∷ xs) x all = let more = all_parts P xs x all.1 in ((all.0, more.0), more.1)

-- ---- a row

row_low : (heights : List ℕ) (rows : List Stack) (row : ℕ) (stack : Stack) → AreRows heights rows → stack_of rows row ≡ Some stack → (row ≤ 12) × (length stack ≤ 8)
row_low heights rows zero stack are e = absurd (none-some stack e)
row_low heights rows (suc i) stack are e =
    let few = are.few in
    let within = slice_get_within rows i stack e in
    let many = fit_rows heights rows are.fit in
    let low = recursion_from_All (λ (s : Stack). length s ≤ 8) rows (low_stacks heights rows are.fit are.tiers) in
    (omega (arith, few, within, many), member (λ (s : Stack). length s ≤ 8) rows i stack low e)

row_named : (rows : List Stack) (row : ℕ) (stack : Stack) → AreNamed rows → stack_of rows row ≡ Some stack → AllByRecursion IsName stack
row_named rows zero stack named e = absurd (none-some stack e)
row_named rows (suc i) stack named e = member (AllByRecursion IsName) rows i stack named e

put_named : (rows : List Stack) (row : ℕ) (stack : Stack) → AreNamed rows → AllByRecursion IsName stack → AreNamed (with_stack rows row stack)
put_named rows zero stack named own = named
put_named rows (suc i) stack named own = all_put (AllByRecursion IsName) rows i stack named own

-- ---- a move

move_stated : (heights : List ℕ) (rows next : List Stack) (m : SaidMove) → AreRows heights rows → CanMake heights rows m next → CanBeStated m × AreNamed next
move_stated heights rows next (Take from c) are is =
    let highest = is.highest in
    let low = row_low heights rows from.row (is.beneath ++ c ∷ []) are highest.stack in
    let parts = all_parts IsName is.beneath c (row_named rows from.row (is.beneath ++ c ∷ []) are.named highest.stack) in
    let tier = highest.tier in
    let small = low.1 in
    let row = low.0 in (
      ((omega (arith, row), omega (arith, tier, small, length-append is.beneath (c ∷ []))), parts.1),
      subst AreNamed (sym is.after_is) (put_named rows from.row is.beneath are.named parts.0),
    )
move_stated heights rows next (Shift from to c) are is =
    let highest = is.highest in
    let free = is.free in
    let low = row_low heights rows from.row (is.beneath ++ c ∷ []) are highest.stack in
    let other = row_low heights rows to.row is.onto are free.stack in
    let parts = all_parts IsName is.beneath c (row_named rows from.row (is.beneath ++ c ∷ []) are.named highest.stack) in
    let onto = row_named rows to.row is.onto are.named free.stack in
    let tier = highest.tier in
    let up = free.tier in
    let small = low.1 in
    let row = low.0 in
    let few = other.1 in
    let there = other.0 in (
      (
        (omega (arith, row), omega (arith, tier, small, length-append is.beneath (c ∷ []))),
        (omega (arith, there), omega (arith, up, few)),
        parts.1,
      ),
      subst AreNamed (sym is.after_is)
          (put_named (with_stack rows from.row is.beneath) to.row (is.onto ++ c ∷ []) (put_named rows from.row is.beneath are.named parts.0) (all_both IsName is.onto (c ∷ []) onto (parts.1, tt))),
    )

pub moves_stated : KeepsHeights → (heights : List ℕ) (rows : List Stack) (moves : List SaidMove) (after : List Stack) → AreRows heights rows → Leads heights rows moves after
    → AllByRecursion CanBeStated moves
moves_stated keep heights rows [] after are e = tt
moves_stated keep heights rows (m ∷ moves) after are (next, made, leads) =
    let own = move_stated heights rows next m are made in
    let fit = keep heights rows next (m ∷ []) (next, made, refl) are.fit in
    (own.0, moves_stated keep heights next moves after (record { few = are.few; tiers = are.tiers; fit = fit; named = own.1 }) leads)
