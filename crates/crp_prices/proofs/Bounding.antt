-- The bound by prices under moves, over whole runs, and along paths.
use Rattle.std.proofs.Common.{◌≡◌, ℕ, suc, ◌+◌, ◌-◌, ◌*◌, ◌≤◌, true, false, List, [], ◌∷◌, ◌++◌, sum, refl, sym, ap, ◌∙◌, subst, ⊎_elim, arith}
use Rattle.std.specs.Int.{div_ceil}
use Rattle.std.proofs.Math.Nat.{mul-suc, mul-zero, mul-add}
use Rattle.std.proofs.lemmas.Bool.{cases_Bool, false_from_ne_true}
use Rattle.crp_plan.specs.declared.moves.Move.{Move}
use Rattle.crp_plan.specs.declared.moves.Move.TheVariants.{Shift, Take}
use Rattle.crp_plan.specs.Rows.{holds}
use Rattle.crp_plan.specs.Bay.{Position, IsSound, IsTaken, IsShifted, Runs, IsFinished, Completes, relocations}
use Rattle.crp_plan.proofs.Lists.{one_if, times_held}
use Rattle.crp_plan.proofs.Determined.{same_row, times_top}
use Rattle.crp_plan.proofs.Sound.{apart, sound_taken, sound_shifted, sound_runs}
use Rattle.crp_bounds.specs.Bounds.{holds_lower, blocking}
use Rattle.crp_bounds.proofs.Blocked.{blocking_taken, blocking_shifted}
use Rattle.crp_bounds.proofs.Bounding.{blocking_end, blocking_bound}
use Rattle.crp_prices.specs.Prices.{least_of, AreMost, firsts, price_bound}
use Rattle.crp_prices.proofs.Clear.{clear}
use Rattle.crp_prices.proofs.Playing.{bad_place, good_place}
use Rattle.crp_prices.proofs.Jobs.{put}
use Rattle.crp_prices.proofs.Due.{due, due_lower, due_none, firsts_taken, firsts_shifted, firsts_none}
use Rattle.crp_prices.proofs.Falling.{shift_earns, most_taken, Lowered, most_shifted}
use Rattle.crp_prices.proofs.Rounded.{ceil_le, ceil_mono, ceil_more}

-- some numbers of t keep the bound, but for n relocations: in units, and rounded
pub record Keeps (price : ℕ → ℕ → ℕ) (unit n : ℕ) (s : Position) (mosts : List ℕ) (t : Position) : Type 0 where
  pub after : List ℕ
  pub are : AreMost price unit t after
  pub units : unit * blocking s + firsts price s + sum after ≤ unit * n + (unit * blocking t + firsts price t) + sum mosts
  pub rounded : 1 ≤ unit → price_bound price unit s mosts ≤ n + price_bound price unit t after

-- what is moved did not stand where it goes
moved_elsewhere : (s : Position) (from to : ℕ) (t : Position) → IsSound s → (k : IsShifted s from to t) → holds k.moved k.onto ≡ false
moved_elsewhere s from to t sound k = false_from_ne_true (holds k.moved k.onto) (λ held.
    apart from to k.from_counts k.to_counts k.another
    (same_row k.moved s.stacks (to - 1) (from - 1) k.onto (k.rest ++ k.moved ∷ []) (sound.once k.moved) k.target k.stack (times_held k.moved k.onto held) (times_top k.moved k.rest)))

keeps_put : (price : ℕ → ℕ → ℕ) (unit : ℕ) (s : Position) (mosts : List ℕ) (from to : ℕ) (t : Position) → IsSound s → AreMost price unit s mosts → (k : IsShifted s from to t) →
    Keeps price unit 1 s mosts (put s from to t k)
keeps_put price unit s mosts from to t sound a k = ⊎_elim bad well (cases_Bool (holds_lower s.ordered k.moved k.onto))
  where
    u : Position
    u = put s from to t k

    l : Lowered price unit (put s from to t k) mosts (shift_earns price unit s from to t k)
    l = most_shifted price unit s from to t (clear s sound) k mosts a

    blocks : blocking (put s from to t k) + 1 ≡ blocking s + one_if (holds_lower s.ordered k.moved k.onto)
    blocks = ap (λ x. x + 1) (sym (ap blocking k.after)) ∙ blocking_shifted s from to t sound k

    pays : firsts price (put s from to t k) + price k.moved s.next ≡ firsts price s + due price s.ordered k.moved k.onto
    pays = firsts_shifted price s from to t (clear s sound) k

    bad : holds_lower s.ordered k.moved k.onto ≡ true → Keeps price unit 1 s mosts (put s from to t k)
    bad low =
        let again : ℕ = price k.moved (least_of s.ordered k.onto) in
        let earns : shift_earns price unit s from to t k ≡ price k.moved s.next - (unit + again) = rw (bad_place s.ordered k.moved k.onto low) refl in
        let same : blocking (put s from to t k) ≡ blocking s = omega (arith, blocks, ap one_if low) in
        let falls : firsts price s + sum l.after ≤ unit + firsts price (put s from to t k) + sum mosts =
        omega (arith, pays, due_lower price s.ordered k.moved k.onto low, earns, l.less) in
        record {
          after = l.after;
          are = l.are;
          units = omega (arith, falls, ap (λ b. unit * b) same, mul-suc unit 0, mul-zero unit);
          rounded = λ some. omega (arith, same, ceil_more (firsts price s - sum mosts) (firsts price (put s from to t k) - sum l.after) unit some (omega arith));
        }

    well : holds_lower s.ordered k.moved k.onto ≡ false → Keeps price unit 1 s mosts (put s from to t k)
    well none =
        let earns : shift_earns price unit s from to t k ≡ price k.moved s.next = rw (good_place s.ordered k.moved k.onto (moved_elsewhere s from to t sound k) none) refl in
        let more : blocking s ≡ suc (blocking (put s from to t k)) = omega (arith, blocks, ap one_if none) in
        let falls : firsts price s + sum l.after ≤ firsts price (put s from to t k) + sum mosts =
        omega (arith, pays, due_none price s.ordered k.moved k.onto none, earns, l.less) in
        record {
          after = l.after;
          are = l.are;
          units = omega (arith, falls, ap (λ b. unit * b) more, mul-suc unit (blocking (put s from to t k)), mul-suc unit 0, mul-zero unit);
          rounded = λ some. omega (arith, more, ceil_mono (firsts price s - sum mosts) (firsts price (put s from to t k) - sum l.after) unit some (omega arith));
        }

-- a shift takes one relocation at most off the bound
pub keeps_shifted : (price : ℕ → ℕ → ℕ) (unit : ℕ) (s : Position) (mosts : List ℕ) (from to : ℕ) (t : Position) → IsSound s → AreMost price unit s mosts → IsShifted s from to t →
    Keeps price unit 1 s mosts t
keeps_shifted price unit s mosts from to t sound a k = subst (Keeps price unit 1 s mosts) (sym k.after) (keeps_put price unit s mosts from to t sound a k)

-- a take leaves it, and these numbers too
pub taken_same : (price : ℕ → ℕ → ℕ) (unit : ℕ) (s : Position) (mosts : List ℕ) (row : ℕ) (t : Position) → IsSound s → AreMost price unit s mosts → IsTaken s row t →
    AreMost price unit t mosts × (blocking t ≡ blocking s) × (firsts price t ≡ firsts price s)
taken_same price unit s mosts row t sound a k =
    subst (λ v. AreMost price unit v mosts × (blocking v ≡ blocking s) × (firsts price v ≡ firsts price s)) (sym k.after)
    (most_taken price unit s row t (clear s sound) k mosts a, sym (ap blocking k.after) ∙ blocking_taken s row t sound k, firsts_taken price s row t (clear s sound) k)

-- nothing changes where nothing moves
pub keeps_all : (price : ℕ → ℕ → ℕ) (unit : ℕ) (s : Position) (mosts : List ℕ) → AreMost price unit s mosts → Keeps price unit 0 s mosts s
keeps_all price unit s mosts a = record { after = mosts; are = a; units = omega arith; rounded = λ some. omega arith }

-- one after the other
keeps_both : (price : ℕ → ℕ → ℕ) (unit n : ℕ) (s : Position) (mosts : List ℕ) (t u : Position) → (one : Keeps price unit 1 s mosts t) → Keeps price unit n t one.after u →
    Keeps price unit (suc n) s mosts u
keeps_both price unit n s mosts t u one rest = record {
  after = rest.after;
  are = rest.are;
  units = omega (arith, one.units, rest.units, mul-suc unit n, mul-suc unit 0, mul-zero unit);
  rounded = λ some. omega (arith, one.rounded some, rest.rounded some);
}

pub keeps_taken : (price : ℕ → ℕ → ℕ) (unit n : ℕ) (s : Position) (mosts : List ℕ) (t u : Position) → (blocking t ≡ blocking s) × (firsts price t ≡ firsts price s) →
    Keeps price unit n t mosts u → Keeps price unit n s mosts u
keeps_taken price unit n s mosts t u e rest = record {
  after = rest.after;
  are = rest.are;
  units = omega (arith, rest.units, ap (λ b. unit * b) e.0, e.1);
  rounded = λ some. omega (arith, rest.rounded some, e.0, ap (λ x. div_ceil (x - sum mosts) unit) e.1);
}

-- over whole runs
pub keeps_runs : (price : ℕ → ℕ → ℕ) (unit : ℕ) (s : Position) (mosts : List ℕ) (moves : List Move) (t : Position) → IsSound s → AreMost price unit s mosts → Runs s moves t →
    Keeps price unit (relocations moves) s mosts t
keeps_runs price unit s mosts [] t sound a r = subst (Keeps price unit 0 s mosts) r (keeps_all price unit s mosts a)
keeps_runs price unit s mosts (Shift from to ∷ moves) t sound a r =
    let one : Keeps price unit 1 s mosts r.0 = keeps_shifted price unit s mosts from to r.0 sound a r.1 in
    keeps_both price unit (relocations moves) s mosts r.0 t one (keeps_runs price unit r.0 one.after moves t (sound_shifted s from to r.0 sound r.1) one.are r.2)
keeps_runs price unit s mosts (Take row ∷ moves) t sound a r =
    let one = taken_same price unit s mosts row r.0 sound a r.1 in
    keeps_taken price unit (relocations moves) s mosts r.0 t (one.1, one.2) (keeps_runs price unit r.0 mosts moves t (sound_taken s row r.0 sound r.1) one.0 r.2)

-- at the end nothing is due
firsts_end : (price : ℕ → ℕ → ℕ) (t : Position) → IsSound t → IsFinished t → firsts price t ≡ 0
firsts_end price t sound end = firsts_none price t.ordered t.stacks (λ d le. sound.gone d (omega arith))

-- the bound is below every run to the end
pub units_bound : (price : ℕ → ℕ → ℕ) (unit : ℕ) (s : Position) (mosts : List ℕ) (moves : List Move) → IsSound s → AreMost price unit s mosts → Completes s moves →
    unit * blocking s + firsts price s ≤ unit * relocations moves + sum mosts
units_bound price unit s mosts moves sound a c =
    let t : Position = c.0 in
    let end : IsFinished t = c.2 in
    let sound' : IsSound t = sound_runs s moves t sound c.1 in
    let k : Keeps price unit (relocations moves) s mosts t = keeps_runs price unit s mosts moves t sound a c.1 in
    omega (arith, k.units, ap (λ b. unit * b) (blocking_end t sound' end), mul-zero unit, firsts_end price t sound' end)

pub rounded_bound : (price : ℕ → ℕ → ℕ) (unit : ℕ) (s : Position) (mosts : List ℕ) (moves : List Move) → 1 ≤ unit → IsSound s → AreMost price unit s mosts → Completes s moves →
    price_bound price unit s mosts ≤ relocations moves
rounded_bound price unit s mosts moves some sound a c =
    let more : ℕ = relocations moves - blocking s in
    let blocks : blocking s ≤ relocations moves = blocking_bound s moves c.0 sound c.1 c.2 in
    let split : relocations moves ≡ blocking s + more = omega arith in
    let enough : firsts price s - sum mosts ≤ unit * more =
    omega (arith, units_bound price unit s mosts moves sound a c, ap (λ n. unit * n) split, mul-add unit (blocking s) more) in
    omega (arith, ceil_le (firsts price s - sum mosts) unit more some enough)
