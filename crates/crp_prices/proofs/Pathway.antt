-- The bound by prices along paths.
use Rattle.std.proofs.Common.{◌≡◌, ◌≢◌, ℕ, ◌+◌, ◌-◌, ◌*◌, ◌≤◌, List, [], ◌∷◌, ◌++◌, length, sum, sym, ap, ◌∙◌, subst, arith, length-append}
use Rattle.std.proofs.Math.Nat.{mul-add}
use Rattle.crp_plan.specs.declared.moves.Move.{Move}
use Rattle.crp_plan.specs.declared.moves.Move.TheVariants.{Shift, Take}
use Rattle.crp_plan.specs.Bay.{Problem, IsProblem, IsAt, IsPlan, start, path_of, Position, IsSound, IsTaken, IsShifted, Runs, relocations}
use Rattle.crp_plan.proofs.Determined.{no_shift_beside_take}
use Rattle.crp_plan.proofs.Sound.{sound_taken, sound_shifted, sound_runs, sound_start}
use Rattle.crp_plan.proofs.Paths.{last_shift, same_at}
use Rattle.crp_plan.proofs.Covered.{from_at, at_sound, relocations-path}
use Rattle.crp_bounds.specs.Bounds.{blocking}
use Rattle.crp_prices.specs.Prices.{earns, earns_on, IsMost, AreMost, firsts, price_bound}
use Rattle.crp_prices.proofs.Clear.{clear}
use Rattle.crp_prices.proofs.Falling.{shift_earns, onto_stands, most_left, most_other, most_onto}
use Rattle.crp_prices.proofs.Bounding.{Keeps, keeps_shifted, keeps_all, keeps_taken, taken_same, units_bound, rounded_bound}

-- the rest of a plan has at least the bound
pub units_floor : (price : ℕ → ℕ → ℕ) (unit : ℕ) (p : Problem) (path more : List ℕ) (s : Position) (mosts : List ℕ) (moves : List Move) → IsProblem p → IsAt p path s →
    AreMost price unit s mosts → IsPlan p moves → path_of moves ≡ path ++ more → unit * (length path + blocking s) + firsts price s ≤ unit * relocations moves + sum mosts
units_floor price unit p path more s mosts moves is a m plan e =
    let r = from_at p path more s moves is a plan e in
    let sizes : relocations moves ≡ length path + relocations r.0 =
    relocations-path moves ∙ ap length e ∙ length-append path more ∙ ap (λ n. length path + n) (sym (relocations-path r.0 ∙ ap length r.2)) in
    omega (
      arith,
      units_bound price unit s mosts r.0 (at_sound p path s is a) m (plan.0, r.1, plan.2),
      ap (λ n. unit * n) sizes,
      mul-add unit (length path) (relocations r.0),
      mul-add unit (length path) (blocking s),
    )

pub rounded_floor : (price : ℕ → ℕ → ℕ) (unit : ℕ) (p : Problem) (path more : List ℕ) (s : Position) (mosts : List ℕ) (moves : List Move) → 1 ≤ unit → IsProblem p → IsAt p path s →
    AreMost price unit s mosts → IsPlan p moves → path_of moves ≡ path ++ more → length path + price_bound price unit s mosts ≤ relocations moves
rounded_floor price unit p path more s mosts moves some is a m plan e =
    let r = from_at p path more s moves is a plan e in
    let sizes : relocations moves ≡ length path + relocations r.0 =
    relocations-path moves ∙ ap length e ∙ length-append path more ∙ ap (λ n. length path + n) (sym (relocations-path r.0 ∙ ap length r.2)) in
    omega (arith, sizes, rounded_bound price unit s mosts r.0 some (at_sound p path s is a) m (plan.0, r.1, plan.2))

-- what a row earns at most, after one move
pub row_taken : (price : ℕ → ℕ → ℕ) (unit : ℕ) (s : Position) (row : ℕ) (t : Position) (i most : ℕ) → IsSound s → IsTaken s row t → IsMost price unit s i most → IsMost price unit t i most
row_taken price unit s row t i most sound k is = subst (λ v. IsMost price unit v i most) (sym k.after) (most_left price unit s row t (clear s sound) k i most is)

pub row_other : (price : ℕ → ℕ → ℕ) (unit : ℕ) (s : Position) (from to : ℕ) (t : Position) (i most : ℕ) → IsSound s → IsShifted s from to t → i ≢ to - 1 → IsMost price unit s i most → IsMost price unit t i most
row_other price unit s from to t i most sound k ne is = subst (λ v. IsMost price unit v i most) (sym k.after) (most_other price unit s from to t (clear s sound) k i most ne is)

pub row_onto : (price : ℕ → ℕ → ℕ) (unit : ℕ) (s : Position) (from to : ℕ) (t : Position) (most : ℕ) → IsSound s → (k : IsShifted s from to t) → IsMost price unit s (to - 1) most →
    IsMost price unit t (to - 1) (most - earns price unit s.ordered k.onto (record { rank = k.moved; turn = s.next }))
row_onto price unit s from to t most sound k is =
    let all : earns price unit s.ordered k.onto (record { rank = k.moved; turn = s.next }) ≡ shift_earns price unit s from to t k =
    ap (λ w. earns_on price unit s.ordered w (record { rank = k.moved; turn = s.next })) (onto_stands s from to t (clear s sound) k) in
    subst (λ n. IsMost price unit t (to - 1) (most - n)) (sym all)
    (subst (λ v. IsMost price unit v (to - 1) (most - shift_earns price unit s from to t k)) (sym k.after) (most_onto price unit s from to t (clear s sound) k most is))

-- takes keep the bound
takes_keep : (price : ℕ → ℕ → ℕ) (unit : ℕ) (s : Position) (mosts : List ℕ) (moves : List Move) (t : Position) → IsSound s → AreMost price unit s mosts → Runs s moves t → path_of moves ≡ [] →
    Keeps price unit 0 s mosts t
takes_keep price unit s mosts [] t sound a r e = subst (Keeps price unit 0 s mosts) r (keeps_all price unit s mosts a)
takes_keep price unit s mosts (Shift from to ∷ moves) t sound a r e = cc
takes_keep price unit s mosts (Take row ∷ moves) t sound a r e =
    let one = taken_same price unit s mosts row r.0 sound a r.1 in
    keeps_taken price unit 0 s mosts r.0 t (one.1, one.2) (takes_keep price unit r.0 mosts moves t (sound_taken s row r.0 sound r.1) one.0 r.2 e)

-- along a legal row it falls by one at most
pub keeps_path : (price : ℕ → ℕ → ℕ) (unit : ℕ) (p : Problem) (path : List ℕ) (row : ℕ) (s t : Position) (mosts : List ℕ) → IsProblem p → IsAt p path s → IsAt p (path ++ row ∷ []) t →
    AreMost price unit s mosts → Keeps price unit 1 s mosts t
keeps_path price unit p path row s t mosts is a b m =
    let l = last_shift (start p) t b.moves path row b.runs b.by_path in
    let sound : IsSound l.before = sound_runs (start p) l.first l.before (sound_start p is) l.to_it in
    let k : IsShifted l.before l.from row l.after = l.shift in
    let here : s ≡ l.before = same_at p path s l.before is a (record {
      moves = l.first;
      runs = l.to_it;
      by_path = l.by_path;
      no_take = λ r v n. no_shift_beside_take l.before r l.from row v l.after sound n k;
    }) in
    let one : Keeps price unit 1 l.before mosts l.after = keeps_shifted price unit l.before mosts l.from row l.after sound (subst (λ v. AreMost price unit v mosts) here m) k in
    let rest : Keeps price unit 0 l.after one.after t = takes_keep price unit l.after one.after l.takes t (sound_shifted l.before l.from row l.after sound k) one.are l.from_it l.all_takes in
    subst (λ v. Keeps price unit 1 v mosts t) (sym here) (record {
      after = rest.after;
      are = rest.are;
      units = omega (arith, one.units, rest.units);
      rounded = λ some. omega (arith, one.rounded some, rest.rounded some);
    })

-- what a row earns at most stays so over takes
row_takes : (price : ℕ → ℕ → ℕ) (unit : ℕ) (s : Position) (i most : ℕ) (moves : List Move) (t : Position) → IsSound s → IsMost price unit s i most → Runs s moves t → path_of moves ≡ [] → IsMost price unit t i most
row_takes price unit s i most [] t sound is r e = subst (λ v. IsMost price unit v i most) r is
row_takes price unit s i most (Shift from to ∷ moves) t sound is r e = cc
row_takes price unit s i most (Take row ∷ moves) t sound is r e =
    row_takes price unit r.0 i most moves t (sound_taken s row r.0 sound r.1) (row_taken price unit s row r.0 i most sound r.1 is) r.2 e

-- and along a legal row, but for the row that this is
pub row_path : (price : ℕ → ℕ → ℕ) (unit : ℕ) (p : Problem) (path : List ℕ) (row : ℕ) (s t : Position) (i most : ℕ) → IsProblem p → IsAt p path s → IsAt p (path ++ row ∷ []) t → i ≢ row - 1 →
    IsMost price unit s i most → IsMost price unit t i most
row_path price unit p path row s t i most is a b ne m =
    let l = last_shift (start p) t b.moves path row b.runs b.by_path in
    let sound : IsSound l.before = sound_runs (start p) l.first l.before (sound_start p is) l.to_it in
    let k : IsShifted l.before l.from row l.after = l.shift in
    let here : s ≡ l.before = same_at p path s l.before is a (record {
      moves = l.first;
      runs = l.to_it;
      by_path = l.by_path;
      no_take = λ r v n. no_shift_beside_take l.before r l.from row v l.after sound n k;
    }) in
    row_takes price unit l.after i most l.takes t (sound_shifted l.before l.from row l.after sound k)
    (row_other price unit l.before l.from row l.after i most sound k ne (subst (λ v. IsMost price unit v i most) here m)) l.from_it l.all_takes
