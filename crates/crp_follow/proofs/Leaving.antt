-- When containers leave, as the columns of the table say it.
use Rattle.std.proofs.Common.{◌≡◌, ℕ, zero, suc, ◌+◌, ◌<◌, ◌≤◌, arith, Bool, true, false, nat_le, cond, List, [], ◌∷◌, Some, None, slice_get, refl, sym, ap}
use Rattle.std.specs.Str.{bytes_eq}
use Rattle.std.proofs.lemmas.Bool.{leb-true, leb-false}
use Rattle.std.proofs.lemmas.Option.{same_Some, none-some}
use Rattle.std.proofs.lemmas.Slice.Eq.{bytes_eq-Decides}
use Rattle.crp_said.specs.declared.moves.Place.{Place}
use Rattle.crp_said.specs.declared.moves.SaidMove.{SaidMove}
use Rattle.crp_said.specs.declared.moves.SaidMove.TheVariants.{Shift, Take}
use Rattle.crp_follow.specs.Table.{takes_from, leaves_at, next_to_leave}
use Rattle.crp_follow.specs.Kept.{IsTakenAt, IsNextToLeave}

-- the move so many behind the first, which has this step, takes the container
record IsTakenFrom (first : ℕ) (moves : List SaidMove) (step : ℕ) (container : List ℕ) : Type 0 where
  pub behind : ℕ
  pub step_is : step ≡ first + behind
  pub from : Place
  pub move : slice_get moves behind ≡ Some (Take from container)

at_step : (moves : List SaidMove) (step : ℕ) (c : List ℕ) → IsTakenFrom 1 moves step c → IsTakenAt moves step c
at_step moves step c t = let e : step ≡ 1 + t.behind = t.step_is in record { before = t.behind; step_is = omega arith; from = t.from; move = t.move }

from_step : (moves : List SaidMove) (step : ℕ) (c : List ℕ) → IsTakenAt moves step c → IsTakenFrom 1 moves step c
from_step moves step c t = let e : step ≡ suc t.before = t.step_is in record { behind = t.before; step_is = omega arith; from = t.from; move = t.move }

moved_on : (first : ℕ) (m : SaidMove) (moves : List SaidMove) (step : ℕ) (c : List ℕ) → IsTakenFrom (suc first) moves step c → IsTakenFrom first (m ∷ moves) step c
moved_on first m moves step c t = let e : step ≡ suc first + t.behind = t.step_is in record { behind = suc t.behind; step_is = omega arith; from = t.from; move = t.move }

-- the first move takes the container, or one behind it
data FirstOr (first : ℕ) (m : SaidMove) (moves : List SaidMove) (step : ℕ) (c : List ℕ) : Type 0 where
  Now : step ≡ first → (from : Place) → m ≡ Take from c → FirstOr first m moves step c
  Behind : IsTakenFrom (suc first) moves step c → FirstOr first m moves step c

first_or : (first : ℕ) (m : SaidMove) (moves : List SaidMove) (step : ℕ) (c : List ℕ) → IsTakenFrom first (m ∷ moves) step c → FirstOr first m moves step c
first_or first m moves step c t = go t.behind t.step_is t.move
  where
    go : (i : ℕ) → step ≡ first + i → slice_get (m ∷ moves) i ≡ Some (Take t.from c) → FirstOr first m moves step c
    go zero e at = Now (omega arith) t.from (same_Some m (Take t.from c) at)
    go (suc i) e at = Behind (record { behind = i; step_is = omega arith; from = t.from; move = at })

-- ---- the step at which a container leaves

leaves_from : (first : ℕ) (moves : List SaidMove) (c : List ℕ) (step : ℕ) → leaves_at (takes_from first moves) c ≡ Some step → IsTakenFrom first moves step c
leaves_from first [] c step e = absurd (none-some step e)
leaves_from first (Shift from to d ∷ moves) c step e = moved_on first (Shift from to d) moves step c (leaves_from (suc first) moves c step e)
leaves_from first (Take from d ∷ moves) c step e = go (bytes_eq d c) refl e (leaves_from (suc first) moves c step)
  where
    go : (t : Bool) → bytes_eq d c ≡ t → cond t (Some first) (leaves_at (takes_from (suc first) moves) c) ≡ Some step
        → (leaves_at (takes_from (suc first) moves) c ≡ Some step → IsTakenFrom (suc first) moves step c) → IsTakenFrom first (Take from d ∷ moves) step c
    go true h k rest =
        let same : d ≡ c = (bytes_eq-Decides d c).0 h in
        let at : first ≡ step = same_Some first step k in
        record { behind = 0; step_is = omega arith; from = from; move = ap (λ x. Some (Take from x)) same }
    go false h k rest = moved_on first (Take from d) moves step c (rest k)

stays_from : (first : ℕ) (moves : List SaidMove) (c : List ℕ) (step : ℕ) → leaves_at (takes_from first moves) c ≡ None → IsTakenFrom first moves step c → ⊥
stays_from first [] c step e t = none-some (Take t.from c) t.move
stays_from first (Shift from to d ∷ moves) c step e t = go (first_or first (Shift from to d) moves step c t) (stays_from (suc first) moves c step e)
  where
    go : FirstOr first (Shift from to d) moves step c → (IsTakenFrom (suc first) moves step c → ⊥) → ⊥
    go (Now k place is) rest = cc
    go (Behind b) rest = rest b
stays_from first (Take from d ∷ moves) c step e t = go (bytes_eq d c) refl e (first_or first (Take from d) moves step c t) (stays_from (suc first) moves c step)
  where
    go : (b : Bool) → bytes_eq d c ≡ b → cond b (Some first) (leaves_at (takes_from (suc first) moves) c) ≡ None → FirstOr first (Take from d) moves step c
        → (leaves_at (takes_from (suc first) moves) c ≡ None → IsTakenFrom (suc first) moves step c → ⊥) → ⊥
    go true h k or rest = none-some first (sym k)
    go false h k (Now at place is) rest = let same : d ≡ c = cc in let yes : bytes_eq d c ≡ true = (bytes_eq-Decides d c).1 same in cc
    go false h k (Behind b) rest = rest k b

pub leaves : (moves : List SaidMove) (c : List ℕ) (step : ℕ) → leaves_at (takes_from 1 moves) c ≡ Some step → IsTakenAt moves step c
leaves moves c step e = at_step moves step c (leaves_from 1 moves c step e)

pub stays : (moves : List SaidMove) (c : List ℕ) (step : ℕ) → leaves_at (takes_from 1 moves) c ≡ None → ¬ IsTakenAt moves step c
stays moves c step e t = stays_from 1 moves c step e (from_step moves step c t)

-- ---- for whom a move is made

record IsNextFrom (first : ℕ) (moves : List SaidMove) (step : ℕ) (container : List ℕ) : Type 0 where
  pub at : ℕ
  pub later : step ≤ at
  pub taken : IsTakenFrom first moves at container
  pub none_before : (k : ℕ) (other : List ℕ) → step ≤ k → k < at → IsTakenFrom first moves k other → ⊥

-- none leaves at the first step: at no step but those behind it
none_from : (first : ℕ) (moves : List SaidMove) (step : ℕ) (k : ℕ) (c : List ℕ) → next_to_leave (takes_from first moves) step ≡ None → step ≤ k → IsTakenFrom first moves k c → ⊥
none_from first [] step k c e low t = none-some (Take t.from c) t.move
none_from first (Shift from to d ∷ moves) step k c e low t = go (first_or first (Shift from to d) moves k c t) (none_from (suc first) moves step k c e low)
  where
    go : FirstOr first (Shift from to d) moves k c → (IsTakenFrom (suc first) moves k c → ⊥) → ⊥
    go (Now h place is) rest = cc
    go (Behind b) rest = rest b
none_from first (Take from d ∷ moves) step k c e low t = go (nat_le step first) refl e (first_or first (Take from d) moves k c t) (λ h. none_from (suc first) moves step k c h low)
  where
    go : (b : Bool) → nat_le step first ≡ b → cond b (Some d) (next_to_leave (takes_from (suc first) moves) step) ≡ None → FirstOr first (Take from d) moves k c
        → (next_to_leave (takes_from (suc first) moves) step ≡ None → IsTakenFrom (suc first) moves k c → ⊥) → ⊥
    go true h q or rest = none-some d (sym q)
    go false h q (Now at place is) rest = let high = leb-false step first h in omega arith
    go false h q (Behind b) rest = rest q b

none_shift : (first : ℕ) (from to : Place) (d : List ℕ) (moves : List SaidMove) (step : ℕ) (c : List ℕ) (n : IsNextFrom (suc first) moves step c) (k : ℕ) (other : List ℕ) → step ≤ k → k < n.at
    → FirstOr first (Shift from to d) moves k other → ⊥
none_shift first from to d moves step c n k other low below (Now h place is) = cc
none_shift first from to d moves step c n k other low below (Behind b) = n.none_before k other low below b

none_take : (first : ℕ) (from : Place) (d : List ℕ) (moves : List SaidMove) (step : ℕ) (c : List ℕ) (n : IsNextFrom (suc first) moves step c) → nat_le step first ≡ false → (k : ℕ) (other : List ℕ) → step ≤ k
    → k < n.at → FirstOr first (Take from d) moves k other → ⊥
none_take first from d moves step c n h k other low below (Now at place is) = let high = leb-false step first h in omega arith
none_take first from d moves step c n h k other low below (Behind b) = n.none_before k other low below b

next_from : (first : ℕ) (moves : List SaidMove) (step : ℕ) (c : List ℕ) → next_to_leave (takes_from first moves) step ≡ Some c → IsNextFrom first moves step c
next_from first [] step c e = absurd (none-some c e)
next_from first (Shift from to d ∷ moves) step c e =
    let n = next_from (suc first) moves step c e in
    record {
      at = n.at;
      later = n.later;
      taken = moved_on first (Shift from to d) moves n.at c n.taken;
      none_before = λ k other low below t. none_shift first from to d moves step c n k other low below (first_or first (Shift from to d) moves k other t);
    }
next_from first (Take from d ∷ moves) step c e = go (nat_le step first) refl e (next_from (suc first) moves step c)
  where
    early : (k : ℕ) (other : List ℕ) → step ≤ k → k < first → IsTakenFrom first (Take from d ∷ moves) k other → ⊥
    early k other low below t = let at : k ≡ first + t.behind = t.step_is in omega arith

    go : (b : Bool) → nat_le step first ≡ b → cond b (Some d) (next_to_leave (takes_from (suc first) moves) step) ≡ Some c
        → (next_to_leave (takes_from (suc first) moves) step ≡ Some c → IsNextFrom (suc first) moves step c) → IsNextFrom first (Take from d ∷ moves) step c
    go true h q rest = record {
      at = first;
      later = leb-true step first h;
      taken = record { behind = 0; step_is = omega arith; from = from; move = ap (λ x. Some (Take from x)) (same_Some d c q) };
      none_before = early;
    }
    go false h q rest =
        let n = rest q in
        record {
          at = n.at;
          later = n.later;
          taken = moved_on first (Take from d) moves n.at c n.taken;
          none_before = λ k other low below t. none_take first from d moves step c n h k other low below (first_or first (Take from d) moves k other t);
        }

pub next : (moves : List SaidMove) (step : ℕ) (c : List ℕ) → next_to_leave (takes_from 1 moves) step ≡ Some c → IsNextToLeave moves step c
next moves step c e =
    let n = next_from 1 moves step c e in
    record { at = n.at; later = n.later; taken = at_step moves n.at c n.taken; none_before = λ k other low below t. n.none_before k other low below (from_step moves k other t) }

pub none_next : (moves : List SaidMove) (step k : ℕ) (c : List ℕ) → next_to_leave (takes_from 1 moves) step ≡ None → step ≤ k → ¬ IsTakenAt moves k c
none_next moves step k c e low t = none_from 1 moves step k c e low (from_step moves k c t)
