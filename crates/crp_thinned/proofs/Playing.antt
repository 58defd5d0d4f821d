-- Plays in thinned positions: the blocker goes to a row where it is well placed, or is lifted out, until nothing is left to leave. A plan of the real
-- bay makes a play, and each bound that falls slowly is below the price of each play.
use Rattle.std.proofs.Common.{◌≡◌, ℕ, ◌+◌, ◌<◌, ◌≤◌, List, [], ◌∷◌, Contains, refl, sym, ap, ◌∙◌, subst, ⊎_elim, arith}
use Rattle.std.proofs.lemmas.Bool.{cases_Bool, cases_lt}
use Rattle.crp_plan.specs.declared.moves.Move.{Move}
use Rattle.crp_plan.specs.declared.moves.Move.TheVariants.{Shift, Take}
use Rattle.crp_plan.specs.Rows.{occurrences}
use Rattle.crp_plan.specs.Bay.{Position, IsSound, IsShifted, Runs, IsFinished, relocations}
use Rattle.crp_plan.proofs.Sound.{sound_taken, sound_shifted}
use Rattle.crp_bounds.specs.Bounds.{blocking}
use Rattle.crp_bounds.proofs.Blocked.{blocking_taken, blocking_none}
use Rattle.crp_bounds.proofs.Bounding.{blocking_end, blocking_falls}
use Rattle.crp_thinned.specs.Thinned.{good_rows, child_at, child_without}
use Rattle.crp_thinned.specs.Missing.{left_of, IsThinned, IsSoundlyThin, FallsSlowly}
use Rattle.crp_thinned.proofs.Kept.{rows_left, all_left}
use Rattle.crp_thinned.proofs.Keeping.{thin_at, thin_without}
use Rattle.crp_thinned.proofs.Stepping.{take_step, missing_step}
use Rattle.crp_thinned.proofs.Relocating.{Well, Bad, kept_step}

-- what is done with the blocker
pub data Choice : Type 0 where
  To : ℕ → Choice
  Out : Choice

-- the choices lead from s to a position where nothing is left to leave
abbrev pub Plays : Position → List Choice → Type 0
Plays s [] = s.ordered < s.next
Plays s (To row ∷ play) = Contains (good_rows s) row × Plays (child_at s row) play
Plays s (Out ∷ play) = (s.next ≤ s.ordered) × Plays (child_without s) play

-- to lift it out counts two
abbrev pub price : List Choice → ℕ
price [] = 0
price (To row ∷ play) = 1 + price play
price (Out ∷ play) = 2 + price play

-- where the real bay is finished, the thinned one is
finished_too : (t v : Position) → IsSound t → IsFinished t → IsThinned t v → v.ordered < v.next
finished_too t v sound end h = ⊎_elim
    (λ lt. lt)
    (λ le.
    let e : v ≡ left_of h.keep v.next t = h.is_left in
    let same : v.ordered ≡ t.ordered = ap (λ w. w.ordered) e in
    let rows : v.stacks ≡ rows_left h.keep t.stacks = ap (λ w. w.stacks) e in
    let some : 1 ≤ occurrences v.next v.stacks = h.settled.there le in
    absurd (omega (arith, ap (occurrences v.next) rows, all_left h.keep v.next t.stacks, sound.gone v.next (omega arith))))
    (cases_lt v.ordered v.next)

-- a way to the end of the real bay makes a play beside it
abbrev pub PlayedBeside : Position → List Move → Position → Type 0
PlayedBeside s moves v = (play : List Choice) × Plays v play × (price play + blocking s ≤ relocations moves + blocking v)

pub played : (s t : Position) (moves : List Move) (v : Position) → IsSound s → IsThinned s v → Runs s moves t → IsFinished t → PlayedBeside s moves v
played s t [] v sound h r end =
    let done : IsFinished s = subst IsFinished (sym r) end in
    ([], finished_too s v sound done h, omega (arith, blocking_end s sound done))
played s t (Take row ∷ moves) v sound h r end =
    let p = played r.0 t moves v (sound_taken s row r.0 sound r.1) (take_step s row r.0 v sound r.1 h) r.2 end in
    (p.0, p.1, omega (arith, p.2, blocking_taken s row r.0 sound r.1))
played s t (Shift from to ∷ moves) v sound h r end =
    let k : IsShifted s from to r.0 = r.1 in
    let sound' : IsSound r.0 = sound_shifted s from to r.0 sound k in
    ⊎_elim
    (λ stays. ⊎_elim
    (λ (w : Well s r.0 v to).
    let p = played r.0 t moves (child_at v to) sound' w.thinned r.2 end in
    (To to ∷ p.0, (w.good, p.1), omega (arith, p.2, w.real, w.left)))
    (λ (b : Bad s r.0 v).
    let p = played r.0 t moves (child_without v) sound' b.thinned r.2 end in
    let le : v.next ≤ v.ordered = ⊎_elim
    (λ lt. absurd (omega (arith, b.left, blocking_none v.ordered v.stacks (λ d low. h.settled.gone d (omega arith)))))
    (λ ge. ge)
    (cases_lt v.ordered v.next) in
    (Out ∷ p.0, (le, p.1), omega (arith, p.2, b.real, b.left)))
    (kept_step s from to r.0 v sound k h stays))
    (λ gone.
    let p = played r.0 t moves v sound' (missing_step s from to r.0 v k h gone) r.2 end in
    (p.0, p.1, omega (arith, p.2, blocking_falls s from to r.0 sound k)))
    (cases_Bool (h.keep k.moved))

-- what is claimed of positions, by a bound or by a family that a cut names, and falls by at most what each choice counts
pub record ClaimsFall (claims : Position → ℕ → Type 0) : Type 0 where
  pub row : (s : Position) (row n : ℕ) → IsSoundlyThin s → Contains (good_rows s) row → claims s n → (m : ℕ) × claims (child_at s row) m × (n ≤ 1 + m)
  pub without : (s : Position) (n : ℕ) → IsSoundlyThin s → s.next ≤ s.ordered → claims s n → (m : ℕ) × claims (child_without s) m × (n ≤ 2 + m)
  pub end : (s : Position) (n : ℕ) → IsSoundlyThin s → s.ordered < s.next → claims s n → n ≡ 0

-- it is below the price of each play
pub claimed : (claims : Position → ℕ → Type 0) (s : Position) (n : ℕ) (play : List Choice) → ClaimsFall claims → IsSoundlyThin s → claims s n → Plays s play → n ≤ price play
claimed claims s n [] fall thin c p = omega (arith, fall.end s n thin p c)
claimed claims s n (To row ∷ play) fall thin c p =
    let r = fall.row s row n thin p.0 c in
    omega (arith, r.2, claimed claims (child_at s row) r.0 play fall (thin_at s row thin p.0) r.1 p.1)
claimed claims s n (Out ∷ play) fall thin c p =
    let r = fall.without s n thin p.0 c in
    omega (arith, r.2, claimed claims (child_without s) r.0 play fall (thin_without s thin p.0) r.1 p.1)

-- so it is with a bound
pub below_price : (bound : Position → ℕ) (s : Position) (play : List Choice) → FallsSlowly bound → IsSoundlyThin s → Plays s play → bound s ≤ price play
below_price bound s play falls thin p = claimed (λ t n. n ≡ bound t) s (bound s) play (record {
  row = λ t row n thin' c e. (bound (child_at t row), refl, omega (arith, e, falls.row t row thin' c));
  without = λ t n thin' le e. (bound (child_without t), refl, omega (arith, e, falls.without t thin' le));
  end = λ t n thin' end e. e ∙ falls.end t thin' end;
}) thin refl p
