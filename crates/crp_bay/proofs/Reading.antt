-- What code reads of a position.
use Rattle.std.proofs.Common.{◌≡◌, ℕ, ◌<◌, ◌≤◌, Bool, List, [], ◌∷◌, ◌++◌, length, reverse, get_or, slice_get, Some, All, Contains, IsTrue, sym, ap, ◌∙◌, subst, arith}
use Rattle.std.proofs.lemmas.List.{length-reverse}
use Rattle.std.proofs.lemmas.Option.{slice_get_within}
use Rattle.crp_plan.specs.Bay.{Problem, IsProblem, Position, IsAt, IsLegalRow, IsFinished}
use Rattle.crp_plan.proofs.Steps.{short_path}
use Rattle.crp_bay.specs.Positions.{place, child, targets}
use Rattle.crp_bay.specs.Reached.{IsReached}
use Rattle.crp_bay.specs.declared.push.Push.{Push}
use Rattle.crp_bay.specs.Back.{PlaceAndTrail, rows_before, undone, trail_of}
use Rattle.crp_bay.specs.Located.{IsLocated, IsKeptPosition}
use Rattle.crp_bay.proofs.Walked.{placed, target_goes_on}
use Rattle.crp_bay.proofs.Reaching.{reached_next, targets_legal}
use Rattle.crp_bay.proofs.Tops.{any_default}
use Rattle.crp_bay.proofs.Begun.{holds_at}

-- where a container waits
pub record Waits (rows : List ℕ) (s : Position) (x : ℕ) : Type 0 where
  pub few : x ≤ 96
  pub row : get_or rows x 0 ≡ place x s.stacks
  pub there : place x s.stacks < length s.stacks

-- a container that has not left yet and is to leave stands where its row says
pub waits_there : (rows : List ℕ) (s : Position) (x : ℕ) → IsLocated rows s → s.next ≤ x → x ≤ s.ordered → Waits rows s x
waits_there rows s x l lo hi =
    let w = l.sound.waiting x lo hi in
    let f = placed x s.stacks (omega arith) in
    let r = l.row_is x (place x s.stacks) f.0 f.1 f.2 in
    record { few = r.0; row = r.1; there = slice_get_within s.stacks (place x s.stacks) f.0 f.1 }

-- ranks that stand are at most 96
pub few_ranks_in : (rows : List ℕ) (s : Position) (i : ℕ) (stack : List ℕ) → IsLocated rows s → slice_get s.stacks i ≡ Some stack → All (λ x. x ≤ 96) stack
few_ranks_in rows s i stack l e k d lt =
    let r = l.row_is (get_or stack k 0) i stack e (holds_at stack k lt) in
    omega (arith, r.0, any_default stack k d 0 lt)

-- a position is finished where the next rank is above the last
pub finished_test : (s : Position) → IsReached s → (s.ordered < s.next → IsFinished s) × (IsFinished s → s.ordered < s.next)
finished_test s r = let n = reached_next s r in let hi = n.1 in (λ lt. omega arith, λ e. omega arith)

-- as many positions before as pushes
pub trail_length : (pushes : List Push) (rows : List ℕ) (s : Position) → length (trail_of pushes rows s) ≡ length pushes
trail_length [] rows s = omega arith
trail_length (u ∷ pushes) rows s = omega (arith, trail_length pushes (rows_before rows u s) (undone rows u s))

-- there are never more than a path can have
pub short_trail : (pushes : List Push) (rows : List ℕ) (s : Position) → IsKeptPosition pushes rows s → length (trail_of (reverse pushes) rows s) ≤ 672
short_trail pushes rows s kept =
    let few = kept.few in
    omega (arith, trail_length (reverse pushes) rows s, length-reverse pushes, short_path kept.reached.problem kept.reached.path s kept.reached.is_problem kept.reached.is_at)

-- whether the row is legal, by what a push to it answered
pub legal_by : (now : Position) (row : ℕ) (b : Bool) → ((IsTrue b → Contains (targets now) row) × (Contains (targets now) row → IsTrue b)) →
    (p : Problem) (path : List ℕ) → IsProblem p → IsAt p path now → (IsTrue b → IsLegalRow p path row) × (IsLegalRow p path row → IsTrue b)
legal_by now row b t p path is a =
    let legal = targets_legal now p path row is a in
    (λ yes. legal.0 (t.0 yes), λ l. t.1 (legal.1 l))

-- and where it leads
pub leads_to : (now next : Position) (row : ℕ) → next ≡ child now row → Contains (targets now) row → (p : Problem) (path : List ℕ) → IsProblem p → IsAt p path now → IsAt p (path ++ row ∷ []) next
leads_to now next row e c p path is a = subst (IsAt p (path ++ row ∷ [])) (sym e) (target_goes_on p path now row is a c)

-- the same over a copy
pub push_legal : (now : Position) (s : PlaceAndTrail) (row : ℕ) (b b' : Bool) → s ≡ record { place = now; trail = [] } → b ≡ b' → ((IsTrue b → Contains (targets s.place) row) × (Contains (targets s.place) row → IsTrue b)) →
    (p : Problem) (path : List ℕ) → IsProblem p → IsAt p path now → (IsTrue b' → IsLegalRow p path row) × (IsLegalRow p path row → IsTrue b')
push_legal now s row b b' e eb t p path is a =
    let legal = targets_legal now p path row is a in
    let same : s.place ≡ now = ap (λ (v : PlaceAndTrail). v.place) e in (
      λ yes_b. legal.0 (subst (λ v. Contains (targets v) row) same (t.0 (eb ∙ yes_b))),
      λ l. sym eb ∙ t.1 (subst (λ v. Contains (targets v) row) (sym same) (legal.1 l)),
    )

-- the same for the computed rows
pub push_target : (now : Position) (s : PlaceAndTrail) (row : ℕ) (b b' : Bool) → s ≡ record { place = now; trail = [] } → b ≡ b' → ((IsTrue b → Contains (targets s.place) row) × (Contains (targets s.place) row → IsTrue b)) →
    (IsTrue b' → Contains (targets now) row) × (Contains (targets now) row → IsTrue b')
push_target now s row b b' e eb t =
    let same : s.place ≡ now = ap (λ (v : PlaceAndTrail). v.place) e in (
      λ yes_b. subst (λ v. Contains (targets v) row) same (t.0 (eb ∙ yes_b)),
      λ c. sym eb ∙ t.1 (subst (λ v. Contains (targets v) row) (sym same) c),
    )

-- where the push leads
pub push_at : (now : Position) (s t : PlaceAndTrail) (row : ℕ) → s ≡ record { place = now; trail = [] } → t.place ≡ child s.place row → Contains (targets s.place) row →
    (p : Problem) (path : List ℕ) → IsProblem p → IsAt p path now → IsAt p (path ++ row ∷ []) t.place
push_at now s t row e et c p path is a =
    let same : s.place ≡ now = ap (λ (v : PlaceAndTrail). v.place) e in
    subst (IsAt p (path ++ row ∷ [])) (sym (et ∙ ap (λ v. child v row) same)) (target_goes_on p path now row is a (subst (λ v. Contains (targets v) row) same c))
