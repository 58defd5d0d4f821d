-- What still stands of stacks in a turn, and jobs that are played on stacks of which the same stands.
use Rattle.std.proofs.Common.{◌≡◌, ℕ, ◌+◌, ◌<◌, ◌≤◌, min, true, false, not, ◌&&◌, ◌||◌, ◌==◌, nat_lt, List, [], ◌∷◌, ◌++◌, length, refl, sym, ap, ◌∙◌, subst, ◌⊎◌, inl, inr, ⊎_elim, arith, append-nil}
use Rattle.std.specs.Bool.{⊤}
use Rattle.std.proofs.lemmas.Bool.{cases_Bool, cases_lt, cases_eq, or_cases, or_left, or_right, and_parts, ltb-false, lt-ltb, le-ltb, eqb-true, eq-eqb, both_ways, not-true}
use Rattle.crp_plan.specs.Rows.{holds}
use Rattle.crp_plan.proofs.Lists.{times, times-cons, same_is_one}
use Rattle.crp_bounds.specs.Bounds.{holds_lower, HasLower}
use Rattle.crp_bounds.proofs.Blocked.{lower_from_held}
use Rattle.crp_bounds.proofs.Meaning.{lower_found}
use Rattle.crp_prices.specs.declared.job.Job.{Job}
use Rattle.crp_prices.specs.Prices.{standing_at, AreOpen, least_of, is_well_placed, earns_on, earned}

-- what stands at a turn of two lists, one on the other
pub standing_split : (v : ℕ) (xs ys : List ℕ) →
    ((standing_at v xs ≡ xs) × (standing_at v (xs ++ ys) ≡ xs ++ standing_at v ys)) ⊎ (standing_at v (xs ++ ys) ≡ standing_at v xs)
standing_split v [] ys = inl (refl, refl)
standing_split v (x ∷ xs) ys = ⊎_elim
    (λ lt. inr (rw lt refl))
    (λ ge. ⊎_elim
    (λ p. inl (rw ge (ap (λ l. x ∷ l) p.0), rw ge (ap (λ l. x ∷ l) p.1)))
    (λ e. inr (rw ge (ap (λ l. x ∷ l) e)))
    (standing_split v xs ys))
    (cases_Bool (nat_lt x v))

-- no lower rank stands at a turn
pub standing_late : (v x : ℕ) (xs : List ℕ) → holds x (standing_at v xs) ≡ true → v ≤ x
standing_late v x [] h = cc
standing_late v x (y ∷ xs) h = ⊎_elim
    (λ t. let none : holds x [] ≡ true = rw t at h in cc)
    (λ f. let h' : (y == x) || holds x (standing_at v xs) ≡ true = rw f at h in
    ⊎_elim (λ e. let same : y ≡ x = eqb-true y x e in let ge : v ≤ y = ltb-false y v f in omega arith) (λ e. standing_late v x xs e) (or_cases (y == x) (holds x (standing_at v xs)) h'))
    (cases_Bool (nat_lt y v))

-- where no lower rank stands, all stands
pub standing_first : (v : ℕ) (xs : List ℕ) → ((x : ℕ) → x < v → times x xs ≡ 0) → standing_at v xs ≡ xs
standing_first v [] gone = refl
standing_first v (x ∷ xs) gone =
    let late : v ≤ x = ⊎_elim (λ lt. absurd (omega (arith, gone x lt, times-cons x x xs, same_is_one x))) (λ ge. ge) (cases_lt x v) in
    rw (le-ltb x v late) (ap (λ l. x ∷ l) (standing_first v xs (λ y lt. omega (arith, gone y lt, times-cons y x xs))))

-- the same stands of two stacks in the turn of the first of these jobs
abbrev pub Agree : List ℕ → List ℕ → List Job → Type 0
Agree xs ys [] = ⊤
Agree xs ys (j ∷ jobs) = standing_at j.turn xs ≡ standing_at j.turn ys

-- then the jobs are open on the one as on the other
pub open_same : (height : ℕ) (xs ys : List ℕ) (jobs : List Job) → Agree xs ys jobs → AreOpen height xs jobs → AreOpen height ys jobs
open_same height xs ys [] e o = tt
open_same height xs ys (j ∷ jobs) e o =
    (ap (λ w. nat_lt (length w) height && not (holds j.turn w)) (sym e) ∙ o.0, subst (λ w. AreOpen height (w ++ j.rank ∷ []) jobs) e o.1)

-- and earn the same
pub earned_same : (price : ℕ → ℕ → ℕ) (unit ordered : ℕ) (xs ys : List ℕ) (jobs : List Job) → Agree xs ys jobs → earned price unit ordered xs jobs ≡ earned price unit ordered ys jobs
earned_same price unit ordered xs ys [] e = refl
earned_same price unit ordered xs ys (j ∷ jobs) e = ap (λ w. earns_on price unit ordered w j + earned price unit ordered (w ++ j.rank ∷ []) jobs) e

-- where a container is lifted out that stands above the one whose turn it is now, the same stands in each turn in which the row is open
pub agree_lifted : (now height x : ℕ) (rest : List ℕ) (jobs : List Job) → holds now rest ≡ true → ((j : Job) → (more : List Job) → jobs ≡ j ∷ more → now ≤ j.turn) →
    AreOpen height rest jobs → Agree rest (rest ++ x ∷ []) jobs
agree_lifted now height x rest [] held late o = tt
agree_lifted now height x rest (j ∷ jobs) held late o = ⊎_elim
    (λ p.
    let still : holds now (standing_at j.turn rest) ≡ true = ap (holds now) p.0 ∙ held in
    let le : j.turn ≤ now = standing_late j.turn now rest still in
    let ge : now ≤ j.turn = late j jobs refl in
    let e : now ≡ j.turn = omega arith in
    let free : holds j.turn (standing_at j.turn rest) ≡ false =
    not-true (holds j.turn (standing_at j.turn rest)) (let q = and_parts (nat_lt (length (standing_at j.turn rest)) height) (not (holds j.turn (standing_at j.turn rest))) o.0 in q.1) in
    absurd (both_ways (holds j.turn (standing_at j.turn rest)) free (ap (λ n. holds n (standing_at j.turn rest)) (sym e) ∙ still)))
    (λ e. sym e)
    (standing_split j.turn rest (x ∷ []))

-- and where the container leaves whose turn it is
pub agree_taken : (now : ℕ) (rest : List ℕ) (jobs : List Job) → ((j : Job) → (more : List Job) → jobs ≡ j ∷ more → now < j.turn) → Agree rest (rest ++ now ∷ []) jobs
agree_taken now rest [] late = tt
agree_taken now rest (j ∷ jobs) late = ⊎_elim
    (λ p. p.0 ∙ sym (p.1 ∙ ap (λ l. rest ++ l) gone ∙ append-nil rest))
    (λ e. sym e)
    (standing_split j.turn rest (now ∷ []))
  where
    gone : standing_at j.turn (now ∷ []) ≡ []
    gone = rw (lt-ltb now j.turn (late j jobs refl)) refl

-- the least is at most each
pub least_le : (ordered x : ℕ) (xs : List ℕ) → holds x xs ≡ true → least_of ordered xs ≤ x
least_le ordered x [] h = cc
least_le ordered x (y ∷ xs) h = ⊎_elim
    (λ e. let same : y ≡ x = eqb-true y x e in omega arith)
    (λ e. let r = least_le ordered x xs e in omega arith)
    (or_cases (y == x) (holds x xs) h)

-- and one of them, where it is ordered
pub least_held : (ordered k : ℕ) (xs : List ℕ) → least_of ordered xs ≡ k → k ≤ ordered → holds k xs ≡ true
least_held ordered k [] e le = absurd (omega arith)
least_held ordered k (y ∷ xs) e le = ⊎_elim
    (λ lt. or_left (y == k) (holds k xs) (eq-eqb y k (omega arith)))
    (λ ge. or_right (y == k) (holds k xs) (least_held ordered k xs (omega arith) le))
    (cases_lt y (least_of ordered xs))

-- the least ordered rank, from below and from above
pub least_is : (ordered k : ℕ) (xs : List ℕ) → k ≤ ordered → holds k xs ≡ true → ((x : ℕ) → holds x xs ≡ true → k ≤ x) → least_of ordered xs ≡ k
least_is ordered k xs le held late =
    let most : least_of ordered xs ≤ k = least_le ordered k xs held in
    let least : k ≤ least_of ordered xs = late (least_of ordered xs) (least_held ordered (least_of ordered xs) xs refl (omega arith)) in
    omega arith

-- a container that is not of the list is badly placed exactly where a lower ordered one stands
pub bad_place : (ordered c : ℕ) (xs : List ℕ) → holds_lower ordered c xs ≡ true → is_well_placed ordered c xs ≡ false
bad_place ordered c xs low =
    let l : HasLower ordered c xs = lower_found ordered c xs low in
    let a : l.lower ≤ ordered = l.is_ordered in
    let b : l.lower < c = l.is_lower in
    let le : least_of ordered xs ≤ l.lower = least_le ordered l.lower xs l.stands in
    le-ltb (min c ordered) (least_of ordered xs) (omega arith)

pub good_place : (ordered c : ℕ) (xs : List ℕ) → holds c xs ≡ false → holds_lower ordered c xs ≡ false → is_well_placed ordered c xs ≡ true
good_place ordered c xs other none = ⊎_elim
    (λ lt. lt-ltb (min c ordered) (least_of ordered xs) lt)
    (λ ge.
    let held : holds (least_of ordered xs) xs ≡ true = least_held ordered (least_of ordered xs) xs refl (omega arith) in
    ⊎_elim
    (λ e. absurd (both_ways (holds c xs) other (ap (λ x. holds x xs) (sym e) ∙ held)))
    (λ ne. absurd (both_ways (holds_lower ordered c xs) none (lower_from_held ordered (least_of ordered xs) c xs (omega arith) (omega arith) held)))
    (cases_eq (least_of ordered xs) c))
    (cases_lt (min c ordered) (least_of ordered xs))
