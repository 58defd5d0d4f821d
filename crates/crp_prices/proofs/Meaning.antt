-- What the words of jobs say.
use Rattle.std.proofs.Common.{◌≡◌, ℕ, ◌<◌, ◌≤◌, ◌↔◌, true, List, ◌∷◌, ◌++◌, Some, slice_get, refl, sym, ap, ◌∙◌, subst, inl, inr, ⊎_elim, arith}
use Rattle.std.proofs.lemmas.Bool.{cases_eq}
use Rattle.crp_plan.specs.Rows.{holds}
use Rattle.crp_plan.specs.Bay.{Position, IsSound}
use Rattle.crp_bounds.specs.Bounds.{holds_lower, HasLower}
use Rattle.crp_bounds.proofs.Blocked.{lower_from_held}
use Rattle.crp_bounds.proofs.Meaning.{lower_found}
use Rattle.crp_prices.specs.declared.job.Job.{Job}
use Rattle.crp_prices.specs.Prices.{StandsOn, IsFirst, IsJob, least_of}
use Rattle.crp_prices.proofs.Clear.{clear}
use Rattle.crp_prices.proofs.Standing.{one_beneath}
use Rattle.crp_prices.proofs.Playing.{least_le, least_held}
use Rattle.crp_prices.proofs.Jobs.{first_late}

-- the first job of a container that stands on this list
abbrev IsDue : Position → List ℕ → ℕ → ℕ → Type 0
IsDue s low c k = (holds_lower s.ordered c low ≡ true) × (k ≡ least_of s.ordered low)

first_due : (s : Position) (row : ℕ) (low over : List ℕ) (c k : ℕ) → IsSound s → slice_get s.stacks row ≡ Some (low ++ c ∷ over) → IsFirst s (record { rank = c; turn = k }) → IsDue s low c k
first_due s row low over c k sound here f =
    let st : StandsOn s.stacks low c = record { row = row; over = over; stands = here } in
    let same : f.beneath ≡ low = one_beneath s.stacks f.beneath low c (sound.once c) f.stands st in
    let ordered : k ≤ s.ordered = f.is_ordered in
    let held : holds k low ≡ true = ap (holds k) (sym same) ∙ f.turn_stands in
    let most : least_of s.ordered low ≤ k = least_le s.ordered k low held in
    let least : k ≤ least_of s.ordered low = f.least (least_of s.ordered low) (omega arith) (ap (holds (least_of s.ordered low)) same ∙ least_held s.ordered (least_of s.ordered low) low refl (omega arith)) in
    (lower_from_held s.ordered k c low ordered f.is_lower held, omega arith)

due_first : (s : Position) (row : ℕ) (low over : List ℕ) (c k : ℕ) → slice_get s.stacks row ≡ Some (low ++ c ∷ over) → IsDue s low c k → IsFirst s (record { rank = c; turn = k })
due_first s row low over c k here d =
    let l : HasLower s.ordered c low = lower_found s.ordered c low d.0 in
    let a : l.lower ≤ s.ordered = l.is_ordered in
    let b : l.lower < c = l.is_lower in
    let e : k ≡ least_of s.ordered low = d.1 in
    let le : least_of s.ordered low ≤ l.lower = least_le s.ordered l.lower low l.stands in
    record {
      beneath = low;
      stands = record { row = row; over = over; stands = here };
      turn_stands = least_held s.ordered k low (sym e) (omega arith);
      is_ordered = omega arith;
      is_lower = omega arith;
      least = λ x ordered held. omega (arith, least_le s.ordered x low held);
    }

pub first_means : (s : Position) (row : ℕ) (low over : List ℕ) (c k : ℕ) → IsSound s → slice_get s.stacks row ≡ Some (low ++ c ∷ over) → IsFirst s (record { rank = c; turn = k }) ↔ IsDue s low c k
first_means s row low over c k sound here = (λ f. first_due s row low over c k sound here f, λ d. due_first s row low over c k here d)

-- the turns of a container's jobs
abbrev HasTurn : Position → Job → Type 0
HasTurn s j = (k : ℕ) × IsFirst s (record { rank = j.rank; turn = k }) × (k ≤ j.turn) × (j.turn ≤ s.ordered) × (j.rank ≤ s.ordered → j.turn < j.rank)

job_turn : (s : Position) (j : Job) → IsJob s j → HasTurn s j
job_turn s j job = ⊎_elim
    (λ f. (j.turn, f, omega arith, f.is_ordered, λ le. f.is_lower))
    (λ l. let lt : l.first < j.turn = l.later in (l.first, l.blocks, omega arith, l.is_ordered, l.soon))
    job

turn_job : (s : Position) (j : Job) → IsSound s → HasTurn s j → IsJob s j
turn_job s j sound h = ⊎_elim
    (λ e. inl (subst (λ t. IsFirst s (record { rank = j.rank; turn = t })) e h.1))
    (λ ne.
    let le : h.0 ≤ j.turn = h.2 in
    let lt : h.0 < j.turn = omega arith in
    let late : s.next ≤ h.0 = first_late s (record { rank = j.rank; turn = h.0 }) (clear s sound) h.1 in
    inr (record {
      first = h.0;
      blocks = h.1;
      later = lt;
      is_ordered = h.3;
      stands = omega (arith, sound.waiting j.turn (omega arith) h.3);
      soon = h.4;
    }))
    (cases_eq h.0 j.turn)

pub job_means : (s : Position) (j : Job) → IsSound s → IsJob s j ↔ HasTurn s j
job_means s j sound = (λ job. job_turn s j job, λ h. turn_job s j sound h)
