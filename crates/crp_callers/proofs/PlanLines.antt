-- Lines that are printed of a plan are found to be those of a plan, by the laws on moves and on printed plans.
use Rattle.std.proofs.Common.{◌≡◌, ◌∙◌, ℕ, List, [], ◌∷◌, Some, None, refl, sym, ap, subst}
use Rattle.crp_plan.specs.declared.moves.Move.{Move}
use Rattle.crp_plan.specs.Bay.{Problem, Position, Legal, Runs, IsProblem, IsFinished, start, relocations}
use Rattle.crp_order.specs.BayProblems.{ranked}
use Rattle.crp_said.specs.MoveLines.{AreMoveLines}
use Rattle.crp_audit.specs.Headline.{Handed, Reported, PrintsPlan, problem_in}
use Rattle.crp_audit.specs.Faults.{IsWrongMove}
use Rattle.crp_audit.specs.Printed.{IsLookedAt}
use Rattle.crp_audit.specs.declared.looking.Looked.{Looked}
use Rattle.crp_audit.specs.declared.looking.Looked.TheVariants.{Nothing, Plan, Stopped, Other}

abbrev OneEnd : Type 0
OneEnd = (s : Position) (m : Move) (t u : Position) → Legal s m t → Legal s m u → t ≡ u

abbrev OnePlan : Type 0
OnePlan = (h : Handed) (b : Reported) (moves others : List Move) → IsProblem (problem_in h b)
    → AreMoveLines (ranked h.sequence b.bay.1) (start (problem_in h b)) moves b.lines
    → AreMoveLines (ranked h.sequence b.bay.1) (start (problem_in h b)) others b.lines → moves ≡ others

abbrev NoneIsWrong : Type 0
NoneIsWrong = (h : Handed) (b : Reported) (count : ℕ) (front : List ℕ) → IsProblem (problem_in h b) → PrintsPlan h b count → IsWrongMove h b front → ⊥

-- moves lead to one position
runs_end_once : OneEnd → (s : Position) (moves : List Move) (t u : Position) → Runs s moves t → Runs s moves u → t ≡ u
runs_end_once law s [] t u a b = sym a ∙ b
runs_end_once law s (m ∷ moves) t u (v, k, more) (w, l, other) =
    runs_end_once law v moves t u more (subst (λ (x : Position). Runs x moves u) (law s m w v l k) other)

abbrev IsPlanSeen : Looked → Type 0
IsPlanSeen looked = (path : _) × (looked ≡ Plan path)

seen : OneEnd → OnePlan → NoneIsWrong → (h : Handed) (b : Reported) (count : ℕ) → IsProblem (problem_in h b) → PrintsPlan h b count
    → (looked : Looked) → IsLookedAt (ranked h.sequence b.bay.1) (problem_in h b) (Some count) b.lines looked → IsPlanSeen looked
seen ends one right h b count is prints (Plan path) looked = (path, refl)
seen ends one right h b count is prints Nothing (none, empty) = let k : Some count ≡ None = none in absurd (cc k)
seen ends one right h b count is prints (Stopped read) (k, same, stopped) = absurd (right h b count stopped.0 is prints stopped.2)
seen ends one right h b count is prints Other (moves, place, leads, not) =
    let same = one h b prints.moves moves is prints.printed leads.printed in
    let (end, runs, finished) = prints.complete in
    let here = runs_end_once ends (start (problem_in h b)) moves end place (subst (λ (ms : List Move). Runs (start (problem_in h b)) ms end) same runs) leads.runs in
    absurd (not (subst IsFinished here finished, ap relocations (sym same) ∙ prints.counted))

-- the same of names, of a problem and of lines that are those of the bay
pub plan_seen : OneEnd → OnePlan → NoneIsWrong → (h : Handed) (b : Reported) (count : ℕ) (names : List (List ℕ)) (p : Problem) (lines : List ℕ)
    → names ≡ ranked h.sequence b.bay.1 → p ≡ problem_in h b → lines ≡ b.lines → IsProblem p → PrintsPlan h b count
    → (looked : Looked) → IsLookedAt names p (Some count) lines looked → IsPlanSeen looked
plan_seen ends one right h b count names p lines e f g is prints looked at =
    let first = subst (λ (x : List (List ℕ)). IsLookedAt x p (Some count) lines looked) e at in
    let second = subst (λ (x : Problem). IsLookedAt (ranked h.sequence b.bay.1) x (Some count) lines looked) f first in
    let third = subst (λ (x : List ℕ). IsLookedAt (ranked h.sequence b.bay.1) (problem_in h b) (Some count) x looked) g second in
    seen ends one right h b count (subst IsProblem f is) prints looked third
