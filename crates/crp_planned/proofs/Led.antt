-- Bays with what is said of them, and where the moves of their lines lead.
use Rattle.std.proofs.Common.{◌≡◌, ◌∙◌, ◌≤◌, ◌*◌, ℕ, List, [], length, Option, Some, None, MatchOption, refl, sym, subst, arith}
use Rattle.std.specs.Prelude.{count_by}
use Rattle.std.specs.List.{AllByRecursion}
use Rattle.crp_plan.specs.declared.moves.Move.{Move}
use Rattle.crp_plan.specs.Bay.{Problem, IsProblem, Position, IsFinished, Runs, start, relocations}
use Rattle.crp_plan.proofs.Paths.{runs_is}
use Rattle.crp_sizes.specs.Sizes.{YardSizes, heights_at}
use Rattle.crp_yard.specs.Inventory.{StackedBay, FitBay}
use Rattle.crp_yard.specs.Ranks.{named}
use Rattle.crp_order.specs.BayProblems.{leaving, ranked, problem_of}
use Rattle.crp_said.specs.declared.moves.SaidMove.{SaidMove}
use Rattle.crp_said.specs.MoveLines.{AreMoveLines}
use Rattle.crp_said.specs.Said.{BaySaid, count_said}
use Rattle.crp_said.specs.Spelled.{CanBeStated}
use Rattle.crp_follow.specs.Crane.{Stack, Leads}
use Rattle.crp_follow.specs.Faults.{is_shift}
use Rattle.crp_follow.specs.Written.{lines_of}
use Rattle.crp_planned.specs.Planned.{AreSaid}
use Rattle.crp_planned.proofs.Planned.{lines_said, shifts_said, plan_leads}
use Rattle.crp_planned.proofs.Listed.{AreNamed}
use Rattle.crp_planned.proofs.Statable.{KeepsHeights, moves_stated}
use Rattle.crp_planned.proofs.Named.{bay_named}
use Rattle.crp_planned.proofs.Lengths.{plan_long}

-- a bay as it stands, what is said of it, the moves of its lines, and the rows to which they lead
pub record BayLed : Type 0 where
  pub bay : StackedBay
  pub said : BaySaid
  pub moves : List SaidMove
  pub end : List Stack

pub record IsLed (sizes : YardSizes) (sequence : List (List ℕ)) (b : BayLed) : Type 0 where
  pub named : b.said.bay ≡ b.bay.0
  pub lines : b.said.lines ≡ lines_of b.moves
  pub counts : MatchOption (count_said b.said.said) (b.moves ≡ []) (λ count. count_by is_shift b.moves ≡ count)
  pub leads : Leads (heights_at sizes b.bay.0) b.bay.1 b.moves b.end
  pub statable : AllByRecursion CanBeStated b.moves
  pub short : length (lines_of b.moves) ≤ 665 * length (leaving sequence b.bay.1)

-- without a plan nothing moves
pub unmoved : (sizes : YardSizes) (sequence : List (List ℕ)) (bay : StackedBay) (s : BaySaid) → s.bay ≡ bay.0 → count_said s.said ≡ None → s.lines ≡ []
    → IsLed sizes sequence (record { bay = bay; said = s; moves = []; end = bay.1 })
unmoved sizes sequence bay s name none lines =
    let moves : List SaidMove = [] in
    record {
      named = name;
      lines = lines;
      counts = subst (λ (o : Option ℕ). MatchOption o (moves ≡ []) (λ count. count_by is_shift moves ≡ count)) (sym none) refl;
      leads = refl;
      statable = tt;
      short = omega arith;
    }

-- a complete plan, whose lines these are, leads to what it leaves
pub plan_led : KeepsHeights → (sizes : YardSizes) (sequence : List (List ℕ)) (bay : StackedBay) (s : BaySaid) (count : ℕ) (moves : List Move) (place : Position)
    → FitBay (heights_at sizes bay.0) bay.1 → AreNamed bay.1 → s.bay ≡ bay.0 → count_said s.said ≡ Some count → relocations moves ≡ count → IsProblem (problem_of (heights_at sizes bay.0) sequence bay.1)
    → Runs (start (problem_of (heights_at sizes bay.0) sequence bay.1)) moves place → IsFinished place → AreMoveLines (ranked sequence bay.1) (start (problem_of (heights_at sizes bay.0) sequence bay.1)) moves s.lines
    → (said : List SaidMove) × IsLed sizes sequence (record { bay = bay; said = s; moves = said; end = named (ranked sequence bay.1) place.stacks })
plan_led keep sizes sequence bay s count moves place fit names name is counted problem runs finished lines =
    let p : Problem = problem_of (heights_at sizes bay.0) sequence bay.1 in
    let ranks = ranked sequence bay.1 in
    let l = lines_said ranks (start p) moves s.lines lines in
    let said = l.said in
    let there : l.end ≡ place = runs_is (start p) moves l.end place l.runs runs in
    let are : AreSaid ranks (start p) moves said place = subst (λ (t : Position). AreSaid ranks (start p) moves said t) there l.are in
    let end = named ranks place.stacks in
    let leads : Leads (heights_at sizes bay.0) bay.1 said end = subst (λ rows. Leads (heights_at sizes bay.0) rows said end) (bay_named sequence bay.1) (plan_leads ranks (start p) place moves said are) in
    let can = moves_stated keep (heights_at sizes bay.0) bay.1 said end (record { few = problem.few_rows; tiers = problem.heights_fit; fit = fit; named = names }) leads in
    let shifts : count_by is_shift said ≡ count = shifts_said ranks (start p) place moves said are ∙ counted in (
      said,
      record {
        named = name;
        lines = l.is;
        counts = subst (λ (o : Option ℕ). MatchOption o (said ≡ []) (λ k. count_by is_shift said ≡ k)) (sym is) shifts;
        leads = leads;
        statable = can;
        short = plan_long ranks p moves said place problem runs finished are can;
      },
    )
