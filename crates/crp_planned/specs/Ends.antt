-- Where a report ends that is followed over the yard that it was made of.
use Rattle.std.specs.Prelude.{◌≡◌, ℕ, false, List, map, Some, MatchOption}
use Rattle.std.specs.List.{AllByRecursion, AllZip}
use Rattle.crp_plan.specs.declared.moves.Move.{Move}
use Rattle.crp_plan.specs.Bay.{Position, IsFinished, start}
use Rattle.crp_plan.specs.BayNames.{YardBay}
use Rattle.crp_yard.specs.Inventory.{Inventory}
use Rattle.crp_yard.specs.Ranks.{named}
use Rattle.crp_yard.specs.Text.{yard_text}
use Rattle.crp_separated.specs.Inputs.{with_separator}
use Rattle.crp_order.specs.BayProblems.{ranked}
use Rattle.crp_said.specs.declared.numbers.Numbers.{Numbers}
use Rattle.crp_follow.specs.Crane.{Stack}
use Rattle.crp_said.specs.Said.{count_said}
use Rattle.crp_follow.specs.Faults.{rows_in, is_named}
use Rattle.crp_follow.specs.Followed.{BayFollowed, IsFollowed}
use Rattle.crp_report.specs.Runs.{Made, numbers_of}
use Rattle.crp_audit.specs.Headline.{Handed, Reported, numbers_in, problem_in, IsHeadline}
use Rattle.crp_audit.specs.Replayed.{LeadsTo}

-- ---- a yard

-- the report is followed over the yard to its end, and then this is the yard: it has the same bays in the same order, with the same sizes; in
-- each bay of the report stands what its moves lead to; and in each other bay what stood there
pub record LeadsToYard (yard : Inventory) (text : List ℕ) (numbers : Numbers) (after : Inventory) : Type 0 where
  pub bays : List BayFollowed
  pub followed : IsFollowed yard text numbers bays
  pub same_sizes : after.sizes ≡ yard.sizes
  pub same_bays : map (λ bay. bay.0) after.bays ≡ map (λ bay. bay.0) yard.bays
  pub ends : AllByRecursion (λ b. rows_in after b.stated.bay ≡ Some b.after) bays
  pub others : (bay : YardBay) → is_named (map (λ b. b.stated) bays) bay ≡ false → rows_in after bay ≡ rows_in yard bay

-- the report of a run is followed over its yard, and the yard list that it writes is that of the yard at the end, with this byte between fields
abbrev pub IsRunFollowed : ℕ → Made → Type 0
IsRunFollowed separator m = (after : Inventory) × LeadsToYard m.yard m.report (numbers_of m.yard m.orders m.sequence) after × (m.yard_after ≡ with_separator separator (yard_text after))

-- ---- a headline

-- these rows are left by the plan whose lines are printed of the bay
abbrev pub IsLeftByPlan : Handed → Reported → List Stack → Type 0
IsLeftByPlan h b rows = (moves : List Move) × (place : Position) × LeadsTo (ranked h.sequence b.bay.1) (start (problem_in h b)) b.lines moves place × IsFinished place
    × (rows ≡ named (ranked h.sequence b.bay.1) place.stacks)

-- the bay is followed from what stands in it to what its plan leaves; where no plan is said, nothing moves
pub record EndsAsPrinted (h : Handed) (b : Reported) (f : BayFollowed) : Type 0 where
  pub named : f.stated.bay ≡ b.bay.0
  pub start : f.start ≡ b.bay.1
  pub end : MatchOption (count_said b.said) (f.after ≡ b.bay.1) (λ count. IsLeftByPlan h b f.after)

-- the report is followed over the yard, bay by bay
abbrev pub IsHeadlineFollowed : (h : Handed) → IsHeadline h → Type 0
IsHeadlineFollowed h is = (bays : List BayFollowed) × IsFollowed h.yard h.report (numbers_in h) bays × AllZip (EndsAsPrinted h) is.bays bays
