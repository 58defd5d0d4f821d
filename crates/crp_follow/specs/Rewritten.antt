-- A report whose moves somebody edited, and the same report with lines that count its moves as they stand.
use Rattle.std.specs.Prelude.{◌≡◌, ◌⊎◌, ◌≤◌, ℕ, min, List, [], ◌∷◌, ◌++◌, length, flat_map, count_by, Option, Some, None, MatchOption}
use Rattle.std.specs.List.{AllZip, filter_map}
use Rattle.crp_said.specs.declared.numbers.Numbers.{Numbers}
use Rattle.crp_said.specs.declared.said.SaidCause.TheVariants.{Edited}
use Rattle.crp_said.specs.declared.said.Said.{Said}
use Rattle.crp_said.specs.declared.said.Said.TheVariants.{Optimal, First, NoPlan, Between, Outside}
use Rattle.crp_said.specs.Said.{BaySaid, bay_text, is_settled, report_text}
use Rattle.crp_said.specs.Spelled.{IsLastLine}
use Rattle.crp_follow.specs.declared.fault.FollowFault.{FollowFault}
use Rattle.crp_follow.specs.declared.fault.FollowFault.TheVariants as fault
use Rattle.crp_follow.specs.declared.stated.StatedMove.{StatedMove}
use Rattle.crp_follow.specs.Lines.{Line, lines_in, line_behind_all}
use Rattle.crp_follow.specs.Stated.{most_bytes, BayStated, moves_of, GoOnWith}
use Rattle.crp_follow.specs.declared.rule.OutsideMove.{OutsideMove}
use Rattle.crp_follow.specs.Faults.{is_shift, CountsShifts}
use Rattle.crp_follow.specs.Rule.{first_outside, outside_in}
use Rattle.crp_follow.specs.TextFaults.{IsTextFault, StopsAt}
use Rattle.crp_follow.specs.Written.{lines_of}

-- the text is a report of these numbers and these bays, whatever its lines count
pub record IsEdited (text : List ℕ) (numbers : Numbers) (bays : List BayStated) : Type 0 where
  pub short : length text ≤ most_bytes
  pub last : Line
  pub front : GoOnWith (lines_in text) numbers bays (last ∷ [])
  pub last_line : IsLastLine last.body

-- the relocations of these moves; none where no move stands
abbrev pub relocations_in : List StatedMove → Option ℕ
relocations_in [] = None
relocations_in (m ∷ moves) = Some (count_by is_shift (moves_of (m ∷ moves)))

-- no plan by the rule has fewer relocations, by what is said
abbrev pub lower_said : Said → ℕ
lower_said (Optimal count) = count
lower_said (First count) = count
lower_said NoPlan = 0
lower_said (Between lower upper why) = lower
lower_said (Outside count) = 0

-- it is said of moves of the rule, and no lower number is above an upper one
abbrev pub IsInBounds : Said → Type 0
IsInBounds (Optimal count) = Unit {0}
IsInBounds (First count) = Unit {0}
IsInBounds NoPlan = Unit {0}
IsInBounds (Between lower None why) = Unit {0}
IsInBounds (Between lower (Some upper) why) = lower ≤ upper
IsInBounds (Outside count) = ⊥

-- the line of a bay whose moves are of the rule can stay
abbrev pub CanStay : BayStated → Type 0
CanStay b = CountsShifts b × IsInBounds b.said

-- a lower number, but none above the relocations
abbrev pub lower_below : ℕ → Option ℕ → ℕ
lower_below lower None = lower
lower_below lower (Some count) = min lower count

-- what is said of a bay whose moves are of the rule: the same where its line can stay; else the lower number stays, and the moves are counted
abbrev pub IsSaidOfRule : BayStated → Said → Type 0
IsSaidOfRule b said =
    (CanStay b × (said ≡ b.said)) ⊎ (¬ CanStay b × (said ≡ Between (lower_below (lower_said b.said) (relocations_in b.moves)) (relocations_in b.moves) Edited))

-- what is said of a bay by its moves as they stand: where one of them is not of the rule, that they are outside it, and how many relocations they are
abbrev pub IsSaidAnew : BayStated → Said → Type 0
IsSaidAnew b said = MatchOption (first_outside b.moves) (IsSaidOfRule b said) (λ line. said ≡ Outside (count_by is_shift (moves_of b.moves)))

-- the bay with its moves as they stand
pub record IsCountedAnew (b : BayStated) (s : BaySaid) : Type 0 where
  pub bay : s.bay ≡ b.bay
  pub said : IsSaidAnew b s.said
  pub lines : s.lines ≡ lines_of (moves_of b.moves)

-- so many moves as a report can have
abbrev pub HasFewMoves : BayStated → Type 0
HasFewMoves b = length b.moves ≤ most_bytes

-- these bays were added to a text with their moves as they stand, and so many of them are decided
pub record AreRewritten (bays : List BayStated) (old new : List ℕ) (decided : ℕ) : Type 0 where
  pub said : List BaySaid
  pub counted : AllZip IsCountedAnew bays said
  pub decided_is : decided ≡ count_by (λ s. is_settled s.said) said
  pub text : new ≡ old ++ flat_map bay_text said

-- the text states the same report with its moves as they stand, and each of its lines counts them
pub record IsRewritten (text : List ℕ) (anew : List ℕ) : Type 0 where
  pub numbers : Numbers
  pub bays : List BayStated
  pub said : List BaySaid
  pub edited : IsEdited text numbers bays
  pub counted : AllZip IsCountedAnew bays said
  pub is : anew ≡ report_text numbers said

-- the bays of the text that have a move which is not of the rule, each with the line of its first one
pub record NamesOutside (text : List ℕ) (outside : List OutsideMove) : Type 0 where
  pub numbers : Numbers
  pub bays : List BayStated
  pub edited : IsEdited text numbers bays
  pub is : outside ≡ filter_map outside_in bays

-- the first fault of a text whose last line may count anything: it has one
abbrev pub IsEditedFault : List ℕ → FollowFault → Type 0
IsEditedFault text (fault.Count line) = (length text ≤ most_bytes) × StopsAt (lines_in text) (λ bays later. (later ≡ []) × (line ≡ line_behind_all text))
IsEditedFault text f = IsTextFault text f
