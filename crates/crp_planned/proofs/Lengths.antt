-- How many bytes the lines of a report have.
use Rattle.std.proofs.Common.{◌≡◌, ◌∙◌, ◌≤◌, ◌+◌, ◌-◌, ◌*◌, ℕ, suc, nat_le, List, [], ◌∷◌, ◌++◌, length, length-append, Option, Some, None, sym, ap, arith}
use Rattle.std.specs.Prelude.{◌&&◌, IsTrue, codes, decimal}
use Rattle.std.specs.List.{AllByRecursion, list_all}
use Rattle.std.proofs.lemmas.Bool.{and_parts, leb-true}
use Rattle.std.proofs.lemmas.Fmt.{length-decimal-le}
use Rattle.std.proofs.lemmas.List.Elements.{All-weaker, recursion_from_All}
use Rattle.std.proofs.lemmas.Nat.{mul-le}
use Rattle.crp_plan.specs.declared.moves.Move.{Move}
use Rattle.crp_plan.specs.declared.moves.Move.TheVariants as move
use Rattle.crp_plan.specs.Bay.{Problem, IsProblem, Position, IsFinished, Legal, Runs, start, relocations}
use Rattle.crp_plan.specs.BayNames.{YardBay, IsYardBay}
use Rattle.crp_plan.specs.Rows.{tallest}
use Rattle.crp_plan.proofs.Buried.{below_cap}
use Rattle.crp_plan.proofs.Tallies.{tallest_low}
use Rattle.crp_yard.specs.Records.{is_container}
use Rattle.crp_said.specs.declared.numbers.Numbers.{Numbers}
use Rattle.crp_said.specs.declared.said.SaidCause.{SaidCause}
use Rattle.crp_said.specs.declared.said.SaidCause.TheVariants as cause
use Rattle.crp_said.specs.declared.said.Said.{Said}
use Rattle.crp_said.specs.declared.said.Said.TheVariants.{Optimal, First, NoPlan, Between, Outside}
use Rattle.crp_said.specs.declared.moves.Place.{Place}
use Rattle.crp_said.specs.declared.moves.SaidMove.{SaidMove}
use Rattle.crp_said.specs.declared.moves.SaidMove.TheVariants.{Shift, Take}
use Rattle.crp_said.specs.MoveLines.{spaced_place, move_words}
use Rattle.crp_said.specs.Said.{counts_line, bay_words, upper_words, cause_words, said_words, bay_line, bays_line}
use Rattle.crp_said.specs.Spelled.{most, AreSmall, IsSmall, IsSmallPlace, CanBeStated, ended}
use Rattle.crp_follow.specs.Written.{lines_of}
use Rattle.crp_planned.specs.Planned.{AreSaid}

-- ---- words

pub few_digits : (n : ℕ) → n ≤ most → length (decimal n) ≤ 10
few_digits n low = length-decimal-le 10 n (omega arith) (omega (arith, low)) (omega (arith, low))

place_long : (p : Place) → IsSmallPlace p → length (spaced_place p) ≤ 22
place_long p small =
    omega (arith, length-append (decimal p.row) (46 ∷ decimal p.tier), few_digits p.row small.0, few_digits p.tier small.1)

name_long : (container : List ℕ) → IsTrue (is_container container) → length container ≤ 35
name_long container e =
    let both = and_parts (nat_le 1 (length container) && nat_le (length container) 35) (list_all (λ b. nat_le 32 b) container) e in
    let few = and_parts (nat_le 1 (length container)) (nat_le (length container) 35) both.0 in
    leb-true (length container) 35 few.1

-- the most bytes of a move's line
abbrev most_of : SaidMove → ℕ
most_of (Shift from to container) = 86
most_of (Take from container) = 63

move_long : (m : SaidMove) → CanBeStated m → length (ended (move_words m)) ≤ most_of m
move_long (Shift from to container) can =
    let words = move_words (Shift from to container) in
    omega (
      arith,
      length-append words (10 ∷ []),
      length-append (codes "shift") (spaced_place from ++ (spaced_place to ++ 32 ∷ container)),
      length-append (spaced_place from) (spaced_place to ++ 32 ∷ container),
      length-append (spaced_place to) (32 ∷ container),
      place_long from can.0,
      place_long to can.1,
      name_long container can.2,
    )
move_long (Take from container) can =
    let words = move_words (Take from container) in
    omega (
      arith,
      length-append words (10 ∷ []),
      length-append (codes "take") (spaced_place from ++ 32 ∷ container),
      length-append (spaced_place from) (32 ∷ container),
      place_long from can.0,
      name_long container can.1,
    )

-- ---- the lines of a plan

kept_ordered : (s t : Position) (m : Move) → Legal s m t → t.ordered ≡ s.ordered
kept_ordered s t (move.Take row) is = ap (λ (p : Position). p.ordered) is.after
kept_ordered s t (move.Shift from to) is = ap (λ (p : Position). p.ordered) is.after

runs_ordered : (s t : Position) (moves : List Move) → Runs s moves t → t.ordered ≡ s.ordered
runs_ordered s t [] e = sym (ap (λ (p : Position). p.ordered) e)
runs_ordered s t (m ∷ moves) (u, legal, runs) = runs_ordered u t moves runs ∙ kept_ordered s u m legal

-- as many for each move, where a retrieval makes the next container's turn
lines_long : (names : List (List ℕ)) (s t : Position) (moves : List Move) (said : List SaidMove) → AreSaid names s moves said t → AllByRecursion CanBeStated said
    → length (lines_of said) + 63 * s.next ≤ 86 * relocations moves + 63 * t.next
lines_long names s t [] [] e can = let same : s.next ≡ t.next = ap (λ (p : Position). p.next) e in omega (arith, same)
lines_long names s t [] (x ∷ said) is can = absurd is
lines_long names s t (m ∷ moves) [] is can = absurd is
lines_long names s t (move.Take row ∷ moves) (x ∷ said) (e, (u, legal, more)) can =
    let rest = lines_long names u t moves said more can.1 in
    let one : most_of x ≡ 63 = ap most_of e in
    let next : u.next ≡ suc s.next = ap (λ (p : Position). p.next) legal.after in
    omega (arith, rest, one, next, move_long x can.0, length-append (ended (move_words x)) (lines_of said))
lines_long names s t (move.Shift from to ∷ moves) (x ∷ said) (e, (u, legal, more)) can =
    let rest = lines_long names u t moves said more can.1 in
    let one : most_of x ≡ 86 = ap most_of e in
    let next : u.next ≡ s.next = ap (λ (p : Position). p.next) legal.after in
    omega (arith, rest, one, next, move_long x can.0, length-append (ended (move_words x)) (lines_of said))

few_relocations : (p : Problem) (moves : List Move) (end : Position) → IsProblem p → Runs (start p) moves end → IsFinished end → relocations moves ≤ p.ordered * 7
few_relocations p moves end is runs finished =
    let low = below_cap p moves is (end, runs, finished) in
    let heights = recursion_from_All (λ height. height ≤ 8) p.heights
    (All-weaker (λ height. (1 ≤ height) × (height ≤ 8)) (λ height. height ≤ 8) (λ height both. both.1) p.heights is.heights_fit) in
    let high : tallest p.heights ≤ 8 = tallest_low 8 p.heights heights in
    let times = mul-le p.ordered (tallest p.heights - 1) p.ordered 7 (omega arith) (omega (arith, high)) in
    omega (arith, low, times)

pub plan_long : (names : List (List ℕ)) (p : Problem) (moves : List Move) (said : List SaidMove) (end : Position) → IsProblem p → Runs (start p) moves end → IsFinished end
    → AreSaid names (start p) moves said end → AllByRecursion CanBeStated said → length (lines_of said) ≤ 665 * p.ordered
plan_long names p moves said end is runs finished are can =
    let long = lines_long names (start p) end moves said are can in
    let few = few_relocations p moves end is runs finished in
    let ordered : end.ordered ≡ p.ordered = runs_ordered (start p) end moves runs in
    omega (arith, long, few, ordered, finished)

-- ---- the other lines

upper_long : (upper : Option ℕ) → IsSmall (Between 0 upper cause.Budget) → length (upper_words upper) ≤ 10
upper_long None small = omega arith
upper_long (Some count) small = few_digits count small.1

cause_long : (why : SaidCause) → length (cause_words why) ≤ 6
cause_long cause.Budget = omega arith
cause_long cause.Memory = omega arith
cause_long cause.Time = omega arith
cause_long cause.Edited = omega arith

said_long : (said : Said) → IsSmall said → length (said_words said) ≤ 41
said_long (Optimal count) small = omega (arith, length-append (codes "optimal ") (decimal count), few_digits count small)
said_long (First count) small =
    omega (arith, length-append (codes "optimal ") (decimal count ++ codes " first"), length-append (decimal count) (codes " first"), few_digits count small)
said_long NoPlan small = omega arith
said_long (Between lower upper why) small =
    let behind = upper_words upper ++ (codes ", " ++ cause_words why) in
    omega (
      arith,
      length-append (codes "between ") (decimal lower ++ (codes " and " ++ behind)),
      length-append (decimal lower) (codes " and " ++ behind),
      length-append (codes " and ") behind,
      length-append (upper_words upper) (codes ", " ++ cause_words why),
      length-append (codes ", ") (cause_words why),
      few_digits lower small.0,
      upper_long upper (omega arith, small.1),
      cause_long why,
    )
said_long (Outside count) small =
    omega (arith, length-append (codes "outside the rule ") (decimal count ++ codes ", edited"), length-append (decimal count) (codes ", edited"), few_digits count small)

pub bay_line_long : (bay : YardBay) (said : Said) → IsYardBay bay → IsSmall said → length (bay_line bay said) ≤ 76
bay_line_long bay said named small =
    let few = named.few_characters in
    let low = named.four_digits in
    omega (
      arith,
      length-append (bay_words bay) (said_words said ++ 10 ∷ []),
      length-append (said_words said) (10 ∷ []),
      length-append (codes "bay ") (bay.block ++ (32 ∷ (decimal bay.bay ++ codes ": "))),
      length-append bay.block (32 ∷ (decimal bay.bay ++ codes ": ")),
      length-append (decimal bay.bay) (codes ": "),
      few,
      few_digits bay.bay (omega (arith, low)),
      said_long said small,
    )

pub counts_line_long : (n : Numbers) → AreSmall n → length (counts_line n) ≤ 52
counts_line_long n small =
    let absent = decimal n.absent ++ 10 ∷ [] in
    let vacant = decimal n.vacant ++ (codes " absent " ++ absent) in
    omega (
      arith,
      length-append (codes "orders ") (decimal n.orders ++ (codes " open " ++ vacant)),
      length-append (decimal n.orders) (codes " open " ++ vacant),
      length-append (codes " open ") vacant,
      length-append (decimal n.vacant) (codes " absent " ++ absent),
      length-append (codes " absent ") absent,
      length-append (decimal n.absent) (10 ∷ []),
      few_digits n.orders small.orders,
      few_digits n.vacant small.vacant,
      few_digits n.absent small.absent,
    )

pub bays_line_long : (bays settled : ℕ) → bays ≤ most → settled ≤ most → length (bays_line bays settled) ≤ 35
bays_line_long bays settled few less =
    let behind = decimal settled ++ 10 ∷ [] in
    omega (
      arith,
      length-append (codes "bays ") (decimal bays ++ (codes " decided " ++ behind)),
      length-append (decimal bays) (codes " decided " ++ behind),
      length-append (codes " decided ") behind,
      length-append (decimal settled) (10 ∷ []),
      few_digits bays few,
      few_digits settled less,
    )
