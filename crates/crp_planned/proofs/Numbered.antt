-- Bays that are led are followed, each on the line where it is said.
use Rattle.std.proofs.Common.{◌≡◌, ◌∙◌, ◌≤◌, ◌+◌, ◌*◌, ℕ, suc, true, List, [], ◌∷◌, ◌++◌, length, length-append, map, Option, Some, None, MatchOption, refl, sym, ap, subst, arith, append_assoc}
use Rattle.std.specs.Prelude.{count_by, filter, flat_map}
use Rattle.std.specs.List.{AllByRecursion, IsDistinct}
use Rattle.std.proofs.lemmas.List.{length-map}
use Rattle.std.proofs.lemmas.List.Elements.{All-filter, filter_passes}
use Rattle.std.proofs.lemmas.List.Sums.{sum_by-cons, count_by-le-length, length-filter}
use Rattle.std.proofs.lemmas.Map.Entries.{lookup_from_place}
use Rattle.std.proofs.lemmas.Map.Made.{IsDistinct-keys_filter}
use Rattle.crp_plan.specs.BayNames.{IsYardBay, same_bay}
use Rattle.crp_plan.proofs.Lists.{one_if}
use Rattle.crp_sizes.specs.Sizes.{YardSizes, heights_at}
use Rattle.crp_yard.specs.Inventory.{Inventory, StackedBay, times, containers_of}
use Rattle.crp_sizes.proofs.Lists.{all_of, each_of, each_at}
use Rattle.crp_sizes.proofs.Bays.{same_bay_laws}
use Rattle.crp_order.specs.BayProblems.{leaving, is_called}
use Rattle.crp_said.specs.declared.numbers.Numbers.{Numbers}
use Rattle.crp_said.specs.declared.moves.SaidMove.{SaidMove}
use Rattle.crp_said.specs.Said.{BaySaid, bay_text, bay_line, bays_line, counts_line, is_settled, count_said, report_text}
use Rattle.crp_said.specs.Spelled.{AreSmall, CanBeStated, IsSayable, ReportSaid, SpellsReport}
use Rattle.crp_follow.specs.declared.stated.StatedMove.{StatedMove}
use Rattle.crp_follow.specs.Crane.{Leads}
use Rattle.crp_follow.specs.Stated.{most_bytes, BayStated, moves_of, IsStatable, States}
use Rattle.crp_follow.specs.Written.{lines_of, said_by, AreMovesFrom, AreBaysFrom, SaysBays}
use Rattle.crp_follow.specs.Faults.{rows_in, is_shift, LeadsIn}
use Rattle.crp_follow.specs.Followed.{BayFollowed, IsFollowed}
use Rattle.crp_planned.proofs.Listed.{IsListed}
use Rattle.crp_planned.proofs.Led.{BayLed, IsLed}
use Rattle.crp_planned.proofs.Lengths.{bay_line_long, counts_line_long, bays_line_long}
use Rattle.crp_planned.proofs.Counting.{leave_all, few_leave, fewer_stand, some_leave}

-- a report as solve spells it is stated so
abbrev pub IsStatedAsWritten : Type 0
IsStatedAsWritten = (text : List ℕ) (report : ReportSaid) (bays : List BayStated) → length text ≤ most_bytes → SpellsReport text report → SaysBays report bays → States text report.numbers bays

-- ---- the numbers of lines

abbrev pub moves_at : ℕ → List SaidMove → List StatedMove
moves_at line [] = []
moves_at line (m ∷ moves) = record { line = line; said = m } ∷ moves_at (suc line) moves

abbrev pub stated_at : ℕ → BayLed → BayStated
stated_at line b = record { line = line; bay = b.bay.0; said = b.said.said; moves = moves_at (suc line) b.moves }

-- the bays, of which the first stands at this line
abbrev pub bays_at : ℕ → List BayLed → List BayFollowed
bays_at line [] = []
bays_at line (b ∷ bays) = record { stated = stated_at line b; start = b.bay.1; after = b.end } ∷ bays_at (suc line + length (moves_at (suc line) b.moves)) bays

abbrev pub stated_from : ℕ → List BayLed → List BayStated
stated_from line bays = map (λ f. f.stated) (bays_at line bays)

moves_back : (line : ℕ) (moves : List SaidMove) → moves_of (moves_at line moves) ≡ moves
moves_back line [] = refl
moves_back line (m ∷ moves) = ap (λ l. m ∷ l) (moves_back (suc line) moves)

moves_numbered : (line : ℕ) (moves : List SaidMove) → AreMovesFrom line (moves_at line moves)
moves_numbered line [] = tt
moves_numbered line (m ∷ moves) = (refl, moves_numbered (suc line) moves)

bays_numbered : (line : ℕ) (bays : List BayLed) → AreBaysFrom line (stated_from line bays)
bays_numbered line [] = tt
bays_numbered line (b ∷ bays) = (refl, moves_numbered (suc line) b.moves, bays_numbered (suc line + length (moves_at (suc line) b.moves)) bays)

names_at : (line : ℕ) (bays : List BayLed) → map (λ (b : BayStated). b.bay) (stated_from line bays) ≡ map (λ (b : StackedBay). b.0) (map (λ (b : BayLed). b.bay) bays)
names_at line [] = refl
names_at line (b ∷ bays) = ap (λ l. b.bay.0 ∷ l) (names_at (suc line + length (moves_at (suc line) b.moves)) bays)

long_at : (line : ℕ) (bays : List BayLed) → length (bays_at line bays) ≡ length bays
long_at line [] = refl
long_at line (b ∷ bays) = ap suc (long_at (suc line + length (moves_at (suc line) b.moves)) bays)

-- ---- what is said

module _ (sizes : YardSizes) (sequence : List (List ℕ)) where
  said_back : (line : ℕ) (bays : List BayLed) → AllByRecursion (IsLed sizes sequence) bays → map said_by (stated_from line bays) ≡ map (λ (b : BayLed). b.said) bays
  said_back line [] all = refl
  said_back line (b ∷ bays) all =
      let is = all.0 in
      let lines : lines_of (moves_of (moves_at (suc line) b.moves)) ≡ b.said.lines = ap lines_of (moves_back (suc line) b.moves) ∙ sym is.lines in
      let first : said_by (stated_at line b) ≡ b.said = λ i. record { bay = sym is.named i; said = b.said.said; lines = lines i } in
      let rest = said_back (suc line + length (moves_at (suc line) b.moves)) bays all.1 in
      λ i. first i ∷ rest i

  all_statable : (line : ℕ) (bays : List BayLed) → AllByRecursion (IsLed sizes sequence) bays → AllByRecursion IsSayable (map (λ b. b.said) bays)
      → AllByRecursion IsStatable (stated_from line bays)
  all_statable line [] all can = tt
  all_statable line (b ∷ bays) all can =
      let is = all.0 in
      let own = can.0 in (
        record {
          named = subst IsYardBay is.named own.named;
          small = own.small;
          moves = subst (AllByRecursion CanBeStated) (sym (moves_back (suc line) b.moves)) is.statable;
        },
        all_statable (suc line + length (moves_at (suc line) b.moves)) bays all.1 can.1,
      )

  -- the lines of the bays are few where few containers leave them
  bays_long : (bays : List BayLed) → AllByRecursion (IsLed sizes sequence) bays → AllByRecursion IsSayable (map (λ b. b.said) bays)
      → AllByRecursion (λ bay. 1 ≤ length (leaving sequence bay.1)) (map (λ b. b.bay) bays)
      → length (flat_map bay_text (map (λ b. b.said) bays)) ≤ 741 * leave_all sequence (map (λ b. b.bay) bays)
  bays_long [] all can some = omega arith
  bays_long (b ∷ bays) all can some =
      let is = all.0 in
      let own = can.0 in
      let one = some.0 in
      let lines : length b.said.lines ≡ length (lines_of b.moves) = ap length is.lines in
      let short = is.short in
      omega (
        arith,
        one,
        lines,
        short,
        bay_line_long b.said.bay b.said.said own.named own.small,
        length-append (bay_line b.said.bay b.said.said) b.said.lines,
        length-append (bay_text b.said) (flat_map bay_text (map (λ (b : BayLed). b.said) bays)),
        bays_long bays all.1 can.1 some.1,
      )

shifts_counted : (o : Option ℕ) (line : ℕ) (moves : List SaidMove) → MatchOption o (moves ≡ []) (λ count. count_by is_shift moves ≡ count)
    → MatchOption o (moves_at line moves ≡ []) (λ count. count_by is_shift (moves_of (moves_at line moves)) ≡ count)
shifts_counted None line moves e = ap (moves_at line) e
shifts_counted (Some count) line moves e = ap (count_by is_shift) (moves_back line moves) ∙ e

all_lead : (yard : Inventory) (sequence : List (List ℕ)) (line : ℕ) (bays : List BayLed) → AllByRecursion (IsLed yard.sizes sequence) bays
    → AllByRecursion (λ bay. rows_in yard bay.0 ≡ Some bay.1) (map (λ b. b.bay) bays)
    → AllByRecursion (λ f. LeadsIn yard f.stated f.start f.after) (bays_at line bays)
all_lead yard sequence line [] all stand = tt
all_lead yard sequence line (b ∷ bays) all stand =
    let is = all.0 in (
      record {
        stands = stand.0;
        counts = shifts_counted (count_said b.said.said) (suc line) b.moves is.counts;
        leads = subst (λ moves. Leads (heights_at yard.sizes b.bay.0) b.bay.1 moves b.end) (sym (moves_back (suc line) b.moves)) is.leads;
      },
      all_lead yard sequence (suc line + length (moves_at (suc line) b.moves)) bays all.1 stand.1,
    )

settled_said : (bays : List BayStated) → count_by (λ (b : BaySaid). is_settled b.said) (map said_by bays) ≡ count_by (λ (b : BayStated). is_settled b.said) bays
settled_said [] = refl
settled_said (b ∷ bays) =
    omega (
      arith,
      settled_said bays,
      sum_by-cons (λ (x : BaySaid). one_if (is_settled x.said)) (said_by b) (map said_by bays),
      sum_by-cons (λ (x : BayStated). one_if (is_settled x.said)) b bays,
    )

-- ---- the bays that are called

-- what holds of each bay of the yard holds of each that is called
pub on_called : (P : StackedBay → Type 0) (yard : Inventory) (sequence : List (List ℕ)) (called : List StackedBay) → called ≡ filter (is_called sequence) yard.bays
    → AllByRecursion P yard.bays → AllByRecursion P called
on_called P yard sequence called e all =
    subst (AllByRecursion P) (sym e) (each_of P (filter (is_called sequence) yard.bays) (All-filter (is_called sequence) P yard.bays (all_of P yard.bays all)))

pub each_stands : (yard : Inventory) → IsListed yard → AllByRecursion (λ bay. rows_in yard bay.0 ≡ Some bay.1) yard.bays
each_stands yard listed =
    each_at (λ (bay : StackedBay). rows_in yard bay.0 ≡ Some bay.1) yard.bays (λ i bay e. lookup_from_place same_bay_laws yard.bays i bay.0 bay.1 listed.bays_once e)

each_leaves : (yard : Inventory) (sequence : List (List ℕ)) (called : List StackedBay) → called ≡ filter (is_called sequence) yard.bays
    → AllByRecursion (λ bay. 1 ≤ length (leaving sequence bay.1)) called
each_leaves yard sequence called e =
    let passes = each_of (λ (bay : StackedBay). is_called sequence bay ≡ true) (filter (is_called sequence) yard.bays) (filter_passes (is_called sequence) yard.bays) in
    subst (AllByRecursion (λ (bay : StackedBay). 1 ≤ length (leaving sequence bay.1))) (sym e) (on (filter (is_called sequence) yard.bays) passes)
  where
    on : (bays : List StackedBay) → AllByRecursion (λ bay. is_called sequence bay ≡ true) bays → AllByRecursion (λ bay. 1 ≤ length (leaving sequence bay.1)) bays
    on [] all = tt
    on (bay ∷ bays) all = (some_leave sequence bay all.0, on bays all.1)

-- ---- the whole

pub bays_followed : IsStatedAsWritten → (yard : Inventory) (sequence : List (List ℕ)) (n : Numbers) (text : List ℕ) (bays : List BayLed) → IsListed yard → length sequence ≤ 10000
    → AreSmall n → map (λ b. b.bay) bays ≡ filter (is_called sequence) yard.bays → AllByRecursion (IsLed yard.sizes sequence) bays → AllByRecursion IsSayable (map (λ b. b.said) bays)
    → text ≡ report_text n (map (λ b. b.said) bays) → IsFollowed yard text n (bays_at 2 bays)
bays_followed states yard sequence n text bays listed few small called all can is =
    let calls : List StackedBay = map (λ (b : BayLed). b.bay) bays in
    let said : List BaySaid = map (λ (b : BayLed). b.said) bays in
    let stated : List BayStated = stated_from 2 bays in
    let settled : ℕ = count_by (λ (b : BaySaid). is_settled b.said) said in
    let r : ReportSaid = record { numbers = n; bays = said; count = length said; settled = settled } in
    let back = said_back yard.sizes sequence 2 bays all in
    let many : length said ≤ 20000 =
    let a : length said ≡ length bays = length-map bays (λ (b : BayLed). b.said) in
    let b : length calls ≡ length bays = length-map bays (λ (x : BayLed). x.bay) in
    let c : length calls ≡ length (filter (is_called sequence) yard.bays) = ap length called in
    let d = length-filter (is_called sequence) yard.bays in
    let e = count_by-le-length (is_called sequence) yard.bays in
    let f = listed.few in
    omega (arith, a, b, c, d, e, f) in
    let less = count_by-le-length (λ (b : BaySaid). is_settled b.said) said in
    let once : (c : List ℕ) → times c (containers_of calls) ≤ 1 = λ c. subst (λ l. times c (containers_of l) ≤ 1) (sym called)
    (omega (arith, fewer_stand (is_called sequence) yard.bays c, listed.containers_once c)) in
    let leave = few_leave sequence calls once in
    let long = bays_long yard.sizes sequence bays all can (each_leaves yard sequence calls called) in
    let whole : length text ≤ 8388608 =
    let e : length text ≡ length (report_text n said) = ap length is in
    omega (
      arith,
      e,
      few,
      leave,
      long,
      length-append (counts_line n) (flat_map bay_text said ++ bays_line (length said) settled),
      length-append (flat_map bay_text said) (bays_line (length said) settled),
      counts_line_long n small,
      bays_line_long (length said) settled (omega (arith, many)) (omega (arith, many, less)),
    ) in
    let spells : SpellsReport text r = (
      record { numbers = small; bays = can; count = omega (arith, many); settled = omega (arith, many, less) },
      is ∙ sym (append_assoc (counts_line n) (flat_map bay_text said) (bays_line (length said) settled)),
    ) in
    let says : SaysBays r stated = record {
      statable = all_statable yard.sizes sequence 2 bays all can;
      bays_are = sym back;
      numbered = bays_numbered 2 bays;
      count_is = length-map bays (λ (b : BayLed). b.said) ∙ sym (length-map (bays_at 2 bays) (λ (f : BayFollowed). f.stated) ∙ long_at 2 bays);
      settled_is = sym (ap (count_by (λ (b : BaySaid). is_settled b.said)) back) ∙ settled_said stated;
    } in
    record {
      stated = stated;
      states = states text r stated whole spells says;
      followed = record {
        is = refl;
        once = subst (IsDistinct same_bay) (sym (names_at 2 bays ∙ ap (map (λ (b : StackedBay). b.0)) called)) (IsDistinct-keys_filter same_bay (is_called sequence) yard.bays listed.bays_once);
        leads = all_lead yard sequence 2 bays all (on_called (λ (bay : StackedBay). rows_in yard bay.0 ≡ Some bay.1) yard sequence calls called (each_stands yard listed));
      };
    }
