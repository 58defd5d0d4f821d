-- The yard behind moves, one bay more.
use Rattle.std.proofs.Common.{◌≡◌, ◌∙◌, ◌⊎◌, inl, inr, ℕ, zero, suc, ◌+◌, ◌≤◌, arith, Bool, true, false, List, [], ◌∷◌, ◌++◌, All, length, take, Option, Some, None, slice_get, Result, Ok, Err, Vec, Global, refl, sym, ap, subst, append-nil}
use Rattle.std.specs.Prelude.{IfSome, IfOk, if◌then◌else◌}
use Rattle.std.specs.List.{AllByRecursion}
use Rattle.std.specs.Option.{option_map}
use Rattle.std.proofs.lemmas.Option.{same_Some, none-some}
use Rattle.std.proofs.lemmas.List.{take_all}
use Rattle.std.proofs.lemmas.List.Concat.{flat_map-append}
use Rattle.std.proofs.lemmas.List.Elements.{recursion_from_All}
use Rattle.csv.specs.Writing.{default_writer, row_text}
use Rattle.crp_plan.specs.BayNames.{YardBay, same_bay}
use Rattle.crp_sizes.specs.Sizes.{YardSizes, heights_at}
use Rattle.crp_sizes.proofs.Bays.{heights_can_be, same_bay_is, same_bay_self}
use Rattle.crp_sizes.proofs.Lists.{member}
use Rattle.crp_yard.specs.Inventory.{Inventory, StackedBay, FitBay, IsYard, name_at, heights_in_bay}
use Rattle.crp_yard.specs.Text.{records_of_rows, records_of_yard, text_of_records}
use Rattle.crp_yard.proofs.BuildingSteps.{take_next}
use Rattle.crp_yard.proofs.YardSteps.{fit_rows, low_stacks}
use Rattle.crp_said.specs.declared.moves.SaidMove.{SaidMove}
use Rattle.crp_follow.specs.declared.fault.FollowFault.{FollowFault}
use Rattle.crp_follow.specs.declared.fault.FollowFault.TheVariants as fault
use Rattle.crp_follow.specs.declared.stated.StatedMove.{StatedMove}
use Rattle.crp_follow.specs.Crane.{Stack, Leads}
use Rattle.crp_follow.specs.Stated.{BayStated, moves_of}
use Rattle.crp_follow.specs.Faults.{rows_in, LeadsIn}
use Rattle.crp_follow.specs.Followed.{BayFollowed, AreFollowed}
use Rattle.crp_follow.specs.MoveFaults.{StopsWith}
use Rattle.crp_follow.specs.Behind.{Made, first_moves, made_in, IsBayBehind, AreBaysBehind, IsListBehind}
use Rattle.crp_follow.proofs.InYard.{Fits, bay_at, found}
use Rattle.crp_follow.proofs.KeptLaws.{stays_within_heights}
use Rattle.crp_follow.proofs.OneMove.{stops_apart}

-- ---- moves that can be made

-- where moves lead somewhere, the first of them do
first_lead : (heights : List ℕ) (rows : List Stack) (moves : List SaidMove) (after : List Stack) (count : ℕ) → Leads heights rows moves after → (mid : List Stack) × Leads heights rows (take count moves) mid
first_lead heights rows [] after zero leads = (rows, refl)
first_lead heights rows [] after (suc count) leads = (rows, refl)
first_lead heights rows (m ∷ moves) after zero leads = (rows, refl)
first_lead heights rows (m ∷ moves) after (suc count) (next, made, leads) =
    let rest = first_lead heights next moves after count leads in
    (rest.0, (next, made, rest.1))

-- the first moves of bays that are followed can be made in each bay of the yard
can_be_made : (yard : Inventory) (counts : List ℕ) (bays : List BayFollowed) (name : YardBay) (rows : List Stack) → AllByRecursion (λ b. LeadsIn yard b.stated b.start b.after) bays
    → rows_in yard name ≡ Some rows → (after : List Stack) × Leads (heights_at yard.sizes name) rows (made_in (first_moves counts bays) name) after
can_be_made yard [] bays name rows all stands = (rows, refl)
can_be_made yard (count ∷ counts) [] name rows all stands = (rows, refl)
can_be_made yard (count ∷ counts) (b ∷ bays) name rows all stands = by (same_bay b.stated.bay name) refl (can_be_made yard counts bays name rows all.1 stands)
  where
    by : (t : Bool) → same_bay b.stated.bay name ≡ t → ((after : List Stack) × Leads (heights_at yard.sizes name) rows (made_in (first_moves counts bays) name) after)
        → (after : List Stack) × Leads (heights_at yard.sizes name) rows (if same_bay b.stated.bay name then take count (moves_of b.stated.moves) else made_in (first_moves counts bays) name) after
    by false e later = rw e later
    by true e later =
        let own = all.0 in
        let same : b.stated.bay ≡ name = same_bay_is b.stated.bay name e in
        let start : b.start ≡ rows = same_Some b.start rows (sym own.stands ∙ ap (rows_in yard) same ∙ stands) in
        let leads : Leads (heights_at yard.sizes name) rows (moves_of b.stated.moves) b.after =
        subst (λ (r : List Stack). Leads (heights_at yard.sizes name) r (moves_of b.stated.moves) b.after) start
        (subst (λ (n : YardBay). Leads (heights_at yard.sizes n) b.start (moves_of b.stated.moves) b.after) same own.leads) in
        rw e (first_lead (heights_at yard.sizes name) rows (moves_of b.stated.moves) b.after count leads)

-- ---- one bay more

behind_more : (sizes : YardSizes) (made : List Made) (olds news : List StackedBay) (old new : StackedBay) → AreBaysBehind sizes made olds news → IsBayBehind sizes made old new
    → AreBaysBehind sizes made (olds ++ old ∷ []) (news ++ new ∷ [])
behind_more sizes made [] [] old new h k = (k, tt)
behind_more sizes made [] (n ∷ news) old new h k = absurd h
behind_more sizes made (o ∷ olds) [] old new h k = absurd h
behind_more sizes made (o ∷ olds) (n ∷ news) old new h k = (h.0, behind_more sizes made olds news old new h.1 k)

-- the list of so many bays as they stand behind the moves
pub record IsListSoFar (yard : Inventory) (made : List Made) (count : ℕ) (text : List ℕ) : Type 0 where
  pub bays : List StackedBay
  pub behind : AreBaysBehind yard.sizes made (take count yard.bays) bays
  pub text_is : text ≡ text_of_records (records_of_yard bays)

pub list_begins : (yard : Inventory) (made : List Made) (text : List ℕ) → text ≡ text_of_records (records_of_yard []) → IsListSoFar yard made 0 text
list_begins yard made text e = record { bays = []; behind = none yard.bays; text_is = e }
  where
    none : (bays : List StackedBay) → AreBaysBehind yard.sizes made (take 0 bays) []
    none [] = tt
    none (b ∷ bays) = tt

list_ends : (yard : Inventory) (made : List Made) (count : ℕ) (text : List ℕ) → IsListSoFar yard made count text → length yard.bays ≤ count → IsListBehind yard made text
list_ends yard made count text so all =
    let whole : take count yard.bays ≡ yard.bays = take_all count yard.bays all in (
      record { sizes = yard.sizes; bays = so.bays },
      record { same_sizes = refl; bays = subst (λ (l : List StackedBay). AreBaysBehind yard.sizes made l so.bays) whole so.behind },
      so.text_is,
    )

pub list_text : {E : Type 0} (yard : Inventory) (made : List Made) (count : ℕ) (text : List ℕ) (r : Result (Vec ℕ Global) E) → IsListSoFar yard made count text → length yard.bays ≤ count
    → IfOk r (λ t. t.items ≡ text) → IfOk r (λ t. IsListBehind yard made t.items)
list_text yard made count text (Ok t) so all e = subst (λ (l : List ℕ). IsListBehind yard made l) (sym e) (list_ends yard made count text so all)
list_text yard made count text (Err f) so all e = tt

text_more : (bays : List StackedBay) (bay : StackedBay) → text_of_records (records_of_yard (bays ++ bay ∷ [])) ≡ text_of_records (records_of_yard bays) ++ text_of_records (records_of_rows bay.0 1 bay.1)
text_more bays bay =
    let own = records_of_rows bay.0 1 bay.1 in
    let all : records_of_yard (bays ++ bay ∷ []) ≡ records_of_yard bays ++ own =
    rw (flat_map-append (λ (b : StackedBay). records_of_rows b.0 1 b.1) bays (bay ∷ []), append-nil own) refl in
    ap text_of_records all ∙ flat_map-append (λ fields. row_text default_writer fields) (records_of_yard bays) own

pub list_more : (yard : Inventory) (made : List Made) (i : ℕ) (name : YardBay) (old new : List Stack) (text longer : List ℕ) → IsListSoFar yard made i text → slice_get yard.bays i ≡ Some (name, old)
    → Leads (heights_at yard.sizes name) old (made_in made name) new → longer ≡ text ++ text_of_records (records_of_rows name 1 new) → IsListSoFar yard made (i + 1) longer
list_more yard made i name old new text longer so at leads e =
    let next : i + 1 ≡ suc i = omega arith in
    let more : take (i + 1) yard.bays ≡ take i yard.bays ++ (name, old) ∷ [] = ap (λ n. take n yard.bays) next ∙ take_next yard.bays i (name, old) at in
    record {
      bays = so.bays ++ (name, new) ∷ [];
      behind = subst (λ (l : List StackedBay). AreBaysBehind yard.sizes made l (so.bays ++ (name, new) ∷ [])) (sym more)
          (behind_more yard.sizes made (take i yard.bays) so.bays (name, old) (name, new) so.behind (refl, leads));
      text_is = e ∙ ap (λ t. t ++ text_of_records (records_of_rows name 1 new)) so.text_is ∙ sym (text_more so.bays (name, new));
    }

-- ---- what can be refused

only_memory_of : (sizes : YardSizes) (o : Option StackedBay) (heights : List ℕ) (rows : List Stack) (moves : List StatedMove) (f : FollowFault)
    → IfSome o (λ b. (after : List Stack) × Leads (heights_at sizes b.0) b.1 (moves_of moves) after) → option_map (heights_at sizes) (option_map (λ (b : StackedBay). b.0) o) ≡ Some heights
    → option_map (λ (b : StackedBay). b.1) o ≡ Some rows → (f ≡ fault.Memory) ⊎ StopsWith heights rows moves f → f ≡ fault.Memory
only_memory_of sizes o heights rows moves f can tall stand (inl e) = e
only_memory_of sizes None heights rows moves f can tall stand (inr stops) = absurd (none-some rows stand)
only_memory_of sizes (Some b) heights rows moves f can tall stand (inr stops) =
    let low : heights_at sizes b.0 ≡ heights = same_Some (heights_at sizes b.0) heights tall in
    let start : b.1 ≡ rows = same_Some b.1 rows stand in
    let leads : Leads heights rows (moves_of moves) can.0 =
    subst (λ (r : List Stack). Leads heights r (moves_of moves) can.0) start (subst (λ (h : List ℕ). Leads h b.1 (moves_of moves) can.0) low can.1) in
    absurd (stops_apart heights rows moves f can.0 stops leads)

-- moves that can be made stop for nothing else
pub only_memory : (yard : Inventory) (bay : ℕ) (heights : List ℕ) (rows : List Stack) (moves : List StatedMove) (f : FollowFault)
    → IfSome (slice_get yard.bays bay) (λ b. (after : List Stack) × Leads (heights_at yard.sizes b.0) b.1 (moves_of moves) after) → heights_in_bay yard bay ≡ Some heights
    → option_map (λ (b : StackedBay). b.1) (slice_get yard.bays bay) ≡ Some rows → (f ≡ fault.Memory) ⊎ StopsWith heights rows moves f → f ≡ fault.Memory
only_memory yard bay heights rows moves f can tall stand wrong = only_memory_of yard.sizes (slice_get yard.bays bay) heights rows moves f can tall stand wrong

-- the first moves of bays that are followed can be made in the bay of the yard that has this number and this name
pub can_be_made_at : (yard : Inventory) (stated : List BayStated) (counts : List ℕ) (bays : List BayFollowed) (i : ℕ) (name : YardBay) (moves : List SaidMove) → IsYard yard
    → AreFollowed yard stated bays → name_at yard i ≡ Some name → moves ≡ made_in (first_moves counts bays) name
    → IfSome (slice_get yard.bays i) (λ b. (after : List Stack) × Leads (heights_at yard.sizes b.0) b.1 moves after)
can_be_made_at yard stated counts bays i name moves is are there made =
    let at = bay_at yard i name there in
    let stands : rows_in yard name ≡ Some at.rows = found yard i name name is there (same_bay_self name) ∙ ap (option_map (λ (b : StackedBay). b.1)) at.is in
    let can = can_be_made yard counts bays name at.rows are.leads stands in
    subst (λ (o : Option StackedBay). IfSome o (λ b. (after : List Stack) × Leads (heights_at yard.sizes b.0) b.1 moves after)) (sym at.is)
    (can.0, subst (λ (l : List SaidMove). Leads (heights_at yard.sizes name) at.rows l can.0) (sym made) can.1)

-- and then the rows are those of a bay of a yard
pub rows_fit : (yard : Inventory) (i : ℕ) (name : YardBay) (moves : List SaidMove) (rows : List Stack) → IsYard yard → name_at yard i ≡ Some name
    → IfSome (slice_get yard.bays i) (λ b. Leads (heights_at yard.sizes b.0) b.1 moves rows) → (length rows ≤ 12) × All (λ row. length row ≤ 8) rows
rows_fit yard i name moves rows is there leads =
    let at = bay_at yard i name there in
    let heights = heights_at yard.sizes name in
    let led : Leads heights at.rows moves rows = subst (λ (o : Option StackedBay). IfSome o (λ b. Leads (heights_at yard.sizes b.0) b.1 moves rows)) at.is leads in
    let fits : FitBay heights at.rows = member (Fits yard.sizes) yard.bays i (name, at.rows) (recursion_from_All (Fits yard.sizes) yard.bays is.bays_fit) at.is in
    let still = stays_within_heights heights at.rows moves rows led fits in
    let can = heights_can_be yard.sizes is.sizes_fit name in
    (omega (arith, fit_rows heights rows still, can.0.1), low_stacks heights rows still can.1)

-- one bay more, by its number
pub list_more_at : (yard : Inventory) (made : List Made) (i : ℕ) (name : YardBay) (moves : List SaidMove) (rows : List Stack) (text longer : List ℕ) → IsListSoFar yard made i text → name_at yard i ≡ Some name
    → moves ≡ made_in made name → IfSome (slice_get yard.bays i) (λ b. Leads (heights_at yard.sizes b.0) b.1 moves rows) → longer ≡ text ++ text_of_records (records_of_rows name 1 rows)
    → IsListSoFar yard made (i + 1) longer
list_more_at yard made i name moves rows text longer so there e leads more =
    let at = bay_at yard i name there in
    let led : Leads (heights_at yard.sizes name) at.rows moves rows = subst (λ (o : Option StackedBay). IfSome o (λ b. Leads (heights_at yard.sizes b.0) b.1 moves rows)) at.is leads in
    list_more yard made i name at.rows rows text longer so at.is (subst (λ (l : List SaidMove). Leads (heights_at yard.sizes name) at.rows l rows) e led) more
