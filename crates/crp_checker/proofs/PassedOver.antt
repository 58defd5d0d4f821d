-- Cuts that are passed over, and what is known behind them.
use Rattle.std.proofs.Common.{◌≡◌, ℕ, ◌+◌, ◌≤◌, Bool, true, false, ◌==◌, ◌||◌, List, [], ◌∷◌, ◌++◌, length, fold, Option, Some, None, refl, sym, ap, ◌∙◌, subst, arith, append_assoc, append-nil, length-append}
use Rattle.std.specs.Prelude.{nat_lt, if◌then◌else◌}
use Rattle.std.specs.Option.{option_or}
use Rattle.std.specs.List.{AllZip}
use Rattle.std.proofs.lemmas.Bool.{le-ltb}
use Rattle.std.proofs.lemmas.List.Elements.{AllZip-push}
use Rattle.crp_plan.specs.Bay.{Position}
use Rattle.crp_bounds.specs.Bounds.{blocking, stuck_now, look_ahead}
use Rattle.crp_tree.specs.Mark.{Mark}
use Rattle.crp_tree.specs.Mark.{B, L}
use Rattle.crp_tree.specs.Trees.{given_names}
use Rattle.crp_checker.specs.declared.found.Found.{Found}
use Rattle.crp_checker.specs.declared.wrong.Wrong.{Wrong}
use Rattle.crp_checker.specs.declared.wrong.Wrong.TheVariants.{Low}
use Rattle.crp_tree.specs.Spots.{Spot, node_at, spot_below, spots_below, owed_behind}
use Rattle.crp_checker.specs.Gathered.{gathered, joined}
use Rattle.crp_checker.proofs.Gathering.{joined_none}
use Rattle.crp_checker.specs.Symbols.{symbol_at, wrong_at, gone_on, after}
use Rattle.crp_checker.specs.Passed.{is_cut_letter, IsHighCut, ArePassed}
use Rattle.crp_checker.specs.Walks.{walked_at, line_at, LeadTo}

-- ---- rows that are passed over

pub none_passed : (least : ℕ) (s : Position) (rows : List ℕ) (bytes : List ℕ) → ArePassed least s rows rows bytes bytes
none_passed least s rows bytes = record { passed = []; letters = []; rows_are = refl; bytes_are = sym (append-nil bytes); cuts = tt }

-- one more
pub passed_on : (least : ℕ) (s : Position) (rows left : List ℕ) (row b : ℕ) (before bytes longer : List ℕ) → ArePassed least s rows (row ∷ left) before bytes → IsHighCut least s row b → longer ≡ bytes ++ b ∷ [] →
    ArePassed least s rows left before longer
passed_on least s rows left row b before bytes longer p cut is = record {
  passed = p.passed ++ row ∷ [];
  letters = p.letters ++ b ∷ [];
  rows_are = p.rows_are ∙ sym (append_assoc p.passed (row ∷ []) left);
  bytes_are = is ∙ ap (λ l. l ++ b ∷ []) p.bytes_are ∙ append_assoc before p.letters (b ∷ []);
  cuts = AllZip-push (IsHighCut least s) p.passed p.letters row b p.cuts cut;
}

-- ---- one symbol

-- a symbol comes where a tree is owed
pub comes : (need : List ℕ → ℕ) (b count : ℕ) (mark : Mark) (spot : Spot) (owed left : List Spot) (old new : Found) → symbol_at count b ≡ Some mark → left ≡ owed_behind mark spot owed →
    new.wrong ≡ option_or old.wrong (wrong_at need (count + 1) mark spot) → new.given ≡ joined old.given (gathered (given_names (node_at spot mark ∷ []))) →
    LeadTo need (walked_at (spot ∷ owed) count old) (b ∷ []) (walked_at left (count + 1) new)
comes need b count mark spot owed left old new is behind wrong given trailing =
    ap (λ m. gone_on need m (line_at (walked_at (spot ∷ owed) count old) trailing)) is ∙ (cc)

-- a first wrong node stays the first
keeps : (wrong : Option Wrong) → option_or wrong None ≡ wrong
keeps None = refl
keeps (Some w) = refl

-- a bound that is high enough is not wrong
not_low : (k high low : ℕ) → low ≤ high → (if nat_lt high low then Some (Low k) else None) ≡ None
not_low k high low le = ap (λ (test : Bool). if test then Some (Low k) else None) (le-ltb high low le)

-- the look-ahead bound is no lower than the blocking bound
higher_ahead : (s : Position) → blocking s ≤ blocking s + stuck_now s
higher_ahead s = omega arith

-- a cut where the blocking bound is high enough is right, since the look-ahead bound is no lower: what it leaves is owed, and nothing else is met
cut_passes : (need : List ℕ → ℕ) (b count : ℕ) (spot : Spot) (owed : List Spot) (found : Found) → is_cut_letter b ≡ true → need spot.path ≤ length spot.path + blocking spot.place →
    LeadTo need (walked_at (spot ∷ owed) count found) (b ∷ []) (walked_at owed (count + 1) found)
cut_passes need b count spot owed found is le = by_test (b == 66) refl
  where
    given : found.given ≡ joined found.given (gathered [])
    given = sym (joined_none found.given)

    by_test : (test : Bool) → (b == 66) ≡ test → LeadTo need (walked_at (spot ∷ owed) count found) (b ∷ []) (walked_at owed (count + 1) found)
    by_test true e =
        comes need b count B spot owed owed found found (rw e refl) refl
        (sym (ap (option_or found.wrong) (not_low (count + 1) (length spot.path + blocking spot.place) (need spot.path) le) ∙ keeps found.wrong)) given
    by_test false e =
        let l : (b == 76) ≡ true = subst (λ (test : Bool). (test || (b == 76)) ≡ true) e is in
        let higher : blocking spot.place ≤ look_ahead spot.place = higher_ahead spot.place in
        comes need b count L spot owed owed found found (rw (e, l) refl) refl
        (sym (ap (option_or found.wrong) (not_low (count + 1) (length spot.path + look_ahead spot.place) (need spot.path) (omega (arith, le, higher))) ∙ keeps found.wrong)) given

-- ---- cuts that are passed over

-- they are right: what they leave is owed, and nothing else is met
pub passes : (need : List ℕ → ℕ) (most least : ℕ) (path : List ℕ) (s : Position) (passed letters left : List ℕ) (more : List Spot) (count : ℕ) (found : Found) →
    ((p : List ℕ) → need p ≤ most) → most ≤ (length path + 1) + least → AllZip (IsHighCut least s) passed letters →
    LeadTo need (walked_at (spots_below path s (passed ++ left) ++ more) count found) letters (walked_at (spots_below path s left ++ more) (count + length passed) found)
passes need most least path s [] [] left more count found at_most enough cuts trailing =
    let none : count ≡ count + 0 = omega arith in ap (λ n. line_at (walked_at (spots_below path s left ++ more) n found) trailing) none
passes need most least path s [] (b ∷ letters) left more count found at_most enough cuts trailing = absurd cuts
passes need most least path s (row ∷ passed) [] left more count found at_most enough cuts trailing = absurd cuts
passes need most least path s (row ∷ passed) (b ∷ letters) left more count found at_most enough cuts trailing =
    let spot = spot_below path s row in
    let first = cuts.0 in
    let le : need spot.path ≤ length spot.path + blocking spot.place = omega (arith, at_most spot.path, enough, first.high, length-append path (row ∷ [])) in
    let one = cut_passes need b count spot (spots_below path s (passed ++ left) ++ more) found first.cut le trailing in
    let same : (count + 1) + length passed ≡ count + length (row ∷ passed) = omega arith in
    ap (λ l. fold (after need) l letters) one
    ∙ passes need most least path s passed letters left more (count + 1) found at_most enough cuts.1 trailing
    ∙ ap (λ n. line_at (walked_at (spots_below path s left ++ more) n found) trailing) same
