-- From symbol to symbol of a piece.
use Rattle.std.proofs.Common.{◌≡◌, inl, inr, ℕ, suc, ◌+◌, ◌-◌, ◌≤◌, ◌<◌, true, List, [], ◌∷◌, ◌++◌, length, take, drop, get_or, fold, Some, None, refl, sym, ap, ◌∙◌, subst, arith, length-append}
use Rattle.std.specs.Option.{option_or}
use Rattle.std.proofs.lemmas.List.{length-take-le, take_more, take_all, length-drop}
use Rattle.std.proofs.lemmas.List.Elements.{length_all_zip}
use Rattle.std.proofs.lemmas.List.Sums.{fold-append}
use Rattle.crp_plan.specs.Bay.{Position}
use Rattle.crp_bay.specs.Positions.{can_shift}
use Rattle.crp_bay.specs.Back.{PlaceAndTrail}
use Rattle.crp_tree.specs.Mark.{Mark}
use Rattle.crp_tree.specs.Trees.{given_names}
use Rattle.crp_checker.specs.Gathered.{gathered, joined}
use Rattle.crp_checker.specs.declared.found.Found.{Found}
use Rattle.crp_tree.specs.Spots.{Spot, node_at, spots_below, owed_behind}
use Rattle.crp_checker.specs.Symbols.{Walked, symbol_at, wrong_at, after}
use Rattle.crp_checker.specs.Pending.{up, back, rows_behind, pending, spot_at}
use Rattle.crp_checker.specs.Passed.{IsHighCut, ArePassed, rows_from}
use Rattle.crp_checker.specs.Walks.{walked_at, line_at, LeadTo, IsWalk, IsStopped}
use Rattle.crp_checker.proofs.Onward.{is_next, last_split, branch_owes, up_again, ends}
use Rattle.crp_checker.proofs.PassedOver.{comes, passes}

-- some bytes, and then others
pub leads_on : (need : List ℕ → ℕ) (old between new : Walked) (bytes more : List ℕ) → LeadTo need old bytes between → LeadTo need between more new → LeadTo need old (bytes ++ more) new
leads_on need old between new bytes more first second trailing =
    fold-append (after need) (line_at old trailing) bytes more ∙ ap (λ l. fold (after need) l more) (first trailing) ∙ second trailing

-- no bytes
pub nothing_read : (need : List ℕ → ℕ) (old : Walked) → LeadTo need old [] old
nothing_read need old trailing = refl

-- what is owed, said otherwise
pub owes : (need : List ℕ → ℕ) (old : Walked) (bytes : List ℕ) (owed left : List Spot) (count : ℕ) (found : Found) → owed ≡ left → LeadTo need old bytes (walked_at owed count found) → LeadTo need old bytes (walked_at left count found)
owes need old bytes owed left count found e leads = subst (λ l. LeadTo need old bytes (walked_at l count found)) e leads

-- ---- a branch

-- where a branch stands, and what was read of a piece down to there
pub record IsAmong (need : List ℕ → ℕ) (top : Walked) (above before : ℕ) (piece path : List ℕ) (s : PlaceAndTrail) (taken : ℕ) (found : Found) : Type 0 where
  pub above_is : above ≤ length path
  pub within : taken ≤ length piece
  pub walked : LeadTo need top (take taken piece) (walked_at (pending (length path - above) path s) (before + taken) found)

-- the path to a child, by that to the branch
pub record IsChild (above : ℕ) (old path : List ℕ) (row : ℕ) : Type 0 where
  pub was : old ≡ path ++ row ∷ []
  pub le : above ≤ length path

pub child_of : (above last row : ℕ) (old : List ℕ) → last + 1 ≡ length old → above < length old → row ≡ get_or old last row → IsChild above old (take last old) row
child_of above last row old end lt is =
    let was = last_split old last row end is in
    record { was = was; le = omega (arith, ap length was, length-append (take last old) (row ∷ []), lt) }

-- a stop never goes back
pub not_back : (least : ℕ) (s : Position) (rows left piece : List ℕ) (t taken : ℕ) → ArePassed least s rows left (take t piece) (take taken piece) → t ≤ length piece → taken ≤ length piece → t ≤ taken
not_back least s rows left piece t taken p before within =
    omega (arith, before, length-take-le t piece before, length-take-le taken piece within, ap length p.bytes_are, length-append (take t piece) p.letters)

-- cuts are passed over: what the branch owes then
pub passes_on : (need : List ℕ → ℕ) (top : Walked) (above before : ℕ) (piece path old : List ℕ) (s : PlaceAndTrail) (t taken row most least : ℕ) (left : List ℕ) (found : Found) →
    IsAmong need top above before piece old s t found → old ≡ path ++ row ∷ [] → above ≤ length path → ((p : List ℕ) → need p ≤ most) → most ≤ (length path + 1) + least → taken ≤ length piece →
    ArePassed least s.place (rows_behind row s.place) left (take t piece) (take taken piece) →
    LeadTo need top (take taken piece) (walked_at (spots_below path s.place left ++ pending (length path - above) path (back s)) (before + taken) found)
passes_on need top above before piece path old s t taken row most least left found among was le at_most enough within p =
    let rest = pending (length path - above) path (back s) in
    let owed : pending (length old - above) old s ≡ spots_below path s.place (p.passed ++ left) ++ rest =
    branch_owes above path old s row was le ∙ ap (λ r. spots_below path s.place r ++ rest) p.rows_are in
    let many : (before + t) + length p.passed ≡ before + taken =
    omega (arith, among.within, length-take-le t piece among.within, length-take-le taken piece within, ap length p.bytes_are, length-append (take t piece) p.letters, length_all_zip (IsHighCut least s.place) p.passed p.letters p.cuts) in
    subst (λ l. LeadTo need top l (walked_at (spots_below path s.place left ++ rest) (before + taken) found)) (sym p.bytes_are)
    (subst (λ n. LeadTo need top (take t piece ++ p.letters) (walked_at (spots_below path s.place left ++ rest) n found)) many
    (leads_on need top (walked_at (spots_below path s.place (p.passed ++ left) ++ rest) (before + t) found) (walked_at (spots_below path s.place left ++ rest) ((before + t) + length p.passed) found)
    (take t piece) p.letters
    (owes need top (take t piece) (pending (length old - above) old s) (spots_below path s.place (p.passed ++ left) ++ rest) (before + t) found owed among.walked)
    (passes need most least path s.place p.passed p.letters left rest (before + t) found at_most enough p.cuts)))

-- no row is left: the branch is left
pub leaves : (need : List ℕ → ℕ) (top : Walked) (above before : ℕ) (piece path old new : List ℕ) (s t : PlaceAndTrail) (row taken : ℕ) (found : Found) → old ≡ path ++ row ∷ [] → new ≡ up old → t ≡ back s → above ≤ length path → taken ≤ length piece →
    LeadTo need top (take taken piece) (walked_at (spots_below path s.place [] ++ pending (length path - above) path (back s)) (before + taken) found) → IsAmong need top above before piece new t taken found
leaves need top above before piece path old new s t row taken found was is gone le within leads =
    let same : path ≡ new = sym (is ∙ ap up was ∙ up_again path row) in
    record {
      above_is = subst (λ l. above ≤ length l) same le;
      within = within;
      walked = subst (λ l. LeadTo need top (take taken piece) (walked_at (pending (length l - above) l t) (before + taken) found)) same
          (subst (λ u. LeadTo need top (take taken piece) (walked_at (pending (length path - above) path u) (before + taken) found)) (sym gone) leads);
    }

-- a legal row is left: a tree is owed there
pub owes_row : (above : ℕ) (path new : List ℕ) (s : PlaceAndTrail) (row : ℕ) → new ≡ path ++ row ∷ [] → above ≤ length path →
    spots_below path s.place (rows_from (Some row) s.place) ++ pending (length path - above) path (back s) ≡ spot_at (Some row) new s.place ∷ pending (length new - above) new s
owes_row above path new s row is le =
    ap (λ l. spot_at (Some row) (path ++ row ∷ []) s.place ∷ l) (sym (branch_owes above path new s row is le))
    ∙ ap (λ l. spot_at (Some row) l s.place ∷ pending (length new - above) new s) (sym is)

-- so it is behind the row before it
pub owes_behind : (above : ℕ) (path new : List ℕ) (s : PlaceAndTrail) (row last : ℕ) → new ≡ path ++ last ∷ [] → above ≤ length path → last + 1 ≡ row → row ≤ length s.place.heights → can_shift s.place row ≡ true →
    pending (length new - above) new s ≡ spots_below path s.place (rows_from (Some row) s.place) ++ pending (length path - above) path (back s)
owes_behind above path new s row last is le follows there can =
    branch_owes above path new s last is le
    ∙ ap (λ l. spots_below path s.place l ++ pending (length path - above) path (back s)) (is_next s.place last row (sym follows) (omega (arith, follows, there)) can)

-- a symbol comes there
pub goes_among : (need : List ℕ → ℕ) (top : Walked) (above before : ℕ) (piece path new : List ℕ) (s t : PlaceAndTrail) (row taken count b : ℕ) (mark : Mark) (old found : Found) →
    LeadTo need top (take taken piece) (walked_at (spot_at (Some row) path s.place ∷ pending (length path - above) path s) count old) →
    above ≤ length new → taken < length piece → count ≡ before + taken → b ≡ get_or piece taken 0 → symbol_at count b ≡ Some mark →
    found.wrong ≡ option_or old.wrong (wrong_at need (count + 1) mark (spot_at (Some row) path s.place)) →
    found.given ≡ joined old.given (gathered (given_names (node_at (spot_at (Some row) path s.place) mark ∷ []))) →
    pending (length new - above) new t ≡ owed_behind mark (spot_at (Some row) path s.place) (pending (length path - above) path s) →
    IsAmong need top above before piece new t (taken + 1) found
goes_among need top above before piece path new s t row taken count b mark old found leads le lt counted read is wrong given owed =
    let spot = spot_at (Some row) path s.place in
    let rest = pending (length path - above) path s in
    let more : take taken piece ++ b ∷ [] ≡ take (taken + 1) piece = ap (λ x. take taken piece ++ x ∷ []) read ∙ sym (take_more piece taken 0 lt) in
    let many : count + 1 ≡ before + (taken + 1) = omega (arith, counted) in
    record {
      above_is = le;
      within = omega (arith, lt);
      walked = subst (λ n. LeadTo need top (take (taken + 1) piece) (walked_at (pending (length new - above) new t) n found)) many
          (subst (λ l. LeadTo need top l (walked_at (pending (length new - above) new t) (count + 1) found)) more
          (leads_on need top (walked_at (spot ∷ rest) count old) (walked_at (pending (length new - above) new t) (count + 1) found) (take taken piece) (b ∷ []) leads
          (comes need b count mark spot rest (pending (length new - above) new t) old found is owed wrong given)));
    }

-- ---- the end

-- no branch is open
pub walked_out : (need : List ℕ → ℕ) (owed : List Spot) (old : Found) (above : ℕ) (piece path : List ℕ) (s : PlaceAndTrail) (taken : ℕ) (found : Found) →
    IsAmong need (walked_at owed old.count old) above old.count piece path s taken found → length path ≤ above → IsWalk need owed old piece [] (record found { count = old.count + taken }) taken
walked_out need owed old above piece path s taken found among le = record {
  within = among.within;
  walked = owes need (walked_at owed old.count old) (take taken piece) (pending (length path - above) path s) [] (old.count + taken) found (sym (ends above path s le)) among.walked;
  stopped = λ lt. inl refl;
}

-- the piece ends, or no symbol comes, where a legal row is left
pub walked_to : (need : List ℕ → ℕ) (owed : List Spot) (old : Found) (above : ℕ) (piece path new : List ℕ) (s : PlaceAndTrail) (row last taken : ℕ) (found : Found) →
    LeadTo need (walked_at owed old.count old) (take taken piece) (walked_at (spots_below path s.place (rows_from (Some row) s.place) ++ pending (length path - above) path (back s)) (old.count + taken) found) →
    taken ≤ length piece → (taken < length piece → symbol_at (old.count + taken) (get_or piece taken 0) ≡ None) →
    new ≡ path ++ last ∷ [] → above ≤ length path → last + 1 ≡ row → row ≤ length s.place.heights → can_shift s.place row ≡ true →
    IsWalk need owed old piece (pending (length new - above) new s) (record found { count = old.count + taken }) taken
walked_to need owed old above piece path new s row last taken found leads within none is le follows there can = record {
  within = within;
  walked = owes need (walked_at owed old.count old) (take taken piece) (spots_below path s.place (rows_from (Some row) s.place) ++ pending (length path - above) path (back s)) (pending (length new - above) new s)
      (old.count + taken) found (sym (owes_behind above path new s row last is le follows there can)) leads;
  stopped = λ lt. inr (none lt);
}

-- no symbol came, or none is owed
pub stays : (need : List ℕ → ℕ) (owed : List Spot) (found : Found) (piece : List ℕ) → (0 < length piece → IsStopped owed found.count (get_or piece 0 0)) → IsWalk need owed found piece owed found 0
stays need owed found piece stopped = record { within = omega arith; walked = nothing_read need (walked_at owed found.count found); stopped = stopped }

-- the first symbol of a piece, and a walk behind it
pub walks_on : (need : List ℕ → ℕ) (owed between left : List Spot) (old first found : Found) (piece : List ℕ) (b n taken : ℕ) → 0 < length piece → b ≡ get_or piece 0 0 → taken ≡ n + 1 →
    LeadTo need (walked_at owed old.count old) (b ∷ []) (walked_at between first.count first) → IsWalk need between first (drop 1 piece) left found n → IsWalk need owed old piece left found taken
walks_on need owed between left old first found [] b n taken some read more leads w = absurd (omega arith)
walks_on need owed between left old first found (x ∷ xs) b n taken some read more leads w =
    let e : suc n ≡ taken = omega (arith, more) in
    subst (IsWalk need owed old (x ∷ xs) left found) e (record {
      within = omega (arith, w.within);
      walked = leads_on need (walked_at owed old.count old) (walked_at between first.count first) (walked_at left found.count found) (x ∷ []) (take n xs)
          (subst (λ y. LeadTo need (walked_at owed old.count old) (y ∷ []) (walked_at between first.count first)) read leads) w.walked;
      stopped = λ lt. w.stopped (omega (arith, lt));
    })

-- what is left of a piece
pub rest_is : (n : ℕ) (piece : List ℕ) → take (length piece - n) (drop n piece) ≡ drop n piece
rest_is n piece = take_all (length piece - n) (drop n piece) (omega (arith, length-drop n piece))
