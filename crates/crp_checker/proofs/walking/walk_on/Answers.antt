use Rattle.std.proofs.Common.{◌≡◌, ◌≤◌, ◌+◌, ◌-◌, ◌++◌, ◌∷◌, [], true, List, ℕ, length, take, slice_set, Option, Some, IfSome, refl, ap, subst, arith, length-append, length-set, length-take-le}
use Rattle.crp_bay.specs.Positions.{can_shift}
use Rattle.crp_bay.specs.Back.{PlaceAndTrail}
use Rattle.crp_tree.specs.Spots.{spot_below, spots_below}
use Rattle.crp_checker.specs.Symbols.{mark_of}
use Rattle.crp_checker.specs.Kept.{need_by}
use Rattle.crp_checker.specs.Pending.{back, rows_behind, pending, spot_at}
use Rattle.crp_checker.specs.Passed.{rows_from}
use Rattle.crp_checker.specs.Walks.{walked_at, LeadTo}
use Rattle.crp_checker.proofs.Onward.{last_set}
use Rattle.crp_checker.proofs.OnWalks.{child_of, not_back, passes_on, leaves, owes, owes_row, owes_behind, goes_among, walked_to}
use Rattle.crp_checker.proofs.walking.walk_on.Goals as goal

pub open-smaller-in_default-next : goal.open-smaller-in_default-next
open-smaller-in_default-next c =
    let old = c.open.path.items in
    let last = c.len-last.result - 1 in
    let end : last + 1 ≡ length old = omega (arith, c.open-test.true, c.len.ensures, c.len-last.ensures) in
    let on = not_back _ _ _ _ _ _ _ c.pass-reached.ensures.passed c.open.invariant.within c.pass-reached.ensures.within in
    let le : length old - 1 ≤ length old = omega arith in
    let less : length c.leave.new.path.items + 1 ≡ length old = omega (arith, end, ap length c.leave.ensures.path, length-take-le (length old - 1) old le) in
    omega (arith, on, less, c.open.invariant.within, c.pass-reached.ensures.within)

pub open-preserved-in_default-next : goal.open-preserved-in_default-next
open-preserved-in_default-next c =
    let old = c.open.path.items in
    let s : PlaceAndTrail = c.open.place in
    let above = c.args.above in
    let last = c.len-last.result - 1 in
    let row = c.index.result.now in
    let path : List ℕ = take last old in
    let taken = c.pass-reached.result.taken in
    let need = need_by c.args.need.now in
    let top = walked_at (pending (length c.args.path.now.items - above) c.args.path.now.items c.args.place.now) c.args.found.now.count c.args.found.now in
    let end : last + 1 ≡ length old = omega (arith, c.open-test.true, c.len.ensures, c.len-last.ensures) in
    let k = child_of above last row old end (omega (arith, c.open-test.true, c.len.ensures)) c.index.ensures in
    let enough : c.most-most.result ≤ (length path + 1) + c.saturating_sub-least.result =
    omega (arith, c.saturating_sub-least.ensures, c.len-in-open.ensures, ap length k.was, length-append path (row ∷ [])) in
    let leads = passes_on need top above c.args.found.now.count c.args.piece.now path old s c.open.taken taken row c.most-most.result c.saturating_sub-least.result
    (rows_from c.pass-reached.result.next s.place) c.open.found c.open.invariant k.was k.le c.most-most.ensures enough c.pass-reached.ensures.within c.pass-reached.ensures.passed in
    leaves need top above c.args.found.now.count c.args.piece.now path old c.leave.new.path.items s c.leave.new.place row taken c.open.found k.was c.leave.ensures.path c.leave.ensures.place k.le c.pass-reached.ensures.within
    (subst (λ (next : Option ℕ). LeadTo need top (take taken c.args.piece.now) (walked_at (spots_below path s.place (rows_from next s.place) ++ pending (length path - above) path (back s)) (c.args.found.now.count + taken) c.open.found))
    c.in_default-next.is leads)

pub returns-in_default-symbol_in-clause-walk : goal.returns-in_default-symbol_in-clause-walk
returns-in_default-symbol_in-clause-walk c =
    let old = c.open.path.items in
    let s : PlaceAndTrail = c.open.place in
    let above = c.args.above in
    let last = c.len-last.result - 1 in
    let row = c.index.result.now in
    let next = c.in-Some-next.row in
    let path : List ℕ = take last old in
    let taken = c.pass-reached.result.taken in
    let need = need_by c.args.need.now in
    let owed = pending (length c.args.path.now.items - above) c.args.path.now.items c.args.place.now in
    let top = walked_at owed c.args.found.now.count c.args.found.now in
    let end : last + 1 ≡ length old = omega (arith, c.open-test.true, c.len.ensures, c.len-last.ensures) in
    let k = child_of above last row old end (omega (arith, c.open-test.true, c.len.ensures)) c.index.ensures in
    let enough : c.most-most.result ≤ (length path + 1) + c.saturating_sub-least.result =
    omega (arith, c.saturating_sub-least.ensures, c.len-in-open.ensures, ap length k.was, length-append path (row ∷ [])) in
    let leads = passes_on need top above c.args.found.now.count c.args.piece.now path old s c.open.taken taken row c.most-most.result c.saturating_sub-least.result
    (rows_from c.pass-reached.result.next s.place) c.open.found c.open.invariant k.was k.le c.most-most.ensures enough c.pass-reached.ensures.within c.pass-reached.ensures.passed in
    let first = subst (λ (o : Option ℕ). IfSome o (λ n. 1 ≤ n)) c.in-Some-next.is c.pass-reached.ensures.first in
    let there = subst (λ (o : Option ℕ). IfSome o (λ n. n ≤ length s.place.heights)) c.in-Some-next.is c.pass-reached.ensures.there in
    let legal = subst (λ (o : Option ℕ). IfSome o (λ n. can_shift s.place n ≡ true)) c.in-Some-next.is c.pass-reached.ensures.legal in
    walked_to need owed c.args.found.now above c.args.piece.now path (slice_set old last (next - 1)) s next (next - 1) taken c.open.found
    (subst (λ (o : Option ℕ). LeadTo need top (take taken c.args.piece.now) (walked_at (spots_below path s.place (rows_from o s.place) ++ pending (length path - above) path (back s)) (c.args.found.now.count + taken) c.open.found))
    c.in-Some-next.is leads)
    c.pass-reached.ensures.within c.in_default-symbol_in.ensures.none (last_set path old last row (next - 1) end k.was) k.le (omega (arith, first)) there legal

pub returns-in_default-symbol_in-clause-sound : goal.returns-in_default-symbol_in-clause-sound
returns-in_default-symbol_in-clause-sound c =
    let old = c.open.path.items in
    let s : PlaceAndTrail = c.open.place in
    let above = c.args.above in
    let last = c.len-last.result - 1 in
    let row = c.index.result.now in
    let next = c.in-Some-next.row in
    let path : List ℕ = take last old in
    let end : last + 1 ≡ length old = omega (arith, c.open-test.true, c.len.ensures, c.len-last.ensures) in
    let k = child_of above last row old end (omega (arith, c.open-test.true, c.len.ensures)) c.index.ensures in
    let first = subst (λ (o : Option ℕ). IfSome o (λ n. 1 ≤ n)) c.in-Some-next.is c.pass-reached.ensures.first in
    let there = subst (λ (o : Option ℕ). IfSome o (λ n. n ≤ length s.place.heights)) c.in-Some-next.is c.pass-reached.ensures.there in
    let legal = subst (λ (o : Option ℕ). IfSome o (λ n. can_shift s.place n ≡ true)) c.in-Some-next.is c.pass-reached.ensures.legal in
    let is = last_set path old last row (next - 1) end k.was in
    record {
      alone = λ e. absurd (cc);
      within = λ e. omega (arith, ap length is, length-append path ((next - 1) ∷ []), k.le);
      some = λ e. (
        spot_below path s.place next,
        spots_below path s.place (rows_behind next s.place) ++ pending (length path - above) path (back s),
        owes_behind above path (slice_set old last (next - 1)) s next (next - 1) is k.le (omega (arith, first)) there legal,
      );
    }

pub open-smaller : goal.open-smaller
open-smaller c =
    let old = c.open.path.items in
    let last = c.len-last.result - 1 in
    let on = not_back _ _ _ _ _ _ _ c.pass-reached.ensures.passed c.open.invariant.within c.pass-reached.ensures.within in
    let lt = c.in-Some-symbol_in.ensures.there in
    let same : length (slice_set old last c.in-Some-next.row) ≡ length old = length-set old last c.in-Some-next.row in
    omega (arith, on, lt, same, c.in_ok-meet.ensures.little)

pub open-preserved : goal.open-preserved
open-preserved c =
    let old = c.open.path.items in
    let s : PlaceAndTrail = c.open.place in
    let above = c.args.above in
    let last = c.len-last.result - 1 in
    let row = c.index.result.now in
    let next = c.in-Some-next.row in
    let path : List ℕ = take last old in
    let taken = c.pass-reached.result.taken in
    let need = need_by c.args.need.now in
    let before = c.args.found.now.count in
    let piece = c.args.piece.now in
    let top = walked_at (pending (length c.args.path.now.items - above) c.args.path.now.items c.args.place.now) before c.args.found.now in
    let end : last + 1 ≡ length old = omega (arith, c.open-test.true, c.len.ensures, c.len-last.ensures) in
    let k = child_of above last row old end (omega (arith, c.open-test.true, c.len.ensures)) c.index.ensures in
    let enough : c.most-most.result ≤ (length path + 1) + c.saturating_sub-least.result =
    omega (arith, c.saturating_sub-least.ensures, c.len-in-open.ensures, ap length k.was, length-append path (row ∷ [])) in
    let leads = passes_on need top above before piece path old s c.open.taken taken row c.most-most.result c.saturating_sub-least.result
    (rows_from c.pass-reached.result.next s.place) c.open.found c.open.invariant k.was k.le c.most-most.ensures enough c.pass-reached.ensures.within c.pass-reached.ensures.passed in
    let new = slice_set old last next in
    let is = last_set path old last row next end k.was in
    let within : above ≤ length new = omega (arith, ap length is, length-append path (next ∷ []), k.le) in
    let there = owes need top (take taken piece) (spots_below path s.place (rows_from (Some next) s.place) ++ pending (length path - above) path (back s)) (spot_at (Some next) new s.place ∷ pending (length new - above) new s) (before + taken)
    c.open.found (owes_row above path new s next is k.le)
    (subst (λ (o : Option ℕ). LeadTo need top (take taken piece) (walked_at (spots_below path s.place (rows_from o s.place) ++ pending (length path - above) path (back s)) (before + taken) c.open.found))
    c.in-Some-next.is leads) in
    goes_among need top above before piece new c.meet.new.path.items s c.meet.new.place next taken (before + taken) _ (mark_of c.in-Some-symbol_in.symbol) c.open.found c.meet.new.found there
    (omega (arith, within, c.in_ok-meet.ensures.longer)) c.in-Some-symbol_in.ensures.there refl refl c.in-Some-symbol_in.ensures.some c.in_ok-meet.ensures.wrong c.in_ok-meet.ensures.given
    (c.in_ok-meet.ensures.owed above within (λ e. absurd (cc)))
