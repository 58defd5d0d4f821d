use Rattle.std.proofs.Common.{◌≡◌, ◌≤◌, ◌+◌, ◌-◌, ◌∷◌, [], length, get_or, None, refl, sym, ap, ◌∙◌, subst, arith}
use Rattle.std.specs.Option.{option_or}
use Rattle.crp_checker.specs.declared.found.Found.{Found}
use Rattle.crp_tree.specs.Spots.{owed_behind}
use Rattle.crp_checker.specs.Symbols.{mark_of, wrong_at}
use Rattle.crp_checker.specs.Kept.{need_by}
use Rattle.crp_checker.specs.Pending.{pending, spot_at, owed_by}
use Rattle.crp_checker.specs.Walks.{walked_at, LeadTo, IsWalk}
use Rattle.crp_checker.proofs.Onward.{ends}
use Rattle.crp_checker.proofs.PassedOver.{comes}
use Rattle.crp_checker.proofs.OnWalks.{rest_is, walks_on}
use Rattle.crp_checker.proofs.walking.walk_first.Goals as goal

pub returns-clause-walk : goal.returns-clause-walk
returns-clause-walk c =
    let path = c.args.path.now.items in
    let s = c.args.place.now in
    let above = c.args.above in
    let piece = c.args.piece.now in
    let old = c.args.found.now in
    let need = need_by c.args.need.now in
    let mark = mark_of c.in-Some-symbol_in.symbol in
    let spot = spot_at None path s.place in
    let b = get_or piece 0 0 in
    let between = pending (length c.meet.new.path.items - above) c.meet.new.path.items c.meet.new.place in
    let first : Found = record c.meet.new.found { count = c.in-Some.number } in
    let left = owed_by c.in_ok-taken.field-0.next (length c.walk_on.new.path.items - above) c.walk_on.new.path.items c.walk_on.new.place in
    let n = c.in_ok-taken.field-0.taken in
    let e : c.in-Some.number ≡ old.count + 1 = omega (arith, c.in-Some.ensures) in
    let le : length path ≤ above = omega (arith, c.requires) in
    let within : above ≤ length path = omega (arith, c.requires) in
    let wrong = subst (λ k. c.meet.new.found.wrong ≡ option_or old.wrong (wrong_at need k mark spot)) e c.in_ok-meet.ensures.wrong in
    let behind = c.in_ok-meet.ensures.owed above within (λ none. le) ∙ ap (owed_behind mark spot) (sym (ends above path s le)) in
    let leads = subst (λ k. LeadTo need (walked_at (spot ∷ []) old.count old) (b ∷ []) (walked_at between k first)) (sym e)
    (comes need b old.count mark spot [] between old first c.in-Some-symbol_in.ensures.some behind wrong c.in_ok-meet.ensures.given) in
    walks_on need (spot ∷ []) between left old first c.walk_on.new.found piece b n (n + 1) c.in-Some-symbol_in.ensures.there refl refl leads
    (subst (λ l. IsWalk need between first l left c.walk_on.new.found n) (rest_is 1 piece) c.in_ok-taken.ensures.walk)
