use Rattle.std.proofs.Common.{◌≡◌, suc, ◌<◌, ◌≤◌, List, [], ◌∷◌, ◌++◌, length, None, Some, refl, sym, ap, ◌∙◌, subst, arith, lit<, length-append, append-nil}
use Rattle.std.specs.Prelude.{reverse}
use Rattle.std.proofs.lemmas.List.{nil_from_length}
use Rattle.std.proofs.lemmas.Result.{err_from_is_err_and}
use Rattle.crp_plan.specs.Bay.{IsAt, cap}
use Rattle.crp_plan.proofs.Steps.{short_path}
use Rattle.crp_bay.specs.Positions.{child}
use Rattle.crp_bounds.specs.Moving.{IsMover}
use Rattle.crp_row.specs.Symbol as symbol
use Rattle.crp_row.specs.Rows.{symbol_of}
use Rattle.crp_tree.specs.Symbols.{leaf, leaf_symbols}
use Rattle.crp_tree.specs.Trees.{nodes, IsGivenAway, least_value, given_names}
use Rattle.crp_tree.proofs.Nodes.{given_names-append}
use Rattle.crp_tree.proofs.Followed.{pop_back, back_again}
use Rattle.crp_search.specs.Frames.{Branching as Frame, TakesTurn}
use Rattle.crp_search.specs.Limits.{dealt}
use Rattle.crp_search.specs.Searched.{AreFirstNodes}
use Rattle.crp_search.specs.Walked.{met_at, closing}
use Rattle.crp_search.proofs.Closing.{floor_branch, floor_more, none_given}
use Rattle.crp_search.proofs.UnderWay.{standing, stands_at, sets_out, legal_turn, turn_moves, turn_leads, still_short, stays, goes_down, goes_up, ends, ends_as, first_nodes, none_yet, leaf_tree, carried, reverse_push, one_less_left}
use Rattle.crp_search.proofs.Owing.{left, owed, owes_less, owes_below, owes_above}
use Rattle.crp_search.proofs.walking.walk_from.Goals as goal

pub returns-in_err-make_room-clause-end : goal.returns-in_err-make_room-clause-end
returns-in_err-make_room-clause-end g c =
    let e = err_from_is_err_and c.from_residual.result c.from_residual.ensures.1 in
    let none = g.met.S.Seek.none c.args.problem.now c.args.split c.args.seek.now (dealt (g.L.Limit.view c.args.limit.now) (g.L.Limit.puts c.args.limit.now)) in
    rw (e.1, e.2) ([], none_yet c.args.path.now.items c.args.place.now.place, g.met.S.Seek.short c.args.problem.now c.args.split _ _ _ _ [] none)

pub returns-in_err-first-clause-end : goal.returns-in_err-first-clause-end
returns-in_err-first-clause-end g c =
    let e = err_from_is_err_and c.from_residual-in_err-first.result c.from_residual-in_err-first.ensures.1 in
    rw (e.1, e.2) ([], none_yet c.args.path.now.items c.args.place.now.place, c.in_err-first.ensures.closes.ended c.args.split (omega arith))

pub from_row-requires : goal.from_row-requires
from_row-requires g c =
    let closes = rw c.in-Some.is at c.in_ok-first.ensures.closes in
    let closed = closes.closed in
    let one = closing (g.S.Seek.text c.close.new.seek) c.in-Some.closed in
    (leaf one, c.in_ok-push.ensures.symbols ∙ ap (λ t. c.make_room.new.self.symbols ++ symbol_of c.in-Some.closed.kind t ∷ []) c.text.ensures ∙ ap (λ l. l ++ one ∷ []) (c.make_room.ensures.symbols ∙ c.new-list.ensures) ∙ leaf_symbols one closed.leaf_is)

pub returns-in-Some-clause-own : goal.returns-in-Some-clause-own
returns-in-Some-clause-own g c =
    let one = closing (g.S.Seek.text c.close.new.seek) c.in-Some.closed in
    let same = leaf_tree c.make_room.new.self.symbols c.push.new.self.symbols c.from_row.result one (c.make_room.ensures.symbols ∙ c.new-list.ensures)
    (c.in_ok-push.ensures.symbols ∙ ap (λ t. c.make_room.new.self.symbols ++ symbol_of c.in-Some.closed.kind t ∷ []) c.text.ensures) c.from_row.ensures in
    let closes = rw c.in-Some.is at c.in_ok-first.ensures.closes in
    let closed = closes.closed in
    subst (λ t. IsGivenAway t → ⊥) same (λ away. let none = closed.given away in absurd (omega arith))

pub returns-in-Some-clause-given : goal.returns-in-Some-clause-given
returns-in-Some-clause-given g c =
    let one = closing (g.S.Seek.text c.close.new.seek) c.in-Some.closed in
    let same = leaf_tree c.make_room.new.self.symbols c.push.new.self.symbols c.from_row.result one (c.make_room.ensures.symbols ∙ c.new-list.ensures)
    (c.in_ok-push.ensures.symbols ∙ ap (λ t. c.make_room.new.self.symbols ++ symbol_of c.in-Some.closed.kind t ∷ []) c.text.ensures) c.from_row.ensures in
    let closes = rw (c.in-Some.is, c.as_slice.ensures.value) at c.in_ok-first.ensures.closes in
    let none = none_given c.cap-floor.result c.args.path.now.items c.args.place.now.place (g.S.Seek.text c.close.new.seek) (Some c.in-Some.closed) closes.closed in
    subst (λ t. c.new-given.result.items ≡ given_names (nodes c.args.path.now.items c.args.place.now.place t)) same (c.new-given.ensures.items ∙ sym none)

pub returns-in_err-push-clause-end : goal.returns-in_err-push-clause-end
returns-in_err-push-clause-end g c =
    let e = err_from_is_err_and c.from_residual-in_err-push.result c.from_residual-in_err-push.ensures.1 in
    let closes = rw (c.in-Some.is, c.as_slice.ensures.value) at c.in_ok-first.ensures.closes in
    let closed = closes.closed in
    let one = leaf (closing (g.S.Seek.text c.close.new.seek) c.in-Some.closed) in
    let own = nodes c.args.path.now.items c.args.place.now.place one in
    let first : AreFirstNodes c.args.path.now.items c.args.place.now.place own = record { tree = one; fits = closed.fits; rest = []; is = sym (append-nil own) } in
    rw (e.1, e.2) (own, first, g.met.S.Seek.short c.args.problem.now c.args.split _ _ _ _ _ (closes.met c.args.split (omega arith)))

pub loop-row-init : goal.loop-row-init
loop-row-init g c =
    let list_is : c.push_reserved.new.self.symbols ≡ symbol.Branch c.at-frame.result.count ∷ [] = c.push_reserved.ensures ∙ ap (λ l. l ++ symbol_of c.kind.result [] ∷ []) (c.make_room.ensures.symbols ∙ c.new-list.ensures) ∙ ap (λ k. symbol_of k [] ∷ []) c.kind.ensures in
    let begun = sets_out c.args.problem.now (standing c.args.path.now.items c.args.place.now) c.at-frame.result c.as_slice.result.now (g.S.Seek.text c.close.new.seek) _ c.requires.path c.as_slice.ensures.value c.at-frame.ensures.rows c.at-frame.ensures.mover c.at-frame.ensures.count in
    let closes = rw c.in_default.is at c.in_ok-first.ensures.closes in
    let branched = closes.met c.args.split (omega arith) in
    record {
      is_problem = c.cap-floor.ensures.problem;
      same = c.in_ok-first.ensures.same;
      ready = g.met.S.Seek.still c.args.problem.now c.args.split _ _ _ _ _ branched c.requires.ready;
      met = met_at c.as_slice.result.now c.args.place.now.place (g.S.Seek.text c.close.new.seek) None;
      under_way = carried refl refl refl (ap reverse c.new-above.ensures.items) list_is begun;
      meets = branched;
      floor_is = c.cap-floor.ensures.value;
      given_is = c.new-given.ensures.items;
    }

pub from_row-requires-in_default-pop : goal.from_row-requires-in_default-pop
from_row-requires-in_default-pop g c =
    let empty : c.loop-row.above.items ≡ [] = nil_from_length c.loop-row.above.items (let e = c.loop-row.above.ok.0 in let z = c.in_default-pop.ensures.cases.0 in omega arith) in
    let end = ends c.loop-row.invariant.under_way (ap reverse empty) c.in_default-turn.ensures.none in
    let whole = end.whole in
    (whole.tree, whole.symbols_are)

pub returns-in_default-pop : goal.returns-in_default-pop
returns-in_default-pop g c =
    let empty : c.loop-row.above.items ≡ [] = nil_from_length c.loop-row.above.items (let e = c.loop-row.above.ok.0 in let z = c.in_default-pop.ensures.cases.0 in omega arith) in
    let end = ends_as c.from_row-in_default-pop.result (ends c.loop-row.invariant.under_way (ap reverse empty) c.in_default-turn.ensures.none) c.from_row-in_default-pop.ensures in
    let meets = g.S.Seek.meets c.args.problem.now c.args.split c.args.seek.now (dealt (g.L.Limit.view c.args.limit.now) (g.L.Limit.puts c.args.limit.now)) c.loop-row.seek (dealt (g.L.Limit.view c.loop-row.limit) (g.L.Limit.puts c.loop-row.limit)) in
    record {
      fits = end.fits;
      own = end.own;
      floor = c.loop-row.invariant.floor_is ∙ ap (least_value (cap c.args.problem.now)) end.nodes_are;
      given = c.loop-row.invariant.given_is ∙ ap given_names end.nodes_are;
      met = subst meets end.nodes_are c.loop-row.invariant.meets;
      end = tt;
      same = c.loop-row.invariant.same;
    }

pub loop-row-smaller-in_default-turn : goal.loop-row-smaller-in_default-turn
loop-row-smaller-in_default-turn g c =
    let rev : reverse c.loop-row.above.items ≡ c.in-Some-pop.upper ∷ reverse c.pop.new.self.items = ap reverse c.in-Some-pop.ensures.items ∙ reverse_push c.pop.new.self.items c.in-Some-pop.upper in
    let back = goes_up c.loop-row.invariant.under_way rev c.in_default-turn.ensures.none in
    let one = back.is_child in
    let popped : c.pop-row.new.self.items ≡ back.before.path = back_again c.pop-row.new.self.items c.loop-row.path.items back.before.path _ one.row refl one.path c.pop-row.ensures.rest in
    let few = short_path c.args.problem.now c.loop-row.path.items c.loop-row.place.place c.loop-row.invariant.is_problem (stands_at c.loop-row.invariant.under_way) in
    let rows : length c.loop-row.path.items ≡ suc (length c.pop-row.new.self.items) = omega (arith, ap length one.path, ap length popped, length-append back.before.path (one.row ∷ [])) in
    subst (λ l. owed (length c.pop-row.new.self.items) c.in-Some-pop.upper (reverse c.pop.new.self.items) < owed (length c.loop-row.path.items) c.loop-row.frame l) (sym rev)
    (owes_above (length c.loop-row.path.items) (length c.pop-row.new.self.items) c.loop-row.frame c.in-Some-pop.upper (reverse c.pop.new.self.items) rows few)

pub loop-row-preserved-in_default-turn : goal.loop-row-preserved-in_default-turn
loop-row-preserved-in_default-turn g c =
    let rev : reverse c.loop-row.above.items ≡ c.in-Some-pop.upper ∷ reverse c.pop.new.self.items = ap reverse c.in-Some-pop.ensures.items ∙ reverse_push c.pop.new.self.items c.in-Some-pop.upper in
    let back = goes_up c.loop-row.invariant.under_way rev c.in_default-turn.ensures.none in
    let one = back.is_child in
    let popped : c.pop-row.new.self.items ≡ back.before.path = back_again c.pop-row.new.self.items c.loop-row.path.items back.before.path _ one.row refl one.path c.pop-row.ensures.rest in
    let stood : c.pop-popped.new.self ≡ back.before.stand = pop_back back.before.stand c.loop-row.place c.pop-popped.new.self one.row c.pop-popped.result one.stand (record { popped = c.pop-popped.ensures.popped; none = c.pop-popped.ensures.none }) in
    record {
      is_problem = c.loop-row.invariant.is_problem;
      same = c.loop-row.invariant.same;
      ready = c.loop-row.invariant.ready;
      met = c.loop-row.invariant.met;
      under_way = carried popped stood refl refl refl back.under_way;
      meets = c.loop-row.invariant.meets;
      floor_is = c.loop-row.invariant.floor_is;
      given_is = c.loop-row.invariant.given_is;
    }

pub returns-in_err-make_room-2-clause-end : goal.returns-in_err-make_room-2-clause-end
returns-in_err-make_room-2-clause-end g c =
    let e = err_from_is_err_and c.from_residual-in_err-make_room-2.result c.from_residual-in_err-make_room-2.ensures.1 in
    rw (e.1, e.2) (c.loop-row.invariant.met, first_nodes c.loop-row.invariant.under_way, g.met.S.Seek.short c.args.problem.now c.args.split _ _ _ _ _ c.loop-row.invariant.meets)

pub returns-in_err-make_room-3-clause-end : goal.returns-in_err-make_room-3-clause-end
returns-in_err-make_room-3-clause-end g c =
    let e = err_from_is_err_and c.from_residual-in_err-make_room-3.result c.from_residual-in_err-make_room-3.ensures.1 in
    rw (e.1, e.2) (c.loop-row.invariant.met, first_nodes c.loop-row.invariant.under_way, g.met.S.Seek.short c.args.problem.now c.args.split _ _ _ _ _ c.loop-row.invariant.meets)

pub push-requires-in-loop-row : goal.push-requires-in-loop-row
push-requires-in-loop-row g c =
    let few : length c.loop-row.path.items < 672 = still_short c.loop-row.invariant.under_way c.in-Some-turn.ensures.turn c.loop-row.invariant.is_problem in
    (lit< tt, omega arith)

pub walk_child-requires-clause-path : goal.walk_child-requires-clause-path
walk_child-requires-clause-path g c =
    subst (λ l. IsAt c.args.problem.now l (child c.loop-row.place.place c.in-Some-turn.row)) (sym (c.as_slice-in-loop-row.ensures.value ∙ c.push-in-loop-row.ensures.items))
    (turn_leads c.loop-row.invariant.under_way c.in-Some-turn.ensures.turn c.loop-row.invariant.is_problem)

pub walk_child-requires-clause-mover : goal.walk_child-requires-clause-mover
walk_child-requires-clause-mover g c = subst (λ m. IsMover m c.loop-row.place.place) (sym c.mover.ensures) (turn_moves c.loop-row.invariant.under_way c.in-Some-turn.ensures.turn)

pub walk_child-requires-clause-row : goal.walk_child-requires-clause-row
walk_child-requires-clause-row g c = legal_turn c.loop-row.invariant.under_way c.in-Some-turn.ensures.turn

pub returns-in_err-found-clause-end : goal.returns-in_err-found-clause-end
returns-in_err-found-clause-end g c =
    let e = err_from_is_err_and c.from_residual-in_err-found.result c.from_residual-in_err-found.ensures.1 in
    let first = subst (AreFirstNodes c.args.path.now.items c.args.place.now.place) (sym (append-nil c.loop-row.invariant.met)) (first_nodes c.loop-row.invariant.under_way) in
    rw (e.1, e.2) (c.loop-row.invariant.met ++ [], first, g.met.S.Seek.ended c.args.problem.now c.args.split _ _ _ _ _ _ _ _ _ c.loop-row.invariant.meets (c.in_err-found.ensures.closes.ended c.args.split (omega arith)))

pub loop-row-smaller-in_default-found : goal.loop-row-smaller-in_default-found
loop-row-smaller-in_default-found g c =
    let rev : reverse c.push_reserved-in_default-found-2.new.self.items ≡ c.turn.new.self ∷ reverse c.loop-row.above.items = ap reverse (c.push_reserved-in_default-found-2.ensures.items ∙ ap (λ (f : Frame). c.make_room-in-loop-row-2.new.list.items ++ f ∷ []) c.replace.ensures.value ∙ ap (λ (l : List Frame). l ++ c.turn.new.self ∷ []) c.make_room-in-loop-row-2.ensures.items) ∙ reverse_push c.loop-row.above.items c.turn.new.self in
    let few : length c.loop-row.path.items < 672 = still_short c.loop-row.invariant.under_way c.in-Some-turn.ensures.turn c.loop-row.invariant.is_problem in
    let rows : length c.push-in-loop-row.new.self.items ≡ suc (length c.loop-row.path.items) = omega (arith, ap length c.push-in-loop-row.ensures.items, length-append c.loop-row.path.items (c.in-Some-turn.row ∷ [])) in
    let low : left c.replace.new.dest ≤ 12 = subst (λ (f : Frame). left f ≤ 12) (sym c.replace.ensures.after) (let le = c.at-below.ensures.few in omega arith) in
    subst (λ l. owed (length c.push-in-loop-row.new.self.items) c.replace.new.dest l < owed (length c.loop-row.path.items) c.loop-row.frame (reverse c.loop-row.above.items)) (sym rev)
    (owes_below (length c.loop-row.path.items) (length c.push-in-loop-row.new.self.items) c.loop-row.frame c.turn.new.self c.replace.new.dest (reverse c.loop-row.above.items) rows (omega arith) (one_less_left c.in-Some-turn.ensures.turn) low)

pub loop-row-preserved-in_default-found : goal.loop-row-preserved-in_default-found
loop-row-preserved-in_default-found g c =
    let rev : reverse c.push_reserved-in_default-found-2.new.self.items ≡ c.turn.new.self ∷ reverse c.loop-row.above.items = ap reverse (c.push_reserved-in_default-found-2.ensures.items ∙ ap (λ (f : Frame). c.make_room-in-loop-row-2.new.list.items ++ f ∷ []) c.replace.ensures.value ∙ ap (λ (l : List Frame). l ++ c.turn.new.self ∷ []) c.make_room-in-loop-row-2.ensures.items) ∙ reverse_push c.loop-row.above.items c.turn.new.self in
    let path = c.as_slice-in-loop-row.result.now in
    let next = child c.loop-row.place.place c.in-Some-turn.row in
    let down = rw c.in_default-found.is at c.in_ok-found.ensures.down in
    let closes = rw c.in_default-found.is at c.in_ok-found.ensures.closes in
    let branched = closes.met c.args.split (omega arith) in
    let own = met_at path next (g.S.Seek.text c.walk_child.new.seek) None in
    let told = rw c.in_default-found.is at c.in_ok-found.ensures.given in
    let list_is : c.push_reserved-in_default-found.new.self.symbols ≡ c.loop-row.list.symbols ++ symbol.Branch c.at-below.result.count ∷ [] = c.push_reserved-in_default-found.ensures ∙ ap (λ l. l ++ symbol_of c.kind-in_default-found.result [] ∷ []) c.make_room-in-loop-row.ensures.symbols ∙ ap (λ k. c.loop-row.list.symbols ++ symbol_of k [] ∷ []) c.kind-in_default-found.ensures in
    let gone = goes_down c.loop-row.invariant.under_way c.in-Some-turn.ensures.turn (standing c.push-in-loop-row.new.self.items c.walk_child.new.place) c.at-below.result path (g.S.Seek.text c.walk_child.new.seek) _ c.loop-row.invariant.is_problem c.as_slice-in-loop-row.ensures.value c.push-in-loop-row.ensures.items down c.at-below.ensures.rows c.at-below.ensures.mover c.at-below.ensures.count in
    record {
      is_problem = c.loop-row.invariant.is_problem;
      same = (c.walk_child.ensures.same.0 ∙ c.loop-row.invariant.same.0, c.walk_child.ensures.same.1 ∙ c.loop-row.invariant.same.1);
      ready = g.met.S.Seek.still c.args.problem.now c.args.split _ _ _ _ _ branched c.loop-row.invariant.ready;
      met = c.loop-row.invariant.met ++ own;
      under_way = carried refl refl c.replace.ensures.after rev list_is gone;
      meets = g.met.S.Seek.onward c.args.problem.now c.args.split _ _ _ _ _ _ _ _ c.loop-row.invariant.meets branched;
      floor_is = floor_branch (cap c.args.problem.now) c.loop-row.floor c.loop-row.invariant.met path next c.loop-row.invariant.floor_is;
      given_is = told ∙ ap (λ l. l ++ given_names own) c.loop-row.invariant.given_is ∙ sym (given_names-append c.loop-row.invariant.met own);
    }

pub loop-row-smaller : goal.loop-row-smaller
loop-row-smaller g c =
    let turn : TakesTurn c.loop-row.frame c.turn.new.self c.in-Some-turn.row = c.in-Some-turn.ensures.turn in
    let popped : c.pop-row-in-loop-row.new.self.items ≡ c.loop-row.path.items = back_again c.pop-row-in-loop-row.new.self.items c.push-in-loop-row.new.self.items c.loop-row.path.items _ c.in-Some-turn.row refl c.push-in-loop-row.ensures.items c.pop-row-in-loop-row.ensures.rest in
    rw (popped, c.make_room-in-loop-row-2.ensures.items) (owes_less (length c.loop-row.path.items) c.loop-row.frame c.turn.new.self (reverse c.loop-row.above.items) (let e = one_less_left turn in omega (arith, e)) (one_less_left turn))

pub loop-row-preserved : goal.loop-row-preserved
loop-row-preserved g c =
    let popped : c.pop-row-in-loop-row.new.self.items ≡ c.loop-row.path.items = back_again c.pop-row-in-loop-row.new.self.items c.push-in-loop-row.new.self.items c.loop-row.path.items _ c.in-Some-turn.row refl c.push-in-loop-row.ensures.items c.pop-row-in-loop-row.ensures.rest in
    let path = c.as_slice-in-loop-row.result.now in
    let one = closing (g.S.Seek.text c.walk_child.new.seek) c.in-Some-found.closed in
    let back = rw c.in-Some-found.is at c.in_ok-found.ensures.back in
    let closes = rw c.in-Some-found.is at c.in_ok-found.ensures.closes in
    let closed = closes.closed in
    let own_met = closes.met c.args.split (omega arith) in
    let list_is : c.push-in-loop-row-2.new.self.symbols ≡ c.loop-row.list.symbols ++ one ∷ [] =
    c.in_ok-push-2.ensures.symbols ∙ ap (λ t. c.make_room-in-loop-row.new.self.symbols ++ symbol_of c.in-Some-found.closed.kind t ∷ []) c.text-in-loop-row.ensures ∙ ap (λ l. l ++ one ∷ []) c.make_room-in-loop-row.ensures.symbols in
    let stayed = stays c.loop-row.invariant.under_way c.in-Some-turn.ensures.turn path one (c.as_slice-in-loop-row.ensures.value ∙ c.push-in-loop-row.ensures.items) closed.leaf_is closed.fits in
    let own = nodes path (child c.loop-row.place.place c.in-Some-turn.row) (leaf one) in
    let told = rw c.in-Some-found.is at c.in_ok-found.ensures.given in
    record {
      is_problem = c.loop-row.invariant.is_problem;
      same = (c.walk_child.ensures.same.0 ∙ c.loop-row.invariant.same.0, c.walk_child.ensures.same.1 ∙ c.loop-row.invariant.same.1);
      ready = g.met.S.Seek.still c.args.problem.now c.args.split _ _ _ _ _ own_met c.loop-row.invariant.ready;
      met = c.loop-row.invariant.met ++ own;
      under_way = carried popped back refl (ap reverse c.make_room-in-loop-row-2.ensures.items) list_is stayed;
      meets = g.met.S.Seek.onward c.args.problem.now c.args.split _ _ _ _ _ _ _ _ c.loop-row.invariant.meets own_met;
      floor_is = floor_more (cap c.args.problem.now) c.loop-row.floor c.in-Some-found.closed.floor c.loop-row.invariant.met own c.loop-row.invariant.floor_is closed.floor_is;
      given_is = told ∙ ap (λ l. l ++ given_names own) c.loop-row.invariant.given_is ∙ sym (given_names-append c.loop-row.invariant.met own);
    }

pub returns-in_err-push-2-clause-end : goal.returns-in_err-push-2-clause-end
returns-in_err-push-2-clause-end g c =
    let e = err_from_is_err_and c.from_residual-in_err-push-2.result c.from_residual-in_err-push-2.ensures.1 in
    let path = c.as_slice-in-loop-row.result.now in
    let one = closing (g.S.Seek.text c.walk_child.new.seek) c.in-Some-found.closed in
    let closes = rw c.in-Some-found.is at c.in_ok-found.ensures.closes in
    let closed = closes.closed in
    let stayed = stays c.loop-row.invariant.under_way c.in-Some-turn.ensures.turn path one (c.as_slice-in-loop-row.ensures.value ∙ c.push-in-loop-row.ensures.items) closed.leaf_is closed.fits in
    rw (e.1, e.2) (
      c.loop-row.invariant.met ++ nodes path (child c.loop-row.place.place c.in-Some-turn.row) (leaf one),
      first_nodes stayed,
      g.met.S.Seek.short c.args.problem.now c.args.split _ _ _ _ _ (g.met.S.Seek.onward c.args.problem.now c.args.split _ _ _ _ _ _ _ _ c.loop-row.invariant.meets (closes.met c.args.split (omega arith))),
    )
