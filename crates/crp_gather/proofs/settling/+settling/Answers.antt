use Rattle.std.proofs.Common.{◌≡◌, ℕ, ◌<◌, [], ◌∷◌, ◌++◌, List, length, get_or, Contains, All, refl, sym, ap, ◌∙◌, subst, arith, lit<, length-append, add-one}
use Rattle.std.proofs.lemmas.List.Elements.{All-tail, Contains-get_or}
use Rattle.crp_plan.specs.Bay.{IsAt}
use Rattle.crp_plan.proofs.Steps.{short_path}
use Rattle.crp_bay.specs.Back.{PlaceAndTrail}
use Rattle.crp_bay.proofs.Walked.{target_goes_on}
use Rattle.crp_bay.specs.Positions.{targets, child}
use Rattle.crp_row.specs.Symbol as symbol
use Rattle.crp_row.specs.Rows.{symbol_of}
use Rattle.crp_tree.specs.Tree.{Tree}
use Rattle.crp_tree.specs.Trees.{IsInPlace, Fits, nodes, least_value}
use Rattle.crp_tree.specs.Listed.{nodes_below, AreFit}
use Rattle.crp_tree.specs.Symbols.{tree_of, some_trees, leaf, ComesFirst}
use Rattle.crp_tree.proofs.Followed.{Pushes, legal_push, pop_back, back_again}
use Rattle.crp_tree.proofs.Listed.{Meets, branch_node, fit_lengths, met_fits, met_all}
use Rattle.crp_tree.proofs.Parsed.{leaf_first, IsBelow, below, IsNext, next_tree, all_met, above_trees}
use Rattle.crp_gather.proofs.TreesSettled.{no_branch, leaf_written, one_written, all_written}
use Rattle.crp_gather.proofs.settling.+settling.Goals as goal

pub settle_below-push-requires-in-loop-row : goal.settle_below-push-requires-in-loop-row
settle_below-push-requires-in-loop-row t c =
    let rows : c.as_slice-rows.result.now ≡ targets c.args.place.now.place = c.as_slice-rows.ensures.value ∙ c.targets-targets.ensures.value ∙ ap (λ (v : PlaceAndTrail). targets v.place) c.position.ensures in
    let row : ℕ = get_or c.as_slice-rows.result.now c.loop-row.row-index 0 in
    let legal : Contains (targets c.args.place.now.place) row = subst (λ l. Contains l row) rows (Contains-get_or c.as_slice-rows.result.now c.loop-row.row-index 0 c.loop-row-test.true) in
    let leads : IsAt c.args.problem.now (c.args.path.now.items ++ row ∷ []) (child c.args.place.now.place row) = target_goes_on c.args.problem.now c.args.path.now.items c.args.place.now.place row c.cap-floor.ensures.problem c.requires.path legal in
    let few = short_path c.args.problem.now (c.args.path.now.items ++ row ∷ []) (child c.args.place.now.place row) c.cap-floor.ensures.problem leads in
    (lit< tt, omega (arith, few, length-append c.args.path.now.items (row ∷ []), ap length c.loop-row.invariant.path))

pub settle_below-settle_tree-requires : goal.settle_below-settle_tree-requires
settle_below-settle_tree-requires t c =
    let rows : c.as_slice-rows.result.now ≡ targets c.args.place.now.place = c.as_slice-rows.ensures.value ∙ c.targets-targets.ensures.value ∙ ap (λ (v : PlaceAndTrail). targets v.place) c.position.ensures in
    let row : ℕ = get_or c.as_slice-rows.result.now c.loop-row.row-index 0 in
    let legal : Contains (targets c.args.place.now.place) row = subst (λ l. Contains l row) rows (Contains-get_or c.as_slice-rows.result.now c.loop-row.row-index 0 c.loop-row-test.true) in
    let leads : IsAt c.args.problem.now (c.args.path.now.items ++ row ∷ []) (child c.args.place.now.place row) = target_goes_on c.args.problem.now c.args.path.now.items c.args.place.now.place row c.cap-floor.ensures.problem c.requires.path legal in
    let few = short_path c.args.problem.now (c.args.path.now.items ++ row ∷ []) (child c.args.place.now.place row) c.cap-floor.ensures.problem leads in
    let placed : c.push-pushed.new.self ≡ record { place = child c.args.place.now.place row; trail = c.args.place.now.place ∷ c.args.place.now.trail } =
    legal_push c.args.place.now row c.push-pushed.new.self c.push-pushed.result (subst (λ (v : PlaceAndTrail). Pushes v row c.push-pushed.new.self c.push-pushed.result) c.loop-row.invariant.place (record { target = c.push-pushed.ensures.target; pushed = c.push-pushed.ensures.pushed })) legal in
    let longer : c.push-in-loop-row.new.self.items ≡ c.args.path.now.items ++ row ∷ [] = c.push-in-loop-row.ensures.items ∙ ap (λ l. l ++ row ∷ []) c.loop-row.invariant.path in
    let b : IsBelow c.args.path.now.items c.args.place.now.place c.args.count c.args.rest.now c.requires.whole.0 =
    below c.args.path.now.items c.args.place.now.place (symbol.Branch c.args.count) (symbol.Branch c.args.count ∷ c.args.rest.now) c.args.rest.now c.requires.whole.0 c.args.count refl refl c.requires.whole.1 c.requires.fits c.requires.in_place in
    let trees : List Tree = some_trees c.args.count c.args.rest.now in
    let lengths = fit_lengths c.args.place.now.place (targets c.args.place.now.place) trees b.fit in
    let lt = c.loop-row-test.true in
    let there : c.loop-row.row-index < length trees = omega (arith, lt, lengths, ap length rows) in
    let n : IsNext c.args.rest.now trees c.loop-row.row-index c.loop-row.rest = next_tree c.args.rest.now c.loop-row.rest c.requires.whole.0 trees c.loop-row.row-index b.first.symbols_are c.loop-row.invariant.half there in
    let m : Meets c.args.path.now.items c.push-in-loop-row.new.self.items c.args.place.now.place c.push-pushed.new.self.place c.as_slice-rows.result.now trees c.loop-row.row-index row (tree_of c.loop-row.rest) = record {
      in_rows = lt;
      in_trees = there;
      is_row = refl;
      is_next = ap (λ (v : PlaceAndTrail). v.place) placed;
      is_here = longer;
      is_tree = n.is_tree;
    } in
    let at : IsAt c.args.problem.now c.push-in-loop-row.new.self.items c.push-pushed.new.self.place = subst (λ (v : PlaceAndTrail). IsAt c.args.problem.now c.push-in-loop-row.new.self.items v.place) (sym placed) (subst (λ l. IsAt c.args.problem.now l (child c.args.place.now.place row)) (sym longer) leads) in
    let fit = subst (λ l. AreFit c.args.place.now.place l trees) (sym rows) b.fit in
    let in_place = subst (λ l. All IsInPlace (nodes_below c.args.path.now.items c.args.place.now.place l trees)) (sym rows)
    (All-tail IsInPlace (branch_node c.args.path.now.items c.args.place.now.place) (nodes_below c.args.path.now.items c.args.place.now.place (targets c.args.place.now.place) trees) b.in_place) in
    (omega (arith, few, length-append c.args.path.now.items (row ∷ []), ap length longer), (at, (n.first, (met_fits _ _ _ _ _ _ _ _ _ m fit, met_all IsInPlace _ _ _ _ _ _ _ _ _ m in_place))))

pub settle_below-loop-row-preserved : goal.settle_below-loop-row-preserved
settle_below-loop-row-preserved t c =
    let rows : c.as_slice-rows.result.now ≡ targets c.args.place.now.place = c.as_slice-rows.ensures.value ∙ c.targets-targets.ensures.value ∙ ap (λ (v : PlaceAndTrail). targets v.place) c.position.ensures in
    let row : ℕ = get_or c.as_slice-rows.result.now c.loop-row.row-index 0 in
    let legal : Contains (targets c.args.place.now.place) row = subst (λ l. Contains l row) rows (Contains-get_or c.as_slice-rows.result.now c.loop-row.row-index 0 c.loop-row-test.true) in
    let leads : IsAt c.args.problem.now (c.args.path.now.items ++ row ∷ []) (child c.args.place.now.place row) = target_goes_on c.args.problem.now c.args.path.now.items c.args.place.now.place row c.cap-floor.ensures.problem c.requires.path legal in
    let few = short_path c.args.problem.now (c.args.path.now.items ++ row ∷ []) (child c.args.place.now.place row) c.cap-floor.ensures.problem leads in
    let placed : c.push-pushed.new.self ≡ record { place = child c.args.place.now.place row; trail = c.args.place.now.place ∷ c.args.place.now.trail } =
    legal_push c.args.place.now row c.push-pushed.new.self c.push-pushed.result (subst (λ (v : PlaceAndTrail). Pushes v row c.push-pushed.new.self c.push-pushed.result) c.loop-row.invariant.place (record { target = c.push-pushed.ensures.target; pushed = c.push-pushed.ensures.pushed })) legal in
    let longer : c.push-in-loop-row.new.self.items ≡ c.args.path.now.items ++ row ∷ [] = c.push-in-loop-row.ensures.items ∙ ap (λ l. l ++ row ∷ []) c.loop-row.invariant.path in
    let b : IsBelow c.args.path.now.items c.args.place.now.place c.args.count c.args.rest.now c.requires.whole.0 =
    below c.args.path.now.items c.args.place.now.place (symbol.Branch c.args.count) (symbol.Branch c.args.count ∷ c.args.rest.now) c.args.rest.now c.requires.whole.0 c.args.count refl refl c.requires.whole.1 c.requires.fits c.requires.in_place in
    let trees : List Tree = some_trees c.args.count c.args.rest.now in
    let lengths = fit_lengths c.args.place.now.place (targets c.args.place.now.place) trees b.fit in
    let lt = c.loop-row-test.true in
    let there : c.loop-row.row-index < length trees = omega (arith, lt, lengths, ap length rows) in
    let n : IsNext c.args.rest.now trees c.loop-row.row-index c.loop-row.rest = next_tree c.args.rest.now c.loop-row.rest c.requires.whole.0 trees c.loop-row.row-index b.first.symbols_are c.loop-row.invariant.half there in
    let m : Meets c.args.path.now.items c.push-in-loop-row.new.self.items c.args.place.now.place c.push-pushed.new.self.place c.as_slice-rows.result.now trees c.loop-row.row-index row (tree_of c.loop-row.rest) = record {
      in_rows = lt;
      in_trees = there;
      is_row = refl;
      is_next = ap (λ (v : PlaceAndTrail). v.place) placed;
      is_here = longer;
      is_tree = n.is_tree;
    } in
    let back = c.in_ok-least.ensures.back in
    record {
      path = back_again c.pop-row.new.self.items c.settle_tree.new.path.items c.args.path.now.items _ row refl (back.1 ∙ longer) c.pop-row.ensures.rest;
      place = pop_back c.args.place.now c.settle_tree.new.place c.pop-popped.new.self row c.pop-popped.result (back.0 ∙ placed) (record { popped = c.pop-popped.ensures.popped; none = c.pop-popped.ensures.none });
      half = rw add-one (n.on c.settle_tree.new.rest c.in_ok-least.ensures.behind);
      below = one_written c.args.problem.now c.args.plan.now.path c.args.path.now.items c.push-in-loop-row.new.self.items c.args.place.now.place c.push-pushed.new.self.place c.as_slice-rows.result.now trees
          (c.args.settled.now.symbols ++ symbol.Branch c.args.count ∷ []) c.loop-row.settled.symbols c.settle_tree.new.settled.symbols c.loop-row.row-index row c.loop-row.floor c.in_ok-least.least c.min-floor.result (tree_of c.loop-row.rest) m
          c.loop-row.invariant.below c.in_ok-least.ensures.settled c.min-floor.ensures;
    }

pub settle_below-returns-clause-settled : goal.settle_below-returns-clause-settled
settle_below-returns-clause-settled t c =
    let rows : c.as_slice-rows.result.now ≡ targets c.args.place.now.place = c.as_slice-rows.ensures.value ∙ c.targets-targets.ensures.value ∙ ap (λ (v : PlaceAndTrail). targets v.place) c.position.ensures in
    all_written c.args.problem.now c.args.plan.now.path c.args.path.now.items c.args.place.now.place c.as_slice-rows.result.now c.args.count c.args.rest.now c.requires.whole.0 c.loop-row.row-index c.args.settled.now.symbols c.loop-row.settled.symbols c.loop-row.floor
    rows c.requires.whole.1 c.requires.fits c.requires.in_place c.requires.open c.loop-row-test.false c.loop-row.invariant.below

pub settle_below-returns-clause-behind : goal.settle_below-returns-clause-behind
settle_below-returns-clause-behind t c =
    let rows : c.as_slice-rows.result.now ≡ targets c.args.place.now.place = c.as_slice-rows.ensures.value ∙ c.targets-targets.ensures.value ∙ ap (λ (v : PlaceAndTrail). targets v.place) c.position.ensures in
    let b : IsBelow c.args.path.now.items c.args.place.now.place c.args.count c.args.rest.now c.requires.whole.0 =
    below c.args.path.now.items c.args.place.now.place (symbol.Branch c.args.count) (symbol.Branch c.args.count ∷ c.args.rest.now) c.args.rest.now c.requires.whole.0 c.args.count refl refl c.requires.whole.1 c.requires.fits c.requires.in_place in
    let lengths = fit_lengths c.args.place.now.place (targets c.args.place.now.place) (some_trees c.args.count c.args.rest.now) b.fit in
    let done = c.loop-row-test.false in
    above_trees c.args.count c.args.rest.now c.loop-row.rest (all_met c.args.count c.args.rest.now c.loop-row.rest c.requires.whole.0 c.loop-row.row-index b.first c.loop-row.invariant.half (omega (arith, done, lengths, ap length rows)))

pub settle_tree-settle_below-requires : goal.settle_tree-settle_below-requires
settle_tree-settle_below-requires t c =
    let text = c.in-Some-next.text.now in
    let same : c.args.rest.now ≡ symbol.Branch c.in-Branch.count ∷ c.next.new.self = c.in-Some-next.ensures.some ∙ ap (λ k. symbol_of k text ∷ c.next.new.self) c.in-Branch.is in (
      omega arith,
      (
        c.requires.path,
        (
          c.in_default.ensures.open,
          (
            (c.requires.whole.0, subst (λ l. ComesFirst l c.requires.whole.0) same c.requires.whole.1),
            (
              subst (λ l. Fits c.args.place.now.place (tree_of l)) same c.requires.fits,
              subst (λ l. All IsInPlace (nodes c.args.path.now.items c.args.place.now.place (tree_of l))) same c.requires.in_place,
            ),
          ),
        ),
      ),
    )

pub settle_tree-returns-clause-settled : goal.settle_tree-returns-clause-settled
settle_tree-returns-clause-settled t c =
    let text = c.in-Some-next.text.now in
    let one = symbol_of c.in-Some-next.kind text in
    let whole = no_branch c.in-Some-next.kind text c.in_default-kind.not-Branch in
    leaf_written c.args.problem.now c.args.plan.now.path c.args.path.now.items c.args.place.now.place c.args.rest.now c.next.new.self c.args.settled.now.symbols c.push-2.new.self.symbols one c.floor_at.result
    c.in-Some-next.ensures.some c.in_ok-push-2.ensures.symbols whole c.requires.fits c.requires.in_place
    (c.floor_at.ensures text whole ∙ ap (λ n. least_value n (nodes c.args.path.now.items c.args.place.now.place (leaf one))) c.cap.ensures.value) c.in_default.ensures.open

pub settle_tree-returns-clause-behind : goal.settle_tree-returns-clause-behind
settle_tree-returns-clause-behind t c =
    let text = c.in-Some-next.text.now in
    (leaf_first (symbol_of c.in-Some-next.kind text) c.args.rest.now c.next.new.self c.in-Some-next.ensures.some (no_branch c.in-Some-next.kind text c.in_default-kind.not-Branch)).first
