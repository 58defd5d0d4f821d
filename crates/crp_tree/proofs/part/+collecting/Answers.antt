use Rattle.std.proofs.Common.{ℕ, arith, [], ◌∷◌, ◌≢◌, inl, take, length-append, append_assoc, ◌≡◌, ◌≤◌, ◌++◌, List, length, ap, sym, ◌∙◌, get_or, append-nil, add-one}
use Rattle.std.proofs.lemmas.List.Elements.{All-tail}
use Rattle.crp_bay.specs.Positions.{targets}
use Rattle.crp_bay.specs.Back.{PlaceAndTrail}
use Rattle.crp_row.specs.Symbol.{Symbol}
use Rattle.crp_row.specs.Rows.{symbol_of}
use Rattle.crp_tree.specs.Tree.{Tree}
use Rattle.crp_tree.specs.Trees.{IsInPlace, nodes, given_names}
use Rattle.crp_tree.specs.Listed.{nodes_below}
use Rattle.crp_tree.specs.Symbols.{tree_of, some_trees, ComesFirst, ComeFirst}
use Rattle.crp_tree.proofs.Nodes.{given_names-append, none_given}
use Rattle.crp_tree.proofs.Listed.{Meets, branch_node, fit_lengths, met_fits, met_nodes, met_all, nodes_all}
use Rattle.crp_tree.proofs.Parsed.{IsNext, next_tree, all_met, below, nodes_here, behind_branch}
use Rattle.crp_tree.proofs.part.+collecting.Goals as goal
use Rattle.crp_tree.proofs.part.+collecting.Goals.{collect_below-In-Some-child}

pub collect-collect_below-requires : goal.collect-collect_below-requires
collect-collect_below-requires t c =
    let text = c.in-Some.field-0-1.now in
    let b = below c.args.name.now c.args.place.now.place (symbol_of c.in-Some.kind text) c.args.rest.now c.next.new.self c.requires.whole.0 c.in-Branch.count c.in-Some.ensures.some (ap (λ k. symbol_of k text) c.in-Branch.is) c.requires.whole.1 c.requires.fits c.requires.in_place in (
      omega arith,
      (
        (c.requires.whole.0, b.first),
        (
          b.fit,
          All-tail IsInPlace (branch_node c.args.name.now c.args.place.now.place)
              (nodes_below c.args.name.now c.args.place.now.place (targets c.args.place.now.place) (some_trees c.in-Branch.count c.next.new.self)) b.in_place,
        ),
      ),
    )

pub collect-returns-in-Branch-clause-names : goal.collect-returns-in-Branch-clause-names
collect-returns-in-Branch-clause-names t c =
    let text = c.in-Some.field-0-1.now in
    rw (nodes_here c.args.name.now c.args.place.now.place (symbol_of c.in-Some.kind text) c.args.rest.now c.next.new.self c.in-Branch.count c.in-Some.ensures.some (ap (λ k. symbol_of k text) c.in-Branch.is)) c.collect_below.ensures.names

pub collect-returns-in-Branch-clause-behind : goal.collect-returns-in-Branch-clause-behind
collect-returns-in-Branch-clause-behind t c =
    let text = c.in-Some.field-0-1.now in
    let turned : (there : List Symbol) → ComeFirst c.in-Branch.count c.next.new.self there → ComesFirst c.args.rest.now there = λ there k.
    behind_branch (symbol_of c.in-Some.kind text) c.args.rest.now c.next.new.self there c.in-Branch.count c.in-Some.ensures.some (ap (λ k. symbol_of k text) c.in-Branch.is) k in
    let h = c.collect_below.ensures.behind in
    grind (arith, turned, h)

pub collect_below-returns-then-rows-eq-MAX_NAME-clause-names :
    goal.collect_below-returns-then-rows-eq-MAX_NAME-clause-names
collect_below-returns-then-rows-eq-MAX_NAME-clause-names t c =
    let deep : 8 ≤ length c.args.name.now = omega (arith, ap length c.rows.ensures.value) in
    rw (none_given c.args.name.now c.args.place.now.place (targets c.args.place.now.place) (some_trees c.args.count c.args.rest.now) deep c.requires.in_place) (sym (append-nil c.args.names.now.items))

-- the tree that the loop goes over
next : (t : ℕ) (c : collect_below-In-Some-child t) → IsNext c.args.rest.now (some_trees c.args.count c.args.rest.now) c.loop-row.row-index c.loop-row.rest
next t c =
    let rows : c.as_slice-rows.result.now ≡ targets c.args.place.now.place = c.as_slice-rows.ensures.value ∙ c.targets-targets.ensures.value in
    let lengths = fit_lengths c.args.place.now.place (targets c.args.place.now.place) (some_trees c.args.count c.args.rest.now) c.requires.fit in
    next_tree c.args.rest.now c.loop-row.rest c.requires.whole.0 (some_trees c.args.count c.args.rest.now) c.loop-row.row-index c.requires.whole.1.symbols_are c.loop-row.invariant.half (let lt = c.loop-row-test.true in omega (arith, lt, lengths, ap length rows))

met : (t : ℕ) (c : collect_below-In-Some-child t) →
    Meets c.args.name.now c.in-Some.longer c.args.place.now.place c.in-Some-child.next.place (targets c.args.place.now.place) (some_trees c.args.count c.args.rest.now) c.loop-row.row-index (get_or c.as_slice-rows.result.now c.loop-row.row-index 0)
    (tree_of c.loop-row.rest)
met t c =
    let rows : c.as_slice-rows.result.now ≡ targets c.args.place.now.place = c.as_slice-rows.ensures.value ∙ c.targets-targets.ensures.value in
    let lengths = fit_lengths c.args.place.now.place (targets c.args.place.now.place) (some_trees c.args.count c.args.rest.now) c.requires.fit in
    let lt = c.loop-row-test.true in
    record {
      in_rows = omega (arith, lt, ap length rows);
      in_trees = omega (arith, lt, lengths, ap length rows);
      is_row = ap (λ l. get_or l c.loop-row.row-index 0) rows;
      is_next = ap (λ (v : PlaceAndTrail). v.place) c.in-Some-child.ensures.value;
      is_here = c.in-Some.ensures.value;
      is_tree = (next t c).is_tree;
    }

pub collect_below-collect-requires : goal.collect_below-collect-requires
collect_below-collect-requires t c =
    let at = (goal.at.collect_below-collect-requires t c).In-Some-child in
    let m = met t at in
    let n = next t at in
    let here : length c.args.name.now ≢ 8 = λ e. c.if-rows-eq-MAX_NAME.false (ap length c.rows.ensures.value ∙ e) in (
      omega (arith, ap length c.in-Some.ensures.value, length-append c.args.name.now (get_or c.as_slice-rows.result.now c.loop-row.row-index 0 ∷ []), ap length c.rows.ensures.value, c.rows.ensures.few),
      (n.first, (met_fits _ _ _ _ _ _ _ _ _ m c.requires.fit, met_all IsInPlace _ _ _ _ _ _ _ _ _ m c.requires.in_place)),
    )

pub collect_below-loop-row-preserved : goal.collect_below-loop-row-preserved
collect_below-loop-row-preserved t c =
    let rows : c.as_slice-rows.result.now ≡ targets c.args.place.now.place = c.as_slice-rows.ensures.value ∙ c.targets-targets.ensures.value in
    let trees : List Tree = some_trees c.args.count c.args.rest.now in
    let at = (goal.at.collect_below-loop-row-preserved t c).In-Some-child in
    let m = met t at in
    let n = next t at in
    let before = nodes_below c.args.name.now c.args.place.now.place (take c.loop-row.row-index (targets c.args.place.now.place)) (take c.loop-row.row-index trees) in
    let own = nodes c.in-Some.longer c.in-Some-child.next.place (tree_of c.loop-row.rest) in
    record {
      half = rw add-one (n.on c.collect.new.rest c.in_ok-collect.ensures.behind);
      names =
          rw (add-one, rows)
          (c.in_ok-collect.ensures.names ∙ ap (λ l. l ++ given_names own) (rw rows at c.loop-row.invariant.names) ∙ append_assoc c.args.names.now.items (given_names before) (given_names own)
          ∙ ap (λ l. c.args.names.now.items ++ l) (sym (given_names-append before own) ∙ ap given_names (sym (met_nodes _ _ _ _ _ _ _ _ _ m))));
    }

pub collect_below-returns-clause-names : goal.collect_below-returns-clause-names
collect_below-returns-clause-names t c =
    let rows : c.as_slice-rows.result.now ≡ targets c.args.place.now.place = c.as_slice-rows.ensures.value ∙ c.targets-targets.ensures.value in
    let trees : List Tree = some_trees c.args.count c.args.rest.now in
    let done = c.loop-row-test.false in
    c.loop-row.invariant.names
    ∙ ap (λ l. c.args.names.now.items ++ given_names (nodes_below c.args.name.now c.args.place.now.place (take c.loop-row.row-index l) (take c.loop-row.row-index trees))) rows
    ∙ ap (λ l. c.args.names.now.items ++ given_names l) (nodes_all c.args.name.now c.args.place.now.place (targets c.args.place.now.place) trees c.loop-row.row-index (inl (omega (arith, done, ap length rows))))

pub collect_below-returns-clause-behind : goal.collect_below-returns-clause-behind
collect_below-returns-clause-behind t c =
    let rows : c.as_slice-rows.result.now ≡ targets c.args.place.now.place = c.as_slice-rows.ensures.value ∙ c.targets-targets.ensures.value in
    let lengths = fit_lengths c.args.place.now.place (targets c.args.place.now.place) (some_trees c.args.count c.args.rest.now) c.requires.fit in
    let done = c.loop-row-test.false in
    all_met c.args.count c.args.rest.now c.loop-row.rest c.requires.whole.0 c.loop-row.row-index c.requires.whole.1 c.loop-row.invariant.half (omega (arith, done, lengths, ap length rows))
