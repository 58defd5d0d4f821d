use Rattle.std.proofs.Common.{◌++◌, [], All, ap, sym, ◌∙◌, subst}
use Rattle.crp_tree.specs.Claims.{Part}
use Rattle.crp_tree.specs.Trees.{nodes, given_names, HasShape, Fits, IsInPlace}
use Rattle.crp_tree.specs.Symbols.{tree_of}
use Rattle.crp_tree.proofs.Ungiven.{none_of}
use Rattle.crp_tree.proofs.Accepted.{nodes_are}
use Rattle.crp_tree.proofs.Kept.{shape_there}
use Rattle.crp_tree.proofs.Parsed.{alone}
use Rattle.crp_tree.proofs.part.names_given.Goals as goal

pub collect-requires : goal.collect-requires
collect-requires c =
    let shape = shape_there c.args.problem.now (record { name = c.args.name.now; tree = c.args.tree.now }) c.in-Some.place.place c.in-Some.ensures.problem c.requires c.in-Some.ensures.at in
    let whole = alone c.args.tree.now c.symbols-list.result c.symbols-list.ensures in
    record {
      whole = ([], whole.first);
      fits = subst (Fits c.in-Some.place.place) (sym whole.is) shape.fits;
      in_place = subst (λ t. All IsInPlace (nodes c.args.name.now c.in-Some.place.place t)) (sym whole.is) shape.in_place;
    }

pub returns : goal.returns
returns c =
    let x : Part = record { name = c.args.name.now; tree = c.args.tree.now } in
    let list = c.symbols-list.result in
    c.in_ok-collect.ensures.names ∙ ap (λ l. l ++ given_names (nodes x.name c.in-Some.place.place (tree_of list))) c.new-names.ensures.items
    ∙ ap (λ t. given_names (nodes x.name c.in-Some.place.place t)) (alone x.tree list c.symbols-list.ensures).is
    ∙ ap given_names (sym (nodes_are c.args.problem.now x c.in-Some.place.place c.in-Some.ensures.problem c.in-Some.ensures.at))

pub returns-then-not-gives : goal.returns-then-not-gives
returns-then-not-gives c = c.new-names.ensures.items ∙ sym (none_of c.args.problem.now (record { name = c.args.name.now; tree = c.args.tree.now }) (sym c.if-not-gives.ensures))
