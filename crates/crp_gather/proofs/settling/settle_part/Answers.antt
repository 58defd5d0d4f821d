use Rattle.std.proofs.Common.{◌≡◌, ◌++◌, [], All, sym, ap, ◌∙◌, subst}
use Rattle.crp_plan.specs.Bay.{IsAt}
use Rattle.crp_tree.specs.Trees.{nodes, Fits, IsInPlace}
use Rattle.crp_tree.specs.Symbols.{symbols, tree_of}
use Rattle.crp_tree.proofs.Kept.{shape_at_name}
use Rattle.crp_tree.proofs.Parsed.{IsFront, alone}
use Rattle.crp_gather.proofs.TreesSettled.{IsMade, made}
use Rattle.crp_gather.proofs.PartsSettled.{part_settled, IsNewPart, new_part}
use Rattle.crp_gather.proofs.settling.settle_part.Goals as goal

pub settle_tree-requires-clause-whole : goal.settle_tree-requires-clause-whole
settle_tree-requires-clause-whole c =
    let whole : IsFront c.args.part.now.tree c.symbols-rest.result [] = alone c.args.part.now.tree c.symbols-rest.result (c.symbols-rest.ensures ∙ ap (λ t. symbols t) c.tree.ensures.value) in
    ([], whole.first)

pub settle_tree-requires-clause-fits : goal.settle_tree-requires-clause-fits
settle_tree-requires-clause-fits c =
    let at : IsAt c.args.part.now.problem c.args.part.now.name c.in-Some.place.place = subst (λ q. IsAt q c.args.part.now.name c.in-Some.place.place) c.problem-problem.ensures.value (subst (λ l. IsAt c.problem-problem.result.now l c.in-Some.place.place) c.name.ensures.value c.in-Some.ensures.at) in
    let shape = shape_at_name c.args.part.now c.in-Some.place.place c.tree.ensures.part at in
    let whole : IsFront c.args.part.now.tree c.symbols-rest.result [] = alone c.args.part.now.tree c.symbols-rest.result (c.symbols-rest.ensures ∙ ap (λ t. symbols t) c.tree.ensures.value) in
    subst (Fits c.in-Some.place.place) (sym whole.is) shape.fits

pub settle_tree-requires-clause-in_place : goal.settle_tree-requires-clause-in_place
settle_tree-requires-clause-in_place c =
    let at : IsAt c.args.part.now.problem c.args.part.now.name c.in-Some.place.place = subst (λ q. IsAt q c.args.part.now.name c.in-Some.place.place) c.problem-problem.ensures.value (subst (λ l. IsAt c.problem-problem.result.now l c.in-Some.place.place) c.name.ensures.value c.in-Some.ensures.at) in
    let shape = shape_at_name c.args.part.now c.in-Some.place.place c.tree.ensures.part at in
    let path : c.try_extend_from_slice.new.self.items ≡ c.args.part.now.name = c.in-Ok.ensures.ok ∙ ap (λ l. l ++ c.rows.result.now) c.new-path.ensures ∙ c.rows.ensures.value ∙ c.name-2.ensures.value in
    let whole : IsFront c.args.part.now.tree c.symbols-rest.result [] = alone c.args.part.now.tree c.symbols-rest.result (c.symbols-rest.ensures ∙ ap (λ t. symbols t) c.tree.ensures.value) in
    subst (λ t. All IsInPlace (nodes c.try_extend_from_slice.new.self.items c.in-Some.place.place t)) (sym whole.is) (subst (λ l. All IsInPlace (nodes l c.in-Some.place.place c.args.part.now.tree)) (sym path) shape.in_place)

pub new-requires-clause-part : goal.new-requires-clause-part
new-requires-clause-part c =
    let at : IsAt c.args.part.now.problem c.args.part.now.name c.in-Some.place.place = subst (λ q. IsAt q c.args.part.now.name c.in-Some.place.place) c.problem-problem.ensures.value (subst (λ l. IsAt c.problem-problem.result.now l c.in-Some.place.place) c.name.ensures.value c.in-Some.ensures.at) in
    let path : c.try_extend_from_slice.new.self.items ≡ c.args.part.now.name = c.in-Ok.ensures.ok ∙ ap (λ l. l ++ c.rows.result.now) c.new-path.ensures ∙ c.rows.ensures.value ∙ c.name-2.ensures.value in
    let whole : IsFront c.args.part.now.tree c.symbols-rest.result [] = alone c.args.part.now.tree c.symbols-rest.result (c.symbols-rest.ensures ∙ ap (λ t. symbols t) c.tree.ensures.value) in
    let m : IsMade c.problem-problem.result.now c.args.plan.now.path c.try_extend_from_slice.new.self.items c.in-Some.place.place (tree_of c.symbols-rest.result) c.from_row.result c.in_ok-floor.floor =
    made c.problem-problem.result.now c.args.plan.now.path c.try_extend_from_slice.new.self.items c.in-Some.place.place (tree_of c.symbols-rest.result) c.from_row.result c.new-settled.result.symbols c.settle_tree.new.settled.symbols c.in_ok-floor.floor
    c.new-settled.ensures c.from_row.ensures c.in_ok-floor.ensures.settled in
    let n : IsNewPart c.problem-problem.result.now c.copy-name.result c.from_row.result c.in_ok-floor.floor =
    new_part c.args.part.now c.args.plan.now.path c.problem-problem.result.now c.copy-name.result c.try_extend_from_slice.new.self.items c.in-Some.place.place (tree_of c.symbols-rest.result) c.from_row.result c.in_ok-floor.floor
    c.problem-problem.ensures.value (c.copy-name.ensures ∙ c.name-3.ensures.value) path whole.is c.tree.ensures.part at m in
    n.is_part

pub new-requires-clause-floor : goal.new-requires-clause-floor
new-requires-clause-floor c =
    let at : IsAt c.args.part.now.problem c.args.part.now.name c.in-Some.place.place = subst (λ q. IsAt q c.args.part.now.name c.in-Some.place.place) c.problem-problem.ensures.value (subst (λ l. IsAt c.problem-problem.result.now l c.in-Some.place.place) c.name.ensures.value c.in-Some.ensures.at) in
    let path : c.try_extend_from_slice.new.self.items ≡ c.args.part.now.name = c.in-Ok.ensures.ok ∙ ap (λ l. l ++ c.rows.result.now) c.new-path.ensures ∙ c.rows.ensures.value ∙ c.name-2.ensures.value in
    let whole : IsFront c.args.part.now.tree c.symbols-rest.result [] = alone c.args.part.now.tree c.symbols-rest.result (c.symbols-rest.ensures ∙ ap (λ t. symbols t) c.tree.ensures.value) in
    let m : IsMade c.problem-problem.result.now c.args.plan.now.path c.try_extend_from_slice.new.self.items c.in-Some.place.place (tree_of c.symbols-rest.result) c.from_row.result c.in_ok-floor.floor =
    made c.problem-problem.result.now c.args.plan.now.path c.try_extend_from_slice.new.self.items c.in-Some.place.place (tree_of c.symbols-rest.result) c.from_row.result c.new-settled.result.symbols c.settle_tree.new.settled.symbols c.in_ok-floor.floor
    c.new-settled.ensures c.from_row.ensures c.in_ok-floor.ensures.settled in
    let n : IsNewPart c.problem-problem.result.now c.copy-name.result c.from_row.result c.in_ok-floor.floor =
    new_part c.args.part.now c.args.plan.now.path c.problem-problem.result.now c.copy-name.result c.try_extend_from_slice.new.self.items c.in-Some.place.place (tree_of c.symbols-rest.result) c.from_row.result c.in_ok-floor.floor
    c.problem-problem.ensures.value (c.copy-name.ensures ∙ c.name-3.ensures.value) path whole.is c.tree.ensures.part at m in
    n.floor_is

pub returns-clause-settled : goal.returns-clause-settled
returns-clause-settled c =
    let at : IsAt c.args.part.now.problem c.args.part.now.name c.in-Some.place.place = subst (λ q. IsAt q c.args.part.now.name c.in-Some.place.place) c.problem-problem.ensures.value (subst (λ l. IsAt c.problem-problem.result.now l c.in-Some.place.place) c.name.ensures.value c.in-Some.ensures.at) in
    let path : c.try_extend_from_slice.new.self.items ≡ c.args.part.now.name = c.in-Ok.ensures.ok ∙ ap (λ l. l ++ c.rows.result.now) c.new-path.ensures ∙ c.rows.ensures.value ∙ c.name-2.ensures.value in
    let whole : IsFront c.args.part.now.tree c.symbols-rest.result [] = alone c.args.part.now.tree c.symbols-rest.result (c.symbols-rest.ensures ∙ ap (λ t. symbols t) c.tree.ensures.value) in
    let m : IsMade c.problem-problem.result.now c.args.plan.now.path c.try_extend_from_slice.new.self.items c.in-Some.place.place (tree_of c.symbols-rest.result) c.from_row.result c.in_ok-floor.floor =
    made c.problem-problem.result.now c.args.plan.now.path c.try_extend_from_slice.new.self.items c.in-Some.place.place (tree_of c.symbols-rest.result) c.from_row.result c.new-settled.result.symbols c.settle_tree.new.settled.symbols c.in_ok-floor.floor
    c.new-settled.ensures c.from_row.ensures c.in_ok-floor.ensures.settled in
    part_settled c.args.part.now c.in_ok-part.part c.args.plan.now.path c.problem-problem.result.now c.copy-name.result c.try_extend_from_slice.new.self.items c.in-Some.place.place (tree_of c.symbols-rest.result) c.from_row.result c.in_ok-floor.floor
    c.problem-problem.ensures.value (c.copy-name.ensures ∙ c.name-3.ensures.value) path whole.is c.tree.ensures.part at c.in_default-close_past.ensures.open m.is c.in_ok-part.ensures.value
