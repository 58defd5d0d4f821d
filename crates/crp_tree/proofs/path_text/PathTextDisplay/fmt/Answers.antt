use Rattle.std.proofs.Common.{◌≡◌, [], ◌∷◌, ◌++◌, take, get_or, true, refl, sym, ap, ◌∙◌}
use Rattle.std.specs.List.{flat_map}
use Rattle.std.specs.Fmt.{decimal}
use Rattle.std.proofs.Output.{writes_in_calls_nil, has_written_append, has_written_of_eq}
use Rattle.std.proofs.lemmas.List.{take_all, take_more, flat_map_more}
use Rattle.crp_tree.specs.Names.{name_text}
use Rattle.crp_tree.proofs.path_text.PathTextDisplay.fmt.Goals as goal

pub loop-row-init : goal.loop-row-init
loop-row-init g c = λ plain. record { wrote = writes_in_calls_nil _ _; plain = plain }

pub loop-row-preserved : goal.loop-row-preserved
loop-row-preserved g c =
    λ plain.
    let now = c.loop-row.invariant plain in
    let rows = c.in-Some.others.now in
    let more = flat_map_more (λ r. 46 ∷ decimal r) [] (take c.loop-row.row-index rows) (get_or rows c.loop-row.row-index 0) in
    let next = ap (flat_map (λ r. 46 ∷ decimal r)) (sym (take_more rows c.loop-row.row-index 0 c.loop-row-test.true)) in
    has_written_of_eq _ _ _ _ _ (more ∙ next) (has_written_append _ _ _ _ _ _ now (c.in_ok-write-2.ensures.writes now.plain (refl {a = true})))

pub returns-clause-writes : goal.returns-clause-writes
returns-clause-writes g c =
    λ plain _.
    let first = c.in_ok-write.ensures.writes plain (refl {a = true}) in
    let all = take_all c.loop-row.row-index c.in-Some.others.now c.loop-row-test.false in
    let parts : c.args.self.now.0.now ≡ c.in-Some.first.now ∷ c.in-Some.others.now = c.in-Some.ensures.cases.0 in
    has_written_of_eq _ _ _ _ _ (ap (λ l. decimal c.in-Some.first.now ++ flat_map (λ r. 46 ∷ decimal r) l) all ∙ sym (ap name_text parts)) (has_written_append _ _ _ _ _ _ first (c.loop-row.invariant first.plain))
