use Rattle.std.proofs.Common.{◌++◌, List, ap, ◌∙◌}
use Rattle.std.specs.List.{flat_map}
use Rattle.std.proofs.lemmas.List.{take_all}
use Rattle.crp_json.specs.declared.entry.ChainRank.{ChainRank}
use Rattle.crp_json.specs.Objects.{rank_tokens}
use Rattle.crp_json.proofs.check_objects.push_more.Goals as goal

pub returns : goal.returns
returns c =
    let all = take_all c.loop-rank.rank-index c.args.ranks.now c.loop-rank-test.false in
    (c.loop-rank.invariant.before, c.loop-rank.invariant.tokens ∙ ap (λ (l : List ChainRank). c.args.out.now.tokens ++ flat_map rank_tokens l) all)
