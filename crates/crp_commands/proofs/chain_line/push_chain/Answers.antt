use Rattle.std.proofs.Common.{◌≡◌, ◌∙◌, ◌++◌, ◌-◌, ℕ, List, length, take, drop, get_or, ap, append_assoc}
use Rattle.std.specs.Fmt.{decimal}
use Rattle.std.specs.List.{flat_map}
use Rattle.crp_commands.proofs.LineOfChains.{behind_point, chain_whole}
use Rattle.crp_commands.proofs.chain_line.push_chain.Goals as goal

pub returns : goal.returns
returns c =
    let old : List ℕ = c.args.text.now.items in
    let ranks : List ℕ = c.args.ranks.now in
    let first : List ℕ = decimal (get_or ranks 0 0) in
    let rest : List ℕ = flat_map behind_point (take c.loop-rank.rank-index (take (length ranks - 1) (drop 1 ranks))) in
    let begun : c.push_decimal.new.text.items ≡ old ++ first = c.in_ok-push_decimal.ensures in
    c.loop-rank.invariant ∙ ap (λ l. l ++ rest) begun ∙ append_assoc old first rest
    ∙ ap (λ l. old ++ l) (chain_whole ranks c.loop-rank.rank-index c.in-len1-up.len_at_least c.loop-rank-test.false)
