use Rattle.std.proofs.Common.{◌≡◌, ◌∙◌, ◌++◌, ◌-◌, ℕ, codes, length, take, drop, Some, slice_get, option_map, sym, ap, append_assoc, add-one}
use Rattle.std.proofs.lemmas.Option.{slice_get-map, slice_get-get_or}
use Rattle.arrayvec.specs.ArrayVec.{ArrayVec}
use Rattle.crp_cert.proofs.Written.{one_more}
use Rattle.crp_chains.specs.Given.{lists_of}
use Rattle.crp_thinning.specs.Symbols.{chain_text}
use Rattle.crp_commands.proofs.chain_line.push_chains.Goals as goal

pub loop-chain-preserved : goal.loop-chain-preserved
loop-chain-preserved c =
    let i = c.loop-chain.chain-index in
    let chain = c.as_slice-in-loop-chain.result.now in
    let others = take (length c.args.chains.now - 1) (drop 1 c.args.chains.now) in
    let before = c.push_chain.new.text.items in
    let here : slice_get (lists_of others) i ≡ Some chain =
    slice_get-map (λ (r : ArrayVec ℕ). r.items) others i
    ∙ ap (option_map (λ (r : ArrayVec ℕ). r.items)) (slice_get-get_or others i c.chain-item.result c.loop-chain-test.true)
    ∙ ap (λ (r : ArrayVec ℕ). Some r.items) (sym c.chain-item.is) ∙ ap Some (sym c.as_slice-in-loop-chain.ensures.value) in
    let more = one_more (λ other. codes " | " ++ chain_text other) (lists_of others) i chain here in
    c.in_ok-push_chain-2.ensures ∙ ap (λ l. l ++ chain_text chain) c.in_ok-extend_from_slice-2.ensures.items
    ∙ append_assoc c.loop-chain.text.items (codes " | ") (chain_text chain)
    ∙ ap (λ l. l ++ (codes " | " ++ chain_text chain)) c.loop-chain.invariant ∙ append_assoc before _ _
    ∙ ap (λ l. before ++ l) (rw (add-one) (sym more))
