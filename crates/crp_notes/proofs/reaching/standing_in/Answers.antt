use Rattle.std.proofs.Common.{◌≡◌, ◌∙◌, ◌+◌, ◌-◌, [], get_or, length, sym, ap, arith, rules, tests}
use Rattle.std.specs.Prelude.{count_by, slice_get, unwrap_or}
use Rattle.std.specs.Option.{option_map}
use Rattle.std.proofs.lemmas.Iterator.{YieldsList-from_slice}
use Rattle.std.proofs.lemmas.Iterator.Consumers.{YieldsList-from_filter, count_from_yields_List}
use Rattle.std.proofs.lemmas.List.Sums.{length-filter}
use Rattle.std.proofs.lemmas.Option.{unwrap_or-slice_get}
use Rattle.crp_notes.specs.Beyond.{puts_into, lifts_from}
use Rattle.crp_notes.proofs.reaching.standing_in.Goals.{in-Some, in-None}
use Rattle.crp_notes.proofs.reaching.standing_in.Goals as goal

pub returns : goal.returns
returns c =
    let moves = c.args.moves.now in
    let row = c.args.row in
    let put : c.count-put.result ≡ count_by (puts_into row) moves =
    count_from_yields_List c.filter.result _ c.count-put.ensures.ran (YieldsList-from_filter _ (puts_into row) (YieldsList-from_slice moves (cc)) c.filter.ensures.closure (λ x r q k. search (rules, tests)))
    ∙ length-filter (puts_into row) moves in
    let lifted : c.count-lifted.result ≡ count_by (lifts_from row) moves =
    count_from_yields_List c.filter-2.result _ c.count-lifted.ensures.ran (YieldsList-from_filter _ (lifts_from row) (YieldsList-from_slice moves (cc)) c.filter-2.ensures.closure (λ x r q k. search (rules, tests)))
    ∙ length-filter (lifts_from row) moves in
    let stacks = c.args.problem.now.stacks in
    let there : unwrap_or (option_map (λ s. s.now) c.get.result) [] ≡ unwrap_or (slice_get stacks (row - 1)) [] =
    c.get.ensures.lookup.4 (omega arith) [] ∙ (λ k. get_or (c.stacks.ensures.value k) (c.saturating_sub.ensures k) []) ∙ sym (unwrap_or-slice_get stacks (row - 1) []) in
    let stood : c.match-get.stood ≡ length (unwrap_or (slice_get stacks (row - 1)) []) = elim c.match-get.branch [
      | in-Some w ↦ w.stood-is ∙ w.height-stood.ensures.value ∙ ap (λ o. length (unwrap_or (option_map (λ s. s.now) o) [])) (sym w.in-Some.is) ∙ ap length there
      | in-None w ↦ w.stood-is ∙ ap (λ o. length (unwrap_or (option_map (λ s. s.now) o) [])) (sym w.in-None.is) ∙ ap length there
    ] in
    c.saturating_sub-2.ensures ∙ (λ k. (stood k + put k) - lifted k)
