use Rattle.std.proofs.Common.{◌≡◌, ◌<◌, [], length, get_or, Some, slice_get, sym, ap, ◌∙◌, arith}
use Rattle.std.proofs.lemmas.Option.{slice_get-get_or}
use Rattle.crp_plan.specs.Rows.{holds, below}
use Rattle.crp_plan.specs.Bay.{Position}
use Rattle.crp_bay.specs.Positions.{place}
use Rattle.crp_bay.proofs.Tops.{any_default}
use Rattle.crp_chains.proofs.Blockers.{above_reads}
use Rattle.crp_thinned.proofs.Chained.{clear_thin}
use Rattle.crp_thinning.proofs.Clearly.{turn_there}
use Rattle.crp_thinning.proofs.linking.is_above.Goals as goal

pub bounds-stacks-row : goal.bounds-stacks-row
bounds-stacks-row c =
    let s : Position = c.args.track.now.place in
    omega (arith, turn_there s c.args.upper (clear_thin s c.requires.thin) c.requires.blocks, c.place_of_rank-row.ensures.value, ap length c.stacks-stacks.ensures.value)

pub returns : goal.returns
returns c =
    let s : Position = c.args.track.now.place in
    let row_is : c.place_of_rank-row.result ≡ place c.args.upper.turn s.stacks = c.place_of_rank-row.ensures.value in
    let lt : c.place_of_rank-row.result < length s.stacks = omega (arith, turn_there s c.args.upper (clear_thin s c.requires.thin) c.requires.blocks, row_is) in
    let here : get_or s.stacks c.place_of_rank-row.result [] ≡ c.ranks.result.now =
    ap (λ l. get_or l c.place_of_rank-row.result []) (sym c.stacks-stacks.ensures.value) ∙ any_default c.stacks-stacks.result.now c.place_of_rank-row.result [] c.index-stacks-row.result (omega (arith, lt, ap length c.stacks-stacks.ensures.value)) ∙ sym c.index-stacks-row.is ∙ sym c.ranks.ensures.value in
    let got : slice_get s.stacks c.place_of_rank-row.result ≡ Some c.ranks.result.now = slice_get-get_or s.stacks c.place_of_rank-row.result [] lt ∙ ap (λ l. Some l) here in
    let r = above_reads s c.args.upper c.place_of_rank-row.result c.ranks.result.now c.args.lower (clear_thin s c.requires.thin) c.requires.blocks row_is got in
    let is : c.is_in.result ≡ holds c.args.lower (below c.args.upper.rank c.ranks.result.now) = c.is_in.ensures ∙ ap (holds c.args.lower) c.beneath.ensures in
    (λ h. r.0 (sym is ∙ h), λ u. is ∙ r.1 u)
