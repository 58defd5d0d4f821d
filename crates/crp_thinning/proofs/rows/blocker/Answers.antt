use Rattle.std.proofs.Common.{◌≡◌, ◌<◌, [], length, get_or, sym, ap, ◌∙◌, arith}
use Rattle.crp_plan.specs.Bay.{Position}
use Rattle.crp_bay.specs.Positions.{top, source, stack_at}
use Rattle.crp_bay.proofs.Tops.{any_default}
use Rattle.crp_thinning.proofs.Forward.{Blocker, blocker_of}
use Rattle.crp_thinning.proofs.rows.blocker.Goals as goal
use Rattle.crp_thinning.proofs.rows.blocker.Goals.{After-ranks}

pub bounds-stacks-source : goal.bounds-stacks-source
bounds-stacks-source c =
    let b : Blocker c.args.track.now.place = blocker_of _ c.args.track.now.place c.stacks.ensures.fine c.requires.thin c.requires.left in let there = b.top_is.there in
    omega (arith, c.source.ensures.value, ap length c.stacks.ensures.value)

here : (c : After-ranks) → stack_at c.args.track.now.place (source c.args.track.now.place) ≡ c.ranks.result.now
here c =
    let s : Position = c.args.track.now.place in
    let b : Blocker s = blocker_of _ s c.stacks.ensures.fine c.requires.thin c.requires.left in let there = b.top_is.there in
    let lt : c.source.result < length c.stacks.result.now = omega (arith, c.source.ensures.value, ap length c.stacks.ensures.value) in
    ap (λ i. get_or s.stacks i []) (sym c.source.ensures.value) ∙ ap (λ l. get_or l c.source.result []) (sym c.stacks.ensures.value)
    ∙ any_default c.stacks.result.now c.source.result [] c.index-stacks-source.result lt ∙ sym c.index-stacks-source.is ∙ sym c.ranks.ensures.value

pub top_of-requires : goal.top_of-requires
top_of-requires c =
    let b : Blocker c.args.track.now.place = blocker_of _ c.args.track.now.place c.stacks.ensures.fine c.requires.thin c.requires.left in let some = b.top_is.some in
    omega (arith, ap length (here c))

pub returns : goal.returns
returns c = c.top_of.ensures ∙ sym (ap top (here c.before))
