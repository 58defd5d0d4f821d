use Rattle.std.proofs.Common.{inl, refl}
use Rattle.crp_plan.specs.Bay.{Position}
use Rattle.crp_thinning.proofs.Ending.{comma_on, comma_back, cannot_end, done_fair}
use Rattle.crp_thinning.proofs.reading.read_comma.Goals as goal

pub returns-then-end_chain-clause-goes_on : goal.returns-then-end_chain-clause-goes_on
returns-then-end_chain-clause-goes_on c tasks text =
    let s : Position = c.args.track.now.place in
    let d = c.if-end_chain.ensures.done in (
      λ k. comma_on _ s c.args.reading.now c.end_chain.new.reading tasks text c.next-next.ensures.fine c.requires.fair d k,
      λ k. comma_back s c.args.reading.now c.end_chain.new.reading tasks text d k,
    )

pub returns-then-end_chain-clause-fair : goal.returns-then-end_chain-clause-fair
returns-then-end_chain-clause-fair c = done_fair c.args.track.now.place c.args.reading.now c.end_chain.new.reading c.if-end_chain.ensures.done

pub returns-else-end_chain-clause-goes_on : goal.returns-else-end_chain-clause-goes_on
returns-else-end_chain-clause-goes_on c tasks text = (
  λ k. cannot_end _ c.args.track.now.place c.args.reading.now tasks 44 text c.next-next.ensures.fine c.requires.fair (inl refl) c.if-end_chain.ensures.refused k,
  λ k. absurd k,
)
