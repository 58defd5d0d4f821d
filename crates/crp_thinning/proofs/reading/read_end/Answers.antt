use Rattle.std.proofs.Common.{inr, refl}
use Rattle.crp_plan.specs.Bay.{Position}
use Rattle.crp_thinning.proofs.Ending.{end_on, end_back, cannot_end}
use Rattle.crp_thinning.proofs.reading.read_end.Goals as goal
use Rattle.crp_thinning.proofs.reading.read_end.Goals.{else-end_chain-via-then-end_chain+else-reading-eq0, else-end_chain-via-else-end_chain}

pub returns-then-reading-eq0-clause-goes_on : goal.returns-then-reading-eq0-clause-goes_on
returns-then-reading-eq0-clause-goes_on c tasks text =
    let s : Position = c.args.track.now.place in
    let d = c.if-end_chain.ensures.done in (
      λ k. (end_on _ s c.args.reading.now c.end_chain.new.reading tasks text c.next-next.ensures.fine c.requires.fair d k).1,
      λ o. end_back s c.args.reading.now c.end_chain.new.reading tasks text d c.if-reading-eq0.true o,
    )

pub returns-else-end_chain-clause-goes_on : goal.returns-else-end_chain-clause-goes_on
returns-else-end_chain-clause-goes_on c tasks text =
    let s : Position = c.args.track.now.place in (
      λ k. elim c.else-end_chain.branch [
        | else-end_chain-via-then-end_chain+else-reading-eq0 w ↦
            w.if-reading-eq0.false (end_on _ s c.args.reading.now c.end_chain.new.reading tasks text c.next-next.ensures.fine c.requires.fair w.if-end_chain.ensures.done k).0
        | else-end_chain-via-else-end_chain w ↦
            cannot_end _ s c.args.reading.now tasks 59 text c.next-next.ensures.fine c.requires.fair (inr refl) w.if-end_chain.ensures.refused k
      ],
      λ k. absurd k,
    )
