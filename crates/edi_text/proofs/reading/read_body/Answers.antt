use Rattle.std.proofs.Common.{inl, inr}
use Rattle.std.proofs.lemmas.Result.{err_from_is_err_and}
use Rattle.edi_text.proofs.BodySteps.{nonempty-from, InBody-step, InBody-broken, InBody-tagless, ReadsSegment-shorter}
use Rattle.edi_text.proofs.reading.read_body.Goals as goal

pub returns-in_err-after-clause-fault : goal.returns-in_err-after-clause-fault
returns-in_err-after-clause-fault c =
    let p = err_from_is_err_and c.from_residual.result c.from_residual.ensures.1 in
    let some = nonempty-from c.segments.rest.now c.is_empty.result c.is_empty.ensures c.segments-test.true in
    rw (p.1, p.2) (elim c.in_err-after.ensures.fault [
      | inl memory ↦ inl memory
      | inr broken ↦ inr (InBody-broken c.args.signs c.segments.store c.args.end c.args.text.now c.segments.rest.now c.in_err-after.field-0.0 c.requires.within some c.segments.invariant broken)
    ])

pub returns-then-not-has_tag-clause-fault : goal.returns-then-not-has_tag-clause-fault
returns-then-not-has_tag-clause-fault c =
    let tested = rw c.segment_count.ensures.value at c.has_tag.ensures in
    inr (InBody-tagless c.args.signs c.segments.store c.read_segment.new.store c.args.end c.args.text.now c.segments.rest.now c.in_ok-after.after.now c.requires.within c.segments.invariant c.in_ok-after.ensures.read
    (λ tag. absurd (let t = tested.1 tag in cc (t, c.if-not-has_tag.true))))

pub segments-smaller : goal.segments-smaller
segments-smaller c = rw c.skip_line_ends-rest.ensures (ReadsSegment-shorter c.args.signs c.segments.store c.read_segment.new.store c.segments.rest.now c.in_ok-after.after.now c.in_ok-after.ensures.read)

pub segments-preserved : goal.segments-preserved
segments-preserved c =
    let tested = rw c.segment_count.ensures.value at c.has_tag.ensures in
    rw c.skip_line_ends-rest.ensures (InBody-step c.args.signs c.segments.store c.read_segment.new.store c.args.text.now c.segments.rest.now c.in_ok-after.after.now c.segments.invariant c.in_ok-after.ensures.read (tested.0 c.if-not-has_tag.false))
