use Rattle.std.proofs.Common.{◌∙◌, [], refl, arith, inl}
use Rattle.std.proofs.lemmas.List.{take_rest}
use Rattle.crp_places.proofs.RecordSteps.{record-goes_on, record-ends, record-last}
use Rattle.crp_places.proofs.records.after_record.Goals as goal

pub loop-rest-init : goal.loop-rest-init
loop-rest-init c = (omega arith, [], [], refl)

pub returns-in_default-place_behind-clause-left : goal.returns-in_default-place_behind-clause-left
returns-in_default-place_behind-clause-left c =
    let inv = c.loop-rest.invariant in
    let ends = record-ends c.args.separator c.loop-rest.place inv.1 inv.2 c.loop-rest.rest.now c.in-len1-up.len_at_least c.in_default-place_behind.ensures in
    rw (take_rest c.loop-rest.rest.now 1) (ends.0, ends.1, ends.2, inv.3 ∙ ends.3)

pub loop-rest-preserved : goal.loop-rest-preserved
loop-rest-preserved c =
    let inv = c.loop-rest.invariant in
    let on = record-goes_on c.args.separator c.loop-rest.place c.in-Some.behind inv.1 inv.2 c.loop-rest.rest.now c.in-len1-up.len_at_least c.in-Some.ensures in
    rw (take_rest c.loop-rest.rest.now 1) (grind arith, on.0, on.1, inv.3 ∙ on.2)

pub returns-clause-left : goal.returns-clause-left
returns-clause-left c =
    let inv = c.loop-rest.invariant in
    (_, _, inl refl, inv.3 ∙ record-last c.args.separator c.loop-rest.place inv.1 inv.2 c.loop-rest.rest.now c.in_default.len_below)
