use Rattle.std.proofs.Common.{◌∷◌, ◌++◌, [], refl, sym, ◌∙◌, inl, inr, ⊎_elim, subst}
use Rattle.std.proofs.lemmas.Result.{err_from_is_err_and}
use Rattle.csv.specs.Records.{fields_of}
use Rattle.crp_sizes.specs.Fields.{records_of}
use Rattle.crp_sizes.specs.Records.{header, GiveSizes}
use Rattle.crp_sizes.proofs.HeaderSteps.{header_is, no_header, none_there}
use Rattle.crp_sizes.proofs.RowSteps.{started, read_more, read_next, read_all}
use Rattle.crp_sizes.proofs.SizeSteps.{one_size_more, faulty_next}
use Rattle.crp_sizes.proofs.records.listed_in.Goals as goal

pub returns-then-not-is_header-clause-refused : goal.returns-then-not-is_header-clause-refused
returns-then-not-is_header-clause-refused c =
    let at = started c.args.text.now c.rows_of-rows.result c.rows_of-rows.ensures in
    let step = rw c.in-Some-Ok.field-0-is at (c.in-Some-Ok.ensures.steps at.left at.trim) in
    let read = step.0 at.ready in
    let fields = fields_of c.in-Some-Ok.fields in
    let first = read_next c.args.text.now [] fields c.next.new.self (read_more c.args.text.now [] fields c.rows_of-rows.result c.next.new.self at read.0 read.1 read.2 step.3) in
    inr (inl (refl, no_header (records_of c.args.text.now) fields first.0 first.1 (sym c.is_header.ensures ∙ c.if-not-is_header.true)))

pub returns-in-None-clause-refused : goal.returns-in-None-clause-refused
returns-in-None-clause-refused c =
    let at = started c.args.text.now c.rows_of-rows.result c.rows_of-rows.ensures in
    let read = (c.in-None.ensures.steps at.left at.trim).0 at.ready in
    inr (inl (refl, none_there (records_of c.args.text.now) (read_all c.args.text.now [] c.rows_of-rows.result c.next.new.self at read)))

pub loop-row-init : goal.loop-row-init
unfolding Rattle.std.specs.List.IsDistinct
loop-row-init c =
    let at = started c.args.text.now c.rows_of-rows.result c.rows_of-rows.ensures in
    let step = rw c.in-Some-Ok.field-0-is at (c.in-Some-Ok.ensures.steps at.left at.trim) in
    let read = step.0 at.ready in
    let fields = fields_of c.in-Some-Ok.fields in
    let begun = read_more c.args.text.now [] fields c.rows_of-rows.result c.next.new.self at read.0 read.1 read.2 step.3 in
    let is = header_is fields (sym c.is_header.ensures ∙ c.if-not-is_header.false) in
    let start = c.into_iter-row-iterator.ensures.into_iter_gives ∙ refl in
    ([], rw start (rw is at begun), rw c.of_heights-sizes.ensures (record { given = tt; once = tt }), rw c.of_heights-sizes.ensures refl)

pub returns-in_err-take-clause-refused : goal.returns-in_err-take-clause-refused
returns-in_err-take-clause-refused c =
    let p = err_from_is_err_and c.from_residual.result c.from_residual.ensures.1 in
    let inv = c.loop-row.invariant in
    let step = rw c.in-Ok.is at (c.in-Some.ensures.steps inv.1.left inv.1.trim) in
    let read = step.0 inv.1.ready in
    let fields = fields_of c.in-Ok.fields in
    let text = c.args.text.now in
    let next = read_next text (header ∷ inv.0) fields c.next-in-loop-row.new.self (read_more text (header ∷ inv.0) fields c.loop-row.row-iterator c.next-in-loop-row.new.self inv.1 read.0 read.1 read.2 step.3) in
    rw (p.1, p.2) (⊎_elim (λ h. inl h) (λ h. inr (faulty_next (records_of text) inv.0 c.loop-row.sizes.listed fields _ next inv.2 h)) c.in_err-take.ensures.refused)

pub loop-row-preserved : goal.loop-row-preserved
loop-row-preserved c =
    let inv = c.loop-row.invariant in
    let step = rw c.in-Ok.is at (c.in-Some.ensures.steps inv.1.left inv.1.trim) in
    let read = step.0 inv.1.ready in
    let fields = fields_of c.in-Ok.fields in
    let taken = c.in_ok-take.ensures.taken in (
      inv.0 ++ fields ∷ [],
      read_more c.args.text.now (header ∷ inv.0) fields c.loop-row.row-iterator c.next-in-loop-row.new.self inv.1 read.0 read.1 read.2 step.3,
      record {
        given = subst (GiveSizes (inv.0 ++ fields ∷ [])) (sym taken.3) (one_size_more inv.0 c.loop-row.sizes.listed fields taken.0 inv.2.given taken.1);
        once = c.in_ok-take.ensures.once;
      },
      c.in_ok-take.ensures.common ∙ inv.3,
    )

pub returns-clause-accepted : goal.returns-clause-accepted
returns-clause-accepted c =
    let inv = c.loop-row.invariant in
    let read = (c.in-None-row.ensures.steps inv.1.left inv.1.trim).0 inv.1.ready in
    record {
      rest = inv.0;
      begun = read_all c.args.text.now (header ∷ inv.0) c.loop-row.row-iterator c.next-in-loop-row.new.self inv.1 read;
      sized = inv.2;
    }

pub returns-clause-common : goal.returns-clause-common
returns-clause-common c = c.loop-row.invariant.3
