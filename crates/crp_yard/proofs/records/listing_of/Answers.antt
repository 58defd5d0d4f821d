use Rattle.std.proofs.Common.{Bor, List, ℕ, length, ap, ◌≡◌, ◌+◌, ◌∙◌, ◌++◌, ◌∷◌, [], Some, sym, refl, inl, inr, ⊎_elim, arith}
use Rattle.std.proofs.lemmas.Result.{err_from_is_err_and}
use Rattle.crp_yard.specs.declared.fault.YardFault.{YardFault}
use Rattle.crp_yard.specs.Faults.{fault_behind}
use Rattle.csv.specs.Reading.{Reached, default_config, strip_bom}
use Rattle.csv.specs.Records.{fields_of}
use Rattle.csv.specs.declared.parser.State.TheVariants as st
use Rattle.csv.proofs.ReadFacts.{rows-more}
use Rattle.crp_yard.specs.Records.{records_of}
use Rattle.crp_sizes.proofs.CsvSteps.{records-next, records-ended}
use Rattle.crp_yard.proofs.RecordSteps.{read-none, read-more, faulty-next, faulty-empty, read-all, entries-few}
use Rattle.crp_yard.proofs.records.listing_of.Goals as goal

pub loop-row-init : goal.loop-row-init
unfolding Reached
loop-row-init c =
    let at = c.rows_of-row-items.ensures in
    let start = c.into_iter-row-iterator.ensures.into_iter_gives ∙ refl in
    rw (start, c.new-listing.ensures) (
      at.trim,
      at.ready,
      at.left,
      at.config,
      at.flexible,
      omega arith,
      strip_bom c.args.text.now,
      at.source,
      [],
      (sym at.state, refl),
      read-none c.args.sizes.now,
    )

pub loop-row-preserved : goal.loop-row-preserved
loop-row-preserved c =
    let inv = c.loop-row.invariant in
    let step = rw (c.in-Some.is, c.in-Ok.is) at (c.next.ensures.steps inv.2 inv.0) in
    let s = step.0 inv.1 in
    let fields = fields_of c.in-Ok.fields in
    let m = rows-more (λ (s : Bor (List ℕ)). Some s.now) c.loop-row.row-iterator.rdr c.next.new.self.rdr fields default_config st.StartRecord (strip_bom c.args.text.now) inv.6 inv.8 inv.3 inv.7 inv.9 s.0 in
    let ensured = c.in_ok-take.ensures in
    let read = read-more c.args.sizes.now inv.8 c.loop-row.listing c.take.new.listing c.loop-row.number (c.loop-row.number + 1) fields inv.10 refl ensured.faultless ensured.taken in
    (s.0.3 ∙ inv.0, inl s.1, s.2, s.0.2 ∙ inv.3, step.3 ∙ inv.4, ensured.few, m.0, m.1, inv.8 ++ fields ∷ [], m.2, read)

pub returns-in_err-take-clause-refused : goal.returns-in_err-take-clause-refused
returns-in_err-take-clause-refused c =
    let p = err_from_is_err_and c.from_residual.result c.from_residual.ensures.1 in
    let inv = c.loop-row.invariant in
    let step = rw (c.in-Some.is, c.in-Ok.is) at (c.next.ensures.steps inv.2 inv.0) in
    let s = step.0 inv.1 in
    let fields = fields_of c.in-Ok.fields in
    let m = rows-more (λ (s : Bor (List ℕ)). Some s.now) c.loop-row.row-iterator.rdr c.next.new.self.rdr fields default_config st.StartRecord (strip_bom c.args.text.now) inv.6 inv.8 inv.3 inv.7 inv.9 s.0 in
    let front = records-next default_config (strip_bom c.args.text.now) m.0 inv.8 fields c.next.new.self.rdr.state m.2 in
    let faulty = λ (f : YardFault) (h : fault_behind c.args.sizes.now c.loop-row.listing (c.loop-row.number + 1) fields ≡ Some f).
    faulty-next c.args.sizes.now inv.8 c.loop-row.listing c.loop-row.number (c.loop-row.number + 1) fields front.0 (records_of c.args.text.now) f inv.10 refl h front.1 in
    rw (p.1, p.2) (⊎_elim (λ h. inl h) (λ h. inr (faulty _ h)) c.in_err-take.ensures.refused)

pub returns-clause-said : goal.returns-clause-said
returns-clause-said c =
    let inv = c.loop-row.invariant in
    let s = rw c.in-None.is at ((c.next.ensures.steps inv.2 inv.0).0 inv.1) in
    let whole = records-ended c.loop-row.row-iterator.rdr c.next.new.self.rdr (strip_bom c.args.text.now) inv.6 inv.8 inv.3 inv.7 inv.9 s in
    rw whole inv.10.said

pub returns-clause-faultless : goal.returns-clause-faultless
returns-clause-faultless c =
    let inv = c.loop-row.invariant in
    let s = rw c.in-None.is at ((c.next.ensures.steps inv.2 inv.0).0 inv.1) in
    let whole = records-ended c.loop-row.row-iterator.rdr c.next.new.self.rdr (strip_bom c.args.text.now) inv.6 inv.8 inv.3 inv.7 inv.9 s in
    read-all c.args.sizes.now inv.8 c.loop-row.listing c.loop-row.number (records_of c.args.text.now) inv.10 c.if-number-eq0.false whole

pub returns-then-number-eq0-clause-refused : goal.returns-then-number-eq0-clause-refused
returns-then-number-eq0-clause-refused c =
    let inv = c.loop-row.invariant in
    let s = rw c.in-None.is at ((c.next.ensures.steps inv.2 inv.0).0 inv.1) in
    let whole = records-ended c.loop-row.row-iterator.rdr c.next.new.self.rdr (strip_bom c.args.text.now) inv.6 inv.8 inv.3 inv.7 inv.9 s in
    inr (faulty-empty c.args.sizes.now inv.8 c.loop-row.listing c.loop-row.number (records_of c.args.text.now) inv.10 c.if-number-eq0.true whole)

pub returns-in_default-clause-refused : goal.returns-in_default-clause-refused
returns-in_default-clause-refused c = inl refl

pub take-requires : goal.take-requires
take-requires c = record { room = c.loop-row.invariant.5 }

pub returns-in_err-take-clause-faultless : goal.returns-in_err-take-clause-faultless
returns-in_err-take-clause-faultless c = let p = err_from_is_err_and c.from_residual.result c.from_residual.ensures.1 in rw p.1 tt

pub returns-in_err-take-clause-said : goal.returns-in_err-take-clause-said
returns-in_err-take-clause-said c = let p = err_from_is_err_and c.from_residual.result c.from_residual.ensures.1 in rw p.1 tt

pub overflow_add-number : goal.overflow_add-number
overflow_add-number c =
    let inv = c.loop-row.invariant in
    let few = entries-few inv.8 in
    omega (arith, inv.5, ap length inv.10.said, inv.10.counted, few)
