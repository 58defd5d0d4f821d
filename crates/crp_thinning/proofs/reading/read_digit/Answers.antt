use Rattle.std.proofs.Common.{◌∷◌, sym, ap}
use Rattle.crp_plan.specs.Bay.{Position}
use Rattle.crp_thinning.specs.declared.reading.Reading.{Reading}
use Rattle.crp_thinning.proofs.Ending.{same_end, digit_begun, digit_refused, digit_fair}
use Rattle.crp_thinning.proofs.reading.read_digit.Goals as goal

pub returns-then-digit-clause-goes_on : goal.returns-then-digit-clause-goes_on
returns-then-digit-clause-goes_on c tasks text =
    let s : Position = c.args.track.now.place in
    let r : Reading = c.args.reading.now in
    let n : Reading = c.digit.new.reading in
    let e = c.if-digit.ensures in
    let same = digit_begun r n c.args.symbol text c.requires.digit.0 c.requires.digit.1 e.goes_on e.value in (
      λ k. same_end s r n tasks (c.args.symbol ∷ text) text same (ap (λ (m : Reading). m.seen) e.value) (ap (λ (m : Reading). m.wanted) e.value) k,
      λ k. same_end s n r tasks text (c.args.symbol ∷ text) (sym same) (sym (ap (λ (m : Reading). m.seen) e.value)) (sym (ap (λ (m : Reading). m.wanted) e.value)) k,
    )

pub returns-then-digit-clause-fair : goal.returns-then-digit-clause-fair
returns-then-digit-clause-fair c = digit_fair c.args.reading.now c.digit.new.reading c.args.symbol c.requires.fair c.if-digit.ensures.goes_on c.if-digit.ensures.value

pub returns-else-digit-clause-goes_on : goal.returns-else-digit-clause-goes_on
returns-else-digit-clause-goes_on c tasks text = (
  λ k. digit_refused _ c.args.track.now.place c.args.reading.now tasks c.args.symbol text c.next-next.ensures.fine c.requires.fair c.requires.digit.0 c.requires.digit.1 c.if-digit.ensures.refused k,
  λ k. absurd k,
)
