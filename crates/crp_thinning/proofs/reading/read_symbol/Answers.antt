use Rattle.std.proofs.lemmas.Bool.{both_ways}
use Rattle.crp_thinning.proofs.Ending.{other_refused}
use Rattle.crp_thinning.proofs.reading.read_symbol.Goals as goal

pub returns-clause-goes_on : goal.returns-clause-goes_on
returns-clause-goes_on c tasks text = (
  λ k. other_refused _ c.args.track.now.place c.args.reading.now tasks c.args.symbol text c.next-next.ensures.fine c.requires.fair
      (λ lo hi. both_ways c.is_digit.result c.if-is_digit.false (c.is_digit.ensures.1 (lo, hi))) c.if-symbol-eq46.false c.if-symbol-eq44.false c.if-symbol-eq59.false k,
  λ k. absurd k,
)
