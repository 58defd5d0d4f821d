use Rattle.clap.specs.Words.{found_of, rows_of}
use Rattle.crp_words.specs.Words.{HasNumberBeyond, HasNumberWithin, IsJust}
use Rattle.crp_words.proofs.Lacking.{lacks}
use Rattle.crp_words.proofs.given.number_within.Goals as goal

pub returns-in_default-clause-err : goal.returns-in_default-clause-err
returns-in_default-clause-err c =
    let rows = rows_of (found_of c.args.matches.now) in
    lacks (HasNumberWithin c.args.name.now c.args.limits.0 c.args.limits.1 rows)
    (IsJust c.args.fault (HasNumberBeyond c.args.name.now c.args.limits.0 c.args.limits.1 rows)) c.wrong.result c.wrong.ensures
    (λ n within. c.in_default.ensures.none n within.0) (λ f just. c.in_default.ensures.none just.1.0 just.1.1)
