use Rattle.std.proofs.Common.{◌∙◌, sym}
use Rattle.std.proofs.lemmas.Bool.{false≢true}
use Rattle.std.proofs.lemmas.Result.{IfErr-weaker}
use Rattle.clap.specs.Words.{found_of, rows_of}
use Rattle.crp_words.proofs.Lacking.{no_own}
use Rattle.crp_words.proofs.search_words.number_or_strong.Goals as goal

pub returns-clause-err : goal.returns-clause-err
returns-clause-err c =
    let rows = rows_of (found_of c.args.matches.now) in
    IfErr-weaker c.number_within.result _ _ (λ u lacking. no_own c.args.name.now c.args.numbers.0 c.args.numbers.1 rows c.args.fault u
    (λ left. false≢true (sym c.if-is_left_to_strong.false ∙ c.is_left_to_strong.ensures.1 left)) lacking) c.number_within.ensures.err
