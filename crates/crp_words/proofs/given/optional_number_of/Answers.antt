use Rattle.std.proofs.Common.{◌∙◌, sym}
use Rattle.std.proofs.lemmas.Bool.{false≢true}
use Rattle.clap.specs.Words.{found_of, rows_of}
use Rattle.crp_words.proofs.Lacking.{no_number}
use Rattle.crp_words.proofs.given.optional_number_of.Goals as goal

pub returns-in-None-clause-err : goal.returns-in-None-clause-err
returns-in-None-clause-err c =
    no_number c.args.name.now (rows_of (found_of c.args.matches.now)) c.wrong.result c.wrong.ensures
    (λ absent. false≢true (sym c.if-is_missing.false ∙ c.is_missing.ensures.1 absent)) c.in-None.ensures.none
