use Rattle.std.proofs.Common.{◌≡◌, ◌∙◌, List, [], Option, Some, ap, ap₂, map, subst, sym, option_map}
use Rattle.std.proofs.lemmas.Result.{IfOk-weaker, IfErr-weaker}
use Rattle.clap.specs.Words.{HasKind, Kinds, Row, Text, fault_of, found_of, is_simple, kind_of, rows_of, subcommand_of, subcommand_rows_of}
use Rattle.clap.specs.Faults.{is_simple_and_free}
use Rattle.crp_words.specs.Commands.{crp}
use Rattle.crp_words.specs.Words.{AsksFor, IsFaultFor, words_or_default}
use Rattle.clap.specs.declared.parser.matches.ArgMatches.{ArgMatches}
use Rattle.clap.specs.declared.parser.matches.ArgMatches.TheViews.{out-ArgMatches, out-SubCommand}
use Rattle.clap.specs.Matches.{subcommand_name_of}
use Rattle.std.specs.Prelude.{box_value}
use Rattle.crp_words.proofs.Asking.{crp_free, crp_simple, not_asked, pair_of, refused}
use Rattle.crp_words.proofs.words.job.Goals as goal

-- the command and its rows, as the matches name them
entered : (m : ArgMatches) (name : Text) (rows : List Row) → Some name ≡ subcommand_name_of m
    → Some rows ≡ option_map (λ (p : Text × List Row). p.1) (subcommand_rows_of m) → subcommand_rows_of m ≡ Some (name, rows)
entered m name rows p q = pair_of (out-ArgMatches m).subcommand (λ b. (out-SubCommand (box_value b)).name.now)
    (λ b. rows_of (found_of (out-SubCommand (box_value b)).matches)) name rows p q

pub returns-in-Some-clause-asked : goal.returns-in-Some-clause-asked
returns-in-Some-clause-asked c =
    let m = c.in-Ok-try_get_matches_from.matches in
    let rows = rows_of (found_of c.in-Some.inner.now) in
    let words = map (λ w. w.now) c.args.words.now in
    let matched = c.in-Ok-try_get_matches_from.ensures.matches (ap is_simple c.in-Ok.ensures ∙ crp_simple) in
    let fault : fault_of crp (words_or_default words) ≡ [] =
    sym (ap₂ fault_of c.in-Ok.ensures c.or_default-words.ensures) ∙ c.in-Ok-try_get_matches_from.ensures.kinds (ap is_simple_and_free c.in-Ok.ensures ∙ crp_free) in
    let sub : subcommand_rows_of m ≡ subcommand_of crp (words_or_default words) =
    matched.1 ∙ ap₂ subcommand_of c.in-Ok.ensures c.or_default-words.ensures in
    let at : subcommand_rows_of m ≡ Some (c.in-Some.name.now, rows) = entered m c.in-Some.name.now rows c.in-Some.ensures.name c.in-Some.ensures.rows in
    IfOk-weaker c.job_of.result _ _ (λ j h. (fault, subst (λ (o : Option (Text × List Row)). AsksFor o j) (sym at ∙ sub) h)) c.job_of.ensures.ok

pub returns-in-Some-clause-refused : goal.returns-in-Some-clause-refused
returns-in-Some-clause-refused c =
    let m = c.in-Ok-try_get_matches_from.matches in
    let rows = rows_of (found_of c.in-Some.inner.now) in
    let words = map (λ w. w.now) c.args.words.now in
    let matched = c.in-Ok-try_get_matches_from.ensures.matches (ap is_simple c.in-Ok.ensures ∙ crp_simple) in
    let sub : subcommand_rows_of m ≡ subcommand_of crp (words_or_default words) =
    matched.1 ∙ ap₂ subcommand_of c.in-Ok.ensures c.or_default-words.ensures in
    let at : subcommand_rows_of m ≡ Some (c.in-Some.name.now, rows) = entered m c.in-Some.name.now rows c.in-Some.ensures.name c.in-Some.ensures.rows in
    let fault : fault_of crp (words_or_default words) ≡ [] =
    sym (ap₂ fault_of c.in-Ok.ensures c.or_default-words.ensures) ∙ c.in-Ok-try_get_matches_from.ensures.kinds (ap is_simple_and_free c.in-Ok.ensures ∙ crp_free) in
    IfErr-weaker c.job_of.result _ _ (λ u h. not_asked words c.in-Some.name.now rows u fault (λ j asks. subst (λ (o : Option (Text × List Row)). AsksFor o j) (sym sub ∙ at) asks.1)
    (λ f first. subst (λ (o : Option (Text × List Row)). IsFaultFor o f) (sym sub ∙ at) first.1)
    (λ f first. (fault, subst (λ (o : Option (Text × List Row)). IsFaultFor o f) (sym at ∙ sub) first)) h) c.job_of.ensures.err

pub returns-clause-refused : goal.returns-clause-refused
returns-clause-refused c =
    let words = map (λ w. w.now) c.args.words.now in
    let kinds = c.in-Err.ensures.kinds (ap is_simple_and_free c.in-Ok.ensures ∙ crp_free) in
    refused words c.usage_of.result (kind_of c.in-Err.error) c.usage_of.ensures
    (subst (λ (ks : Kinds). HasKind ks c.in-Err.error) (ap₂ fault_of c.in-Ok.ensures c.or_default-words.ensures) kinds)
