use Rattle.std.proofs.Common.{refl, option_map}
use Rattle.std.proofs.lemmas.Result.{err_from_is_err_and}
use Rattle.clap.specs.Words.{found_of, rows_of}
use Rattle.crp_sizes.specs.Sizes.{one_size}
use Rattle.crp_words.specs.Words.{heights_or}
use Rattle.crp_words.proofs.Lacking.{no_size, no_bays}
use Rattle.crp_words.proofs.input_words.input_of.Goals as goal

pub returns-in_err-size-clause-err : goal.returns-in_err-size-clause-err
returns-in_err-size-clause-err c =
    let p = err_from_is_err_and c.from_residual.result c.from_residual.ensures.1 in
    rw (p.1, p.2) (no_size (rows_of (found_of c.args.matches.now)) c.in_err-size.field-0.0 c.in_err-size.ensures.err)

pub returns-in_err-bays-clause-err : goal.returns-in_err-bays-clause-err
returns-in_err-bays-clause-err c =
    let p = err_from_is_err_and c.from_residual-in_err-bays.result c.from_residual-in_err-bays.ensures.1 in
    let size = c.in_ok-size.size in
    let own = option_map (λ list. list.items) size.heights in
    rw (p.1, p.2) (no_bays (rows_of (found_of c.args.matches.now)) (one_size (heights_or own size.rows size.tiers)) c.in_err-bays.field-0.0 (record {
      rows = size.rows;
      tiers = size.tiers;
      own = own;
      finds_rows = c.in_ok-size.ensures.rows;
      finds_tiers = c.in_ok-size.ensures.tiers;
      finds_own = c.in_ok-size.ensures.own;
      are = refl;
    }) c.in_err-bays.ensures.err)
