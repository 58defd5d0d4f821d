use Rattle.std.proofs.Common.{◌≡◌, ◌∙◌, Bor, List, ℕ, None, ap, codes, option_map, refl, subst, sym}
use Rattle.std.proofs.lemmas.Bool.{false≢true}
use Rattle.std.proofs.lemmas.Result.{err_from_is_err_and}
use Rattle.clap.specs.Words.{first_of, found_of, rows_of}
use Rattle.clap.proofs.WalkLemmas.{first_value-rows}
use Rattle.crp_follow.specs.Parts.{NamedPart}
use Rattle.crp_words.specs.Words.{Asks, HasSeparator, HasText, IsComparedBeside, IsFault, IsLoadedAlone, IsOrderedAlone, IsSizedTwice, Lacks, MayNameAfter}
use Rattle.crp_words.proofs.FollowLacking.{no_follow, follow_sized_twice, follow_ordered_alone, follow_loaded_alone, follow_named_twice, follow_compared_beside, no_part, part_of_input}
use Rattle.crp_words.proofs.follow_words.follow_of.Goals as goal

pub returns-then-is_sized_twice-clause-err : goal.returns-then-is_sized_twice-clause-err
returns-then-is_sized_twice-clause-err c =
    follow_sized_twice (rows_of (found_of c.args.matches.now)) c.wrong.result (c.is_sized_twice.ensures.0 c.if-is_sized_twice.true) c.wrong.ensures

pub returns-then-is_ordered_alone-clause-err : goal.returns-then-is_ordered_alone-clause-err
returns-then-is_ordered_alone-clause-err c =
    follow_ordered_alone (rows_of (found_of c.args.matches.now)) c.wrong-then-is_ordered_alone.result (c.is_ordered_alone.ensures.0 c.if-is_ordered_alone.true) c.wrong-then-is_ordered_alone.ensures

pub returns-then-is_loaded_alone-clause-err : goal.returns-then-is_loaded_alone-clause-err
returns-then-is_loaded_alone-clause-err c =
    follow_loaded_alone (rows_of (found_of c.args.matches.now)) c.wrong-then-is_loaded_alone.result (c.is_loaded_alone.ensures.0 c.if-is_loaded_alone.true) c.wrong-then-is_loaded_alone.ensures

pub returns-in-Some-clause-err : goal.returns-in-Some-clause-err
returns-in-Some-clause-err c = follow_named_twice (rows_of (found_of c.args.matches.now)) c.same_file.result c.in-Some.ensures.some c.same_file.ensures

pub returns-then-is_compared_beside-clause-err : goal.returns-then-is_compared_beside-clause-err
returns-then-is_compared_beside-clause-err c =
    follow_compared_beside (rows_of (found_of c.args.matches.now)) c.wrong-then-is_compared_beside.result (c.is_compared_beside.ensures.0 c.if-is_compared_beside.true) c.wrong-then-is_compared_beside.ensures

pub returns-in_err-input-clause-err : goal.returns-in_err-input-clause-err
returns-in_err-input-clause-err c =
    let once : ¬ IsSizedTwice (rows_of (found_of c.args.matches.now)) = λ twice. false≢true (sym c.if-is_sized_twice.false ∙ c.is_sized_twice.ensures.1 twice) in
    let beside : ¬ IsOrderedAlone (rows_of (found_of c.args.matches.now)) = λ alone. false≢true (sym c.if-is_ordered_alone.false ∙ c.is_ordered_alone.ensures.1 alone) in
    let counted : ¬ IsLoadedAlone (rows_of (found_of c.args.matches.now)) = λ alone. false≢true (sym c.if-is_loaded_alone.false ∙ c.is_loaded_alone.ensures.1 alone) in
    let alone : ¬ IsComparedBeside (rows_of (found_of c.args.matches.now)) = λ is. false≢true (sym c.if-is_compared_beside.false ∙ c.is_compared_beside.ensures.1 is) in
    let p = err_from_is_err_and c.from_residual.result c.from_residual.ensures.1 in
    rw (p.1, p.2) (no_follow (rows_of (found_of c.args.matches.now)) c.in_err-input.field-0.0 (once, beside, counted, c.in_default.ensures.none, alone) c.in_err-input.ensures.err)

pub returns-in_err-yard-clause-err : goal.returns-in_err-yard-clause-err
returns-in_err-yard-clause-err c =
    let p = err_from_is_err_and c.from_residual-in_err-yard.result c.from_residual-in_err-yard.ensures.1 in
    rw (p.1, p.2) (no_part (HasText (codes "yard") (rows_of (found_of c.args.matches.now))) (rows_of (found_of c.args.matches.now)) c.in_ok-input.input
    c.in_err-yard.field-0.0 (λ files. files.yard) c.in_ok-input.ensures.ok c.in_err-yard.ensures.err)

pub returns-in_err-report-clause-err : goal.returns-in_err-report-clause-err
returns-in_err-report-clause-err c =
    let p = err_from_is_err_and c.from_residual-in_err-report.result c.from_residual-in_err-report.ensures.1 in
    rw (p.1, p.2) (no_part (HasText (codes "report") (rows_of (found_of c.args.matches.now))) (rows_of (found_of c.args.matches.now)) c.in_ok-input.input
    c.in_err-report.field-0.0 (λ files. files.report) c.in_ok-input.ensures.ok c.in_err-report.ensures.err)

pub returns-in_err-after-clause-err : goal.returns-in_err-after-clause-err
returns-in_err-after-clause-err c =
    let p = err_from_is_err_and c.from_residual-in_err-after.result c.from_residual-in_err-after.ensures.1 in
    let one : first_of (codes "compare") (rows_of (found_of c.args.matches.now)) ≡ None =
    sym (first_value-rows (found_of c.args.matches.now) (codes "compare")) ∙ sym c.get_str.ensures ∙ ap (option_map (λ (s : Bor (List ℕ)). s.now)) c.in_default-get_str.is in
    rw (p.1, p.2) (no_part (MayNameAfter (rows_of (found_of c.args.matches.now))) (rows_of (found_of c.args.matches.now)) c.in_ok-input.input
    c.in_err-after.field-0.0 (λ files. files.after one) c.in_ok-input.ensures.ok c.in_err-after.ensures.err)

pub compare_files_of-files-requires-clause-second : goal.compare_files_of-files-requires-clause-second
compare_files_of-files-requires-clause-second c =
    sym (first_value-rows (found_of c.args.matches.now) (codes "compare")) ∙ sym c.get_str.ensures ∙ ap (option_map (λ (s : Bor (List ℕ)). s.now)) c.in-Some-get_str.is

pub returns-in-Some-get_str-clause-ok : goal.returns-in-Some-get_str-clause-ok
returns-in-Some-get_str-clause-ok c = (
  refl,
  (
    (λ twice. false≢true (sym c.if-is_sized_twice.false ∙ c.is_sized_twice.ensures.1 twice)),
    (λ alone. false≢true (sym c.if-is_ordered_alone.false ∙ c.is_ordered_alone.ensures.1 alone)),
    (λ alone. false≢true (sym c.if-is_loaded_alone.false ∙ c.is_loaded_alone.ensures.1 alone)),
    c.in_default.ensures.none,
    (λ beside. false≢true (sym c.if-is_compared_beside.false ∙ c.is_compared_beside.ensures.1 beside)),
  ),
  c.compare_files_of-files.ensures,
  (c.for_all-settings.result.1.items, part_of_input (rows_of (found_of c.args.matches.now)) c.in_ok-input.input _ _ c.in_ok-input.ensures.ok c.for_all-settings.ensures.settings c.for_all-settings.ensures.bays),
)

pub returns-in_err-separator-clause-err : goal.returns-in_err-separator-clause-err
returns-in_err-separator-clause-err c =
    let p = err_from_is_err_and c.from_residual-in_err-separator.result c.from_residual-in_err-separator.ensures.1 in
    rw (p.1, p.2) (no_part (HasSeparator (rows_of (found_of c.args.matches.now))) (rows_of (found_of c.args.matches.now)) c.in_ok-input.input
    c.in_err-separator.field-0.0 (λ files. files.separator) c.in_ok-input.ensures.ok c.in_err-separator.ensures.err)

pub returns-clause-ok : goal.returns-clause-ok
returns-clause-ok c = (
  refl,
  (
    (λ twice. false≢true (sym c.if-is_sized_twice.false ∙ c.is_sized_twice.ensures.1 twice)),
    (λ alone. false≢true (sym c.if-is_ordered_alone.false ∙ c.is_ordered_alone.ensures.1 alone)),
    (λ alone. false≢true (sym c.if-is_loaded_alone.false ∙ c.is_loaded_alone.ensures.1 alone)),
    c.in_default.ensures.none,
    (λ beside. false≢true (sym c.if-is_compared_beside.false ∙ c.is_compared_beside.ensures.1 beside)),
  ),
  sym (first_value-rows (found_of c.args.matches.now) (codes "compare")) ∙ sym c.get_str.ensures ∙ ap (option_map (λ (s : Bor (List ℕ)). s.now)) c.in_default-get_str.is,
  (
    c.in_ok-yard.ensures.ok,
    c.in_ok-report.ensures.ok,
    sym (first_value-rows (found_of c.args.matches.now) (codes "movins")) ∙ sym c.get_str-3.ensures,
    sym (first_value-rows (found_of c.args.matches.now) (codes "page")) ∙ sym c.get_str-4.ensures,
    sym (first_value-rows (found_of c.args.matches.now) (codes "sizes")) ∙ sym c.get_str-2.ensures,
    c.in_ok-after.ensures.ok,
    c.is_given.ensures,
    c.is_given-2.ensures,
    c.in_ok-separator.ensures.ok,
    ap (λ (p : NamedPart). p.blocks) c.new.ensures ∙ c.in_ok-blocks.ensures.ok,
  ),
  part_of_input (rows_of (found_of c.args.matches.now)) c.in_ok-input.input _ _ c.in_ok-input.ensures.ok c.for_all-settings.ensures.settings
      (ap (λ (p : NamedPart). p.bays) c.new.ensures ∙ c.for_all-settings.ensures.bays),
)

pub returns-in_err-blocks-clause-err : goal.returns-in_err-blocks-clause-err
returns-in_err-blocks-clause-err c =
    let p = err_from_is_err_and c.from_residual-in_err-blocks.result c.from_residual-in_err-blocks.ensures.1 in
    rw (p.1, p.2) (subst (Lacks (Asks (codes "follow") (rows_of (found_of c.args.matches.now))) (IsFault (codes "follow") (rows_of (found_of c.args.matches.now)))) (sym c.in_err-blocks.ensures.err) tt)
