use Rattle.std.proofs.Common.{◌≡◌, Some, map, rules, refl, ap}
use Rattle.crp_callers.proofs.Worded.{check_words, check_ends}
use Rattle.crp_callers.proofs.words.lines_of_check.Goals as goal

pub returns-then-status-eq0 : goal.returns-then-status-eq0
returns-then-status-eq0 g c =
    let words : map (λ w. w.now) c.as_slice.result.now ≡ check_words = search rules in
    check_ends _ _ _ c.run_words-status.result c.args.certificates.now c.run_words-status.new.streams.out.bytes.items words c.run_words-status.ensures
    c.if-status-eq0.true refl (ap Some c.new-out.ensures.bytes) refl
