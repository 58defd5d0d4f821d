use Rattle.std.proofs.Common.{◌≡◌, ◌∙◌, Some, None, cond, eqb, drop, ap, sym, arith, get_or}
use Rattle.std.proofs.lemmas.List.{take_rest}
use Rattle.edi_text.specs.Reading.{after_line_ends}
use Rattle.crp_places.proofs.Openings.{advice-first, opens-advice, release-none, release-some}
use Rattle.crp_places.proofs.segments.opened.Goals as goal
use Rattle.crp_places.proofs.segments.opened.Goals.{then-release-eq32, else-release-eq32}

pub returns-after-release-eq32-clause-opened : goal.returns-after-release-eq32-clause-opened
returns-after-release-eq32-clause-opened c rest named h =
    let text = c.args.text.now in
    let begins = advice-first text c.in-85.len_at_least (grind arith) (grind arith) (grind arith) in
    let is = opens-advice text rest named begins h in
    let passed : c.skip_line_ends.result.now ≡ after_line_ends (drop 9 text) = c.skip_line_ends.ensures.passed ∙ ap after_line_ends (take_rest text 9) in
    let release : c.if-release-eq32.signs ≡ cond (eqb (get_or text 6 0) 32) None (Some (get_or text 6 0)) = elim c.if-release-eq32.branch [
      | then-release-eq32 w ↦ release-none c.if-release-eq32.signs (get_or text 6 0) w.if-release-eq32.true w.signs-is
      | else-release-eq32 w ↦ release-some c.if-release-eq32.signs (get_or text 6 0) w.if-release-eq32.false w.signs-is
    ] in
    (release ∙ sym is.0, sym is.1, passed ∙ is.2)
