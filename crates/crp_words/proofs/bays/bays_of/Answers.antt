use Rattle.std.proofs.Common.{◌∙◌, Some, None, Bor, List, ℕ, map, take_all, ap, sym, refl, codes}
use Rattle.clap.specs.Words.{found_of}
use Rattle.crp_words.proofs.BayTexts.{texts_are, no_bays_of}
use Rattle.crp_words.proofs.bays.bays_of.Goals as goal

pub returns-in_default-clause-ok : goal.returns-in_default-clause-ok
returns-in_default-clause-ok c = rw c.new-bays.ensures.items (tt, sym (texts_are (found_of c.args.matches.now) (codes "bay") None c.in_default.ensures))

pub returns-in_default-bay_in-clause-err : goal.returns-in_default-bay_in-clause-err
returns-in_default-bay_in-clause-err c =
    let texts = texts_are (found_of c.args.matches.now) (codes "bay") (Some c.in-Some.texts) c.in-Some.ensures in
    let none = no_bays_of c.in-Some.texts.now c.loop-text.text-index _ c.loop-text-test.true (rw c.as_bytes.ensures.value at c.in_default-bay_in.ensures.none) in
    (λ bays finds. none bays finds.0 (finds.1 ∙ texts), (refl, λ bays finds. none bays finds.0 (finds.1 ∙ texts)))

pub returns-clause-ok : goal.returns-clause-ok
returns-clause-ok c =
    let all = take_all c.loop-text.text-index c.in-Some.texts.now c.loop-text-test.false in (
      c.loop-text.invariant.0,
      c.loop-text.invariant.1 ∙ ap (map (λ (v : Bor (List ℕ)). v.now)) all ∙ sym (texts_are (found_of c.args.matches.now) (codes "bay") (Some c.in-Some.texts) c.in-Some.ensures),
    )
