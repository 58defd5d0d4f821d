use Rattle.std.proofs.Common.{◌∙◌, Some, None, Bor, List, ℕ, map, take_all, ap, sym, codes}
use Rattle.clap.specs.Words.{found_of}
use Rattle.crp_words.proofs.BayTexts.{texts_are}
use Rattle.crp_words.proofs.bays.messages_of.Goals as goal

pub returns-in_default-clause-ok : goal.returns-in_default-clause-ok
returns-in_default-clause-ok c = c.new-messages.ensures.items ∙ sym (texts_are (found_of c.args.matches.now) (codes "message") None c.in_default.ensures)

pub returns-clause-ok : goal.returns-clause-ok
returns-clause-ok c =
    let all = take_all c.loop-text.text-index c.in-Some.texts.now c.loop-text-test.false in
    c.loop-text.invariant ∙ ap (map (λ (v : Bor (List ℕ)). v.now)) all ∙ sym (texts_are (found_of c.args.matches.now) (codes "message") (Some c.in-Some.texts) c.in-Some.ensures)
