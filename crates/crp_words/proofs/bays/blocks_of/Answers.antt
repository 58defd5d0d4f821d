use Rattle.std.proofs.Common.{◌∙◌, Some, None, Bor, List, ℕ, map, ap, sym, codes}
use Rattle.clap.specs.Words.{found_of}
use Rattle.crp_words.proofs.BayTexts.{texts_are}
use Rattle.crp_words.proofs.bays.blocks_of.Goals as goal

pub returns-in_default-clause-ok : goal.returns-in_default-clause-ok
returns-in_default-clause-ok c = ap (map (λ (v : Bor (List ℕ)). v.now)) c.new.ensures.items ∙ sym (texts_are (found_of c.args.matches.now) (codes "block") None c.in_default.ensures)

pub returns-in-Ok-clause-ok : goal.returns-in-Ok-clause-ok
returns-in-Ok-clause-ok c =
    ap (map (λ (v : Bor (List ℕ)). v.now)) c.in-Ok.ensures.items ∙ sym (texts_are (found_of c.args.matches.now) (codes "block") (Some c.in-Some.texts) c.in-Some.ensures)
