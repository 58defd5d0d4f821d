use Rattle.std.proofs.Common.{◌∙◌, codes, sym}
use Rattle.clap.specs.Words.{found_of}
use Rattle.clap.proofs.WalkLemmas.{first_value-rows}
use Rattle.crp_words.proofs.search_words.stop_of.Goals as goal

pub returns : goal.returns
returns c = sym (first_value-rows (found_of c.args.matches.now) (codes "stop")) ∙ sym c.get_str.ensures
