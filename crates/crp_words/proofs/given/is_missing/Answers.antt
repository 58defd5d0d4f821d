use Rattle.clap.specs.Words.{found_of}
use Rattle.crp_words.proofs.HeightSteps.{missing}
use Rattle.crp_words.proofs.given.is_missing.Goals as goal

pub returns : goal.returns
returns c = missing (found_of c.args.matches.now) c.args.name.now c.get_str.result c.is_none.result c.get_str.ensures c.is_none.ensures
