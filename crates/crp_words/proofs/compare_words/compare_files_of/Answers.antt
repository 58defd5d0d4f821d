use Rattle.std.proofs.Common.{◌∙◌, codes, sym}
use Rattle.clap.specs.Words.{found_of}
use Rattle.clap.proofs.WalkLemmas.{first_value-rows}
use Rattle.crp_words.proofs.compare_words.compare_files_of.Goals as goal

pub returns : goal.returns
returns c = (
  c.requires.yard,
  c.requires.report,
  c.requires.second,
  sym (first_value-rows (found_of c.args.matches.now) (codes "sizes")) ∙ sym c.get_str.ensures,
  c.is_given.ensures,
  c.requires.separator,
)
