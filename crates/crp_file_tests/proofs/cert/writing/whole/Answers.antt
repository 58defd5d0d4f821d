use Rattle.crp_cert.proofs.Worked.{part_at_root}
use Rattle.crp_file_tests.proofs.cert.writing.whole.Goals as goal

pub new-requires-clause-part : goal.new-requires-clause-part
new-requires-clause-part c = part_at_root c.args.problem.now c.root.result c.args.tree c.root.ensures c.requires.problem c.requires.shape
