use Rattle.std.proofs.Common.{length}
use Rattle.crp_file_tests.proofs.cert.certs.push_tree.Given as goal

abbrev pub decreases-loop-kind : goal.decreases-loop-kind
decreases-loop-kind l = length l.rest
