use Rattle.std.proofs.Common.{[]}
use Rattle.crp_callers.proofs.claims.one_part_at_the_root.Goals as goal

pub returns : goal.returns
returns c = λ p parts is each as_often. c.names_once.ensures p parts is each as_often []
