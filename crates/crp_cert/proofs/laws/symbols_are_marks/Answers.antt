use Rattle.crp_cert.proofs.Symbols.{marks_are}
use Rattle.crp_cert.proofs.laws.symbols_are_marks.Goals as goal

pub returns : goal.returns
returns c = marks_are
