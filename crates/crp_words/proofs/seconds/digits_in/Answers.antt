use Rattle.std.proofs.Common.{arith}
use Rattle.std.proofs.lemmas.Bool.{false≢true}
use Rattle.std.proofs.lemmas.Str.Pattern.{starts_char}
use Rattle.crp_words.proofs.Thousandths.{digits_fit, digits_read}
use Rattle.crp_words.proofs.seconds.digits_in.Goals as goal

pub returns-in-Ok-clause-small : goal.returns-in-Ok-clause-small
returns-in-Ok-clause-small c =
    let starts = rw c.if-starts_with.false at (starts_char 43 c.args.text.now c.starts_with.result c.starts_with.ensures.cases (omega arith) (omega arith)) in
    digits_fit c.args.text.now c.parse.result c.in-Ok.number c.parse.ensures.value.0 (λ plus. false≢true (starts.1 plus)) c.in-Ok.is

pub returns-in-Err-clause-none : goal.returns-in-Err-clause-none
returns-in-Err-clause-none c are = digits_read c.args.most c.args.text.now c.parse.result c.requires c.parse.ensures.value.0 are c.in-Err.field-0 c.in-Err.is
