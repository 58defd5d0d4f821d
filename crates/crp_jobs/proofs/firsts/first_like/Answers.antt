use Rattle.std.proofs.Common.{Some, None, map, sym}
use Rattle.csv.specs.Records.{fields_of}
use Rattle.crp_jobs.proofs.FirstSteps.{like_is, like_none}
use Rattle.crp_jobs.proofs.firsts.first_like.Goals as goal

pub returns-then-number-lt2 : goal.returns-then-number-lt2
returns-then-number-lt2 c = sym (like_none c.args.how (map fields_of c.args.records.now) c.args.number c.if-number-lt2.true)

pub returns-in-None : goal.returns-in-None
returns-in-None c = sym (like_is fields_of c.args.how c.args.records.now c.args.number (fields_of c.in-Some.fields.now) None (sym c.in-Some.ensures.there) c.in-None.ensures)

pub returns-in-Some-position_like : goal.returns-in-Some-position_like
returns-in-Some-position_like c =
    sym (like_is fields_of c.args.how c.args.records.now c.args.number (fields_of c.in-Some.fields.now) (Some c.in-Some-position_like.i) (sym c.in-Some.ensures.there) c.in-Some-position_like.ensures)
