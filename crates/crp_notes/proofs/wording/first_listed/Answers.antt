use Rattle.std.proofs.Common.{◌≡◌, length, arith}
use Rattle.std.specs.Prelude.{min}
use Rattle.crp_notes.proofs.Firsts.{firsts, are_more}
use Rattle.crp_notes.proofs.wording.first_listed.Goals as goal

pub returns : goal.returns
returns c =
    let names = c.args.names.now in
    let most : c.min-shown.result ≡ min c.args.most (length names) = omega (arith, c.min-shown.ensures) in
    rw (firsts c.args.most c.min-shown.result names most, are_more c.args.most c.min-shown.result names most) c.listed.ensures
