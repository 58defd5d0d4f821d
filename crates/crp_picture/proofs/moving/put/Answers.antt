use Rattle.std.proofs.Common.{◌≡◌, length, sym, arith}
use Rattle.crp_picture.proofs.Rowwise.{none_put}
use Rattle.crp_picture.proofs.moving.put.Goals as goal

pub returns-in_default : goal.returns-in_default
returns-in_default c =
    let n : c.len.result ≡ length c.args.rows.now.items = omega arith in
    sym (none_put c.args.rows.now.items c.args.row c.args.stack (λ i e lt. c.in_default.ensures.none i e (omega arith)))
