use Rattle.std.proofs.Common.{length, drop}
use Rattle.std.proofs.lemmas.Bool.Decides.{Decides-eqb}
use Rattle.std.proofs.lemmas.Slice.Eq.{starts_is}
use Rattle.crp_checker.proofs.opening.begins_with.Goals as goal

pub returns : goal.returns
returns c =
    let test = starts_is Decides-eqb c.args.bytes.now c.args.front.now c.starts_with.result c.starts_with.ensures.value in
    (λ yes'. (drop (length c.args.front.now) c.args.bytes.now, test.0 yes'), λ begun. test.1 begun.0 begun.1)
