use Rattle.std.proofs.Common.{rules, ap, refl, ◌+◌, inr, subst}
use Rattle.std.specs.Prelude.{IsSome}
use Rattle.csv.specs.Records.{fields_of}
use Rattle.crp_sizes.specs.Sizes.{BaySize}
use Rattle.crp_sizes.specs.Records.{GivesSize}
use Rattle.crp_sizes.proofs.records.take.Goals as goal

pub returns-in-Some-heights_of-clause-refused : goal.returns-in-Some-heights_of-clause-refused
returns-in-Some-heights_of-clause-refused c =
    let size : BaySize = (c.bay_of-bay.result, c.in-Some.heights.items) in
    let gives : GivesSize (fields_of c.args.fields.now) size = search rules in
    inr (ap (λ n. n + 2) c.len-record.ensures.value, size, gives, subst IsSome c.in-Some-heights_of.ensures.value refl)
