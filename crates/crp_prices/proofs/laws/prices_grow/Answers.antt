use Rattle.std.proofs.Common.{[], ◌∷◌, arith, length-append}
use Rattle.crp_prices.proofs.Pathway.{keeps_path}
use Rattle.crp_prices.proofs.laws.prices_grow.Goals as goal

pub returns : goal.returns
returns c price unit p path row s t mosts some is a b m =
    let r = keeps_path price unit p path row s t mosts is a b m in
    (r.after, r.are, omega (arith, r.rounded some, length-append path (row ∷ [])))
