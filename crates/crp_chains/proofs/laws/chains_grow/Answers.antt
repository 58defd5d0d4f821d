use Rattle.std.proofs.Common.{[], ◌∷◌, arith, length-append}
use Rattle.crp_chains.proofs.Gaining.{gain_path}
use Rattle.crp_chains.proofs.laws.chains_grow.Goals as goal

pub returns : goal.returns
returns c p path row s t family is a b f =
    let r = gain_path p path row s t family is a b f in
    (r.0, r.1, omega (arith, r.2, length-append path (row ∷ [])))
