use Rattle.crp_chains.proofs.Naming.{family_named}
use Rattle.crp_chains.proofs.Singles.{ahead_family}
use Rattle.crp_thinned.proofs.Chained.{clear_thin, row_claims, lift_claims, end_claims, settled_claims}
use Rattle.crp_thinned.proofs.laws.chains_fall_slowly.Goals as goal

pub returns : goal.returns
returns c = record {
  row = row_claims;
  without = lift_claims;
  end = end_claims;
  named = λ s family thin f. family_named s family thin.once f.chains;
  reach_look_ahead = λ s thin. ahead_family s (clear_thin s thin);
  settled = λ s family once gone f. settled_claims s family (record { once = once; gone = gone }) f;
}
