use Rattle.std.proofs.Common.{refl}
use Rattle.crp_cert.proofs.Heights.{one_to, one_from}
use Rattle.crp_cert.proofs.Written.{spelled_is_script, first_is_script, claimed_rise}
use Rattle.crp_cert.proofs.laws.written_is_read.Goals as goal

pub returns : goal.returns
returns c = record {
  read = λ bay claim name t. (spelled_is_script bay claim name t, refl);
  version = λ p is. (one_to p is, one_from p);
  again = λ bay claim. refl;
  first_read = λ bay claim name t. (first_is_script bay claim name t, refl);
  first_again = λ bay claim. refl;
  rising = claimed_rise;
}
