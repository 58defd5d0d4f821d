use Rattle.crp_follow.proofs.Leaving.{leaves, stays, next, none_next}
use Rattle.crp_follow.proofs.KeptLaws.{left_stand}
use Rattle.crp_follow.proofs.laws.what_columns_say.Goals as goal

pub returns : goal.returns
returns c = record {
  leaves = leaves;
  stays = stays;
  next = next;
  none = none_next;
  left = λ heights start rows moves step leads. left_stand heights start moves step rows leads;
}
