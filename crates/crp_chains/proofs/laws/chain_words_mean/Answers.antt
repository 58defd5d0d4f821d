use Rattle.std.proofs.Common.{arith}
use Rattle.crp_plan.proofs.Lists.{times, at_le_sum}
use Rattle.crp_chains.proofs.Clear.{clear}
use Rattle.crp_chains.proofs.Blockers.{one_turn, same_family}
use Rattle.crp_chains.proofs.Reading.{own_closed, standing_left}
use Rattle.crp_chains.proofs.Naming.{family_named, family_ranks}
use Rattle.crp_chains.proofs.laws.chain_words_mean.Goals as goal

pub returns : goal.returns
returns c = record {
  one_turn = λ s a b sound i j e. one_turn s a b (clear s sound) i j e;
  own_row = λ s b k height row stack sound here held. own_closed s b k height row stack (clear s sound) here held;
  one_family = λ s a b sound f g e. same_family s a b (clear s sound) f.chains g.chains e;
  named = λ s family sound f. family_named s family sound.once f.chains;
  ranks = family_ranks;
  left = λ s k row stack sound here. standing_left s.next k stack (λ x lt. omega (arith, sound.gone x lt, at_le_sum (times x) s.stacks row stack here));
}
