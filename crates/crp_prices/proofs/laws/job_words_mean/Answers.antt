use Rattle.crp_prices.proofs.Clear.{clear}
use Rattle.crp_prices.proofs.Jobs.{one_turn, not_both}
use Rattle.crp_prices.proofs.Meaning.{first_means, job_means}
use Rattle.crp_prices.proofs.laws.job_words_mean.Goals as goal

pub returns : goal.returns
returns c = record {
  first = first_means;
  one_turn = λ s a b sound i j e. one_turn s a b (clear s sound) i j e;
  not_both = λ s j sound l f. not_both s j (clear s sound) l f;
  jobs = job_means;
}
