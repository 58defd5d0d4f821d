use Rattle.crp_prices.proofs.Pathway.{row_taken, row_other, row_onto, row_path}
use Rattle.crp_prices.proofs.laws.rows_keep_most.Goals as goal

pub returns : goal.returns
returns c = record {
  taken = λ price unit s from t row most sound k is. row_taken price unit s from t row most sound k is;
  others = λ price unit s from to t row most sound k ne is. row_other price unit s from to t row most sound k ne is;
  onto = row_onto;
  path = row_path;
}
