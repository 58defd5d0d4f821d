use Rattle.std.proofs.Common.{◌≡◌, true, subst, nat_eq}
use Rattle.std.specs.Cmp.Lexicographic.{pointwise}
use Rattle.crp_tree.proofs.Ordered.{not_itself, goes_further, one_first, less_if, less_means, same_rows, rows_same}
use Rattle.crp_tree.proofs.laws.names_are_ordered.Goals as goal

pub returns : goal.returns
returns c = record {
  irreflexive = not_itself;
  transitive = goes_further;
  total = one_first;
  compared = λ name other. (less_means name other, less_if name other);
  same = λ name other. (same_rows name other, λ e. subst (λ b. pointwise nat_eq name b ≡ true) e (rows_same name));
}
