use Rattle.std.proofs.Common.{◌≡◌, ℕ, List, ◌++◌, false, not, Option, Some, None, Bor, sym, ap, ◌∙◌}
use Rattle.std.specs.Prelude.{codes}
use Rattle.std.specs.Option.{is_some}
use Rattle.std.proofs.lemmas.Option.{none-some}
use Rattle.crp_cert.specs.Reading.{Reads, tag_at}
use Rattle.crp_cert.proofs.Numbers.{tag_again}
use Rattle.crp_cert.proofs.PartTests.{are_marks_to, are_marks_from}
use Rattle.crp_cert.proofs.trees.are_symbols.Goals as goal

-- G is not read at their front
no_first : (bytes : List ℕ) (r : Option (Bor (List ℕ))) → Reads (λ (x : Bor (List ℕ)). x.now) r (tag_at (codes "G") bytes) → is_some r ≡ false → (rest : List ℕ) → bytes ≡ codes "G" ++ rest → ⊥
no_first bytes None e is rest f = none-some rest (sym e ∙ ap (tag_at (codes "G")) f ∙ tag_again (codes "G") rest)
no_first bytes (Some x) e is rest f = absurd cc

pub returns-then-is_none : goal.returns-then-is_none
returns-then-is_none c = (
  λ t. record {
    marks = are_marks_to c.args.version c.args.bytes.now (sym c.are_marks.ensures ∙ t);
    not_first = no_first c.args.bytes.now c.after_tag.result c.after_tag.ensures (c.is_none.ensures ∙ ap not c.if-is_none.true);
  },
  λ are. c.are_marks.ensures ∙ are_marks_from c.args.version c.args.bytes.now are.marks,
)
