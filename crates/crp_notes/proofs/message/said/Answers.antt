use Rattle.std.proofs.Common.{sym, ◌∙◌}
use Rattle.std.specs.Prelude.{codes}
use Rattle.std.proofs.lemmas.Slice.Eq.{bytes_eq-Decides}
use Rattle.crp_notes.proofs.Saying.{header, beginning, handling, other}
use Rattle.crp_notes.proofs.message.said.Goals as goal

pub returns-then-is_text : goal.returns-then-is_text
returns-then-is_text c = (
  header c.args.segment.now (sym c.tag-tag.ensures ∙ (bytes_eq-Decides c.tag-tag.result.now (codes "UNH")).0 (sym c.is_text.ensures ∙ c.if-is_text.true)),
  c.component.ensures,
)

pub returns-then-is_text-2 : goal.returns-then-is_text-2
returns-then-is_text-2 c = beginning c.args.segment.now (sym c.tag-tag.ensures ∙ (bytes_eq-Decides c.tag-tag.result.now (codes "BGM")).0 (sym c.is_text-2.ensures ∙ c.if-is_text-2.true))

pub returns-then-is_text-3 : goal.returns-then-is_text-3
returns-then-is_text-3 c = (
  handling c.args.segment.now (sym c.tag-tag.ensures ∙ (bytes_eq-Decides c.tag-tag.result.now (codes "HAN")).0 (sym c.is_text-3.ensures ∙ c.if-is_text-3.true)),
  c.component-then-is_text-3.ensures,
)

pub returns : goal.returns
returns c =
    let tag = c.tag-tag.ensures in
    other c.args.segment.now
    (rw tag at (sym c.is_text-5.ensures ∙ c.if-is_text-5.false))
    (rw tag at (sym c.is_text-4.ensures ∙ c.if-is_text-4.false))
    (rw tag at (sym c.is_text-3.ensures ∙ c.if-is_text-3.false))
    (rw tag at (sym c.is_text.ensures ∙ c.if-is_text.false))
