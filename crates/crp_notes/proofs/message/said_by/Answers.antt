use Rattle.std.proofs.Common.{◌≡◌, false, None, sym, subst, ◌∙◌}
use Rattle.std.specs.Prelude.{unwrap_or}
use Rattle.edi_text.specs.Parts.{no_segment, segment_at}
use Rattle.crp_notes.specs.Messages.{IsKind}
use Rattle.crp_notes.proofs.Saying.{nothing}
use Rattle.crp_notes.proofs.message.said_by.Goals as goal

pub returns-in-None : goal.returns-in-None
returns-in-None c =
    let none : segment_at c.args.segments.now c.args.number ≡ None = sym c.segment.ensures ∙ c.in-None.is in
    subst (λ o. IsKind (unwrap_or o no_segment) false false false false) (sym none) nothing
