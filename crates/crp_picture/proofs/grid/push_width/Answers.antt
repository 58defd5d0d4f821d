use Rattle.std.proofs.Common.{◌∙◌, ℕ, ◌*◌, ◌++◌, ap}
use Rattle.std.specs.Prelude.{codes, decimal}
use Rattle.crp_picture.proofs.Drawing.{three}
use Rattle.crp_picture.proofs.grid.push_width.Goals as goal

pub returns : goal.returns
returns c =
    let u = c.extend_from_slice.new.self.items in
    three c.args.text.now.items u c.push_decimal.new.text.items c.extend_from_slice-2.new.self.items (codes "\" textLength=\"") (decimal (40 * c.args.last)) (codes "\" lengthAdjust=\"spacingAndGlyphs\">")
    c.in_ok-extend_from_slice.ensures.items (c.in_ok-push_decimal.ensures ∙ ap (λ (n : ℕ). u ++ decimal (40 * n)) c.from.ensures) c.in_ok-extend_from_slice-2.ensures.items
