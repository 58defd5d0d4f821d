use Rattle.std.specs.Prelude.{codes}
use Rattle.crp_picture.specs.Grid.{width_of}
use Rattle.crp_picture.proofs.Drawing.{three}
use Rattle.crp_picture.proofs.grid.push_as_far.Goals as goal

pub returns : goal.returns
returns c =
    three c.args.text.now.items c.push_width.new.text.items c.extend_from_slice.new.self.items c.extend_from_slice-2.new.self.items (width_of c.args.last) c.args.pieces.now (codes "</text>")
    c.in_ok-push_width.ensures c.in_ok-extend_from_slice.ensures.items c.in_ok-extend_from_slice-2.ensures.items
