use Rattle.std.proofs.Common.{◌∙◌, ℕ, ◌++◌, ap}
use Rattle.std.specs.Prelude.{codes}
use Rattle.crp_plan.specs.Rows.{tallest}
use Rattle.crp_picture.specs.Pictures.{ground_parts, ground_name}
use Rattle.crp_picture.proofs.Drawing.{two, four}
use Rattle.crp_picture.proofs.ground.push_ground.Goals as goal

pub returns : goal.returns
returns c =
    let heights = c.args.heights.now in
    let name = ground_name c.args.number in
    let parts = ground_parts (tallest heights) heights in
    let u = c.extend_from_slice.new.self.items in
    let w = c.extend_from_slice-2.new.self.items in
    two c.args.text.now.items u c.extend_from_slice-3.new.self.items (codes "<g id=\"") (name ++ (codes "\">" ++ (parts ++ codes "</g>"))) c.in_ok-extend_from_slice.ensures.items
    (four u c.push_ground_name.new.text.items w c.push_parts.new.text.items c.extend_from_slice-3.new.self.items name (codes "\">") parts (codes "</g>") c.in_ok-push_ground_name.ensures
    c.in_ok-extend_from_slice-2.ensures.items (c.in_ok-push_parts.ensures ∙ ap (λ (n : ℕ). w ++ ground_parts n heights) c.tallest.ensures) c.in_ok-extend_from_slice-3.ensures.items)
