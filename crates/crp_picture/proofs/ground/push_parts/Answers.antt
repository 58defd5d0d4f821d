use Rattle.std.proofs.Common.{◌∙◌, ℕ, ◌+◌, ◌*◌, List, ◌++◌, length, ap}
use Rattle.std.specs.Prelude.{codes}
use Rattle.crp_picture.specs.Grid.{path, line}
use Rattle.crp_picture.specs.Pictures.{places_to, floor_of, row_numbers, tiers_text}
use Rattle.crp_picture.proofs.Drawing.{four}
use Rattle.crp_picture.proofs.ground.push_parts.Goals as goal

pub returns : goal.returns
returns c =
    let t = c.args.text.now.items in
    let u = c.push_path.new.text.items in
    let v = c.push_path-2.new.text.items in
    let tiers = c.args.tiers in
    let heights = c.args.heights.now in
    four t u v c.push_text_line.new.text.items c.push_tiers.new.text.items (path (codes "f") (places_to tiers heights (length heights))) (path (codes "g") (floor_of tiers (length heights)))
    (line 113 1 (40 + 32 * tiers) (length heights) (row_numbers (length heights))) (tiers_text tiers)
    (c.in_ok-push_path.ensures ∙ ap (λ (s : List ℕ). t ++ path (codes "f") s) (c.deref.ensures.value ∙ c.in_ok-places.ensures))
    (c.in_ok-push_path-2.ensures ∙ ap (λ (s : List ℕ). u ++ path (codes "g") s) (c.deref-2.ensures.value ∙ c.in_ok-floor.ensures))
    (c.in_ok-push_text_line.ensures ∙ ap (λ (n : ℕ). v ++ line 113 1 (40 + 32 * n) (length heights) c.deref-3.result.now) c.from.ensures
    ∙ ap (λ (s : List ℕ). v ++ line 113 1 (40 + 32 * tiers) (length heights) s) (c.deref-3.ensures.value ∙ c.in_ok-numbers.ensures))
    c.in_ok-push_tiers.ensures
