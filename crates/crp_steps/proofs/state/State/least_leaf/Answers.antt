use Rattle.std.proofs.Common.{◌≡◌, ◌∙◌, ◌≤◌, ◌<◌, ◌+◌, get_or, length, map, drop, arith, ap, sym, subst}
use Rattle.crp_tree.specs.Trees.{least}
use Rattle.crp_steps.specs.Worlds.{World, Leaf}
use Rattle.crp_steps.proofs.Asked.{leaf_more}
use Rattle.crp_steps.proofs.state.State.least_leaf.Goals as goal

pub loop-leaf-preserved : goal.loop-leaf-preserved
loop-leaf-preserved c =
    let inv = c.loop-leaf.invariant in
    let items = c.deref-leaf-items.result.now in
    let lt : c.loop-leaf.leaf-index < length items = omega arith in
    let same : items ≡ c.args.self.now.leaves = c.deref-leaf-items.ensures.value ∙ ap (λ (w : World). w.leaves) c.self.view_is in
    let value : c.leaf.inside.value ≡ c.leaf-item.result.value = ap (λ (l : Leaf). l.value) c.leaf.view_is in
    let more = leaf_more c.loop-leaf.least items c.loop-leaf.leaf-index c.leaf-item.result lt c.leaf-item.is in
    let e : c.min-least.result ≡ Rattle.std.proofs.Common.min c.loop-leaf.least c.leaf-item.result.value = c.min-least.ensures ∙ ap (Rattle.std.proofs.Common.min c.loop-leaf.least) value in
    let low = inv.1 in (
      ap (λ n. least n (map (λ (l : Leaf). l.value) (drop (c.loop-leaf.leaf-index + 1) c.args.self.now.leaves))) e
          ∙ subst (λ l. least (Rattle.std.proofs.Common.min c.loop-leaf.least c.leaf-item.result.value) (map (λ (x : Leaf). x.value) (drop (c.loop-leaf.leaf-index + 1) l)) ≡ least c.loop-leaf.least (map (λ (x : Leaf). x.value) (drop c.loop-leaf.leaf-index l))) same more
          ∙ inv.0,
      omega arith,
    )
