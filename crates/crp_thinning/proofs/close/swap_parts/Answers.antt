use Rattle.std.proofs.Common.{◌-◌, List, ℕ, length, sym, ap, refl, ◌∙◌}
use Rattle.crp_thinning.proofs.Closing.{swapped}
use Rattle.crp_thinning.proofs.close.swap_parts.Goals as goal

pub returns : goal.returns
returns c = record {
  swapped = λ before one other e b m.
      let xs : List ℕ = c.deref_mut.result.now in
      swapped before one other xs c.rotate_left.new.self _ c.args.start c.args.middle c.args.symbols.now.len (length xs - c.args.start) (c.args.middle - c.args.start) (c.deref_mut.ensures.value ∙ e) b m (c.args.symbols.now.ok.0 ∙ ap length (sym c.deref_mut.ensures.value)) refl refl c.rotate_left.ensures.after;
}
