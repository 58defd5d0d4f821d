use Rattle.std.proofs.Common.{flat_map, sym}
use Rattle.std.specs.Prelude.{List, ℕ}
use Rattle.crp_yard.specs.Listings.{Adds}
use Rattle.crp_yard.proofs.NameSteps.{names-more}
use Rattle.crp_yard.proofs.names.names_of.Goals as goal

pub loop-i-preserved : goal.loop-i-preserved
loop-i-preserved c =
    let added : Adds c.loop-i.names.keys c.add_all.new.names.keys (flat_map (λ (stack : List (List ℕ)). stack) c.in-Some.stacks.now) = rw (← c.rows.ensures) c.in_ok-add_all.ensures in
    names-more c.loop-i.names.keys c.add_all.new.names.keys c.args.bays.now.entries c.loop-i.i (c.in-Some.field-0-0.now, c.in-Some.stacks.now) c.loop-i.invariant (sym c.in-Some.ensures.entry) added
