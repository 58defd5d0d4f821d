use Rattle.std.proofs.Common.{List, option_map, sym, subst}
use Rattle.crp_json.specs.declared.entry.Entry.{Entry}
use Rattle.crp_json.specs.Shown.{IsShown}
use Rattle.crp_json.proofs.Showing.{nothing_shown}
use Rattle.crp_json.proofs.lines.JsonLines.new.Goals as goal

pub invariant_of-result : goal.invariant_of-result
invariant_of-result g c =
    let first = option_map (λ line. line.items) c.args.first in
    let holds = g.S.Sink.contents c.args.out in
    subst (λ (pieces : List (List Entry)). IsShown g.B.Begun.held (record { printed = c.args.printed; first = first; pieces = pieces; holds = holds; failures = 0 })) (sym c.new.ensures)
    (nothing_shown c.args.printed g.B.Begun.held first holds c.requires)
