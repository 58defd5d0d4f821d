use Rattle.std.proofs.Common.{◌≡◌, ◌∙◌, ◌+◌, false, sym, ap, arith, tests}
use Rattle.std.specs.Prelude.{nat_lt, nat_le, ◌||◌}
use Rattle.crp_notes.specs.Beyond.{standing_in, lands_beyond}
use Rattle.crp_notes.proofs.Planned.{one_above}
use Rattle.crp_notes.proofs.reaching.lands_beyond.Goals as goal

pub returns-else-row-to : goal.returns-else-row-to
returns-else-row-to c =
    let row = c.args.row in
    let tier = c.args.tier in
    let stacks = c.args.problem.now.stacks in
    let before = c.args.before.now in
    let within : nat_lt row c.in-Shift.to ≡ false = grind (arith, tests, c.if-row-to.false) in
    ap (nat_le tier) c.standing_in.ensures ∙ one_above tier (standing_in stacks before c.in-Shift.to)
    ∙ ap (λ b. b || nat_lt tier (standing_in stacks before c.in-Shift.to + 1)) (sym within) ∙ sym (ap (lands_beyond row tier stacks before) c.in-Shift.is)
