use Rattle.std.proofs.Common.{◌<◌, List, ℕ, Bor, length, rules, subst}
use Rattle.std.proofs.lemmas.Result.{err_from_is_err_and}
use Rattle.crp_plan.specs.Devices.{AppendsPart}
use Rattle.crp_plan.proofs.Fronts.{Appends-then_part, around}
use Rattle.crp_plan.proofs.transfer.write_each.Goals as goal

pub returns-in_err-write_all-clause-part : goal.returns-in_err-write_all-clause-part
returns-in_err-write_all-clause-part g c =
    let p = err_from_is_err_and c.from_residual.result c.from_residual.ensures.1 in
    let i = c.loop-text.text-index in
    let texts = c.args.texts.now in
    let small : i < length texts = search rules in
    rw (p.1) (subst (AppendsPart _ _) (around (λ (t : Bor (List ℕ)). t.now) texts i _ small) (Appends-then_part _ _ _ _ _ _ c.loop-text.invariant.0 c.in_err-write_all.ensures.part))
