use Rattle.std.proofs.Common.{◌<◌, ℕ, Vec, Global, length, rules, subst}
use Rattle.std.proofs.lemmas.Result.{err_from_is_err_and}
use Rattle.crp_plan.specs.Devices.{AppendsPart}
use Rattle.crp_plan.proofs.Fronts.{Appends-then_part, split}
use Rattle.crp_report.proofs.writing.write_shares.Goals as goal

pub returns-in_err-write_all-clause-part : goal.returns-in_err-write_all-clause-part
returns-in_err-write_all-clause-part g c =
    let p = err_from_is_err_and c.from_residual.result c.from_residual.ensures.1 in
    let i = c.loop-share.share-index in
    let shares = c.args.shares.now in
    let small : i < length shares = search rules in
    rw (p.1) (subst (AppendsPart _ _) (split (λ (t : Vec ℕ Global). t.items) shares i c.share-item.result small c.share-item.is) (Appends-then_part _ _ _ _ _ _ c.loop-share.invariant.0 (rw c.deref.ensures.value at c.in_err-write_all.ensures.part)))
