use Rattle.std.proofs.Common.{◌≡◌, ◌≢◌, length, true, false, refl, subst, arith}
use Rattle.crp_plan.specs.Bay.{start}
use Rattle.crp_audit.specs.Replayed.{IsReplayed}
use Rattle.crp_audit.proofs.Looks.{plan_looked, other_count}
use Rattle.crp_audit.proofs.looking.of_plan.Goals as goal
use Rattle.crp_audit.proofs.looking.of_plan.Goals.{else-finished-via-then-finished+else-len-count, else-finished-via-else-finished}

pub returns-then-len-count : goal.returns-then-len-count
returns-then-len-count c = λ names p lines f.
    let (moves, place, leads, rows, end) = subst (IsReplayed names (start p) lines) c.in-Through.is f in
    let long : length c.in-Through.path.items ≡ c.args.count = omega (arith, c.len.ensures, c.if-len-count.true) in
    (c.args.count, refl, plan_looked names p lines c.args.count c.in-Through.path.items moves place leads rows (end.0 c.if-finished.true) long)

pub returns-else-finished : goal.returns-else-finished
returns-else-finished c = λ names p lines f.
    let (moves, place, leads, rows, end) = subst (IsReplayed names (start p) lines) c.in-Through.is f in (
      moves,
      place,
      leads,
      elim c.else-finished.branch [
        | else-finished-via-then-finished+else-len-count w ↦
            let apart : length c.in-Through.path.items ≢ c.args.count = λ e. omega (arith, w.len.ensures, w.if-len-count.false, e) in
            other_count c.in-Through.path.items moves place c.args.count rows apart
        | else-finished-via-else-finished w ↦ λ both.
            let yes : c.in-Through.finished ≡ true = end.1 both.0 in
            let no : c.in-Through.finished ≡ false = w.if-finished.false in cc
      ],
    )
