use Rattle.std.proofs.Common.{◌≡◌, ◌∙◌, suc, ◌+◌, drop, sym, ap, arith}
use Rattle.bstr.specs.Utf8.{decoded}
use Rattle.crp_picture.specs.Names.{behind}
use Rattle.crp_picture.proofs.Cutting.{behind_more}
use Rattle.crp_picture.proofs.escaping.last_four.Goals as goal

pub loop-i-preserved : goal.loop-i-preserved
loop-i-preserved c =
    let next : suc c.loop-i.i ≡ c.loop-i.i + 1 = omega arith in
    record {
      value = c.first_piece.ensures.behind ∙ ap (λ l. drop (decoded l).size l) c.loop-i.invariant.value ∙ sym (behind_more c.loop-i.i c.args.name.now) ∙ ap (λ n. behind n c.args.name.now) next;
      short = omega arith;
    }
