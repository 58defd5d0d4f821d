use Rattle.std.proofs.Common.{◌∷◌, sym}
use Rattle.crp_plan.specs.Bay.{Position}
use Rattle.crp_thinning.specs.declared.reading.Reading.{Reading}
use Rattle.crp_thinning.proofs.Ending.{same_end, point_begun, point_refused, point_fair}
use Rattle.crp_thinning.proofs.reading.read_point.Goals as goal

pub returns-then-point-clause-goes_on : goal.returns-then-point-clause-goes_on
returns-then-point-clause-goes_on c tasks text =
    let s : Position = c.args.track.now.place in
    let r : Reading = c.args.reading.now in
    let n : Reading = c.point.new.reading in
    let e = c.if-point.ensures in
    let same = point_begun r n text e.some e.ranks e.number in (
      λ k. same_end s r n tasks (46 ∷ text) text same e.same.0 e.same.1 k,
      λ k. same_end s n r tasks text (46 ∷ text) (sym same) (sym e.same.0) (sym e.same.1) k,
    )

pub returns-then-point-clause-fair : goal.returns-then-point-clause-fair
returns-then-point-clause-fair c = let e = c.if-point.ensures in point_fair c.args.reading.now c.point.new.reading c.requires e.some e.few e.ranks e.number e.same.0

pub returns-else-point-clause-goes_on : goal.returns-else-point-clause-goes_on
returns-else-point-clause-goes_on c tasks text = (
  λ k. point_refused _ c.args.track.now.place c.args.reading.now tasks text c.next-next.ensures.fine c.requires c.if-point.ensures.refused k,
  λ k. absurd k,
)
