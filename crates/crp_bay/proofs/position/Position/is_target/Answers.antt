use Rattle.std.proofs.Common.{◌+◌, ◌<◌, length, ap, ◌∙◌, arith}
use Rattle.std.proofs.lemmas.Option.{slice_get_within}
use Rattle.crp_plan.specs.Bay.{Position}
use Rattle.crp_bay.specs.Positions.{source}
use Rattle.crp_bay.specs.Back.{PlaceAndTrail, place_of}
use Rattle.crp_bay.proofs.Walked.{Found, found}
use Rattle.crp_bay.proofs.Going.{row_found}
use Rattle.crp_bay.proofs.Reaching.{reached_rows, reached_same_rows}
use Rattle.crp_bay.proofs.Testing.{next_few}
use Rattle.crp_bay.proofs.position.Position.is_target.Goals as goal

pub bounds-self-inside-self-inside : goal.bounds-self-inside-self-inside
bounds-self-inside-self-inside c = next_few _ c.self.invariant.reached c.if-self.false

pub overflow_add-self-inside : goal.overflow_add-self-inside
overflow_add-self-inside c =
    let s : Position = place_of c.self.inside.heights.items c.self.inside.ordered c.self.inside.next c.self.inside.stacks.items in
    let f : Found s = found s c.self.invariant.located.sound c.if-self.false in
    let there : source s < length s.stacks = slice_get_within s.stacks (source s) f.stack f.stands in
    omega (arith, (row_found c.self.inside.row_of s c.self.invariant.located c.if-self.false).1, there, (reached_rows s c.self.invariant.reached).1, reached_same_rows s c.self.invariant.reached)

pub takes_from-requires-clause-from : goal.takes_from-requires-clause-from
takes_from-requires-clause-from c =
    let s : Position = place_of c.self.inside.heights.items c.self.inside.ordered c.self.inside.next c.self.inside.stacks.items in
    ap (λ n. n + 1) (row_found c.self.inside.row_of s c.self.invariant.located c.if-self.false).1 ∙ ap (λ (v : PlaceAndTrail). source v.place + 1) c.self.view_is
