use Rattle.std.proofs.Common.{false, ◌≡◌, rules, ◌∙◌, List, [], ◌∷◌, ◌++◌, ap, subst, sym, not}
use Rattle.crp_pool.specs.Weigh.{weigh}
use Rattle.crp_pool.specs.Seats.{PoolSeat, IsEverySeat, all_takes}
use Rattle.crp_solve.specs.Desks.{known_with}
use Rattle.crp_solve.specs.Groups.{Crew}
use Rattle.crp_solve.proofs.Moved.{moved_is_group}
use Rattle.crp_solve.proofs.workers.wider.moved.Goals as goal

pub put_all-all-requires-clause-none_taken : goal.put_all-all-requires-clause-none_taken
put_all-all-requires-clause-none_taken g c h =
    let same : c.args.worker.places ≡ c.worker.inside.places.items = search rules in
    let none : all_takes c.worker.inside.places.items ≡ [] = ap all_takes (sym same) ∙ c.requires.none_taken in
    c.finish-rest.ensures.takes h ∙ ap (weigh h) none

pub invariant_of-result : goal.invariant_of-result
invariant_of-result g c =
    let old = c.worker.inside in
    let same : c.args.worker.places ≡ old.places.items = search rules in
    let whole : old.short ≡ false = search rules in
    let none : all_takes old.places.items ≡ [] = ap all_takes (sym same) ∙ c.requires.none_taken in
    let every : IsEverySeat c.args.pool old.places.items = subst (IsEverySeat c.args.pool) same c.requires.every.0 in
    let at : List PoolSeat → Crew = λ l. record { of = old.seat.of; view = known_with old.stopped old.seat.view; plan = old.best; parts = old.parts.items; places = l; short = not c.put_all-all.result; stopped = old.stopped } in
    moved_is_group g.A.Aim.keeps _ _ c.args.pool c.args.place c.put_all-all.new.place c.finish-rest.result.puts c.put_all-all.result c.worker.invariant whole every c.requires.every.1 none
    c.requires.unused c.requires.first c.put_all-all.ensures.same.0 c.put_all-all.ensures.same.1 c.put_all-all.ensures.all c.finish-rest.ensures.puts (ap at (c.push_reserved.ensures.items ∙ ap (λ l. l ++ c.put_all-all.new.place ∷ []) c.requires.room.0))
