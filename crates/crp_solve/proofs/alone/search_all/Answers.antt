use Rattle.std.proofs.Common.{length, sym, ◌∙◌, subst}
use Rattle.crp_plan.specs.Bay.{IsAt, start}
use Rattle.crp_bay.specs.Positions.{settled}
use Rattle.crp_bay.proofs.Walked.{begins_at}
use Rattle.crp_tree.specs.Parts.{branches_in}
use Rattle.crp_search.specs.Searched.{Grants}
use Rattle.crp_solve.specs.Workers.{LoneWorker}
use Rattle.crp_solve.proofs.Searching.{IsSearchAlone, whole_after}
use Rattle.crp_solve.proofs.alone.search_all.Goals as goal

pub search-found-requires-clause-path : goal.search-found-requires-clause-path
search-found-requires-clause-path g c =
    let p = c.args.problem.now in
    (settled (start p), subst (λ name. IsAt p name (settled (start p))) (sym c.root.ensures) (begins_at p c.requires.problem))

pub returns-in-Ok-whole-clause-found : goal.returns-in-Ok-whole-clause-found
returns-in-Ok-whole-clause-found g c =
    let p = c.args.problem.now in let old : LoneWorker = c.new-worker.result in let new : LoneWorker = c.search-found.new.limit in let f = c.in-Ok.ensures in
    let searched : IsSearchAlone p c.args.settings.budget c.args.first old new = record {
      of = c.new-worker.ensures.problem;
      same = c.search-found.ensures.same.0;
      budget_is = c.search-found.ensures.same.1 ∙ c.new-worker.ensures.budget ∙ c.budget.ensures.value;
      first_is = c.new-worker.ensures.first;
      first_after = c.granted-expanded.ensures.first ∙ c.requires.begun;
      before = c.new-worker.ensures.known;
      after = c.granted-expanded.ensures.known;
      fresh = c.new-worker.ensures.fresh;
      on = c.search-found.ensures.advances;
    } in
    rw (c.into_best-best.ensures.value, c.granted-expanded.ensures.value)
    (whole_after p c.args.settings.budget c.args.first old new c.in-Ok.part c.in-Ok-whole.cert searched c.requires.first f.problem (f.name ∙ c.root.ensures) f.part
    (subst (λ n. Grants n old.view.granted (length (branches_in c.in-Ok.part)) new.view.granted) c.thinning.ensures f.grants) (sym f.puts) f.cuts f.branches
    c.in-Ok-whole.ensures.value)
