use Rattle.std.proofs.Common.{◌∙◌, [], ◌∷◌, Some, sym, ap}
use Rattle.crp_callers.proofs.ways.one_row.Goals as goal

pub returns-clause-found : goal.returns-clause-found
returns-clause-found c = λ p s t row is here there. c.walks.ensures.sound p (row ∷ []) t is there ∙ ap Some (sym (c.walks.ensures.every_row p [] s row t is here there).1)

pub returns-clause-leads : goal.returns-clause-leads
returns-clause-leads c = λ p s row is found may. c.walks.ensures.goes_on p [] s row is (c.walks.ensures.complete p [] s is found) ((c.walks.ensures.row_test s row).1 may)

pub returns-clause-rising : goal.returns-clause-rising
returns-clause-rising c = λ s. c.walks.ensures.rising s
