-- The bays of a yard list have names.
use Rattle.std.proofs.Common.{ℕ, List, [], ◌∷◌, All}
use Rattle.std.specs.List.{AllByRecursion}
use Rattle.std.proofs.lemmas.List.Elements.{All-from_recursion}
use Rattle.crp_sizes.specs.Sizes.{YardSizes}
use Rattle.crp_yard.specs.Inventory.{Inventory}
use Rattle.crp_yard.specs.Reading.{IsYardListOf}
use Rattle.crp_order.specs.declared.bay_problem.BayProblem.{BayProblem}
use Rattle.crp_order.specs.BayProblems.{problems_of, IsNamedProblem}
use Rattle.crp_yard.proofs.NamedBays.{yard_named}
use Rattle.crp_order.proofs.NamedProblems.{problems_named}
use Rattle.crp_headline.specs.Accepted.{CanBeWritten}

each_stated : (stated : List BayProblem) → AllByRecursion IsNamedProblem stated → AllByRecursion CanBeWritten stated
each_stated [] named = tt
each_stated (first ∷ stated) named = let is = named.0 in (is.bay, each_stated stated named.1)

-- so texts can state the bay problems of a yard list
pub can_be_written : (sizes : YardSizes) (text : List ℕ) (yard : Inventory) (sequence : List (List ℕ)) → IsYardListOf sizes text yard → All CanBeWritten (problems_of yard sequence)
can_be_written sizes text yard sequence is =
    All-from_recursion CanBeWritten (problems_of yard sequence) (each_stated (problems_of yard sequence) (problems_named yard sequence (yard_named sizes text yard is)))
