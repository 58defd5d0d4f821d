-- What the lines of a report come to, as they are counted. Only private clauses speak of it.
use Rattle.std.specs.Prelude.{◌≡◌, ◌↔◌, ℕ, List, length, count_by, IsTrue}
use Rattle.crp_said.specs.declared.completing.Tally.{Tally}
use Rattle.crp_said.specs.declared.said.Said.{Said}
use Rattle.crp_said.specs.Said.{is_settled}
use Rattle.crp_said.specs.Completed.{EndWithLast, SayOfBays}

pub record AreTallied (lines : List (List ℕ)) (t : Tally) : Type 0 where
  pub said : List Said
  pub say : SayOfBays lines said
  pub bays : t.bays ≡ length said
  pub settled : t.settled ≡ count_by is_settled said
  pub ended : IsTrue t.ended ↔ EndWithLast lines
