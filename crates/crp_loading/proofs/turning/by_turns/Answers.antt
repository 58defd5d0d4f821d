use Rattle.std.proofs.Common.{ℕ, rules}
use Rattle.std.specs.Prelude.{unwrap_or}
use Rattle.std.proofs.lemmas.List.Sorted.{answers_always, IsNonDecreasingBy-from_sort_by_key}
use Rattle.crp_loading.specs.declared.recording.TurnColumns.{TurnColumns}
use Rattle.crp_loading.proofs.TurnSteps.{sorted_by_turns}
use Rattle.crp_loading.proofs.turning.by_turns.Goals as goal

abbrev place : TurnColumns → ℕ
place columns = unwrap_or columns.turn 18446744073709551615

pub returns : goal.returns
returns c =
    let sorted = c.in_ok-sort_by_key.ensures.sorted in
    sorted_by_turns c.args.turns 18446744073709551615 c.args.records.items c.sort_by_key.new.self.items c.requires.few c.requires.turns c.in_ok-sort_by_key.ensures.permutation
    (IsNonDecreasingBy-from_sort_by_key place c.sort_by_key.new.self.items sorted (λ a r f k. search rules))
    (c.in_ok-sort_by_key.ensures.stable place (answers_always _ _ _ (λ f a r g h. search rules)))
