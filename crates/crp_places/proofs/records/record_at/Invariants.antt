use Rattle.std.proofs.Common.{◌≤◌, ◌-◌, length}
use Rattle.crp_places.proofs.RecordSteps.{IsBehind}
use Rattle.crp_places.proofs.records.record_at.Given as goal

abbrev pub invariant-loop : goal.invariant-loop
invariant-loop l = (length l.rest ≤ length l.text) × IsBehind l.separator l.text (l.counter - 1) l.rest
