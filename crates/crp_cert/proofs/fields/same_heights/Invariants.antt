-- The tiers so far, once for each row.
use Rattle.std.proofs.Common.{◌≡◌, replicate}
use Rattle.crp_cert.proofs.fields.same_heights.Given as goal

abbrev pub invariant-loop : goal.invariant-loop
invariant-loop l = l.heights.items ≡ replicate l.counter l.size.tiers
