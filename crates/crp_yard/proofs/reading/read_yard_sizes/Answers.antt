use Rattle.std.proofs.lemmas.Result.{MatchResult-weaker}
use Rattle.std.proofs.Common.{◌≡◌, ◌≤◌, ◌⊎◌, ℕ, List, length, None, Some, refl, lit<, arith}
use Rattle.crp_plan.specs.Devices.{HasFailed}
use Rattle.crp_sizes.specs.Sizes.{YardSizes}
use Rattle.crp_yard.specs.declared.fault.YardFault.{YardFault}
use Rattle.crp_yard.specs.declared.fault.YardFault.TheVariants.{Memory, Read}
use Rattle.crp_yard.specs.Faults.{max_bytes, fault_of_text}
use Rattle.crp_yard.specs.Reading.{IsTextOf, failures_of_yard}
use Rattle.crp_yard.proofs.FaultKinds.{fault_written_of}
use Rattle.crp_yard.proofs.reading.read_yard_sizes.Goals as goal

-- no text has the fault of a failed read
no_failed_read : (sizes : YardSizes) (text : List ℕ) → length text ≤ max_bytes → (◌≡◌ {A = YardFault} Read Memory) ⊎ (fault_of_text sizes text ≡ Some Read) → ⊥
no_failed_read sizes text short why = let failed : HasFailed 0 0 = fault_written_of sizes None 0 0 text Read short tt why in absurd (omega (arith, failed (lit< tt)))

-- so what a text is refused for states no failed read
none_stated : (sizes : YardSizes) (text : List ℕ) (fault : YardFault) → length text ≤ max_bytes → (fault ≡ Memory) ⊎ (fault_of_text sizes text ≡ Some fault) → failures_of_yard fault ≡ 0
none_stated sizes text Read short why = absurd (no_failed_read sizes text short why)
none_stated sizes text fault short why = refl

pub returns-in-Ok-clause-refused : goal.returns-in-Ok-clause-refused
returns-in-Ok-clause-refused g c =
    let short : length c.deref.result.now ≤ max_bytes = omega (arith, c.deref.ensures.len, c.in-Ok.ensures.within) in
    let given : IsTextOf (g.R.Source.remaining c.args.source.now) c.deref.result.now = rw c.deref.ensures.value c.in-Ok.ensures.all in
    MatchResult-weaker c.yard_of_sizes.result c.yard_of_sizes.ensures.refused (λ yard h. h)
    (λ fault h. fault_written_of c.args.sizes.now (g.R.Source.remaining c.args.source.now) (g.R.Source.failures c.args.source.now) _ c.deref.result.now fault short given h)

pub returns-in-Ok-clause-ended : goal.returns-in-Ok-clause-ended
returns-in-Ok-clause-ended g c =
    let short : length c.deref.result.now ≤ max_bytes = omega (arith, c.deref.ensures.len, c.in-Ok.ensures.within) in
    MatchResult-weaker c.yard_of_sizes.result c.yard_of_sizes.ensures.refused (λ yard h. h)
    (λ fault h. rw (none_stated c.args.sizes.now c.deref.result.now fault short h) (_, c.in-Ok.ensures.done))
