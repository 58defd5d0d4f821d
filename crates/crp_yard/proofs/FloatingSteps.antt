-- Of the entries that float the first is stated.
use Prim.Native.Nat.{zero}
use Rattle.std.proofs.Common.{◌≡◌, ◌<◌, ◌+◌, ◌-◌, ℕ, suc, true, List, length, Some, None, refl, arith}
use Rattle.std.specs.Prelude.{slice_get}
use Rattle.crp_yard.specs.declared.fault.YardFault.{YardFault}
use Rattle.crp_yard.specs.declared.fault.YardFault.TheVariants.{Floating}
use Rattle.crp_yard.specs.Records.{Entry}
use Rattle.crp_yard.specs.Faults.{floating_before, is_floating}

stays : (entries : List Entry) (n k : ℕ) (fault : YardFault) → floating_before entries n ≡ Some fault → floating_before entries (k + n) ≡ Some fault
stays entries n zero fault e = let same : zero + n ≡ n = omega arith in rw same e
stays entries n (suc k) fault e =
    let same : suc k + n ≡ suc (k + n) = omega arith in
    rw (same, stays entries n k fault e) refl

pub floating-faulty : (entries : List Entry) (i : ℕ) (entry : Entry) → floating_before entries i ≡ None → i < length entries → slice_get entries i ≡ Some entry
    → is_floating entries entry.0 ≡ true → floating_before entries (length entries) ≡ Some (Floating (i + 2))
floating-faulty entries i entry none within at floats =
    let here : floating_before entries (suc i) ≡ Some (Floating (i + 2)) = rw (none, at, floats) refl in
    let end : length entries ≡ (length entries - suc i) + suc i = omega arith in
    rw end (stays entries (suc i) (length entries - suc i) (Floating (i + 2)) here)
