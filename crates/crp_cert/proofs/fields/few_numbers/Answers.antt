use Rattle.std.proofs.Common.{◌≡◌, ◌+◌, ◌-◌, ◌∷◌, [], sym, ap, subst, List, ℕ, length, arith, length-append}
use Rattle.crp_cert.specs.Reading.{◌>>=◌, numbers_at}
use Rattle.crp_cert.proofs.Numbers.{behind, loop_ends, loop_goes_on}
use Rattle.crp_cert.proofs.fields.few_numbers.Goals as goal

pub returns-in-Some : goal.returns-in-Some
returns-in-Some c = loop_ends 12 c.loop.counter c.loop.numbers.items c.args.bytes.now c.loop.rest.now c.in-Some.after.now c.loop.invariant.read c.in-Some.ensures

pub loop-preserved : goal.loop-preserved
loop-preserved c =
    let items : List ℕ = c.loop.numbers.items in
    let number : ℕ = c.in_ok-number.number in
    record {
      read = subst (λ (l : List ℕ). (numbers_at (12 - (c.loop.counter + 1)) c.in_ok-number.after.now >>= behind l) ≡ numbers_at 12 c.args.bytes.now) (sym c.push.ensures.items)
          (loop_goes_on 12 c.loop.counter number items c.args.bytes.now c.loop.rest.now c.in_ok-number.after.now c.loop-test.true c.loop.invariant.read c.in_default.ensures c.in_ok-number.ensures.value);
      count = omega (arith, ap length c.push.ensures.items, length-append items (number ∷ []), c.loop.invariant.count);
    }
