use Rattle.std.proofs.Common.{ℕ, ◌+◌, ◌-◌, ◌≡◌, ◌≤◌, ◌<◌, length, ap, arith}
use Rattle.crp_row.specs.Symbol.{Symbol}
use Rattle.crp_row.specs.Rows.{symbol_of}
use Rattle.crp_tree.proofs.Parsed.{owes, owes_none, passed, enough}
use Rattle.crp_tree.proofs.tree.pass_trees.Goals as goal

pub overflow_add-left : goal.overflow_add-left
overflow_add-left c =
    let one : Symbol = symbol_of c.in-Some.kind c.in-Some.field-0-1.now in
    let next : ℕ = c.loop-left.left - 1 + c.in-Branch.below in
    let k = passed one c.loop-left.own c.next.new.self c.requires.0 c.loop-left.left next c.loop-left-test.true c.in-Some.ensures.some (let e = ap (λ k. owes (symbol_of k c.in-Some.field-0-1.now)) c.in-Branch.is in omega (arith, e)) (c.loop-left.invariant c.requires.0 c.requires.1) in
    let few : next ≤ length c.next.new.self = enough next c.next.new.self c.requires.0 k in
    let top : c.len-most.result < 18446744073709551616 = c.len-most.type_inv in
    let same : c.len-most.result ≡ length c.next.new.self = c.len-most.ensures in
    let up : next ≤ c.len-most.result = omega (arith, few, same) in
    omega (arith, top, up)

pub loop-left-preserved-in-Branch : goal.loop-left-preserved-in-Branch
loop-left-preserved-in-Branch c = λ behind k.
    passed (symbol_of c.in-Some.kind c.in-Some.field-0-1.now) c.loop-left.own c.next.new.self behind c.loop-left.left _ c.loop-left-test.true c.in-Some.ensures.some
    (let e = ap (λ k. owes (symbol_of k c.in-Some.field-0-1.now)) c.in-Branch.is in omega (arith, e)) (c.loop-left.invariant behind k)

pub loop-left-preserved : goal.loop-left-preserved
loop-left-preserved c = λ behind k.
    passed (symbol_of c.in-Some.kind c.in-Some.field-0-1.now) c.loop-left.own c.next.new.self behind c.loop-left.left _ c.loop-left-test.true c.in-Some.ensures.some
    (let e = owes_none c.in-Some.kind c.in-Some.field-0-1.now c.in_default-kind.not-Branch in omega (arith, e)) (c.loop-left.invariant behind k)
