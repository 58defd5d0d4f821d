use Rattle.std.proofs.Common.{◌≡◌, ◌+◌, ◌-◌, length, sym, ◌∙◌, arith, rules}
use Rattle.crp_bay.specs.Back.{PlaceAndTrail}
use Rattle.crp_checker.specs.Pending.{rows_behind}
use Rattle.crp_checker.specs.Passed.{rows_from}
use Rattle.crp_checker.proofs.NextRows.{nothing_passed, no_rows, row_is_owed, none_is_owed}
use Rattle.crp_checker.proofs.paying.next_row.Goals as goal

pub returns-then-is_some-clause-owed : goal.returns-then-is_some-clause-owed
returns-then-is_some-clause-owed c =
    let path = c.loop-path.path.items in
    let s : PlaceAndTrail = c.loop-path.place in
    let last = c.len-last.result - 1 in
    let end : last + 1 ≡ length path = omega (arith, c.loop-path-test.true, c.len.ensures, c.len-last.ensures) in
    row_is_owed c.args.above last c.index.result.now path s c.pass-next.result.next end (omega (arith, c.loop-path-test.true, c.len.ensures)) c.index.ensures
    (nothing_passed 0 s.place _ _ 0 c.pass-next.result.taken c.pass-next.ensures.passed c.pass-next.ensures.within)

pub loop-path-preserved : goal.loop-path-preserved
loop-path-preserved c =
    let path = c.loop-path.path.items in
    let s : PlaceAndTrail = c.loop-path.place in
    let last = c.len-last.result - 1 in
    let row = c.index.result.now in
    let end : last + 1 ≡ length path = omega (arith, c.loop-path-test.true, c.len.ensures, c.len-last.ensures) in
    let rows = nothing_passed 0 s.place (rows_behind row s.place) (rows_from c.pass-next.result.next s.place) 0 c.pass-next.result.taken c.pass-next.ensures.passed c.pass-next.ensures.within
    ∙ no_rows s.place c.pass-next.result.next (sym c.is_some.ensures ∙ c.if-is_some.false) in
    record {
      above = search rules;
      same = none_is_owed c.args.above last row path c.leave.new.path.items s c.leave.new.place end (omega (arith, c.loop-path-test.true, c.len.ensures)) c.index.ensures rows c.leave.ensures.path c.leave.ensures.place ∙ c.loop-path.invariant.same;
    }
