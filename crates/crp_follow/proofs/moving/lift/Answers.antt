use Rattle.std.proofs.Common.{◌≡◌, ◌∙◌, arith, ap, sym, length}
use Rattle.std.proofs.lemmas.Option.{same_Some, slice_get_read}
use Rattle.crp_follow.proofs.Rows.{none_of_row, none_of_tier, none_of_empty, is_lifted, put_at}
use Rattle.crp_follow.proofs.moving.lift.Goals as goal

pub returns-in_default-clause-none : goal.returns-in_default-clause-none
returns-in_default-clause-none c = none_of_row c.args.rows.now.items c.args.from (λ i e lt. c.in_default.ensures.none i e (omega arith))

pub returns-then-containers-from-clause-none : goal.returns-then-containers-from-clause-none
returns-then-containers-from-clause-none c =
    let rows = c.args.rows.now.items in
    let n : c.len.result ≡ length rows = omega arith in
    let at = slice_get_read rows c.len.result c.in-Some.i c.index.result.now n c.in-Some.ensures.there.1 c.index.ensures in
    none_of_tier rows c.args.from c.in-Some.i c.index.result.now c.in-Some.ensures.there.0 at (λ e. c.if-containers-from.true (ap length c.containers.ensures ∙ e))

pub returns-in_default-lift-clause-none : goal.returns-in_default-lift-clause-none
returns-in_default-lift-clause-none c =
    let rows = c.args.rows.now.items in
    let n : c.len.result ≡ length rows = omega arith in
    let at = slice_get_read rows c.len.result c.in-Some.i c.index_mut.result.now n c.in-Some.ensures.there.1 c.index_mut.ensures.value in
    none_of_empty rows c.args.from c.in-Some.i c.index_mut.result.now c.in-Some.ensures.there.0 at c.in_default-lift.ensures.none

pub returns-clause-lifted : goal.returns-clause-lifted
returns-clause-lifted c =
    let rows = c.args.rows.now.items in
    let n : c.len.result ≡ length rows = omega arith in
    let seen = slice_get_read rows c.len.result c.in-Some.i c.index.result.now n c.in-Some.ensures.there.1 c.index.ensures in
    let at = slice_get_read rows c.len.result c.in-Some.i c.index_mut.result.now n c.in-Some.ensures.there.1 c.index_mut.ensures.value in
    let same = same_Some _ _ (sym at ∙ seen) in (
      c.lift.new.self,
      is_lifted rows c.args.from c.in-Some.i c.index_mut.result.now c.lift.new.self c.in-Some-lift.container c.in-Some.ensures.there.0 at
          (ap length same ∙ sym (ap length c.containers.ensures) ∙ c.if-containers-from.false) c.in-Some-lift.ensures.lifted,
      sym (put_at rows c.args.from.row c.in-Some.i c.lift.new.self c.in-Some.ensures.there.0),
    )
