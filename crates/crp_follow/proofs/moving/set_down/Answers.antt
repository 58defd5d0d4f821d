use Rattle.std.proofs.Common.{◌≡◌, ◌∙◌, ◌+◌, ◌∷◌, ◌++◌, [], arith, ap, sym, length, slice_set}
use Rattle.std.proofs.lemmas.Option.{same_Some, slice_get_read}
use Rattle.crp_follow.specs.Crane.{Stack}
use Rattle.crp_follow.proofs.Rows.{free_row, free_tier, is_free, put_at}
use Rattle.crp_follow.proofs.moving.set_down.Goals as goal

pub returns-in_default-clause-not : goal.returns-in_default-clause-not
returns-in_default-clause-not c beneath free =
    absurd (free_row c.args.heights.now c.args.rows.now.items c.args.to (λ i e lt. c.in_default.ensures.none i e (omega arith)) beneath free)

pub returns-then-containers-to-clause-not : goal.returns-then-containers-to-clause-not
returns-then-containers-to-clause-not c beneath free =
    let rows = c.args.rows.now.items in
    let n : c.len.result ≡ length rows = omega arith in
    let at = slice_get_read rows c.len.result c.in-Some.i c.index.result.now n c.in-Some.ensures.there.1 c.index.ensures in
    absurd (c.if-containers-to.true (ap (λ (l : Stack). length l + 1) c.containers.ensures ∙ free_tier c.args.heights.now rows c.args.to c.in-Some.i c.index.result.now c.in-Some.ensures.there.0 at beneath free))

pub returns-clause-down : goal.returns-clause-down
returns-clause-down c t =
    let rows = c.args.rows.now.items in
    let n : c.len.result ≡ length rows = omega arith in
    let seen = slice_get_read rows c.len.result c.in-Some.i c.index.result.now n c.in-Some.ensures.there.1 c.index.ensures in
    let at = slice_get_read rows c.len.result c.in-Some.i c.index_mut.result.now n c.in-Some.ensures.there.1 c.index_mut.ensures.value in
    let same = same_Some _ _ (sym at ∙ seen) in (
      c.index_mut.result.now,
      is_free c.args.heights.now rows c.args.to c.in-Some.i c.index_mut.result.now c.in-Some.ensures.there.0 at
          (ap (λ (l : Stack). length l + 1) (same ∙ sym c.containers.ensures) ∙ c.if-containers-to.false) (c.is_within.ensures.0 c.if-not-is_within.false),
      ap (λ (s : Stack). slice_set rows c.in-Some.i s) c.in_ok-set_down.ensures ∙ sym (put_at rows c.args.to.row c.in-Some.i (c.index_mut.result.now ++ c.args.container ∷ []) c.in-Some.ensures.there.0),
    )
