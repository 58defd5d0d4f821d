use Rattle.std.proofs.Common.{◌∙◌, ◌++◌, sym, ap}
use Rattle.std.proofs.lemmas.Result.{err_from_is_err_and}
use Rattle.std.specs.Vec.Iter.{into_iter_items}
use Rattle.crp_follow.proofs.FollowSteps.{before_are, none_followed, one_bay_more, bay_refused, taken_front, none_stand, few_more, no_names, name_more, fresh_name}
use Rattle.crp_follow.proofs.following.follow_bays.Goals as goal

pub loop-stated-init : goal.loop-stated-init
loop-stated-init c = record { can = tt; ends = tt; so = none_followed c.args.yard.now c.new-followed.result.items c.new-followed.ensures.items; names = no_names c.new-followed.result.items c.new-before.result.keys c.new-followed.ensures.items c.new-before.ensures.empty; few = none_stand c.new-followed.result.items c.new-followed.ensures.items }

pub returns-in_err-bay-clause-wrong : goal.returns-in_err-bay-clause-wrong
returns-in_err-bay-clause-wrong c =
    let s = c.in-Some.stated in
    let f = c.in_err-bay.field-0.0 in
    let before = c.loop-stated.yielded in
    let followed = c.loop-stated.followed.items in
    let steps = c.in-Some.ensures.steps in
    let is = sym c.into_iter-stated-iterator.ensures.into_iter_gives.0 ∙ taken_front c.into_iter-stated-iterator.result before c.loop-stated.stated-iterator c.loop-stated.yielded_by ∙ ap (λ l. before ++ l) steps.0 in
    let p = err_from_is_err_and c.from_residual-in_err-bay.result c.from_residual-in_err-bay.ensures.1 in
    let o = c.loop-stated.invariant in
    rw (p.1, p.2) (bay_refused c.args.yard.now c.args.bays.items before (into_iter_items c.next.new.self) followed s f o.so is
    (c.in_err-bay.ensures.wrong (before_are followed) o.names))

pub add_name-requires : goal.add_name-requires
add_name-requires c =
    let o = c.loop-stated.invariant in
    fresh_name (before_are c.loop-stated.followed.items) c.in-Some.stated c.in_ok-bay.bay c.loop-stated.before.keys c.in_ok-bay.ensures.same (c.in_ok-bay.ensures.fresh (before_are c.loop-stated.followed.items) o.names) o.names

pub loop-stated-preserved : goal.loop-stated-preserved
loop-stated-preserved c =
    let s = c.in-Some.stated in
    let o = c.loop-stated.invariant in
    record {
      can = tt;
      ends = tt;
      so = one_bay_more c.args.yard.now c.loop-stated.yielded c.loop-stated.followed.items c.add.new.list.items s c.in_ok-bay.bay o.so c.in_ok-bay.ensures.same
          (c.in_ok-bay.ensures.fresh (before_are c.loop-stated.followed.items) o.names) c.in_ok-bay.ensures.leads c.in_ok-add.ensures;
      names = name_more c.loop-stated.followed.items c.add.new.list.items c.in_ok-bay.bay c.loop-stated.before.keys c.add_name.new.names.keys o.names c.in_ok-add.ensures c.in_ok-add_name.ensures;
      few = few_more c.loop-stated.followed.items c.add.new.list.items c.in_ok-bay.bay o.few c.in_ok-bay.ensures.few c.in_ok-add.ensures;
    }
