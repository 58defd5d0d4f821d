use Rattle.std.proofs.Common.{◌≡◌, ◌≤◌, ◌∙◌, List, arith, length, map, sym, ap, subst, All, ◌++◌}
use Rattle.std.specs.List.{IsDistinct}
use Rattle.crp_plan.specs.BayNames.{same_bay}
use Rattle.crp_yard.specs.Text.{records_of_rows, text_of_records}
use Rattle.crp_follow.specs.declared.followed.FollowedBay.{FollowedBay}
use Rattle.crp_follow.specs.Crane.{Stack}
use Rattle.crp_follow.specs.Stated.{moves_of}
use Rattle.crp_follow.specs.Behind.{first_moves, made_in}
use Rattle.crp_follow.specs.Views.{bay_followed}
use Rattle.crp_follow.proofs.Named.{bay_name, names_once}
use Rattle.crp_follow.proofs.BehindSteps.{can_be_made_at, rows_fit, list_more_at, list_text}
use Rattle.crp_follow.proofs.behind.list_behind.Goals as goal

pub names_of-requires : goal.names_of-requires
names_of-requires c =
    subst (λ l. IsDistinct same_bay (map bay_name l)) (sym c.deref.ensures.value) (names_once c.args.yard.now c.requires.0 c.args.followed.now.bays.items c.requires.1)

pub rows_behind-requires-clause-can : goal.rows_behind-requires-clause-can
rows_behind-requires-clause-can c =
    let bays = map bay_followed c.args.followed.now.bays.items in
    let made : moves_of c.made_in-moves.result.now ≡ made_in (first_moves c.args.counts.now bays) c.name-name.result.now =
    c.made_in-moves.ensures ∙ ap (λ (l : List FollowedBay). made_in (first_moves c.args.counts.now (map bay_followed l)) c.name-name.result.now) c.deref-in-loop-i.ensures.value in
    can_be_made_at c.args.yard.now c.requires.0 c.args.counts.now bays c.loop-i.i c.name-name.result.now (moves_of c.made_in-moves.result.now) c.count-i-end.ensures.yard c.requires.1 c.name-name.ensures made

pub push_rows-requires-clause-rows : goal.push_rows-requires-clause-rows
push_rows-requires-clause-rows c =
    let fit = rows_fit c.args.yard.now c.loop-i.i c.name-name.result.now (moves_of c.made_in-moves.result.now) c.in_ok-rows.rows.items c.count-i-end.ensures.yard c.name-name.ensures c.in_ok-rows.ensures in
    subst (λ (l : List Stack). length l ≤ 12) (sym c.deref-in-loop-i-2.ensures.value) fit.0

pub push_rows-requires-clause-tiers : goal.push_rows-requires-clause-tiers
push_rows-requires-clause-tiers c =
    let fit = rows_fit c.args.yard.now c.loop-i.i c.name-name.result.now (moves_of c.made_in-moves.result.now) c.in_ok-rows.rows.items c.count-i-end.ensures.yard c.name-name.ensures c.in_ok-rows.ensures in
    subst (λ (l : List Stack). All (λ row. length row ≤ 8) l) (sym c.deref-in-loop-i-2.ensures.value) fit.1

pub loop-i-preserved : goal.loop-i-preserved
loop-i-preserved c =
    let bays = map bay_followed c.args.followed.now.bays.items in
    let made : moves_of c.made_in-moves.result.now ≡ made_in (first_moves c.args.counts.now bays) c.name-name.result.now =
    c.made_in-moves.ensures ∙ ap (λ (l : List FollowedBay). made_in (first_moves c.args.counts.now (map bay_followed l)) c.name-name.result.now) c.deref-in-loop-i.ensures.value in
    let longer : c.in_ok-list-2.list ≡ c.loop-i.list ++ text_of_records (records_of_rows c.name-name.result.now 1 c.in_ok-rows.rows.items) =
    c.in_ok-list-2.ensures ∙ ap (λ (l : List Stack). c.loop-i.list ++ text_of_records (records_of_rows c.name-name.result.now 1 l)) c.deref-in-loop-i-2.ensures.value in
    list_more_at c.args.yard.now (first_moves c.args.counts.now bays) c.loop-i.i c.name-name.result.now (moves_of c.made_in-moves.result.now) c.in_ok-rows.rows.items c.loop-i.list c.in_ok-list-2.list
    c.loop-i.invariant c.name-name.ensures made c.in_ok-rows.ensures longer

pub returns : goal.returns
returns c =
    let bays = map bay_followed c.args.followed.now.bays.items in
    let all : length c.args.yard.now.bays ≤ c.loop-i.i = omega (arith, c.loop-i-test.false, c.count-i-end.ensures.value) in
    list_text c.args.yard.now (first_moves c.args.counts.now bays) c.loop-i.i c.loop-i.list c.text.result c.loop-i.invariant all c.text.ensures
