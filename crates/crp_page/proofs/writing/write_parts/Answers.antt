use Rattle.std.proofs.Common.{◌≡◌, ◌∙◌, List, map, ap, subst, sym}
use Rattle.std.specs.Prelude.{codes, IfOk}
use Rattle.std.specs.List.{AllByRecursion}
use Rattle.std.proofs.lemmas.Result.{err_from_is_err_and}
use Rattle.crp_sizes.specs.Sizes.{YardSizes}
use Rattle.crp_follow.specs.Views.{bay_followed}
use Rattle.crp_follow.specs.declared.followed.FollowedBay.{FollowedBay}
use Rattle.crp_follow.specs.Table.{StandFew}
use Rattle.crp_page.specs.Few.{LeaveFew}
use Rattle.crp_page.specs.Numbered.{numbered_text}
use Rattle.crp_page.specs.Sections.{section}
use Rattle.crp_page.specs.Turns.{turns_part}
use Rattle.crp_page.specs.Page.{page_front}
use Rattle.crp_page.proofs.Fewness.{few_at_start, few_at_end}
use Rattle.crp_page.proofs.Writes.{stops_before, stops_behind, writes_as, stops_as, wrote_then}
use Rattle.crp_page.proofs.writing.write_parts.Goals as goal

pub page_front-requires : goal.page_front-requires
page_front-requires g c = few_at_end c.what_columns_say.ensures.left c.args.yard.now c.requires.followed.0 _ c.sizes-sizes.ensures.yard c.requires.followed.1

pub turns_part-requires : goal.turns_part-requires
turns_part-requires g c = subst (λ l. AllByRecursion StandFew (map bay_followed l)) (sym c.deref-bays.ensures.value)
    (few_at_start c.args.yard.now c.requires.followed.0 _ c.sizes-sizes.ensures.yard c.requires.followed.1)

pub write_sections-requires-clause-few : goal.write_sections-requires-clause-few
write_sections-requires-clause-few g c = subst (λ l. AllByRecursion StandFew (map bay_followed l)) (sym c.deref-bays.ensures.value)
    (few_at_start c.args.yard.now c.requires.followed.0 _ c.sizes-sizes.ensures.yard c.requires.followed.1)

pub write_sections-requires-clause-left : goal.write_sections-requires-clause-left
write_sections-requires-clause-left g c =
    subst (λ l. AllByRecursion LeaveFew (map bay_followed l)) (sym c.deref-bays.ensures.value)
    (few_at_end c.what_columns_say.ensures.left c.args.yard.now c.requires.followed.0 _ c.sizes-sizes.ensures.yard c.requires.followed.1)

pub returns-in_err-write_made : goal.returns-in_err-write_made
returns-in_err-write_made g c =
    let p = err_from_is_err_and c.from_residual.result c.from_residual.ensures.1 in
    let front = page_front c.args.yard.now c.args.numbers c.args.ship.now (map bay_followed c.args.followed.now.bays.items) in
    rw (p.1, p.2) (stops_before front _ _ _ _ (c.in_err-write_made.ensures.wrote front c.page_front.ensures))

pub returns-in_err-write_made-2 : goal.returns-in_err-write_made-2
returns-in_err-write_made-2 g c =
    let p = err_from_is_err_and c.from_residual-in_err-write_made-2.result c.from_residual-in_err-write_made-2.ensures.1 in
    let bays = c.args.followed.now.bays.items in
    let front = page_front c.args.yard.now c.args.numbers c.args.ship.now (map bay_followed bays) in
    let turns = turns_part c.args.ship.now (map bay_followed bays) in
    let made = subst (λ (l : List FollowedBay). IfOk c.turns_part.result (λ text. text.items ≡ turns_part c.args.ship.now (map bay_followed l))) c.deref-bays.ensures.value c.turns_part.ensures in
    rw (p.1, p.2) (stops_behind front _ _ _ _ _ (c.in_ok-write_made.ensures.wrote front c.page_front.ensures) (stops_before turns _ _ _ _ (c.in_err-write_made-2.ensures.wrote turns made)))

pub returns-in_err-write_sections : goal.returns-in_err-write_sections
returns-in_err-write_sections g c =
    let p = err_from_is_err_and c.from_residual-in_err-write_sections.result c.from_residual-in_err-write_sections.ensures.1 in
    let bays = c.args.followed.now.bays.items in
    let front = page_front c.args.yard.now c.args.numbers c.args.ship.now (map bay_followed bays) in
    let turns = turns_part c.args.ship.now (map bay_followed bays) in
    let made = subst (λ (l : List FollowedBay). IfOk c.turns_part.result (λ text. text.items ≡ turns_part c.args.ship.now (map bay_followed l))) c.deref-bays.ensures.value c.turns_part.ensures in
    let texts = λ (sizes : YardSizes) (l : List FollowedBay). numbered_text (section sizes c.args.ship.now) 1 (map bay_followed l) in
    let same = ap (λ sizes. texts sizes c.deref-bays.result.now) c.sizes-sizes.ensures.value ∙ ap (texts c.args.yard.now.sizes) c.deref-bays.ensures.value in
    rw (p.1, p.2) (stops_behind front _ _ _ _ _ (c.in_ok-write_made.ensures.wrote front c.page_front.ensures)
    (stops_behind turns _ _ _ _ _ (c.in_ok-write_made-2.ensures.wrote turns made) (stops_before _ _ _ _ _ (stops_as same c.in_err-write_sections.ensures.wrote))))

pub returns : goal.returns
returns g c =
    let bays = c.args.followed.now.bays.items in
    let front = page_front c.args.yard.now c.args.numbers c.args.ship.now (map bay_followed bays) in
    let turns = turns_part c.args.ship.now (map bay_followed bays) in
    let made = subst (λ (l : List FollowedBay). IfOk c.turns_part.result (λ text. text.items ≡ turns_part c.args.ship.now (map bay_followed l))) c.deref-bays.ensures.value c.turns_part.ensures in
    let texts = λ (sizes : YardSizes) (l : List FollowedBay). numbered_text (section sizes c.args.ship.now) 1 (map bay_followed l) in
    let same = ap (λ sizes. texts sizes c.deref-bays.result.now) c.sizes-sizes.ensures.value ∙ ap (texts c.args.yard.now.sizes) c.deref-bays.ensures.value in
    wrote_then c.write_made-3.result front _ _ _ _ (c.in_ok-write_made.ensures.wrote front c.page_front.ensures)
    (wrote_then c.write_made-3.result turns _ _ _ _ (c.in_ok-write_made-2.ensures.wrote turns made)
    (wrote_then c.write_made-3.result _ _ _ _ _ (writes_as same c.in_ok-write_sections.ensures.wrote) (c.write_made-3.ensures.wrote (codes "</main></body></html>\n") c.from_slice.ensures.items)))
