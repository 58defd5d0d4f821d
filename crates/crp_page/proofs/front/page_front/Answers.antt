use Rattle.std.proofs.Common.{[], length, map}
use Rattle.crp_follow.specs.Views.{bay_followed}
use Rattle.crp_page.specs.Page.{page_head, page_key}
use Rattle.crp_page.specs.Summary.{paragraph, table}
use Rattle.crp_page.proofs.Chains.{regroup4}
use Rattle.crp_page.proofs.front.page_front.Goals as goal

pub returns : goal.returns
returns c =
    let yard = c.args.yard.now in
    let bays = map bay_followed c.args.followed.now.bays.items in
    rw (
      c.in_ok-push_page_key.ensures,
      c.in_ok-push_table.ensures,
      c.in_ok-push_paragraph.ensures,
      c.in_ok-push_page_head.ensures,
      c.new-text.ensures.items,
      c.count.ensures.value,
      c.deref.ensures.value,
      c.common-heights.ensures.value,
      c.sizes.ensures.value,
    )
    (regroup4 [] (page_head yard.sizes.common c.args.ship.now) (paragraph (length yard.bays) c.args.numbers bays) (table bays) (page_key yard.sizes.common))
