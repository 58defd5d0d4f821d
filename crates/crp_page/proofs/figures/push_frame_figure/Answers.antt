use Rattle.std.proofs.Common.{◌≡◌, ◌∙◌, ◌++◌, ap}
use Rattle.crp_follow.specs.Followed.{BayFollowed}
use Rattle.crp_picture.specs.Pictures.{frame_picture}
use Rattle.crp_picture.specs.Views.{frame_as}
use Rattle.crp_page.specs.Sections.{frame_title, frame_caption}
use Rattle.crp_page.proofs.Chains.{as_parts}
use Rattle.crp_page.proofs.figures.push_frame_figure.Goals as goal

pub returns : goal.returns
returns c =
    let bay = c.args.bay.now in
    let frame = frame_as c.args.frame.now in
    let title : c.deref.result.now ≡ frame_title bay frame = c.deref.ensures.value ∙ c.in_ok-push_frame_title.ensures ∙ ap (λ (b : BayFollowed). c.new-title.result.items ++ frame_title b frame) c.followed.ensures
    ∙ ap (λ l. l ++ frame_title bay frame) c.new-title.ensures.items in
    let picture : c.deref-2.result.now ≡ frame_picture c.args.on.tiers bay frame =
    c.deref-2.ensures.value ∙ c.in_ok-push_frame.ensures ∙ ap (λ l. l ++ frame_picture c.args.on.tiers bay frame) c.new-picture.ensures.items in
    let caption : c.deref-3.result.now ≡ frame_caption c.args.ship.now frame = c.deref-3.ensures.value ∙ c.in_ok-push_frame_caption.ensures ∙ ap (λ l. l ++ frame_caption c.args.ship.now frame) c.new-caption.ensures.items in
    as_parts c.push_figure.result c.args.on _ _ _ _ _ _ c.args.text.now.items c.push_figure.new.text.items title picture caption c.push_figure.ensures
