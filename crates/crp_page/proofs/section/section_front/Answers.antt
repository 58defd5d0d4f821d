use Rattle.std.proofs.Common.{◌∙◌, ℕ, List, ◌++◌, Option, ap}
use Rattle.std.specs.Option.{option_copied}
use Rattle.crp_sizes.specs.Sizes.{heights_of}
use Rattle.crp_follow.specs.Views.{bay_followed}
use Rattle.crp_page.specs.Sections.{section_head, start_figure}
use Rattle.crp_page.proofs.section.section_front.Goals as goal

pub returns : goal.returns
returns c =
    let bay = bay_followed c.args.bay.now in
    let head : Option (List ℕ) → List ℕ = λ own. section_head c.args.number own bay in
    let figure = start_figure c.ground_of-on.result bay in
    c.in_ok-push_start_figure.ensures ∙ ap (λ l. l ++ figure) (c.in_ok-push_section_head.ensures ∙ ap (λ l. l ++ head (option_copied c.heights_of-own.result)) c.new-text.ensures.items)
    ∙ ap (λ own. head own ++ figure) c.heights_of-own.ensures.value ∙ ap (λ on. head (heights_of c.args.sizes.now.listed bay.stated.bay) ++ start_figure on bay) c.ground_of-on.ensures
