use Rattle.std.specs.Prelude.{codes, decimal}
use Rattle.std.specs.Option.{option_copied}
use Rattle.crp_follow.specs.Views.{bay_followed}
use Rattle.crp_page.specs.Words.{verdict}
use Rattle.crp_page.specs.Sections.{own_part, bay_title, moves_words}
use Rattle.crp_page.proofs.Chains.{regroup10}
use Rattle.crp_page.proofs.section.push_section_head.Goals as goal

pub returns : goal.returns
returns c =
    let bay = bay_followed c.args.bay.now in
    rw (
      c.in_ok-extend_from_slice-5.ensures.items,
      c.in_ok-push_moves_words.ensures,
      c.in_ok-extend_from_slice-4.ensures.items,
      c.in_ok-push_verdict.ensures,
      c.in_ok-extend_from_slice-3.ensures.items,
      c.in_ok-push_bay_title.ensures,
      c.in_ok-extend_from_slice-2.ensures.items,
      c.in_ok-push_own_part.ensures,
      c.in_ok-push_decimal.ensures,
      c.in_ok-extend_from_slice.ensures.items,
    )
    (regroup10 c.args.text.now.items (codes "<section id=\"b") (decimal c.args.number) (own_part c.args.number (option_copied c.args.own)) (codes "<header><h2>") (bay_title bay) (codes "</h2><p>") (verdict bay.stated.said) (codes " &#183; ") (moves_words bay)
    (codes "<a class=\"h\" href=\"#\">all bays</a></p></header><div><div>\n"))
