use Rattle.std.proofs.Common.{◌≡◌, ◌∙◌, ◌++◌, [], Bool, false, cond, sym, ap, subst}
use Rattle.std.specs.Prelude.{codes}
use Rattle.crp_page.specs.Sheets.{heading_text, is_silent}
use Rattle.crp_page.proofs.Chains.{regroup3}
use Rattle.crp_page.proofs.sheets.push_heading_rule.Goals as goal

pub returns : goal.returns
returns c =
    let heading = c.args.heading.now in
    let old = c.args.text.now.items in
    let new = c.extend_from_slice-2.new.self.items in
    let front = codes "@page{@top-center{content:" in
    let end = codes ";font:9pt sans-serif}}\n" in
    let is_said : is_silent heading ≡ false = sym c.is_silent.ensures ∙ c.if-is_silent.false in
    subst (λ (b : Bool). new ≡ old ++ cond b [] (front ++ (heading_text heading ++ end))) (sym is_said)
    (c.in_ok-extend_from_slice-2.ensures.items ∙ ap (λ l. l ++ end) (c.in_ok-push_heading.ensures ∙ ap (λ l. l ++ heading_text heading) c.in_ok-extend_from_slice.ensures.items)
    ∙ regroup3 old front (heading_text heading) end)
