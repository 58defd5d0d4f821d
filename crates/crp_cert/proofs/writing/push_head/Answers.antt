use Rattle.std.proofs.Common.{◌≡◌, ◌∙◌, ◌++◌, List, map, ap}
use Rattle.std.specs.Option.{option_copied}
use Rattle.std.proofs.lemmas.Result.{on_ok_weaker}
use Rattle.crp_tree.specs.Parts.{ProblemPart, part_of}
use Rattle.crp_cert.specs.declared.version.Version.{Version}
use Rattle.crp_cert.specs.Text.{head_text}
use Rattle.crp_cert.specs.Writing.{version_under, head_for}
use Rattle.crp_cert.proofs.Written.{head_joined}
use Rattle.crp_cert.proofs.writing.push_head.Goals as goal

pub returns : goal.returns
returns c =
    let bay = c.args.bay.now in
    let p = c.args.problem.now in
    let claim = c.args.claim in
    let plan = option_copied c.args.plan in
    let version = c.version_under-version.result in
    let same : version ≡ version_under p claim (map part_of c.args.cert.now.parts) = c.version_under-version.ensures ∙ ap (λ (l : List ProblemPart). version_under p claim (map part_of l)) c.parts.ensures.value in
    on_ok_weaker c.push_plan.result
    (λ e. head_joined bay p claim plan version c.args.text.now.items c.push_title.new.text.items c.push_bay.new.text.items c.push_size.new.text.items
    c.push_heights.new.text.items c.push_rows.new.text.items c.push_claim.new.text.items c.push_plan.new.text.items c.in_ok-push_title.ensures c.in_ok-push_bay.ensures c.in_ok-push_size.ensures
    c.in_ok-push_heights.ensures c.in_ok-push_rows.ensures c.in_ok-push_claim.ensures e
    ∙ ap (λ (v : Version). c.args.text.now.items ++ head_text (head_for v bay p claim plan)) same)
    c.push_plan.ensures
