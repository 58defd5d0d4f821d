use Rattle.std.proofs.Common.{◌∙◌, ℕ, List, sym, ap, map, subst}
use Rattle.crp_plan.specs.BayNames.{YardBay}
use Rattle.crp_checker.specs.declared.verdict.Verdict.{Verdict}
use Rattle.crp_checker.specs.Files.{FileShows}
use Rattle.crp_audit.specs.Headline.{Handed, handed, said_of}
use Rattle.crp_callers.proofs.Outcomes.{ok_by}
use Rattle.crp_callers.proofs.Accepted.{at_text, said_of_each, same_names}
use Rattle.crp_callers.proofs.audits.shown_of_each.Goals as goal

pub returns-clause-says : goal.returns-clause-says
returns-clause-says c =
    let of : List ℕ → Handed = handed c.args.yard.now c.args.orders.now c.args.sequence.now c.args.report.now in
    ok_by c.audit.result _ _ c.audit.ensures.accepted (λ shown p.
    let (is, e) = at_text of p.0 c.args.certificates.now shown p.2 p.3 in
    said_of_each c.verdicts_say.ensures (of c.args.certificates.now) shown is e _ is.called)

pub returns-clause-file : goal.returns-clause-file
returns-clause-file c =
    let of : List ℕ → Handed = handed c.args.yard.now c.args.orders.now c.args.sequence.now c.args.report.now in
    ok_by c.audit.result _ _ c.audit.ensures.accepted (λ shown p.
    let (is, e) = at_text of p.0 c.args.certificates.now shown p.2 p.3 in
    let h : Handed = of c.args.certificates.now in (
      is,
      c.headlines_show.ensures.borne_out h is,
      λ plain. subst (λ (v : List (YardBay × Verdict)). FileShows c.args.certificates.now v) (sym e) (c.headlines_show.ensures.exact h is plain),
    ))

pub returns-clause-lines : goal.returns-clause-lines
returns-clause-lines c =
    let of : List ℕ → Handed = handed c.args.yard.now c.args.orders.now c.args.sequence.now c.args.report.now in
    ok_by c.audit.result _ _ c.audit.ensures.accepted (λ shown p.
    let (is, e) = at_text of p.0 c.args.certificates.now shown p.2 p.3 in
    (map said_of is.bays, is.report, same_names (of c.args.certificates.now) is.bays ∙ ap (map (λ (v : YardBay × Verdict). v.0)) (sym e)))

pub returns-clause-one : goal.returns-clause-one
returns-clause-one c =
    let of : List ℕ → Handed = handed c.args.yard.now c.args.orders.now c.args.sequence.now c.args.report.now in
    ok_by c.audit.result _ _ c.audit.ensures.accepted (λ shown p also few small.
    let (is, e) = at_text of p.0 c.args.certificates.now shown p.2 p.3 in
    e ∙ c.one_list_of_verdicts.ensures (of c.args.certificates.now) is also c.requires few small)
