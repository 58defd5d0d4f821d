use Rattle.std.proofs.Common.{◌+◌, All, AllPairs, Vec, Global, sym, ap, ◌∙◌, subst}
use Rattle.crp_tree.specs.Names.{Precedes}
use Rattle.crp_tree.specs.Parts.{ProblemPart, names_of, IsKeptPart}
use Rattle.crp_gather.specs.Settled.{IsSettled}
use Rattle.crp_gather.proofs.PartsSettled.{AreHalfSettled, none_settled, one_gone, one_there, all_settled, about_settled, some_settled, half_of}
use Rattle.crp_gather.proofs.StillFirst.{still_meet}
use Rattle.crp_gather.proofs.settling.settle.Goals as goal
use Rattle.crp_gather.proofs.settling.settle.Goals.{in-Some+in_ok-push, in_default}

pub loop-part-init : goal.loop-part-init
loop-part-init c = none_settled c.args.plan.now.path c.parts-part-items.result.now c.new-parts.result.items c.new-parts.ensures.items

pub loop-part-preserved : goal.loop-part-preserved
loop-part-preserved c =
    let found = c.in_ok-settled.ensures in
    let about = c.requires.about in
    let cert = about.certificate in
    let rising : AllPairs Precedes (names_of c.parts-part-items.result.now) = subst (λ l. AllPairs Precedes (names_of l)) (sym c.parts-part-items.ensures.value) cert.rising in
    elim c.match-settled.branch [
      | in-Some+in_ok-push w ↦
          let set = rw w.in-Some.is at found.settled in
          let kept = rw w.in-Some.is at found.part in
          one_there c.args.plan.now.path c.parts-part-items.result.now c.loop-part.parts.items c.match-settled.parts.items c.loop-part.part-index c.part-item.result w.in-Some.settled rising c.loop-part-test.true c.part-item.is set kept
          (ap (λ (v : Vec ProblemPart Global). v.items) w.parts-is ∙ w.in_ok-push.ensures.items) c.loop-part.invariant
      | in_default w ↦
          let past = rw w.in_default.is at found.past in
          subst (AreHalfSettled c.args.plan.now.path c.parts-part-items.result.now (c.loop-part.part-index + 1)) (sym (ap (λ (v : Vec ProblemPart Global). v.items) w.parts-is))
          (one_gone c.args.plan.now.path c.parts-part-items.result.now c.loop-part.parts.items c.loop-part.part-index c.part-item.result c.loop-part-test.true c.part-item.is past c.loop-part.invariant)
    ]

pub of_parts-requires-clause-some : goal.of_parts-requires-clause-some
of_parts-requires-clause-some c =
    let half = half_of c.args.plan.now.path c.parts-part-items.result.now c.args.cert.parts c.loop-part.part-index c.loop-part.parts.items c.from_vec.result c.parts-part-items.ensures.value c.from_vec.ensures c.loop-part-test.false c.loop-part.invariant in
    some_settled c.args.plan.now.problem c.args.plan.now.path c.args.cert c.from_vec.result c.loop-part.part-index c.requires.about half.0 half.1

pub of_parts-requires-clause-rising : goal.of_parts-requires-clause-rising
of_parts-requires-clause-rising c =
    let half = half_of c.args.plan.now.path c.parts-part-items.result.now c.args.cert.parts c.loop-part.part-index c.loop-part.parts.items c.from_vec.result c.parts-part-items.ensures.value c.from_vec.ensures c.loop-part-test.false c.loop-part.invariant in
    let h : AreHalfSettled c.args.plan.now.path c.args.cert.parts c.loop-part.part-index c.from_vec.result = half.1 in
    h.rising

pub returns-clause-about : goal.returns-clause-about
returns-clause-about c =
    let half = half_of c.args.plan.now.path c.parts-part-items.result.now c.args.cert.parts c.loop-part.part-index c.loop-part.parts.items c.from_vec.result c.parts-part-items.ensures.value c.from_vec.ensures c.loop-part-test.false c.loop-part.invariant in
    let h : AreHalfSettled c.args.plan.now.path c.args.cert.parts c.loop-part.part-index c.from_vec.result = half.1 in
    let settled : IsSettled c.args.plan.now.path c.args.cert c.of_parts.result = all_settled c.args.plan.now.path c.args.cert c.of_parts.result c.from_vec.result c.loop-part.part-index half.0 c.of_parts.ensures.parts h in
    about_settled c.args.plan.now.problem c.args.plan.now.path c.args.cert c.of_parts.result c.requires.about settled (subst (All IsKeptPart) (sym c.of_parts.ensures.parts) h.kept) c.of_parts.ensures.certificate

pub returns-clause-settled : goal.returns-clause-settled
returns-clause-settled c =
    let half = half_of c.args.plan.now.path c.parts-part-items.result.now c.args.cert.parts c.loop-part.part-index c.loop-part.parts.items c.from_vec.result c.parts-part-items.ensures.value c.from_vec.ensures c.loop-part-test.false c.loop-part.invariant in
    all_settled c.args.plan.now.path c.args.cert c.of_parts.result c.from_vec.result c.loop-part.part-index half.0 c.of_parts.ensures.parts half.1

pub returns-clause-needs : goal.returns-clause-needs
returns-clause-needs c = λ needs.
    let half = half_of c.args.plan.now.path c.parts-part-items.result.now c.args.cert.parts c.loop-part.part-index c.loop-part.parts.items c.from_vec.result c.parts-part-items.ensures.value c.from_vec.ensures c.loop-part-test.false c.loop-part.invariant in
    still_meet c.args.plan.now.path c.args.cert c.of_parts.result (all_settled c.args.plan.now.path c.args.cert c.of_parts.result c.from_vec.result c.loop-part.part-index half.0 c.of_parts.ensures.parts half.1) needs
