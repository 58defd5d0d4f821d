use Rattle.std.proofs.Common.{◌≡◌, [], ◌∷◌, ◌∙◌, rules, refl, sym, arith}
use Rattle.crp_solve.proofs.Halves.{together_one, together_two, ready_parts}
use Rattle.crp_search_tests.proofs.solve.own_threads.work_in_two.Goals as goal

pub merge-requires-clause-mine : goal.merge-requires-clause-mine
merge-requires-clause-mine g c =
    let s = c.join-second.ensures.second in
    let at : c.args.first.of ≡ c.args.common.now.of = c.requires.words 0 c.args.first (omega arith) in
    s.words ∙ at ∙ sym c.shared.ensures

pub merge-requires-clause-others : goal.merge-requires-clause-others
merge-requires-clause-others g c =
    let s = c.join-second.ensures.first in
    let at : c.args.second.of ≡ c.args.common.now.of = c.requires.words 1 c.args.second (omega arith) in
    s.words ∙ at ∙ sym c.shared.ensures

pub returns : goal.returns
returns g c =
    let first = c.args.first in let second = c.args.second in let of = c.args.common.now.of in
    let r = ready_parts of (first ∷ second ∷ []) (first ∷ []) (second ∷ []) refl (omega arith) (omega arith) c.requires in
    together_two of (first ∷ second ∷ []) (first ∷ []) (second ∷ []) c.join-second.result.1 c.join-second.result.0 c.merge.result c.requires refl
    (together_one of first c.join-second.result.1 (r.0.words 0 first (omega arith)) c.join-second.ensures.second)
    (together_one of second c.join-second.result.0 (r.1.words 0 second (omega arith)) c.join-second.ensures.first)
    (search rules) c.merge.ensures.view c.merge.ensures.places c.merge.ensures.short
