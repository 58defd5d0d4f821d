use Rattle.std.proofs.Common.{◌≡◌, rules, [], ◌∷◌, ◌++◌, length, length-append, take-append-drop, ◌∙◌, ap, arith}
use Rattle.crp_solve.specs.Groups.{AreReady}
use Rattle.crp_solve.proofs.Halves.{together_at, together_one, together_two, ready_parts, stops_two, stops_parts}
use Rattle.crp_solve.proofs.workers.running.+fn-run_all-join+arg2+fn-run_all-join+arg3+run_all.Goals as goal

pub merge-requires-clause-mine : goal.merge-requires-clause-mine
merge-requires-clause-mine g t c =
    let left = c.pop-in_default-split_off.new.self.items in let last = c.in-Some-pop.last in let of = c.args.common.now.of in let groups = c.args.groups.items in
    let whole : left ++ last ∷ [] ≡ groups = search rules in
    let n = length-append left (last ∷ []) in
    let r : AreReady of left × AreReady of (last ∷ []) = ready_parts of groups left (last ∷ []) whole (omega (arith, ap length whole, c.len-count.ensures, c.if-count-lt2.false)) (omega arith) c.requires in
    let is : of ≡ c.common.inside.shared = search rules in
    together_at of left c.run_all-before.result r.0 c.run_all-before.ensures.together ∙ is

pub returns-in_default-split_off-clause-together : goal.returns-in_default-split_off-clause-together
returns-in_default-split_off-clause-together g t c =
    let left = c.pop-in_default-split_off.new.self.items in let last = c.in-Some-pop.last in let of = c.args.common.now.of in let groups = c.args.groups.items in
    let whole : left ++ last ∷ [] ≡ groups = search rules in
    let n = length-append left (last ∷ []) in
    let r : AreReady of left × AreReady of (last ∷ []) = ready_parts of groups left (last ∷ []) whole (omega (arith, ap length whole, c.len-count.ensures, c.if-count-lt2.false)) (omega arith) c.requires in
    together_two of groups left (last ∷ []) c.run_all-before.result c.work-in_default-split_off.result c.merge.result c.requires
    whole c.run_all-before.ensures.together (together_one of last c.work-in_default-split_off.result (r.1.words 0 last (omega arith)) c.work-in_default-split_off.ensures.same) (search rules) c.merge.ensures.view c.merge.ensures.places c.merge.ensures.short

pub merge-requires-2-clause-mine : goal.merge-requires-2-clause-mine
merge-requires-2-clause-mine g t c =
    let of = c.args.common.now.of in let groups = c.args.groups.items in let front = c.split_off.new.self.items in let rest = c.in-Ok.others.items in
    let whole : front ++ rest ≡ groups = rw (c.in-Ok.ensures.items, c.in-Ok.ensures.tail) (take-append-drop _ groups) in
    let r : AreReady of front × AreReady of rest = ready_parts of groups front rest whole (search rules) (search rules) c.requires in
    let is : of ≡ c.common.inside.shared = search rules in
    together_at of front c.join-right.result.1 r.0 c.join-right.ensures.second.0 ∙ is

pub merge-requires-2-clause-others : goal.merge-requires-2-clause-others
merge-requires-2-clause-others g t c =
    let of = c.args.common.now.of in let groups = c.args.groups.items in let front = c.split_off.new.self.items in let rest = c.in-Ok.others.items in
    let whole : front ++ rest ≡ groups = rw (c.in-Ok.ensures.items, c.in-Ok.ensures.tail) (take-append-drop _ groups) in
    let r : AreReady of front × AreReady of rest = ready_parts of groups front rest whole (search rules) (search rules) c.requires in
    let is : of ≡ c.common.inside.shared = search rules in
    together_at of rest c.join-right.result.0 r.1 c.join-right.ensures.first.0 ∙ is

pub returns-clause-together : goal.returns-clause-together
returns-clause-together g t c =
    let of = c.args.common.now.of in let groups = c.args.groups.items in
    let whole : c.split_off.new.self.items ++ c.in-Ok.others.items ≡ groups = rw (c.in-Ok.ensures.items, c.in-Ok.ensures.tail) (take-append-drop _ groups) in
    together_two of groups c.split_off.new.self.items c.in-Ok.others.items c.join-right.result.1 c.join-right.result.0 c.merge-2.result c.requires
    whole c.join-right.ensures.second.0 c.join-right.ensures.first.0 (search rules) c.merge-2.ensures.view c.merge-2.ensures.places c.merge-2.ensures.short

pub returns-in_default-split_off-clause-stops : goal.returns-in_default-split_off-clause-stops
returns-in_default-split_off-clause-stops g t c all =
    let left = c.pop-in_default-split_off.new.self.items in let last = c.in-Some-pop.last in let groups = c.args.groups.items in
    let whole : left ++ last ∷ [] ≡ groups = search rules in
    let parts = stops_parts groups left (last ∷ []) whole all in
    stops_two c.run_all-before.result c.work-in_default-split_off.result c.merge.result c.merge.ensures.stopped (c.run_all-before.ensures.stops parts.0)
    (c.work-in_default-split_off.ensures.stops (parts.1 0 last (omega arith)))

pub returns-clause-stops : goal.returns-clause-stops
returns-clause-stops g t c all =
    let groups = c.args.groups.items in let front = c.split_off.new.self.items in let rest = c.in-Ok.others.items in
    let whole : front ++ rest ≡ groups = rw (c.in-Ok.ensures.items, c.in-Ok.ensures.tail) (take-append-drop _ groups) in
    let parts = stops_parts groups front rest whole all in
    stops_two c.join-right.result.1 c.join-right.result.0 c.merge-2.result c.merge-2.ensures.stopped (c.join-right.ensures.second.1 parts.0) (c.join-right.ensures.first.1 parts.1)
