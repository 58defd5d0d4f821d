use Rattle.std.proofs.Common.{◌∷◌, [], ◌++◌, List, take, sym, ap, ◌∙◌}
use Rattle.std.specs.List.{flat_map}
use Rattle.std.proofs.lemmas.List.{take_all, take_more, flat_map_more}
use Rattle.crp_said.specs.declared.moves.SaidMove.{SaidMove}
use Rattle.crp_json.specs.Objects.{move_tokens}
use Rattle.crp_json.proofs.objects.push_items.Goals as goal

pub loop-step-preserved : goal.loop-step-preserved
loop-step-preserved c =
    let xs : List SaidMove = c.args.moves.now in
    let i = c.loop-step.step-index in
    let x : SaidMove = c.step-item.result in
    let old = c.args.out.now.tokens in
    let added = c.in_ok-push_move.ensures in
    let next = ap (λ (y : SaidMove). take i xs ++ y ∷ []) c.step-item.is ∙ sym (take_more xs i x c.loop-step-test.true) in
    record {
      before = added.0 ∙ c.loop-step.invariant.before;
      tokens = added.1 ∙ ap (λ l. l ++ move_tokens x) c.loop-step.invariant.tokens ∙ flat_map_more move_tokens old (take i xs) x
          ∙ ap (λ (l : List SaidMove). old ++ flat_map move_tokens l) next;
    }

pub returns : goal.returns
returns c =
    let all = take_all c.loop-step.step-index c.args.moves.now c.loop-step-test.false in
    (c.loop-step.invariant.before, c.loop-step.invariant.tokens ∙ ap (λ (l : List SaidMove). c.args.out.now.tokens ++ flat_map move_tokens l) all)
