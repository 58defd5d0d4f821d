use Rattle.std.proofs.Common.{◌∙◌, List, ℕ, ◌++◌, ap, sym, subst}
use Rattle.std.specs.Prelude.{codes}
use Rattle.json.specs.Token.{Token}
use Rattle.crp_json.specs.Adding.{Adds}
use Rattle.crp_json.specs.Objects.{member, text_token, place_tokens, container_member, move_members}
use Rattle.crp_json.proofs.Chained.{after, ended}
use Rattle.crp_json.proofs.objects.push_members.Goals as goal

pub returns-in_ok-push_place-in-Shift-2 : goal.returns-in_ok-push_place-in-Shift-2
returns-in_ok-push_place-in-Shift-2 c =
    let start = c.args.out.now in
    let k = c.in-Shift in
    let before : List Token = member (codes "move") (text_token (codes "shift")) ++ member (codes "from") (place_tokens k.from) ++ member (codes "to") (place_tokens k.to) in
    let a = after start c.push_text.new.out c.push_place.new.out _ _ c.in_ok-push_text-in-Shift.ensures c.in_ok-push_place-in-Shift.ensures in
    let b = after start c.push_place.new.out c.push_place-in-Shift.new.out _ _ a c.in_ok-push_place-in-Shift-2.ensures in
    subst (λ (ts : List Token). Adds c.push_container.result start c.push_container.new.out ts)
    (ap (λ (n : List ℕ). before ++ container_member n) c.bytes.ensures ∙ sym (ap move_members k.is))
    (ended c.push_container.result start c.push_place-in-Shift.new.out c.push_container.new.out before _ b c.push_container.ensures)
