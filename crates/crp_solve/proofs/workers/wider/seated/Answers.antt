use Rattle.std.proofs.Common.{◌≡◌, ◌≤◌, ◌∷◌, [], length, length-append, rules, ◌∙◌, ap, sym, true, arith}
use Rattle.crp_incumbent.specs.Seats.{Seat}
use Rattle.std.proofs.lemmas.List.Elements.{All-take, All-push}
use Rattle.crp_solve.specs.Groups.{Crew, all_keys, StopsBy, IsRoom}
use Rattle.crp_solve.proofs.Opened.{kept_new, shares-append, keys_snoc}
use Rattle.crp_solve.proofs.workers.wider.seated.Goals as goal

pub loop-place-preserved : goal.loop-place-preserved
loop-place-preserved g c =
    let before = c.loop-place.invariant in let gs = c.loop-place.groups.items in let x = c.new.result in let left = c.loop-place.left in let kept = c.in-Ok.kept in let given = c.in-Ok.given in
    let some : 1 ≤ left.view.share = search rules in
    let kept_share = ap (λ (s : Seat). s.view.share) c.in-Ok.ensures.kept in let given_share = ap (λ (s : Seat). s.view.share) c.in-Ok.ensures.given in
    let mine : x.view.share ≡ 1 = ap (λ (v : _). v.share) c.new.ensures.view ∙ given_share in
    let long = length-append c.loop-place.yielded (c.in-Some.place ∷ []) in let long' = length-append gs (x ∷ []) in
    let more = shares-append gs (x ∷ []) in
    record {
      can = tt;
      ends = tt;
      left_new = kept_new c.args.shared.now left kept c.in-Ok.ensures.kept before.left_new;
      words = rw c.push_reserved.ensures.items (All-push (λ (g : Crew). g.of ≡ c.args.shared.now) gs x before.words (c.new.ensures.of ∙ ap (λ (s : Seat). s.of) c.in-Ok.ensures.given ∙ (let n = before.left_new in n.words)));
      count = rw c.push_reserved.ensures.items (omega (arith, before.count));
      share = rw c.push_reserved.ensures.items (omega (arith, before.share));
      each = rw c.push_reserved.ensures.items (omega (arith, before.each));
      keys_are = rw c.push_reserved.ensures.items (keys_snoc (all_keys c.args.groups.items) gs x c.loop-place.yielded c.in-Some.place c.new.ensures.places before.keys_are);
      lists_left = omega (arith, before.lists_left, ap length c.in-Some-pop.ensures.items, length-append c.pop.new.self.items (c.in-Some-pop.list ∷ []));
      lists_are = rw c.in-Some-pop.ensures.rest (All-take IsRoom _ c.loop-place.lists.items before.lists_are);
      room = c.push_reserved.ensures.capacity ∙ before.room;
      stops = λ may all. rw c.push_reserved.ensures.items (All-push (StopsBy (may ≡ true)) gs x (before.stops may all) (λ yes. absurd (let no = c.new.ensures.stopped in let both = sym no ∙ yes in cc)));
    }
