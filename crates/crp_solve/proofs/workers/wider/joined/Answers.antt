use Rattle.std.proofs.Common.{◌≡◌, ◌<◌, ◌∙◌, true, All, sym, subst, [], ◌∷◌, ◌++◌, length, length-append, map, ap, rules, arith}
use Rattle.std.proofs.lemmas.List.Elements.{All-take, All-cons, All-nil}
use Rattle.crp_solve.specs.Groups.{StopsBy, IsRoom, all_keys, place_key}
use Rattle.crp_solve.proofs.Joining.{every_place, some_deque}
use Rattle.crp_solve.proofs.Moved.{others_numbered, first_and_others}
use Rattle.crp_solve.proofs.workers.wider.joined.Goals as goal

pub seated-left-requires-clause-numbers : goal.seated-left-requires-clause-numbers
seated-left-requires-clause-numbers g c = rw c.remove-place.ensures.items (others_numbered c.args.room.places.items _ c.requires.room.by_number)

pub seated-left-requires-clause-lists : goal.seated-left-requires-clause-lists
seated-left-requires-clause-lists g c = (
  omega (arith, c.requires.room.each, c.remove-place.ensures.len, ap length c.in-Some.ensures.items, length-append c.pop.new.self.items (c.in-Some.list ∷ [])),
  rw c.in-Some.ensures.rest (All-take IsRoom _ c.args.room.lists.items c.requires.room.lists_are),
)

pub returns-clause-all : goal.returns-clause-all
returns-clause-all g c =
    let places = c.args.room.places.items in let place = c.remove-place.result in let first = c.moved-first.result in
    let one : c.push_reserved.new.self.items ≡ first ∷ [] = c.push_reserved.ensures.items ∙ ap (λ l. l ++ first ∷ []) c.requires.room.none_yet in
    let before : all_keys c.push_reserved.new.self.items ≡ place_key place ∷ [] = ap all_keys one ∙ ap (λ l. l ++ []) c.moved-first.ensures.places in
    let some : 0 < length places = omega (arith, c.requires.several) in
    let whole = ap (map place_key) (first_and_others places place some c.remove-place.ensures.value) in
    let keys_are = c.seated-left.ensures.seated.keys_are ∙ ap (λ l. l ++ map place_key c.remove-place.new.self.items) before ∙ ap (λ l. place_key place ∷ map place_key l) c.remove-place.ensures.items ∙ whole in
    record {
      left_new = search rules;
      share = search rules;
      ready = search rules;
      places = λ all e. (every_place all places c.args.room.pool (e ∙ keys_are) c.requires.room.every, some_deque c.args.room.pool places some c.requires.room.every);
    }

pub returns-clause-stops : goal.returns-clause-stops
returns-clause-stops g c =
    let first = c.moved-first.result in let P = StopsBy (c.args.first.stopped ≡ true) in
    let one : c.push_reserved.new.self.items ≡ first ∷ [] = c.push_reserved.ensures.items ∙ ap (λ l. l ++ first ∷ []) c.requires.room.none_yet in
    c.seated-left.ensures.stops c.args.first.stopped (subst (All P) (sym one) (All-cons P first [] (λ yes. sym c.moved-first.ensures.stopped ∙ yes) (All-nil P)))
