-- The reader of the line of a move.
use Rattle.std.proofs.Common.{◌≡◌, ◌≢◌, ℕ, ⊎_elim, true, false, List, ◌∷◌, ◌++◌, Some, None, refl, sym, ap, ◌∙◌, subst, append_assoc}
use Rattle.std.specs.Prelude.{codes, IsTrue}
use Rattle.std.specs.Char.{is_ascii_digit}
use Rattle.std.specs.Fmt.{decimal}
use Rattle.std.proofs.lemmas.Option.{some_pair_parts, same_Some, none-some}
use Rattle.crp_yard.specs.Records.{is_container}
use Rattle.crp_cert.specs.Reading.{tag_at, number_at}
use Rattle.crp_cert.proofs.Numbers.{bind_some, if_some, tag_takes}
use Rattle.crp_said.specs.declared.moves.Place.{Place}
use Rattle.crp_said.specs.declared.moves.SaidMove.{SaidMove}
use Rattle.crp_said.specs.declared.moves.SaidMove.TheVariants.{Shift, Take}
use Rattle.crp_said.specs.MoveLines.{spaced_place, move_words}
use Rattle.crp_said.specs.Spelled.{most, IsSmallPlace, CanBeStated}
use Rattle.crp_said.specs.Fields.{place_at, container_at, shift_at, take_at, stated_at}
use Rattle.crp_said.proofs.Digits.{number_found, number_reread}
use Rattle.crp_said.proofs.SaidLines.{either_read}

place_then : (p : Place) (rest : List ℕ) → spaced_place p ++ rest ≡ 32 ∷ (decimal p.row ++ 46 ∷ (decimal p.tier ++ rest))
place_then p rest = ap (λ l. 32 ∷ l) (append_assoc (decimal p.row) (46 ∷ decimal p.tier) rest)

place_takes : (bytes : List ℕ) (p : Place) (rest : List ℕ) → place_at bytes ≡ Some (p, rest) → IsSmallPlace p × (bytes ≡ spaced_place p ++ rest)
unfolding place_at
place_takes bytes p rest e =
    let a = bind_some (tag_at (codes " ") bytes) _ (p, rest) e in
    let row = bind_some (number_at most a.0) _ (p, rest) a.2 in
    let b = bind_some (tag_at (codes ".") row.0.1) _ (p, rest) row.2 in
    let tier = bind_some (number_at most b.0) _ (p, rest) b.2 in
    let made : Place = record { row = row.0.0; tier = tier.0.0 } in
    let q = some_pair_parts made p tier.0.1 rest tier.2 in
    let x = number_found a.0 row.0.0 row.0.1 row.1 in
    let y = number_found b.0 tier.0.0 tier.0.1 tier.1 in
    let text : bytes ≡ spaced_place made ++ tier.0.1 =
    tag_takes (codes " ") bytes a.0 a.1
    ∙ ap (λ l. 32 ∷ l) (x.0 ∙ ap (λ l. decimal row.0.0 ++ l) (tag_takes (codes ".") row.0.1 b.0 b.1 ∙ ap (λ l. 46 ∷ l) y.0))
    ∙ sym (place_then made tier.0.1) in
    let small : IsSmallPlace made = (x.1, y.1) in
    (subst IsSmallPlace q.0 small, text ∙ ap (λ (v : Place). spaced_place v ++ tier.0.1) q.0 ∙ ap (λ l. spaced_place p ++ l) q.1)

place_again : (p : Place) (stop : ℕ) (rest : List ℕ) → IsSmallPlace p → is_ascii_digit stop ≡ false → place_at (spaced_place p ++ stop ∷ rest) ≡ Some (p, stop ∷ rest)
unfolding place_at
place_again p stop rest small not =
    ap place_at (place_then p (stop ∷ rest)) ∙ rw (number_reread p.row 46 (decimal p.tier ++ stop ∷ rest) small.0 refl, number_reread p.tier stop rest small.1 not) refl

container_takes : (bytes name : List ℕ) → container_at bytes ≡ Some name → IsTrue (is_container name) × (bytes ≡ 32 ∷ name)
unfolding container_at
container_takes bytes name e =
    let a = bind_some (tag_at (codes " ") bytes) _ name e in
    let c = if_some (is_container a.0) (Some a.0) name a.2 in
    let same = same_Some a.0 name c.1 in
    (subst (λ n. is_container n ≡ true) same c.0, tag_takes (codes " ") bytes a.0 a.1 ∙ ap (λ l. 32 ∷ l) same)

shift_takes : (bytes : List ℕ) (m : SaidMove) → shift_at bytes ≡ Some m → CanBeStated m × (bytes ≡ move_words m)
unfolding shift_at
shift_takes bytes m e =
    let a = bind_some (tag_at (codes "shift") bytes) _ m e in
    let from = bind_some (place_at a.0) _ m a.2 in
    let to = bind_some (place_at from.0.1) _ m from.2 in
    let name = bind_some (container_at to.0.1) _ m to.2 in
    let x = place_takes a.0 from.0.0 from.0.1 from.1 in
    let y = place_takes from.0.1 to.0.0 to.0.1 to.1 in
    let z = container_takes to.0.1 name.0 name.1 in
    subst (λ (v : SaidMove). CanBeStated v × (bytes ≡ move_words v)) (same_Some (Shift from.0.0 to.0.0 name.0) m name.2)
    ((x.0, y.0, z.0), tag_takes (codes "shift") bytes a.0 a.1 ∙ ap (λ l. codes "shift" ++ l) (x.1 ∙ ap (λ l. spaced_place from.0.0 ++ l) (y.1 ∙ ap (λ l. spaced_place to.0.0 ++ l) z.1)))

take_takes : (bytes : List ℕ) (m : SaidMove) → take_at bytes ≡ Some m → CanBeStated m × (bytes ≡ move_words m)
unfolding take_at
take_takes bytes m e =
    let a = bind_some (tag_at (codes "take") bytes) _ m e in
    let from = bind_some (place_at a.0) _ m a.2 in
    let name = bind_some (container_at from.0.1) _ m from.2 in
    let x = place_takes a.0 from.0.0 from.0.1 from.1 in
    let z = container_takes from.0.1 name.0 name.1 in
    subst (λ (v : SaidMove). CanBeStated v × (bytes ≡ move_words v)) (same_Some (Take from.0.0 name.0) m name.2)
    ((x.0, z.0), tag_takes (codes "take") bytes a.0 a.1 ∙ ap (λ l. codes "take" ++ l) (x.1 ∙ ap (λ l. spaced_place from.0.0 ++ l) z.1))

pub stated_takes : (bytes : List ℕ) (m : SaidMove) → stated_at bytes ≡ Some m → CanBeStated m × (bytes ≡ move_words m)
stated_takes bytes m e = ⊎_elim (shift_takes bytes m) (take_takes bytes m) (either_read (shift_at bytes) (take_at bytes) m e)

pub stated_again : (m : SaidMove) → CanBeStated m → stated_at (move_words m) ≡ Some m
unfolding shift_at take_at container_at
stated_again (Shift from to name) can =
    rw (place_again from 32 ((decimal to.row ++ 46 ∷ decimal to.tier) ++ 32 ∷ name) can.0 refl, place_again to 32 name can.1 refl, can.2) refl
stated_again (Take from name) can = rw (place_again from 32 name can.0 refl, can.1) refl

pub not_stated : (bytes : List ℕ) → stated_at bytes ≡ None → (m : SaidMove) → CanBeStated m → bytes ≢ move_words m
not_stated bytes none m can e = none-some m (sym none ∙ ap stated_at e ∙ stated_again m can)

pub one_move : (m n : SaidMove) → CanBeStated m → CanBeStated n → move_words m ≡ move_words n → m ≡ n
one_move m n can also e = same_Some m n (sym (stated_again m can) ∙ ap stated_at e ∙ stated_again n also)
