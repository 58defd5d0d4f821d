use Rattle.std.proofs.Common.{◌≡◌, ◌∙◌, ◌&&◌, [], ◌∷◌, ◌++◌, List, Bor, map, sym, ap}
use Rattle.std.specs.Prelude.{not, is_some}
use Rattle.std.proofs.lemmas.List.{map_push}
use Rattle.crp_plan.specs.BayNames.{YardBay}
use Rattle.crp_sizes.specs.Sizes.{heights_of}
use Rattle.crp_notes.specs.Unlisted.{room_of, is_outside}
use Rattle.crp_notes.specs.Rooms.{block_and_room}
use Rattle.crp_notes.proofs.Unlisting.{left_more}
use Rattle.crp_notes.proofs.unlisted.left_out.Goals.{then-is_left_out+in_ok-push, else-is_left_out}
use Rattle.crp_notes.proofs.unlisted.left_out.Goals as goal

pub loop-bay-preserved : goal.loop-bay-preserved
loop-bay-preserved c =
    let yard = c.args.yard.now in
    let name = c.name-name.result.now in
    let rooms = map block_and_room c.args.rooms.now in
    let now : List (Bor YardBay) → List YardBay = map (λ (n : Bor YardBay). n.now) in
    let room : c.room_of-room.result ≡ room_of yard.sizes.common = c.room_of-room.ensures ∙ ap room_of (c.common.ensures.value ∙ ap (λ s. s.common) c.sizes.ensures.value) in
    let test : (not (is_some (heights_of yard.sizes.listed name)) && is_outside rooms name.block (room_of yard.sizes.common)) ≡ c.is_left_out.result =
    sym (c.is_left_out.ensures ∙ ap (λ r. not (is_some (heights_of yard.sizes.listed name)) && is_outside rooms name.block r) room) in
    let more = left_more yard rooms c.loop-bay.bay name c.name-name.ensures c.is_left_out.result test in
    elim c.if-is_left_out.branch [
      | then-is_left_out+in_ok-push w ↦
          ap (λ v. now v.items) w.names-is ∙ ap now w.in_ok-push.ensures.items ∙ map_push (λ (n : Bor YardBay). n.now) c.loop-bay.names.items c.name-name.result
          ∙ ap (λ l. l ++ name ∷ []) c.loop-bay.invariant ∙ sym (rw w.if-is_left_out.true at more)
      | else-is_left_out w ↦ ap (λ v. now v.items) w.names-is ∙ c.loop-bay.invariant ∙ sym (rw w.if-is_left_out.false at more)
    ]
