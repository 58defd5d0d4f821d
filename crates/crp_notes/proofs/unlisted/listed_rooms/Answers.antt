use Rattle.std.proofs.Common.{◌≡◌, ◌∙◌, [], ◌∷◌, ◌++◌, append-nil, None, Some, map, take, sym, ap}
use Rattle.std.proofs.lemmas.List.{map_push}
use Rattle.crp_sizes.specs.Sizes.{heights_of}
use Rattle.crp_notes.specs.Unlisted.{room_if_listed, listed_rooms}
use Rattle.crp_notes.specs.Rooms.{block_and_room}
use Rattle.crp_notes.proofs.Unlisting.{rooms_more}
use Rattle.crp_notes.proofs.unlisted.listed_rooms.Goals.{in-Some+in_ok-push, in_default}
use Rattle.crp_notes.proofs.unlisted.listed_rooms.Goals as goal

pub loop-bay-preserved : goal.loop-bay-preserved
loop-bay-preserved c =
    let yard = c.args.yard.now in
    let name = c.name-name.result.now in
    let known = listed_rooms yard (take c.loop-bay.bay yard.bays) in
    let more = rooms_more yard c.loop-bay.bay name c.name-name.ensures in
    let sizes = ap (λ s. heights_of s.listed name) c.sizes.ensures.value in
    elim c.match-heights_of.branch [
      | in-Some+in_ok-push w ↦
          let found : heights_of yard.sizes.listed name ≡ Some w.in-Some.heights.now = sym sizes ∙ sym w.in-Some.ensures.value in
          ap (λ v. map block_and_room v.items) w.rooms-is ∙ ap (map block_and_room) w.in_ok-push.ensures.items ∙ map_push block_and_room c.loop-bay.rooms.items _
          ∙ (λ i. c.loop-bay.invariant i ++ (w.block.ensures.value i, w.room_of-room.ensures i) ∷ [])
          ∙ sym (more ∙ ap (λ o. known ++ room_if_listed name.block o) found)
      | in_default w ↦
          let none : heights_of yard.sizes.listed name ≡ None = sym sizes ∙ sym w.in_default.ensures.value in
          ap (λ v. map block_and_room v.items) w.rooms-is ∙ c.loop-bay.invariant ∙ sym (more ∙ ap (λ o. known ++ room_if_listed name.block o) none ∙ append-nil known)
    ]
