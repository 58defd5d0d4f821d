use Rattle.std.proofs.Common.{◌≡◌, ◌∙◌, ◌+◌, ℕ, List, [], ◌∷◌, ◌++◌, map, take, cond, Bor, sym, ap}
use Rattle.std.specs.List.{list_any}
use Rattle.std.specs.Str.{bytes_eq}
use Rattle.std.proofs.lemmas.List.{map_push}
use Rattle.crp_notes.specs.Beyond.{with_size, sizes_of}
use Rattle.crp_notes.proofs.Placed.{any-map, sizes_more}
use Rattle.crp_notes.proofs.rows.sizes_of.Goals.{then-not-contains+in_ok-push, else-not-contains}
use Rattle.crp_notes.proofs.rows.sizes_of.Goals as goal

pub loop-bay-preserved : goal.loop-bay-preserved
loop-bay-preserved c =
    let heights = c.heights-heights.result.now in
    let kept : List (Bor (List ℕ)) = c.loop-bay.sizes.items in
    let now : List (Bor (List ℕ)) → List (List ℕ) = map (λ (l : Bor (List ℕ)). l.now) in
    let more = sizes_more c.args.yard.now c.loop-bay.bay heights c.heights-heights.ensures.value in
    let there : list_any (λ size. bytes_eq size heights) (now kept) ≡ c.contains.result =
    any-map (λ size. bytes_eq size heights) (λ (l : Bor (List ℕ)). l.now) kept ∙ ap (list_any (λ l. bytes_eq l.now heights)) (sym c.deref.ensures.value) ∙ sym c.contains.ensures.value in
    let next : sizes_of c.args.yard.now (take (c.loop-bay.bay + 1) c.args.yard.now.bays) ≡ cond c.contains.result (now kept) (now kept ++ heights ∷ []) =
    more ∙ ap (λ l. with_size l heights) (sym c.loop-bay.invariant) ∙ ap (λ t. cond t (now kept) (now kept ++ heights ∷ [])) there in
    elim c.if-not-contains.branch [
      | then-not-contains+in_ok-push w ↦
          ap (λ v. now v.items) w.sizes-is ∙ ap now w.in_ok-push.ensures.items ∙ map_push (λ (l : Bor (List ℕ)). l.now) kept c.heights-heights.result
          ∙ sym (rw w.if-not-contains.true at next)
      | else-not-contains w ↦ ap (λ v. now v.items) w.sizes-is ∙ sym (rw w.if-not-contains.false at next)
    ]
