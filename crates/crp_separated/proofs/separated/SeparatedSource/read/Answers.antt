use Rattle.std.proofs.Common.{◌≡◌, ◌+◌, ◌-◌, ◌∙◌, min, arith, [], length, take, drop, ap}
use Rattle.std.proofs.lemmas.List.{take_rest}
use Rattle.std.specs.Io.KnownBytes.{IsAtEnd, Keeps}
use Rattle.crp_separated.specs.Given.{seen}
use Rattle.crp_separated.proofs.Pieces.{drop_all, given_front, is_empty, keeps_same, none_dropped, seen_end}
use Rattle.crp_separated.proofs.separated.SeparatedSource.read.Goals as goal
use Rattle.crp_separated.proofs.separated.SeparatedSource.read.Goals.{then-self-len+in_ok-fill, else-self-len}

pub returns-clause-bytes : goal.returns-clause-bytes
returns-clause-bytes g c =
    let known = g.R.Source.remaining in
    let a = c.args.self.now in
    let s = c.if-self-len.self in
    let n = c.give-n.result in
    let ready = drop s.given s.ready.items in
    let keeps : Keeps (seen a.separators.from a.separators.to a.place (drop a.given a.ready.items) (known a.source)) (seen s.separators.from s.separators.to s.place ready (known s.source)) =
    elim c.if-self-len.branch [
      | then-self-len+in_ok-fill w ↦ rw w.self-is w.in_ok-fill.ensures.keeps
      | else-self-len w ↦ rw w.self-is (keeps_same _)
    ] in
    let end : ready ≡ [] → IsAtEnd (known s.source) =
    elim c.if-self-len.branch [
      | then-self-len+in_ok-fill w ↦ λ e. rw w.self-is (w.in_ok-fill.ensures.none (rw (w.self-is, w.in_ok-fill.ensures.fresh) at e))
      | else-self-len w ↦ λ e. absurd (omega (arith, none_dropped a.given a.ready.items (rw w.self-is at e), w.if-self-len.false, c.len.ensures.value, a.within))
    ] in
    let rest : take (length c.as_slice.result.now - s.given) (drop s.given c.as_slice.result.now) ≡ ready = take_rest c.as_slice.result.now s.given ∙ ap (drop s.given) c.as_slice.ensures.value in
    let front : take n c.give-n.new.buf ≡ take n ready = c.give-n.ensures.front ∙ ap (take n) rest in
    let many : n ≡ min (length c.give-n.new.buf) (length ready) = rw rest at c.give-n.ensures.many in (
      given_front s.separators.from s.separators.to s.place s.ready.items s.given n _ _ (known s.source) keeps front,
      λ none room.
          let empty : ready ≡ [] = is_empty ready (omega (arith, many, none, room)) in
          let left : drop (s.given + n) s.ready.items ≡ [] = drop_all (s.given + n) s.ready.items (omega (arith, none_dropped s.given s.ready.items empty)) in
          seen_end s.separators.from s.separators.to s.place _ (known s.source) left (end empty),
    )
