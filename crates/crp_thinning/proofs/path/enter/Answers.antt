use Rattle.std.proofs.Common.{◌≡◌, ◌+◌, ◌<◌, ◌≤◌, [], ◌∷◌, ◌++◌, length, drop, get_or, if◌then◌else◌, true, false, sym, ap, ◌∙◌, arith, lit<}
use Rattle.crp_plan.specs.Bay.{Position}
use Rattle.crp_bay.specs.Back.{PlaceAndTrail}
use Rattle.crp_thinned.specs.Thinned.{good_rows, child_at, child_without}
use Rattle.crp_thinning.specs.declared.path.Frame.{Frame}
use Rattle.crp_thinning.specs.declared.path.Path.{Path}
use Rattle.crp_thinning.specs.Branches.{task, row_tasks, behind}
use Rattle.crp_thinning.proofs.Pathway.{room, open_more, tasks_more, next_row, last_tree}
use Rattle.crp_thinning.proofs.path.enter.Goals as goal

pub push-requires : goal.push-requires
push-requires c =
    (lit< tt, room c.args.path.now.frames.items c.args.path.now.place.trail c.requires.open (omega (arith, c.put.ensures.depth, ap (λ (v : PlaceAndTrail). length v.trail) c.put.ensures.value)))

pub push-requires-2 : goal.push-requires-2
push-requires-2 c =
    (lit< tt, room c.args.path.now.frames.items c.args.path.now.place.trail c.requires.open (omega (arith, c.lift.ensures.depth, ap (λ (v : PlaceAndTrail). length v.trail) c.lift.ensures.value)))

pub returns-then-count-len-clause-tasks : goal.returns-then-count-len-clause-tasks
returns-then-count-len-clause-tasks c =
    let p : Path = c.args.path.now in
    let s : Position = p.place.place in
    let f : Frame = c.args.frame in
    let lt : f.rows < length (good_rows s) = omega (arith, c.if-count-len.true, c.len.ensures.value, ap length c.good_rows-rows.ensures) in
    let row : get_or c.as_slice.result.now f.rows 0 ≡ get_or (good_rows s) f.rows 0 = ap (λ l. get_or l f.rows 0) (c.as_slice.ensures.value ∙ c.good_rows-rows.ensures) in
    let place : c.put.new.self.place ≡ child_at s (get_or (good_rows s) f.rows 0) = ap (λ (v : PlaceAndTrail). v.place) c.put.ensures.value ∙ ap (child_at s) row in
    ap (λ b. (if b then [] else row_tasks s f.need (drop f.rows (good_rows s))) ++ behind p) c.requires.more
    ∙ ap (λ l. l ++ behind p) (next_row s f.need f.rows lt)
    ∙ sym (
    ap (λ l. task c.put.new.self.place c.saturating_sub-path.result ∷ l)
    (tasks_more p.frames.items c.push.new.self.items (record { need = f.need; rows = f.rows + 1; last = false }) s p.place.trail c.put.new.self.trail c.push.ensures.items (ap (λ (v : PlaceAndTrail). v.trail) c.put.ensures.value))
    ∙ ap (λ v. task v c.saturating_sub-path.result ∷ (row_tasks s f.need (drop (f.rows + 1) (good_rows s)) ++ behind p)) place
    ∙ ap (λ n. task (child_at s (get_or (good_rows s) f.rows 0)) n ∷ (row_tasks s f.need (drop (f.rows + 1) (good_rows s)) ++ behind p)) c.saturating_sub-path.ensures
    )

pub returns-then-count-len-clause-open : goal.returns-then-count-len-clause-open
returns-then-count-len-clause-open c =
    let p : Path = c.args.path.now in
    let f : Frame = c.args.frame in
    open_more p.frames.items c.push.new.self.items (record { need = f.need; rows = f.rows + 1; last = false }) p.place.place p.place.trail c.put.new.self.trail c.push.ensures.items (ap (λ (v : PlaceAndTrail). v.trail) c.put.ensures.value) (λ e. c.requires.left) c.requires.open

pub returns-clause-tasks : goal.returns-clause-tasks
returns-clause-tasks c =
    let p : Path = c.args.path.now in
    let s : Position = p.place.place in
    let f : Frame = c.args.frame in
    let ge : length (good_rows s) ≤ f.rows = omega (arith, c.if-count-len.false, c.len.ensures.value, ap length c.good_rows-rows.ensures) in
    let place : c.lift.new.self.place ≡ child_without s = ap (λ (v : PlaceAndTrail). v.place) c.lift.ensures.value in
    ap (λ b. (if b then [] else row_tasks s f.need (drop f.rows (good_rows s))) ++ behind p) c.requires.more
    ∙ ap (λ l. l ++ behind p) (last_tree s f.need f.rows ge)
    ∙ sym (
    ap (λ l. task c.lift.new.self.place c.saturating_sub-path-2.result ∷ l)
    (tasks_more p.frames.items c.push-2.new.self.items (record { need = f.need; rows = f.rows; last = true }) s p.place.trail c.lift.new.self.trail c.push-2.ensures.items (ap (λ (v : PlaceAndTrail). v.trail) c.lift.ensures.value))
    ∙ ap (λ v. task v c.saturating_sub-path-2.result ∷ behind p) place
    ∙ ap (λ n. task (child_without s) n ∷ behind p) c.saturating_sub-path-2.ensures
    )

pub returns-clause-open : goal.returns-clause-open
returns-clause-open c =
    let p : Path = c.args.path.now in
    let f : Frame = c.args.frame in
    open_more p.frames.items c.push-2.new.self.items (record { need = f.need; rows = f.rows; last = true }) p.place.place p.place.trail c.lift.new.self.trail c.push-2.ensures.items (ap (λ (v : PlaceAndTrail). v.trail) c.lift.ensures.value) (λ e. cc) c.requires.open
