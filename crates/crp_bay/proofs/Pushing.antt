-- A push, as code makes it.
use Rattle.std.proofs.Common.{◌≡◌, ◌≢◌, ℕ, ◌+◌, ◌-◌, ◌<◌, ◌≤◌, Bool, true, List, [], ◌∷◌, ◌++◌, length, reverse, take, drop, get_or, set, Contains, IsTrue, sym, ap, ◌∙◌, subst, arith, length-set, length-append}
use Rattle.std.proofs.lemmas.List.{reverse-append}
use Rattle.std.proofs.Math.Seq.{take-append_seam}
use Rattle.std.specs.List.{refill}
use Rattle.crp_plan.specs.Bay.{Position}
use Rattle.crp_plan.proofs.Steps.{short_path}
use Rattle.crp_bay.specs.Positions.{top, without_top, source, settled, can_shift, shifted, child, targets}
use Rattle.crp_bay.specs.Reached.{IsReached}
use Rattle.crp_bay.proofs.Walked.{row_is_target, target_goes_on, allows, Allows}
use Rattle.crp_bay.proofs.Reaching.{reached_settled, reached_same_rows, reached_low, can_from_target}
use Rattle.crp_bay.specs.declared.push.Push.{Push}
use Rattle.crp_bay.specs.Back.{PlaceAndTrail, place_of, rows_before, trail_of}
use Rattle.crp_bay.specs.Located.{IsLocated, IsKeptPosition, AreUndoable, WentBy}
use Rattle.crp_bay.proofs.Tops.{read_other}
use Rattle.crp_bay.proofs.Going.{Shifts, shifts, row_found, located_settle}
use Rattle.crp_bay.proofs.Shifting.{located_shifted, push_undone}
use Rattle.crp_bay.proofs.Settling.{Turn, turn}

-- a slice of the whole is written back whole
pub refill_whole : {X : Type 0} (xs ws : List X) → length ws ≡ length xs → refill (length xs) xs ws ≡ ws
refill_whole xs ws e = ap (λ n. take n (ws ++ drop (length ws) xs)) (sym e) ∙ take-append_seam ws (drop (length ws) xs)

-- what code makes of the stacks is the shifted position
pub lands : (rows h : List ℕ) (o n row rank : ℕ) (v new1 new2 : List (List ℕ)) → Shifts rows (place_of h o n v) row → get_or rows n 0 ≡ source (place_of h o n v) →
    rank ≡ top (get_or v (get_or rows n 0) []) → new1 ≡ set v (get_or rows n 0) (without_top (get_or v (get_or rows n 0) [])) →
    new2 ≡ set new1 (row - 1) (get_or new1 (row - 1) [] ++ rank ∷ []) → place_of h o n new2 ≡ shifted (place_of h o n v) row
lands rows h o n row rank v new1 new2 k f er e1 e2 =
    let s : Position = place_of h o n v in
    let src : ℕ = source s in
    let e1' : new1 ≡ set v src (without_top (get_or v src [])) = e1 ∙ ap (λ i. set v i (without_top (get_or v i []))) f in
    let er' : rank ≡ top (get_or v src []) = er ∙ ap (λ i. top (get_or v i [])) f in
    ap (place_of h o n) (
    e2
    ∙ ap (λ x. set new1 (row - 1) (get_or new1 (row - 1) [] ++ x ∷ [])) er'
    ∙ ap (λ w. set w (row - 1) (get_or w (row - 1) [] ++ top (get_or v src []) ∷ [])) e1'
    ∙ ap (λ w. set (set v src (without_top (get_or v src []))) (row - 1) (w ++ top (get_or v src []) ∷ [])) (read_other v src (row - 1) (without_top (get_or v src [])) k.apart)
    )

-- what the steps of a push need
pub record PushSteps (rows : List ℕ) (s : Position) (row : ℕ) : Type 0 where
  pub can : can_shift s row ≡ true
  pub shifts_by : Shifts rows s row
  pub turn_at : Turn rows s
  pub low_next : s.next < 97
  pub low_row : get_or rows s.next 0 < length s.stacks
  pub counts : 1 ≤ row
  pub rank_is : top (get_or s.stacks (get_or rows s.next 0) []) ≡ shifts_by.rank

pub push_steps : (pushes : List Push) (rows : List ℕ) (s : Position) (row : ℕ) → IsKeptPosition pushes rows s → can_shift s row ≡ true → PushSteps rows s row
push_steps pushes rows s row kept h =
    let a : Allows s row = allows s row h in
    let t : Turn rows s = turn rows s kept.located a.unfinished in
    let k : Shifts rows s row = shifts rows s row kept.located (reached_settled s kept.reached) h in
    let f = row_found rows s kept.located a.unfinished in
    record {
      can = h;
      shifts_by = k;
      turn_at = t;
      low_next = omega (arith, f.0);
      low_row = t.there;
      counts = a.counts;
      rank_is = ap (λ i. top (get_or s.stacks i [])) f.1 ∙ k.rank_is;
    }

-- the other row is there and has room after the lift
pub to_there : (rows : List ℕ) (s : Position) (row : ℕ) → PushSteps rows s row → (new : List (List ℕ)) → new ≡ set s.stacks (get_or rows s.next 0) (without_top (get_or s.stacks (get_or rows s.next 0) [])) → row - 1 < length new
to_there rows s row p new e = let k = p.shifts_by.to_lt in omega (arith, ap length e, length-set s.stacks (get_or rows s.next 0) (without_top (get_or s.stacks (get_or rows s.next 0) [])))

pub to_room : (rows : List ℕ) (s : Position) (row : ℕ) → IsReached s → PushSteps rows s row → (new : List (List ℕ)) → new ≡ set s.stacks (get_or rows s.next 0) (without_top (get_or s.stacks (get_or rows s.next 0) [])) → length (get_or new (row - 1) []) < 8
to_room rows s row r p new e =
    let apart : row - 1 ≢ get_or rows s.next 0 = λ q. p.shifts_by.apart (q ∙ p.turn_at.row) in
    let read : get_or new (row - 1) [] ≡ p.shifts_by.onto = ap (λ w. get_or w (row - 1) []) e ∙ read_other s.stacks (get_or rows s.next 0) (row - 1) (without_top (get_or s.stacks (get_or rows s.next 0) [])) apart ∙ p.shifts_by.there in
    let lt = p.shifts_by.to_lt in let room = p.shifts_by.room in
    let h = reached_low s r (row - 1) 0 (omega (arith, reached_same_rows s r)) in
    omega (arith, ap length read, h.1)

-- a push that was made
pub record Went (u : Push) (pushes : List Push) (rows' : List ℕ) (before_it s : Position) (past : List Position) : Type 0 where
  pub kept : IsKeptPosition (pushes ++ u ∷ []) rows' s
  pub before_is : trail_of (reverse (pushes ++ u ∷ [])) rows' s ≡ before_it ∷ past

abbrev pub goes_reached : (s : Position) (row : ℕ) → (r : IsReached s) → can_shift s row ≡ true → IsReached (child s row)
goes_reached s row r h = record {
  problem = r.problem;
  path = r.path ++ row ∷ [];
  is_problem = r.is_problem;
  is_at = target_goes_on r.problem r.path s row r.is_problem r.is_at (row_is_target s row h);
}

pub went : (pushes : List Push) (rows : List ℕ) (s t : Position) (row rank : ℕ) (u : Push) → IsKeptPosition pushes rows s → (p : PushSteps rows s row) → rank ≡ p.shifts_by.rank → t ≡ child s row → u ≡ record { from = get_or rows s.next 0; to = row - 1; next = s.next } →
    Went u pushes (set rows rank (row - 1)) s t (trail_of (reverse pushes) rows s)
went pushes rows s t row rank u kept p er et eu =
    let k : Shifts rows s row = p.shifts_by in
    let rows' : List ℕ = set rows rank (row - 1) in
    let rows_k : rows' ≡ set rows k.rank (row - 1) = ap (λ x. set rows x (row - 1)) er in
    let by : WentBy u rows rows' s t = record {
      row = row;
      can = p.can;
      is_child = et;
      from_is = ap (λ (x : Push). x.from) eu ∙ p.turn_at.row;
      to_is = ap (λ (x : Push). x.to) eu;
      next_is = ap (λ (x : Push). x.next) eu;
      rows_are = rows_k ∙ ap (λ x. set rows x (row - 1)) (sym k.rank_is);
    } in
    let back = push_undone u rows rows' s t kept.reached kept.located by in
    let turned : reverse (pushes ++ u ∷ []) ≡ u ∷ reverse pushes = reverse-append pushes (u ∷ []) in
    let after : IsLocated (set rows k.rank (row - 1)) (shifted s row) = located_shifted rows s row kept.reached kept.located k in
    let settled_after : IsLocated (set rows k.rank (row - 1)) (child s row) = located_settle (set rows k.rank (row - 1)) _ (shifted s row) after in
    let r : IsReached (child s row) = goes_reached s row kept.reached p.can in
    let few = kept.few in
    let undoable : AreUndoable (u ∷ reverse pushes) rows' t =
    (s, rows, kept.reached, by, kept.located, omega (arith, Rattle.std.proofs.lemmas.List.length-reverse pushes), kept.undoable) in
    record {
      kept = subst (λ v. IsKeptPosition (pushes ++ u ∷ []) rows' v) (sym et) (record {
        reached = r;
        located = subst (λ w. IsLocated w (child s row)) (sym rows_k) settled_after;
        few = omega (arith, length-append pushes (u ∷ []), length-append kept.reached.path (row ∷ []));
        undoable = subst (λ us. AreUndoable us rows' (child s row)) (sym turned) (subst (λ v. AreUndoable (u ∷ reverse pushes) rows' v) et undoable);
      });
      before_is = ap (λ us. trail_of us rows' t) turned ∙ ap (λ v. v ∷ trail_of (reverse pushes) (rows_before rows' u t) v) back.0 ∙ ap (λ w. s ∷ trail_of (reverse pushes) w s) back.1;
    }

-- there is room for one more push
pub push_room : (pushes : List Push) (rows : List ℕ) (s : Position) (row : ℕ) → IsKeptPosition pushes rows s → can_shift s row ≡ true → length pushes < 672
push_room pushes rows s row kept h =
    let r : IsReached s = kept.reached in
    let c : IsReached (child s row) = goes_reached s row r h in
    let few = kept.few in
    omega (arith, short_path r.problem (r.path ++ row ∷ []) (child s row) r.is_problem (target_goes_on r.problem r.path s row r.is_problem r.is_at (row_is_target s row h)), length-append r.path (row ∷ []))

-- the answer states whether the row is a target
pub found : (s : Position) (row : ℕ) (b : Bool) → b ≡ can_shift s row → (IsTrue b → Contains (targets s) row) × (Contains (targets s) row → IsTrue b)
found s row b e = (λ t. row_is_target s row (sym e ∙ t), λ c. e ∙ can_from_target s row c)

-- what is seen of the fields
abbrev pub seen : List Push → List ℕ → Position → PlaceAndTrail
seen pushes rows s = record { place = s; trail = trail_of (reverse pushes) rows s }

-- a push as it starts, over the stacks that code has borrowed
pub record Started (pushes : List Push) (rows : List ℕ) (s : Position) (row : ℕ) : Type 0 where
  pub kept : IsKeptPosition pushes rows s
  pub steps : PushSteps rows s row

pub started : (pushes : List Push) (rows h : List ℕ) (o n row : ℕ) (items v : List (List ℕ)) (now : PlaceAndTrail) → v ≡ items → IsKeptPosition pushes rows (place_of h o n items) →
    seen pushes rows (place_of h o n items) ≡ now → can_shift now.place row ≡ true → Started pushes rows (place_of h o n v) row
started pushes rows h o n row items v now e kept is can =
    let kept_v : IsKeptPosition pushes rows (place_of h o n v) = subst (λ w. IsKeptPosition pushes rows (place_of h o n w)) (sym e) kept in
    let can_v : can_shift (place_of h o n v) row ≡ true = subst (λ w. can_shift (place_of h o n w) row ≡ true) (sym e) (subst (λ (w : PlaceAndTrail). can_shift w.place row ≡ true) (sym is) can) in
    record { kept = kept_v; steps = push_steps pushes rows (place_of h o n v) row kept_v can_v }

-- the row that code is told is where the next container stands
pub told : (pushes : List Push) (rows h : List ℕ) (o n row from : ℕ) (items v : List (List ℕ)) (now : PlaceAndTrail) → Started pushes rows (place_of h o n v) row → v ≡ items →
    seen pushes rows (place_of h o n items) ≡ now → from ≡ source now.place + 1 → from - 1 ≡ get_or rows n 0
told pushes rows h o n row from items v now st e is told_from =
    let less : from - 1 ≡ source now.place = omega (arith, told_from) in
    let same : source now.place ≡ source (place_of h o n v) = ap (λ (w : PlaceAndTrail). source w.place) (sym is) ∙ ap (λ x. source (place_of h o n x)) (sym e) in
    less ∙ same ∙ sym st.steps.turn_at.row

-- what is noted of a push
abbrev pub push_of : ℕ → ℕ → ℕ → Push
push_of from to next = record { from = from; to = to; next = next }

-- where the takes begin
pub located_landed : (pushes : List Push) (rows h hs : List ℕ) (o n row rank : ℕ) (v new1 new2 : List (List ℕ)) → Started pushes rows (place_of h o n v) row → hs ≡ h →
    rank ≡ top (get_or v (get_or rows n 0) []) → new1 ≡ set v (get_or rows n 0) (without_top (get_or v (get_or rows n 0) [])) →
    new2 ≡ set new1 (row - 1) (get_or new1 (row - 1) [] ++ rank ∷ []) → IsLocated (set rows rank (row - 1)) (place_of hs o n new2)
located_landed pushes rows h hs o n row rank v new1 new2 st eh er e1 e2 =
    let p : PushSteps rows (place_of h o n v) row = st.steps in
    let e : place_of hs o n new2 ≡ shifted (place_of h o n v) row = ap (λ x. place_of x o n new2) eh ∙ lands rows h o n row rank v new1 new2 p.shifts_by p.turn_at.row er e1 e2 in
    let rk : p.shifts_by.rank ≡ rank = sym p.rank_is ∙ sym er in
    subst (λ x. IsLocated (set rows x (row - 1)) (place_of hs o n new2)) rk
    (subst (IsLocated (set rows p.shifts_by.rank (row - 1))) (sym e) (located_shifted rows (place_of h o n v) row st.kept.reached st.kept.located p.shifts_by))

-- where the takes end
pub ended_at : (pushes : List Push) (rows h hs : List ℕ) (o n m row rank : ℕ) (items v new1 new2 new3 : List (List ℕ)) → Started pushes rows (place_of h o n v) row → hs ≡ h → v ≡ items →
    rank ≡ top (get_or v (get_or rows n 0) []) → new1 ≡ set v (get_or rows n 0) (without_top (get_or v (get_or rows n 0) [])) →
    new2 ≡ set new1 (row - 1) (get_or new1 (row - 1) [] ++ rank ∷ []) → place_of hs o m new3 ≡ settled (place_of hs o n new2) → length new3 ≡ length items →
    place_of h o m (refill (length items) items new3) ≡ child (place_of h o n items) row
ended_at pushes rows h hs o n m row rank items v new1 new2 new3 st eh ev er e1 e2 e3 el =
    let p : PushSteps rows (place_of h o n v) row = st.steps in
    ap (place_of h o m) (refill_whole items new3 el)
    ∙ ap (λ x. place_of x o m new3) (sym eh)
    ∙ e3
    ∙ ap (λ x. settled (place_of x o n new2)) eh
    ∙ ap settled (lands rows h o n row rank v new1 new2 p.shifts_by p.turn_at.row er e1 e2)
    ∙ ap (λ w. child (place_of h o n w) row) ev

-- what is seen after the push
pub seen_after : (pushes more : List Push) (rows : List ℕ) (s t : Position) (row rank : ℕ) (u : Push) (now : PlaceAndTrail) → IsKeptPosition pushes rows s → (p : PushSteps rows s row) → rank ≡ p.shifts_by.rank → t ≡ child s row →
    u ≡ record { from = get_or rows s.next 0; to = row - 1; next = s.next } → more ≡ pushes ++ u ∷ [] → seen pushes rows s ≡ now →
    IsKeptPosition more (set rows rank (row - 1)) t × (seen more (set rows rank (row - 1)) t ≡ record { place = child now.place row; trail = now.place ∷ now.trail })
seen_after pushes more rows s t row rank u now kept p er et eu em is =
    let w : Went u pushes (set rows rank (row - 1)) s t (trail_of (reverse pushes) rows s) = went pushes rows s t row rank u kept p er et eu in
    let made : List Position → Position → PlaceAndTrail = λ b x. record { place = x; trail = b } in (
      subst (λ us. IsKeptPosition us (set rows rank (row - 1)) t) (sym em) w.kept,
      ap (λ us. seen us (set rows rank (row - 1)) t) em
          ∙ ap (λ b. made b t) w.before_is
          ∙ ap (made (s ∷ trail_of (reverse pushes) rows s)) et
          ∙ ap (λ (x : PlaceAndTrail). made (x.place ∷ x.trail) (child x.place row)) is,
    )
