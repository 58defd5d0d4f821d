-- A pop, as code makes it.
use Rattle.std.proofs.Common.{◌≡◌, ◌≢◌, ℕ, ◌-◌, ◌<◌, ◌≤◌, List, [], ◌∷◌, ◌++◌, length, reverse, get_or, set, sym, ap, ◌∙◌, subst, arith, length-set}
use Rattle.std.proofs.lemmas.List.{reverse-append, length-reverse}
use Rattle.std.specs.List.{refill}
use Rattle.crp_plan.specs.Bay.{Position}
use Rattle.crp_bay.specs.Positions.{top, without_top, source, stack_at, shifted}
use Rattle.crp_bay.specs.Reached.{IsReached}
use Rattle.crp_bay.proofs.Reaching.{reached_settled}
use Rattle.crp_bay.specs.declared.push.Push.{Push}
use Rattle.crp_bay.specs.Back.{place_of, all_back, shift_back, unsettled, undone, rows_before}
use Rattle.crp_bay.specs.Located.{IsLocated, IsKeptPosition, AreUndoable, WentBy}
use Rattle.crp_bay.proofs.Tops.{top_push, length_push, read_same, read_other}
use Rattle.crp_bay.proofs.Going.{Shifts, shifts}
use Rattle.crp_bay.proofs.Shifting.{went_unsettled, push_undone}
use Rattle.crp_bay.proofs.Pushing.{refill_whole}

-- the last push, and what was kept before it
pub record LastPush (more : List Push) (u : Push) (rows : List ℕ) (s : Position) : Type 0 where
  pub t : Position
  pub rows_t : List ℕ
  pub reached : IsReached t
  pub by : WentBy u rows_t rows t s
  pub located : IsLocated rows_t t
  pub few : length more ≤ length reached.path
  pub rest : AreUndoable (reverse more) rows_t t

pub last_push : (pushes more : List Push) (u : Push) (rows : List ℕ) (s : Position) → pushes ≡ more ++ u ∷ [] → IsKeptPosition pushes rows s → LastPush more u rows s
last_push pushes more u rows s e kept =
    let turned : reverse pushes ≡ u ∷ reverse more = ap reverse e ∙ reverse-append more (u ∷ []) in
    let c : AreUndoable (u ∷ reverse more) rows s = subst (λ us. AreUndoable us rows s) turned kept.undoable in
    let few = c.5 in
    record {
      t = c.0;
      rows_t = c.1;
      reached = c.2;
      by = c.3;
      located = c.4;
      few = omega (arith, length-reverse more);
      rest = c.6;
    }

-- what code finds where the takes are undone
pub record Findable (rows h : List ℕ) (o m : ℕ) (u : Push) (new : List (List ℕ)) : Type 0 where
  pub to_there : u.to < length new
  pub to_some : 0 < length (get_or new u.to [])
  pub from_there : u.from < length (set new u.to (without_top (get_or new u.to [])))
  pub from_room : length (get_or (set new u.to (without_top (get_or new u.to []))) u.from []) < 8
  pub rank_few : top (get_or new u.to []) < 97

find_shifted : (rows_t rows h : List ℕ) (o m : ℕ) (u : Push) (t : Position) (row : ℕ) (new : List (List ℕ)) → IsLocated rows_t t → (k : Shifts rows_t t row) → u.from ≡ source t → u.to ≡ row - 1 → new ≡ (shifted t row).stacks → Findable rows h o m u new
find_shifted rows_t rows h o m u t row new l k ef et e =
    let less : List (List ℕ) = set t.stacks (source t) k.rest in
    let new_is : new ≡ set less (row - 1) (k.onto ++ k.rank ∷ []) = e ∙ ap (λ (v : Position). v.stacks) k.after in
    let to_lt = k.to_lt in let from_lt = k.from_lt in
    let len : length new ≡ length t.stacks = ap length new_is ∙ length-set less (row - 1) (k.onto ++ k.rank ∷ []) ∙ length-set t.stacks (source t) k.rest in
    let lt : row - 1 < length less = omega (arith, length-set t.stacks (source t) k.rest) in
    let at_to : get_or new u.to [] ≡ k.onto ++ k.rank ∷ [] = ap (λ i. get_or new i []) et ∙ ap (λ v. get_or v (row - 1) []) new_is ∙ read_same less (row - 1) (k.onto ++ k.rank ∷ []) lt in
    let ne : u.from ≢ u.to = λ q. k.apart (sym (sym ef ∙ q ∙ et)) in
    let ne' : source t ≢ row - 1 = λ q. k.apart (sym q) in
    let at_from : get_or (set new u.to (without_top (get_or new u.to []))) u.from [] ≡ k.rest =
    read_other new u.to u.from (without_top (get_or new u.to [])) ne
    ∙ ap (λ i. get_or new i []) ef
    ∙ ap (λ v. get_or v (source t) []) new_is
    ∙ read_other less (row - 1) (source t) (k.onto ++ k.rank ∷ []) ne'
    ∙ read_same t.stacks (source t) k.rest k.from_lt in
    let low = l.low (source t) (k.rest ++ k.rank ∷ []) k.got in
    let few = k.rank_few in
    record {
      to_there = omega arith;
      to_some = omega (arith, ap length at_to, length_push k.onto k.rank);
      from_there = omega (arith, length-set new u.to (without_top (get_or new u.to [])));
      from_room = omega (arith, ap length at_from, length_push k.rest k.rank);
      rank_few = omega (arith, ap top at_to, top_push k.onto k.rank);
    }

-- code went back over the takes
pub went_back : (rows h hs : List ℕ) (o n : ℕ) (u : Push) (items v new : List (List ℕ)) → hs ≡ h → v ≡ items → place_of hs o u.next new ≡ all_back rows (n - u.next) (place_of hs o n v) →
    place_of h o u.next new ≡ unsettled rows u (place_of h o n items)
went_back rows h hs o n u items v new eh ev e =
    ap (λ x. place_of x o u.next new) (sym eh) ∙ e ∙ ap (λ x. all_back rows (n - u.next) (place_of x o n v)) eh ∙ ap (λ w. all_back rows (n - u.next) (place_of h o n w)) ev

-- so it finds what the push left
pub finds : (more : List Push) (rows h : List ℕ) (o n : ℕ) (u : Push) (items new : List (List ℕ)) → LastPush more u rows (place_of h o n items) → place_of h o u.next new ≡ unsettled rows u (place_of h o n items) → Findable rows h o n u new
finds more rows h o n u items new p e =
    let k : Shifts p.rows_t p.t p.by.row = shifts p.rows_t p.t p.by.row p.located (reached_settled p.t p.reached) p.by.can in
    find_shifted p.rows_t rows h o n u p.t p.by.row new p.located k p.by.from_is p.by.to_is
    (ap (λ (v : Position). v.stacks) (e ∙ went_unsettled u p.rows_t rows p.t (place_of h o n items) p.reached p.located p.by))

-- what is kept after the pop
pub kept_before : (more : List Push) (rows h : List ℕ) (o n rank : ℕ) (u : Push) (items new1 new2 new3 : List (List ℕ)) → LastPush more u rows (place_of h o n items) → place_of h o u.next new1 ≡ unsettled rows u (place_of h o n items) →
    rank ≡ top (get_or new1 u.to []) → new2 ≡ set new1 u.to (without_top (get_or new1 u.to [])) → new3 ≡ set new2 u.from (get_or new2 u.from [] ++ rank ∷ []) → length new3 ≡ length items →
    IsKeptPosition more (set rows rank u.from) (place_of h o u.next (refill (length items) items new3))
    × (place_of h o u.next (refill (length items) items new3) ≡ undone rows u (place_of h o n items))
    × (set rows rank u.from ≡ rows_before rows u (place_of h o n items))
kept_before more rows h o n rank u items new1 new2 new3 p e er e2 e3 el =
    let s : Position = place_of h o n items in
    let made : place_of h o u.next new3 ≡ shift_back u.from u.to (place_of h o u.next new1) =
    ap (place_of h o u.next) (e3 ∙ ap (λ x. set new2 u.from (get_or new2 u.from [] ++ x ∷ [])) er ∙ ap (λ w. set w u.from (get_or w u.from [] ++ top (get_or new1 u.to []) ∷ [])) e2) in
    let place_is : place_of h o u.next (refill (length items) items new3) ≡ undone rows u s = ap (place_of h o u.next) (refill_whole items new3 el) ∙ made ∙ ap (shift_back u.from u.to) e in
    let rows_is : set rows rank u.from ≡ rows_before rows u s = ap (λ x. set rows x u.from) (er ∙ ap (λ (v : Position). top (stack_at v u.to)) e) in
    let back = push_undone u p.rows_t rows p.t s p.reached p.located p.by in
    let kept : IsKeptPosition more p.rows_t p.t = record { reached = p.reached; located = p.located; few = p.few; undoable = p.rest } in (
      subst (λ w. IsKeptPosition more w (place_of h o u.next (refill (length items) items new3))) (sym (rows_is ∙ back.1)) (subst (IsKeptPosition more p.rows_t) (sym (place_is ∙ back.0)) kept),
      place_is,
      rows_is,
    )
