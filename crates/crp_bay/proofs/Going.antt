-- What a take and a shift do is undone.
use Rattle.std.proofs.Common.{◌≡◌, ◌≢◌, ℕ, zero, suc, ◌+◌, ◌-◌, ◌<◌, ◌≤◌, ◌==◌, Bool, true, false, List, [], ◌∷◌, ◌++◌, length, get_or, set, slice_get, Some, refl, sym, ap, ◌∙◌, subst, arith, ⊎_elim}
use Rattle.std.proofs.lemmas.List.{set-set, set-get_or}
use Rattle.std.proofs.lemmas.Option.{slice_get_within, get_or_from_slice_get, same_Some}
use Rattle.std.proofs.lemmas.Bool.{cases_Bool, and_parts, leb-true}
use Rattle.crp_plan.specs.Rows.{holds}
use Rattle.crp_plan.specs.Bay.{Position, IsTaken, IsShifted}
use Rattle.crp_plan.proofs.Lists.{get_put_same, get_put_other}
use Rattle.crp_plan.proofs.Sound.{sound_taken}
use Rattle.crp_plan.proofs.Paths.{NoTake}
use Rattle.crp_bay.specs.Positions.{top, without_top, source, stack_at, can_take, taken, settle, settled, can_shift, shifted}
use Rattle.crp_bay.proofs.Walked.{Found, found, take_made, shift_made, allows, Allows}
use Rattle.crp_bay.specs.Back.{put_back, all_back, shift_back}
use Rattle.crp_bay.specs.Located.{IsLocated, StepsBack, moved}
use Rattle.crp_bay.proofs.Tops.{top_push, without_push, length_push, read_same, read_other}

-- what stands in a stack stands in it with one more on top
pub holds_under : (x : ℕ) (rest : List ℕ) (y : ℕ) → holds x rest ≡ true → holds x (rest ++ y ∷ []) ≡ true
holds_under x [] y h = cc
holds_under x (z ∷ rest) y h = ⊎_elim
    (λ e. rw e refl)
    (λ e. let t : holds x (rest ++ y ∷ []) ≡ true = holds_under x rest y e in ⊎_elim (λ f. rw f refl) (λ f. rw f t) (cases_Bool (z == x)))
    (Rattle.std.proofs.lemmas.Bool.or_cases (z == x) (holds x rest) h)

-- the next container is where its row says
pub row_found : (rows : List ℕ) (s : Position) → IsLocated rows s → s.next ≤ s.ordered → (s.next ≤ 96) × (get_or rows s.next 0 ≡ source s)
row_found rows s l le =
    let f : Found s = found s l.sound le in
    l.row_is s.next (source s) f.stack f.stands f.held

pub record Takes (rows : List ℕ) (s : Position) : Type 0 where
  pub le : s.next ≤ s.ordered
  pub few : s.next ≤ 96
  pub row : get_or rows s.next 0 ≡ source s
  pub lt : source s < length s.stacks
  pub rest : List ℕ
  pub here : stack_at s (source s) ≡ rest ++ s.next ∷ []
  pub got : slice_get s.stacks (source s) ≡ Some (rest ++ s.next ∷ [])
  pub after : taken s ≡ record s { next = suc s.next; stacks = set s.stacks (source s) rest }

-- what a take needs and does
pub takes : (rows : List ℕ) (s : Position) → IsLocated rows s → can_take s ≡ true → Takes rows s
takes rows s l h =
    let k : IsTaken s (suc (source s)) (taken s) = take_made s l.sound h in
    let le = k.unfinished in
    let f : Found s = found s l.sound le in
    let r = row_found rows s l le in
    let e : suc (source s) - 1 ≡ source s = omega arith in
    let got : slice_get s.stacks (source s) ≡ Some (k.rest ++ s.next ∷ []) = ap (slice_get s.stacks) (sym e) ∙ k.stack in
    let same : f.stack ≡ k.rest ++ s.next ∷ [] = same_Some f.stack (k.rest ++ s.next ∷ []) (sym f.stands ∙ got) in
    record {
      le = le;
      few = r.0;
      row = r.1;
      lt = slice_get_within s.stacks (source s) f.stack f.stands;
      rest = k.rest;
      here = f.is_at ∙ same;
      got = got;
      after = k.after ∙ ap (λ i. record s { next = suc s.next; stacks = set s.stacks i k.rest }) e;
    }

-- a take is undone
pub take_back : (rows : List ℕ) (s : Position) → IsLocated rows s → can_take s ≡ true → put_back rows (taken s) ≡ s
take_back rows s l h =
    let t : Takes rows s = takes rows s l h in
    let n : suc s.next - 1 ≡ s.next = omega arith in
    let i : ℕ = source s in
    let less : List (List ℕ) = set s.stacks i t.rest in
    let r : get_or rows (suc s.next - 1) 0 ≡ i = ap (λ k. get_or rows k 0) n ∙ t.row in
    let back : (k j : ℕ) → Position = λ k j. record s { next = k; stacks = set less j (get_or less j [] ++ k ∷ []) } in
    ap (put_back rows) t.after
    ∙ ap (λ k. back k (get_or rows k 0)) n
    ∙ ap (back s.next) t.row
    ∙ ap (λ v. record s { stacks = set less i (v ++ s.next ∷ []) }) (read_same s.stacks i t.rest t.lt)
    ∙ ap (λ v. record s { stacks = v }) (set-set s.stacks i t.rest (t.rest ++ s.next ∷ []))
    ∙ ap (λ v. record s { stacks = set s.stacks i v }) (sym t.here)
    ∙ ap (λ v. record s { stacks = v }) (set-get_or s.stacks i [])

-- what stands after a take stood before it, in the same row
pub stood_before : (rows : List ℕ) (s : Position) → IsLocated rows s → can_take s ≡ true → (x i : ℕ) (stack : List ℕ) → slice_get (taken s).stacks i ≡ Some stack → holds x stack ≡ true → (x ≤ 96) × (get_or rows x 0 ≡ i)
stood_before rows s l h x i stack e held =
    let t : Takes rows s = takes rows s l h in
    let e' : slice_get (set s.stacks (source s) t.rest) i ≡ Some stack = ap (λ (v : Position). slice_get v.stacks i) (sym t.after) ∙ e in
    ⊎_elim
    (λ same. let e'' : slice_get (set s.stacks (source s) t.rest) (source s) ≡ Some stack = ap (slice_get (set s.stacks (source s) t.rest)) (sym same) ∙ e' in
    let is_rest : t.rest ≡ stack = same_Some t.rest stack (sym (get_put_same s.stacks (source s) (t.rest ++ s.next ∷ []) t.rest t.got) ∙ e'') in
    let r = l.row_is x (source s) (t.rest ++ s.next ∷ []) t.got (holds_under x t.rest s.next (ap (holds x) is_rest ∙ held)) in
    (r.0, r.1 ∙ sym same))
    (λ other. l.row_is x i stack (sym (get_put_other s.stacks (source s) i t.rest other) ∙ e') held)
    (Rattle.std.proofs.lemmas.Bool.cases_eq i (source s))

-- no stack grows by a take
low_after : (rows : List ℕ) (s : Position) → IsLocated rows s → can_take s ≡ true → (i : ℕ) (stack : List ℕ) → slice_get (taken s).stacks i ≡ Some stack → length stack ≤ 8
low_after rows s l h i stack e =
    let t : Takes rows s = takes rows s l h in
    let e' : slice_get (set s.stacks (source s) t.rest) i ≡ Some stack = ap (λ (v : Position). slice_get v.stacks i) (sym t.after) ∙ e in
    ⊎_elim
    (λ same. let e'' : slice_get (set s.stacks (source s) t.rest) (source s) ≡ Some stack = ap (slice_get (set s.stacks (source s) t.rest)) (sym same) ∙ e' in
    let is_rest : t.rest ≡ stack = same_Some t.rest stack (sym (get_put_same s.stacks (source s) (t.rest ++ s.next ∷ []) t.rest t.got) ∙ e'') in
    let b = l.low (source s) (t.rest ++ s.next ∷ []) t.got in
    omega (arith, length_push t.rest s.next, ap length is_rest))
    (λ other. l.low i stack (sym (get_put_other s.stacks (source s) i t.rest other) ∙ e'))
    (Rattle.std.proofs.lemmas.Bool.cases_eq i (source s))

-- ranks keep their rows over a take
pub located_taken : (rows : List ℕ) (s : Position) → IsLocated rows s → can_take s ≡ true → IsLocated rows (taken s)
located_taken rows s l h = record {
  sound = sound_taken s (suc (source s)) (taken s) l.sound (take_made s l.sound h);
  row_is = stood_before rows s l h;
  low = low_after rows s l h;
  all_ranks = l.all_ranks;
}

-- takes do not lower the next rank
pub settle_grows : (most : ℕ) (s : Position) → s.next ≤ (settle most s).next
settle_grows zero s = omega arith
settle_grows (suc most) s = ⊎_elim
    (λ t. rw t (let g = settle_grows most (taken s) in omega arith))
    (λ f. rw f (omega arith))
    (cases_Bool (can_take s))

-- ranks keep their rows over takes
pub located_settle : (rows : List ℕ) (most : ℕ) (s : Position) → IsLocated rows s → IsLocated rows (settle most s)
located_settle rows zero s l = l
located_settle rows (suc most) s l = ⊎_elim
    (λ t. rw t (located_settle rows most (taken s) (located_taken rows s l t)))
    (λ f. rw f l)
    (cases_Bool (can_take s))

-- takes are undone
pub settle_back : (rows : List ℕ) (most : ℕ) (s : Position) → IsLocated rows s → all_back rows ((settle most s).next - s.next) (settle most s) ≡ s
settle_back rows zero s l = let e : s.next - s.next ≡ 0 = omega arith in rw e refl
settle_back rows (suc most) s l = ⊎_elim
    (λ t. rw t (let g = settle_grows most (taken s) in
    let e : (settle most (taken s)).next - s.next ≡ suc ((settle most (taken s)).next - suc s.next) = omega arith in
    rw e (ap (put_back rows) (settle_back rows most (taken s) (located_taken rows s l t)) ∙ take_back rows s l t)))
    (λ f. rw f (let e : s.next - s.next ≡ 0 = omega arith in rw e refl))
    (cases_Bool (can_take s))

take_steps : (rows : List ℕ) (s : Position) → IsLocated rows s → can_take s ≡ true → StepsBack rows (taken s)
take_steps rows s l h =
    let t : Takes rows s = takes rows s l h in
    let n : suc s.next - 1 ≡ s.next = omega arith in
    let few = t.few in let lt = t.lt in
    let b = l.low (source s) (t.rest ++ s.next ∷ []) t.got in
    let r : get_or rows (suc s.next - 1) 0 ≡ source s = ap (λ k. get_or rows k 0) n ∙ t.row in
    let read : get_or (set s.stacks (source s) t.rest) (get_or rows (suc s.next - 1) 0) [] ≡ t.rest =
    ap (λ i. get_or (set s.stacks (source s) t.rest) i []) r ∙ read_same s.stacks (source s) t.rest t.lt in
    subst (StepsBack rows) (sym t.after) (record {
      counts = omega arith;
      rank = omega arith;
      there = omega (arith, r, Rattle.std.proofs.Common.length-set s.stacks (source s) t.rest);
      room = omega (arith, ap length read, length_push t.rest s.next);
    })

-- one can go back as far as the takes went
pub settle_steps : (rows : List ℕ) (most : ℕ) (s : Position) → IsLocated rows s → (j : ℕ) → j < (settle most s).next - s.next → StepsBack rows (all_back rows j (settle most s))
settle_steps rows zero s l j = λ lt. absurd (omega arith)
settle_steps rows (suc most) s l j = ⊎_elim
    (λ t. rw t (λ lt. ⊎_elim
    (λ less. settle_steps rows most (taken s) (located_taken rows s l t) j less)
    (λ more.
    let e : (settle most (taken s)).next - (taken s).next ≡ j = omega arith in
    let b : all_back rows j (settle most (taken s)) ≡ taken s = ap (λ k. all_back rows k (settle most (taken s))) (sym e) ∙ settle_back rows most (taken s) (located_taken rows s l t) in
    subst (StepsBack rows) (sym b) (take_steps rows s l t))
    (Rattle.std.proofs.lemmas.Bool.cases_lt j ((settle most (taken s)).next - (taken s).next))))
    (λ f. rw f (λ lt. absurd (omega arith)))
    (cases_Bool (can_take s))

-- what a shift needs and does
pub record Shifts (rows : List ℕ) (s : Position) (row : ℕ) : Type 0 where
  pub apart : row - 1 ≢ source s
  pub rest : List ℕ
  pub rank : ℕ
  pub here : stack_at s (source s) ≡ rest ++ rank ∷ []
  pub got : slice_get s.stacks (source s) ≡ Some (rest ++ rank ∷ [])
  pub from_lt : source s < length s.stacks
  pub onto : List ℕ
  pub there : stack_at s (row - 1) ≡ onto
  pub got_onto : slice_get s.stacks (row - 1) ≡ Some onto
  pub to_lt : row - 1 < length s.stacks
  pub room : length onto < get_or s.heights (row - 1) 0
  pub rank_few : rank ≤ 96
  pub rank_row : get_or rows rank 0 ≡ source s
  pub rank_is : moved s ≡ rank
  pub after : shifted s row ≡ record s { stacks = set (set s.stacks (source s) rest) (row - 1) (onto ++ rank ∷ []) }
  pub made : IsShifted s (suc (source s)) row (shifted s row)

pub shifts : (rows : List ℕ) (s : Position) (row : ℕ) → IsLocated rows s → NoTake s → can_shift s row ≡ true → Shifts rows s row
shifts rows s row l none h =
    let k : IsShifted s (suc (source s)) row (shifted s row) = shift_made s row l.sound none h in
    let a : Allows s row = allows s row h in
    let f : Found s = found s l.sound a.unfinished in
    let e : suc (source s) - 1 ≡ source s = omega arith in
    let got : slice_get s.stacks (source s) ≡ Some (k.rest ++ k.moved ∷ []) = ap (slice_get s.stacks) (sym e) ∙ k.stack in
    let same : f.stack ≡ k.rest ++ k.moved ∷ [] = same_Some f.stack (k.rest ++ k.moved ∷ []) (sym f.stands ∙ got) in
    let here : stack_at s (source s) ≡ k.rest ++ k.moved ∷ [] = f.is_at ∙ same in
    let held : holds k.moved (k.rest ++ k.moved ∷ []) ≡ true = holds_top k.rest k.moved in
    let r = l.row_is k.moved (source s) (k.rest ++ k.moved ∷ []) got held in
    let there : stack_at s (row - 1) ≡ k.onto = get_or_from_slice_get s.stacks (row - 1) k.onto [] k.target in
    let room = a.room in
    record {
      apart = λ q. a.another (sym q);
      rest = k.rest;
      rank = k.moved;
      here = here;
      got = got;
      from_lt = slice_get_within s.stacks (source s) f.stack f.stands;
      onto = k.onto;
      there = there;
      got_onto = k.target;
      to_lt = slice_get_within s.stacks (row - 1) k.onto k.target;
      room = omega (arith, ap length there);
      rank_few = r.0;
      rank_row = r.1;
      rank_is = ap top here ∙ top_push k.rest k.moved;
      after = k.after ∙ ap (λ i. record s { stacks = set (set s.stacks i k.rest) (row - 1) (k.onto ++ k.moved ∷ []) }) e;
      made = k;
    }
  where
    holds_top : (rest : List ℕ) (x : ℕ) → holds x (rest ++ x ∷ []) ≡ true
    holds_top [] x = let t : (x == x) ≡ true = Rattle.std.proofs.lemmas.Bool.eq-eqb x x refl in rw t refl
    holds_top (z ∷ rest) x = let t : holds x (rest ++ x ∷ []) ≡ true = holds_top rest x in ⊎_elim (λ q. rw q refl) (λ q. rw q t) (cases_Bool (z == x))

-- a shift is undone
pub shift_undone : (rows : List ℕ) (s : Position) (row : ℕ) → Shifts rows s row → shift_back (source s) (row - 1) (shifted s row) ≡ s
shift_undone rows s row k =
    let i : ℕ = source s in let j : ℕ = row - 1 in
    let less : List (List ℕ) = set s.stacks i k.rest in
    let more : List (List ℕ) = set less j (k.onto ++ k.rank ∷ []) in
    let j_lt : j < length less = let b = k.to_lt in omega (arith, Rattle.std.proofs.Common.length-set s.stacks i k.rest) in
    let on_top : get_or more j [] ≡ k.onto ++ k.rank ∷ [] = read_same less j (k.onto ++ k.rank ∷ []) j_lt in
    let lifted : set more j (without_top (get_or more j [])) ≡ less =
    ap (λ v. set more j (without_top v)) on_top
    ∙ ap (set more j) (without_push k.onto k.rank)
    ∙ set-set less j (k.onto ++ k.rank ∷ []) k.onto
    ∙ ap (set less j) (sym (read_other s.stacks i j k.rest k.apart ∙ k.there))
    ∙ set-get_or less j [] in
    let onto_top : top (get_or more j []) ≡ k.rank = ap top on_top ∙ top_push k.onto k.rank in
    let back : List (List ℕ) → ℕ → Position = λ v x. record s { stacks = set v i (get_or v i [] ++ x ∷ []) } in
    ap (shift_back i j) k.after
    ∙ ap (λ v. back v (top (get_or more j []))) lifted
    ∙ ap (back less) onto_top
    ∙ ap (λ v. record s { stacks = set less i (v ++ k.rank ∷ []) }) (read_same s.stacks i k.rest k.from_lt)
    ∙ ap (λ v. record s { stacks = v }) (set-set s.stacks i k.rest (k.rest ++ k.rank ∷ []))
    ∙ ap (λ v. record s { stacks = set s.stacks i v }) (sym k.here)
    ∙ ap (λ v. record s { stacks = v }) (set-get_or s.stacks i [])

-- an ended settling changes nothing
pub settled_end : (s : Position) → can_take s ≡ false → s ≡ settled s
settled_end s f = go (s.ordered + 1 - s.next)
  where
    go : (most : ℕ) → s ≡ settle most s
    go zero = refl
    go (suc most) = rw f refl

-- a take goes on with the settling
pub settled_on : (s : Position) → can_take s ≡ true → settled (taken s) ≡ settled s
settled_on s t =
    let le = leb-true s.next s.ordered (and_parts _ _ t).0 in
    let e : s.ordered + 1 - s.next ≡ suc (s.ordered + 1 - suc s.next) = omega arith in
    rw e (rw t refl)
