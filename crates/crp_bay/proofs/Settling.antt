-- One turn of settling, as code sees it.
use Rattle.std.proofs.Common.{◌≡◌, ℕ, suc, ◌<◌, ◌≤◌, ◌&&◌, true, false, List, [], ◌∷◌, length, get_or, set, sym, ap, ◌∙◌, subst, arith, ⊎_elim}
use Rattle.std.proofs.lemmas.Option.{slice_get_within}
use Rattle.std.proofs.lemmas.Bool.{le-leb, cases_Bool}
use Rattle.crp_plan.specs.Rows.{holds}
use Rattle.crp_plan.specs.Bay.{Position}
use Rattle.crp_bay.specs.Positions.{ends_in, without_top, source, stack_at, can_take, taken, settled}
use Rattle.crp_bay.proofs.Walked.{Found, found}
use Rattle.crp_bay.specs.Back.{place_of}
use Rattle.crp_bay.specs.Located.{IsLocated}
use Rattle.crp_bay.proofs.Going.{row_found, settled_on, located_taken}

pub record Turn (rows : List ℕ) (s : Position) : Type 0 where
  pub row : get_or rows s.next 0 ≡ source s
  pub there : get_or rows s.next 0 < length s.stacks
  pub some : 0 < length (get_or s.stacks (get_or rows s.next 0) [])
  pub test : can_take s ≡ ends_in s.next (get_or s.stacks (get_or rows s.next 0) [])

holds_some : (x : ℕ) (stack : List ℕ) → holds x stack ≡ true → 0 < length stack
holds_some x [] h = cc
holds_some x (y ∷ ys) h = omega arith

-- where the next container is to leave
pub turn : (rows : List ℕ) (s : Position) → IsLocated rows s → s.next ≤ s.ordered → Turn rows s
turn rows s l le =
    let r = row_found rows s l le in
    let f : Found s = found s l.sound le in
    let here : get_or s.stacks (get_or rows s.next 0) [] ≡ stack_at s (source s) = ap (λ i. get_or s.stacks i []) r.1 in
    let lt = slice_get_within s.stacks (source s) f.stack f.stands in
    record {
      row = r.1;
      there = omega (arith, r.1);
      some = omega (arith, holds_some s.next f.stack f.held, ap length (here ∙ f.is_at));
      test = ap (λ b. b && ends_in s.next (stack_at s (source s))) (le-leb s.next s.ordered le) ∙ ap (ends_in s.next) (sym here);
    }

-- a take that code makes
pub turn_takes : (rows heights : List ℕ) (ordered next m : ℕ) (stacks new : List (List ℕ)) → Turn rows (place_of heights ordered next stacks) → m ≡ suc next →
    new ≡ set stacks (get_or rows next 0) (without_top (get_or stacks (get_or rows next 0) [])) → place_of heights ordered m new ≡ taken (place_of heights ordered next stacks)
turn_takes rows heights ordered next m stacks new t e made =
    ap (λ k. place_of heights ordered k new) e
    ∙ ap (place_of heights ordered (suc next)) (made ∙ ap (λ i. set stacks i (without_top (get_or stacks i []))) t.row)

-- the settling goes on
pub turn_on : (rows : List ℕ) (s t first : Position) → IsLocated rows s → can_take s ≡ true → t ≡ taken s → settled s ≡ settled first → IsLocated rows t × (settled t ≡ settled first)
turn_on rows s t first l can e same =
    (subst (IsLocated rows) (sym e) (located_taken rows s l can), ap settled e ∙ settled_on s can ∙ same)

-- nothing is left to leave
pub none_left : (s : Position) → s.ordered < s.next → can_take s ≡ false
none_left s lt = ⊎_elim
    (λ t. let h = Rattle.std.proofs.lemmas.Bool.leb-true s.next s.ordered (Rattle.std.proofs.lemmas.Bool.and_parts _ _ t).0 in absurd (omega arith))
    (λ f. f)
    (cases_Bool (can_take s))
