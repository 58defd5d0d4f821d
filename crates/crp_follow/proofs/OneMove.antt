-- A crane makes a move in one way at most, and a list of moves has one first fault at most.
use Rattle.std.proofs.Common.{◌≡◌, ◌≢◌, ◌∙◌, ◌⊎◌, inl, inr, ℕ, List, [], ◌∷◌, ◌++◌, refl, sym, ap, subst}
use Rattle.std.proofs.lemmas.List.{map-append}
use Rattle.crp_said.specs.declared.moves.SaidMove.{SaidMove}
use Rattle.crp_said.specs.declared.moves.SaidMove.TheVariants.{Shift, Take}
use Rattle.crp_follow.specs.declared.stated.StatedMove.{StatedMove}
use Rattle.crp_follow.specs.declared.fault.FollowFault.{FollowFault}
use Rattle.crp_follow.specs.declared.fault.FollowFault.TheVariants as fault
use Rattle.crp_follow.specs.Crane.{Stack, with_stack, IsHighest, CanMake, Leads, from_of, container_of}
use Rattle.crp_follow.specs.Stated.{moves_of}
use Rattle.crp_follow.specs.MoveFaults.{CanSetDown, IsMoveFault, StopsWith}
use Rattle.crp_follow.proofs.Cuts.{AreCuts, cuts}
use Rattle.crp_follow.proofs.Rows.{one_highest, one_free}

-- ---- a move that is made

pub made_once : (heights : List ℕ) (rows : List Stack) (m : SaidMove) (s t : List Stack) → CanMake heights rows m s → CanMake heights rows m t → s ≡ t
made_once heights rows (Take from container) s t p q =
    let same = one_highest rows from container container p.beneath q.beneath p.highest q.highest in
    p.after_is ∙ ap (with_stack rows from.row) same.0 ∙ sym q.after_is
made_once heights rows (Shift from to container) s t p q =
    let same = one_highest rows from container container p.beneath q.beneath p.highest q.highest in
    let onto = one_free heights rows to p.onto q.onto p.free q.free in
    p.after_is ∙ ap (λ b. with_stack (with_stack rows from.row b) to.row (p.onto ++ container ∷ [])) same.0
    ∙ ap (λ o. with_stack (with_stack rows from.row q.beneath) to.row (o ++ container ∷ [])) onto ∙ sym q.after_is

-- what is lifted
pub is_highest : (heights : List ℕ) (rows : List Stack) (m : SaidMove) (t : List Stack) → CanMake heights rows m t → (beneath : Stack) × IsHighest rows (from_of m) (container_of m) beneath
is_highest heights rows (Take from container) t p = (p.beneath, p.highest)
is_highest heights rows (Shift from to container) t p = (p.beneath, p.highest)

pub can_set_down : (heights : List ℕ) (rows : List Stack) (m : SaidMove) (t : List Stack) → CanMake heights rows m t → CanSetDown heights rows m
can_set_down heights rows (Take from container) t p = tt
can_set_down heights rows (Shift from to container) t p = (p.another, (p.onto, p.free))

-- ---- what is wrong with a move

abbrev NoneThere : List Stack → StatedMove → Type 0
NoneThere rows m = (container : List ℕ) (beneath : Stack) → ¬ IsHighest rows (from_of m.said) container beneath

abbrev OtherThere : List Stack → StatedMove → Type 0
OtherThere rows m = (container : List ℕ) × (beneath : Stack) × IsHighest rows (from_of m.said) container beneath × (container ≢ container_of m.said)

abbrev NoPlace : List ℕ → List Stack → StatedMove → Type 0
NoPlace heights rows m = ((beneath : Stack) × IsHighest rows (from_of m.said) (container_of m.said) beneath) × ¬ CanSetDown heights rows m.said

abbrev WrongMove : List ℕ → List Stack → StatedMove → FollowFault → Type 0
WrongMove heights rows m f = ((f ≡ fault.Lift m.line) × NoneThere rows m) ⊎ (((f ≡ fault.Container m.line) × OtherThere rows m) ⊎ ((f ≡ fault.SetDown m.line) × NoPlace heights rows m))

wrong_move : (heights : List ℕ) (rows : List Stack) (m : StatedMove) (f : FollowFault) → IsMoveFault heights rows m f → WrongMove heights rows m f
wrong_move heights rows m (fault.Lift line) w = inl (ap fault.Lift w.0, w.1)
wrong_move heights rows m (fault.Container line) w = inr (inl (ap fault.Container w.0, w.1))
wrong_move heights rows m (fault.SetDown line) w = inr (inr (ap fault.SetDown w.0, (w.1, w.2)))
wrong_move heights rows m f w = absurd w

apart : (heights : List ℕ) (rows : List Stack) (m : StatedMove) (f : FollowFault) (t : List Stack) → WrongMove heights rows m f → CanMake heights rows m.said t → ⊥
apart heights rows m f t (inl (e, none)) made = let h = is_highest heights rows m.said t made in none (container_of m.said) h.0 h.1
apart heights rows m f t (inr (inl (e, (container, beneath, highest, other)))) made =
    let h = is_highest heights rows m.said t made in other (one_highest rows (from_of m.said) container (container_of m.said) beneath h.0 highest h.1).1
apart heights rows m f t (inr (inr (e, (there, not)))) made = not (can_set_down heights rows m.said t made)

pub fault_apart : (heights : List ℕ) (rows : List Stack) (m : StatedMove) (f : FollowFault) (t : List Stack) → IsMoveFault heights rows m f → CanMake heights rows m.said t → ⊥
fault_apart heights rows m f t w made = apart heights rows m f t (wrong_move heights rows m f w) made

none_other : (rows : List Stack) (m : StatedMove) → NoneThere rows m → OtherThere rows m → ⊥
none_other rows m none (container, beneath, highest, other) = none container beneath highest

other_place : (heights : List ℕ) (rows : List Stack) (m : StatedMove) → OtherThere rows m → NoPlace heights rows m → ⊥
other_place heights rows m (container, beneath, highest, other) ((below, there), not) =
    other (one_highest rows (from_of m.said) container (container_of m.said) beneath below highest there).1

none_place : (heights : List ℕ) (rows : List Stack) (m : StatedMove) → NoneThere rows m → NoPlace heights rows m → ⊥
none_place heights rows m none ((below, there), not) = none (container_of m.said) below there

same_wrong : (heights : List ℕ) (rows : List Stack) (m : StatedMove) (f g : FollowFault) → WrongMove heights rows m f → WrongMove heights rows m g → f ≡ g
same_wrong heights rows m f g (inl (e, p)) (inl (k, q)) = e ∙ sym k
same_wrong heights rows m f g (inl (e, p)) (inr (inl (k, q))) = absurd (none_other rows m p q)
same_wrong heights rows m f g (inl (e, p)) (inr (inr (k, q))) = absurd (none_place heights rows m p q)
same_wrong heights rows m f g (inr (inl (e, p))) (inl (k, q)) = absurd (none_other rows m q p)
same_wrong heights rows m f g (inr (inl (e, p))) (inr (inl (k, q))) = e ∙ sym k
same_wrong heights rows m f g (inr (inl (e, p))) (inr (inr (k, q))) = absurd (other_place heights rows m p q)
same_wrong heights rows m f g (inr (inr (e, p))) (inl (k, q)) = absurd (none_place heights rows m q p)
same_wrong heights rows m f g (inr (inr (e, p))) (inr (inl (k, q))) = absurd (other_place heights rows m q p)
same_wrong heights rows m f g (inr (inr (e, p))) (inr (inr (k, q))) = e ∙ sym k

-- ---- moves one after the other

pub leads_once : (heights : List ℕ) (rows : List Stack) (moves : List SaidMove) (s t : List Stack) → Leads heights rows moves s → Leads heights rows moves t → s ≡ t
leads_once heights rows [] s t p q = sym p ∙ q
leads_once heights rows (m ∷ moves) s t (u, made, p) (v, also, q) =
    leads_once heights v moves s t (subst (λ (r : List Stack). Leads heights r moves s) (made_once heights rows m u v made also) p) q

-- what leads through leads to each of its moves
pub record LeadsPast (heights : List ℕ) (rows : List Stack) (front : List SaidMove) (m : SaidMove) (later : List SaidMove) (t : List Stack) : Type 0 where
  pub before : List Stack
  pub next : List Stack
  pub leads : Leads heights rows front before
  pub made : CanMake heights before m next
  pub rest : Leads heights next later t

pub leads_past : (heights : List ℕ) (rows : List Stack) (front : List SaidMove) (m : SaidMove) (later : List SaidMove) (t : List Stack) → Leads heights rows (front ++ m ∷ later) t
    → LeadsPast heights rows front m later t
leads_past heights rows [] m later t (u, made, rest) = record { before = rows; next = u; leads = refl; made = made; rest = rest }
leads_past heights rows (n ∷ front) m later t (u, made, rest) =
    let p = leads_past heights u front m later t rest in
    record { before = p.before; next = p.next; leads = (u, made, p.leads); made = p.made; rest = p.rest }

pub leads_more : (heights : List ℕ) (rows : List Stack) (front : List SaidMove) (m : SaidMove) (s t : List Stack) → Leads heights rows front s → CanMake heights s m t
    → Leads heights rows (front ++ m ∷ []) t
leads_more heights rows [] m s t p made = (t, subst (λ (r : List Stack). CanMake heights r m t) (sym p) made, refl)
leads_more heights rows (n ∷ front) m s t (u, first, p) made = (u, first, leads_more heights u front m s t p made)

-- moves that lead through do not stop, at any front of them
past : (heights : List ℕ) (start : List Stack) (front : List StatedMove) (m : StatedMove) (later : List StatedMove) (rows t : List Stack) (f : FollowFault)
    → Leads heights start (moves_of front) rows → IsMoveFault heights rows m f → Leads heights start (moves_of (front ++ m ∷ later)) t → ⊥
past heights start front m later rows t f leads wrong all =
    let p = leads_past heights start (moves_of front) m.said (moves_of later) t (subst (λ l. Leads heights start l t) (map-append (λ (x : StatedMove). x.said) front (m ∷ later)) all) in
    let same = leads_once heights start (moves_of front) p.before rows p.leads leads in
    fault_apart heights rows m f p.next wrong (subst (λ (r : List Stack). CanMake heights r m.said p.next) same p.made)

pub stops_apart : (heights : List ℕ) (start : List Stack) (moves : List StatedMove) (f : FollowFault) (t : List Stack) → StopsWith heights start moves f → Leads heights start (moves_of moves) t → ⊥
stops_apart heights start moves f t s all = past heights start s.made s.next s.later s.rows t f s.leads s.wrong (subst (λ l. Leads heights start (moves_of l) t) s.moves_are all)

pub stops_once : (heights : List ℕ) (start : List Stack) (moves : List StatedMove) (f g : FollowFault) → StopsWith heights start moves f → StopsWith heights start moves g → f ≡ g
stops_once heights start moves f g s t =
    decide (cuts s.made t.made s.next t.next s.later t.later (sym s.moves_are ∙ t.moves_are))
  where
    decide : AreCuts s.made t.made s.next t.next s.later t.later → f ≡ g
    decide (inl (front, next, later)) =
        let rows : s.rows ≡ t.rows = leads_once heights start (moves_of t.made) s.rows t.rows (subst (λ l. Leads heights start (moves_of l) s.rows) front s.leads) t.leads in
        let wrong : IsMoveFault heights t.rows t.next f = subst (λ (n : StatedMove). IsMoveFault heights t.rows n f) next (subst (λ (r : List Stack). IsMoveFault heights r s.next f) rows s.wrong) in
        same_wrong heights t.rows t.next f g (wrong_move heights t.rows t.next f wrong) (wrong_move heights t.rows t.next g t.wrong)
    decide (inr (inl (mid, is))) = absurd (past heights start s.made s.next mid s.rows t.rows f s.leads s.wrong (subst (λ l. Leads heights start (moves_of l) t.rows) is t.leads))
    decide (inr (inr (mid, is))) = absurd (past heights start t.made t.next mid t.rows s.rows g t.leads t.wrong (subst (λ l. Leads heights start (moves_of l) s.rows) is s.leads))
