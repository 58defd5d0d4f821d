-- One move more, and what is wrong with the next.
use Rattle.std.proofs.Common.{◌≡◌, ◌≢◌, ◌∙◌, ◌⊎◌, inl, inr, Bool, true, false, not, ℕ, zero, suc, ◌+◌, ◌<◌, arith, List, [], ◌∷◌, ◌++◌, length, take, drop, get_or, refl, sym, ap, subst}
use Rattle.std.specs.Str.{bytes_eq}
use Rattle.std.proofs.lemmas.Slice.Eq.{bytes_eq-Decides}
use Rattle.std.proofs.lemmas.List.{map-append, take_more}
use Rattle.crp_said.specs.declared.moves.Place.{Place}
use Rattle.crp_said.specs.declared.moves.SaidMove.{SaidMove}
use Rattle.crp_said.specs.declared.moves.SaidMove.TheVariants.{Shift}
use Rattle.crp_follow.specs.declared.stated.StatedMove.{StatedMove}
use Rattle.crp_follow.specs.declared.fault.FollowFault.{FollowFault}
use Rattle.crp_follow.specs.declared.fault.FollowFault.TheVariants as fault
use Rattle.crp_follow.specs.Crane.{Stack, with_stack, IsHighest, IsLowestFree, CanMake, Leads, from_of, container_of}
use Rattle.crp_follow.specs.Stated.{moves_of}
use Rattle.crp_follow.specs.MoveFaults.{CanSetDown, IsMoveFault, StopsWith}
use Rattle.crp_follow.proofs.OneMove.{leads_more}
use Rattle.crp_follow.proofs.Rows.{free_before, free_after}

-- a list is its front, an element and the rest
pub cut_at : {A : Type 0} (xs : List A) (i : ℕ) (x : A) → i < length xs → x ≡ get_or xs i x → xs ≡ take i xs ++ x ∷ drop (i + 1) xs
cut_at [] i x lt at = absurd (omega arith)
cut_at (y ∷ xs) zero x lt at = ap (λ v. v ∷ xs) (sym at)
cut_at (y ∷ xs) (suc i) x lt at =
    let next : suc i + 1 ≡ suc (i + 1) = omega arith in
    let within : i < length xs = omega arith in
    ap (λ l. y ∷ l) (cut_at xs i x within at) ∙ ap (λ n. (y ∷ take i xs) ++ x ∷ drop n (y ∷ xs)) (sym next)

pub one_move_more : (heights : List ℕ) (start rows next : List Stack) (moves : List StatedMove) (i : ℕ) (m : StatedMove) → i < length moves → m ≡ get_or moves i m
    → Leads heights start (moves_of (take i moves)) rows → CanMake heights rows m.said next → Leads heights start (moves_of (take (i + 1) moves)) next
one_move_more heights start rows next moves i m lt at leads made =
    let more : take (i + 1) moves ≡ take i moves ++ m ∷ [] = take_more moves i m lt ∙ ap (λ x. take i moves ++ x ∷ []) (sym at) in
    subst (λ l. Leads heights start l next) (sym (ap moves_of more ∙ map-append (λ (x : StatedMove). x.said) (take i moves) (m ∷ [])))
    (leads_more heights start (moves_of (take i moves)) m.said rows next leads made)

pub stops_here : (heights : List ℕ) (start rows : List Stack) (moves : List StatedMove) (i : ℕ) (m : StatedMove) (f : FollowFault) → i < length moves → m ≡ get_or moves i m
    → Leads heights start (moves_of (take i moves)) rows → (f ≡ fault.Memory) ⊎ IsMoveFault heights rows m f → (f ≡ fault.Memory) ⊎ StopsWith heights start moves f
stops_here heights start rows moves i m f lt at leads (inl e) = inl e
stops_here heights start rows moves i m f lt at leads (inr wrong) =
    inr (record { made = take i moves; next = m; later = drop (i + 1) moves; rows = rows; moves_are = cut_at moves i m lt at; leads = leads; wrong = wrong })

-- ---- one move

-- what is lifted
pub record IsLifted (rows : List Stack) (m : SaidMove) (after : List Stack) : Type 0 where
  pub beneath : Stack
  pub highest : IsHighest rows (from_of m) (container_of m) beneath
  pub after_is : after ≡ with_stack rows (from_of m).row beneath

pub is_lifted : (rows after : List Stack) (m : SaidMove) (from : Place) (lifted : List ℕ) → from ≡ from_of m → lifted ≡ container_of m
    → (beneath : Stack) × IsHighest rows from lifted beneath × (after ≡ with_stack rows from.row beneath) → IsLifted rows m after
is_lifted rows after m from lifted e same (beneath, highest, is) = record {
  beneath = beneath;
  highest = subst (λ (c : List ℕ). IsHighest rows (from_of m) c beneath) same (subst (λ (p : Place). IsHighest rows p lifted beneath) e highest);
  after_is = is ∙ ap (λ (p : Place). with_stack rows p.row beneath) e;
}

pub made_shift : (heights : List ℕ) (rows lifted after : List Stack) (m : SaidMove) (from to : Place) (container given : List ℕ) → m ≡ Shift from to container → IsLifted rows m lifted
    → to.row ≢ (from_of m).row → given ≡ container_of m → (beneath : Stack) × IsLowestFree heights lifted to beneath × (after ≡ with_stack lifted to.row (beneath ++ given ∷ []))
    → CanMake heights rows m after
made_shift heights rows lifted after m from to container given e is other same (onto, free, after-is) =
    subst (λ (x : SaidMove). CanMake heights rows x after) (sym e)
    (shifted (subst (λ (x : SaidMove). IsLifted rows x lifted) e is) (subst (λ (x : SaidMove). to.row ≢ (from_of x).row) e other) (same ∙ ap container_of e))
  where
    shifted : IsLifted rows (Shift from to container) lifted → to.row ≢ from.row → given ≡ container → CanMake heights rows (Shift from to container) after
    shifted up another given-is =
        let free-then : IsLowestFree heights (with_stack rows from.row up.beneath) to onto = subst (λ (r : List Stack). IsLowestFree heights r to onto) up.after_is free in
        record {
          beneath = up.beneath;
          highest = up.highest;
          another = another;
          onto = onto;
          free = free_before heights rows from.row to up.beneath onto another free-then;
          after_is = after-is ∙ ap (λ c. with_stack lifted to.row (onto ++ c ∷ [])) given-is ∙ ap (λ r. with_stack r to.row (onto ++ container ∷ [])) up.after_is;
        }

pub no_place : (heights : List ℕ) (rows lifted : List Stack) (m : StatedMove) (from to : Place) (container : List ℕ) → m.said ≡ Shift from to container → IsLifted rows m.said lifted
    → ((beneath : Stack) → IsLowestFree heights lifted to beneath → ⊥) → IsMoveFault heights rows m (fault.SetDown m.line)
no_place heights rows lifted m from to container e is none = (
  refl,
  (is.beneath, is.highest),
  λ can.
      not (subst (λ (x : SaidMove). IsLifted rows x lifted) e is) (subst (λ (x : SaidMove). CanSetDown heights rows x) e can),
)
  where
    not : IsLifted rows (Shift from to container) lifted → CanSetDown heights rows (Shift from to container) → ⊥
    not up (another, (onto, free)) =
        none onto (subst (λ (r : List Stack). IsLowestFree heights r to onto) (sym up.after_is) (free_after heights rows from.row to up.beneath onto another free))

-- names that are not told apart are the same
pub same_names : (a b : List ℕ) → false ≡ not (bytes_eq a b) → a ≡ b
same_names a b e = (bytes_eq-Decides a b).0 (turned (bytes_eq a b) e)
  where
    turned : (t : Bool) → false ≡ not t → t ≡ true
    turned true h = refl
    turned false h = cc
