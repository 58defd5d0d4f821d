-- Two problems with the same heights, stacks and number of containers that are to leave.
use Rattle.std.proofs.Common.{◌≡◌, ℕ, Bool, true, List, IsTrue, ◌↔◌, nat_eq, sym, ap, ◌∙◌}
use Rattle.std.specs.Cmp.Lexicographic.{pointwise}
use Rattle.std.proofs.lemmas.Slice.Eq.{slice_eq-Decides, bytes_eq-Decides}
use Rattle.crp_plan.specs.Bay.{Problem}

-- heights that are found to be the same are
pub same_heights : (xs ys : List ℕ) (r : Bool) → r ≡ pointwise nat_eq xs ys → r ≡ true → xs ≡ ys
same_heights xs ys r e is = (bytes_eq-Decides xs ys).0 (sym e ∙ is)

-- two problems with the same heights, and as many that are to leave, are the same where a comparison finds their stacks to be
pub same_if_stacks : (p q : Problem) (xs ys : List (List ℕ)) (r : Bool) → xs ≡ p.stacks → ys ≡ q.stacks → r ≡ pointwise (pointwise nat_eq) xs ys → p.heights ≡ q.heights → p.ordered ≡ q.ordered
    → IsTrue r ↔ (p ≡ q)
same_if_stacks p q xs ys r a b e h o =
    let d = slice_eq-Decides bytes_eq-Decides xs ys r e in (
      (λ is.
          ap (λ l. record { heights = l; ordered = p.ordered; stacks = p.stacks }) h
          ∙ ap (λ n. record { heights = q.heights; ordered = n; stacks = p.stacks }) o
          ∙ ap (λ l. record { heights = q.heights; ordered = q.ordered; stacks = l }) (sym a ∙ d.0 is ∙ b)),
      (λ same. d.1 (a ∙ ap (λ (s : Problem). s.stacks) same ∙ sym b)),
    )
