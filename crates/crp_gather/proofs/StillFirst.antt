-- Where each cut of a certificate meets its need by a plan, each of the certificate settled on it does.
use Rattle.std.proofs.Common.{◌≡◌, ℕ, ◌+◌, ◌≤◌, ◌⊎◌, inl, inr, ⊎_elim, true, false, List, length, All, refl, ap, arith}
use Rattle.std.specs.Ordering.{nat_cmp, is_lt}
use Rattle.std.specs.Cmp.Lexicographic.{slice_cmp}
use Rattle.std.proofs.lemmas.Bool.{cases_Bool, cases_lt}
use Rattle.std.proofs.lemmas.List.Elements.{All-contains}
use Rattle.crp_bay.proofs.Members.{in_filter, from_filter}
use Rattle.crp_bounds.specs.Bounds.{look_ahead}
use Rattle.crp_tree.specs.Mark.{B, L}
use Rattle.crp_tree.specs.Trees.{Node, bound_by, is_cut, value}
use Rattle.crp_tree.specs.Parts.{ProblemPart, nodes_of, cuts_in, Certificate}
use Rattle.crp_tree.specs.First.{MeetsNeed, MeetNeeds}
use Rattle.crp_tree.proofs.InLine.{from_members}
use Rattle.crp_tree.proofs.Ordered.{before_test, not_itself, goes_further}
use Rattle.crp_gather.specs.Settled.{IsClosedBy, IsSettled}
use Rattle.crp_gather.proofs.TreesSettled.{IsPastNode}

-- a node is past the plan or not
past_or_not : (plan : List ℕ) (n : Node) → IsPastNode plan n ⊎ (IsPastNode plan n → ⊥)
past_or_not plan n =
    let test = before_test plan n.path (slice_cmp nat_cmp plan n.path) refl in
    ⊎_elim
    (λ (yes : is_lt (slice_cmp nat_cmp plan n.path) ≡ true). ⊎_elim
    (λ lt. inr (λ past. let le = past.reached in omega arith))
    (λ le. inl (record { after = test.0 yes; reached = le }))
    (cases_lt (length n.path + look_ahead n.place) (length plan)))
    (λ (no : is_lt (slice_cmp nat_cmp plan n.path) ≡ false). inr (λ past. let yes = test.1 past.after in cc))
    (cases_Bool (is_lt (slice_cmp nat_cmp plan n.path)))

-- a node that is closed by the plan has at least its relocations
closed_enough : (plan : List ℕ) (n : Node) → IsPastNode plan n → IsClosedBy plan n → length plan ≤ value n
closed_enough plan n past is = ⊎_elim
    (λ b. let e : value n ≡ length n.path + bound_by B n.place = ap (λ m. length n.path + bound_by m n.place) b.0 in let le = b.1 in omega arith)
    (λ l. let e : value n ≡ length n.path + bound_by L n.place = ap (λ m. length n.path + bound_by m n.place) l.0 in let le = past.reached in omega arith)
    is

-- so it meets its need, as it comes after the plan
closed_meets : (plan : List ℕ) (n : Node) → IsPastNode plan n → IsClosedBy plan n → MeetsNeed (length plan) plan n
closed_meets plan n past is = record {
  enough = closed_enough plan n past is;
  more_before = λ before. absurd (not_itself plan (goes_further plan n.path plan past.after before));
}

pub still_meet : (plan : List ℕ) (old new : Certificate) → IsSettled plan old new → MeetNeeds (length plan) plan old.parts → MeetNeeds (length plan) plan new.parts
still_meet plan old new settled needs = from_members (λ (y : ProblemPart). All (MeetsNeed (length plan) plan) (cuts_in y)) new.parts (λ y c.
    let b = settled.each y c in
    let x : ProblemPart = b.0 in
    let set = b.2 in
    let are = set.nodes_are in
    from_members (MeetsNeed (length plan) plan) (cuts_in y) (λ n d.
    let f = from_filter (λ (i : Node). is_cut i.mark) (nodes_of y) n d in
    ⊎_elim
    (λ past. closed_meets plan n past (are.past n f.1 past))
    (λ out. All-contains (MeetsNeed (length plan) plan) (cuts_in x) n (All-contains (λ (z : ProblemPart). All (MeetsNeed (length plan) plan) (cuts_in z)) old.parts x needs b.1)
    (in_filter (λ (i : Node). is_cut i.mark) (nodes_of x) n ((are.others n out).0 f.1) f.0))
    (past_or_not plan n)))
