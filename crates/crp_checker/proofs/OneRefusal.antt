-- A claim is accepted or wrong, not both, and is wrong in one way only.
use Rattle.std.proofs.Common.{◌≡◌, ℕ, List, [], ◌∷◌, ◌++◌, length, Option, Some, IfSome, true, refl, sym, ap, ◌∙◌, subst, arith}
use Rattle.std.specs.List.{AllByRecursion}
use Rattle.std.proofs.lemmas.List.Elements.{recursion_from_All}
use Rattle.crp_plan.specs.Bay.{Problem, IsProblem}
use Rattle.crp_plan.specs.declared.plan.PlanFault.{PlanFault}
use Rattle.crp_plan.specs.Faults.{IsPlanPath, IsPlanFault}
use Rattle.crp_plan.proofs.Steps.{fault_refuses}
use Rattle.crp_plan.proofs.OneFault.{one_plan_fault}
use Rattle.crp_tree.specs.Mark.{X}
use Rattle.crp_tree.specs.Trees.{Node, nodes, is_cut}
use Rattle.crp_tree.specs.Claims.{Part, IsPart, IsAccepted}
use Rattle.crp_tree.proofs.Accepted.{nodes_are}
use Rattle.crp_tree.proofs.InOrder.{one_first}
use Rattle.crp_cert.specs.declared.script.Script.{Script}
use Rattle.crp_cert.specs.Script.{claim_of}
use Rattle.crp_checker.specs.declared.refused.Refused.{Refused}
use Rattle.crp_checker.specs.declared.refused.Refused.TheVariants as refused
use Rattle.crp_checker.specs.Nodes.{Show, IsLow, IsAtEnd, IsUnshown, IsRight, IsFirstWrong}
use Rattle.crp_checker.specs.AcceptedTexts.{IsWanted, IsAcceptedScript}
use Rattle.crp_checker.specs.Refusals.{NamedNodes, nodes_by_name, IsRightPart, need_in, nodes_of_script, AreRightParts, IsFirstWrongNode, IsMissing, IsUnneeded, HasRightHead, IsFirstWrongClaim}
use Rattle.crp_cert.proofs.Joined.{all_right}
use Rattle.crp_checker.proofs.Shapes.{MeetNeed, right_from}
use Rattle.crp_checker.proofs.Under.{MeetNeedIn, accepted_claim, plan_under, met_under}

-- what holds of all holds of the one among them
at_middle : {A : Type 0} (P : A → Type 0) (before : List A) (x : A) (after list : List A) → list ≡ before ++ x ∷ after → AllByRecursion P list → P x
at_middle P before x after list e all = (all_right P before (x ∷ after) (subst (AllByRecursion P) e all)).0

-- the nodes of accepted parts are right
right_parts : (p : Problem) (need : List ℕ → ℕ) (parts : List Part) → IsProblem p → AllByRecursion (IsPart p) parts → MeetNeedIn need p parts → AllByRecursion (IsRightPart need) (nodes_by_name p parts)
right_parts p need [] is each met = tt
right_parts p need (part ∷ parts) is each met =
    let own = each.0 in
    let shape = own.shape in (
      subst (AllByRecursion (IsRight need)) (sym (nodes_are p part own.place is own.is_at))
          (right_from need (nodes part.name own.place part.tree) shape.in_place (subst (MeetNeed need) (nodes_are p part own.place is own.is_at) met.0)),
      right_parts p need parts is each.1 met.1,
    )

pub right_if_accepted : (script : Script) → IsAcceptedScript script → AreRightParts script
right_if_accepted script accepted =
    let ok = accepted_claim script.head.claim (claim_of script) accepted in
    right_parts script.head.problem (need_in script) script.parts ok.is_problem (recursion_from_All (IsPart script.head.problem) script.parts ok.each_part)
    (met_under script.head.claim (claim_of script) refl accepted)

-- where all nodes are right none is wrong
none_met : (need : List ℕ → ℕ) (Wrong : Node → Type 0) (parts : List NamedNodes) (name : List ℕ) (k : ℕ) → ((node : Node) → IsRight need node → Wrong node → ⊥) → AllByRecursion (IsRightPart need) parts → IsFirstWrongNode need Wrong parts name k → ⊥
none_met need Wrong parts name k clash right met =
    let first = met.first in
    let part : NamedNodes = met.part in
    clash first.node (at_middle (IsRight need) first.before first.node first.after part.nodes first.list_is (at_middle (IsRightPart need) met.before part met.after parts met.parts_are right)) first.wrong

not_low : (need : List ℕ → ℕ) (node : Node) → IsRight need node → IsLow need node → ⊥
not_low need node right low = right.not_low low

not_at_end : (need : List ℕ → ℕ) (node : Node) → IsRight need node → IsAtEnd node → ⊥
not_at_end need node right end = right.not_at_end end

not_unshown : (need : List ℕ → ℕ) (node : Node) → IsRight need node → IsUnshown need node → ⊥
not_unshown need node right unshown = unshown.1 right.shown

-- a plan path has no fault
plan_clash : (p : Problem) (plan : Option (List ℕ)) (rows : List ℕ) → IsProblem p → IfSome plan (IsPlanPath p) → plan ≡ Some rows → (fault : _) → IsPlanFault p rows fault → ⊥
plan_clash p plan rows is path e fault f = fault_refuses p rows fault is f (subst (λ o. IfSome o (IsPlanPath p)) e path)

-- an accepted claim is not wrong
pub not_wrong : (wanted : Option Problem) (script : Script) (r : Refused) → IsAcceptedScript script → IsWanted wanted script.head.problem → IsFirstWrongClaim wanted script r → ⊥
not_wrong wanted script r accepted asked w = clash r w
  where
    ok : IsAccepted (claim_of script)
    ok = accepted_claim script.head.claim (claim_of script) accepted

    clash : (r : Refused) → IsFirstWrongClaim wanted script r → ⊥
    clash (refused.Cert fault) w = w
    clash refused.OtherProblem w = w asked
    clash (refused.Plan fault) w = let k = w.1 in plan_clash script.head.problem script.head.plan k.0 ok.is_problem ok.plan_is k.1 fault k.2
    clash refused.NoFirstPlan w = w.2 (plan_under script.head.claim (claim_of script) refl accepted)
    clash (refused.Low part symbol) w = none_met (need_in script) (IsLow (need_in script)) (nodes_of_script script) part symbol (not_low (need_in script)) (right_if_accepted script accepted) w.1
    clash (refused.Finished part symbol) w = none_met (need_in script) IsAtEnd (nodes_of_script script) part symbol (not_at_end (need_in script)) (right_if_accepted script accepted) w.1
    clash (refused.Unshown part symbol) w = none_met (need_in script) (IsUnshown (need_in script)) (nodes_of_script script) part symbol (not_unshown (need_in script)) (right_if_accepted script accepted) w.1
    clash (refused.Missing name) w = let k = w.2 in let h = k.holds in h.1 ((ok.as_needed name).1 h.0)
    clash (refused.Unneeded name) w = let k = w.3 in let h = k.holds in h.1 ((ok.as_needed name).0 h.0)
    clash refused.Memory w = w

-- two fronts of one list, each followed by the first that does not hold, are one
one_front : {A : Type 0} (P : A → Type 0) (xs xs' : List A) (y y' : A) (ys ys' : List A) → xs ++ y ∷ ys ≡ xs' ++ y' ∷ ys' → AllByRecursion P xs → AllByRecursion P xs' → (P y → ⊥) → (P y' → ⊥) →
    (length xs ≡ length xs') × (y ≡ y')
one_front P [] [] y y' ys ys' e a b n m = (refl, let same : y ≡ y' = cc in same)
one_front P [] (x' ∷ xs') y y' ys ys' e a b n m = absurd (n (subst P (let same : x' ≡ y = cc in same) b.0))
one_front P (x ∷ xs) [] y y' ys ys' e a b n m = absurd (m (subst P (let same : x ≡ y' = cc in same) a.0))
one_front P (x ∷ xs) (x' ∷ xs') y y' ys ys' e a b n m =
    let r = one_front P xs xs' y y' ys ys' (let rest : xs ++ y ∷ ys ≡ xs' ++ y' ∷ ys' = cc in rest) a.1 b.1 n m in
    let s = r.0 in
    (omega arith, r.1)

-- a wrong node makes its part wrong
part_wrong : (need : List ℕ → ℕ) (Wrong : Node → Type 0) (part : NamedNodes) (k : ℕ) → ((node : Node) → IsRight need node → Wrong node → ⊥) → IsFirstWrong need Wrong part.nodes k → IsRightPart need part → ⊥
part_wrong need Wrong part k clash first right = clash first.node (at_middle (IsRight need) first.before first.node first.after part.nodes first.list_is right) first.wrong

-- what the walk first meets: one name and number, and one node
record MetAt (need : List ℕ → ℕ) (Wrong Other : Node → Type 0) (name other : List ℕ) (k l : ℕ) : Type 0 where
  pub same_name : name ≡ other
  pub same_number : k ≡ l
  pub node : Node
  pub wrong : Wrong node
  pub wrong_too : Other node

one_met : (need : List ℕ → ℕ) (Wrong Other : Node → Type 0) (parts : List NamedNodes) (name other : List ℕ) (k l : ℕ) → ((node : Node) → IsRight need node → Wrong node → ⊥) → ((node : Node) → IsRight need node → Other node → ⊥) →
    IsFirstWrongNode need Wrong parts name k → IsFirstWrongNode need Other parts other l → MetAt need Wrong Other name other k l
one_met need Wrong Other parts name other k l clash clash' a b =
    let first = a.first in
    let second = b.first in
    let part = one_front (IsRightPart need) a.before b.before a.part b.part a.after b.after (sym a.parts_are ∙ b.parts_are) a.right b.right (part_wrong need Wrong a.part k clash first) (part_wrong need Other b.part l clash' second) in
    let same : a.part ≡ b.part = part.1 in
    let node = one_front (IsRight need) first.before second.before first.node second.node first.after second.after (sym first.list_is ∙ ap (λ x. x.nodes) same ∙ second.list_is) first.right second.right
    (λ r. clash first.node r first.wrong) (λ r. clash' second.node r second.wrong) in
    let many = node.0 in
    let n = first.number in
    let m = second.number in
    record {
      same_name = sym a.named ∙ ap (λ x. x.name) same ∙ b.named;
      same_number = omega arith;
      node = first.node;
      wrong = first.wrong;
      wrong_too = subst Other (sym node.1) second.wrong;
    }

-- no node is wrong in two ways
low_or_end : (need : List ℕ → ℕ) (node : Node) → IsLow need node → IsAtEnd node → ⊥
low_or_end need node low end = let t : is_cut X ≡ true = subst (λ m. is_cut m ≡ true) end.0 low.0 in cc

low_or_unshown : (need : List ℕ → ℕ) (node : Node) → IsLow need node → IsUnshown need node → ⊥
low_or_unshown need node low unshown = unshown.0 low

end_or_unshown : (need : List ℕ → ℕ) (node : Node) → IsAtEnd node → IsUnshown need node → ⊥
end_or_unshown need node end unshown = subst (λ m. Show m node.place → ⊥) end.0 unshown.1 tt

-- so the walk does not meet both first
not_both_met : (need : List ℕ → ℕ) (Wrong Other : Node → Type 0) (parts : List NamedNodes) (name other : List ℕ) (k l : ℕ) → ((node : Node) → IsRight need node → Wrong node → ⊥) → ((node : Node) → IsRight need node → Other node → ⊥) →
    ((node : Node) → Wrong node → Other node → ⊥) → IsFirstWrongNode need Wrong parts name k → IsFirstWrongNode need Other parts other l → ⊥
not_both_met need Wrong Other parts name other k l clash clash' apart a b =
    let m = one_met need Wrong Other parts name other k l clash clash' a b in
    apart m.node m.wrong m.wrong_too

-- where some node is wrong, not all are right
low_not_right : (need : List ℕ → ℕ) (parts : List NamedNodes) (name : List ℕ) (k : ℕ) → AllByRecursion (IsRightPart need) parts → IsFirstWrongNode need (IsLow need) parts name k → ⊥
low_not_right need parts name k right met = none_met need (IsLow need) parts name k (not_low need) right met

end_not_right : (need : List ℕ → ℕ) (parts : List NamedNodes) (name : List ℕ) (k : ℕ) → AllByRecursion (IsRightPart need) parts → IsFirstWrongNode need IsAtEnd parts name k → ⊥
end_not_right need parts name k right met = none_met need IsAtEnd parts name k (not_at_end need) right met

unshown_not_right : (need : List ℕ → ℕ) (parts : List NamedNodes) (name : List ℕ) (k : ℕ) → AllByRecursion (IsRightPart need) parts → IsFirstWrongNode need (IsUnshown need) parts name k → ⊥
unshown_not_right need parts name k right met = none_met need (IsUnshown need) parts name k (not_unshown need) right met

-- a plan with a fault is none
bad_plan : (wanted : Option Problem) (script : Script) (fault : PlanFault) → IsProblem script.head.problem → IsFirstWrongClaim wanted script (refused.Plan fault) → HasRightHead wanted script → ⊥
bad_plan wanted script fault is w head = let k = w.1 in plan_clash script.head.problem script.head.plan k.0 is head.plan_is k.1 fault k.2

-- two faults of one plan are the same
same_plan_fault : (p : Problem) (plan : Option (List ℕ)) (rows rows' : List ℕ) (f g : PlanFault) → IsProblem p → plan ≡ Some rows → IsPlanFault p rows f → plan ≡ Some rows' → IsPlanFault p rows' g → f ≡ g
same_plan_fault p plan rows rows' f g is e a d b =
    let same : rows' ≡ rows = cc in
    one_plan_fault p rows f g is a (subst (λ l. IsPlanFault p l g) same b)

-- a claim is wrong in one way only
pub one_wrong : (wanted : Option Problem) (script : Script) (r q : Refused) → IsProblem script.head.problem → IsFirstWrongClaim wanted script r → IsFirstWrongClaim wanted script q → r ≡ q
one_wrong wanted script (refused.Cert f) q is a b = absurd a
one_wrong wanted script refused.Memory q is a b = absurd a
one_wrong wanted script refused.OtherProblem (refused.Cert f) is a b = absurd b
one_wrong wanted script refused.OtherProblem refused.Memory is a b = absurd b
one_wrong wanted script refused.OtherProblem refused.OtherProblem is a b = refl
one_wrong wanted script refused.OtherProblem (refused.Plan f) is a b = absurd (a b.0)
one_wrong wanted script refused.OtherProblem refused.NoFirstPlan is a b = absurd (a b.0)
one_wrong wanted script refused.OtherProblem (refused.Low name k) is a b = absurd (let h = b.0 in a h.as_wanted)
one_wrong wanted script refused.OtherProblem (refused.Finished name k) is a b = absurd (let h = b.0 in a h.as_wanted)
one_wrong wanted script refused.OtherProblem (refused.Unshown name k) is a b = absurd (let h = b.0 in a h.as_wanted)
one_wrong wanted script refused.OtherProblem (refused.Missing name) is a b = absurd (let h = b.0 in a h.as_wanted)
one_wrong wanted script refused.OtherProblem (refused.Unneeded name) is a b = absurd (let h = b.0 in a h.as_wanted)
one_wrong wanted script (refused.Plan f) (refused.Cert g) is a b = absurd b
one_wrong wanted script (refused.Plan f) refused.Memory is a b = absurd b
one_wrong wanted script (refused.Plan f) refused.OtherProblem is a b = absurd (b a.0)
one_wrong wanted script (refused.Plan f) (refused.Plan g) is a b =
    let k = a.1 in
    let l = b.1 in
    ap (λ x. refused.Plan x) (same_plan_fault script.head.problem script.head.plan k.0 l.0 f g is k.1 k.2 l.1 l.2)
one_wrong wanted script (refused.Plan f) refused.NoFirstPlan is a b = absurd (let k = a.1 in plan_clash script.head.problem script.head.plan k.0 is b.1 k.1 f k.2)
one_wrong wanted script (refused.Plan f) (refused.Low name k) is a b = absurd (bad_plan wanted script f is a b.0)
one_wrong wanted script (refused.Plan f) (refused.Finished name k) is a b = absurd (bad_plan wanted script f is a b.0)
one_wrong wanted script (refused.Plan f) (refused.Unshown name k) is a b = absurd (bad_plan wanted script f is a b.0)
one_wrong wanted script (refused.Plan f) (refused.Missing name) is a b = absurd (bad_plan wanted script f is a b.0)
one_wrong wanted script (refused.Plan f) (refused.Unneeded name) is a b = absurd (bad_plan wanted script f is a b.0)
one_wrong wanted script refused.NoFirstPlan (refused.Cert g) is a b = absurd b
one_wrong wanted script refused.NoFirstPlan refused.Memory is a b = absurd b
one_wrong wanted script refused.NoFirstPlan refused.OtherProblem is a b = absurd (b a.0)
one_wrong wanted script refused.NoFirstPlan (refused.Plan g) is a b = absurd (let k = b.1 in plan_clash script.head.problem script.head.plan k.0 is a.1 k.1 g k.2)
one_wrong wanted script refused.NoFirstPlan refused.NoFirstPlan is a b = refl
one_wrong wanted script refused.NoFirstPlan (refused.Low name k) is a b = absurd (let h = b.0 in a.2 h.its_plan)
one_wrong wanted script refused.NoFirstPlan (refused.Finished name k) is a b = absurd (let h = b.0 in a.2 h.its_plan)
one_wrong wanted script refused.NoFirstPlan (refused.Unshown name k) is a b = absurd (let h = b.0 in a.2 h.its_plan)
one_wrong wanted script refused.NoFirstPlan (refused.Missing name) is a b = absurd (let h = b.0 in a.2 h.its_plan)
one_wrong wanted script refused.NoFirstPlan (refused.Unneeded name) is a b = absurd (let h = b.0 in a.2 h.its_plan)
one_wrong wanted script (refused.Low name k) (refused.Cert g) is a b = absurd b
one_wrong wanted script (refused.Low name k) refused.Memory is a b = absurd b
one_wrong wanted script (refused.Low name k) refused.OtherProblem is a b = absurd (let h = a.0 in b h.as_wanted)
one_wrong wanted script (refused.Low name k) (refused.Plan g) is a b = absurd (bad_plan wanted script g is b a.0)
one_wrong wanted script (refused.Low name k) refused.NoFirstPlan is a b = absurd (let h = a.0 in b.2 h.its_plan)
one_wrong wanted script (refused.Low name k) (refused.Low other l) is a b =
    let m = one_met (need_in script) (IsLow (need_in script)) (IsLow (need_in script)) (nodes_of_script script) name other k l (not_low (need_in script)) (not_low (need_in script)) a.1 b.1 in
    ap (λ x. refused.Low x k) m.same_name ∙ ap (refused.Low other) m.same_number
one_wrong wanted script (refused.Low name k) (refused.Finished other l) is a b =
    absurd (not_both_met (need_in script) (IsLow (need_in script)) IsAtEnd (nodes_of_script script) name other k l (not_low (need_in script)) (not_at_end (need_in script)) (low_or_end (need_in script)) a.1 b.1)
one_wrong wanted script (refused.Low name k) (refused.Unshown other l) is a b =
    absurd (not_both_met (need_in script) (IsLow (need_in script)) (IsUnshown (need_in script)) (nodes_of_script script) name other k l (not_low (need_in script)) (not_unshown (need_in script)) (low_or_unshown (need_in script)) a.1 b.1)
one_wrong wanted script (refused.Low name k) (refused.Missing other) is a b = absurd (low_not_right (need_in script) (nodes_of_script script) name k b.1 a.1)
one_wrong wanted script (refused.Low name k) (refused.Unneeded other) is a b = absurd (low_not_right (need_in script) (nodes_of_script script) name k b.1 a.1)
one_wrong wanted script (refused.Finished name k) (refused.Cert g) is a b = absurd b
one_wrong wanted script (refused.Finished name k) refused.Memory is a b = absurd b
one_wrong wanted script (refused.Finished name k) refused.OtherProblem is a b = absurd (let h = a.0 in b h.as_wanted)
one_wrong wanted script (refused.Finished name k) (refused.Plan g) is a b = absurd (bad_plan wanted script g is b a.0)
one_wrong wanted script (refused.Finished name k) refused.NoFirstPlan is a b = absurd (let h = a.0 in b.2 h.its_plan)
one_wrong wanted script (refused.Finished name k) (refused.Low other l) is a b =
    absurd (not_both_met (need_in script) (IsLow (need_in script)) IsAtEnd (nodes_of_script script) other name l k (not_low (need_in script)) (not_at_end (need_in script)) (low_or_end (need_in script)) b.1 a.1)
one_wrong wanted script (refused.Finished name k) (refused.Finished other l) is a b =
    let m = one_met (need_in script) IsAtEnd IsAtEnd (nodes_of_script script) name other k l (not_at_end (need_in script)) (not_at_end (need_in script)) a.1 b.1 in
    ap (λ x. refused.Finished x k) m.same_name ∙ ap (refused.Finished other) m.same_number
one_wrong wanted script (refused.Finished name k) (refused.Unshown other l) is a b =
    absurd (not_both_met (need_in script) IsAtEnd (IsUnshown (need_in script)) (nodes_of_script script) name other k l (not_at_end (need_in script)) (not_unshown (need_in script)) (end_or_unshown (need_in script)) a.1 b.1)
one_wrong wanted script (refused.Finished name k) (refused.Missing other) is a b = absurd (end_not_right (need_in script) (nodes_of_script script) name k b.1 a.1)
one_wrong wanted script (refused.Finished name k) (refused.Unneeded other) is a b = absurd (end_not_right (need_in script) (nodes_of_script script) name k b.1 a.1)
one_wrong wanted script (refused.Unshown name k) (refused.Low other l) is a b =
    absurd (not_both_met (need_in script) (IsLow (need_in script)) (IsUnshown (need_in script)) (nodes_of_script script) other name l k (not_low (need_in script)) (not_unshown (need_in script)) (low_or_unshown (need_in script)) b.1 a.1)
one_wrong wanted script (refused.Unshown name k) (refused.Finished other l) is a b =
    absurd (not_both_met (need_in script) IsAtEnd (IsUnshown (need_in script)) (nodes_of_script script) other name l k (not_at_end (need_in script)) (not_unshown (need_in script)) (end_or_unshown (need_in script)) b.1 a.1)
one_wrong wanted script (refused.Unshown name k) (refused.Cert g) is a b = absurd b
one_wrong wanted script (refused.Unshown name k) refused.Memory is a b = absurd b
one_wrong wanted script (refused.Unshown name k) refused.OtherProblem is a b = absurd (let h = a.0 in b h.as_wanted)
one_wrong wanted script (refused.Unshown name k) (refused.Plan g) is a b = absurd (bad_plan wanted script g is b a.0)
one_wrong wanted script (refused.Unshown name k) refused.NoFirstPlan is a b = absurd (let h = a.0 in b.2 h.its_plan)
one_wrong wanted script (refused.Unshown name k) (refused.Unshown other l) is a b =
    let m = one_met (need_in script) (IsUnshown (need_in script)) (IsUnshown (need_in script)) (nodes_of_script script) name other k l (not_unshown (need_in script)) (not_unshown (need_in script)) a.1 b.1 in
    ap (λ x. refused.Unshown x k) m.same_name ∙ ap (refused.Unshown other) m.same_number
one_wrong wanted script (refused.Unshown name k) (refused.Missing other) is a b = absurd (unshown_not_right (need_in script) (nodes_of_script script) name k b.1 a.1)
one_wrong wanted script (refused.Unshown name k) (refused.Unneeded other) is a b = absurd (unshown_not_right (need_in script) (nodes_of_script script) name k b.1 a.1)
one_wrong wanted script (refused.Missing name) (refused.Cert g) is a b = absurd b
one_wrong wanted script (refused.Missing name) refused.Memory is a b = absurd b
one_wrong wanted script (refused.Missing name) refused.OtherProblem is a b = absurd (let h = a.0 in b h.as_wanted)
one_wrong wanted script (refused.Missing name) (refused.Plan g) is a b = absurd (bad_plan wanted script g is b a.0)
one_wrong wanted script (refused.Missing name) refused.NoFirstPlan is a b = absurd (let h = a.0 in b.2 h.its_plan)
one_wrong wanted script (refused.Missing name) (refused.Low other l) is a b = absurd (low_not_right (need_in script) (nodes_of_script script) other l a.1 b.1)
one_wrong wanted script (refused.Missing name) (refused.Finished other l) is a b = absurd (end_not_right (need_in script) (nodes_of_script script) other l a.1 b.1)
one_wrong wanted script (refused.Missing name) (refused.Unshown other l) is a b = absurd (unshown_not_right (need_in script) (nodes_of_script script) other l a.1 b.1)
one_wrong wanted script (refused.Missing name) (refused.Missing other) is a b = ap (λ x. refused.Missing x) (one_first (IsMissing script) name other a.2 b.2)
one_wrong wanted script (refused.Missing name) (refused.Unneeded other) is a b = absurd (let least = a.2 in b.2 name least.holds)
one_wrong wanted script (refused.Unneeded name) (refused.Cert g) is a b = absurd b
one_wrong wanted script (refused.Unneeded name) refused.Memory is a b = absurd b
one_wrong wanted script (refused.Unneeded name) refused.OtherProblem is a b = absurd (let h = a.0 in b h.as_wanted)
one_wrong wanted script (refused.Unneeded name) (refused.Plan g) is a b = absurd (bad_plan wanted script g is b a.0)
one_wrong wanted script (refused.Unneeded name) refused.NoFirstPlan is a b = absurd (let h = a.0 in b.2 h.its_plan)
one_wrong wanted script (refused.Unneeded name) (refused.Low other l) is a b = absurd (low_not_right (need_in script) (nodes_of_script script) other l a.1 b.1)
one_wrong wanted script (refused.Unneeded name) (refused.Finished other l) is a b = absurd (end_not_right (need_in script) (nodes_of_script script) other l a.1 b.1)
one_wrong wanted script (refused.Unneeded name) (refused.Unshown other l) is a b = absurd (unshown_not_right (need_in script) (nodes_of_script script) other l a.1 b.1)
one_wrong wanted script (refused.Unneeded name) (refused.Missing other) is a b = absurd (let least = b.2 in a.2 other least.holds)
one_wrong wanted script (refused.Unneeded name) (refused.Unneeded other) is a b = ap (λ x. refused.Unneeded x) (one_first (IsUnneeded script) name other a.3 b.3)
