-- A claim that passes all looks is accepted, and one that does not is refused as said.
use Rattle.std.proofs.Common.{◌≡◌, ℕ, ◌≤◌, ◌⊎◌, inl, inr, ◌↔◌, List, [], ◌∷◌, length, All, Contains, Option, IfSome, refl, sym, subst}
use Rattle.std.specs.List.{AllByRecursion, flat_map}
use Rattle.std.proofs.lemmas.List.Elements.{All-from_recursion, recursion_from_All, All-contains}
use Rattle.crp_plan.specs.Bay.{Problem, IsProblem}
use Rattle.crp_plan.specs.Faults.{IsPlanPath}
use Rattle.crp_bay.proofs.Members.{in_head, in_tail}
use Rattle.crp_tree.specs.Names.{IsFirst}
use Rattle.crp_tree.specs.Trees.{given_names, HasAtLeast}
use Rattle.crp_tree.proofs.Accepted.{nodes_are}
use Rattle.crp_tree.specs.Claims.{IsPart, IsAccepted, IsRootOrGiven, IsNeeded, nodes_in, given_by, names, Part}
use Rattle.crp_tree.proofs.Lists.{in_flat_map, from_map}
use Rattle.crp_tree.proofs.Certified.{distinct}
use Rattle.crp_cert.specs.declared.version.Version.{Version}
use Rattle.crp_cert.specs.declared.claim.Claim.{Claim}
use Rattle.crp_cert.specs.declared.script.Script.{Script}
use Rattle.crp_cert.specs.Text.{bound}
use Rattle.crp_cert.specs.Script.{IsScript, IsPartLine, claim_of}
use Rattle.crp_checker.specs.declared.refused.Refused.{Refused}
use Rattle.crp_checker.specs.declared.refused.Refused.TheVariants as refused
use Rattle.crp_checker.specs.Nodes.{need_of, IsRight}
use Rattle.crp_checker.specs.AcceptedTexts.{IsWanted, IsAcceptedScript}
use Rattle.crp_checker.specs.Refusals.{nodes_by_name, named_nodes, IsRightPart, need_in, AreRightParts, HasItsPlan, IsFirstWrongClaim}
use Rattle.crp_checker.specs.Needs.{IsWithoutPart, IsWithoutNeed, IsNamesRefusal}
use Rattle.crp_checker.proofs.Shapes.{in_place_from, high_from}
use Rattle.crp_checker.proofs.Under.{MeetNeedIn, high_under, accepted_under}

-- what a part line may say, with right nodes, has its shape, if the paths that it gives are short
part_is : (version : Version) (p : Problem) (need : List ℕ → ℕ) (part : Part) → IsProblem p → IsPartLine version p part → IsRightPart need (named_nodes p part) →
    ((g : List ℕ) → Contains (given_by p part) g → length g ≤ 8) → IsPart p part
part_is version p need part is line right short = record {
  short = line.short;
  place = line.place;
  is_at = line.is_at;
  shape = record {
    fits = line.fits;
    in_place = in_place_from p need part.name line.place part.tree is line.is_at
        (subst (AllByRecursion (IsRight need)) (nodes_are p part line.place is line.is_at) right)
        (λ g c. short g (subst (λ l. Contains (given_names l) g) (sym (nodes_are p part line.place is line.is_at)) c));
    not_given = line.not_given;
  };
}

-- so it is with all parts
parts_are : (version : Version) (p : Problem) (need : List ℕ → ℕ) (parts : List Part) → IsProblem p → AllByRecursion (IsPartLine version p) parts → AllByRecursion (IsRightPart need) (nodes_by_name p parts) →
    ((part : Part) (g : List ℕ) → Contains parts part → Contains (given_by p part) g → length g ≤ 8) → AllByRecursion (IsPart p) parts
parts_are version p need [] is lines right short = tt
parts_are version p need (part ∷ parts) is lines right short = (
  part_is version p need part is lines.0 right.0 (λ g c. short part g (in_head part parts) c),
  parts_are version p need parts is lines.1 right.1 (λ r g c d. short r g (in_tail part parts r c) d),
)

parts_met : (p : Problem) (need : List ℕ → ℕ) (parts : List Part) → AllByRecursion (IsRightPart need) (nodes_by_name p parts) → MeetNeedIn need p parts
parts_met p need [] right = tt
parts_met p need (part ∷ parts) right = (high_from need (nodes_in p part) right.0, parts_met p need parts right.1)

parts_high : (claim : Claim) (plan : Option (List ℕ)) (p : Problem) (parts : List Part) → MeetNeedIn (need_of claim plan) p parts → AllByRecursion (λ part. HasAtLeast (bound claim) (nodes_in p part)) parts
parts_high claim plan p [] met = tt
parts_high claim plan p (part ∷ parts) met = (high_under claim plan (nodes_in p part) met.0, parts_high claim plan p parts met.1)

-- a claim that passes all looks is accepted
pub accepted_from : (parsed : Script) (held given : List (List ℕ)) → IsScript parsed → IfSome parsed.head.plan (IsPlanPath parsed.head.problem) → HasItsPlan parsed.head.claim parsed.head.plan →
    AreRightParts parsed → held ≡ names parsed.parts → given ≡ flat_map (given_by parsed.head.problem) parsed.parts →
    ((name : List ℕ) → Contains held name ↔ IsRootOrGiven given name) → IsAcceptedScript parsed
accepted_from parsed held given readable plan its right e d same =
    let p : Problem = parsed.head.problem in
    let head = readable.is_head in
    let is : IsProblem p = head.problem in
    let lines = recursion_from_All (IsPartLine parsed.head.version p) parsed.parts readable.each_part in
    let needed : (name : List ℕ) → Contains (names parsed.parts) name ↔ IsNeeded p parsed.parts name =
    λ name. subst (λ l. Contains (names parsed.parts) name ↔ IsRootOrGiven l name) d (subst (λ l. Contains l name ↔ IsRootOrGiven given name) e (same name)) in
    let met = parts_met p (need_in parsed) parsed.parts right in
    let ok : IsAccepted (claim_of parsed) =
    record {
      is_problem = is;
      within_cap = head.claim;
      plan_is = plan;
      each_part = All-from_recursion (IsPart p) parsed.parts (parts_are parsed.head.version p (need_in parsed) parsed.parts is lines right (short_names parsed p readable.each_part needed));
      each_cut = All-from_recursion (λ part. HasAtLeast (bound parsed.head.claim) (nodes_in p part)) parsed.parts (parts_high parsed.head.claim parsed.head.plan p parsed.parts met);
      each_once = distinct (names parsed.parts) readable.rising;
      as_needed = needed;
    } in
    accepted_under parsed.head.claim (claim_of parsed) refl ok its met
  where
    short_names : (parsed : Script) (p : Problem) → All (IsPartLine parsed.head.version p) parsed.parts → ((name : List ℕ) → Contains (names parsed.parts) name ↔ IsNeeded p parsed.parts name) →
        (part : Part) (g : List ℕ) → Contains parsed.parts part → Contains (given_by p part) g → length g ≤ 8
    short_names parsed p each needed part g c d =
        let there : Contains (names parsed.parts) g = (needed g).1 (inr (in_flat_map (given_by p) parsed.parts part g c d)) in
        let y = from_map (λ r. r.name) parsed.parts g there in
        let r = All-contains (IsPartLine parsed.head.version p) parsed.parts y.0 each y.1 in
        subst (λ n. length n ≤ 8) y.2 r.short

-- names that are refused are refused as said
pub names_refused : (script : Script) (held given : List (List ℕ)) (r : Refused) → held ≡ names script.parts → given ≡ flat_map (given_by script.head.problem) script.parts → AreRightParts script →
    IfSome script.head.plan (IsPlanPath script.head.problem) → HasItsPlan script.head.claim script.head.plan → IsNamesRefusal held given r → (r ≡ refused.Memory) ⊎ ((wanted : Option Problem) → IsWanted wanted script.head.problem → IsFirstWrongClaim wanted script r)
names_refused script held given (refused.Missing name) e d right plan its w =
    inr (λ wanted is. (record { as_wanted = is; plan_is = plan; its_plan = its }, right, subst (λ l. IsFirst (IsWithoutPart (names script.parts) l) name) d (subst (λ l. IsFirst (IsWithoutPart l given) name) e w)))
names_refused script held given (refused.Unneeded name) e d right plan its w =
    inr (λ wanted is. (
      record { as_wanted = is; plan_is = plan; its_plan = its },
      right,
      subst (λ l. (other : List ℕ) → IsWithoutPart (names script.parts) l other → ⊥) d (subst (λ l. (other : List ℕ) → IsWithoutPart l given other → ⊥) e w.0),
      subst (λ l. IsFirst (IsWithoutNeed (names script.parts) l) name) d (subst (λ l. IsFirst (IsWithoutNeed l given) name) e w.1),
    ))
names_refused script held given refused.Memory e d right plan its w = inl refl
names_refused script held given (refused.Cert fault) e d right plan its w = absurd w
names_refused script held given refused.OtherProblem e d right plan its w = absurd w
names_refused script held given (refused.Plan fault) e d right plan its w = absurd w
names_refused script held given refused.NoFirstPlan e d right plan its w = absurd w
names_refused script held given (refused.Low part symbol) e d right plan its w = absurd w
names_refused script held given (refused.Finished part symbol) e d right plan its w = absurd w
names_refused script held given (refused.Unshown part symbol) e d right plan its w = absurd w
