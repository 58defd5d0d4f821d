-- Two scripts of one text are wrong or accepted alike.
use Rattle.std.proofs.Common.{◌≡◌, ◌≢◌, ℕ, ◌⊎◌, ⊎_elim, List, [], ◌∷◌, ◌++◌, map, length, Option, option_map, refl, sym, ap, ◌∙◌, subst}
use Rattle.std.specs.List.{AllByRecursion, flat_map}
use Rattle.std.proofs.lemmas.List.{append-nil}
use Rattle.std.proofs.lemmas.List.Elements.{recursion_from_All}
use Rattle.crp_plan.specs.Bay.{Problem, IsProblem, IsAt, cap}
use Rattle.crp_plan.proofs.Paths.{same_at}
use Rattle.crp_tree.specs.Names.{IsFirst}
use Rattle.crp_tree.specs.Trees.{nodes, given_names, Fits}
use Rattle.crp_tree.proofs.Accepted.{nodes_are}
use Rattle.crp_tree.specs.Claims.{Part, nodes_in, given_by, names}
use Rattle.crp_cert.specs.declared.head.Head.{Head}
use Rattle.crp_cert.specs.declared.version.Version.{Version}
use Rattle.crp_cert.specs.declared.script.Script.{Script}
use Rattle.crp_cert.specs.Script.{IsPartLine, IsScriptOf, symbols_of}
use Rattle.crp_cert.proofs.Scripts.{script_once}
use Rattle.crp_cert.proofs.ScriptVerdicts.{script_apart, one_script_fault}
use Rattle.crp_checker.specs.declared.verdict.Verdict.{Verdict}
use Rattle.crp_checker.specs.Verdicts.{IsVerdictUnder}
use Rattle.crp_checker.specs.Shown.{TextShows}
use Rattle.crp_checker.proofs.Meaning.{one_verdict_under}
use Rattle.crp_checker.specs.declared.refused.Refused.{Refused}
use Rattle.crp_checker.specs.declared.refused.Refused.TheVariants as refused
use Rattle.crp_checker.specs.Nodes.{need_of, IsLow, IsAtEnd, IsUnshown}
use Rattle.crp_checker.specs.AcceptedTexts.{IsAcceptedText, IsNotAccepted}
use Rattle.crp_checker.specs.Refusals.{nodes_by_name, named_nodes, IsRightPart, IsFirstWrongNode, IsFirstWrongClaim, IsRefusal}
use Rattle.crp_checker.specs.Needs.{IsWithoutPart, IsWithoutNeed}
use Rattle.crp_cert.proofs.Symbols.{one_tree}
use Rattle.crp_checker.proofs.OneRefusal.{not_wrong, one_wrong}

-- two parts with one name and the same symbols have the same nodes
same_part : (version : Version) (p : Problem) (a b : Part) → IsProblem p → IsPartLine version p a → IsPartLine version p b → a.name ≡ b.name → symbols_of a.tree ≡ symbols_of b.tree → nodes_in p a ≡ nodes_in p b
same_part version p a b is x y name text =
    let place : y.place ≡ x.place = same_at p a.name y.place x.place is (subst (λ n. IsAt p n y.place) (sym name) y.is_at) x.is_at in
    let there : IsAt p b.name x.place = subst (λ n. IsAt p n x.place) name x.is_at in
    let one = one_tree a.name x.place a.tree b.tree [] [] x.fits (subst (λ s. Fits s b.tree) place y.fits) (append-nil (symbols_of a.tree) ∙ text ∙ sym (append-nil (symbols_of b.tree))) in
    nodes_are p a x.place is x.is_at ∙ one.0 ∙ ap (λ n. nodes n x.place b.tree) name ∙ sym (nodes_are p b x.place is there)

-- names, nodes and given names are the same for parts with the same names and symbols
same_parts : (version : Version) (p : Problem) (parts others : List Part) → IsProblem p → AllByRecursion (IsPartLine version p) parts → AllByRecursion (IsPartLine version p) others → names parts ≡ names others → map (λ part. symbols_of part.tree) parts ≡ map (λ part. symbols_of part.tree) others →
    (nodes_by_name p parts ≡ nodes_by_name p others) × (flat_map (given_by p) parts ≡ flat_map (given_by p) others)
same_parts version p [] [] is x y name text = (refl, refl)
same_parts version p [] (b ∷ others) is x y name text = absurd (cc)
same_parts version p (a ∷ parts) [] is x y name text = absurd (cc)
same_parts version p (a ∷ parts) (b ∷ others) is x y name text =
    let first_name : a.name ≡ b.name = cc in
    let first_text : symbols_of a.tree ≡ symbols_of b.tree = cc in
    let more_names : names parts ≡ names others = cc in
    let more_text : map (λ part. symbols_of part.tree) parts ≡ map (λ part. symbols_of part.tree) others = cc in
    let first = same_part version p a b is x.0 y.0 first_name first_text in
    let own : named_nodes p a ≡ named_nodes p b = ap (λ n. record { name = n; nodes = nodes_in p a }) first_name ∙ ap (λ l. record { name = b.name; nodes = l }) first in
    let more = same_parts version p parts others is x.1 y.1 more_names more_text in (
      ap (λ w. w ∷ nodes_by_name p parts) own ∙ ap (λ l. named_nodes p b ∷ l) more.0,
      ap (λ l. l ++ flat_map (given_by p) parts) (ap given_names first) ∙ ap (λ l. given_by p b ++ l) more.1,
    )

-- what is wrong with a claim depends on its parts by their names and nodes and by what they give
pub wrong_too : (wanted : Option Problem) (head : Head) (parts others : List Part) (r : Refused) → nodes_by_name head.problem parts ≡ nodes_by_name head.problem others → names parts ≡ names others →
    flat_map (given_by head.problem) parts ≡ flat_map (given_by head.problem) others →
    IsFirstWrongClaim wanted (record { head = head; parts = parts }) r → IsFirstWrongClaim wanted (record { head = head; parts = others }) r
wrong_too wanted head parts others (refused.Cert fault) w n g k = k
wrong_too wanted head parts others refused.OtherProblem w n g k = k
wrong_too wanted head parts others (refused.Plan fault) w n g k = k
wrong_too wanted head parts others refused.NoFirstPlan w n g k = k
wrong_too wanted head parts others (refused.Low name symbol) w n g k =
    let ok = k.0 in
    (record { as_wanted = ok.as_wanted; plan_is = ok.plan_is; its_plan = ok.its_plan }, subst (λ l. IsFirstWrongNode (need_of head.claim head.plan) (IsLow (need_of head.claim head.plan)) l name symbol) w k.1)
wrong_too wanted head parts others (refused.Finished name symbol) w n g k =
    let ok = k.0 in
    (record { as_wanted = ok.as_wanted; plan_is = ok.plan_is; its_plan = ok.its_plan }, subst (λ l. IsFirstWrongNode (need_of head.claim head.plan) IsAtEnd l name symbol) w k.1)
wrong_too wanted head parts others (refused.Unshown name symbol) w n g k =
    let ok = k.0 in
    (record { as_wanted = ok.as_wanted; plan_is = ok.plan_is; its_plan = ok.its_plan }, subst (λ l. IsFirstWrongNode (need_of head.claim head.plan) (IsUnshown (need_of head.claim head.plan)) l name symbol) w k.1)
wrong_too wanted head parts others (refused.Missing name) w n g k =
    let ok = k.0 in (
      record { as_wanted = ok.as_wanted; plan_is = ok.plan_is; its_plan = ok.its_plan },
      subst (AllByRecursion (IsRightPart (need_of head.claim head.plan))) w k.1,
      subst (λ l. IsFirst (IsWithoutPart (names others) l) name) g (subst (λ l. IsFirst (IsWithoutPart l (flat_map (given_by head.problem) parts)) name) n k.2),
    )
wrong_too wanted head parts others (refused.Unneeded name) w n g k =
    let ok = k.0 in (
      record { as_wanted = ok.as_wanted; plan_is = ok.plan_is; its_plan = ok.its_plan },
      subst (AllByRecursion (IsRightPart (need_of head.claim head.plan))) w k.1,
      subst (λ l. (other : List ℕ) → IsWithoutPart (names others) l other → ⊥) g (subst (λ l. (other : List ℕ) → IsWithoutPart l (flat_map (given_by head.problem) parts) other → ⊥) n k.2),
      subst (λ l. IsFirst (IsWithoutNeed (names others) l) name) g (subst (λ l. IsFirst (IsWithoutNeed l (flat_map (given_by head.problem) parts)) name) n k.3),
    )
wrong_too wanted head parts others refused.Memory w n g k = k

-- so what is wrong with the claim of one is wrong with that of the other
pub wrong_alike : (wanted : Option Problem) (bytes : List ℕ) (a b : Script) (r : Refused) → IsScriptOf bytes a → IsScriptOf bytes b → IsFirstWrongClaim wanted b r → IsFirstWrongClaim wanted a r
wrong_alike wanted bytes a b r x y w =
    let same = script_once bytes a b x y in
    let one = x.0 in
    let other = y.0 in
    let head = one.is_head in
    let p : Problem = a.head.problem in
    let each = recursion_from_All (IsPartLine a.head.version p) a.parts one.each_part in
    let each' = subst (λ h. AllByRecursion (IsPartLine h.version h.problem) b.parts) (sym same.0) (recursion_from_All (IsPartLine b.head.version b.head.problem) b.parts other.each_part) in
    let parts = same_parts a.head.version p b.parts a.parts head.problem each' each (sym same.1) (sym same.2) in
    wrong_too wanted a.head b.parts a.parts r parts.0 (sym same.1) parts.1
    (subst (λ h. IsFirstWrongClaim wanted (record { head = h; parts = b.parts }) r) (sym same.0) w)

-- a text that is accepted is not refused
pub not_both : (wanted : Option Problem) (bytes : List ℕ) (parsed : Script) (r : Refused) → IsAcceptedText wanted bytes parsed → IsRefusal wanted bytes r → ⊥
not_both wanted bytes parsed (refused.Cert fault) known w = script_apart bytes parsed fault known.is_text w
not_both wanted bytes parsed refused.OtherProblem known w = not_wrong wanted parsed refused.OtherProblem known.accepted known.as_wanted (wrong_alike wanted bytes parsed w.0 refused.OtherProblem known.is_text w.1 w.2)
not_both wanted bytes parsed (refused.Plan fault) known w = not_wrong wanted parsed (refused.Plan fault) known.accepted known.as_wanted (wrong_alike wanted bytes parsed w.0 (refused.Plan fault) known.is_text w.1 w.2)
not_both wanted bytes parsed refused.NoFirstPlan known w = not_wrong wanted parsed refused.NoFirstPlan known.accepted known.as_wanted (wrong_alike wanted bytes parsed w.0 refused.NoFirstPlan known.is_text w.1 w.2)
not_both wanted bytes parsed (refused.Low name k) known w = not_wrong wanted parsed (refused.Low name k) known.accepted known.as_wanted (wrong_alike wanted bytes parsed w.0 (refused.Low name k) known.is_text w.1 w.2)
not_both wanted bytes parsed (refused.Finished name k) known w = not_wrong wanted parsed (refused.Finished name k) known.accepted known.as_wanted (wrong_alike wanted bytes parsed w.0 (refused.Finished name k) known.is_text w.1 w.2)
not_both wanted bytes parsed (refused.Unshown name k) known w = not_wrong wanted parsed (refused.Unshown name k) known.accepted known.as_wanted (wrong_alike wanted bytes parsed w.0 (refused.Unshown name k) known.is_text w.1 w.2)
not_both wanted bytes parsed (refused.Missing name) known w = not_wrong wanted parsed (refused.Missing name) known.accepted known.as_wanted (wrong_alike wanted bytes parsed w.0 (refused.Missing name) known.is_text w.1 w.2)
not_both wanted bytes parsed (refused.Unneeded name) known w = not_wrong wanted parsed (refused.Unneeded name) known.accepted known.as_wanted (wrong_alike wanted bytes parsed w.0 (refused.Unneeded name) known.is_text w.1 w.2)
not_both wanted bytes parsed refused.Memory known w = w.2

-- two such refusals of a text are the same
one_of_two : (wanted : Option Problem) (bytes : List ℕ) (r q : Refused) (a b : Script) → IsScriptOf bytes a → IsScriptOf bytes b → IsFirstWrongClaim wanted a r → IsFirstWrongClaim wanted b q → r ≡ q
one_of_two wanted bytes r q a b x y w v =
    let readable = x.0 in
    let head = readable.is_head in
    one_wrong wanted a r q head.problem w (wrong_alike wanted bytes a b q x y v)

-- so where a text is refused, and memory is not wanted, it is not accepted
pub rejected : (wanted : Option Problem) (bytes : List ℕ) (r : Refused) → (r ≡ refused.Memory) ⊎ IsRefusal wanted bytes r → r ≢ refused.Memory → IsNotAccepted wanted bytes
rejected wanted bytes r k other parsed known = ⊎_elim (λ e. other e) (λ w. not_both wanted bytes parsed r known w) k

-- refusals of one text are the same
pub one_refusal : (wanted : Option Problem) (bytes : List ℕ) (r q : Refused) → IsRefusal wanted bytes r → IsRefusal wanted bytes q → r ≡ q
one_refusal wanted bytes (refused.Cert f) (refused.Cert g) a b = ap (λ x. refused.Cert x) (one_script_fault bytes f g a b)
one_refusal wanted bytes (refused.Cert f) q a b = absurd (script_apart bytes b.0 f b.1 a)
one_refusal wanted bytes r (refused.Cert g) a b = absurd (script_apart bytes a.0 g a.1 b)
one_refusal wanted bytes r q a b = one_of_two wanted bytes r q a.0 b.0 a.1 b.1 a.2 b.2

-- what one text shows is one verdict
pub one_shown : (wanted : Option Problem) (bytes : List ℕ) (verdict other : Verdict) → TextShows wanted bytes verdict → TextShows wanted bytes other → verdict ≡ other
one_shown wanted bytes verdict other a b =
    let known = a.1 in
    let known' = b.1 in
    let same = script_once bytes a.0 b.0 known.is_text known'.is_text in
    one_verdict_under _ _ _ verdict other a.2 (subst (λ h. IsVerdictUnder h.claim (cap h.problem) (option_map length h.plan) other) (sym same.0) b.2)
