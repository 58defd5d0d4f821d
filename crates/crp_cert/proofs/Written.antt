-- What is written: lists of bytes joined one after the other, and when a written text can be read.
use Rattle.std.proofs.Common.{◌≡◌, ℕ, zero, suc, ◌-◌, ◌≤◌, ◌∙◌, Bool, true, false, cond, ◌||◌, List, [], ◌∷◌, ◌++◌, length, take, slice_get, map, AllPairs, Option, Some, None, IfSome, refl, sym, ap, ap₂, subst, arith, append_assoc, append-nil}
use Rattle.std.specs.List.{AllByRecursion, flat_map, list_any}
use Rattle.std.proofs.lemmas.List.{length-map}
use Rattle.std.proofs.lemmas.List.Folds.{flat_map-map}
use Rattle.std.proofs.lemmas.List.Elements.{All-from_recursion}
use Rattle.std.proofs.lemmas.Option.{none-some, same_Some, slice_get_within}
use Rattle.crp_plan.specs.declared.moves.Move.{Move}
use Rattle.crp_plan.specs.declared.moves.Move.TheVariants.{Shift, Take}
use Rattle.crp_plan.specs.BayNames.{YardBay, IsYardBay}
use Rattle.crp_plan.specs.Bay.{Problem, IsProblem, Position, IsShifted, IsTaken, Runs, path_of}
use Rattle.crp_plan.specs.Faults.{IsPlanPath}
use Rattle.crp_plan.specs.Plans.{ProblemPath}
use Rattle.crp_plan.proofs.Buried.{below_cap}
use Rattle.crp_plan.proofs.Covered.{relocations-path}
use Rattle.crp_plan.proofs.Tallies.{cap_low}
use Rattle.crp_tree.specs.Claims.{Part, IsPart, names, Claimed, path_in}
use Rattle.crp_tree.specs.Parts.{ProblemPart, Certificate, IsCertificate, part_of, claimed}
use Rattle.crp_tree.proofs.Certified.{same_names}
use Rattle.crp_cert.specs.declared.claim.Claim.{Claim}
use Rattle.crp_cert.specs.declared.claim.Claim.TheVariants.{AtLeast, First}
use Rattle.crp_cert.specs.declared.version.Version.{Version}
use Rattle.crp_cert.specs.declared.version.Version.TheVariants.{One, Two, Three}
use Rattle.crp_cert.specs.Text.{AreRows, title_line, bay_line, size_line, stated_heights, size_of, row_line, claim_line, plan_line, head_text, bound, CanState, CanClaim}
use Rattle.std.proofs.lemmas.Bool.{or_parts}
use Rattle.crp_tree.specs.Tree.{Tree}
use Rattle.crp_cert.specs.Script.{has_reasons, CanSpell, IsPartLine, IsScript, part_line, end_line}
use Rattle.crp_cert.proofs.Heights.{written_can}
use Rattle.crp_cert.specs.Writing.{version_for, have_reasons, version_under, head_for, script_for, first_script_for, text_under, CanBeSpelled}
use Rattle.crp_tree.specs.Names.{Precedes}

-- ---- lists of bytes

-- the text of one thing more follows those of the things before it
pub one_more : {X : Type 0} (f : X → List ℕ) (xs : List X) (i : ℕ) (x : X) → slice_get xs i ≡ Some x → flat_map f (take (suc i) xs) ≡ flat_map f (take i xs) ++ f x
one_more f [] i x e = absurd (none-some x e)
one_more f (y ∷ ys) zero x e = append-nil (f y) ∙ ap f (same_Some y x e)
one_more f (y ∷ ys) (suc i) x e = ap (λ l. f y ++ l) (one_more f ys i x e) ∙ sym (append_assoc (f y) (flat_map f (take i ys)) (f x))

-- the lines of a head, each behind those before it, make its text
pub head_joined : (bay : YardBay) (p : Problem) (claim : Claim) (plan : Option ProblemPath) (version : Version) (old titled named sized high parsed claimed all : List ℕ) → titled ≡ old ++ title_line version →
    named ≡ titled ++ bay_line bay → sized ≡ named ++ size_line (size_of p) → high ≡ sized ++ stated_heights version p.heights → parsed ≡ high ++ flat_map row_line p.stacks → claimed ≡ parsed ++ claim_line claim →
    all ≡ claimed ++ plan_line (path_in plan) → all ≡ old ++ head_text (head_for version bay p claim plan)
head_joined bay p claim plan version old titled named sized high parsed claimed' all et en es eh er ec ea =
    let name : List ℕ = bay_line bay in let size : List ℕ = size_line (size_of p) in let rows : List ℕ = flat_map row_line p.stacks in
    let low : List ℕ = claim_line claim in let last : List ℕ = plan_line (path_in plan) in
    ea ∙ ap (λ l. l ++ last) (ec ∙ ap (λ l. l ++ low) (er ∙ ap (λ l. l ++ rows) (eh ∙ ap (λ l. l ++ stated_heights version p.heights) (es ∙ ap (λ l. l ++ size) (en ∙ ap (λ l. l ++ name) et)))))
    ∙ joined old (title_line version) name size (stated_heights version p.heights) rows low last
  where
    joined : (o t b s h r c p : List ℕ) → ((((((o ++ t) ++ b) ++ s) ++ h) ++ r) ++ c) ++ p ≡ o ++ (t ++ (b ++ (s ++ (h ++ (r ++ (c ++ p))))))
    joined o t b s h r c p = simp append_assoc

-- the head, the lines of the parts and the last line make the text of a certificate
pub text_joined : (bay : YardBay) (p : Problem) (cert : Certificate) (claim : Claim) (plan : Option ProblemPath) (parts : List ProblemPart) (none head lines text : List ℕ) → parts ≡ cert.parts → none ≡ [] →
    head ≡ none ++ head_text (head_for (version_under p claim (map part_of cert.parts)) bay p claim plan) → lines ≡ head ++ flat_map (λ part. part_line (part_of part)) parts → text ≡ lines ++ end_line (length cert.parts) →
    text ≡ text_under bay p cert claim plan
text_joined bay p cert claim plan parts none head lines text ep en eh es et =
    let parsed : List Part = map part_of cert.parts in
    let own : List ℕ = head_text (head_for (version_under p claim parsed) bay p claim plan) in
    let front : head ≡ own = eh ∙ ap (λ l. l ++ own) en in
    let middle : flat_map (λ part. part_line (part_of part)) parts ≡ flat_map part_line parsed = ap (flat_map (λ part. part_line (part_of part))) ep ∙ sym (flat_map-map part_line part_of cert.parts) in
    let end : end_line (length cert.parts) ≡ end_line (length parsed) = ap end_line (sym (length-map cert.parts part_of)) in
    et ∙ ap₂ (λ a b. a ++ b) (es ∙ ap₂ (λ a b. a ++ b) front middle) end
    ∙ append_assoc own (flat_map part_line parsed) (end_line (length parsed))

-- ---- what is written can be read

-- a part is one that a part line may say, in a version that can spell its tree
line_of_part : (version : Version) (p : Problem) (part : Part) → CanSpell version part.tree → IsPart p part → IsPartLine version p part
line_of_part version p part can is =
    let shape = is.shape in
    record {
      short = is.short;
      place = is.place;
      is_at = is.is_at;
      fits = shape.fits;
      not_given = shape.not_given;
      can_spell = can;
    }

-- relocations go to rows of the bay, which has 12 at most
low_rows : (s t : Position) (moves : List Move) → length s.heights ≤ 12 → Runs s moves t → AllByRecursion (λ row. row ≤ 99) (path_of moves)
low_rows s t [] few r = tt
low_rows s t (Shift from to ∷ moves) few r =
    let k : IsShifted s from to r.0 = r.1 in
    let there = slice_get_within s.heights (to - 1) k.height k.limit in
    (omega arith, low_rows r.0 t moves (subst (λ u. length u.heights ≤ 12) (sym k.after) few) r.2)
low_rows s t (Take row ∷ moves) few r =
    let k : IsTaken s row r.0 = r.1 in
    low_rows r.0 t moves (subst (λ u. length u.heights ≤ 12) (sym k.after) few) r.2

-- the path of a plan is one that a plan line may say
path_rows : (p : Problem) (rows : List ℕ) → IsProblem p → IsPlanPath p rows → AreRows rows
path_rows p rows ok h =
    let plan = h.1 in
    let low = low_rows _ _ h.0 ok.few_rows plan.1 in (
      omega (arith, below_cap p h.0 ok plan, cap_low p ok, relocations-path h.0, ap length h.2),
      All-from_recursion (λ row. row ≤ 99) rows (subst (AllByRecursion (λ row. row ≤ 99)) h.2 low),
    )

plan_rows : (p : Problem) (plan : Option (List ℕ)) → IsProblem p → IfSome plan (IsPlanPath p) → IfSome plan AreRows
plan_rows p None ok h = tt
plan_rows p (Some rows) ok h = path_rows p rows ok h

-- some cut of the parts of a certificate has its reasons
pub looked_at : (parts : List ProblemPart) → have_reasons (map part_of parts) ≡ list_any (λ part. has_reasons part.tree) parts
looked_at [] = refl
looked_at (part ∷ parts) = ap (λ x. has_reasons part.tree || x) (looked_at parts)

-- what the version of a claim with parts has to be able to do, by whether some cut of them has its reasons
record Suffices (c : Claimed) (claim : Claim) (version : Version) : Type 0 where
  can_state : CanState version c.problem
  can_claim : CanClaim version claim
  can_spell : AllByRecursion (λ (part : Part). CanSpell version part.tree) c.parts

spells_plain : (version : Version) (parts : List Part) → ((tree : Tree) → has_reasons tree ≡ false → CanSpell version tree) → have_reasons parts ≡ false → AllByRecursion (λ (part : Part). CanSpell version part.tree) parts
spells_plain version [] plain e = tt
spells_plain version (part ∷ parts) plain e = let both = or_parts (has_reasons part.tree) (have_reasons parts) e in (plain part.tree both.0, spells_plain version parts plain both.1)

spells_all : (parts : List Part) → AllByRecursion (λ (part : Part). CanSpell Three part.tree) parts
spells_all [] = tt
spells_all (part ∷ parts) = (tt, spells_all parts)

plain_in : (version : Version) (tree : Tree) → has_reasons tree ≡ false → CanSpell version tree
plain_in One tree e = e
plain_in Two tree e = e
plain_in Three tree e = tt

-- each version has a lower bound
claims_bound : (version : Version) (least : ℕ) → CanClaim version (AtLeast least)
claims_bound One least = tt
claims_bound Two least = tt
claims_bound Three least = tt

-- the version that is written suffices
suffices : (c : Claimed) (claim : Claim) → IsProblem c.problem → Suffices c claim (version_under c.problem claim c.parts)
suffices c (AtLeast least) is = by_reasons (have_reasons c.parts) refl
  where
    by_reasons : (b : Bool) → have_reasons c.parts ≡ b → Suffices c (AtLeast least) (cond b Three (version_for c.problem))
    by_reasons true e = record { can_state = tt; can_claim = tt; can_spell = spells_all c.parts }
    by_reasons false e = record { can_state = written_can c.problem is; can_claim = claims_bound (version_for c.problem) least; can_spell = spells_plain (version_for c.problem) c.parts (plain_in (version_for c.problem)) e }
suffices c (First least) is = by_reasons (have_reasons c.parts) refl
  where
    by_reasons : (b : Bool) → have_reasons c.parts ≡ b → Suffices c (First least) (cond b Three Two)
    by_reasons true e = record { can_state = tt; can_claim = tt; can_spell = spells_all c.parts }
    by_reasons false e = record { can_state = tt; can_claim = tt; can_spell = spells_plain Two c.parts (plain_in Two) e }

-- a claim that can be stated is stated by a script of that version
is_script : (bay : YardBay) (c : Claimed) (claim : Claim) → IsYardBay bay → CanBeSpelled c → bound claim ≡ c.lower →
    IsScript (record { head = record { version = version_under c.problem claim c.parts; bay = bay; problem = c.problem; claim = claim; plan = c.plan }; parts = c.parts })
is_script bay c claim name t same =
    let ok = t.accepted in
    let is_problem = ok.is_problem in
    let can = suffices c claim is_problem in
    let each_part = ok.each_part in
    record {
      is_head = record {
        name = name;
        problem = is_problem;
        can_state = can.can_state;
        can_claim = can.can_claim;
        claim = (let low = ok.within_cap in omega arith);
        plan = plan_rows c.problem c.plan is_problem ok.plan_is;
      };
      each_part = λ k d lt. line_of_part (version_under c.problem claim c.parts) c.problem _ (All-from_recursion (λ (part : Part). CanSpell (version_under c.problem claim c.parts) part.tree) c.parts can.can_spell k d lt) (each_part k d lt);
      rising = t.rising;
    }

pub spelled_is_script : (bay : YardBay) (c : Claimed) → IsYardBay bay → CanBeSpelled c → IsScript (script_for bay c)
spelled_is_script bay c name t = is_script bay c (AtLeast c.lower) name t refl

-- and by one that claims its plan to be the first best one
pub first_is_script : (bay : YardBay) (c : Claimed) → IsYardBay bay → CanBeSpelled c → IsScript (first_script_for bay c)
first_is_script bay c name t = is_script bay c (First c.lower) name t refl

-- the parts of a certificate rise by name in what it claims
pub claimed_rise : (p : Problem) (cert : Certificate) (plan : Option (List ℕ)) → IsCertificate cert → AllPairs Precedes (names (claimed p cert plan).parts)
claimed_rise p cert plan is = subst (AllPairs Precedes) (same_names cert.parts) is.rising
