-- Texts that are followed to their end.
use Rattle.std.proofs.Common.{arith, false, true, nat_eq, Bool, ◌≡◌, ◌↔◌, ℕ, zero, suc, ◌+◌, ◌<◌, IsTrue, List, [], ◌∷◌, ◌++◌, length, take, drop, get_or, refl, sym, ap, ◌∙◌, subst, append_assoc, append-nil}
use Rattle.std.proofs.lemmas.List.{take_more, take_all}
use Rattle.std.specs.Bool.{OnTrue}
use Rattle.std.proofs.lemmas.Bool.{eqb-true}
use Rattle.crp_plan.specs.Bay.{Position}
use Rattle.crp_thinning.specs.Symbols.{Closes}
use Rattle.crp_thinning.specs.declared.path.Path.{Path}
use Rattle.crp_thinning.specs.declared.reading.Reading.{Reading}
use Rattle.crp_thinning.specs.declared.stage.Stage.{Stage}
use Rattle.crp_thinning.specs.declared.stage.Stage.TheVariants as stage
use Rattle.crp_thinning.specs.Stages.{is_done}
use Rattle.crp_thinning.specs.Owed.{Following, Trees, Refused, Owes, Takes, EndsFamily}
use Rattle.crp_thinning.specs.Branches.{task, behind, following, IsKept}
use Rattle.crp_thinning.proofs.Opened.{IsFresh, by_family, some_symbol, some_end, one_tree}

-- whether nothing is to come
pub ended : (st : Stage) (path : Path) (reading : Reading) → IsKept st path reading → IsTrue (is_done st) ↔ Takes (following st path reading) []
ended stage.Tree path reading k = (λ t. cc, λ o. absurd (some_symbol path.place.place path.need (behind path) o))
ended stage.Family path reading k = (λ t. cc, λ o. absurd (some_end path.place.place reading (behind path) k.1 o))
ended stage.Done path reading k = (λ t. refl, λ o. refl)
ended stage.Refused path reading k = (λ t. cc, λ o. absurd o)

pub both : (P Q R : Type 0) → P ↔ Q → Q ↔ R → P ↔ R
both P Q R e f = (λ p. f.0 (e.0 p), λ r. e.1 (f.1 r))

-- one symbol more
pub one_more : (symbols text : List ℕ) (i : ℕ) → i < length symbols → take i symbols ++ (get_or symbols i 0 ∷ text) ≡ take (i + 1) symbols ++ text
one_more symbols text i lt = sym (ap (λ l. l ++ text) (take_more symbols i 0 lt) ∙ append_assoc (take i symbols) (get_or symbols i 0 ∷ []) text)

pub goes_on : (old now new : Following) (symbols : List ℕ) (i : ℕ) → i < length symbols → ((text : List ℕ) → Takes now text ↔ Takes old (take i symbols ++ text)) → ((text : List ℕ) → Takes new text ↔ Takes now (get_or symbols i 0 ∷ text)) →
    (text : List ℕ) → Takes new text ↔ Takes old (take (i + 1) symbols ++ text)
goes_on old now new symbols i lt inv step text =
    let k = both (Takes new text) (Takes now (get_or symbols i 0 ∷ text)) (Takes old (take i symbols ++ (get_or symbols i 0 ∷ text))) (step text) (inv (get_or symbols i 0 ∷ text)) in
    subst (λ l. Takes new text ↔ Takes old l) (one_more symbols text i lt) k

rejoined : (i : ℕ) (xs : List ℕ) → take i xs ++ drop i xs ≡ xs
rejoined zero xs = refl
rejoined (suc i) [] = refl
rejoined (suc i) (x ∷ xs) = ap (λ l. x ∷ l) (rejoined i xs)

-- where nothing fits any more
pub stays_refused : (old new : Following) (symbols : List ℕ) (i : ℕ) → new ≡ Refused → ((text : List ℕ) → Takes new text ↔ Takes old (take i symbols ++ text)) → (text : List ℕ) → Takes new text ↔ Takes old (symbols ++ text)
stays_refused old new symbols i e inv text =
    let whole : take i symbols ++ (drop i symbols ++ text) ≡ symbols ++ text = sym (append_assoc (take i symbols) (drop i symbols) text) ∙ ap (λ l. l ++ text) (rejoined i symbols) in
    let none : Takes new (drop i symbols ++ text) → ⊥ = λ t. subst (λ (f : Following). Takes f (drop i symbols ++ text)) e t in
    let k = inv (drop i symbols ++ text) in
    (λ t. absurd (subst (λ (f : Following). Takes f text) e t), λ o. absurd (none (k.1 (subst (Takes old) (sym whole) o))))

-- a whole text
pub whole : (start new : Following) (s : Position) (need : ℕ) (symbols : List ℕ) → start ≡ Trees (task s need ∷ []) → ((text : List ℕ) → Takes new text ↔ Takes start (symbols ++ text)) → Takes new [] ↔ Closes s need symbols
whole start new s need symbols e all =
    let here : Takes start (symbols ++ []) ↔ Closes s need symbols = subst (λ (f : Following). Takes f (symbols ++ []) ↔ Closes s need symbols) (sym e) (subst (λ l. Owes (task s need ∷ []) l ↔ Closes s need symbols) (sym (append-nil symbols)) (one_tree s need symbols)) in
    both (Takes new []) (Takes start (symbols ++ [])) (Closes s need symbols) (all []) here

pub none_whole : (start new : Following) (s : Position) (need : ℕ) (symbols : List ℕ) → start ≡ Trees (task s need ∷ []) → ((text : List ℕ) → Takes new text ↔ Takes start (symbols ++ text)) → new ≡ Refused → Closes s need symbols → ⊥
none_whole start new s need symbols e all none k = subst (λ (f : Following). Takes f []) none ((whole start new s need symbols e all).1 k)

-- ---- a family that is checked

on_true_from : (P : Type 0) (b : Bool) → (b ≡ true → P) → OnTrue b P
on_true_from P true f = f refl
on_true_from P false f = tt

-- the last symbol of a family whose chains gain what the blocking bound leaves
pub family_closes : (s : Position) (need : ℕ) (text : List ℕ) (first r : Reading) (i : ℕ) → IsFresh s need first → i < length text → ((more : List ℕ) → EndsFamily s r [] more → EndsFamily s first [] (take i text ++ more)) → EndsFamily s r [] (get_or text i 0 ∷ []) →
    OnTrue (nat_eq (i + 1) (length text)) (Closes s need (84 ∷ text))
family_closes s need text first r i fresh lt back k = on_true_from (Closes s need (84 ∷ text)) (nat_eq (i + 1) (length text)) (λ t.
    let all : take i text ++ get_or text i 0 ∷ [] ≡ text = sym (take_more text i 0 lt) ∙ take_all (i + 1) text (omega (arith, eqb-true (i + 1) (length text) t)) in
    let whole_family : EndsFamily s first [] text = subst (EndsFamily s first []) all (back (get_or text i 0 ∷ []) k) in
    (one_tree s need (84 ∷ text)).0 ((by_family s need [] text first fresh).0 whole_family))
