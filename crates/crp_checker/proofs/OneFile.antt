-- A file shows one list of verdicts, or is refused for one reason at one certificate.
use Rattle.std.proofs.Common.{◌≡◌, ℕ, ◌+◌, List, [], ◌∷◌, ◌++◌, length, None, refl, sym, ap, ◌∙◌, subst}
use Rattle.crp_plan.specs.BayNames.{YardBay}
use Rattle.crp_cert.specs.declared.head.Head.{Head}
use Rattle.crp_cert.proofs.Scripts.{script_once}
use Rattle.crp_checker.specs.declared.verdict.Verdict.{Verdict}
use Rattle.crp_checker.specs.declared.refused.Refused.{Refused}
use Rattle.crp_checker.specs.Shown.{TextShowsFor}
use Rattle.crp_checker.specs.Refusals.{IsRefusal}
use Rattle.crp_checker.specs.Files.{BeginsWithTexts, ShowEach, FileShows}
use Rattle.crp_checker.proofs.OneCut.{first_text, some_text, one_cut_only}
use Rattle.crp_checker.proofs.SameText.{not_both, one_shown, one_refusal}

-- what one text shows is one thing, of one bay
one_parsed : (text : List ℕ) (a b : YardBay × Verdict) → TextShowsFor text a.0 a.1 → TextShowsFor text b.0 b.1 → a ≡ b
one_parsed text a b s t =
    let x = s.1 in let y = t.1 in
    let heads = script_once text s.0 t.0 x.is_text y.is_text in
    let bays : a.0 ≡ b.0 = sym s.2 ∙ ap (λ (h : Head). h.bay) heads.0 ∙ t.2 in
    let verdicts : a.1 ≡ b.1 = one_shown None text a.1 b.1 (s.0, s.1, s.3) (t.0, t.1, t.3) in
    λ k. (bays k, verdicts k)

-- so it is with several texts
one_each : (texts : List (List ℕ)) (xs ys : List (YardBay × Verdict)) → ShowEach texts xs → ShowEach texts ys → xs ≡ ys
one_each [] [] [] s t = refl
one_each [] [] (b ∷ ys) s t = absurd t
one_each [] (a ∷ xs) ys s t = absurd s
one_each (text ∷ texts) [] ys s t = absurd s
one_each (text ∷ texts) (a ∷ xs) [] s t = absurd t
one_each (text ∷ texts) (a ∷ xs) (b ∷ ys) s t =
    let first = one_parsed text a b s.0 t.0 in
    let rest = one_each texts xs ys s.1 t.1 in
    λ k. first k ∷ rest k

-- a file shows one list
pub one_list : (file : List ℕ) (xs ys : List (YardBay × Verdict)) → FileShows file xs → FileShows file ys → xs ≡ ys
one_list file xs ys s t =
    let same = one_cut_only file s.0 t.0 s.1 t.1 in
    one_each t.0 xs ys (subst (λ l. ShowEach l xs) same s.2) t.2

-- a text that shows something is not refused
shown_not_refused : (text : List ℕ) (a : YardBay × Verdict) (r : Refused) → TextShowsFor text a.0 a.1 → IsRefusal None text r → ⊥
shown_not_refused text a r s why = not_both None text s.0 r s.1 why

-- the texts of a file that shows something are not those before a text that is refused, and that text
pub not_shown : (file : List ℕ) (texts others : List (List ℕ)) (text after : List ℕ) (xs ys : List (YardBay × Verdict)) (r : Refused) → BeginsWithTexts file texts []
    → BeginsWithTexts file (others ++ text ∷ []) after → ShowEach texts xs → ShowEach others ys → IsRefusal None text r → ⊥
not_shown file [] [] text after xs ys r x y s t why = some_text text y.0 y.2 (sym y.1 ∙ x)
not_shown file [] (u ∷ others) text after xs ys r x y s t why = some_text u y.0 y.2 (sym y.1 ∙ x)
not_shown file (v ∷ texts) others text after [] ys r x y s t why = absurd s
not_shown file (v ∷ texts) [] text after (a ∷ xs) ys r x y s t why =
    let first = first_text v text x.0 y.0 x.2 y.2 (sym x.1 ∙ y.1) in
    shown_not_refused text a r (subst (λ l. TextShowsFor l a.0 a.1) first.0 s.0) why
not_shown file (v ∷ texts) (u ∷ others) text after (a ∷ xs) [] r x y s t why = absurd t
not_shown file (v ∷ texts) (u ∷ others) text after (a ∷ xs) (b ∷ ys) r x y s t why =
    let first = first_text v u x.0 y.0 x.2 y.2 (sym x.1 ∙ y.1) in
    not_shown x.0 texts others text after xs ys r x.3 (subst (λ l. BeginsWithTexts l (others ++ text ∷ []) after) (sym first.1) y.3) s.1 t.1 why

-- two texts of a file that are refused behind what is shown are one, behind the same texts
pub one_place : (file : List ℕ) (texts others : List (List ℕ)) (text other after end : List ℕ) (xs ys : List (YardBay × Verdict)) (r q : Refused) → BeginsWithTexts file (texts ++ text ∷ []) after
    → BeginsWithTexts file (others ++ other ∷ []) end → ShowEach texts xs → ShowEach others ys → IsRefusal None text r → IsRefusal None other q → (texts ≡ others) × (text ≡ other)
one_place file [] [] text other after end xs ys r q x y s t why how = (refl, (first_text text other x.0 y.0 x.2 y.2 (sym x.1 ∙ y.1)).0)
one_place file [] (u ∷ others) text other after end xs [] r q x y s t why how = absurd t
one_place file [] (u ∷ others) text other after end xs (b ∷ ys) r q x y s t why how =
    let first = first_text text u x.0 y.0 x.2 y.2 (sym x.1 ∙ y.1) in
    absurd (shown_not_refused text b r (subst (λ l. TextShowsFor l b.0 b.1) (sym first.0) t.0) why)
one_place file (v ∷ texts) others text other after end [] ys r q x y s t why how = absurd s
one_place file (v ∷ texts) [] text other after end (a ∷ xs) ys r q x y s t why how =
    let first = first_text v other x.0 y.0 x.2 y.2 (sym x.1 ∙ y.1) in
    absurd (shown_not_refused other a q (subst (λ l. TextShowsFor l a.0 a.1) first.0 s.0) how)
one_place file (v ∷ texts) (u ∷ others) text other after end (a ∷ xs) [] r q x y s t why how = absurd t
one_place file (v ∷ texts) (u ∷ others) text other after end (a ∷ xs) (b ∷ ys) r q x y s t why how =
    let first = first_text v u x.0 y.0 x.2 y.2 (sym x.1 ∙ y.1) in
    let rest = one_place x.0 texts others text other after end xs ys r q x.3 (subst (λ l. BeginsWithTexts l (others ++ other ∷ []) end) (sym first.1) y.3) s.1 t.1 why how in
    (ap (λ l. l ∷ texts) first.0 ∙ ap (λ l. u ∷ l) rest.0, rest.1)

-- the list before a refusal, where it is, and why, are one
pub one_refused : (texts others : List (List ℕ)) (text other : List ℕ) (xs ys : List (YardBay × Verdict)) (r q : Refused) → texts ≡ others → text ≡ other → ShowEach texts xs → ShowEach others ys
    → IsRefusal None text r → IsRefusal None other q → (xs ≡ ys) × (length texts + 1 ≡ length others + 1) × (r ≡ q)
one_refused texts others text other xs ys r q same alike s t why how = (
  one_each others xs ys (subst (λ l. ShowEach l xs) same s) t,
  ap (λ (l : List (List ℕ)). length l + 1) same,
  one_refusal None other r q (subst (λ l. IsRefusal None l r) alike why) how,
)
