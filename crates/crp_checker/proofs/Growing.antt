-- Bytes that come one by one, and the texts that they begin with.
use Rattle.std.proofs.Common.{◌≡◌, inl, ⊎_elim, ℕ, List, [], ◌∷◌, ◌++◌, length, refl, sym, ap, ◌∙◌, subst, arith, append_assoc}
use Rattle.std.proofs.lemmas.Bool.{cases_eq, cases_lt}
use Rattle.std.proofs.lemmas.List.{append-nil, append_cancel_left}
use Rattle.crp_plan.specs.Bay.{Problem}
use Rattle.crp_tree.specs.Names.{name_text}
use Rattle.crp_cert.specs.Faults.{BeginsWith}
use Rattle.crp_cert.specs.Script.{end_line}
use Rattle.crp_cert.specs.ScriptFaults.{IsLineFault}
use Rattle.crp_cert.specs.Settled.{HasStop, IsName, spelled_name}
use Rattle.crp_cert.proofs.Settled.{front, grown}
use Rattle.crp_cert.proofs.Opening.{refused}
use Rattle.crp_checker.specs.declared.opening.Opening.{Opening}
use Rattle.crp_checker.specs.declared.opening.Opening.TheVariants.{Open, Name, Ended, Refused}
use Rattle.crp_checker.specs.Openings.{IsBegunWith, part_word, named_line, HasNoName, IsPartOpening, IsLastOpening, IsOpening}

-- bytes that end with a stop have one
stopped : (stop : ℕ) (xs : List ℕ) → HasStop stop (xs ++ stop ∷ [])
stopped stop [] = record { body = []; rest = []; before = tt; is = refl }
stopped stop (x ∷ xs) = ⊎_elim
    (λ same. record { body = []; rest = xs ++ stop ∷ []; before = tt; is = ap (λ y. y ∷ (xs ++ stop ∷ [])) same })
    (λ other. let found = stopped stop xs in record { body = x ∷ found.body; rest = found.rest; before = (other, found.before); is = ap (λ l. x ∷ l) found.is })
    (cases_eq x stop)

pub ends_stopped : (stop : ℕ) (xs before : List ℕ) → xs ≡ before ++ stop ∷ [] → HasStop stop xs
ends_stopped stop xs before e = subst (HasStop stop) (sym e) (stopped stop before)

-- a spelled name ends with a space
pub name_ends : (name : List ℕ) → spelled_name name ≡ (name_text name ++ 58 ∷ []) ++ 32 ∷ []
name_ends name = sym (append_assoc (name_text name) (58 ∷ []) (32 ∷ []))

-- a part line down to its name, and what follows
spelled_behind : (behind name rest new : List ℕ) → new ≡ part_word ++ behind → new ≡ named_line name ++ rest → behind ≡ spelled_name name ++ rest
spelled_behind behind name rest new e f = append_cancel_left part_word behind (spelled_name name ++ rest) (sym e ∙ f ∙ append_assoc part_word (spelled_name name) rest)

-- a part line and a last line begin with different letters
other_words : (behind rest : List ℕ) (count : ℕ) → part_word ++ behind ≡ end_line count ++ rest → ⊥
other_words behind rest count e = p_is_not_e (ap first_byte e)
  where
    first_byte : List ℕ → ℕ
    first_byte [] = 0
    first_byte (b ∷ bytes) = b

    p_is_not_e : ◌≡◌ {A = ℕ} 112 101 → ⊥
    p_is_not_e e = absurd (omega arith)

-- where no name stood before, no longer text than a name stands there
exactly : (p : Problem) (old behind : List ℕ) (b : ℕ) → old ++ b ∷ [] ≡ part_word ++ behind → HasNoName p old → (name rest : List ℕ) → IsName p name → old ++ b ∷ [] ≡ named_line name ++ rest → behind ≡ spelled_name name
exactly p old behind b e none name rest fits f =
    let empty = grown old b (named_line name) rest f (λ r g. none (name, fits, (r, g))) in
    spelled_behind behind name rest (old ++ b ∷ []) e f ∙ ap (λ l. spelled_name name ++ l) empty ∙ append-nil (spelled_name name)

pub part_opens : (p : Problem) (count line : ℕ) (old behind : List ℕ) (b : ℕ) (r : Opening) → old ++ b ∷ [] ≡ part_word ++ behind → IsPartOpening p line behind r → IsOpening p count line old (old ++ b ∷ []) r
part_opens p count line old behind b Open e is = (
  λ none stands. is (name_text stands.0 ++ 58 ∷ []) (exactly p old behind b e none stands.0 stands.2.0 stands.1 stands.2.1 ∙ name_ends stands.0),
  λ end. other_words behind end.0 count (sym e ∙ end.1),
)
part_opens p count line old behind b (Name name) e is = (is.0, λ none. e ∙ ap (λ l. part_word ++ l) is.1)
part_opens p count line old behind b Ended e is = absurd is
part_opens p count line old behind b (Refused fault) e is = λ problem none version parts same more.
    let text : (old ++ b ∷ []) ++ more ≡ part_word ++ (behind ++ more) = ap (λ l. l ++ more) e ∙ append_assoc part_word behind more in
    let no_name : ¬ BeginsWith (IsName p) spelled_name behind =
    λ stands. is.2 stands.0 stands.1
    (exactly p old behind b e none stands.0 stands.2.0 stands.1 (e ∙ ap (λ l. part_word ++ l) stands.2.1 ∙ sym (append_assoc part_word (spelled_name stands.0) stands.2.0))) in
    subst (λ l. IsLineFault version p parts line l fault) (sym text)
    (subst (IsLineFault version p parts line (part_word ++ (behind ++ more))) (sym is.0)
    (refl, (behind ++ more, refl), refused p problem behind more is.1 no_name))

pub last_opens : (p : Problem) (count line : ℕ) (old begun : List ℕ) (b : ℕ) (r : Opening) → begun ≡ old ++ b ∷ [] → (IsBegunWith begun part_word → ⊥) → IsLastOpening count line begun r →
    IsOpening p count line old begun r
last_opens p count line old begun b Open e other is = (λ none stands. other (spelled_name stands.0 ++ stands.2.0, stands.2.1 ∙ append_assoc part_word (spelled_name stands.0) stands.2.0), is)
last_opens p count line old begun b (Name name) e other is = absurd is
last_opens p count line old begun b Ended e other is = λ none.
    let empty = grown old b (end_line count) is.0 (sym e ∙ is.1) (λ r f. none (r, f)) in
    is.1 ∙ ap (λ l. end_line count ++ l) empty ∙ append-nil (end_line count)
last_opens p count line old begun b (Refused fault) e other is = λ problem none version parts same more.
    subst (IsLineFault version p parts line (begun ++ more)) (sym is.0)
    (inl (refl, (λ after f. (is.1 more).0 (after, f)), λ after f. (is.1 more).1 (after, f ∙ ap (λ n. end_line n ++ after) same)))

-- bytes that are no front of a text, and of which it is none, are none whatever follows
pub apart_from : (begun text : List ℕ) → (IsBegunWith begun text → ⊥) → (IsBegunWith text begun → ⊥) → (more : List ℕ) → IsBegunWith (begun ++ more) text → ⊥
apart_from begun text longer shorter more is = ⊎_elim
    (λ lt. shorter (front text is.0 begun more (sym is.1) (omega arith)))
    (λ le. longer (front begun more text is.0 is.1 (omega arith)))
    (cases_lt (length begun) (length text))
