-- Part lines by their name: one that is read, one that is refused, and lines without their end.
use Rattle.std.proofs.Common.{◌≡◌, ◌≢◌, ℕ, ◌<◌, List, [], ◌∷◌, ◌++◌, length, Some, None, refl, sym, ap, ◌∙◌, subst, append_assoc, inr, arith}
use Rattle.std.specs.Prelude.{codes}
use Rattle.std.specs.List.{AllByRecursion, flat_map}
use Rattle.std.proofs.lemmas.Option.{same_Some, none-some}
use Rattle.crp_plan.specs.Bay.{Problem, IsProblem, Position}
use Rattle.crp_bay.proofs.Walked.{at_reads, at_means}
use Rattle.crp_tree.specs.Names.{name_text}
use Rattle.crp_tree.specs.Claims.{Part}
use Rattle.crp_cert.specs.declared.head.Head.{Head}
use Rattle.crp_cert.specs.declared.fault.CertFault.{CertFault}
use Rattle.crp_cert.specs.Text.{head_text}
use Rattle.crp_cert.specs.Script.{part_line}
use Rattle.crp_cert.specs.Faults.{BeginsWith}
use Rattle.crp_cert.specs.ScriptFaults.{BeginsWithParts, BeginsWithPart, IsLineFault, IsFirstFaultOfScript}
use Rattle.crp_cert.specs.Reading.{tag_at}
use Rattle.crp_cert.specs.PartReading.{name_at}
use Rattle.crp_cert.specs.Settled.{CanBeJudged, IsName, spelled_name, longest_name}
use Rattle.crp_cert.proofs.PartNames.{name_takes, name_again}
use Rattle.crp_cert.proofs.PartLines.{behind_word, line_then}
use Rattle.crp_cert.proofs.Joined.{all_right}
use Rattle.crp_cert.proofs.Settled.{name_stays}

-- ---- names that are read

-- a name is read again
name_reads : (p : Problem) (name : List ℕ) → IsProblem p → (fits : IsName p name) → name_at p (spelled_name name) ≡ Some ((name, fits.1.0), codes ": ")
name_reads p name is fits = name_again p name fits.1.0 58 (32 ∷ []) is fits.0 (at_reads p name fits.1.0 is fits.1.1) refl (λ e. cc)

pub no_name : (p : Problem) (bytes name : List ℕ) → IsProblem p → name_at p bytes ≡ None → IsName p name → bytes ≡ spelled_name name → ⊥
no_name p bytes name is none fits e = none-some ((name, fits.1.0), codes ": ") (sym none ∙ ap (name_at p) e ∙ name_reads p name is fits)

-- what follows the name that is read
left_is : (p : Problem) (bytes name read : List ℕ) (place : Position) (rest : List ℕ) → IsProblem p → name_at p bytes ≡ Some ((read, place), rest) → IsName p name → bytes ≡ spelled_name name → rest ≡ codes ": "
left_is p bytes name read place rest is e fits text =
    ap (λ v. v.1) (same_Some ((read, place), rest) ((name, fits.1.0), codes ": ") (sym e ∙ ap (name_at p) text ∙ name_reads p name is fits))

pub no_colon : (p : Problem) (bytes name read : List ℕ) (place : Position) (rest : List ℕ) → IsProblem p → name_at p bytes ≡ Some ((read, place), rest) → tag_at (codes ": ") rest ≡ None →
    IsName p name → bytes ≡ spelled_name name → ⊥
no_colon p bytes name read place rest is e none fits text = none-some [] (sym none ∙ ap (tag_at (codes ": ")) (left_is p bytes name read place rest is e fits text))

pub no_end : (p : Problem) (bytes name read : List ℕ) (place : Position) (rest after : List ℕ) → IsProblem p → name_at p bytes ≡ Some ((read, place), rest) → tag_at (codes ": ") rest ≡ Some after → 0 < length after →
    IsName p name → bytes ≡ spelled_name name → ⊥
no_end p bytes name read place rest after is e some more fits text =
    let none : after ≡ [] = same_Some after [] (sym some ∙ ap (tag_at (codes ": ")) (left_is p bytes name read place rest is e fits text)) in
    omega (arith, ap length none)

-- the name that is read
pub name_is : (p : Problem) (bytes read : List ℕ) (place : Position) (rest after : List ℕ) → IsProblem p → name_at p bytes ≡ Some ((read, place), rest) → rest ≡ codes ": " ++ after → length after ≡ 0 →
    IsName p read × (bytes ≡ spelled_name read)
name_is p bytes read place rest [] is e colon none =
    let t = name_takes p bytes read place rest e in ((t.0, (place, at_means p read place is t.1)), t.2 ∙ ap (λ l. name_text read ++ l) colon)
name_is p bytes read place rest (b ∷ after) is e colon none = absurd (omega arith)

-- ---- part lines

-- what follows the first word is the same
behind_tag : (a b : List ℕ) → codes "part " ++ a ≡ codes "part " ++ b → a ≡ b
behind_tag a b e = cc

-- what follows the first word of a part line
word_behind : (p : Problem) (bytes : List ℕ) (part : BeginsWithPart p (codes "part " ++ bytes)) → bytes ≡ behind_word part.name part.symbols part.after
word_behind p bytes part = behind_tag bytes (behind_word part.name part.symbols part.after) (part.text ∙ line_then part.name part.symbols part.after)

-- it begins with a name and the space behind it
pub name_behind : (p : Problem) (bytes : List ℕ) → BeginsWithPart p (codes "part " ++ bytes) → BeginsWith (IsName p) spelled_name bytes
name_behind p bytes part =
    (part.name, (part.short, (part.place, part.is_at)), (part.symbols ++ 10 ∷ part.after, word_behind p bytes part ∙ sym (append_assoc (name_text part.name) (codes ": ") (part.symbols ++ 10 ∷ part.after))))

pub refused : (p : Problem) → IsProblem p → (bytes more : List ℕ) → CanBeJudged 32 longest_name bytes → ¬ BeginsWith (IsName p) spelled_name bytes → ¬ BeginsWithPart p (codes "part " ++ (bytes ++ more))
refused p is bytes more settled none part = name_stays p is bytes more settled none (name_behind p (bytes ++ more) part)

-- a part line has an end
pub endless : (p : Problem) (bytes : List ℕ) → AllByRecursion (λ b. b ≢ 10) bytes → ¬ BeginsWithPart p (codes "part " ++ bytes)
endless p bytes none part =
    let all : AllByRecursion (λ b. b ≢ 10) (behind_word part.name part.symbols part.after) = subst (AllByRecursion (λ b. b ≢ 10)) (word_behind p bytes part) none in
    let line = all_right (λ b. b ≢ 10) (name_text part.name) (codes ": " ++ (part.symbols ++ 10 ∷ part.after)) all in
    let symbols = all_right (λ b. b ≢ 10) (codes ": ") (part.symbols ++ 10 ∷ part.after) line in
    (all_right (λ b. b ≢ 10) part.symbols (10 ∷ part.after) symbols).0 refl

-- ---- whole texts

-- what bytes begin with they begin with, whatever follows
pub begins_on : (bytes more : List ℕ) (head : Head) (parts : List Part) (line : ℕ) (rest : List ℕ) → BeginsWithParts bytes head parts line rest → BeginsWithParts (bytes ++ more) head parts line (rest ++ more)
begins_on bytes more head parts line rest tells = record {
  is_head = tells.is_head;
  each_part = tells.each_part;
  rising = tells.rising;
  text = ap (λ l. l ++ more) tells.text ∙ append_assoc (head_text head) (flat_map part_line parts ++ rest) more ∙ ap (λ l. head_text head ++ l) (append_assoc (flat_map part_line parts) rest more);
  number = tells.number;
}

-- a line that is at fault, whatever follows, is the first fault of the whole text, whatever follows
pub line_fault : (bytes more : List ℕ) (head : Head) (parts : List Part) (line : ℕ) (rest : List ℕ) (fault : CertFault) → BeginsWithParts bytes head parts line rest →
    IsLineFault head.version head.problem parts line (rest ++ more) fault → IsFirstFaultOfScript (bytes ++ more) fault
line_fault bytes more head parts line rest fault tells is = inr (head, parts, line, rest ++ more, begins_on bytes more head parts line rest tells, is)
