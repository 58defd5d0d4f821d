-- A text is at most one script's, and one that is none has a first fault.
use Rattle.std.proofs.Common.{◌≡◌, ℕ, zero, suc, ◌+◌, ◌<◌, ◌⊎◌, inl, inr, ⊎_elim, Bool, true, false, List, [], ◌∷◌, ◌++◌, length, map, All, Option, Some, None, refl, sym, ap, ◌∙◌, subst, arith, append_assoc, append-nil, length-append}
use Rattle.std.specs.Prelude.{codes}
use Rattle.std.specs.List.{flat_map}
use Rattle.std.proofs.lemmas.Option.{same_Some, none-some}
use Rattle.crp_plan.specs.Bay.{Problem, IsProblem, Position, IsAt}
use Rattle.crp_bay.proofs.Walked.{at_reads, at_means}
use Rattle.crp_tree.specs.Tree.{Tree}
use Rattle.crp_tree.specs.Claims.{Part, names}
use Rattle.crp_cert.specs.declared.head.Head.{Head}
use Rattle.crp_cert.specs.declared.script.Script.{Script}
use Rattle.crp_cert.specs.declared.fault.CertFault.{CertFault}
use Rattle.crp_cert.specs.declared.fault.CertFault.TheVariants as faults
use Rattle.crp_cert.specs.declared.version.Version.{Version}
use Rattle.crp_cert.specs.Text.{head_text, first_part, IsHead}
use Rattle.crp_cert.specs.Script.{symbols_of, symbols_line, part_line, end_line, IsPartLine, IsScript, IsScriptOf}
use Rattle.crp_cert.specs.ScriptFaults.{BeginsWithPart, ComesAfter, AreSymbols, IsLineFault, IsFirstFaultOfScript}
use Rattle.crp_cert.specs.Reading.{tag_at}
use Rattle.crp_cert.specs.PartReading.{part_at, AreParts}
use Rattle.crp_cert.proofs.Numbers.{tag_takes, tag_again}
use Rattle.crp_cert.proofs.Heads.{head_once}
use Rattle.crp_cert.proofs.Verdicts.{some_answer}
use Rattle.crp_cert.proofs.PartLines.{behind_word, line_then, part_takes, part_again, no_part}
use Rattle.crp_cert.proofs.PartFaults.{no_parts, parts_push, part_line_some, parsed_line, no_last, no_further, tells_parts}
use Rattle.crp_cert.proofs.PartTests.{after_test, comes_from, comes_to, symbols_test, symbols_to, symbols_from, none_given, can_spell, tree_one_line}
use Rattle.crp_cert.proofs.TreeReading.{behind_tree, tree_again, tree_takes}
use Rattle.crp_tree.specs.Trees.{Fits}

-- ---- one script

-- a part line is read
line_reads : (version : Version) (p : Problem) (part : Part) (rest : List ℕ) → IsProblem p → IsPartLine version p part → part_at p (behind_word part.name (symbols_of part.tree) rest) ≡ Some ((part.name, symbols_of part.tree), rest)
line_reads version p part rest is is_line =
    part_again p part.name (symbols_of part.tree) rest is_line.place is is_line.short (at_reads p part.name is_line.place is is_line.is_at) (tree_one_line is_line.place part.tree is_line.fits)

-- from behind its first word
word_reads : (part : Part) (rest : List ℕ) → tag_at (codes "part ") (part_line part ++ rest) ≡ Some (behind_word part.name (symbols_of part.tree) rest)
word_reads part rest = ap (tag_at (codes "part ")) (line_then part.name (symbols_of part.tree) rest) ∙ tag_again (codes "part ") (behind_word part.name (symbols_of part.tree) rest)

-- bytes begin with one part line at most
line_once : (version : Version) (p : Problem) (a b : Part) (x y : List ℕ) → IsProblem p → IsPartLine version p a → IsPartLine version p b → part_line a ++ x ≡ part_line b ++ y → (a.name ≡ b.name) × (symbols_of a.tree ≡ symbols_of b.tree) × (x ≡ y)
line_once version p a b x y is line-a line-b e =
    let word = same_Some (behind_word a.name (symbols_of a.tree) x) (behind_word b.name (symbols_of b.tree) y) (sym (word_reads a x) ∙ ap (tag_at (codes "part ")) e ∙ word_reads b y) in
    let line = same_Some ((a.name, symbols_of a.tree), x) ((b.name, symbols_of b.tree), y) (sym (line_reads version p a x is line-a) ∙ ap (part_at p) word ∙ line_reads version p b y is line-b) in
    (ap (λ (v : (List ℕ × List ℕ) × List ℕ). v.0.0) line, ap (λ (v : (List ℕ × List ℕ) × List ℕ). v.0.1) line, ap (λ (v : (List ℕ × List ℕ) × List ℕ). v.1) line)

-- bytes begin with the lines of one list of parts at most, if no more follow
parts_once : (version : Version) (p : Problem) (parts others : List Part) (x y : List ℕ) → IsProblem p → All (IsPartLine version p) parts → All (IsPartLine version p) others → tag_at (codes "part ") x ≡ None → tag_at (codes "part ") y ≡ None →
    flat_map part_line parts ++ x ≡ flat_map part_line others ++ y → (names parts ≡ names others) × (map (λ part. symbols_of part.tree) parts ≡ map (λ part. symbols_of part.tree) others)
parts_once version p [] [] x y is each each' no-x no-y e = (refl, refl)
parts_once version p [] (b ∷ others) x y is each each' no-x no-y e =
    absurd (none-some (behind_word b.name (symbols_of b.tree) (flat_map part_line others ++ y))
    (sym no-x ∙ ap (tag_at (codes "part ")) (e ∙ append_assoc (part_line b) (flat_map part_line others) y) ∙ word_reads b (flat_map part_line others ++ y)))
parts_once version p (a ∷ parts) [] x y is each each' no-x no-y e =
    absurd (none-some (behind_word a.name (symbols_of a.tree) (flat_map part_line parts ++ x))
    (sym no-y ∙ ap (tag_at (codes "part ")) (sym e ∙ append_assoc (part_line a) (flat_map part_line parts) x) ∙ word_reads a (flat_map part_line parts ++ x)))
parts_once version p (a ∷ parts) (b ∷ others) x y is each each' no-x no-y e =
    let h = line_once version p a b (flat_map part_line parts ++ x) (flat_map part_line others ++ y) is (each 0 a (omega arith)) (each' 0 b (omega arith))
    (sym (append_assoc (part_line a) (flat_map part_line parts) x) ∙ e ∙ append_assoc (part_line b) (flat_map part_line others) y) in
    let t = parts_once version p parts others x y is (λ k d lt. each (suc k) d (omega arith)) (λ k d lt. each' (suc k) d (omega arith)) no-x no-y h.2 in
    (ap (λ n. n ∷ names parts) h.0 ∙ ap (λ l. b.name ∷ l) t.0, ap (λ n. n ∷ map (λ part. symbols_of part.tree) parts) h.1 ∙ ap (λ l. symbols_of b.tree ∷ l) t.1)

-- the last line begins with no first word of a part
end_alone : (count : ℕ) → tag_at (codes "part ") (end_line count) ≡ None
end_alone count = refl

-- a text is one script's at most
pub script_once : (bytes : List ℕ) (a b : Script) → IsScriptOf bytes a → IsScriptOf bytes b → (a.head ≡ b.head) × (names a.parts ≡ names b.parts) × (map (λ part. symbols_of part.tree) a.parts ≡ map (λ part. symbols_of part.tree) b.parts)
script_once bytes a b of-a of-b =
    let is-a : IsScript a = of-a.0 in let is-b : IsScript b = of-b.0 in
    let heads = head_once a.head b.head (flat_map part_line a.parts ++ end_line (length a.parts)) (flat_map part_line b.parts ++ end_line (length b.parts)) is-a.is_head is-b.is_head (sym of-a.1 ∙ of-b.1) in
    let problem : IsProblem a.head.problem = (is-a.is_head).problem in
    let each : All (IsPartLine a.head.version a.head.problem) b.parts = subst (λ (h : Head). All (IsPartLine h.version h.problem) b.parts) (sym heads.0) is-b.each_part in
    let parts = parts_once a.head.version a.head.problem a.parts b.parts (end_line (length a.parts)) (end_line (length b.parts)) problem is-a.each_part each (end_alone (length a.parts)) (end_alone (length b.parts)) heads.1 in
    (heads.0, parts.0, parts.1)

-- ---- one or the other

-- a script, or a first fault
abbrev Answer : List ℕ → Type 0
Answer bytes = ((script : Script) × IsScriptOf bytes script) ⊎ ((fault : CertFault) × IsFirstFaultOfScript bytes fault)

-- the answer where the line behind the parts has a fault
faulty : (bytes : List ℕ) (head : Head) (behind : List ℕ) (parts : List Part) (rest : List ℕ) (fault : CertFault) → IsHead head → bytes ≡ head_text head ++ behind → AreParts head.version head.problem behind parts rest →
    IsLineFault head.version head.problem parts (first_part head + length parts) rest fault → Answer bytes
faulty bytes head behind parts rest fault is text are why =
    inr (fault, inr (head, parts, first_part head + length parts, rest, tells_parts bytes head behind parts (first_part head + length parts) rest is text are refl, why))

-- from the last line on
last_answer : (bytes : List ℕ) (head : Head) (behind : List ℕ) (parts : List Part) (rest : List ℕ) → IsHead head → bytes ≡ head_text head ++ behind → AreParts head.version head.problem behind parts rest → tag_at (codes "part ") rest ≡ None → Answer bytes
last_answer bytes head behind parts rest is text are none = by_last (tag_at (end_line (length parts)) rest) refl
  where
    by_last : (o : Option (List ℕ)) → tag_at (end_line (length parts)) rest ≡ o → Answer bytes
    by_last None e = faulty bytes head behind parts rest (faults.End (first_part head + length parts)) is text are (inl (refl, no_further rest none, no_last (length parts) rest e))
    by_last (Some []) e =
        inl (
          record { head = head; parts = parts },
          (
            record { is_head = is; each_part = are.each_part; rising = are.rising },
            text ∙ ap (λ l. head_text head ++ l) (are.text ∙ ap (λ l. flat_map part_line parts ++ l) (tag_takes (end_line (length parts)) rest [] e ∙ append-nil (end_line (length parts)))),
          ),
        )
    by_last (Some (b ∷ after)) e =
        faulty bytes head behind parts rest (faults.End (suc (first_part head + length parts))) is text are (inr (refl, (b, after, tag_takes (end_line (length parts)) rest (b ∷ after) e)))

-- the line that the parts are followed by
abbrev Next : List ℕ → Head → List ℕ → ℕ → Type 0
Next bytes head behind most = (parts : List Part) (rest : List ℕ) → length rest < most → AreParts head.version head.problem behind parts rest → Answer bytes

-- a part of this name and these symbols, whose tree is read
read_part : (version : Version) (p : Problem) (behind : List ℕ) (parts : List Part) (after name symbols rest : List ℕ) (place : Position) (tree : Tree) → IsProblem p → AreParts version p behind parts (codes "part " ++ after) → IsAt p name place →
    part_at p after ≡ Some ((name, symbols), rest) → ComesAfter parts name → AreSymbols version symbols → Fits place tree → symbols ≡ symbols_of tree ++ [] →
    AreParts version p behind (parts ++ (record { name = name; tree = tree }) ∷ []) rest × (length rest < length (codes "part " ++ after))
read_part version p behind parts after name symbols rest place tree problem are is_at e comes all m same =
    let part : Part = record { name = name; tree = tree } in
    let parsed : BeginsWithPart p (codes "part " ++ after) = parsed_line p after name symbols rest place is_at e in
    let line : codes "part " ++ after ≡ part_line part ++ rest = parsed.text ∙ ap (λ l. symbols_line name l ++ rest) (same ∙ append-nil (symbols_of tree)) in (
      parts_push version p behind parts (parts ++ part ∷ []) part (codes "part " ++ after) rest refl are (record { short = parsed.short; place = place; is_at = is_at; fits = m; not_given = none_given version symbols [] tree all same; can_spell = can_spell version place tree symbols [] m same all }) comes line,
      part_line_some part (codes "part " ++ after) rest line,
    )

-- from a part line on, whose name and symbols are read
line_answer : (most : ℕ) (bytes : List ℕ) (head : Head) (behind : List ℕ) (parts : List Part) (after name symbols rest : List ℕ) (place : Position) → IsHead head → bytes ≡ head_text head ++ behind →
    AreParts head.version head.problem behind parts (codes "part " ++ after) → length (codes "part " ++ after) < suc most → IsAt head.problem name place → part_at head.problem after ≡ Some ((name, symbols), rest) → Next bytes head behind most → Answer bytes
line_answer most bytes head behind parts after name symbols rest place is text are enough is_at e next =
    by_test (after_test (names parts) name) refl (symbols_test head.version symbols) refl (behind_tree (length symbols) place symbols) refl
  where
    by_test : (a : Bool) → after_test (names parts) name ≡ a → (b : Bool) → symbols_test head.version symbols ≡ b → (o : Option (List ℕ)) → behind_tree (length symbols) place symbols ≡ o → Answer bytes
    by_test false f b g o h =
        faulty bytes head behind parts (codes "part " ++ after) (faults.Order (first_part head + length parts)) is text are
        (refl, (parsed_line head.problem after name symbols rest place is_at e, λ comes. let no' : false ≡ true = sym f ∙ comes_from parts name comes in cc))
    by_test true f false g o h =
        faulty bytes head behind parts (codes "part " ++ after) (faults.Symbol (first_part head + length parts)) is text are
        (refl, (parsed_line head.problem after name symbols rest place is_at e, comes_to parts name f, λ all. let no' : false ≡ true = sym g ∙ symbols_from head.version symbols all in cc))
    by_test true f true g None h =
        faulty bytes head behind parts (codes "part " ++ after) (faults.Unfinished (first_part head + length parts)) is text are (
          refl,
          (
            parsed_line head.problem after name symbols rest place is_at e,
            comes_to parts name f,
            symbols_to head.version symbols g,
            λ stands.
                none-some stands.2.0
                (sym h ∙ ap (behind_tree (length symbols) place) stands.2.1
                ∙ tree_again (length symbols) place stands.0 stands.2.0 (omega (arith, ap length stands.2.1, length-append (symbols_of stands.0) stands.2.0)) stands.1),
          ),
        )
    by_test true f true g (Some []) h =
        let t = tree_takes (length symbols) place symbols [] h in
        let r = read_part head.version head.problem behind parts after name symbols rest place t.0 is.problem are is_at e (comes_to parts name f) (symbols_to head.version symbols g) t.1 t.2 in
        next (parts ++ (record { name = name; tree = t.0 }) ∷ []) rest (omega (arith, r.1)) r.0
    by_test true f true g (Some (b ∷ left)) h =
        let t = tree_takes (length symbols) place symbols (b ∷ left) h in
        faulty bytes head behind parts (codes "part " ++ after) (faults.Trailing (first_part head + length parts)) is text are
        (refl, (parsed_line head.problem after name symbols rest place is_at e, comes_to parts name f, symbols_to head.version symbols g, (t.0, t.1, (b, left, t.2))))

-- from the line behind the parts on
parts_answer : (most : ℕ) (bytes : List ℕ) (head : Head) (behind : List ℕ) (parts : List Part) (rest : List ℕ) → IsHead head → bytes ≡ head_text head ++ behind → length rest < most → AreParts head.version head.problem behind parts rest → Answer bytes
parts_answer zero bytes head behind parts rest is text enough are = absurd (omega arith)
parts_answer (suc most) bytes head behind parts rest is text enough are =
    by_word (λ more after fewer longer. parts_answer most bytes head behind more after is text fewer longer) (tag_at (codes "part ") rest) refl
  where
    by_line : Next bytes head behind most → (after : List ℕ) → rest ≡ codes "part " ++ after → (o : Option ((List ℕ × List ℕ) × List ℕ)) → part_at head.problem after ≡ o → Answer bytes
    by_line next after e None f =
        faulty bytes head behind parts (codes "part " ++ after) (faults.Part (first_part head + length parts)) is text (subst (AreParts head.version head.problem behind parts) e are)
        (refl, (after, refl), no_part head.problem after is.problem f)
    by_line next after e (Some x) f =
        let r = part_takes head.problem after x.0.0 x.0.1 x.1 f in
        line_answer most bytes head behind parts after x.0.0 x.0.1 x.1 r.place is text (subst (AreParts head.version head.problem behind parts) e are) (omega (arith, ap length e)) (at_means head.problem x.0.0 r.place is.problem r.goes) f next

    by_word : Next bytes head behind most → (o : Option (List ℕ)) → tag_at (codes "part ") rest ≡ o → Answer bytes
    by_word next None e = last_answer bytes head behind parts rest is text are e
    by_word next (Some after) e = by_line next after (tag_takes (codes "part ") rest after e) (part_at head.problem after) refl

-- each text has one of the two
pub script_answer : (bytes : List ℕ) → Answer bytes
script_answer bytes = ⊎_elim
    (λ found. parts_answer (suc (length found.1.1.0)) bytes found.0 found.1.1.0 [] found.1.1.0 found.1.0 found.1.1.1 (omega arith) (no_parts found.0.version found.0.problem found.1.1.0))
    (λ found. inr (found.0, inl found.1))
    (some_answer bytes)
