-- Each text is a script's or has a first fault, and only one of these.
use Rattle.std.proofs.Common.{◌≡◌, ◌≢◌, ℕ, zero, suc, ◌+◌, ◌-◌, ◌≤◌, inl, inr, true, cond, List, [], ◌∷◌, ◌++◌, length, All, Option, Some, None, refl, sym, ap, ◌∙◌, subst, arith, append_assoc, append-nil, length-append}
use Rattle.std.specs.Prelude.{codes, AllPairs}
use Rattle.std.specs.List.{flat_map, AllByRecursion}
use Rattle.std.proofs.lemmas.Option.{same_Some, none-some}
use Rattle.std.proofs.lemmas.List.Elements.{recursion_from_All, All-from_recursion}
use Rattle.std.proofs.Math.Seq.{get_or-append_seam}
use Rattle.crp_plan.specs.Bay.{Problem, IsProblem, Position, IsAt}
use Rattle.crp_bay.specs.Positions.{at}
use Rattle.crp_bay.proofs.Walked.{at_reads, at_means}
use Rattle.crp_tree.specs.Tree.{Tree}
use Rattle.crp_tree.specs.Names.{Precedes}
use Rattle.crp_tree.specs.Claims.{Part, names}
use Rattle.crp_cert.specs.declared.head.Head.{Head}
use Rattle.crp_cert.specs.declared.script.Script.{Script}
use Rattle.crp_cert.specs.declared.fault.CertFault.{CertFault}
use Rattle.crp_cert.specs.declared.fault.CertFault.TheVariants as faults
use Rattle.crp_cert.specs.declared.version.Version.{Version}
use Rattle.crp_cert.specs.Text.{head_text, first_part, IsHead}
use Rattle.crp_cert.specs.Script.{symbols_of, part_line, end_line, IsPartLine, IsScript, IsScriptOf}
use Rattle.crp_cert.specs.ScriptFaults.{BeginsWithParts, BeginsWithPart, BeginsWithTree, IsLineFault, IsFirstFaultOfScript}
use Rattle.crp_cert.specs.Reading.{◌>>=◌, tag_at}
use Rattle.crp_cert.specs.PartReading.{part_at, tagged, AreParts}
use Rattle.crp_cert.proofs.Numbers.{tag_takes, tag_again}
use Rattle.crp_cert.proofs.Heads.{head_once}
use Rattle.crp_cert.proofs.Verdicts.{or_fault, apart, one_fault}
use Rattle.crp_cert.proofs.PartLines.{behind_word, line_then, part_takes, part_again}
use Rattle.crp_cert.proofs.PartFaults.{part_line_some, parsed_line}
use Rattle.crp_cert.proofs.NameOrder.{length_names}
use Rattle.crp_cert.proofs.PartTests.{after_test, after_yes, comes_from, comes_to, fails, symbols_test, symbols_to, symbols_from, tree_tested, tree_one_line}
use Rattle.crp_cert.proofs.TreeReading.{behind_tree, tree_again, tree_takes}
use Rattle.crp_tree.specs.Trees.{Fits}

-- ---- the fault that is met first, going from line to line behind a head

-- the fault of the last line, by what follows it
behind_last : Option (List ℕ) → ℕ → Option CertFault
behind_last None line = Some (faults.End line)
behind_last (Some []) line = None
behind_last (Some (b ∷ rest)) line = Some (faults.End (suc line))

-- the fault of symbols, by what follows their tree
behind_symbols : Option (List ℕ) → ℕ → Option CertFault → Option CertFault
behind_symbols None line next = Some (faults.Unfinished line)
behind_symbols (Some []) line next = next
behind_symbols (Some (b ∷ rest)) line next = Some (faults.Trailing line)

-- what follows the tree at a name
left_at : Problem → List ℕ → List ℕ → Option (List ℕ)
left_at p name symbols = at p name >>= λ s. behind_tree (length symbols) s symbols

-- the fault of a part line, or that of what follows it
line_fault : Version → Problem → List (List ℕ) → ℕ → (List ℕ × List ℕ) → Option CertFault → Option CertFault
line_fault version p earlier line x next =
    cond (after_test earlier x.0) (cond (symbols_test version x.1) (behind_symbols (left_at p x.0 x.1) line next) (Some (faults.Symbol line))) (Some (faults.Order line))

-- the fault from the line behind parts of these names on, which are no more than this
lines_fault : Version → ℕ → Problem → ℕ → List (List ℕ) → List ℕ → Option CertFault
lines_fault version zero p first earlier bytes = None
lines_fault version (suc most) p first earlier bytes =
    tagged (tag_at (codes "part ") bytes) (behind_last (tag_at (end_line (length earlier)) bytes) (first + length earlier))
    (λ rest. or_fault (part_at p rest) (faults.Part (first + length earlier)) (λ x. line_fault version p earlier (first + length earlier) x.0 (lines_fault version most p first (earlier ++ x.0.0 ∷ []) x.1)))

-- ---- one line

-- behind the parts, past the first word of a part line
past_word : (version : Version) (most : ℕ) (p : Problem) (first : ℕ) (earlier : List (List ℕ)) (rest : List ℕ) → lines_fault version (suc most) p first earlier (codes "part " ++ rest)
    ≡ or_fault (part_at p rest) (faults.Part (first + length earlier)) (λ x. line_fault version p earlier (first + length earlier) x.0 (lines_fault version most p first (earlier ++ x.0.0 ∷ []) x.1))
unfolding lines_fault
past_word version most p first earlier rest = refl

-- a line that begins with no part
no_word : (version : Version) (most : ℕ) (p : Problem) (first : ℕ) (earlier : List (List ℕ)) (bytes : List ℕ) → tag_at (codes "part ") bytes ≡ None → lines_fault version (suc most) p first earlier bytes ≡ behind_last (tag_at (end_line (length earlier)) bytes) (first + length earlier)
unfolding lines_fault
no_word version most p first earlier bytes e =
    ap (λ o. tagged o (behind_last (tag_at (end_line (length earlier)) bytes) (first + length earlier))
    (λ rest. or_fault (part_at p rest) (faults.Part (first + length earlier)) (λ x. line_fault version p earlier (first + length earlier) x.0 (lines_fault version most p first (earlier ++ x.0.0 ∷ []) x.1)))) e

-- a part line that stands there
past_line : (version : Version) (most : ℕ) (p : Problem) (first : ℕ) (earlier : List (List ℕ)) (bytes : List ℕ) → IsProblem p → (part : BeginsWithPart p bytes) →
    lines_fault version (suc most) p first earlier bytes ≡ line_fault version p earlier (first + length earlier) (part.name, part.symbols) (lines_fault version most p first (earlier ++ part.name ∷ []) part.after)
past_line version most p first earlier bytes is part =
    let text : bytes ≡ codes "part " ++ behind_word part.name part.symbols part.after = part.text ∙ line_then part.name part.symbols part.after in
    ap (lines_fault version (suc most) p first earlier) text ∙ past_word version most p first earlier (behind_word part.name part.symbols part.after)
    ∙ ap (λ o. or_fault o (faults.Part (first + length earlier)) (λ x. line_fault version p earlier (first + length earlier) x.0 (lines_fault version most p first (earlier ++ x.0.0 ∷ []) x.1)))
    (part_again p part.name part.symbols part.after part.place is part.short (at_reads p part.name part.place is part.is_at) (recursion_from_All (λ b. b ≢ 10) part.symbols part.one_line))

-- what follows the tree at a name, from where the name leads
left_is : (p : Problem) (name symbols : List ℕ) (s : Position) → IsProblem p → IsAt p name s → left_at p name symbols ≡ behind_tree (length symbols) s symbols
unfolding left_at
left_is p name symbols s is is_at = ap (λ o. o >>= λ v. behind_tree (length symbols) v symbols) (at_reads p name s is is_at)

-- no tree
no_tree : (p : Problem) (name symbols : List ℕ) (s : Position) → IsProblem p → IsAt p name s → ¬ BeginsWithTree s symbols → left_at p name symbols ≡ None
no_tree p name symbols s is is_at never = left_is p name symbols s is is_at ∙ by_cases (behind_tree (length symbols) s symbols) refl
  where
    by_cases : (o : Option (List ℕ)) → behind_tree (length symbols) s symbols ≡ o → o ≡ None
    by_cases None e = refl
    by_cases (Some rest) e = let t = tree_takes (length symbols) s symbols rest e in absurd (never (t.0, t.1, (rest, t.2)))

-- a tree, and what follows it
some_tree : (p : Problem) (name symbols : List ℕ) (s : Position) (tree : Tree) (rest : List ℕ) → IsProblem p → IsAt p name s → Fits s tree → symbols ≡ symbols_of tree ++ rest → left_at p name symbols ≡ Some rest
some_tree p name symbols s tree rest is is_at m e =
    left_is p name symbols s is is_at ∙ ap (behind_tree (length symbols) s) e
    ∙ tree_again (length symbols) s tree rest (omega (arith, ap length e, length-append (symbols_of tree) rest)) m

-- a part line that is as said
past_part : (version : Version) (most : ℕ) (p : Problem) (first : ℕ) (earlier : List (List ℕ)) (part : Part) (rest : List ℕ) → IsProblem p → IsPartLine version p part → after_test earlier part.name ≡ true →
    lines_fault version (suc most) p first earlier (part_line part ++ rest) ≡ lines_fault version most p first (earlier ++ part.name ∷ []) rest
unfolding line_fault behind_symbols
past_part version most p first earlier part rest is is_line comes =
    let symbols : List ℕ = symbols_of part.tree in
    let line : BeginsWithPart p (part_line part ++ rest) = record {
      name = part.name;
      short = is_line.short;
      place = is_line.place;
      is_at = is_line.is_at;
      symbols = symbols_of part.tree;
      one_line = All-from_recursion (λ b. b ≢ 10) (symbols_of part.tree) (tree_one_line is_line.place part.tree is_line.fits);
      after = rest;
      text = refl;
    } in
    past_line version most p first earlier (part_line part ++ rest) is line
    ∙ rw (comes, tree_tested version is_line.place part.tree is_line.fits is_line.not_given is_line.can_spell, some_tree p part.name symbols is_line.place part.tree [] is is_line.is_at is_line.fits (sym (append-nil symbols))) refl

-- the name comes after the names before it
last_rises : (earlier : List (List ℕ)) (name : List ℕ) (more : List (List ℕ)) → AllPairs Precedes (earlier ++ name ∷ more) → AllByRecursion (λ other. Precedes other name) earlier
last_rises [] name more rising = tt
last_rises (x ∷ earlier) name more rising = (
  subst (Precedes x) (get_or-append_seam earlier name more name) (rising 0 (suc (length earlier)) name (omega arith) (omega (arith, length-append earlier (name ∷ more)))),
  last_rises earlier name more (λ i j d lt bound. rising (suc i) (suc j) d (omega arith) (omega arith)),
)

-- past parts that are as said
past_parts : (version : Version) (parts : List Part) (most : ℕ) (p : Problem) (first : ℕ) (earlier : List (List ℕ)) (rest : List ℕ) → IsProblem p → All (IsPartLine version p) parts → AllPairs Precedes (earlier ++ names parts) →
    lines_fault version (length parts + most) p first earlier (flat_map part_line parts ++ rest) ≡ lines_fault version most p first (earlier ++ names parts) rest
past_parts version [] most p first earlier rest is each rising =
    ap (λ n. lines_fault version n p first earlier rest) (let z : 0 + most ≡ most = omega arith in z) ∙ ap (λ l. lines_fault version most p first l rest) (sym (append-nil earlier))
past_parts version (part ∷ parts) most p first earlier rest is each rising =
    let group : (earlier ++ part.name ∷ []) ++ names parts ≡ earlier ++ part.name ∷ names parts = append_assoc earlier (part.name ∷ []) (names parts) in
    let more : suc (length parts) + most ≡ suc (length parts + most) = omega arith in
    ap (λ n. lines_fault version n p first earlier (flat_map part_line (part ∷ parts) ++ rest)) more
    ∙ ap (lines_fault version (suc (length parts + most)) p first earlier) (append_assoc (part_line part) (flat_map part_line parts) rest)
    ∙ past_part version (length parts + most) p first earlier part (flat_map part_line parts ++ rest) is (each 0 part (omega arith)) (after_yes earlier part.name (last_rises earlier part.name (names parts) rising))
    ∙ past_parts version parts most p first (earlier ++ part.name ∷ []) rest is (λ k d lt. each (suc k) d (omega arith)) (subst (AllPairs Precedes) (sym group) rising)
    ∙ ap (λ l. lines_fault version most p first l rest) group

-- ---- the fault of a line is the one that is met there

-- nothing but a part begins with the first word of one
no_first_word : (bytes : List ℕ) → ((after : List ℕ) → bytes ≡ codes "part " ++ after → ⊥) → tag_at (codes "part ") bytes ≡ None
no_first_word bytes never = by_cases (tag_at (codes "part ") bytes) refl
  where
    by_cases : (o : Option (List ℕ)) → tag_at (codes "part ") bytes ≡ o → o ≡ None
    by_cases None e = refl
    by_cases (Some after) e = absurd (never after (tag_takes (codes "part ") bytes after e))

-- no last line
no_last_line : (count : ℕ) (bytes : List ℕ) → ((after : List ℕ) → bytes ≡ end_line count ++ after → ⊥) → tag_at (end_line count) bytes ≡ None
no_last_line count bytes never = by_cases (tag_at (end_line count) bytes) refl
  where
    by_cases : (o : Option (List ℕ)) → tag_at (end_line count) bytes ≡ o → o ≡ None
    by_cases None e = refl
    by_cases (Some after) e = absurd (never after (tag_takes (end_line count) bytes after e))

-- a last line begins with no first word of a part
pub end_no_part : (count : ℕ) (rest : List ℕ) → tag_at (codes "part ") (end_line count ++ rest) ≡ None
end_no_part count rest = refl

-- no part line that stands there is read
none_at : (p : Problem) (after : List ℕ) → IsProblem p → ¬ BeginsWithPart p (codes "part " ++ after) → part_at p after ≡ None
none_at p after is never = by_cases (part_at p after) refl
  where
    by_cases : (o : Option ((List ℕ × List ℕ) × List ℕ)) → part_at p after ≡ o → o ≡ None
    by_cases None e = refl
    by_cases (Some x) e =
        let r = part_takes p after x.0.0 x.0.1 x.1 e in
        absurd (never (parsed_line p after x.0.0 x.0.1 x.1 r.place (at_means p x.0.0 r.place is r.goes) e))

-- the fault of the line behind the parts
line_met : (version : Version) (most : ℕ) (p : Problem) (first : ℕ) (parts : List Part) (line : ℕ) (bytes : List ℕ) (fault : CertFault) → IsProblem p → line ≡ first + length (names parts) → IsLineFault version p parts line bytes fault →
    lines_fault version (suc most) p first (names parts) bytes ≡ Some fault
unfolding line_fault behind_symbols behind_last
line_met version most p first parts line bytes (faults.Part n) is number (same, (after, text), never) =
    ap (lines_fault version (suc most) p first (names parts)) text ∙ past_word version most p first (names parts) after
    ∙ rw (none_at p after is (subst (λ l. ¬ BeginsWithPart p l) text never)) (ap (λ k. Some (faults.Part k)) (sym (same ∙ number)))
line_met version most p first parts line bytes (faults.Order n) is number (same, (part, never)) =
    past_line version most p first (names parts) bytes is part
    ∙ rw (fails (after_test (names parts) part.name) (comes_to parts part.name) never) (ap (λ k. Some (faults.Order k)) (sym (same ∙ number)))
line_met version most p first parts line bytes (faults.Symbol n) is number (same, (part, comes, never)) =
    past_line version most p first (names parts) bytes is part
    ∙ rw (comes_from parts part.name comes, fails (symbols_test version part.symbols) (symbols_to version part.symbols) never) (ap (λ k. Some (faults.Symbol k)) (sym (same ∙ number)))
line_met version most p first parts line bytes (faults.Unfinished n) is number (same, (part, comes, are, never)) =
    past_line version most p first (names parts) bytes is part
    ∙ rw (comes_from parts part.name comes, symbols_from version part.symbols are, no_tree p part.name part.symbols part.place is part.is_at never) (ap (λ k. Some (faults.Unfinished k)) (sym (same ∙ number)))
line_met version most p first parts line bytes (faults.Trailing n) is number (same, (part, comes, are, (tree, m, (b, rest, e)))) =
    past_line version most p first (names parts) bytes is part
    ∙ rw (comes_from parts part.name comes, symbols_from version part.symbols are, some_tree p part.name part.symbols part.place tree (b ∷ rest) is part.is_at m e) (ap (λ k. Some (faults.Trailing k)) (sym (same ∙ number)))
line_met version most p first parts line bytes (faults.End n) is number (inl (same, no_part', no_end')) =
    no_word version most p first (names parts) bytes (no_first_word bytes no_part')
    ∙ rw (no_last_line (length (names parts)) bytes (λ after e. no_end' after (e ∙ ap (λ k. end_line k ++ after) (length_names parts)))) (ap (λ k. Some (faults.End k)) (sym (same ∙ number)))
line_met version most p first parts line bytes (faults.End n) is number (inr (same, (b, after, text))) =
    let text' : bytes ≡ end_line (length (names parts)) ++ b ∷ after = text ∙ ap (λ k. end_line k ++ b ∷ after) (sym (length_names parts)) in
    no_word version most p first (names parts) bytes (ap (tag_at (codes "part ")) text' ∙ end_no_part (length (names parts)) (b ∷ after))
    ∙ rw (ap (tag_at (end_line (length (names parts)))) text' ∙ tag_again (end_line (length (names parts))) (b ∷ after)) (ap (λ k. Some (faults.End k)) (sym (same ∙ ap suc number)))
line_met version most p first parts line bytes _ is number why = absurd why

-- no fault is met in the last line
last_met : (version : Version) (most : ℕ) (p : Problem) (first : ℕ) (parts : List Part) → lines_fault version (suc most) p first (names parts) (end_line (length parts)) ≡ None
unfolding behind_last
last_met version most p first parts =
    let count : length parts ≡ length (names parts) = sym (length_names parts) in
    let text : end_line (length parts) ≡ end_line (length (names parts)) ++ [] = ap end_line count ∙ sym (append-nil (end_line (length (names parts)))) in
    no_word version most p first (names parts) (end_line (length parts)) (ap (tag_at (codes "part ")) text ∙ end_no_part (length (names parts)) [])
    ∙ rw (ap (tag_at (end_line (length (names parts)))) text ∙ tag_again (end_line (length (names parts))) []) refl

-- ---- behind the head

-- parts take some bytes each
parts_some : (parts : List Part) (rest : List ℕ) → length parts ≤ length (flat_map part_line parts ++ rest)
parts_some [] rest = omega arith
parts_some (part ∷ parts) rest =
    let h = part_line_some part (part_line part ++ (flat_map part_line parts ++ rest)) (flat_map part_line parts ++ rest) refl in
    omega (arith, h, parts_some parts rest, ap length (append_assoc (part_line part) (flat_map part_line parts) rest))

-- what is met behind a head is what is met behind the parts
parts_met : (version : Version) (p : Problem) (first : ℕ) (behind : List ℕ) (parts : List Part) (rest : List ℕ) → IsProblem p → AreParts version p behind parts rest →
    (most : ℕ) × (lines_fault version (suc (length behind)) p first [] behind ≡ lines_fault version (suc most) p first (names parts) rest)
parts_met version p first behind parts rest is are =
    let most : ℕ = length behind - length parts in
    let long : length parts ≤ length behind = omega (arith, parts_some parts rest, ap length are.text) in
    let enough : suc (length behind) ≡ length parts + suc most = omega arith in
    (most, ap (λ n. lines_fault version n p first [] behind) enough ∙ ap (lines_fault version (length parts + suc most) p first []) are.text ∙ past_parts version parts (suc most) p first [] rest is are.each_part are.rising)

-- the fault of the line behind the parts
fault_met : (version : Version) (p : Problem) (first : ℕ) (behind : List ℕ) (parts : List Part) (line : ℕ) (rest : List ℕ) (fault : CertFault) → IsProblem p → AreParts version p behind parts rest → line ≡ first + length parts →
    IsLineFault version p parts line rest fault → lines_fault version (suc (length behind)) p first [] behind ≡ Some fault
fault_met version p first behind parts line rest fault is are number why =
    let m = parts_met version p first behind parts rest is are in
    m.1 ∙ line_met version m.0 p first parts line rest fault is (omega (arith, length_names parts)) why

-- no fault where the last line ends the text
none_met : (version : Version) (p : Problem) (first : ℕ) (behind : List ℕ) (parts : List Part) → IsProblem p → AreParts version p behind parts (end_line (length parts)) → lines_fault version (suc (length behind)) p first [] behind ≡ None
none_met version p first behind parts is are = let m = parts_met version p first behind parts (end_line (length parts)) is are in m.1 ∙ last_met version m.0 p first parts

-- ---- the whole text

-- what stands behind the head
abbrev Behind : List ℕ → CertFault → Type 0
Behind bytes fault = (head : Head) × (parts : List Part) × (line : ℕ) × (rest : List ℕ) × BeginsWithParts bytes head parts line rest × IsLineFault head.version head.problem parts line rest fault

-- the parts that are stated behind the head
parsed_parts : (bytes : List ℕ) (head : Head) (parts : List Part) (line : ℕ) (rest : List ℕ) → BeginsWithParts bytes head parts line rest → AreParts head.version head.problem (flat_map part_line parts ++ rest) parts rest
parsed_parts bytes head parts line rest tells = record { each_part = tells.each_part; rising = tells.rising; text = refl }

-- the fault that is met behind the head that the bytes begin with
behind_met : (bytes : List ℕ) (head : Head) (behind : List ℕ) (fault : CertFault) → IsHead head → bytes ≡ head_text head ++ behind → Behind bytes fault → lines_fault head.version (suc (length behind)) head.problem (first_part head) [] behind ≡ Some fault
behind_met bytes head behind fault is text (other, parts, line, rest, tells, why) =
    let same = head_once head other behind (flat_map part_line parts ++ rest) is tells.is_head (sym text ∙ tells.text) in
    let problem : IsProblem other.problem = (tells.is_head).problem in
    ap (λ (h : Head). lines_fault h.version (suc (length behind)) h.problem (first_part h) [] behind) same.0 ∙ ap (λ l. lines_fault other.version (suc (length l)) other.problem (first_part other) [] l) same.1
    ∙ fault_met other.version other.problem (first_part other) (flat_map part_line parts ++ rest) parts line rest fault problem (parsed_parts bytes other parts line rest tells) tells.number why

-- no text is a script's and has a first fault
pub script_apart : (bytes : List ℕ) (script : Script) (fault : CertFault) → IsScriptOf bytes script → IsFirstFaultOfScript bytes fault → ⊥
script_apart bytes script fault of (inl is) = apart bytes script.head fault ((of.0).is_head, (flat_map part_line script.parts ++ end_line (length script.parts), of.1)) is
script_apart bytes script fault of (inr behind) =
    let is : IsScript script = of.0 in
    let problem : IsProblem script.head.problem = (is.is_head).problem in
    none-some fault
    (sym (none_met script.head.version script.head.problem (first_part script.head) (flat_map part_line script.parts ++ end_line (length script.parts)) script.parts problem (record { each_part = is.each_part; rising = is.rising; text = refl }))
    ∙ behind_met bytes script.head (flat_map part_line script.parts ++ end_line (length script.parts)) fault is.is_head of.1 behind)

-- no text has two first faults
pub one_script_fault : (bytes : List ℕ) (fault other : CertFault) → IsFirstFaultOfScript bytes fault → IsFirstFaultOfScript bytes other → fault ≡ other
one_script_fault bytes fault other (inl is) (inl also) = one_fault bytes fault other is also
one_script_fault bytes fault other (inl is) (inr (head, parts, line, rest, tells, why)) = absurd (apart bytes head fault (tells.is_head, (flat_map part_line parts ++ rest, tells.text)) is)
one_script_fault bytes fault other (inr (head, parts, line, rest, tells, why)) (inl also) = absurd (apart bytes head other (tells.is_head, (flat_map part_line parts ++ rest, tells.text)) also)
one_script_fault bytes fault other (inr (head, parts, line, rest, tells, why)) (inr also) =
    let behind : List ℕ = flat_map part_line parts ++ rest in
    same_Some fault other
    (sym (behind_met bytes head behind fault tells.is_head tells.text (head, parts, line, rest, tells, why)) ∙ behind_met bytes head behind other tells.is_head tells.text also)
