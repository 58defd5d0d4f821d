-- What the reader of parts meets, stated as a part or as a fault.
use Rattle.std.proofs.Common.{◌≡◌, ℕ, ◌+◌, ◌<◌, ◌≤◌, Bool, true, false, cond, ◌==◌, get_or, List, [], ◌∷◌, ◌++◌, length, Option, Some, None, refl, sym, ap, ◌∙◌, subst, arith, append_assoc, append-nil}
use Rattle.std.specs.Prelude.{codes, AllPairs}
use Rattle.std.specs.List.{flat_map}
use Rattle.std.specs.Fmt.{decimal}
use Rattle.std.proofs.lemmas.List.Elements.{All-push}
use Rattle.std.proofs.lemmas.List.Quantifiers.{all_pairs_push}
use Rattle.std.proofs.lemmas.List.{get_or-map, length-map, map-append, flat_map_more}
use Rattle.crp_plan.specs.Bay.{Problem, Position, IsAt}
use Rattle.crp_tree.specs.Tree.{Tree}
use Rattle.crp_tree.specs.Names.{Precedes, name_text}
use Rattle.crp_tree.specs.Claims.{Part, names}
use Rattle.crp_cert.specs.declared.head.Head.{Head}
use Rattle.crp_cert.specs.declared.fault.CertFault.{CertFault}
use Rattle.crp_cert.specs.declared.version.Version.{Version}
use Rattle.crp_cert.specs.Text.{head_text, first_part, IsHead}
use Rattle.crp_cert.specs.Script.{symbols_of, part_line, end_line, IsPartLine}
use Rattle.crp_cert.specs.ScriptFaults.{BeginsWithPart, ComesAfter, BeginsWithParts, IsLineFault, GoesOnBehindTree}
use Rattle.crp_cert.specs.Reading.{◌>>=◌, tag_at, newline_at}
use Rattle.crp_cert.specs.PartReading.{part_at, AreParts}
use Rattle.std.proofs.lemmas.Option.{none-some}
use Rattle.crp_cert.proofs.Numbers.{tag_takes, tag_again}
use Rattle.crp_cert.proofs.PartLines.{begins_with}
use Rattle.crp_tree.specs.Trees.{Fits}

-- ---- one part line

-- the part line that was read
abbrev pub parsed_line : (p : Problem) (bytes name symbols after : List ℕ) (s : Position) → IsAt p name s → part_at p bytes ≡ Some ((name, symbols), after) → BeginsWithPart p (codes "part " ++ bytes)
parsed_line p bytes name symbols after s is_at e = record {
  name = name;
  short = (begins_with p bytes name symbols after e).0;
  place = s;
  is_at = is_at;
  symbols = symbols;
  one_line = (begins_with p bytes name symbols after e).1;
  after = after;
  text = (begins_with p bytes name symbols after e).2;
}

-- something is left
pub left_over : (symbols left : List ℕ) (s : Position) (tree : Tree) → Fits s tree → symbols ≡ symbols_of tree ++ left → 0 < length left → GoesOnBehindTree s symbols
left_over symbols [] s tree m e some = absurd (omega arith)
left_over symbols (b ∷ left) s tree m e some = (tree, m, (b, left, e))

-- nothing is left
pub all_used : (symbols left : List ℕ) (tree : Tree) → symbols ≡ symbols_of tree ++ left → length left ≡ 0 → symbols ≡ symbols_of tree
all_used symbols [] tree e none = e ∙ append-nil (symbols_of tree)
all_used symbols (b ∷ left) tree e none = absurd (omega arith)

-- ---- several

-- no part yet
pub no_parts : (version : Version) (p : Problem) (bytes : List ℕ) → AreParts version p bytes [] bytes
no_parts version p bytes = record { each_part = λ k d lt. absurd (omega arith); rising = λ i j d lt bound. absurd (omega arith); text = refl }

-- one part more
pub parts_push : (version : Version) (p : Problem) (bytes : List ℕ) (parts more : List Part) (part : Part) (rest after : List ℕ) → more ≡ parts ++ part ∷ [] → AreParts version p bytes parts rest → IsPartLine version p part → ComesAfter parts part.name →
    rest ≡ part_line part ++ after → AreParts version p bytes more after
parts_push version p bytes parts more part rest after is are line comes e =
    subst (λ l. AreParts version p bytes l after) (sym is)
    (record {
      each_part = All-push (IsPartLine version p) parts part are.each_part line;
      rising = subst (AllPairs Precedes) (sym (map-append (λ (x : Part). x.name) parts (part ∷ []))) (all_pairs_push Precedes (names parts) part.name are.rising (λ k d lt. each_comes k d lt));
      text = are.text ∙ ap (λ l. flat_map part_line parts ++ l) e ∙ sym (append_assoc (flat_map part_line parts) (part_line part) after) ∙ ap (λ l. l ++ after) (flat_map_more part_line [] parts part);
    })
  where
    each_comes : (k : ℕ) (d : List ℕ) → k < length (names parts) → Precedes (get_or (names parts) k d) part.name
    each_comes k d lt =
        let within : k < length parts = omega (arith, length-map parts (λ (x : Part). x.name)) in
        subst (λ n. Precedes n part.name) (sym (get_or-map (λ x. x.name) parts k part d within)) (comes k part within)

-- a part line takes some bytes
pub part_line_some : (part : Part) (rest after : List ℕ) → rest ≡ part_line part ++ after → length after < length rest
part_line_some part rest after e = omega (arith, ap length e, grows (codes "art " ++ (name_text part.name ++ (codes ": " ++ (symbols_of part.tree ++ 10 ∷ [])))))
  where
    grows : (line : List ℕ) → length after ≤ length (line ++ after)
    grows [] = omega arith
    grows (b ∷ line) = let h = grows line in omega arith

-- ---- the last line

-- a tag of two pieces
pub tag_join : (a b bytes : List ℕ) → tag_at (a ++ b) bytes ≡ (tag_at a bytes >>= λ rest. tag_at b rest)
tag_join [] b bytes = refl
tag_join (t ∷ a) b [] = refl
tag_join (t ∷ a) b (x ∷ bytes) = by_test (x == t) (tag_join a b bytes)
  where
    by_test : (same : Bool) → tag_at (a ++ b) bytes ≡ (tag_at a bytes >>= λ rest. tag_at b rest) →
        cond same (tag_at (a ++ b) bytes) None ≡ (cond same (tag_at a bytes) None >>= λ rest. tag_at b rest)
    by_test true e = e
    by_test false e = refl

-- the end of the line is a tag
newline_tag : (bytes : List ℕ) → newline_at bytes ≡ tag_at (10 ∷ []) bytes
newline_tag [] = refl
newline_tag (b ∷ bytes) = refl

-- the last line, piece by piece
end_pieces : (count : ℕ) (bytes : List ℕ) → tag_at (end_line count) bytes ≡ (tag_at (codes "end ") bytes >>= λ rest. (tag_at (decimal count) rest >>= newline_at))
end_pieces count bytes =
    let digits : List ℕ = decimal count in
    ap (λ l. tag_at (codes "end " ++ (l ++ 10 ∷ [])) bytes) (append-nil digits)
    ∙ tag_join (codes "end ") (digits ++ 10 ∷ []) bytes ∙ behind digits (tag_at (codes "end ") bytes)
  where
    last : (o : Option (List ℕ)) → (o >>= λ rest. tag_at (10 ∷ []) rest) ≡ (o >>= newline_at)
    last None = refl
    last (Some rest) = sym (newline_tag rest)

    behind : (digits : List ℕ) (o : Option (List ℕ)) → (o >>= λ rest. tag_at (digits ++ 10 ∷ []) rest) ≡ (o >>= λ rest. (tag_at digits rest >>= newline_at))
    behind digits None = refl
    behind digits (Some rest) = tag_join digits (10 ∷ []) rest ∙ last (tag_at digits rest)

-- no digits where they should stand
pub end_stops : (count : ℕ) (bytes rest digits : List ℕ) → tag_at (codes "end ") bytes ≡ Some rest → digits ≡ decimal count → tag_at digits rest ≡ None → tag_at (end_line count) bytes ≡ None
end_stops count bytes rest digits e is none =
    end_pieces count bytes ∙ ap (λ o. o >>= λ r. (tag_at (decimal count) r >>= newline_at)) e ∙ ap (λ d. tag_at d rest >>= newline_at) (sym is) ∙ ap (λ o. o >>= newline_at) none

-- the first word and the digits
pub end_reads : (count : ℕ) (bytes rest digits after : List ℕ) → tag_at (codes "end ") bytes ≡ Some rest → digits ≡ decimal count → tag_at digits rest ≡ Some after → tag_at (end_line count) bytes ≡ newline_at after
end_reads count bytes rest digits after e is some =
    end_pieces count bytes ∙ ap (λ o. o >>= λ r. (tag_at (decimal count) r >>= newline_at)) e ∙ ap (λ d. tag_at d rest >>= newline_at) (sym is) ∙ ap (λ o. o >>= newline_at) some

-- the fault of a line, stated of the same line
pub same_line : (version : Version) (p : Problem) (parts parts' : List Part) (n n' : ℕ) (bytes bytes' : List ℕ) (fault : CertFault) → parts ≡ parts' → n ≡ n' → bytes ≡ bytes' → IsLineFault version p parts n bytes fault → IsLineFault version p parts' n' bytes' fault
same_line version p parts parts' n n' bytes bytes' fault e f g is =
    subst (λ l. IsLineFault version p l n' bytes' fault) e (subst (λ k. IsLineFault version p parts k bytes' fault) f (subst (λ l. IsLineFault version p parts n l fault) g is))

-- ---- behind a head

-- a head and parts behind it
pub tells_parts : (bytes : List ℕ) (head : Head) (behind : List ℕ) (parts : List Part) (line : ℕ) (rest : List ℕ) → IsHead head → bytes ≡ head_text head ++ behind → AreParts head.version head.problem behind parts rest →
    line ≡ first_part head + length parts → BeginsWithParts bytes head parts line rest
tells_parts bytes head behind parts line rest is text are n = record {
  is_head = is;
  each_part = are.each_part;
  rising = are.rising;
  text = text ∙ ap (λ l. head_text head ++ l) are.text;
  number = n;
}

-- no last line behind the parts
pub no_last : (count : ℕ) (bytes : List ℕ) → tag_at (end_line count) bytes ≡ None → (after : List ℕ) → bytes ≡ end_line count ++ after → ⊥
no_last count bytes e after f = none-some after (sym e ∙ ap (tag_at (end_line count)) f ∙ tag_again (end_line count) after)

-- and no part line
pub no_further : (bytes : List ℕ) → tag_at (codes "part ") bytes ≡ None → (after : List ℕ) → bytes ≡ codes "part " ++ after → ⊥
no_further bytes e after f = none-some after (sym e ∙ ap (tag_at (codes "part ")) f ∙ tag_again (codes "part ") after)

-- something stands behind the last line
pub more_behind : (count : ℕ) (bytes after : List ℕ) → tag_at (end_line count) bytes ≡ Some after → 0 < length after → (b : ℕ) × (rest : List ℕ) × (bytes ≡ end_line count ++ b ∷ rest)
more_behind count bytes [] e some = absurd (omega arith)
more_behind count bytes (b ∷ rest) e some = (b, rest, tag_takes (end_line count) bytes (b ∷ rest) e)

-- nothing does
pub none_behind : (count : ℕ) (bytes after : List ℕ) → tag_at (end_line count) bytes ≡ Some after → length after ≡ 0 → bytes ≡ end_line count
none_behind count bytes [] e none = tag_takes (end_line count) bytes [] e ∙ append-nil (end_line count)
none_behind count bytes (b ∷ rest) e none = absurd (omega arith)
