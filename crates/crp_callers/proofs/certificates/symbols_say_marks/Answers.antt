use Rattle.std.proofs.Common.{◌≡◌, ◌≢◌, ◌∙◌, ℕ, List, [], ◌∷◌, ◌++◌, ap, refl, sym, subst, arith, map, if◌then◌else◌, ◌==◌}
use Rattle.std.specs.List.{AllByRecursion, flat_map}
use Rattle.crp_tree.specs.Mark.{Mark, B, L, R, X, G}
use Rattle.crp_tree.specs.Trees.{Node, nodes, spelled}
use Rattle.crp_callers.proofs.certificates.symbols_say_marks.Goals as goal

-- the mark of a letter
abbrev mark_of : ℕ → Mark
mark_of b = if b == 66 then B else (if b == 76 then L else (if b == 88 then X else G))

abbrev first_byte : List ℕ → ℕ
first_byte [] = 0
first_byte (b ∷ bytes) = b

abbrev behind_first : List ℕ → List ℕ
behind_first [] = []
behind_first (b ∷ bytes) = bytes

-- bytes of which none is a bracket
abbrev Letters : List ℕ → Type 0
Letters bytes = AllByRecursion (λ b. b ≢ 91) bytes

-- the first of some bytes is the letter of a mark, and the others follow
record Begins (mark : Mark) (others bytes : List ℕ) : Type 0 where
  letter : ℕ
  rest : List ℕ
  bytes_are : bytes ≡ letter ∷ rest
  others_are : others ≡ rest
  mark_is : mark ≡ mark_of letter

by_letter : (c : ℕ) (others bytes : List ℕ) → c ∷ others ≡ bytes → Begins (mark_of c) others bytes
by_letter c others [] e = absurd cc
by_letter c others (b ∷ rest) e = record { letter = b; rest = rest; bytes_are = refl; others_are = ap behind_first e; mark_is = ap (λ l. mark_of (first_byte l)) e }

no_bracket : (others bytes : List ℕ) → Letters bytes → 91 ∷ others ≡ bytes → ⊥
no_bracket others [] all e = cc
no_bracket others (b ∷ rest) all e = all.0 (sym (ap first_byte e))

begins : (mark : Mark) (others bytes : List ℕ) → Letters bytes → spelled mark ++ others ≡ bytes → Begins mark others bytes
begins B others bytes all e = by_letter 66 others bytes e
begins L others bytes all e = by_letter 76 others bytes e
begins (R bound text) others bytes all e = absurd (no_bracket _ bytes all e)
begins X others bytes all e = by_letter 88 others bytes e
begins G others bytes all e = by_letter 71 others bytes e

marks_back : (list : List Node) (bytes : List ℕ) → Letters bytes → flat_map (λ node. spelled node.mark) list ≡ bytes → map (λ node. node.mark) list ≡ map mark_of bytes
marks_back [] [] all e = refl
marks_back [] (b ∷ bytes) all e = absurd cc
marks_back (node ∷ list) bytes all e =
    let k = begins node.mark (flat_map (λ n. spelled n.mark) list) bytes all e in
    let more = marks_back list k.rest (subst Letters k.bytes_are all).1 k.others_are in
    ap (λ m. m ∷ map (λ n. n.mark) list) k.mark_is ∙ ap (λ l. mark_of k.letter ∷ l) more ∙ ap (map mark_of) (sym k.bytes_are)

pub returns : goal.returns
returns c = λ path s tree fits is.
    marks_back (nodes path s tree) (88 ∷ 66 ∷ 76 ∷ []) ((λ e. absurd (omega (arith, e))), ((λ e. absurd (omega (arith, e))), ((λ e. absurd (omega (arith, e))), tt)))
    (c.symbols_are_marks.ensures path s tree fits ∙ is)
