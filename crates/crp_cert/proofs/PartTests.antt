-- The tests of a part line: the place of its name, and its symbols.
use Rattle.std.proofs.Common.{◌≡◌, ◌≢◌, ℕ, zero, suc, ◌≤◌, ⊎_elim, Bool, true, false, cond, ◌==◌, List, [], ◌∷◌, ◌++◌, length, Option, Some, None, refl, sym, ap, ap₂, ◌∙◌, subst, arith, append_assoc, append-nil}
use Rattle.std.specs.Prelude.{codes, ◌||◌, ◌&&◌}
use Rattle.std.specs.List.{list_all, flat_map, AllByRecursion}
use Rattle.std.specs.Fmt.{decimal}
use Rattle.std.proofs.lemmas.Option.{none-some}
use Rattle.std.proofs.lemmas.Grind.{flat_map-append}
use Rattle.crp_row.specs.Reasons.{IsReasonByte, reasons_text}
use Rattle.std.specs.Ordering.{nat_cmp, is_lt}
use Rattle.std.specs.Cmp.Lexicographic.{slice_cmp}
use Rattle.std.proofs.lemmas.Bool.{cases_Bool, eqb-true}
use Rattle.std.proofs.lemmas.List.Elements.{recursion_from_All, All-from_recursion}
use Rattle.crp_plan.specs.Bay.{Position}
use Rattle.crp_bay.specs.Positions.{targets, child}
use Rattle.crp_tree.specs.Tree.{Tree, CutB, CutL, CutR, Branch, Given, Trees, no_trees, one_and}
use Rattle.crp_tree.specs.Names.{Precedes}
use Rattle.crp_tree.specs.Mark.{Mark, B, L, R, X, G}
use Rattle.crp_tree.specs.Trees.{IsGivenAway, Fits, FitsEach, spelled}
use Rattle.crp_tree.proofs.Ordered.{before_test}
use Rattle.crp_tree.specs.Claims.{Part, names}
use Rattle.crp_cert.specs.declared.version.Version.{Version}
use Rattle.crp_cert.specs.declared.version.Version.TheVariants.{One, Two, Three}
use Rattle.crp_cert.specs.Script.{symbols_of, symbols_of_each, has_reasons, some_has_reasons, CanSpell}
use Rattle.crp_cert.specs.ScriptFaults.{ComesAfter, MaySpell, AreMarks, AreSymbols}
use Rattle.crp_cert.specs.Reading.{is_reason_byte, reasons_at}
use Rattle.crp_cert.specs.PartReading.{option_all, symbol_test, spells_reasons, marks_within, marks_test}
use Rattle.crp_cert.proofs.Readers.{all_to, all_from, none_read}
use Rattle.crp_cert.proofs.Settled.{digits_apart}
use Rattle.crp_cert.proofs.Reasons.{Reasons, text_of, byte_from, reasons_reader, shorter, opens}

-- ---- tests of a part line

-- the name comes after these names
abbrev pub after_test : List (List ℕ) → List ℕ → Bool
after_test names name = list_all (λ other. is_lt (slice_cmp nat_cmp other name)) names

-- what holds of the names holds of the parts
of_parts : (P : List ℕ → Type 0) (parts : List Part) → AllByRecursion P (names parts) → AllByRecursion (λ (part : Part). P part.name) parts
of_parts P [] all = tt
of_parts P (part ∷ parts) all = (all.0, of_parts P parts all.1)

-- and back
of_names : (P : List ℕ → Type 0) (parts : List Part) → AllByRecursion (λ (part : Part). P part.name) parts → AllByRecursion P (names parts)
of_names P [] all = tt
of_names P (part ∷ parts) all = (all.0, of_names P parts all.1)

-- names that all precede pass the test
pub after_yes : (names : List (List ℕ)) (name : List ℕ) → AllByRecursion (λ other. Precedes other name) names → after_test names name ≡ true
after_yes names name all = all_from (λ other. Precedes other name) (λ other. is_lt (slice_cmp nat_cmp other name)) (λ other p. (before_test other name (slice_cmp nat_cmp other name) refl).1 p) names all

-- a name that comes after the parts passes the test
pub comes_from : (parts : List Part) (name : List ℕ) → ComesAfter parts name → after_test (names parts) name ≡ true
comes_from parts name comes = after_yes (names parts) name (of_names (λ other. Precedes other name) parts (recursion_from_All (λ (part : Part). Precedes part.name name) parts comes))

-- and one that passes comes after them
pub comes_to : (parts : List Part) (name : List ℕ) → after_test (names parts) name ≡ true → ComesAfter parts name
comes_to parts name e =
    All-from_recursion (λ (part : Part). Precedes part.name name) parts
    (of_parts (λ other. Precedes other name) parts (all_to (λ other. Precedes other name) (λ other. is_lt (slice_cmp nat_cmp other name)) (λ other t. (before_test other name (slice_cmp nat_cmp other name) refl).0 t) (names parts) e))

-- a test that cannot pass fails
pub fails : {P : Type 0} (b : Bool) → (b ≡ true → P) → ¬ P → b ≡ false
fails b tells never = ⊎_elim (λ t. absurd (never (tells t))) (λ f. f) (cases_Bool b)

-- what holds of each of two lists holds of them joined
both : {X : Type 0} (P : X → Type 0) (a b : List X) → AllByRecursion P a → AllByRecursion P b → AllByRecursion P (a ++ b)
both P [] b all more = more
both P (x ∷ a) b all more = (all.0, both P a b all.1 more)

-- one byte that is a symbol spells a mark
symbol_spells : (version : Version) (b : ℕ) → symbol_test b ≡ true → (mark : Mark) × MaySpell version mark × (b ∷ [] ≡ spelled mark)
symbol_spells version b e = ⊎_elim
    (λ is. (B, tt, ap (λ x. x ∷ []) (eqb-true b 66 is)))
    (λ other. ⊎_elim
    (λ is. (L, tt, ap (λ x. x ∷ []) (eqb-true b 76 is)))
    (λ third. ⊎_elim
    (λ is. (X, tt, ap (λ x. x ∷ []) (eqb-true b 88 is)))
    (λ fourth. (G, tt, ap (λ x. x ∷ []) (eqb-true b 71 (last (b == 66) (b == 76) (b == 88) (b == 71) other third fourth e))))
    (cases_Bool (b == 88)))
    (cases_Bool (b == 76)))
    (cases_Bool (b == 66))
  where
    last : (x y z w : Bool) → x ≡ false → y ≡ false → z ≡ false → (x || (y || (z || w))) ≡ true → w ≡ true
    last x y z w f g h e = rw (f, g, h) at e

-- ---- whether bytes spell marks

-- what was read passes one test exactly where it passes another
same_all : {A : Type 0} (first second : A → Bool) (o : Option A) → ((x : A) → o ≡ Some x → first x ≡ second x) → option_all first o ≡ option_all second o
same_all first second None same = refl
same_all first second (Some x) same = same x refl

-- where two limits suffice, the test is the same
same_within : (m n : ℕ) (version : Version) (bytes : List ℕ) → length bytes ≤ m → length bytes ≤ n → marks_within m version bytes ≡ marks_within n version bytes
same_within m n version [] le le' = refl
same_within zero n version (b ∷ bytes) le le' = absurd (omega arith)
same_within (suc m) zero version (b ∷ bytes) le le' = absurd (omega arith)
same_within (suc m) (suc n) version (b ∷ bytes) le le' =
    ap₂ (λ x y. cond (symbol_test b) x y) (same_within m n version bytes (omega arith) (omega arith))
    (ap (λ o. cond (spells_reasons version) o false)
    (same_all (λ x. marks_within m version x.1) (λ x. marks_within n version x.1) (reasons_at (b ∷ bytes))
    (λ x e. let few = shorter (b ∷ bytes) x.0 x.1 e in same_within m n version x.1 (omega arith) (omega arith))))

-- more marks than are needed may be allowed
within_more : (most : ℕ) (version : Version) (bytes : List ℕ) → length bytes ≤ most → marks_within most version bytes ≡ marks_test version bytes
within_more most version bytes le = same_within most (length bytes) version bytes le (omega arith)

-- a symbol of one byte is passed
pub test_symbol : (version : Version) (b : ℕ) (bytes : List ℕ) → symbol_test b ≡ true → marks_test version (b ∷ bytes) ≡ marks_test version bytes
test_symbol version b bytes e = rw e refl

-- reasons are passed
pub test_reasons : (version : Version) (bytes : List ℕ) (x : Reasons) (rest : List ℕ) → version ≡ Three → reasons_at bytes ≡ Some (x, rest) → marks_test version bytes ≡ marks_test version rest
test_reasons version [] x rest is e = absurd (none-some (x, rest) (sym (none_read reasons_reader [] (λ stands. nothing stands.0 stands.2.0 stands.2.1)) ∙ e))
  where
    nothing : (y : Reasons) (r : List ℕ) → [] ≡ text_of y ++ r → ⊥
    nothing y r f = cc
test_reasons version (b ∷ bytes) x rest is e =
    let bracket : b ≡ 91 = opens b bytes x rest e in
    let no' : symbol_test b ≡ false = ap symbol_test bracket in
    rw (no', ap spells_reasons is, e) (let few = shorter (b ∷ bytes) x rest e in within_more (length bytes) version rest (omega arith))

-- another byte is not
pub test_none : (version : Version) (b : ℕ) (bytes : List ℕ) → symbol_test b ≡ false → (version ≡ Three → reasons_at (b ∷ bytes) ≡ None) → marks_test version (b ∷ bytes) ≡ false
test_none One b bytes e none = rw e refl
test_none Two b bytes e none = rw e refl
test_none Three b bytes e none = rw (e, none refl) refl

-- what passes the test spells marks
marks_to : (most : ℕ) (version : Version) (bytes : List ℕ) → marks_within most version bytes ≡ true → AreMarks version bytes
marks_to most version [] e = record { marks = []; each = tt; are = refl }
marks_to zero version (b ∷ bytes) e = absurd cc
marks_to (suc most) version (b ∷ bytes) e = by_symbol (λ rest f. marks_to most version rest f) (symbol_test b) refl e
  where
    Go : Type 0
    Go = (rest : List ℕ) → marks_within most version rest ≡ true → AreMarks version rest

    one_more : (mark : Mark) (rest : List ℕ) → MaySpell version mark → b ∷ bytes ≡ spelled mark ++ rest → AreMarks version rest → AreMarks version (b ∷ bytes)
    one_more mark rest may text are = record { marks = mark ∷ are.marks; each = (may, are.each); are = text ∙ ap (λ l. spelled mark ++ l) are.are }

    by_reasons : Go → (version ≡ Three) → (o : Option (Reasons × List ℕ)) → reasons_at (b ∷ bytes) ≡ o → option_all (λ x. marks_within most version x.1) o ≡ true → AreMarks version (b ∷ bytes)
    by_reasons go is None f g = absurd cc
    by_reasons go is (Some x) f g = let t = reasons_reader.takes (b ∷ bytes) x.0 x.1 f in one_more (R x.0.0 x.0.1) x.1 (is, t.0) t.1 (go x.1 g)

    by_version : Go → (v : Version) → version ≡ v → cond (spells_reasons v) (option_all (λ x. marks_within most version x.1) (reasons_at (b ∷ bytes))) false ≡ true → AreMarks version (b ∷ bytes)
    by_version go One is f = absurd cc
    by_version go Two is f = absurd cc
    by_version go Three is f = by_reasons go is (reasons_at (b ∷ bytes)) refl f

    by_symbol : Go → (t : Bool) → symbol_test b ≡ t → cond t (marks_within most version bytes) (cond (spells_reasons version) (option_all (λ x. marks_within most version x.1) (reasons_at (b ∷ bytes))) false) ≡ true →
        AreMarks version (b ∷ bytes)
    by_symbol go true is f = let s = symbol_spells version b is in one_more s.0 bytes s.1 (ap (λ l. l ++ bytes) s.2) (go bytes f)
    by_symbol go false is f = by_version go version refl f

-- and back
marks_from : (version : Version) (marks : List Mark) (bytes : List ℕ) → AllByRecursion (MaySpell version) marks → bytes ≡ flat_map spelled marks → marks_test version bytes ≡ true
marks_from version [] bytes each e = ap (marks_test version) e
marks_from version (B ∷ marks) bytes each e = ap (marks_test version) e ∙ marks_from version marks (flat_map spelled marks) each.1 refl
marks_from version (L ∷ marks) bytes each e = ap (marks_test version) e ∙ marks_from version marks (flat_map spelled marks) each.1 refl
marks_from version (X ∷ marks) bytes each e = ap (marks_test version) e ∙ marks_from version marks (flat_map spelled marks) each.1 refl
marks_from version (G ∷ marks) bytes each e = ap (marks_test version) e ∙ marks_from version marks (flat_map spelled marks) each.1 refl
marks_from version (R bound text ∷ marks) bytes each e =
    ap (marks_test version) e
    ∙ test_reasons version (reasons_text bound text ++ flat_map spelled marks) (bound, text) (flat_map spelled marks) each.0.0 (reasons_reader.again (bound, text) (flat_map spelled marks) each.0.1)
    ∙ marks_from version marks (flat_map spelled marks) each.1 refl

pub are_marks_to : (version : Version) (bytes : List ℕ) → marks_test version bytes ≡ true → AreMarks version bytes
are_marks_to version bytes e = marks_to (length bytes) version bytes e

pub are_marks_from : (version : Version) (bytes : List ℕ) → AreMarks version bytes → marks_test version bytes ≡ true
are_marks_from version bytes are = marks_from version are.marks bytes are.each are.are

-- the first of them is not G
abbrev first_test : List ℕ → Bool
first_test [] = true
first_test (b ∷ symbols) = cond (b == 71) false true

first_to : (symbols : List ℕ) → first_test symbols ≡ true → (rest : List ℕ) → symbols ≡ codes "G" ++ rest → ⊥
first_to [] e rest f = absurd cc
first_to (b ∷ symbols) e rest f = let g : first_test (71 ∷ rest) ≡ true = subst (λ l. first_test l ≡ true) f e in cc

first_from : (symbols : List ℕ) → ((rest : List ℕ) → symbols ≡ codes "G" ++ rest → ⊥) → first_test symbols ≡ true
first_from [] never = refl
first_from (b ∷ symbols) never = ⊎_elim
    (λ is. absurd (never symbols (ap (λ x. x ∷ symbols) (eqb-true b 71 is))))
    (λ other. rw other refl)
    (cases_Bool (b == 71))

-- they spell marks, and the first is not G
abbrev pub symbols_test : Version → List ℕ → Bool
symbols_test version symbols = first_test symbols && marks_test version symbols

-- both tests are passed
halves : (x y : Bool) → (x && y) ≡ true → (x ≡ true) × (y ≡ true)
halves true y e = (refl, e)
halves false y e = absurd cc

pub symbols_to : (version : Version) (symbols : List ℕ) → symbols_test version symbols ≡ true → AreSymbols version symbols
symbols_to version symbols e =
    let two = halves (first_test symbols) (marks_test version symbols) e in
    record { marks = are_marks_to version symbols two.1; not_first = first_to symbols two.0 }

pub symbols_from : (version : Version) (symbols : List ℕ) → AreSymbols version symbols → symbols_test version symbols ≡ true
symbols_from version symbols are = rw (first_from symbols are.not_first) (are_marks_from version symbols are.marks)

-- symbols of a part begin with those of no tree that is given as a whole
pub none_given : (version : Version) (symbols rest : List ℕ) (tree : Tree) → AreSymbols version symbols → symbols ≡ symbols_of tree ++ rest → IsGivenAway tree → ⊥
none_given version symbols rest CutB are e g = g
none_given version symbols rest CutL are e g = g
none_given version symbols rest (CutR bound text) are e g = g
none_given version symbols rest (Branch all) are e g = g
none_given version symbols rest Given are e g = are.not_first rest e

-- ---- the symbols of a tree

-- marks of two lists are marks of both
both_marks : (version : Version) (a b : List ℕ) → AreMarks version a → AreMarks version b → AreMarks version (a ++ b)
both_marks version a b first second = record {
  marks = first.marks ++ second.marks;
  each = both (MaySpell version) first.marks second.marks first.each second.each;
  are = ap (λ l. l ++ b) first.are ∙ ap (λ l. flat_map spelled first.marks ++ l) second.are ∙ sym (flat_map-append spelled first.marks second.marks);
}

-- one mark
one_mark : (version : Version) (mark : Mark) → MaySpell version mark → AreMarks version (spelled mark)
one_mark version mark may = record { marks = mark ∷ []; each = (may, tt); are = sym (append-nil (spelled mark)) }

or_second : (x y : Bool) → y ≡ true → (x || y) ≡ true
or_second true y e = refl
or_second false y e = e

-- the symbols of a tree that fits and can be spelled are marks
mutual
  tree_marks : (version : Version) (s : Position) (tree : Tree) → Fits s tree → (has_reasons tree ≡ true → version ≡ Three) → AreMarks version (symbols_of tree)
  tree_marks version s CutB m only = one_mark version B tt
  tree_marks version s CutL m only = one_mark version L tt
  tree_marks version s (CutR bound text) m only = one_mark version (R bound text) (only refl, m)
  tree_marks version s Given m only = one_mark version G tt
  tree_marks version s (Branch all) m only = both_marks version (codes "X") (symbols_of_each all) (one_mark version X tt) (each_marks version s (targets s) all m only)

  each_marks : (version : Version) (s : Position) (rows : List ℕ) (all : Trees) → FitsEach s rows all → (some_has_reasons all ≡ true → version ≡ Three) → AreMarks version (symbols_of_each all)
  each_marks version s [] no_trees m only = record { marks = []; each = tt; are = refl }
  each_marks version s [] (one_and tree trees) m only = absurd m
  each_marks version s (row ∷ rows) no_trees m only = absurd m
  each_marks version s (row ∷ rows) (one_and tree trees) m only =
      both_marks version (symbols_of tree) (symbols_of_each trees) (tree_marks version (child s row) tree m.0 (λ e. only (rw e refl)))
      (each_marks version s rows trees m.1 (λ e. only (or_second (has_reasons tree) (some_has_reasons trees) e)))

-- only version 3 spells reasons
pub reasons_in_three : (version : Version) (tree : Tree) → CanSpell version tree → has_reasons tree ≡ true → version ≡ Three
reasons_in_three One tree can e = let f : true ≡ false = sym e ∙ can in cc
reasons_in_three Two tree can e = let f : true ≡ false = sym e ∙ can in cc
reasons_in_three Three tree can e = refl

-- what symbols of a version spell can be spelled by it
mutual
  spelled_before : (version : Version) (s : Position) (tree : Tree) (rest : List ℕ) → Fits s tree → marks_test version (symbols_of tree ++ rest) ≡ true → (has_reasons tree ≡ true → version ≡ Three) × (marks_test version rest ≡ true)
  spelled_before version s CutB rest m e = (λ f. cc, e)
  spelled_before version s CutL rest m e = (λ f. cc, e)
  spelled_before version s Given rest m e = (λ f. cc, e)
  spelled_before One s (CutR bound text) rest m e = absurd cc
  spelled_before Two s (CutR bound text) rest m e = absurd cc
  spelled_before Three s (CutR bound text) rest m e = (λ f. refl, sym (test_reasons Three (reasons_text bound text ++ rest) (bound, text) rest refl (reasons_reader.again (bound, text) rest m)) ∙ e)
  spelled_before version s (Branch all) rest m e = spelled_each_before version s (targets s) all rest m e

  spelled_each_before : (version : Version) (s : Position) (rows : List ℕ) (all : Trees) (rest : List ℕ) → FitsEach s rows all → marks_test version (symbols_of_each all ++ rest) ≡ true →
      (some_has_reasons all ≡ true → version ≡ Three) × (marks_test version rest ≡ true)
  spelled_each_before version s [] no_trees rest m e = (λ f. cc, e)
  spelled_each_before version s [] (one_and tree trees) rest m e = absurd m
  spelled_each_before version s (row ∷ rows) no_trees rest m e = absurd m
  spelled_each_before version s (row ∷ rows) (one_and tree trees) rest m e =
      let one = spelled_before version (child s row) tree (symbols_of_each trees ++ rest) m.0 (ap (marks_test version) (sym (append_assoc (symbols_of tree) (symbols_of_each trees) rest)) ∙ e) in
      let others = spelled_each_before version s rows trees rest m.1 one.1 in
      (λ f. by_first (has_reasons tree) refl f one.0 others.0, others.1)
    where
      by_first : (x : Bool) → has_reasons tree ≡ x → (x || some_has_reasons trees) ≡ true → (has_reasons tree ≡ true → version ≡ Three) → (some_has_reasons trees ≡ true → version ≡ Three) → version ≡ Three
      by_first true is f here there = here is
      by_first false is f here there = there f

pub can_spell : (version : Version) (s : Position) (tree : Tree) (symbols rest : List ℕ) → Fits s tree → symbols ≡ symbols_of tree ++ rest → AreSymbols version symbols → CanSpell version tree
can_spell version s tree symbols rest m e are =
    by_version version (spelled_before version s tree rest m (ap (marks_test version) (sym e) ∙ are_marks_from version symbols are.marks)).0
  where
    by_version : (v : Version) → (has_reasons tree ≡ true → v ≡ Three) → CanSpell v tree
    by_version One only = ⊎_elim (λ t. let f = only t in cc) (λ f. f) (cases_Bool (has_reasons tree))
    by_version Two only = ⊎_elim (λ t. let f = only t in cc) (λ f. f) (cases_Bool (has_reasons tree))
    by_version Three only = tt

-- the symbols of a tree that is not given as a whole do not begin with G
first_tested : (tree : Tree) → (IsGivenAway tree → ⊥) → first_test (symbols_of tree) ≡ true
first_tested CutB some = refl
first_tested CutL some = refl
first_tested (CutR bound text) some = refl
first_tested (Branch all) some = refl
first_tested Given some = absurd (some tt)

-- so they may stand in a part line
pub tree_tested : (version : Version) (s : Position) (tree : Tree) → Fits s tree → (IsGivenAway tree → ⊥) → CanSpell version tree → symbols_test version (symbols_of tree) ≡ true
tree_tested version s tree m some can = rw (first_tested tree some) (are_marks_from version (symbols_of tree) (tree_marks version s tree m (reasons_in_three version tree can)))

-- ---- one line

-- no byte of reasons ends the line
no_end_reasons : (text : List ℕ) → AllByRecursion IsReasonByte text → AllByRecursion (λ b. b ≢ 10) text
no_end_reasons [] all = tt
no_end_reasons (b ∷ text) all = (λ ten. let e : is_reason_byte 10 ≡ true = subst (λ x. is_reason_byte x ≡ true) ten (byte_from b all.0) in cc, no_end_reasons text all.1)

mutual
  -- the symbols of a tree stand in one line
  pub tree_one_line : (s : Position) (tree : Tree) → Fits s tree → AllByRecursion (λ b. b ≢ 10) (symbols_of tree)
  tree_one_line s CutB m = (λ e. cc, tt)
  tree_one_line s CutL m = (λ e. cc, tt)
  tree_one_line s (CutR bound text) m =
      (λ e. cc, both (λ b. b ≢ 10) (decimal bound) (58 ∷ (text ++ 93 ∷ [])) (digits_apart 10 bound (omega arith) (let le = m.0 in omega arith)) (λ e. cc, both (λ b. b ≢ 10) text (93 ∷ []) (no_end_reasons text (recursion_from_All IsReasonByte text m.1)) (λ e. cc, tt)))
  tree_one_line s Given m = (λ e. cc, tt)
  tree_one_line s (Branch all) m = (λ e. cc, each_one_line s (targets s) all m)

  each_one_line : (s : Position) (rows : List ℕ) (all : Trees) → FitsEach s rows all → AllByRecursion (λ b. b ≢ 10) (symbols_of_each all)
  each_one_line s [] no_trees m = tt
  each_one_line s [] (one_and tree trees) m = absurd m
  each_one_line s (row ∷ rows) no_trees m = tt
  each_one_line s (row ∷ rows) (one_and tree trees) m = both (λ b. b ≢ 10) (symbols_of tree) (symbols_of_each trees) (tree_one_line (child s row) tree m.0) (each_one_line s rows trees m.1)
