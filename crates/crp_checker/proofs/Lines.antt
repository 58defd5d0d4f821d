-- What is known of a line of symbols after each byte, and when it ends.
use Rattle.std.proofs.Common.{◌≡◌, ◌≢◌, ◌⊎◌, inl, inr, ℕ, ◌≤◌, ⊎_elim, Bool, true, false, cond, ◌==◌, IsTrue, ◌↔◌, List, [], ◌∷◌, ◌++◌, length, take, Option, Some, None, refl, sym, ap, ◌∙◌, subst, arith, append_assoc, append-nil, length-append, eq-eqb}
use Rattle.std.specs.Prelude.{codes, fold}
use Rattle.std.specs.List.{AllByRecursion, flat_map}
use Rattle.std.specs.Option.{is_some}
use Rattle.std.specs.Fmt.{decimal}
use Rattle.std.proofs.lemmas.Bool.{cases_Bool, eqb-true}
use Rattle.std.proofs.lemmas.Grind.{flat_map-append}
use Rattle.std.proofs.lemmas.Option.{none-some}
use Rattle.crp_plan.specs.Bay.{Position}
use Rattle.crp_thinning.specs.Symbols.{Closes}
use Rattle.crp_row.specs.Reasons.{AreReasons, reasons_text}
use Rattle.crp_reasons.specs.Rests.{Left, IsReading, HaveBegun, AreWhole}
use Rattle.crp_tree.specs.Tree.{Tree}
use Rattle.crp_tree.specs.Mark.{Mark, B, L, R, X, G}
use Rattle.crp_tree.specs.Trees.{Node, nodes, spelled, given_names, Fits}
use Rattle.crp_tree.specs.Spots.{Spot}
use Rattle.crp_cert.specs.declared.version.Version.{Version}
use Rattle.crp_cert.specs.declared.version.Version.TheVariants.{Three}
use Rattle.crp_cert.specs.Script.{symbols_of}
use Rattle.crp_cert.specs.ScriptFaults.{MaySpell, AreMarks, AreSymbols, BeginsWithTree, GoesOnBehindTree}
use Rattle.crp_cert.specs.Reading.{reasons_at}
use Rattle.crp_cert.specs.PartReading.{symbol_test, marks_test}
use Rattle.crp_cert.proofs.Joined.{all_both}
use Rattle.crp_cert.proofs.PartTests.{test_symbol, test_reasons, test_none, are_marks_from, none_given}
use Rattle.crp_cert.proofs.Reasons.{Reasons, text_of, reasons_reader, opens}
use Rattle.crp_cert.proofs.Readers.{once}
use Rattle.crp_checker.specs.Gathered.{gathered}
use Rattle.crp_checker.specs.declared.line.SymbolLine.{SymbolLine}
use Rattle.crp_checker.specs.Symbols.{Walked, Line, symbol_at, walked_on, walked_by, paid, gone_on, after, begun, IsFirstOf, IsOnItsWay, IsOneWholeTree}
use Rattle.crp_checker.specs.Walks.{line_at, IsStopped, IsWalk}
use Rattle.crp_checker.specs.Lines.{BeginsNoReasons, walked_in, AreRead, IsOpen, HasOpen, IsRead, LineIsBy, LineIs, TookReasons}
use Rattle.crp_checker.proofs.OnTheWay.{IsLetter, sets_out, goes_on, reasons_on, whole, not_whole, some_symbol}

-- ---- letters

-- the byte is the letter of the mark, and G is not the first
record IsLetterOf (count b : ℕ) (mark : Mark) : Type 0 where
  letter : IsLetter mark
  spells : b ∷ [] ≡ spelled mark
  not_first : mark ≡ G → count ≡ 0 → ⊥

-- the byte is no letter, or a G that is the first
abbrev IsNoLetter : ℕ → ℕ → Type 0
IsNoLetter count b = (symbol_test b ≡ false) ⊎ ((b ≡ 71) × (count ≡ 0))

-- what a byte is
abbrev IsByte : ℕ → ℕ → Option Mark → Type 0
IsByte count b None = IsNoLetter count b
IsByte count b (Some mark) = IsLetterOf count b mark

-- a choice by a test
choice : (count b : ℕ) (test : Bool) (x y : Option Mark) → (test ≡ true → IsByte count b x) → (test ≡ false → IsByte count b y) → IsByte count b (cond test x y)
choice count b true x y f g = f refl
choice count b false x y f g = g refl

-- a test that fails
differs : (b c : ℕ) → (b == c) ≡ false → c ≡ b → ⊥
differs b c f e = let t : (c == c) ≡ false = subst (λ x. (x == c) ≡ false) (sym e) f in same c t
  where
    same : (c : ℕ) → (c == c) ≡ false → ⊥
    same c t = let r = eq-eqb c c refl in cc

reads : (count b : ℕ) → IsByte count b (symbol_at count b)
reads count b =
    choice count b (b == 66) _ _ (λ t. record { letter = tt; spells = ap (λ x. x ∷ []) (eqb-true b 66 t); not_first = λ g z. cc }) (λ not_b.
    choice count b (b == 76) _ _ (λ t. record { letter = tt; spells = ap (λ x. x ∷ []) (eqb-true b 76 t); not_first = λ g z. cc }) (λ not_l.
    choice count b (b == 88) _ _ (λ t. record { letter = tt; spells = ap (λ x. x ∷ []) (eqb-true b 88 t); not_first = λ g z. cc }) (λ not_x.
    choice count b (b == 71) _ _
    (λ g. choice count b (count == 0) _ _ (λ z. inr (eqb-true b 71 g, eqb-true count 0 z)) (λ more. record { letter = tt; spells = ap (λ x. x ∷ []) (eqb-true b 71 g); not_first = λ h z. differs count 0 more (sym z) }))
    (λ not_g. inl (rw (not_b, not_l, not_x, not_g) refl)))))

letter_may : (version : Version) (mark : Mark) → IsLetter mark → MaySpell version mark
letter_may version B is = tt
letter_may version L is = tt
letter_may version (R bound text) is = absurd is
letter_may version X is = tt
letter_may version G is = tt

-- ---- symbols of a part

no_marks : (version : Version) → AreMarks version []
no_marks version = record { marks = []; each = tt; are = refl }

no_symbols : (version : Version) → AreSymbols version []
no_symbols version = record { marks = no_marks version; not_first = λ rest e. cc }

-- one mark more
more_symbols : (version : Version) (bytes : List ℕ) (mark : Mark) → AreSymbols version bytes → MaySpell version mark → (bytes ≡ [] → mark ≡ G → ⊥) → AreSymbols version (bytes ++ spelled mark)
more_symbols version bytes mark are may not_first = record {
  marks = record {
    marks = are.marks.marks ++ mark ∷ [];
    each = all_both (MaySpell version) are.marks.marks (mark ∷ []) are.marks.each (may, tt);
    are = ap (λ l. l ++ spelled mark) are.marks.are ∙ ap (λ l. flat_map spelled are.marks.marks ++ l) (sym (append-nil (spelled mark))) ∙ sym (flat_map-append spelled are.marks.marks (mark ∷ []));
  };
  not_first = λ rest e. first bytes are.not_first not_first rest e;
}
  where
    first_byte : List ℕ → ℕ
    first_byte [] = 0
    first_byte (x ∷ xs) = x

    other_byte : (b : ℕ) {bytes rest : List ℕ} → b ∷ bytes ≡ 71 ∷ rest → b ≡ 71
    other_byte b e = ap first_byte e

    is_first : (mark : Mark) (rest : List ℕ) → spelled mark ≡ codes "G" ++ rest → mark ≡ G
    is_first B rest e = absurd (let h : ◌≡◌ {A = ℕ} 66 71 = other_byte 66 e in omega (arith, h))
    is_first L rest e = absurd (let h : ◌≡◌ {A = ℕ} 76 71 = other_byte 76 e in omega (arith, h))
    is_first (R bound text) rest e = absurd (let h : ◌≡◌ {A = ℕ} 91 71 = other_byte 91 e in omega (arith, h))
    is_first X rest e = absurd (let h : ◌≡◌ {A = ℕ} 88 71 = other_byte 88 e in omega (arith, h))
    is_first G rest e = refl

    first : (bytes : List ℕ) → ((rest : List ℕ) → bytes ≡ codes "G" ++ rest → ⊥) → (bytes ≡ [] → mark ≡ G → ⊥) → (rest : List ℕ) → bytes ++ spelled mark ≡ codes "G" ++ rest → ⊥
    first [] old new rest e = new refl (is_first mark rest e)
    first (x ∷ xs) old new rest e = old xs (let h : x ≡ 71 = cc in ap (λ y. y ∷ xs) h)

-- marks are passed by the test of marks
passed_marks : (version : Version) (marks : List Mark) (rest : List ℕ) → AllByRecursion (MaySpell version) marks → marks_test version (flat_map spelled marks ++ rest) ≡ marks_test version rest
passed_marks version [] rest each = refl
passed_marks version (B ∷ marks) rest each = test_symbol version 66 (flat_map spelled marks ++ rest) refl ∙ passed_marks version marks rest each.1
passed_marks version (L ∷ marks) rest each = test_symbol version 76 (flat_map spelled marks ++ rest) refl ∙ passed_marks version marks rest each.1
passed_marks version (X ∷ marks) rest each = test_symbol version 88 (flat_map spelled marks ++ rest) refl ∙ passed_marks version marks rest each.1
passed_marks version (G ∷ marks) rest each = test_symbol version 71 (flat_map spelled marks ++ rest) refl ∙ passed_marks version marks rest each.1
passed_marks version (R bound text ∷ marks) rest each =
    ap (marks_test version) (append_assoc (reasons_text bound text) (flat_map spelled marks) rest)
    ∙ test_reasons version (reasons_text bound text ++ (flat_map spelled marks ++ rest)) (bound, text) (flat_map spelled marks ++ rest) each.0.0 (reasons_reader.again (bound, text) (flat_map spelled marks ++ rest) each.0.1)
    ∙ passed_marks version marks rest each.1

-- behind whole symbols bytes come that begin no symbol
dead : (version : Version) (done tail : List ℕ) → AreSymbols version done → marks_test version tail ≡ false → AreSymbols version (done ++ tail) → ⊥
dead version done tail are fails whole =
    let marks = are.marks in
    let same : marks_test version (done ++ tail) ≡ marks_test version tail = ap (λ l. marks_test version (l ++ tail)) marks.are ∙ passed_marks version marks.marks tail marks.each in
    let t : true ≡ false = sym (are_marks_from version (done ++ tail) whole.marks) ∙ same ∙ fails in
    cc

-- ---- reasons that have begun

-- of two lists joined alike one begins with the other
split : (xs ys us vs : List ℕ) → xs ++ ys ≡ us ++ vs → ((w : List ℕ) × (us ≡ xs ++ w) × (ys ≡ w ++ vs)) ⊎ ((w : List ℕ) × (xs ≡ us ++ w) × (vs ≡ w ++ ys))
split [] ys us vs e = inl (us, refl, e)
split (x ∷ xs) ys [] vs e = inr (x ∷ xs, refl, sym e)
split (x ∷ xs) ys (u ∷ us) vs e =
    let first : u ≡ x = cc in
    let more : xs ++ ys ≡ us ++ vs = cc in
    ⊎_elim
    (λ k. inl (k.0, ap (λ y. y ∷ us) first ∙ ap (λ l. x ∷ l) k.1, k.2))
    (λ k. inr (k.0, ap (λ y. y ∷ xs) (sym first) ∙ ap (λ l. u ∷ l) k.1, k.2))
    (split xs ys us vs more)

none_left : (xs ys : List ℕ) → xs ++ ys ≡ [] → (xs ≡ []) × (ys ≡ [])
none_left [] ys e = (refl, e)
none_left (x ∷ xs) ys e = absurd cc

-- reasons that have begun end behind what came of them
ends_behind : (front more : List ℕ) (x : Reasons) (rest : List ℕ) → HaveBegun front → AreReasons x.0 x.1 → 91 ∷ (front ++ more) ≡ text_of x ++ rest → (w : List ℕ) × (text_of x ≡ 91 ∷ (front ++ w)) × (more ≡ w ++ rest)
ends_behind front more x rest begun are e = ⊎_elim
    (λ k. k)
    (λ k.
    let longer : text_of (begun.number, begun.text) ++ [] ≡ text_of x ++ (k.0 ++ begun.rest) =
    append-nil (text_of (begun.number, begun.text)) ∙ sym begun.is_text ∙ ap (λ l. l ++ begun.rest) k.1 ∙ append_assoc (text_of x) k.0 begun.rest in
    let one = once reasons_reader (begun.number, begun.text) x [] (k.0 ++ begun.rest) begun.are are longer in
    let none = none_left k.0 begun.rest (sym one.1) in
    absurd (begun.not_whole x.0 x.1 are (k.1 ∙ ap (λ l. text_of x ++ l) none.0 ∙ append-nil (text_of x))))
    (split (91 ∷ front) more (text_of x) rest e)

-- so the test of marks fails where they end there
not_ended : (front : List ℕ) → HaveBegun front → marks_test Three (91 ∷ front) ≡ false
not_ended front begun = test_none Three 91 front refl (λ is. by_read (reasons_at (91 ∷ front)) refl)
  where
    by_read : (o : Option (Reasons × List ℕ)) → reasons_at (91 ∷ front) ≡ o → o ≡ None
    by_read None e = refl
    by_read (Some x) e =
        let t = reasons_reader.takes (91 ∷ front) x.0 x.1 e in
        let k = ends_behind front [] x.0 x.1 begun t.0 (ap (λ l. 91 ∷ l) (append-nil front) ∙ t.1) in
        let none = none_left k.0 x.1 (sym k.2) in
        absurd (begun.not_whole x.0.0 x.0.1 t.0 (ap (λ l. 91 ∷ l) (sym (append-nil front) ∙ ap (λ l. front ++ l) (sym none.0)) ∙ sym k.1))

-- and where a byte comes that makes no reasons
not_reasons : (front more : List ℕ) (b : ℕ) → HaveBegun front → ((n : ℕ) (text rest : List ℕ) → AreReasons n text → codes "[" ++ ((front ++ b ∷ []) ++ rest) ≡ reasons_text n text → ⊥) → marks_test Three (91 ∷ (front ++ b ∷ more)) ≡ false
not_reasons front more b begun never = test_none Three 91 (front ++ b ∷ more) refl (λ is. by_read (reasons_at (91 ∷ (front ++ b ∷ more))) refl)
  where
    by_rest : (x : Reasons) (w rest : List ℕ) → AreReasons x.0 x.1 → text_of x ≡ 91 ∷ (front ++ w) → b ∷ more ≡ w ++ rest → ⊥
    by_rest x [] rest are text e = begun.not_whole x.0 x.1 are (ap (λ l. 91 ∷ l) (sym (append-nil front)) ∙ sym text)
    by_rest x (c ∷ w) rest are text e =
        let same : b ≡ c = cc in
        never x.0 x.1 w are (ap (λ l. 91 ∷ l) (append_assoc front (b ∷ []) w ∙ ap (λ y. front ++ y ∷ w) same) ∙ sym text)

    by_read : (o : Option (Reasons × List ℕ)) → reasons_at (91 ∷ (front ++ b ∷ more)) ≡ o → o ≡ None
    by_read None e = refl
    by_read (Some x) e =
        let t = reasons_reader.takes (91 ∷ (front ++ b ∷ more)) x.0 x.1 e in
        let k = ends_behind front (b ∷ more) x.0 x.1 begun t.0 t.1 in
        absurd (by_rest x.0 k.0 x.1 t.0 k.1 k.2)

-- reasons begin with their bracket
pub all_begin : HaveBegun []
all_begin = record {
  number = 0;
  text = [];
  rest = decimal 0 ++ codes ":]";
  are = (omega arith, λ k d lt. absurd (omega arith));
  is_text = refl;
  not_whole = λ n whole are e. let short : length {A = ℕ} (91 ∷ []) ≡ length (reasons_text n whole) = ap length e in omega (arith, short, length-append (decimal n) (58 ∷ (whole ++ 93 ∷ [])), length-append whole (93 ∷ []));
}

-- ---- a line

-- some symbols came, where nothing is owed
came : (need : List ℕ → ℕ) (top : Spot) (symbols : List ℕ) (walked : Walked) → IsOnItsWay need top symbols walked → walked.owed ≡ [] → symbols ≡ [] → ⊥
came need top symbols walked way e none =
    let c = whole need top symbols walked way e in
    some_symbol c.tree [] (sym (append-nil (symbols_of c.tree) ∙ c.symbols_are ∙ append-nil symbols ∙ none))

-- where no node was counted no byte came
none_came : (need : List ℕ → ℕ) (version : Version) (top : Spot) (done : List ℕ) (walked : Walked) (trailing : Bool) → AreRead need version top done walked trailing → walked.count ≡ 0 → done ≡ []
none_came need version top done walked trailing read none =
    let way = read.way in
    let list : way.list ≡ [] = empty way.list (omega (arith, way.counted, none)) in
    let symbols : read.symbols ≡ [] = sym way.spell ∙ ap (flat_map (λ node. spelled node.mark)) list in
    let rest : read.rest ≡ [] = ⊎_elim (λ t. absurd (came need top read.symbols walked way (read.some t).0 symbols)) read.none (cases_Bool trailing) in
    read.bytes_are ∙ ap (λ l. l ++ read.rest) symbols ∙ rest
  where
    empty : {A : Type 0} (xs : List A) → length xs ≤ 0 → xs ≡ []
    empty [] le = refl
    empty (x ∷ xs) le = absurd (omega arith)

-- where no byte came none was counted
none_counted : (need : List ℕ → ℕ) (version : Version) (top : Spot) (done : List ℕ) (walked : Walked) (trailing : Bool) → AreRead need version top done walked trailing → done ≡ [] → walked.count ≡ 0
none_counted need version top done walked trailing read none =
    let way = read.way in
    let symbols : read.symbols ≡ [] = (none_left read.symbols read.rest (sym read.bytes_are ∙ none)).0 in
    way.counted ∙ no_nodes way.list (way.spell ∙ symbols)
  where
    some_bytes : (mark : Mark) (rest : List ℕ) → spelled mark ++ rest ≡ [] → ⊥
    some_bytes B rest e = cc
    some_bytes L rest e = cc
    some_bytes (R bound text) rest e = cc
    some_bytes X rest e = cc
    some_bytes G rest e = cc

    no_nodes : (list : List Node) → flat_map (λ node. spelled node.mark) list ≡ [] → length list ≡ 0
    no_nodes [] e = refl
    no_nodes (node ∷ list) e = absurd (some_bytes node.mark (flat_map (λ n. spelled n.mark) list) e)

-- a mark behind the tree
trails : (need : List ℕ → ℕ) (version : Version) (top : Spot) (done : List ℕ) (walked : Walked) (trailing : Bool) (mark : Mark) → AreRead need version top done walked trailing → walked.owed ≡ [] → MaySpell version mark → (mark ≡ G → walked.count ≡ 0 → ⊥) →
    AreRead need version top (done ++ spelled mark) walked true
trails need version top done walked trailing mark read none may not_first = record {
  symbols = read.symbols;
  rest = read.rest ++ spelled mark;
  bytes_are = ap (λ l. l ++ spelled mark) read.bytes_are ∙ append_assoc read.symbols read.rest (spelled mark);
  way = read.way;
  are = more_symbols version done mark read.are may (λ empty g. not_first g (none_counted need version top done walked trailing read empty));
  none = λ f. absurd cc;
  some = λ t. (none, λ e. some_bytes mark (none_left read.rest (spelled mark) e).1);
}
  where
    some_bytes : (mark : Mark) → spelled mark ≡ [] → ⊥
    some_bytes B e = cc
    some_bytes L e = cc
    some_bytes (R bound text) e = cc
    some_bytes X e = cc
    some_bytes G e = cc

-- while a tree is owed nothing is behind it
straight : (need : List ℕ → ℕ) (version : Version) (top : Spot) (done : List ℕ) (walked : Walked) (trailing : Bool) (spot : Spot) (owed : List Spot) → (read : AreRead need version top done walked trailing) → walked.owed ≡ spot ∷ owed →
    (trailing ≡ false) × (done ≡ read.symbols)
straight need version top done walked trailing spot owed read e =
    let f : trailing ≡ false = ⊎_elim (λ t. absurd (let n = (read.some t).0 in let k : spot ∷ owed ≡ [] = sym e ∙ n in cc)) (λ f. f) (cases_Bool trailing) in
    (f, read.bytes_are ∙ ap (λ l. read.symbols ++ l) (read.none f) ∙ append-nil read.symbols)

-- a letter where a tree is owed
letter_on : (need : List ℕ → ℕ) (version : Version) (top : Spot) (done : List ℕ) (walked : Walked) (trailing : Bool) (mark : Mark) (spot : Spot) (owed : List Spot) → IsLetter mark → AreRead need version top done walked trailing → walked.owed ≡ spot ∷ owed →
    (mark ≡ G → walked.count ≡ 0 → ⊥) → AreRead need version top (done ++ spelled mark) (walked_on need mark spot owed walked) trailing
letter_on need version top done walked trailing mark spot owed is read e not_first =
    let s = straight need version top done walked trailing spot owed read e in
    record {
      symbols = read.symbols ++ spelled mark;
      rest = [];
      bytes_are = ap (λ l. l ++ spelled mark) s.1 ∙ sym (append-nil (read.symbols ++ spelled mark));
      way = goes_on need top read.symbols walked mark spot owed is read.way e;
      are = more_symbols version done mark read.are (letter_may version mark is) (λ empty g. not_first g (none_counted need version top done walked trailing read empty));
      none = λ f. refl;
      some = λ t. absurd (let k : true ≡ false = sym t ∙ s.0 in cc);
    }

-- what is wrong stays wrong, and what is behind the tree stays behind it
stays_unknown : (need : List ℕ → ℕ) (bytes : List ℕ) (line : Line) → line.unknown ≡ true → (fold (after need) line bytes).unknown ≡ true
stays_unknown need [] line e = e
stays_unknown need (b ∷ bytes) line e =
    let same : after need line b ≡ line = rw e refl in
    stays_unknown need bytes (after need line b) (ap (λ (l : Line). l.unknown) same ∙ e)

stays_behind : (need : List ℕ → ℕ) (bytes : List ℕ) (line : Line) → line.trailing ≡ true → (fold (after need) line bytes).trailing ≡ true
stays_behind need [] line e = e
stays_behind need (b ∷ bytes) line e = stays_behind need bytes (after need line b) (one line.unknown (symbol_at line.walked.count b))
  where
    by_owed : (mark : Mark) (owed : List Spot) → (paid need mark owed line).trailing ≡ true
    by_owed mark [] = refl
    by_owed mark (spot ∷ owed) = e

    by_symbol : (o : Option Mark) → (gone_on need o line).trailing ≡ true
    by_symbol None = e
    by_symbol (Some mark) = by_owed mark line.walked.owed

    one : (u : Bool) (o : Option Mark) → (cond u line (gone_on need o line)).trailing ≡ true
    one true o = e
    one false o = by_symbol o

-- letters, as a walk takes them
letters_on : (need : List ℕ → ℕ) (version : Version) (top : Spot) (done bytes : List ℕ) (walked new : Walked) (trailing : Bool) → AreRead need version top done walked trailing → fold (after need) (line_at walked trailing) bytes ≡ line_at new trailing →
    AreRead need version top (done ++ bytes) new trailing
letters_on need version top done [] walked new trailing read e =
    subst (λ l. AreRead need version top l new trailing) (sym (append-nil done)) (subst (λ w. AreRead need version top done w trailing) (ap (λ (l : Line). l.walked) e) read)
letters_on need version top done (b ∷ bytes) walked new trailing read e =
    by_byte (λ d w t r f. letters_on need version top d bytes w new t r f) (symbol_at walked.count b) (reads walked.count b) e
  where
    Go : Type 0
    Go = (d : List ℕ) (w : Walked) (t : Bool) → AreRead need version top d w t → fold (after need) (line_at w t) bytes ≡ line_at new t → AreRead need version top (d ++ bytes) new t

    same_bytes : (mark : Mark) → b ∷ [] ≡ spelled mark → (done ++ spelled mark) ++ bytes ≡ done ++ b ∷ bytes
    same_bytes mark is = append_assoc done (spelled mark) bytes ∙ ap (λ l. done ++ (l ++ bytes)) (sym is)

    by_owed : Go → (mark : Mark) → IsLetterOf walked.count b mark → (owed : List Spot) → walked.owed ≡ owed → fold (after need) (paid need mark owed (line_at walked trailing)) bytes ≡ line_at new trailing → AreRead need version top (done ++ b ∷ bytes) new trailing
    by_owed go mark is [] none f = ⊎_elim
        (λ t. subst (λ l. AreRead need version top l new trailing) (same_bytes mark is.spells)
        (subst (AreRead need version top ((done ++ spelled mark) ++ bytes) new) (sym t)
        (go (done ++ spelled mark) walked true (trails need version top done walked trailing mark read none (letter_may version mark is.letter) is.not_first) (f ∙ ap (line_at new) t))))
        (λ g. absurd (let k : true ≡ false = sym (stays_behind need bytes (line_at walked true) refl) ∙ ap (λ (l : Line). l.trailing) f ∙ g in cc))
        (cases_Bool trailing)
    by_owed go mark is (spot ∷ owed) some f =
        subst (λ l. AreRead need version top l new trailing) (same_bytes mark is.spells)
        (go (done ++ spelled mark) (walked_on need mark spot owed walked) trailing (letter_on need version top done walked trailing mark spot owed is.letter read some is.not_first) f)

    by_byte : Go → (o : Option Mark) → IsByte walked.count b o → fold (after need) (gone_on need o (line_at walked trailing)) bytes ≡ line_at new trailing → AreRead need version top (done ++ b ∷ bytes) new trailing
    by_byte go None is f = absurd (let k : true ≡ false = sym (stays_unknown need bytes (gone_on need None (line_at walked trailing)) refl) ∙ ap (λ (l : Line). l.unknown) f in cc)
    by_byte go (Some mark) is f = by_owed go mark is walked.owed refl f

-- ---- what a line that is kept says

-- where no byte was wrong
right : (need : List ℕ → ℕ) (version : Version) (top : Spot) (bytes : List ℕ) (line : SymbolLine) → line.unknown ≡ false → LineIs need version top bytes line → IsRead need version top bytes line
right need version top bytes line known is = subst (LineIsBy need version top bytes line) known is

-- where no reasons have begun
closed : (need : List ℕ → ℕ) (version : Version) (top : Spot) (bytes : List ℕ) (line : SymbolLine) → line.reasons ≡ None → IsRead need version top bytes line → AreRead need version top bytes (walked_in line) line.trailing
closed need version top bytes line none is =
    let same : bytes ≡ is.done = subst (HasOpen version line.owing is.done bytes) none is.begun in
    subst (λ l. AreRead need version top l (walked_in line) line.trailing) (sym same) is.read

-- whole symbols are kept
kept : (need : List ℕ → ℕ) (version : Version) (top : Spot) (bytes : List ℕ) (line : SymbolLine) (walked : Walked) (trailing : Bool) → line.unknown ≡ false → line.reasons ≡ None → line.trailing ≡ trailing → walked_in line ≡ walked →
    AreRead need version top bytes walked trailing → LineIs need version top bytes line
kept need version top bytes line walked trailing known none behind same read =
    subst (LineIsBy need version top bytes line) (sym known) (record {
      done = bytes;
      read = subst (AreRead need version top bytes (walked_in line)) (sym behind) (subst (λ w. AreRead need version top bytes w trailing) (sym same) read);
      begun = subst (HasOpen version line.owing bytes bytes) (sym none) refl;
    })

-- the line begins
pub line_begins : (need : List ℕ → ℕ) (version : Version) (top : Spot) (line : SymbolLine) → line.unknown ≡ false → line.trailing ≡ false → line.reasons ≡ None → walked_in line ≡ begun top → LineIs need version top [] line
line_begins need version top line known behind none same =
    kept need version top [] line (begun top) false known none behind same (record {
      symbols = [];
      rest = [];
      bytes_are = refl;
      way = sets_out need top;
      are = no_symbols version;
      none = λ f. refl;
      some = λ t. absurd cc;
    })

-- letters that a walk took
pub walks : (need : List ℕ → ℕ) (version : Version) (top : Spot) (before piece : List ℕ) (line new : SymbolLine) (taken : ℕ) → line.unknown ≡ false → line.reasons ≡ None → LineIs need version top before line →
    new.unknown ≡ false → new.reasons ≡ None → new.trailing ≡ line.trailing → IsWalk need line.owing line.found piece new.owing new.found taken → LineIs need version top (before ++ take taken piece) new
walks need version top before piece line new taken known none is known' none' same walk =
    let read = closed need version top before line none (right need version top before line known is) in
    kept need version top (before ++ take taken piece) new (walked_in new) line.trailing known' none' same refl
    (letters_on need version top before (take taken piece) (walked_in line) (walked_in new) line.trailing read (walk.walked line.trailing))

-- a letter that no tree is owed for
pub letter_behind : (need : List ℕ → ℕ) (version : Version) (top : Spot) (before : List ℕ) (line new : SymbolLine) (b : ℕ) (mark : Mark) → line.unknown ≡ false → line.reasons ≡ None → IsStopped line.owing line.found.count b → symbol_at line.found.count b ≡ Some mark →
    LineIs need version top before line → new.unknown ≡ false → new.reasons ≡ None → new.trailing ≡ true → walked_in new ≡ walked_in line → LineIs need version top (before ++ b ∷ []) new
letter_behind need version top before line new b mark known none stopped some is known' none' behind same =
    let read = closed need version top before line none (right need version top before line known is) in
    let letter : IsLetterOf line.found.count b mark = subst (IsByte line.found.count b) some (reads line.found.count b) in
    let owed : line.owing ≡ [] = ⊎_elim (λ e. e) (λ e. absurd (none-some mark (sym e ∙ some))) stopped in
    subst (λ l. LineIs need version top (before ++ l) new) (sym letter.spells)
    (kept need version top (before ++ spelled mark) new (walked_in line) true known' none' behind same
    (trails need version top before (walked_in line) line.trailing mark read owed (letter_may version mark letter.letter) letter.not_first))

-- a byte that begins no symbol
pub wrong_behind : (need : List ℕ → ℕ) (version : Version) (top : Spot) (before : List ℕ) (line new : SymbolLine) (b : ℕ) → line.unknown ≡ false → line.reasons ≡ None → symbol_at line.found.count b ≡ None → BeginsNoReasons version b →
    LineIs need version top before line → new.unknown ≡ true → LineIs need version top (before ++ b ∷ []) new
wrong_behind need version top before line new b known none no_symbol no_reasons is wrong =
    subst (LineIsBy need version top (before ++ b ∷ []) new) (sym wrong) (λ more whole. by_byte more (subst (AreSymbols version) (append_assoc before (b ∷ []) more) whole) (subst (IsByte line.found.count b) no_symbol (reads line.found.count b)))
  where
    read : AreRead need version top before (walked_in line) line.trailing
    read = closed need version top before line none (right need version top before line known is)

    no_read : (more : List ℕ) → version ≡ Three → (o : Option (Reasons × List ℕ)) → reasons_at (b ∷ more) ≡ o → o ≡ None
    no_read more three None e = refl
    no_read more three (Some x) e = absurd (no_reasons three (opens b more x.0 x.1 e))

    by_byte : (more : List ℕ) → AreSymbols version (before ++ b ∷ more) → IsNoLetter line.found.count b → ⊥
    by_byte more whole (inl other) = dead version before (b ∷ more) read.are (test_none version b more other (λ three. no_read more three (reasons_at (b ∷ more)) refl)) whole
    by_byte more whole (inr first) =
        let nothing : before ≡ [] = none_came need version top before (walked_in line) line.trailing read first.1 in
        whole.not_first more (ap (λ l. l ++ b ∷ more) nothing ∙ ap (λ x. x ∷ more) first.0)

-- reasons begin
pub reasons_begin : (need : List ℕ → ℕ) (version : Version) (top : Spot) (before : List ℕ) (line new : SymbolLine) (left : Left) (place : Position) → version ≡ Three → line.unknown ≡ false → line.reasons ≡ None → LineIs need version top before line →
    new.unknown ≡ false → new.reasons ≡ Some left → new.trailing ≡ line.trailing → walked_in new ≡ walked_in line → IsReading place [] left →
    ((spot : Spot) (more : List Spot) → line.owing ≡ spot ∷ more → place ≡ spot.place) → LineIs need version top (before ++ 91 ∷ []) new
reasons_begin need version top before line new left place three known none is known' some behind same reading next =
    subst (LineIsBy need version top (before ++ 91 ∷ []) new) (sym known') (record {
      done = before;
      read = subst (AreRead need version top before (walked_in new)) (sym behind) (subst (λ w. AreRead need version top before w line.trailing) (sym same) (closed need version top before line none (right need version top before line known is)));
      begun = subst (HasOpen version new.owing before (before ++ 91 ∷ [])) (sym some) (record {
        front = [];
        place = place;
        spells = three;
        bytes_are = refl;
        begins = all_begin;
        reading = reading;
        next = λ spot more e. next spot more (sym (ap (λ (w : Walked). w.owed) same) ∙ e);
      });
    })

-- the reasons that have begun
open_in : (need : List ℕ → ℕ) (version : Version) (top : Spot) (before : List ℕ) (line : SymbolLine) (left : Left) → line.unknown ≡ false → line.reasons ≡ Some left → (is : LineIs need version top before line) →
    (done : List ℕ) × AreRead need version top done (walked_in line) line.trailing × IsOpen version line.owing done before left
open_in need version top before line left known some is =
    let r = right need version top before line known is in
    (r.done, r.read, subst (HasOpen version line.owing r.done before) some r.begun)

-- they go on
pub reasons_go_on : (need : List ℕ → ℕ) (version : Version) (top : Spot) (before : List ℕ) (line new : SymbolLine) (left more : Left) (b : ℕ) → line.unknown ≡ false → line.reasons ≡ Some left → LineIs need version top before line →
    new.unknown ≡ false → new.reasons ≡ Some more → new.trailing ≡ line.trailing → walked_in new ≡ walked_in line →
    ((place : Position) (front : List ℕ) → IsReading place front left → IsReading place (front ++ b ∷ []) more) → ((place : Position) (front : List ℕ) → IsReading place front left → HaveBegun (front ++ b ∷ [])) →
    LineIs need version top (before ++ b ∷ []) new
reasons_go_on need version top before line new left more b known some is known' some' behind same reads_on begins =
    let r = open_in need version top before line left known some is in
    let open' = r.2 in
    subst (LineIsBy need version top (before ++ b ∷ []) new) (sym known') (record {
      done = r.0;
      read = subst (AreRead need version top r.0 (walked_in new)) (sym behind) (subst (λ w. AreRead need version top r.0 w line.trailing) (sym same) r.1);
      begun = subst (HasOpen version new.owing r.0 (before ++ b ∷ [])) (sym some') (record {
        front = open'.front ++ b ∷ [];
        place = open'.place;
        spells = open'.spells;
        bytes_are = ap (λ l. l ++ b ∷ []) open'.bytes_are ∙ append_assoc r.0 (91 ∷ open'.front) (b ∷ []);
        begins = begins open'.place open'.front open'.reading;
        reading = reads_on open'.place open'.front open'.reading;
        next = λ spot rest e. open'.next spot rest (sym (ap (λ (w : Walked). w.owed) same) ∙ e);
      });
    })

-- a byte comes that makes no reasons
pub reasons_wrong : (need : List ℕ → ℕ) (version : Version) (top : Spot) (before : List ℕ) (line new : SymbolLine) (left : Left) (b : ℕ) → line.unknown ≡ false → line.reasons ≡ Some left → LineIs need version top before line → new.unknown ≡ true →
    ((place : Position) (front : List ℕ) → IsReading place front left → (n : ℕ) (text rest : List ℕ) → AreReasons n text → codes "[" ++ ((front ++ b ∷ []) ++ rest) ≡ reasons_text n text → ⊥) → LineIs need version top (before ++ b ∷ []) new
reasons_wrong need version top before line new left b known some is wrong never =
    let r = open_in need version top before line left known some is in
    let open' = r.2 in
    subst (LineIsBy need version top (before ++ b ∷ []) new) (sym wrong) (λ more whole.
    dead version r.0 (91 ∷ (open'.front ++ b ∷ more)) r.1.are
    (ap (λ v. marks_test v (91 ∷ (open'.front ++ b ∷ more))) open'.spells ∙ not_reasons open'.front more b open'.begins (never open'.place open'.front open'.reading))
    (subst (AreSymbols version) (append_assoc before (b ∷ []) more ∙ ap (λ l. l ++ b ∷ more) open'.bytes_are ∙ append_assoc r.0 (91 ∷ open'.front) (b ∷ more)) whole))

-- they end
pub reasons_end : (need : List ℕ → ℕ) (version : Version) (top : Spot) (before : List ℕ) (line old new : SymbolLine) (left : Left) (b bound : ℕ) (shown : Bool) → line.unknown ≡ false → line.reasons ≡ Some left → LineIs need version top before line →
    walked_in old ≡ walked_in line → old.trailing ≡ line.trailing → new.unknown ≡ false → new.reasons ≡ None → ((place : Position) (front : List ℕ) → IsReading place front left → AreWhole place (front ++ b ∷ []) bound shown) →
    TookReasons need bound shown line.owing old new → LineIs need version top (before ++ b ∷ []) new
reasons_end need version top before line old new left b bound shown known some is same behind known' none' whole took = by_owed line.owing refl took
  where
    r : (done : List ℕ) × AreRead need version top done (walked_in line) line.trailing × IsOpen version line.owing done before left
    r = open_in need version top before line left known some is

    open' : IsOpen version line.owing r.0 before left
    open' = r.2

    w : AreWhole open'.place (open'.front ++ b ∷ []) bound shown
    w = whole open'.place open'.front open'.reading

    bytes : before ++ b ∷ [] ≡ r.0 ++ reasons_text bound w.text
    bytes = ap (λ l. l ++ b ∷ []) open'.bytes_are ∙ append_assoc r.0 (91 ∷ open'.front) (b ∷ []) ∙ ap (λ l. r.0 ++ l) w.is_text

    may : MaySpell version (R bound w.text)
    may = (open'.spells, w.are)

    by_owed : (owed : List Spot) → line.owing ≡ owed → TookReasons need bound shown owed old new → LineIs need version top (before ++ b ∷ []) new
    by_owed [] none took =
        subst (λ l. LineIs need version top l new) (sym bytes)
        (kept need version top (r.0 ++ reasons_text bound w.text) new (walked_in line) true known' none' took.1 (took.0 ∙ same) (trails need version top r.0 (walked_in line) line.trailing (R bound w.text) r.1 none may (λ g z. cc)))
    by_owed (spot ∷ owed) e took =
        let s = straight need version top r.0 (walked_in line) line.trailing spot owed r.1 e in
        let closes : IsTrue shown ↔ Closes spot.place bound w.text = subst (λ p. IsTrue shown ↔ Closes p bound w.text) (open'.next spot owed e) w.closes in
        subst (λ l. LineIs need version top l new) (sym bytes)
        (kept need version top (r.0 ++ reasons_text bound w.text) new (walked_by need bound shown spot owed (walked_in line)) line.trailing known' none' (took.1 ∙ behind) (took.0 ∙ ap (walked_by need bound shown spot owed) same) (record {
          symbols = r.1.symbols ++ reasons_text bound w.text;
          rest = [];
          bytes_are = ap (λ l. l ++ reasons_text bound w.text) s.1 ∙ sym (append-nil (r.1.symbols ++ reasons_text bound w.text));
          way = reasons_on need top r.1.symbols (walked_in line) bound w.text shown spot owed w.are closes r.1.way e;
          are = more_symbols version r.0 (R bound w.text) r.1.are may (λ empty g. cc);
          none = λ f. refl;
          some = λ t. absurd (let k : true ≡ false = sym t ∙ s.0 in cc);
        }))

-- whether reasons have begun
pub have_begun : (reasons : Option Left) → is_some reasons ≡ true → (left : Left) × (reasons ≡ Some left)
have_begun None e = absurd cc
have_begun (Some left) e = (left, refl)

pub none_begun : (reasons : Option Left) → is_some reasons ≡ false → reasons ≡ None
none_begun None e = refl
none_begun (Some left) e = absurd cc

-- ---- the end of a line

pub ends_unknown : (need : List ℕ → ℕ) (version : Version) (top : Spot) (bytes : List ℕ) (line : SymbolLine) → LineIs need version top bytes line → line.unknown ≡ true → ¬ AreSymbols version bytes
ends_unknown need version top bytes line is wrong whole =
    let never : (more : List ℕ) → AreSymbols version (bytes ++ more) → ⊥ = subst (LineIsBy need version top bytes line) wrong is in
    never [] (subst (AreSymbols version) (sym (append-nil bytes)) whole)

pub ends_open : (need : List ℕ → ℕ) (version : Version) (top : Spot) (bytes : List ℕ) (line : SymbolLine) (left : Left) → LineIs need version top bytes line → line.unknown ≡ false → line.reasons ≡ Some left → ¬ AreSymbols version bytes
ends_open need version top bytes line left is known some whole =
    let r = open_in need version top bytes line left known some is in
    let open' = r.2 in
    dead version r.0 (91 ∷ open'.front) r.1.are (ap (λ v. marks_test v (91 ∷ open'.front)) open'.spells ∙ not_ended open'.front open'.begins) (subst (AreSymbols version) open'.bytes_are whole)

-- a list that is not empty
behind_tree : (symbols rest : List ℕ) (top : Spot) (tree : Tree) → Fits top.place tree → symbols ≡ symbols_of tree → rest ≢ [] → GoesOnBehindTree top.place (symbols ++ rest)
behind_tree symbols [] top tree m e some = absurd (some refl)
behind_tree symbols (b ∷ rest) top tree m e some = (tree, m, (b, rest, ap (λ l. l ++ b ∷ rest) e))

pub ends_trailing : (need : List ℕ → ℕ) (version : Version) (top : Spot) (bytes : List ℕ) (line : SymbolLine) → LineIs need version top bytes line → line.unknown ≡ false → line.reasons ≡ None → line.trailing ≡ true →
    AreSymbols version bytes × GoesOnBehindTree top.place bytes
ends_trailing need version top bytes line is known none behind =
    let read = closed need version top bytes line none (right need version top bytes line known is) in
    let s = read.some behind in
    let c = whole need top read.symbols (walked_in line) read.way s.0 in
    (read.are, subst (GoesOnBehindTree top.place) (sym read.bytes_are) (behind_tree read.symbols read.rest top c.tree c.fits (sym (c.symbols_are ∙ append-nil read.symbols)) s.1))

-- nothing is behind the tree
all_symbols : (need : List ℕ → ℕ) (version : Version) (top : Spot) (bytes : List ℕ) (walked : Walked) (trailing : Bool) → (read : AreRead need version top bytes walked trailing) → trailing ≡ false → bytes ≡ read.symbols
all_symbols need version top bytes walked trailing read f = read.bytes_are ∙ ap (λ l. read.symbols ++ l) (read.none f) ∙ append-nil read.symbols

pub ends_unfinished : (need : List ℕ → ℕ) (version : Version) (top : Spot) (bytes : List ℕ) (line : SymbolLine) (spot : Spot) (owed : List Spot) → LineIs need version top bytes line → line.unknown ≡ false → line.reasons ≡ None → line.trailing ≡ false →
    line.owing ≡ spot ∷ owed → AreSymbols version bytes × ¬ BeginsWithTree top.place bytes
ends_unfinished need version top bytes line spot owed is known none straight' e =
    let read = closed need version top bytes line none (right need version top bytes line known is) in
    let same = all_symbols need version top bytes (walked_in line) line.trailing read straight' in
    (read.are, λ stands. not_whole need top read.symbols (walked_in line) spot owed read.way e (subst (BeginsWithTree top.place) same stands))

pub ends_whole : (need : List ℕ → ℕ) (version : Version) (top : Spot) (bytes : List ℕ) (line : SymbolLine) → LineIs need version top bytes line → line.unknown ≡ false → line.reasons ≡ None → line.trailing ≡ false → line.owing ≡ [] →
    AreSymbols version bytes × IsOneWholeTree need top bytes line.found.wrong line.found.given
ends_whole need version top bytes line is known none straight' e =
    let read = closed need version top bytes line none (right need version top bytes line known is) in
    let same = all_symbols need version top bytes (walked_in line) line.trailing read straight' in
    let way = read.way in
    let c = whole need top read.symbols (walked_in line) way e in
    let text : bytes ≡ symbols_of c.tree = same ∙ sym (c.symbols_are ∙ append-nil read.symbols) in
    let nodes_are : nodes top.path top.place c.tree ≡ way.list = c.nodes_are ∙ append-nil way.list in (
      read.are,
      record {
        tree = c.tree;
        fits = c.fits;
        not_given = none_given version bytes [] c.tree read.are (text ∙ sym (append-nil (symbols_of c.tree)));
        symbols_are = text;
        wrong_is = subst (λ l. IsFirstOf need l line.found.wrong) (sym nodes_are) way.wrong;
        given_are = way.given_are ∙ ap (λ l. gathered (given_names l)) (sym nodes_are);
      },
    )

-- some bytes more of a line where one was wrong
pub stays_wrong : (need : List ℕ → ℕ) (version : Version) (top : Spot) (bytes more : List ℕ) (line : SymbolLine) → line.unknown ≡ true → LineIs need version top bytes line → LineIs need version top (bytes ++ more) line
stays_wrong need version top bytes more line wrong is =
    let never : (rest : List ℕ) → AreSymbols version (bytes ++ rest) → ⊥ = subst (LineIsBy need version top bytes line) wrong is in
    subst (LineIsBy need version top (bytes ++ more) line) (sym wrong) (λ rest whole. never (more ++ rest) (subst (AreSymbols version) (append_assoc bytes more rest) whole))
