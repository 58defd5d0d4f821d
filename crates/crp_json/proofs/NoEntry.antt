-- Lines that are those of no entry, or of none of the entries that may stand there.
use Rattle.std.proofs.Common.{◌≡◌, ◌≢◌, ℕ, ◌==◌, false, List, [], ◌∷◌, ◌++◌, length, refl, sym, ap, ◌∙◌, subst, arith, append_assoc, append-nil}
use Rattle.std.specs.Prelude.{codes}
use Rattle.std.specs.List.{AllByRecursion}
use Rattle.crp_said.specs.declared.moves.SaidMove.{SaidMove}
use Rattle.crp_said.specs.MoveLines.{move_words}
use Rattle.crp_said.specs.Said.{words_of_bay}
use Rattle.crp_said.specs.Spelled.{ended, CanBeStated, IsOrdersLine, IsLastLine, IsBayLine}
use Rattle.crp_said.proofs.Bytes.{IsPlain, line_once, no_end, plain_words}
use Rattle.crp_said.proofs.Words.{plain, move_printed, bay_printed, bay_ended, counts_words, counts_printed, counts_ended, last_words, last_printed, last_ended}
use Rattle.crp_json.specs.declared.entry.Entry.{Entry}
use Rattle.crp_json.specs.declared.entry.Entry.TheVariants.{First, Bay, Last, Certified, Audited, Bounds}
use Rattle.crp_json.specs.declared.entry.Printed.{Printed}
use Rattle.crp_json.specs.declared.entry.Printed.TheVariants as printed
use Rattle.crp_json.specs.Entries.{audited_words, bound_lines, moves_text, entry_text, title_words, words_of_shown, IsBounds, IsEntry, IsEntryOf, IsNumberLine, IsPiece, IsShownLine, IsWhole}
use Rattle.crp_json.specs.Lines.{report_of}
use Rattle.crp_json.specs.declared.entry.BayBounds.{BayBounds}
use Rattle.crp_json.proofs.BoundLines.{cut}
use Rattle.crp_json.proofs.CheckLines.{number_plain, shown_plain, title_plain}

-- bytes of which there are some
pub some_bytes : (bytes : List ℕ) → (length bytes == 0) ≡ false → bytes ≢ []
some_bytes [] e k = cc
some_bytes (b ∷ bytes) e k = cc

-- no text that has a line is empty
pub some_line : (line rest : List ℕ) → line ++ 10 ∷ rest ≡ [] → ⊥
some_line [] rest e = cc
some_line (b ∷ line) rest e = cc

-- ---- moves

-- the line of the first move, and what is behind it
pub first_move : (m : SaidMove) (moves : List SaidMove) → moves_text (m ∷ moves) ≡ move_words m ++ 10 ∷ moves_text moves
first_move m moves = append_assoc (move_words m) (10 ∷ []) (moves_text moves)

pub move_plain : (m : SaidMove) → CanBeStated m → IsPlain (move_words m)
move_plain m can = plain (move_words m) (move_printed m can)

abbrev pub AreNoMoves : List ℕ → Type 0
AreNoMoves text = (moves : List SaidMove) → AllByRecursion CanBeStated moves → text ≢ moves_text moves

-- a line that states no move
pub no_move : (rest line behind : List ℕ) → rest ≡ line ++ 10 ∷ behind → IsPlain line → ((m : SaidMove) → CanBeStated m → line ≢ move_words m) → AreNoMoves rest
no_move rest line behind is one other [] can e = some_line line behind (sym is ∙ e)
no_move rest line behind is one other (m ∷ moves) can e =
    other m can.0 (line_once line (move_words m) behind (moves_text moves) one (move_plain m can.0) (sym is ∙ e ∙ first_move m moves)).0

-- bytes behind the last LF
pub no_line : (rest : List ℕ) → IsPlain rest → rest ≢ [] → AreNoMoves rest
no_line rest one some [] can e = some e
no_line rest one some (m ∷ moves) can e = no_end (move_words m) (moves_text moves) (subst IsPlain (e ∙ first_move m moves) one)

-- moves before them change nothing
pub none_behind : (done : List SaidMove) (text rest : List ℕ) → AllByRecursion CanBeStated done → text ≡ moves_text done ++ rest → AreNoMoves rest → AreNoMoves text
none_behind [] text rest each is none moves can e = none moves can (sym is ∙ e)
none_behind (d ∷ done) text rest each is none [] can e =
    some_line (move_words d) (moves_text done ++ rest) (sym (append_assoc (move_words d) (10 ∷ moves_text done) rest) ∙ ap (λ l. l ++ rest) (sym (first_move d done)) ∙ sym is ∙ e)
none_behind (d ∷ done) text rest each is none (m ∷ moves) can e =
    let lines : move_words d ++ 10 ∷ (moves_text done ++ rest) ≡ move_words m ++ 10 ∷ moves_text moves =
    sym (append_assoc (move_words d) (10 ∷ moves_text done) rest) ∙ ap (λ l. l ++ rest) (sym (first_move d done)) ∙ sym is ∙ e ∙ first_move m moves in
    let once = line_once (move_words d) (move_words m) (moves_text done ++ rest) (moves_text moves) (move_plain d each.0) (move_plain m can.0) lines in
    none_behind done (moves_text done ++ rest) rest each.1 refl none moves can.1 once.1

-- ---- entries

abbrev pub head_of : Entry → List ℕ
head_of (First numbers) = counts_words numbers
head_of (Bay b) = words_of_bay b.bay b.said
head_of (Last bays decided) = last_words bays decided
head_of (Certified b) = words_of_shown b.bay b.verdict
head_of (Audited bays) = audited_words bays
head_of (Bounds b) = title_words b.bay

abbrev pub tail_of : Entry → List ℕ
tail_of (First numbers) = []
tail_of (Bay b) = moves_text b.moves.items
tail_of (Last bays decided) = []
tail_of (Certified b) = []
tail_of (Audited bays) = []
tail_of (Bounds b) = bound_lines b

pub entry_lines : (e : Entry) → entry_text e ≡ head_of e ++ 10 ∷ tail_of e
entry_lines (First numbers) = counts_ended numbers
entry_lines (Bay b) = ap (λ l. l ++ moves_text b.moves.items) (bay_ended b.bay b.said) ∙ append_assoc (words_of_bay b.bay b.said) (10 ∷ []) (moves_text b.moves.items)
entry_lines (Last bays decided) = last_ended bays decided
entry_lines (Certified b) = refl
entry_lines (Audited bays) = refl
entry_lines (Bounds b) = cut (title_words b.bay) (bound_lines b)

pub head_plain : (e : Entry) → IsEntry e → IsPlain (head_of e)
head_plain (First numbers) is = plain (counts_words numbers) (counts_printed numbers)
head_plain (Bay b) is = plain (words_of_bay b.bay b.said) (bay_printed b.bay b.said is.0)
head_plain (Last bays decided) is = plain (last_words bays decided) (last_printed bays decided)
head_plain (Certified b) is = shown_plain b.bay b.verdict is.0
head_plain (Audited bays) is = number_plain (codes "audited ") bays (plain_words (codes "audited ") refl)
head_plain (Bounds b) is = title_plain b.bay is.0

-- entries that begin with e, and what is behind their first line
pub first_line : (e : Entry) (entries : List Entry) → report_of (e ∷ entries) ≡ head_of e ++ 10 ∷ (tail_of e ++ report_of entries)
first_line e entries = ap (λ l. l ++ report_of entries) (entry_lines e) ∙ append_assoc (head_of e) (10 ∷ tail_of e) (report_of entries)

-- ---- an entry of a report

pub report_none : {X : Type 0} (p : Printed) → printed.Report ≡ p → printed.Checks ≡ p → X
report_none p a b = let same : printed.Report ≡ printed.Checks = a ∙ sym b in cc

pub bounds_none : {X : Type 0} (p : Printed) → printed.Report ≡ p → printed.Bounds ≡ p → X
bounds_none p a b = let same : printed.Report ≡ printed.Bounds = a ∙ sym b in cc

pub checks_none : {X : Type 0} (p : Printed) → printed.Checks ≡ p → printed.Bounds ≡ p → X
checks_none p a b = let same : printed.Checks ≡ printed.Bounds = a ∙ sym b in cc

abbrev pub IsNoEntry : List ℕ → Type 0
IsNoEntry text = (e : Entry) → IsEntryOf printed.Report e → text ≢ entry_text e

-- bytes without LF
pub no_lines : (text : List ℕ) → IsPlain text → IsNoEntry text
no_lines text one e is k = no_end (head_of e) (tail_of e) (subst IsPlain (k ∙ entry_lines e) one)

-- a line, and what is behind it, of which neither is that of an entry
pub no_entry : (text line rest : List ℕ) → text ≡ line ++ 10 ∷ rest → IsPlain line → (rest ≡ [] → (¬ IsOrdersLine line) × (¬ IsLastLine line))
    → (IsBayLine line → AreNoMoves rest) → IsNoEntry text
no_entry text line rest cut one single moves e is k = other e is (line_once line (head_of e) rest (tail_of e) one (head_plain e is.1) (sym cut ∙ k ∙ entry_lines e))
  where
    other : (e : Entry) → IsEntryOf printed.Report e → (line ≡ head_of e) × (rest ≡ tail_of e) → ⊥
    other (First numbers) is same = (single same.1).0 (numbers, is.1, ap ended same.0 ∙ sym (counts_ended numbers))
    other (Bay b) is same = moves (b.bay, b.said, is.1.0, is.1.1, same.0) b.moves.items is.1.2 same.1
    other (Last bays decided) is same = (single same.1).1 (bays, decided, is.1.0, is.1.1, ap ended same.0 ∙ sym (last_ended bays decided))
    other (Certified b) is same = report_none printed.Report refl is.0
    other (Audited bays) is same = report_none printed.Report refl is.0
    other (Bounds b) is same = bounds_none printed.Report refl is.0

-- one entry alone is a piece
pub one_piece : (p : Printed) (text : List ℕ) (e : Entry) (entries : List Entry) → IsWhole p 1 → IsEntryOf p e → text ≡ entry_text e → entries ≡ e ∷ []
    → IsPiece p entries × (text ≡ report_of entries)
one_piece p text e entries whole is k same =
    subst (λ (es : List Entry). IsPiece p es × (text ≡ report_of es)) (sym same) (((is, tt), whole), k ∙ sym (append-nil (entry_text e)))

-- no piece of a report has these lines
pub no_piece : (text : List ℕ) → IsNoEntry text → (entries : List Entry) → IsPiece printed.Report entries → text ≢ report_of entries
no_piece text none [] is k = let one : 0 ≡ 1 = is.1 in omega (arith, one)
no_piece text none (e ∷ []) is k = none e is.0.0 (k ∙ append-nil (entry_text e))
no_piece text none (e ∷ f ∷ entries) is k = let one : length (e ∷ f ∷ entries) ≡ 1 = is.1 in omega (arith, one)

-- ---- bounds

pub no_bounds_piece : (text : List ℕ) → ((b : BayBounds) → IsBounds b → text ≢ ended (title_words b.bay) ++ bound_lines b)
    → (entries : List Entry) → IsPiece printed.Bounds entries → text ≢ report_of entries
no_bounds_piece text none [] is k = let one : 0 ≡ 1 = is.1 in omega (arith, one)
no_bounds_piece text none (e ∷ []) is k = other e is.0.0 (k ∙ append-nil (entry_text e))
  where
    other : (e : Entry) → IsEntryOf printed.Bounds e → text ≢ entry_text e
    other (First numbers) is same = bounds_none printed.Bounds is.0 refl
    other (Bay b) is same = bounds_none printed.Bounds is.0 refl
    other (Last bays decided) is same = bounds_none printed.Bounds is.0 refl
    other (Certified b) is same = checks_none printed.Bounds is.0 refl
    other (Audited bays) is same = checks_none printed.Bounds is.0 refl
    other (Bounds b) is same = none b is.1 same
no_bounds_piece text none (e ∷ f ∷ entries) is k = let one : length (e ∷ f ∷ entries) ≡ 1 = is.1 in omega (arith, one)

-- ---- entries of checks

abbrev pub AreNoChecks : List ℕ → Type 0
AreNoChecks text = (entries : List Entry) → AllByRecursion (IsEntryOf printed.Checks) entries → text ≢ report_of entries

-- it is one line
pub one_line : (e : Entry) → IsEntryOf printed.Checks e → tail_of e ≡ []
one_line (First numbers) is = report_none printed.Checks is.0 refl
one_line (Bay b) is = report_none printed.Checks is.0 refl
one_line (Last bays decided) is = report_none printed.Checks is.0 refl
one_line (Certified b) is = refl
one_line (Audited bays) is = refl
one_line (Bounds b) is = checks_none printed.Checks refl is.0

-- the line of the first one, and what is behind it
pub first_check : (e : Entry) (entries : List Entry) → IsEntryOf printed.Checks e → report_of (e ∷ entries) ≡ head_of e ++ 10 ∷ report_of entries
first_check e entries is = first_line e entries ∙ ap (λ l. head_of e ++ 10 ∷ (l ++ report_of entries)) (one_line e is)

-- a line that is none of checks
pub no_check : (rest line behind : List ℕ) → rest ≡ line ++ 10 ∷ behind → IsPlain line → ¬ IsShownLine line → ¬ IsNumberLine (codes "audited ") line → AreNoChecks rest
no_check rest line behind is one shown audited [] can e = some_line line behind (sym is ∙ e)
no_check rest line behind is one shown audited (x ∷ entries) can e =
    other x can.0 (line_once line (head_of x) behind (report_of entries) one (head_plain x can.0.1) (sym is ∙ e ∙ first_check x entries can.0)).0
  where
    other : (x : Entry) → IsEntryOf printed.Checks x → line ≡ head_of x → ⊥
    other (First numbers) is same = report_none printed.Checks is.0 refl
    other (Bay b) is same = report_none printed.Checks is.0 refl
    other (Last bays decided) is same = report_none printed.Checks is.0 refl
    other (Certified b) is same = shown (b.bay, b.verdict, is.1.0, is.1.1, same)
    other (Audited bays) is same = audited (bays, is.1, same)
    other (Bounds b) is same = checks_none printed.Checks refl is.0

-- bytes behind the last LF
pub no_check_line : (rest : List ℕ) → IsPlain rest → rest ≢ [] → AreNoChecks rest
no_check_line rest one some [] can e = some e
no_check_line rest one some (x ∷ entries) can e = no_end (head_of x) (report_of entries) (subst IsPlain (e ∙ first_check x entries can.0) one)

-- entries before them change nothing
pub no_checks_behind : (done : List Entry) (text rest : List ℕ) → AllByRecursion (IsEntryOf printed.Checks) done → text ≡ report_of done ++ rest → AreNoChecks rest → AreNoChecks text
no_checks_behind [] text rest each is none entries can e = none entries can (sym is ∙ e)
no_checks_behind (d ∷ done) text rest each is none [] can e =
    some_line (head_of d) (report_of done ++ rest)
    (sym (append_assoc (head_of d) (10 ∷ report_of done) rest) ∙ ap (λ l. l ++ rest) (sym (first_check d done each.0)) ∙ sym is ∙ e)
no_checks_behind (d ∷ done) text rest each is none (x ∷ entries) can e =
    let lines : head_of d ++ 10 ∷ (report_of done ++ rest) ≡ head_of x ++ 10 ∷ report_of entries =
    sym (append_assoc (head_of d) (10 ∷ report_of done) rest) ∙ ap (λ l. l ++ rest) (sym (first_check d done each.0)) ∙ sym is ∙ e ∙ first_check x entries can.0 in
    let once = line_once (head_of d) (head_of x) (report_of done ++ rest) (report_of entries) (head_plain d each.0.1) (head_plain x can.0.1) lines in
    no_checks_behind done (report_of done ++ rest) rest each.1 refl none entries can.1 once.1
