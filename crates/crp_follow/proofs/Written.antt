-- A report that is written is read line by line.
use Rattle.std.proofs.Common.{◌≡◌, ◌≢◌, ◌∙◌, ℕ, zero, suc, ◌+◌, ◌-◌, ◌≤◌, arith, List, [], ◌∷◌, ◌++◌, length, map, refl, sym, ap, append_assoc, cond, take}
use Rattle.std.specs.Prelude.{codes, slice_index}
use Rattle.std.specs.List.{AllByRecursion, flat_map}
use Rattle.std.proofs.lemmas.Bool.{ne_eqb}
use Rattle.crp_said.specs.declared.moves.SaidMove.{SaidMove}
use Rattle.crp_said.specs.declared.moves.SaidMove.TheVariants.{Shift, Take}
use Rattle.crp_said.specs.MoveLines.{move_words}
use Rattle.crp_said.specs.Said.{counts_line, words_of_bay, bay_line, bays_line, bay_text}
use Rattle.crp_said.specs.Spelled.{ReportSaid, SpellsReport, CanBeStated, ended}
use Rattle.crp_follow.specs.declared.stated.StatedMove.{StatedMove}
use Rattle.crp_follow.specs.Lines.{after_mark, pieces_of, without_cr, line_unless_empty, numbered, lines_in}
use Rattle.crp_follow.specs.Stated.{most_bytes, BayStated, moves_of, move_line, bay_lines, IsStatable, States}
use Rattle.crp_follow.specs.Written.{lines_of, said_by, AreMovesFrom, AreBaysFrom, SaysBays}
use Rattle.crp_follow.proofs.Pieces.{cut_ended, line_there}
use Rattle.crp_said.proofs.Words.{IsPrinted, plain, move_printed, bay_printed, bay_ended, counts_words, counts_printed, counts_ended, last_words, last_printed, last_ended}

-- ---- one line

no_cr : (xs : List ℕ) (k : ℕ) → IsPrinted xs → slice_index xs k ≢ 13
no_cr [] k all e = omega (arith, e)
no_cr (x ∷ xs) zero all e = let low : 32 ≤ x = all.0 in omega (arith, low, e)
no_cr (x ∷ xs) (suc k) all e = no_cr xs k all.1 e

whole : (words : List ℕ) → IsPrinted words → without_cr words ≡ words
whole words all = ap (λ t. cond t (take (length words - 1) words) words) (ne_eqb (slice_index words (length words - 1)) 13 (no_cr words (length words - 1) all))

line_read : (n : ℕ) (words rest : List ℕ) → IsPrinted words → words ≢ [] → numbered n (pieces_of (words ++ 10 ∷ rest)) ≡ record { number = n; body = words } ∷ numbered (suc n) (pieces_of rest)
line_read n words rest all some =
    ap (numbered n) (cut_ended words rest (plain words all)) ∙ ap (λ l. line_unless_empty n l ++ numbered (suc n) (pieces_of rest)) (whole words all)
    ∙ line_there n words (numbered (suc n) (pieces_of rest)) some

ended_then : (xs x : List ℕ) → ended xs ++ x ≡ xs ++ 10 ∷ x
ended_then xs x = append_assoc xs (10 ∷ []) x

-- ---- moves

some_words : (m : SaidMove) → move_words m ≢ []
some_words (Shift from to name) e = cc
some_words (Take from name) e = cc

moves_read : (n k : ℕ) (moves : List StatedMove) (rest : List ℕ) → AllByRecursion CanBeStated (moves_of moves) → AreMovesFrom n moves → k ≡ n + length moves
    → numbered n (pieces_of (lines_of (moves_of moves) ++ rest)) ≡ map move_line moves ++ numbered k (pieces_of rest)
moves_read n k [] rest can at e = let same : n ≡ k = omega (arith, e) in ap (λ x. numbered x (pieces_of rest)) same
moves_read n k (m ∷ moves) rest can at e =
    let words = move_words m.said in
    let more = lines_of (moves_of moves) ++ rest in
    ap (λ l. numbered n (pieces_of l)) (append_assoc (ended words) (lines_of (moves_of moves)) rest ∙ ended_then words more)
    ∙ line_read n words more (move_printed m.said can.0) (some_words m.said)
    ∙ ap (λ x. record { number = x; body = words } ∷ numbered (suc n) (pieces_of more)) (sym at.0)
    ∙ ap (λ l. move_line m ∷ l) (moves_read (suc n) k moves rest can.1 at.1 (omega (arith, e)))

-- ---- bays

abbrev behind_bays : ℕ → List BayStated → ℕ
behind_bays line [] = line
behind_bays line (b ∷ bays) = behind_bays (suc line + length b.moves) bays

bay_then : (b : BayStated) (x : List ℕ) → bay_text (said_by b) ++ x ≡ words_of_bay b.bay b.said ++ 10 ∷ (lines_of (moves_of b.moves) ++ x)
bay_then b x =
    append_assoc (bay_line b.bay b.said) (lines_of (moves_of b.moves)) x
    ∙ ap (λ l. l ++ (lines_of (moves_of b.moves) ++ x)) (bay_ended b.bay b.said) ∙ ended_then (words_of_bay b.bay b.said) (lines_of (moves_of b.moves) ++ x)

bays_read : (n : ℕ) (bays : List BayStated) (rest : List ℕ) → AllByRecursion IsStatable bays → AreBaysFrom n bays
    → numbered n (pieces_of (flat_map bay_text (map said_by bays) ++ rest)) ≡ flat_map bay_lines bays ++ numbered (behind_bays n bays) (pieces_of rest)
bays_read n [] rest all at = refl
bays_read n (b ∷ bays) rest all at =
    let own = all.0 in
    let words = words_of_bay b.bay b.said in
    let more = flat_map bay_text (map said_by bays) ++ rest in
    let next = suc n + length b.moves in
    ap (λ l. numbered n (pieces_of l)) (append_assoc (bay_text (said_by b)) (flat_map bay_text (map said_by bays)) rest ∙ bay_then b more)
    ∙ line_read n words (lines_of (moves_of b.moves) ++ more) (bay_printed b.bay b.said own.named) (λ e. cc)
    ∙ ap (λ x. record { number = x; body = words } ∷ numbered (suc n) (pieces_of (lines_of (moves_of b.moves) ++ more))) (sym at.0)
    ∙ ap (λ l. record { number = b.line; body = words } ∷ l) (moves_read (suc n) next b.moves more own.moves at.1 refl)
    ∙ ap (λ l. bay_lines b ++ l) (bays_read next bays rest all.1 at.2)
    ∙ sym (append_assoc (bay_lines b) (flat_map bay_lines bays) (numbered (behind_bays next bays) (pieces_of rest)))

-- ---- the text

unmarked : (x : List ℕ) → after_mark (codes "orders " ++ x) ≡ codes "orders " ++ x
unmarked x = refl

text_then : (r : ReportSaid) (bays : List BayStated) (text : List ℕ) → SpellsReport text r → SaysBays r bays
    → text ≡ counts_words r.numbers ++ 10 ∷ (flat_map bay_text (map said_by bays) ++ (last_words r.count r.settled ++ 10 ∷ []))
text_then r bays text spells so =
    let last = bays_line r.count r.settled in
    spells.1 ∙ ap (λ l. (counts_line r.numbers ++ flat_map bay_text l) ++ last) so.bays_are ∙ append_assoc (counts_line r.numbers) (flat_map bay_text (map said_by bays)) last
    ∙ ap (λ l. l ++ (flat_map bay_text (map said_by bays) ++ last)) (counts_ended r.numbers) ∙ ended_then (counts_words r.numbers) (flat_map bay_text (map said_by bays) ++ last)
    ∙ ap (λ l. counts_words r.numbers ++ 10 ∷ (flat_map bay_text (map said_by bays) ++ l)) (last_ended r.count r.settled)

pub written_is_stated : (text : List ℕ) (r : ReportSaid) (bays : List BayStated) → length text ≤ most_bytes → SpellsReport text r → SaysBays r bays → States text r.numbers bays
written_is_stated text r bays short spells so =
    let is = spells.0 in
    let rest = last_words r.count r.settled ++ 10 ∷ [] in
    let behind = flat_map bay_text (map said_by bays) ++ rest in
    let e = text_then r bays text spells so in
    let k = behind_bays 2 bays in
    let lines : lines_in text ≡ record { number = 1; body = counts_words r.numbers } ∷ (flat_map bay_lines bays ++ record { number = k; body = last_words r.count r.settled } ∷ []) =
    ap lines_in e ∙ line_read 1 (counts_words r.numbers) behind (counts_printed r.numbers) (λ e. cc)
    ∙ ap (λ l. record { number = 1; body = counts_words r.numbers } ∷ l)
    (bays_read 2 bays rest so.statable so.numbered
    ∙ ap (λ l. flat_map bay_lines bays ++ l) (line_read k (last_words r.count r.settled) [] (last_printed r.count r.settled) (λ e. cc))) in
    record {
      short = short;
      last = record { number = k; body = last_words r.count r.settled };
      front = record {
        orders = record { number = 1; body = counts_words r.numbers };
        small = is.numbers;
        orders_are = sym (counts_ended r.numbers);
        statable = so.statable;
        lines_are = lines;
      };
      counts = sym (last_ended r.count r.settled) ∙ ap (λ x. bays_line x r.settled) so.count_is ∙ ap (bays_line (length bays)) so.settled_is;
    }
