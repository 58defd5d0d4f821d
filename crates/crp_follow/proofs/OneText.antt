-- A text states one list of bays at most, or it has one first fault at most.
use Rattle.std.proofs.Common.{◌≡◌, ◌∙◌, ◌⊎◌, inl, inr, ℕ, suc, ◌<◌, ◌≤◌, arith, List, [], ◌∷◌, ◌++◌, length, length-append, map, refl, sym, ap, subst, append_assoc, cond, Bool, true, false, ◌==◌}
use Rattle.std.specs.Prelude.{count_by}
use Rattle.std.specs.List.{AllByRecursion, flat_map}
use Rattle.std.proofs.lemmas.List.Sums.{count_by-le-length}
use Rattle.crp_plan.specs.BayNames.{YardBay}
use Rattle.crp_said.specs.declared.numbers.Numbers.{Numbers}
use Rattle.crp_said.specs.declared.said.Said.{Said}
use Rattle.crp_said.specs.declared.moves.SaidMove.{SaidMove}
use Rattle.crp_said.specs.declared.moves.SaidMove.TheVariants.{Shift, Take}
use Rattle.crp_said.specs.Said.{words_of_bay, is_settled}
use Rattle.crp_said.specs.Spelled.{CanBeStated, ended, IsBayLine, IsLastLine}
use Rattle.crp_said.proofs.Bays.{one_bay}
use Rattle.crp_said.proofs.FirstLine.{counts_are, one_numbers}
use Rattle.crp_said.proofs.StatedMoves.{one_move}
use Rattle.crp_follow.specs.declared.stated.StatedMove.{StatedMove}
use Rattle.crp_follow.specs.declared.fault.FollowFault.{FollowFault}
use Rattle.crp_follow.specs.declared.fault.FollowFault.TheVariants as fault
use Rattle.crp_follow.specs.Lines.{Line, after_mark, begun_with, pieces_of, without_cr, line_unless_empty, numbered, lines_in, line_behind_all}
use Rattle.crp_follow.specs.Stated.{most_bytes, BayStated, moves_of, move_line, bay_lines, IsStatable, GoOnWith, States}
use Rattle.crp_follow.specs.TextFaults.{IsMoveLine, Begins, IsBehind, IsNoOrders, IsNoLine, IsWrongCount, StopsAt, IsTextFault}
use Rattle.crp_follow.proofs.Cuts.{head_same, tail_same}

-- ---- lines of different kinds

abbrev first : List ℕ → ℕ
first [] = 0
first (a ∷ bytes) = a

abbrev fourth : List ℕ → ℕ
fourth (a ∷ b ∷ c ∷ d ∷ bytes) = d
fourth bytes = 0

bay_or_move : (body : List ℕ) → IsBayLine body → IsMoveLine body → ⊥
bay_or_move body (bay, said, named, small, e) (Shift from to name, can, k) = let h : ◌≡◌ {A = ℕ} 98 115 = ap first (sym e ∙ k) in omega (arith, h)
bay_or_move body (bay, said, named, small, e) (Take from name, can, k) = let h : ◌≡◌ {A = ℕ} 98 116 = ap first (sym e ∙ k) in omega (arith, h)

bay_or_last : (body : List ℕ) → IsBayLine body → IsLastLine body → ⊥
bay_or_last body (bay, said, named, small, e) (count, settled, few, fewer, k) = let h : ◌≡◌ {A = ℕ} 32 115 = ap fourth (sym (ap ended e) ∙ k) in omega (arith, h)

move_or_last : (body : List ℕ) → IsMoveLine body → IsLastLine body → ⊥
move_or_last body (Shift from to name, can, e) (count, settled, few, fewer, k) = let h : ◌≡◌ {A = ℕ} 115 98 = ap first (sym (ap ended e) ∙ k) in omega (arith, h)
move_or_last body (Take from name, can, e) (count, settled, few, fewer, k) = let h : ◌≡◌ {A = ℕ} 116 98 = ap first (sym (ap ended e) ∙ k) in omega (arith, h)

last_behind : (bays : List BayStated) (l : Line) (later : List Line) → IsLastLine l.body → IsBehind bays (l ∷ later)
last_behind bays l later is = record { no_bay = λ bay. bay_or_last l.body bay is; no_move = λ some move. move_or_last l.body move is }

-- ---- moves, and bays

moves_once : (ms ns : List StatedMove) (x y : List Line) → AllByRecursion CanBeStated (moves_of ms) → AllByRecursion CanBeStated (moves_of ns) → ¬ Begins IsMoveLine x → ¬ Begins IsMoveLine y
    → map move_line ms ++ x ≡ map move_line ns ++ y → (ms ≡ ns) × (x ≡ y)
moves_once [] [] x y a b none bare e = (refl, e)
moves_once [] (n ∷ ns) x y a b none bare e = absurd (none (subst (Begins IsMoveLine) (sym e) (n.said, b.0, refl)))
moves_once (m ∷ ms) [] x y a b none bare e = absurd (bare (subst (Begins IsMoveLine) e (m.said, a.0, refl)))
moves_once (m ∷ ms) (n ∷ ns) x y a b none bare e =
    let made : ℕ → SaidMove → StatedMove = λ l s. record { line = l; said = s } in
    let head = head_same (move_line m) (move_line n) (map move_line ms ++ x) (map move_line ns ++ y) e in
    let more = moves_once ms ns x y a.1 b.1 none bare (tail_same (move_line m) (move_line n) (map move_line ms ++ x) (map move_line ns ++ y) e) in
    let line : m.line ≡ n.line = ap (λ (l : Line). l.number) head in
    let said : m.said ≡ n.said = one_move m.said n.said a.0 b.0 (ap (λ (l : Line). l.body) head) in
    let same : m ≡ n = ap (λ l. made l m.said) line ∙ ap (made n.line) said in
    (ap (λ v. v ∷ ms) same ∙ ap (λ l. n ∷ l) more.0, more.1)

is_bay : (b : BayStated) → IsStatable b → IsBayLine (words_of_bay b.bay b.said)
is_bay b is = (b.bay, b.said, is.named, is.small, refl)

-- no move follows the last move of a bay
no_move_behind : (bays : List BayStated) (x : List Line) → AllByRecursion IsStatable bays → ¬ Begins IsMoveLine x → ¬ Begins IsMoveLine (flat_map bay_lines bays ++ x)
no_move_behind [] x all none is = none is
no_move_behind (b ∷ bays) x all none is = bay_or_move (words_of_bay b.bay b.said) (is_bay b all.0) is

bays_once : (bs cs : List BayStated) (x y : List Line) → AllByRecursion IsStatable bs → AllByRecursion IsStatable cs → IsBehind bs x → IsBehind cs y
    → flat_map bay_lines bs ++ x ≡ flat_map bay_lines cs ++ y → (bs ≡ cs) × (x ≡ y)
bays_once [] [] x y a b p q e = (refl, e)
bays_once [] (c ∷ cs) x y a b p q e = absurd (p.no_bay (subst (Begins IsBayLine) (sym e) (is_bay c b.0)))
bays_once (b ∷ bs) [] x y a a' p q e = absurd (q.no_bay (subst (Begins IsBayLine) e (is_bay b a.0)))
bays_once (b ∷ bs) (c ∷ cs) x y a a' p q e =
    let left = flat_map bay_lines bs ++ x in
    let right = flat_map bay_lines cs ++ y in
    let whole : bay_lines b ++ left ≡ bay_lines c ++ right = sym (append_assoc (bay_lines b) (flat_map bay_lines bs) x) ∙ e ∙ append_assoc (bay_lines c) (flat_map bay_lines cs) y in
    let at : BayStated → Line = λ b. record { number = b.line; body = words_of_bay b.bay b.said } in
    let head = head_same (at b) (at c) (map move_line b.moves ++ left) (map move_line c.moves ++ right) whole in
    let one = a.0 in
    let other = a'.0 in
    let named = one_bay b.bay c.bay b.said c.said one.named other.named one.small other.small (ap (λ (l : Line). l.body) head) in
    let line : b.line ≡ c.line = ap (λ (l : Line). l.number) head in
    let moves = moves_once b.moves c.moves left right one.moves other.moves (no_move_behind bs x a.1 (p.no_move (λ h. cc))) (no_move_behind cs y a'.1 (q.no_move (λ h. cc)))
    (tail_same (at b) (at c) (map move_line b.moves ++ left) (map move_line c.moves ++ right) whole) in
    let more = bays_once bs cs x y a.1 a'.1 (record { no_bay = p.no_bay; no_move = λ some. p.no_move (λ h. cc) }) (record { no_bay = q.no_bay; no_move = λ some. q.no_move (λ h. cc) }) moves.1 in
    let made : ℕ → YardBay → Said → List StatedMove → BayStated = λ l n s m. record { line = l; bay = n; said = s; moves = m } in
    let same : b ≡ c =
    ap (λ l. made l b.bay b.said b.moves) line ∙ ap (λ n. made c.line n b.said b.moves) named.0 ∙ ap (λ s. made c.line c.bay s b.moves) named.1 ∙ ap (made c.line c.bay c.said) moves.0 in
    (ap (λ v. v ∷ bs) same ∙ ap (λ l. c ∷ l) more.0, more.1)

front_once : (lines : List Line) (n k : Numbers) (bs cs : List BayStated) (x y : List Line) → GoOnWith lines n bs x → GoOnWith lines k cs y → IsBehind bs x → IsBehind cs y
    → (n ≡ k) × (bs ≡ cs) × (x ≡ y)
front_once lines n k bs cs x y f g p q =
    let whole = sym f.lines_are ∙ g.lines_are in
    let left = flat_map bay_lines bs ++ x in
    let right = flat_map bay_lines cs ++ y in
    let head = head_same f.orders g.orders left right whole in
    let bays = bays_once bs cs x y f.statable g.statable p q (tail_same f.orders g.orders left right whole) in (
      one_numbers n k f.small g.small (sym (counts_are (f.orders).body n f.orders_are) ∙ ap (λ (l : Line). l.body) head ∙ counts_are (g.orders).body k g.orders_are),
      bays.0,
      bays.1,
    )

-- ---- a text has fewer bays than bytes

few_begun : (b : ℕ) (pieces : List (List ℕ)) → length (begun_with b pieces) ≤ suc (length pieces)
few_begun b [] = omega arith
few_begun b (piece ∷ pieces) = omega arith

one_of : {A : Type 0} (t : Bool) (P : A → Type 0) (x y : A) → P x → P y → P (cond t x y)
one_of true P x y p q = p
one_of false P x y p q = q

few_pieces : (bytes : List ℕ) → length (pieces_of bytes) ≤ length bytes
few_pieces [] = omega arith
few_pieces (b ∷ bytes) =
    let rest = few_pieces bytes in
    let more = few_begun b (pieces_of bytes) in
    one_of (b == 10) (λ (l : List (List ℕ)). length l ≤ suc (length bytes)) ([] ∷ pieces_of bytes) (begun_with b (pieces_of bytes)) (omega (arith, rest)) (omega (arith, rest, more))

one_line_at_most : (number : ℕ) (body : List ℕ) → length (line_unless_empty number body) ≤ 1
one_line_at_most number [] = omega arith
one_line_at_most number (b ∷ body) = omega arith

few_lines : (number : ℕ) (pieces : List (List ℕ)) → length (numbered number pieces) ≤ length pieces
few_lines number [] = omega arith
few_lines number (piece ∷ pieces) =
    let one = one_line_at_most number (without_cr piece) in
    let rest = few_lines (suc number) pieces in omega (arith, one, rest, length-append (line_unless_empty number (without_cr piece)) (numbered (suc number) pieces))

fewer_behind : (text : List ℕ) → length (after_mark text) ≤ length text
fewer_behind [] = omega arith
fewer_behind (a ∷ []) = omega arith
fewer_behind (a ∷ b ∷ []) = omega arith
fewer_behind (a ∷ b ∷ c ∷ bytes) = one_of _ (λ (l : List ℕ). length l ≤ suc (suc (suc (length bytes)))) bytes (a ∷ b ∷ c ∷ bytes) (omega arith) (omega arith)

-- nor has it more lines than bytes
pub few_in_text : (text : List ℕ) → length (lines_in text) ≤ length text
few_in_text text =
    let a = few_pieces (after_mark text) in
    let b = few_lines 1 (pieces_of (after_mark text)) in
    let c = fewer_behind text in omega (arith, a, b, c)

few_bays : (bays : List BayStated) (x : List Line) → length bays ≤ length (flat_map bay_lines bays ++ x)
few_bays [] x = omega arith
few_bays (b ∷ bays) x =
    let rest = few_bays bays x in omega (arith, rest, length-append (bay_lines b ++ flat_map bay_lines bays) x, length-append (bay_lines b) (flat_map bay_lines bays), length-append (flat_map bay_lines bays) x)

last_of_states : (text : List ℕ) (n : Numbers) (bays : List BayStated) → (s : States text n bays) → IsLastLine (s.last).body
last_of_states text n bays s =
    let f = s.front in
    let short : length text ≤ 8388608 = s.short in
    let a = few_in_text text in
    let d = few_bays bays (s.last ∷ []) in
    let e : length (lines_in text) ≡ suc (length (flat_map bay_lines bays ++ s.last ∷ [])) = ap length f.lines_are in
    let few : length bays ≤ 4294967295 = omega (arith, short, a, d, e) in
    let less = count_by-le-length (λ (b : BayStated). is_settled b.said) bays in
    (length bays, count_by (λ b. is_settled b.said) bays, few, omega (arith, few, less), s.counts)

states_behind : (text : List ℕ) (n : Numbers) (bays : List BayStated) → (s : States text n bays) → IsBehind bays (s.last ∷ [])
states_behind text n bays s = last_behind bays s.last [] (last_of_states text n bays s)

pub states_once : (text : List ℕ) (n k : Numbers) (bs cs : List BayStated) → States text n bs → States text k cs → (n ≡ k) × (bs ≡ cs)
states_once text n k bs cs s t =
    let one = front_once (lines_in text) n k bs cs (s.last ∷ []) (t.last ∷ []) s.front t.front (states_behind text n bs s) (states_behind text k cs t) in (one.0, one.1)

-- ---- faults

long_short : {P : Type 0} (text : List ℕ) → most_bytes < length text → length text ≤ most_bytes → P
long_short text long short = absurd (omega (arith, long, short))

some_orders : (lines : List Line) (n : Numbers) (bays : List BayStated) (x : List Line) (line : ℕ) → GoOnWith lines n bays x → IsNoOrders lines line → ⊥
some_orders lines n bays x line f none = (subst (λ (l : List Line). IsNoOrders l line) f.lines_are none).1 (n, f.small, f.orders_are)

no_orders_once : (lines : List Line) (a b : ℕ) → IsNoOrders lines a → IsNoOrders lines b → a ≡ b
no_orders_once [] a b p q = p ∙ sym q
no_orders_once (l ∷ lines) a b p q = p.0 ∙ sym q.0

no_line_once : (lines : List Line) (a b : ℕ) → IsNoLine lines a → IsNoLine lines b → a ≡ b
no_line_once [] a b p q = absurd p
no_line_once (l ∷ lines) a b p q = p.0 ∙ sym q.0

count_once : (behind : ℕ) (bays : List BayStated) (lines : List Line) (a b : ℕ) → IsWrongCount behind bays lines a → IsWrongCount behind bays lines b → a ≡ b
count_once behind bays [] a b p q = p ∙ sym q
count_once behind bays (l ∷ []) a b p q = p.0 ∙ sym q.0
count_once behind bays (l ∷ k ∷ lines) a b p q = absurd p

line_or_count : (behind : ℕ) (bays : List BayStated) (lines : List Line) (a b : ℕ) → IsNoLine lines a → IsWrongCount behind bays lines b → ⊥
line_or_count behind bays [] a b p q = p
line_or_count behind bays (l ∷ []) a b p q = p.1 refl q.1
line_or_count behind bays (l ∷ k ∷ lines) a b p q = q

abbrev NoLineAt : List ℕ → ℕ → Type 0
NoLineAt text line = StopsAt (lines_in text) (λ bays later. IsNoLine later line)

abbrev WrongCountAt : List ℕ → ℕ → Type 0
WrongCountAt text line = StopsAt (lines_in text) (λ bays later. IsWrongCount (line_behind_all text) bays later line)

abbrev WrongText : List ℕ → FollowFault → Type 0
WrongText text f =
    ((f ≡ fault.TooLong) × (most_bytes < length text))
    ⊎ (((line : ℕ) × (f ≡ fault.Orders line) × (length text ≤ most_bytes) × IsNoOrders (lines_in text) line)
    ⊎ (((line : ℕ) × (f ≡ fault.NoLine line) × (length text ≤ most_bytes) × NoLineAt text line)
    ⊎ ((line : ℕ) × (f ≡ fault.Count line) × (length text ≤ most_bytes) × WrongCountAt text line)))

wrong_text : (text : List ℕ) (f : FollowFault) → IsTextFault text f → WrongText text f
wrong_text text fault.TooLong w = inl (refl, w)
wrong_text text (fault.Orders line) w = inr (inl (line, refl, w.0, w.1))
wrong_text text (fault.NoLine line) w = inr (inr (inl (line, refl, w.0, w.1)))
wrong_text text (fault.Count line) w = inr (inr (inr (line, refl, w.0, w.1)))
wrong_text text (fault.NoBay line) w = absurd w
wrong_text text (fault.Again line) w = absurd w
wrong_text text (fault.Relocations line) w = absurd w
wrong_text text (fault.Lift line) w = absurd w
wrong_text text (fault.Container line) w = absurd w
wrong_text text (fault.SetDown line) w = absurd w
wrong_text text fault.Memory w = absurd w

apart : (text : List ℕ) (n : Numbers) (bays : List BayStated) (f : FollowFault) → States text n bays → WrongText text f → ⊥
apart text n bays f s (inl (e, long)) = long_short text long s.short
apart text n bays f s (inr (inl (line, e, short, w))) = some_orders (lines_in text) n bays (s.last ∷ []) line s.front w
apart text n bays f s (inr (inr (inl (line, e, short, w)))) =
    let one = front_once (lines_in text) w.numbers n w.bays bays w.later (s.last ∷ []) w.front s.front w.behind (states_behind text n bays s) in
    let wrong : IsNoLine (s.last ∷ []) line = subst (λ (l : List Line). IsNoLine l line) one.2 w.wrong in wrong.1 refl (last_of_states text n bays s)
apart text n bays f s (inr (inr (inr (line, e, short, w)))) =
    let one = front_once (lines_in text) w.numbers n w.bays bays w.later (s.last ∷ []) w.front s.front w.behind (states_behind text n bays s) in
    let behind = line_behind_all text in
    let wrong : IsWrongCount behind bays (s.last ∷ []) line =
    subst (λ (l : List Line). IsWrongCount behind bays l line) one.2 (subst (λ (bs : List BayStated). IsWrongCount behind bs w.later line) one.1 w.wrong) in wrong.2 s.counts

pub text_apart : (text : List ℕ) (n : Numbers) (bays : List BayStated) (f : FollowFault) → States text n bays → IsTextFault text f → ⊥
text_apart text n bays f s w = apart text n bays f s (wrong_text text f w)

both_no_line : (text : List ℕ) (a b : ℕ) → NoLineAt text a → NoLineAt text b → a ≡ b
both_no_line text a b v w =
    let one = front_once (lines_in text) v.numbers w.numbers v.bays w.bays v.later w.later v.front w.front v.behind w.behind in
    no_line_once w.later a b (subst (λ (l : List Line). IsNoLine l a) one.2 v.wrong) w.wrong

both_count : (text : List ℕ) (a b : ℕ) → WrongCountAt text a → WrongCountAt text b → a ≡ b
both_count text a b v w =
    let one = front_once (lines_in text) v.numbers w.numbers v.bays w.bays v.later w.later v.front w.front v.behind w.behind in
    let behind = line_behind_all text in
    count_once behind w.bays w.later a b (subst (λ (l : List Line). IsWrongCount behind w.bays l a) one.2 (subst (λ (bs : List BayStated). IsWrongCount behind bs v.later a) one.1 v.wrong)) w.wrong

not_both : (text : List ℕ) (a b : ℕ) → NoLineAt text a → WrongCountAt text b → ⊥
not_both text a b v w =
    let one = front_once (lines_in text) v.numbers w.numbers v.bays w.bays v.later w.later v.front w.front v.behind w.behind in
    line_or_count (line_behind_all text) w.bays w.later a b (subst (λ (l : List Line). IsNoLine l a) one.2 v.wrong) w.wrong

same_wrong : (text : List ℕ) (f g : FollowFault) → WrongText text f → WrongText text g → f ≡ g
same_wrong text f g (inl (e, p)) (inl (k, q)) = e ∙ sym k
same_wrong text f g (inl (e, p)) (inr (inl (line, k, short, q))) = long_short text p short
same_wrong text f g (inl (e, p)) (inr (inr (inl (line, k, short, q)))) = long_short text p short
same_wrong text f g (inl (e, p)) (inr (inr (inr (line, k, short, q)))) = long_short text p short
same_wrong text f g (inr (inl (line, e, short, p))) (inl (k, q)) = long_short text q short
same_wrong text f g (inr (inl (line, e, short, p))) (inr (inl (other, k, also, q))) = e ∙ ap fault.Orders (no_orders_once (lines_in text) line other p q) ∙ sym k
same_wrong text f g (inr (inl (line, e, short, p))) (inr (inr (inl (other, k, also, q)))) = absurd (some_orders (lines_in text) q.numbers q.bays q.later line q.front p)
same_wrong text f g (inr (inl (line, e, short, p))) (inr (inr (inr (other, k, also, q)))) = absurd (some_orders (lines_in text) q.numbers q.bays q.later line q.front p)
same_wrong text f g (inr (inr (inl (line, e, short, p)))) (inl (k, q)) = long_short text q short
same_wrong text f g (inr (inr (inl (line, e, short, p)))) (inr (inl (other, k, also, q))) = absurd (some_orders (lines_in text) p.numbers p.bays p.later other p.front q)
same_wrong text f g (inr (inr (inl (line, e, short, p)))) (inr (inr (inl (other, k, also, q)))) = e ∙ ap fault.NoLine (both_no_line text line other p q) ∙ sym k
same_wrong text f g (inr (inr (inl (line, e, short, p)))) (inr (inr (inr (other, k, also, q)))) = absurd (not_both text line other p q)
same_wrong text f g (inr (inr (inr (line, e, short, p)))) (inl (k, q)) = long_short text q short
same_wrong text f g (inr (inr (inr (line, e, short, p)))) (inr (inl (other, k, also, q))) = absurd (some_orders (lines_in text) p.numbers p.bays p.later other p.front q)
same_wrong text f g (inr (inr (inr (line, e, short, p)))) (inr (inr (inl (other, k, also, q)))) = absurd (not_both text other line q p)
same_wrong text f g (inr (inr (inr (line, e, short, p)))) (inr (inr (inr (other, k, also, q)))) = e ∙ ap fault.Count (both_count text line other p q) ∙ sym k

pub text_once : (text : List ℕ) (f g : FollowFault) → IsTextFault text f → IsTextFault text g → f ≡ g
text_once text f g v w = same_wrong text f g (wrong_text text f v) (wrong_text text g w)
