-- What is printed has one text of JSON Lines.
use Rattle.std.proofs.Common.{◌≡◌, ◌≢◌, ℕ, List, [], ◌∷◌, ◌++◌, refl, sym, ap, ◌∙◌, arith, append_assoc}
use Rattle.std.specs.Prelude.{codes, slice_index}
use Rattle.std.specs.List.{AllByRecursion}
use Rattle.crp_plan.specs.BayNames.{YardBay}
use Rattle.crp_checker.specs.declared.verdict.Verdict.{Verdict}
use Rattle.crp_said.specs.declared.numbers.Numbers.{Numbers}
use Rattle.crp_said.specs.declared.said.Said.{Said}
use Rattle.crp_said.specs.declared.moves.SaidMove.{SaidMove}
use Rattle.crp_said.specs.declared.moves.SaidMove.TheVariants.{Shift, Take}
use Rattle.crp_said.specs.MoveLines.{move_words}
use Rattle.crp_said.specs.Spelled.{ended, CanBeStated}
use Rattle.crp_said.proofs.Bytes.{line_once}
use Rattle.crp_said.proofs.FirstLine.{one_numbers, one_last}
use Rattle.crp_said.proofs.Bays.{one_bay}
use Rattle.crp_said.proofs.StatedMoves.{one_move}
use Rattle.json.specs.Print.{print}
use Rattle.json.specs.Token.{Token}
use Rattle.crp_json.specs.declared.entry.Entry.{Entry}
use Rattle.crp_json.specs.declared.entry.Entry.TheVariants.{First, Bay, Last, Certified, Audited, Bounds}
use Rattle.crp_json.specs.declared.entry.Printed.{Printed}
use Rattle.crp_json.specs.declared.entry.Chains.{Chains}
use Rattle.crp_json.specs.Entries.{chains_words, moves_text, IsEntryOf}
use Rattle.crp_json.specs.Objects.{numbers_object, bay_object, last_object, shown_object, audited_object}
use Rattle.crp_json.specs.Lines.{entry_line, report_of, json_of, AreJsonLines}
use Rattle.crp_json.proofs.BoundLines.{BeginsWithNoChains, bounds_once, bounds_same}
use Rattle.crp_json.proofs.CheckLines.{one_number, one_shown, one_title}
use Rattle.crp_json.proofs.NoEntry.{some_line, first_line, first_move, move_plain, head_of, tail_of, head_plain, bounds_none, checks_none, report_none}

-- no move's line stands at the front
abbrev BeginsWithNoMove : List ℕ → Type 0
BeginsWithNoMove text = (m : SaidMove) (rest : List ℕ) → text ≢ move_words m ++ 10 ∷ rest

-- the byte at this place
at : (i : ℕ) (a b : List ℕ) → a ≡ b → slice_index a i ≡ slice_index b i
at i a b e = ap (λ l. slice_index l i) e

no_head : (e : Entry) (m : SaidMove) (x y : List ℕ) → head_of e ++ x ≢ move_words m ++ y
no_head (First numbers) (Shift from to name) x y e = let h : 111 ≡ 115 = at 0 _ _ e in omega (arith, h)
no_head (First numbers) (Take from name) x y e = let h : 111 ≡ 116 = at 0 _ _ e in omega (arith, h)
no_head (Bay b) (Shift from to name) x y e = let h : 98 ≡ 115 = at 0 _ _ e in omega (arith, h)
no_head (Bay b) (Take from name) x y e = let h : 98 ≡ 116 = at 0 _ _ e in omega (arith, h)
no_head (Last bays decided) (Shift from to name) x y e = let h : 98 ≡ 115 = at 0 _ _ e in omega (arith, h)
no_head (Last bays decided) (Take from name) x y e = let h : 98 ≡ 116 = at 0 _ _ e in omega (arith, h)
no_head (Certified b) (Shift from to name) x y e = let h : 98 ≡ 115 = at 0 _ _ e in omega (arith, h)
no_head (Certified b) (Take from name) x y e = let h : 98 ≡ 116 = at 0 _ _ e in omega (arith, h)
no_head (Audited bays) (Shift from to name) x y e = let h : 97 ≡ 115 = at 0 _ _ e in omega (arith, h)
no_head (Audited bays) (Take from name) x y e = let h : 97 ≡ 116 = at 0 _ _ e in omega (arith, h)
no_head (Bounds b) (Shift from to name) x y e = let h : 98 ≡ 115 = at 0 _ _ e in omega (arith, h)
no_head (Bounds b) (Take from name) x y e = let h : 98 ≡ 116 = at 0 _ _ e in omega (arith, h)

no_chain_head : (e : Entry) (c : Chains) (x y : List ℕ) → head_of e ++ x ≢ chains_words c ++ y
no_chain_head (First numbers) c x y e = let h : 111 ≡ 99 = at 0 _ _ e in omega (arith, h)
no_chain_head (Bay b) c x y e = let h : 98 ≡ 99 = at 0 _ _ e in omega (arith, h)
no_chain_head (Last bays decided) c x y e = let h : 98 ≡ 99 = at 0 _ _ e in omega (arith, h)
no_chain_head (Certified b) c x y e = let h : 98 ≡ 99 = at 0 _ _ e in omega (arith, h)
no_chain_head (Audited bays) c x y e = let h : 97 ≡ 99 = at 0 _ _ e in omega (arith, h)
no_chain_head (Bounds b) c x y e = let h : 98 ≡ 99 = at 0 _ _ e in omega (arith, h)

no_move_first : (entries : List Entry) → BeginsWithNoMove (report_of entries)
no_move_first [] m rest e = some_line (move_words m) rest (sym e)
no_move_first (x ∷ entries) m rest e = no_head x m (10 ∷ (tail_of x ++ report_of entries)) (10 ∷ rest) (sym (first_line x entries) ∙ e)

no_chains_first : (entries : List Entry) → BeginsWithNoChains (report_of entries)
no_chains_first [] c rest e = some_line (chains_words c) rest (sym e)
no_chains_first (x ∷ entries) c rest e = no_chain_head x c (10 ∷ (tail_of x ++ report_of entries)) (10 ∷ rest) (sym (first_line x entries) ∙ e)

moves_once : (ms ks : List SaidMove) (x y : List ℕ) → AllByRecursion CanBeStated ms → AllByRecursion CanBeStated ks → BeginsWithNoMove x → BeginsWithNoMove y
    → moves_text ms ++ x ≡ moves_text ks ++ y → (ms ≡ ks) × (x ≡ y)
moves_once [] [] x y a b clear free e = (refl, e)
moves_once [] (k ∷ ks) x y a b clear free e =
    absurd (clear k (moves_text ks ++ y) (e ∙ ap (λ l. l ++ y) (first_move k ks) ∙ append_assoc (move_words k) (10 ∷ moves_text ks) y))
moves_once (m ∷ ms) [] x y a b clear free e =
    absurd (free m (moves_text ms ++ x) (sym e ∙ ap (λ l. l ++ x) (first_move m ms) ∙ append_assoc (move_words m) (10 ∷ moves_text ms) x))
moves_once (m ∷ ms) (k ∷ ks) x y a b clear free e =
    let lines : move_words m ++ 10 ∷ (moves_text ms ++ x) ≡ move_words k ++ 10 ∷ (moves_text ks ++ y) =
    sym (append_assoc (move_words m) (10 ∷ moves_text ms) x) ∙ ap (λ l. l ++ x) (sym (first_move m ms)) ∙ e
    ∙ ap (λ l. l ++ y) (first_move k ks) ∙ append_assoc (move_words k) (10 ∷ moves_text ks) y in
    let once = line_once (move_words m) (move_words k) (moves_text ms ++ x) (moves_text ks ++ y) (move_plain m a.0) (move_plain k b.0) lines in
    let more = moves_once ms ks x y a.1 b.1 clear free once.1 in
    (ap (λ (t : SaidMove). t ∷ ms) (one_move m k a.0 b.0 once.0) ∙ ap (λ (l : List SaidMove). k ∷ l) more.0, more.1)

-- the first entries have one line, and the same text is behind them
entry_once : (p : Printed) (e f : Entry) (es fs : List Entry) → IsEntryOf p e → IsEntryOf p f → head_of e ≡ head_of f → tail_of e ++ report_of es ≡ tail_of f ++ report_of fs
    → (entry_line e ≡ entry_line f) × (report_of es ≡ report_of fs)
entry_once p (First n) (First m) es fs a b h t = (ap (λ (x : Numbers). ended (print (numbers_object x))) (one_numbers n m a.1 b.1 h), t)
entry_once p (Bay b) (Bay d) es fs is also h t =
    let bays = one_bay b.bay d.bay b.said d.said is.1.0 also.1.0 is.1.1 also.1.1 h in
    let moves = moves_once b.moves.items d.moves.items (report_of es) (report_of fs) is.1.2 also.1.2 (no_move_first es) (no_move_first fs) t in (
      ap (λ (x : YardBay). ended (print (bay_object x b.said b.moves.items))) bays.0 ∙ ap (λ (x : Said). ended (print (bay_object d.bay x b.moves.items))) bays.1
          ∙ ap (λ (x : List SaidMove). ended (print (bay_object d.bay d.said x))) moves.0,
      moves.1,
    )
entry_once p (Last a b) (Last c d) es fs is also h t =
    let low = is.1.0 in
    let few = is.1.1 in
    let next = also.1.0 in
    let less = also.1.1 in
    let same = one_last a b c d (omega (arith, low)) (omega (arith, few)) (omega (arith, next)) (omega (arith, less)) h in
    (ap (λ (x : ℕ). ended (print (last_object x b))) same.0 ∙ ap (λ (x : ℕ). ended (print (last_object c x))) same.1, t)
entry_once p (Certified b) (Certified d) es fs is also h t =
    let same = one_shown b.bay d.bay b.verdict d.verdict is.1.0 also.1.0 is.1.1 also.1.1 h in
    (ap (λ (x : YardBay). ended (print (shown_object x b.verdict))) same.0 ∙ ap (λ (x : Verdict). ended (print (shown_object d.bay x))) same.1, t)
entry_once p (Audited a) (Audited b) es fs is also h t = (ap (λ (x : ℕ). ended (print (audited_object x))) (one_number (codes "audited ") a b is.1 also.1 h), t)
entry_once p (Bounds b) (Bounds d) es fs is also h t =
    let same = bounds_once b d (report_of es) (report_of fs) is.1 also.1 (no_chains_first es) (no_chains_first fs) t in
    (ap (λ (ts : List Token). ended (print ts)) (bounds_same b d (one_title b.bay d.bay is.1.0 also.1.0 h) same.0), same.1)
entry_once p (First n) (Bay d) es fs a b h t = absurd (let e : 111 ≡ 98 = at 0 _ _ h in omega (arith, e))
entry_once p (First n) (Last c d) es fs a b h t = absurd (let e : 111 ≡ 98 = at 0 _ _ h in omega (arith, e))
entry_once p (Bay b) (First m) es fs is also h t = absurd (let e : 98 ≡ 111 = at 0 _ _ h in omega (arith, e))
entry_once p (Bay b) (Last c d) es fs is also h t = absurd (let e : 32 ≡ 115 = at 3 _ _ h in omega (arith, e))
entry_once p (Last a b) (First m) es fs is also h t = absurd (let e : 98 ≡ 111 = at 0 _ _ h in omega (arith, e))
entry_once p (Last a b) (Bay d) es fs is also h t = absurd (let e : 115 ≡ 32 = at 3 _ _ h in omega (arith, e))
entry_once p (Certified b) (Audited a) es fs is also h t = absurd (let e : 98 ≡ 97 = at 0 _ _ h in omega (arith, e))
entry_once p (Audited a) (Certified b) es fs is also h t = absurd (let e : 97 ≡ 98 = at 0 _ _ h in omega (arith, e))
entry_once p (First n) (Certified d) es fs is also h t = report_none p is.0 also.0
entry_once p (Certified d) (First n) es fs is also h t = report_none p also.0 is.0
entry_once p (First n) (Audited c) es fs is also h t = report_none p is.0 also.0
entry_once p (Audited c) (First n) es fs is also h t = report_none p also.0 is.0
entry_once p (Bay b) (Certified d) es fs is also h t = report_none p is.0 also.0
entry_once p (Certified d) (Bay b) es fs is also h t = report_none p also.0 is.0
entry_once p (Bay b) (Audited c) es fs is also h t = report_none p is.0 also.0
entry_once p (Audited c) (Bay b) es fs is also h t = report_none p also.0 is.0
entry_once p (Last a b) (Certified d) es fs is also h t = report_none p is.0 also.0
entry_once p (Certified d) (Last a b) es fs is also h t = report_none p also.0 is.0
entry_once p (Last a b) (Audited c) es fs is also h t = report_none p is.0 also.0
entry_once p (Audited c) (Last a b) es fs is also h t = report_none p also.0 is.0
entry_once p (First n) (Bounds d) es fs is also h t = bounds_none p is.0 also.0
entry_once p (Bounds d) (First n) es fs is also h t = bounds_none p also.0 is.0
entry_once p (Bay b) (Bounds d) es fs is also h t = bounds_none p is.0 also.0
entry_once p (Bounds d) (Bay b) es fs is also h t = bounds_none p also.0 is.0
entry_once p (Last a b) (Bounds d) es fs is also h t = bounds_none p is.0 also.0
entry_once p (Bounds d) (Last a b) es fs is also h t = bounds_none p also.0 is.0
entry_once p (Certified b) (Bounds d) es fs is also h t = checks_none p is.0 also.0
entry_once p (Bounds d) (Certified b) es fs is also h t = checks_none p also.0 is.0
entry_once p (Audited a) (Bounds d) es fs is also h t = checks_none p is.0 also.0
entry_once p (Bounds d) (Audited a) es fs is also h t = checks_none p also.0 is.0

json_once : (p : Printed) (es fs : List Entry) → AllByRecursion (IsEntryOf p) es → AllByRecursion (IsEntryOf p) fs → report_of es ≡ report_of fs → json_of es ≡ json_of fs
json_once p [] [] a b e = refl
json_once p [] (f ∷ fs) a b e = absurd (some_line (head_of f) (tail_of f ++ report_of fs) (sym (e ∙ first_line f fs)))
json_once p (x ∷ es) [] a b e = absurd (some_line (head_of x) (tail_of x ++ report_of es) (sym (first_line x es) ∙ e))
json_once p (x ∷ es) (f ∷ fs) a b e =
    let lines = sym (first_line x es) ∙ e ∙ first_line f fs in
    let once = line_once (head_of x) (head_of f) (tail_of x ++ report_of es) (tail_of f ++ report_of fs) (head_plain x a.0.1) (head_plain f b.0.1) lines in
    let first = entry_once p x f es fs a.0 b.0 once.0 once.1 in
    ap (λ l. l ++ json_of es) first.0 ∙ ap (λ l. entry_line f ++ l) (json_once p es fs a.1 b.1 first.1)

pub one_json : (p : Printed) (report lines other : List ℕ) → AreJsonLines p report lines → AreJsonLines p report other → lines ≡ other
one_json p report lines other (es, a, e, l) (fs, b, f, k) = l ∙ json_once p es fs a b (sym e ∙ f) ∙ sym k
