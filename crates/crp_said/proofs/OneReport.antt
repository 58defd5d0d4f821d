-- A text is one report's at most, and one line at most is the first that is misspelled.
use Rattle.std.proofs.Common.{◌≡◌, ◌≢◌, ⊎_elim, ℕ, ◌^◌, ◌<◌, ◌≤◌, List, [], ◌∷◌, ◌++◌, refl, sym, ap, ◌∙◌, append_assoc, drop, arith}
use Rattle.std.specs.Prelude.{codes, flat_map}
use Rattle.std.specs.List.{AllByRecursion}
use Rattle.std.proofs.lemmas.List.{append-nil}
use Rattle.crp_plan.specs.BayNames.{YardBay}
use Rattle.crp_said.specs.declared.numbers.Numbers.{Numbers}
use Rattle.crp_said.specs.declared.said.Said.{Said}
use Rattle.crp_said.specs.Said.{counts_line, words_of_bay, bay_line, bays_line, BaySaid, bay_text}
use Rattle.crp_said.specs.Spelled.{most, AreSmall, IsMoveBody, ended, IsSayable, ReportSaid, IsReportSaid, front_text, spelled, SpellsReport, line_behind, IsOrdersLine, IsBayLine, BeginsWithLine, StopsAtLine, GoesOnBehind, IsMisspelled}
use Rattle.crp_said.proofs.Bytes.{first_same, line_once}
use Rattle.crp_said.proofs.FirstLine.{one_numbers, one_last}
use Rattle.crp_said.proofs.Bays.{one_bay}
use Rattle.crp_said.proofs.Words.{plain, bay_printed, bay_ended, counts_words, counts_printed, counts_ended, last_words, last_printed, last_ended}

-- ---- lines of moves

ended_then : (line more rest : List ℕ) → (ended line ++ more) ++ rest ≡ line ++ 10 ∷ (more ++ rest)
ended_then line more rest = append_assoc (ended line) more rest ∙ append_assoc line (10 ∷ []) (more ++ rest)

-- they end where no line of moves stands
moves_once : (xs ys : List (List ℕ)) (x y : List ℕ) → AllByRecursion IsMoveBody xs → AllByRecursion IsMoveBody ys → ¬ BeginsWithLine IsMoveBody x → ¬ BeginsWithLine IsMoveBody y
    → flat_map ended xs ++ x ≡ flat_map ended ys ++ y → (flat_map ended xs ≡ flat_map ended ys) × (x ≡ y)
moves_once [] [] x y a b apart none e = (refl, e)
moves_once [] (l ∷ ys) x y a b apart none e = absurd (apart (l, flat_map ended ys ++ y, b.0, e ∙ ended_then l (flat_map ended ys) y))
moves_once (l ∷ xs) [] x y a b apart none e = absurd (none (l, flat_map ended xs ++ x, a.0, sym e ∙ ended_then l (flat_map ended xs) x))
moves_once (l ∷ xs) (k ∷ ys) x y a b apart none e =
    let p = a.0 in
    let q = b.0 in
    let left = flat_map ended xs ++ x in
    let right = flat_map ended ys ++ y in
    let h : l ++ 10 ∷ left ≡ k ++ 10 ∷ right = sym (ended_then l (flat_map ended xs) x) ∙ e ∙ ended_then k (flat_map ended ys) y in
    let cut = line_once l k left right p.one_line q.one_line h in
    let more = moves_once xs ys x y a.1 b.1 apart none cut.1 in
    (ap (λ t. ended t ++ flat_map ended xs) cut.0 ∙ ap (λ t. ended k ++ t) more.0, more.1)

-- none stands where a line begins with the letter b
no_move : (x : List ℕ) → ¬ BeginsWithLine IsMoveBody (98 ∷ x)
no_move x (body, rest, is, e) =
    let h : 98 ∷ x ≡ is.first ∷ (is.rest ++ 10 ∷ rest) = e ∙ ap (λ t. t ++ 10 ∷ rest) is.is in
    is.other (sym (first_same 98 is.first x (is.rest ++ 10 ∷ rest) h))

-- ---- bays

bay_then : (b : BaySaid) (z : List ℕ) → bay_text b ++ z ≡ words_of_bay b.bay b.said ++ 10 ∷ (b.lines ++ z)
bay_then b z =
    append_assoc (bay_line b.bay b.said) b.lines z ∙ ap (λ l. l ++ (b.lines ++ z)) (bay_ended b.bay b.said) ∙ append_assoc (words_of_bay b.bay b.said) (10 ∷ []) (b.lines ++ z)

bay_once : (b c : BaySaid) (x y : List ℕ) → IsSayable b → IsSayable c → ¬ BeginsWithLine IsMoveBody x → ¬ BeginsWithLine IsMoveBody y → bay_text b ++ x ≡ bay_text c ++ y → (b ≡ c) × (x ≡ y)
bay_once b c x y is-b is-c apart none e =
    let words-b = words_of_bay b.bay b.said in
    let words-c = words_of_bay c.bay c.said in
    let line = line_once words-b words-c (b.lines ++ x) (c.lines ++ y) (plain words-b (bay_printed b.bay b.said is-b.named)) (plain words-c (bay_printed c.bay c.said is-c.named))
    (sym (bay_then b x) ∙ e ∙ bay_then c y) in
    let same = one_bay b.bay c.bay b.said c.said is-b.named is-c.named is-b.small is-c.small line.0 in
    let lines-b = is-b.lines in
    let lines-c = is-c.lines in
    let lines = moves_once lines-b.bodies lines-c.bodies x y lines-b.each lines-c.each apart none
    (ap (λ l. l ++ x) (sym lines-b.is) ∙ line.1 ∙ ap (λ l. l ++ y) lines-c.is) in
    let same_lines : b.lines ≡ c.lines = lines-b.is ∙ lines.0 ∙ sym lines-c.is in
    let made : YardBay → Said → List ℕ → BaySaid = λ bay said lines. record { bay = bay; said = said; lines = lines } in
    (ap (λ v. made v b.said b.lines) same.0 ∙ ap (λ v. made c.bay v b.lines) same.1 ∙ ap (made c.bay c.said) same_lines, lines.1)

-- a bay stands there
begins : (b : BaySaid) (bays : List BaySaid) (x : List ℕ) → IsSayable b → BeginsWithLine IsBayLine (flat_map bay_text (b ∷ bays) ++ x)
begins b bays x is = (
  words_of_bay b.bay b.said,
  b.lines ++ (flat_map bay_text bays ++ x),
  (b.bay, b.said, is.named, is.small, refl),
  append_assoc (bay_text b) (flat_map bay_text bays) x ∙ bay_then b (flat_map bay_text bays ++ x),
)

-- behind a bay no line of moves stands
behind : (bays : List BaySaid) (x : List ℕ) → ¬ BeginsWithLine IsMoveBody x → ¬ BeginsWithLine IsMoveBody (flat_map bay_text bays ++ x)
behind [] x none = none
behind (b ∷ bays) x none = no_move _

bays_once : (xs ys : List BaySaid) (x y : List ℕ) → AllByRecursion IsSayable xs → AllByRecursion IsSayable ys → ¬ BeginsWithLine IsBayLine x → ¬ BeginsWithLine IsBayLine y
    → (xs ≢ [] → ¬ BeginsWithLine IsMoveBody x) → (ys ≢ [] → ¬ BeginsWithLine IsMoveBody y) → flat_map bay_text xs ++ x ≡ flat_map bay_text ys ++ y → (xs ≡ ys) × (x ≡ y)
bays_once [] [] x y a b apart none plain bare e = (refl, e)
bays_once [] (c ∷ ys) x y a b apart none plain bare e = let (line, rest, bay, is) = begins c ys y b.0 in absurd (apart (line, rest, bay, e ∙ is))
bays_once (c ∷ xs) [] x y a b apart none plain bare e = let (line, rest, bay, is) = begins c xs x a.0 in absurd (none (line, rest, bay, sym e ∙ is))
bays_once (c ∷ xs) (d ∷ ys) x y a b apart none plain bare e =
    let p : ¬ BeginsWithLine IsMoveBody x = plain (λ h. cc) in
    let q : ¬ BeginsWithLine IsMoveBody y = bare (λ h. cc) in
    let first = bay_once c d (flat_map bay_text xs ++ x) (flat_map bay_text ys ++ y) a.0 b.0 (behind xs x p) (behind ys y q)
    (sym (append_assoc (bay_text c) (flat_map bay_text xs) x) ∙ e ∙ append_assoc (bay_text d) (flat_map bay_text ys) y) in
    let more = bays_once xs ys x y a.1 b.1 apart none (λ some. p) (λ some. q) first.1 in
    (ap (λ v. v ∷ xs) first.0 ∙ ap (λ v. d ∷ v) more.0, more.1)

-- ---- a first line, bays, and what stands behind them

record IsFront (text : List ℕ) (n : Numbers) (bays : List BaySaid) (rest : List ℕ) : Type 0 where
  small : AreSmall n
  sayable : AllByRecursion IsSayable bays
  is : text ≡ front_text n bays ++ rest
  no_bay : ¬ BeginsWithLine IsBayLine rest
  no_line : bays ≢ [] → ¬ BeginsWithLine IsMoveBody rest

front_then : (n : Numbers) (bays : List BaySaid) (rest : List ℕ) → front_text n bays ++ rest ≡ counts_words n ++ 10 ∷ (flat_map bay_text bays ++ rest)
front_then n bays rest =
    let more : List ℕ = flat_map bay_text bays ++ rest in
    append_assoc (counts_line n) (flat_map bay_text bays) rest ∙ ap (λ l. l ++ more) (counts_ended n) ∙ append_assoc (counts_words n) (10 ∷ []) more

front_once : (text : List ℕ) (n m : Numbers) (xs ys : List BaySaid) (x y : List ℕ) → IsFront text n xs x → IsFront text m ys y → (n ≡ m) × (xs ≡ ys) × (x ≡ y)
front_once text n m xs ys x y f g =
    let first = line_once (counts_words n) (counts_words m) (flat_map bay_text xs ++ x) (flat_map bay_text ys ++ y) (plain (counts_words n) (counts_printed n)) (plain (counts_words m) (counts_printed m))
    (sym (front_then n xs x) ∙ sym f.is ∙ g.is ∙ front_then m ys y) in
    let bays = bays_once xs ys x y f.sayable g.sayable f.no_bay g.no_bay f.no_line g.no_line first.1 in
    (one_numbers n m f.small g.small first.0, bays.0, bays.1)

-- the last line is no bay's
no_bay_last : (x : List ℕ) → ¬ BeginsWithLine IsBayLine (codes "bays " ++ x)
no_bay_last x (line, rest, (bay, said, named, small, is), e) =
    let fourth : 115 ∷ (32 ∷ x) ≡ 32 ∷ (drop 4 (words_of_bay bay said) ++ 10 ∷ rest) = ap (drop 3) (e ∙ ap (λ l. l ++ 10 ∷ rest) is) in
    let same : ◌≡◌ {A = ℕ} 115 32 = first_same 115 32 _ _ fourth in omega (arith, same)

last_front : (text : List ℕ) (n : Numbers) (bays : List BaySaid) (rest : List ℕ) → AreSmall n → AllByRecursion IsSayable bays → text ≡ front_text n bays ++ (codes "bays " ++ rest)
    → IsFront text n bays (codes "bays " ++ rest)
last_front text n bays rest small sayable e = record { small = small; sayable = sayable; is = e; no_bay = no_bay_last rest; no_line = λ some. no_move _ }

-- bytes begin in one way with a first line, bays, and the first word of a last line
pub text_once : (n m : Numbers) (xs ys : List BaySaid) (x y : List ℕ) → AreSmall n → AreSmall m → AllByRecursion IsSayable xs → AllByRecursion IsSayable ys
    → front_text n xs ++ (codes "bays " ++ x) ≡ front_text m ys ++ (codes "bays " ++ y) → (n ≡ m) × (xs ≡ ys)
text_once n m xs ys x y low few a b e =
    let same = front_once (front_text n xs ++ (codes "bays " ++ x)) n m xs ys _ _ (last_front _ n xs x low a refl) (last_front _ m ys y few b e) in
    (same.0, same.1)

spelled_front : (text : List ℕ) (r : ReportSaid) (more : List ℕ) → IsReportSaid r → text ≡ spelled r ++ more → IsFront text r.numbers r.bays (bays_line r.count r.settled ++ more)
spelled_front text r more is e = last_front text r.numbers r.bays _ is.numbers is.bays (e ∙ append_assoc (front_text r.numbers r.bays) (bays_line r.count r.settled) more)

report_front : (text : List ℕ) (r : ReportSaid) → SpellsReport text r → IsFront text r.numbers r.bays (bays_line r.count r.settled ++ [])
report_front text r (is, e) = spelled_front text r [] is (e ∙ sym (append-nil (spelled r)))

stop_front : (text : List ℕ) (line : ℕ) → (s : StopsAtLine text line) → IsFront text s.numbers s.bays s.rest
stop_front text line s = record { small = s.small; sayable = s.sayable; is = s.is; no_bay = s.no_bay; no_line = s.no_move }

goes_front : (text : List ℕ) (line : ℕ) → (g : GoesOnBehind text line) → IsFront text (g.report).numbers (g.report).bays (bays_line (g.report).count (g.report).settled ++ g.more)
goes_front text line g = spelled_front text g.report g.more g.is_report g.is

short : {n : ℕ} → n ≤ most → n < 2 ^ 64
short low = omega (arith, low)

last_then : (count settled : ℕ) (x : List ℕ) → bays_line count settled ++ x ≡ last_words count settled ++ 10 ∷ x
last_then count settled x = ap (λ l. l ++ x) (last_ended count settled) ∙ append_assoc (last_words count settled) (10 ∷ []) x

-- reports with the same front whose last lines begin what follows are the same, and so is what follows those
same_last : (text : List ℕ) (r q : ReportSaid) (x y : List ℕ) → IsReportSaid r → IsReportSaid q → IsFront text r.numbers r.bays (bays_line r.count r.settled ++ x)
    → IsFront text q.numbers q.bays (bays_line q.count q.settled ++ y) → (r ≡ q) × (x ≡ y)
same_last text r q x y is-r is-q f g =
    let front = front_once text r.numbers q.numbers r.bays q.bays _ _ f g in
    let last = line_once (last_words r.count r.settled) (last_words q.count q.settled) x y (plain (last_words r.count r.settled) (last_printed r.count r.settled))
    (plain (last_words q.count q.settled) (last_printed q.count q.settled)) (sym (last_then r.count r.settled x) ∙ front.2 ∙ last_then q.count q.settled y) in
    let counts = one_last r.count r.settled q.count q.settled (short is-r.count) (short is-r.settled) (short is-q.count) (short is-q.settled) last.0 in
    let made : Numbers → List BaySaid → ℕ → ℕ → ReportSaid = λ n l a b. record { numbers = n; bays = l; count = a; settled = b } in (
      ap (λ n. made n r.bays r.count r.settled) front.0 ∙ ap (λ l. made q.numbers l r.count r.settled) front.1 ∙ ap (λ a. made q.numbers q.bays a r.settled) counts.0
          ∙ ap (made q.numbers q.bays q.count) counts.1,
      last.1,
    )

-- ---- the three laws

pub one_report : (text : List ℕ) (r q : ReportSaid) → SpellsReport text r → SpellsReport text q → r ≡ q
one_report text r q spells also = (same_last text r q [] [] spells.0 also.0 (report_front text r spells) (report_front text q also)).0

-- a front begins with a first line
front_begins : (text : List ℕ) (n : Numbers) (bays : List BaySaid) (rest : List ℕ) → IsFront text n bays rest → BeginsWithLine IsOrdersLine text
front_begins text n bays rest f = (counts_words n, flat_map bay_text bays ++ rest, (n, f.small, sym (counts_ended n)), f.is ∙ front_then n bays rest)

-- where one front stops, no last line follows another
stop_last : (text : List ℕ) (line : ℕ) (s : StopsAtLine text line) (r : ReportSaid) (more : List ℕ) → IsReportSaid r → IsFront text r.numbers r.bays (bays_line r.count r.settled ++ more) → ⊥
stop_last text line s r more is f =
    let same = front_once text s.numbers r.numbers s.bays r.bays _ _ (stop_front text line s) f in
    s.no_last (last_words r.count r.settled, more, (r.count, r.settled, is.count, is.settled, sym (last_ended r.count r.settled)), same.2 ∙ last_then r.count r.settled more)

pub not_both : (text : List ℕ) (r : ReportSaid) (line : ℕ) → SpellsReport text r → ¬ IsMisspelled text line
not_both text r line spells wrong =
    let f = report_front text r spells in
    ⊎_elim
    (λ one. one.1 (front_begins text r.numbers r.bays _ f))
    (λ later. ⊎_elim
    (λ s. stop_last text line s r [] spells.0 f)
    (λ g. g.some (sym (same_last text r g.report [] g.more spells.0 g.is_report f (goes_front text line g)).1))
    later)
    wrong

pub one_line : (text : List ℕ) (line other : ℕ) → IsMisspelled text line → IsMisspelled text other → line ≡ other
one_line text line other wrong also = ⊎_elim (first also) (λ later. ⊎_elim (stops also) (goes also) later) wrong
  where
    front_there : (l : ℕ) (n : Numbers) (bays : List BaySaid) (rest : List ℕ) → IsFront text n bays rest → ((l ≡ 1) × ¬ BeginsWithLine IsOrdersLine text) → ⊥
    front_there l n bays rest f one = one.1 (front_begins text n bays rest f)

    first : IsMisspelled text other → ((line ≡ 1) × ¬ BeginsWithLine IsOrdersLine text) → line ≡ other
    first also one =
        ⊎_elim (λ two. one.0 ∙ sym two.0)
        (λ later. ⊎_elim (λ s. absurd (front_there line s.numbers s.bays s.rest (stop_front text other s) one))
        (λ g. absurd (front_there line _ _ _ (goes_front text other g) one)) later) also

    stops : IsMisspelled text other → StopsAtLine text line → line ≡ other
    stops also s =
        ⊎_elim (λ two. absurd (front_there other s.numbers s.bays s.rest (stop_front text line s) two))
        (λ later. ⊎_elim
        (λ t. let same = front_once text s.numbers t.numbers s.bays t.bays s.rest t.rest (stop_front text line s) (stop_front text other t) in
        s.line_is ∙ ap (λ n. line_behind (front_text n s.bays)) same.0 ∙ ap (λ l. line_behind (front_text t.numbers l)) same.1 ∙ sym t.line_is)
        (λ g. absurd (stop_last text line s g.report g.more g.is_report (goes_front text other g))) later) also

    goes : IsMisspelled text other → GoesOnBehind text line → line ≡ other
    goes also g =
        ⊎_elim (λ two. absurd (front_there other _ _ _ (goes_front text line g) two))
        (λ later. ⊎_elim
        (λ s. absurd (stop_last text other s g.report g.more g.is_report (goes_front text line g)))
        (λ h. let same = same_last text g.report h.report g.more h.more g.is_report h.is_report (goes_front text line g) (goes_front text other h) in
        g.line_is ∙ ap (λ (r : ReportSaid). line_behind (spelled r)) same.0 ∙ sym h.line_is) later) also
