-- The lines of checks and of bounds: what is read is what the line says, and the line is read again.
use Rattle.std.proofs.Common.{◌≡◌, ◌≢◌, ℕ, ◌≤◌, ⊎_elim, List, [], ◌∷◌, ◌++◌, Option, Some, None, refl, sym, ap, ◌∙◌, subst, arith, append_assoc}
use Rattle.std.specs.Prelude.{codes, IfSome}
use Rattle.std.specs.Fmt.{decimal}
use Rattle.std.specs.List.{AllByRecursion}
use Rattle.std.specs.Str.{bytes_eq}
use Rattle.std.proofs.lemmas.Slice.Eq.{bytes_eq-Decides}
use Rattle.std.proofs.lemmas.Option.{same_Some, none-some}
use Rattle.std.proofs.lemmas.List.{append-nil}
use Rattle.std.proofs.lemmas.List.Elements.{recursion_from_All}
use Rattle.crp_plan.specs.BayNames.{YardBay, IsYardBay}
use Rattle.crp_checker.specs.declared.verdict.Verdict.{Verdict}
use Rattle.crp_checker.specs.declared.verdict.Verdict.TheVariants as verdict
use Rattle.crp_cert.specs.Reading.{tag_at, number_at, word_at}
use Rattle.crp_cert.proofs.Numbers.{bind_some, chosen, tag_again, tag_takes}
use Rattle.crp_cert.proofs.Lines.{word_takes, word_again}
use Rattle.crp_said.specs.declared.said.Said.{Said}
use Rattle.crp_said.specs.declared.said.Said.TheVariants as said
use Rattle.crp_said.specs.Fields.{number_alone_at}
use Rattle.crp_said.specs.Said.{bay_words, said_words, words_of_bay}
use Rattle.crp_said.specs.Spelled.{most, IsBayLine, IsSmall}
use Rattle.crp_said.proofs.Bays.{named, one_bay}
use Rattle.crp_said.proofs.Bytes.{IsPlain, plain_both, plain_number, plain_words}
use Rattle.crp_said.proofs.Digits.{alone_again, alone_found, number_found, number_reread, number_whole}
use Rattle.crp_said.proofs.Words.{bay_printed, plain}
use Rattle.crp_json.specs.Checks.{behind_tag_at, bounds_at, plan_at, settled_by, tagged_at, title_at}
use Rattle.crp_json.specs.Entries.{plan_words, shown_words, title_words, words_of_shown, IsBoundsLine, IsNumberLine, IsShownLine, IsSmallVerdict, IsTitleLine}

-- ---- no byte is LF

front : (P : ℕ → Type 0) (xs ys : List ℕ) → AllByRecursion P (xs ++ ys) → AllByRecursion P xs
front P [] ys all = tt
front P (x ∷ xs) ys all = (all.0, front P xs ys all.1)

pub number_plain : (words : List ℕ) (n : ℕ) → IsPlain words → IsPlain (words ++ decimal n)
number_plain words n is = plain_both words (decimal n) is (plain_number n)

plan_plain : (upper : Option ℕ) → IsPlain (plan_words upper)
plan_plain None = tt
plan_plain (Some count) = plain_both (codes ", plan of ") (decimal count) (plain_words (codes ", plan of ") refl) (plain_number count)

bay_plain : (bay : YardBay) → IsYardBay bay → IsPlain (bay_words bay)
bay_plain bay is = front (λ b. b ≢ 10) (bay_words bay) (codes "no plan") (plain (words_of_bay bay said.NoPlan) (bay_printed bay said.NoPlan is))

pub shown_plain : (bay : YardBay) (shown : Verdict) → IsYardBay bay → IsPlain (words_of_shown bay shown)
shown_plain bay (verdict.Optimal count) is = plain (words_of_bay bay (said.Optimal count)) (bay_printed bay (said.Optimal count) is)
shown_plain bay (verdict.First count) is = plain (words_of_bay bay (said.First count)) (bay_printed bay (said.First count) is)
shown_plain bay verdict.NoPlan is = plain (words_of_bay bay said.NoPlan) (bay_printed bay said.NoPlan is)
shown_plain bay (verdict.Bounds lower upper) is =
    plain_both (bay_words bay) (shown_words (verdict.Bounds lower upper)) (bay_plain bay is)
    (plain_both (codes "at least ") (decimal lower ++ plan_words upper) (plain_words (codes "at least ") refl)
    (plain_both (decimal lower) (plan_words upper) (plain_number lower) (plan_plain upper)))

-- ---- bounds

plan_takes : (bytes : List ℕ) (upper : Option ℕ) → plan_at bytes ≡ Some upper → IfSome upper (λ count. count ≤ most) × (bytes ≡ plan_words upper)
unfolding behind_tag_at
plan_takes bytes upper e =
    ⊎_elim
    (λ none. subst (λ u. IfSome u (λ count. count ≤ most) × (bytes ≡ plan_words u)) (same_Some None upper none.1) (tt, (bytes_eq-Decides bytes []).0 none.0))
    (λ some.
    let a = bind_some (tag_at (codes ", plan of ") bytes) _ upper some.1 in
    let n = bind_some (number_alone_at a.0) _ upper a.2 in
    let x = alone_found a.0 n.0 n.1 in
    subst (λ u. IfSome u (λ count. count ≤ most) × (bytes ≡ plan_words u)) (same_Some (Some n.0) upper n.2)
    (x.1, tag_takes (codes ", plan of ") bytes a.0 a.1 ∙ ap (λ l. codes ", plan of " ++ l) x.0))
    (chosen (bytes_eq bytes []) (Some None) (behind_tag_at bytes) (Some upper) e)

-- the lower bound, and the plan behind it, are read again
lower_again : (lower : ℕ) (upper : Option ℕ) → lower ≤ most → number_at most (decimal lower ++ plan_words upper) ≡ Some (lower, plan_words upper)
lower_again lower None low = ap (number_at most) (append-nil (decimal lower)) ∙ number_whole lower low
lower_again lower (Some count) low = number_reread lower 44 (codes " plan of " ++ decimal count) low refl

plan_again : (upper : Option ℕ) → IfSome upper (λ count. count ≤ most) → plan_at (plan_words upper) ≡ Some upper
unfolding behind_tag_at
plan_again None low = refl
plan_again (Some count) low = rw (alone_again count low) refl

words_then : (name : YardBay) (words : List ℕ) → bay_words name ++ words ≡ codes "bay " ++ (name.block ++ 32 ∷ (decimal name.bay ++ 58 ∷ 32 ∷ words))
words_then name words =
    ap (λ l. codes "bay " ++ l)
    (append_assoc name.block (32 ∷ (decimal name.bay ++ codes ": ")) words ∙ ap (λ l. name.block ++ 32 ∷ l) (append_assoc (decimal name.bay) (codes ": ") words))

abbrev Bounded : Type 0
Bounded = (List ℕ × ℕ) × (ℕ × Option ℕ)

pub bounds_takes : (line : List ℕ) (x : Bounded) → bounds_at line ≡ Some x
    → IsSmallVerdict (verdict.Bounds x.1.0 x.1.1) × (line ≡ words_of_shown (named x.0) (verdict.Bounds x.1.0 x.1.1))
unfolding bounds_at
bounds_takes line v e =
    let a = bind_some (tag_at (codes "bay ") line) _ v e in
    let w = bind_some (word_at a.0) _ v a.2 in
    let b = bind_some (tag_at (codes " ") w.0.1) _ v w.2 in
    let n = bind_some (number_at most b.0) _ v b.2 in
    let c = bind_some (tag_at (codes ": at least ") n.0.1) _ v n.2 in
    let low = bind_some (number_at most c.0) _ v c.2 in
    let up = bind_some (plan_at low.0.1) _ v low.2 in
    let x = number_found b.0 n.0.0 n.0.1 n.1 in
    let y = number_found c.0 low.0.0 low.0.1 low.1 in
    let z = plan_takes low.0.1 up.0 up.1 in
    let made : Verdict = verdict.Bounds low.0.0 up.0 in
    let text : line ≡ words_of_shown (named (w.0.0, n.0.0)) made =
    tag_takes (codes "bay ") line a.0 a.1
    ∙ ap (λ l. codes "bay " ++ l) (word_takes a.0 w.0.0 w.0.1 w.1 ∙ ap (λ l. w.0.0 ++ l) (tag_takes (codes " ") w.0.1 b.0 b.1
    ∙ ap (λ l. 32 ∷ l) (x.0 ∙ ap (λ l. decimal n.0.0 ++ l) (tag_takes (codes ": at least ") n.0.1 c.0 c.1
    ∙ ap (λ l. codes ": at least " ++ l) (y.0 ∙ ap (λ l. decimal low.0.0 ++ l) z.1)))))
    ∙ sym (words_then (named (w.0.0, n.0.0)) (shown_words made)) in
    subst (λ (x : Bounded). IsSmallVerdict (verdict.Bounds x.1.0 x.1.1) × (line ≡ words_of_shown (named x.0) (verdict.Bounds x.1.0 x.1.1)))
    (same_Some ((w.0.0, n.0.0), (low.0.0, up.0)) v up.2) ((y.1, z.0), text)

bounds_again : (name : YardBay) (lower : ℕ) (upper : Option ℕ) → IsYardBay name → IsSmallVerdict (verdict.Bounds lower upper)
    → bounds_at (words_of_shown name (verdict.Bounds lower upper)) ≡ Some ((name.block, name.bay), (lower, upper))
unfolding bounds_at
bounds_again name lower upper is small =
    let words : List ℕ = shown_words (verdict.Bounds lower upper) in
    let number : List ℕ = decimal name.bay ++ 58 ∷ 32 ∷ words in
    let low = is.four_digits in
    let w : word_at (name.block ++ 32 ∷ number) ≡ Some (name.block, 32 ∷ number) = word_again name.block number (recursion_from_All (λ b. (33 ≤ b) × (b ≤ 126)) name.block is.printed) in
    let n : number_at most number ≡ Some (name.bay, 58 ∷ 32 ∷ words) = number_reread name.bay 58 (32 ∷ words) (omega (arith, low)) refl in
    ap bounds_at (words_then name words) ∙ rw (w, n, lower_again lower upper small.0, plan_again upper small.1) refl

pub no_bounds : (line : List ℕ) → bounds_at line ≡ None → ¬ IsBoundsLine line
no_bounds line none (name, lower, upper, is, small, e) =
    none-some ((name.block, name.bay), (lower, upper)) (sym none ∙ ap bounds_at e ∙ bounds_again name lower upper is small)

-- what is read is the name whose line it is
pub bounds_are : (line block : List ℕ) (bay lower : ℕ) (upper : Option ℕ) → bounds_at line ≡ Some ((block, bay), (lower, upper)) → IsBoundsLine line
    → IsYardBay (record { block = block; bay = bay })
bounds_are line block bay lower upper read (name, l, u, is, small, e) =
    let same = same_Some ((name.block, name.bay), (l, u)) ((block, bay), (lower, upper)) (sym (bounds_again name l u is small) ∙ ap bounds_at (sym e) ∙ read) in
    subst IsYardBay (ap (λ (x : Bounded). named x.0) same) is

-- ---- what a certificate shows

-- what a report says in the same words
pub settled_is : (bay : YardBay) (s : Said) (shown : Verdict) → settled_by s ≡ Some shown → IsSmall s → IsSmallVerdict shown × (words_of_bay bay s ≡ words_of_shown bay shown)
settled_is bay (said.Optimal count) shown e small =
    subst (λ v. IsSmallVerdict v × (words_of_bay bay (said.Optimal count) ≡ words_of_shown bay v)) (same_Some (verdict.Optimal count) shown e) (small, refl)
settled_is bay (said.First count) shown e small =
    subst (λ v. IsSmallVerdict v × (words_of_bay bay (said.First count) ≡ words_of_shown bay v)) (same_Some (verdict.First count) shown e) (small, refl)
settled_is bay said.NoPlan shown e small =
    subst (λ v. IsSmallVerdict v × (words_of_bay bay said.NoPlan ≡ words_of_shown bay v)) (same_Some verdict.NoPlan shown e) (tt, refl)
settled_is bay (said.Between lower upper cause) shown e small = absurd (none-some shown e)
settled_is bay (said.Outside count) shown e small = absurd (none-some shown e)

pub no_shown : (line : List ℕ) → ¬ IsBayLine line → ¬ IsBoundsLine line → ¬ IsShownLine line
no_shown line not none (bay, verdict.Optimal count, is, small, e) = not (bay, said.Optimal count, is, small, e)
no_shown line not none (bay, verdict.First count, is, small, e) = not (bay, said.First count, is, small, e)
no_shown line not none (bay, verdict.NoPlan, is, small, e) = not (bay, said.NoPlan, is, tt, e)
no_shown line not none (bay, verdict.Bounds lower upper, is, small, e) = none (bay, lower, upper, is, small, e)

-- the line of a bay that is not settled
pub no_settled : (line : List ℕ) (b : YardBay) (s : Said) → IsYardBay b → IsSmall s → line ≡ words_of_bay b s → settled_by s ≡ None → ¬ IsBoundsLine line → ¬ IsShownLine line
no_settled line b s at low stands open_line none (bay, verdict.Optimal count, is, small, e) =
    none-some (verdict.Optimal count) (sym open_line ∙ ap settled_by (one_bay b bay s (said.Optimal count) at is low small (sym stands ∙ e)).1)
no_settled line b s at low stands open_line none (bay, verdict.First count, is, small, e) =
    none-some (verdict.First count) (sym open_line ∙ ap settled_by (one_bay b bay s (said.First count) at is low small (sym stands ∙ e)).1)
no_settled line b s at low stands open_line none (bay, verdict.NoPlan, is, small, e) =
    none-some verdict.NoPlan (sym open_line ∙ ap settled_by (one_bay b bay s said.NoPlan at is low tt (sym stands ∙ e)).1)
no_settled line b s at low stands open_line none (bay, verdict.Bounds lower upper, is, small, e) = none (bay, lower, upper, is, small, e)

-- ---- the words of bays are the same, and so are the bays and what is shown of them

-- no bounds are read where something else is said
not_bounds : (name : YardBay) (s : Said) → IsYardBay name → tag_at (codes ": at least ") (58 ∷ 32 ∷ said_words s) ≡ None → bounds_at (words_of_bay name s) ≡ None
unfolding bounds_at
not_bounds name s is other =
    let number : List ℕ = decimal name.bay ++ 58 ∷ 32 ∷ said_words s in
    let low = is.four_digits in
    let w : word_at (name.block ++ 32 ∷ number) ≡ Some (name.block, 32 ∷ number) = word_again name.block number (recursion_from_All (λ b. (33 ≤ b) × (b ≤ 126)) name.block is.printed) in
    let n : number_at most number ≡ Some (name.bay, 58 ∷ 32 ∷ said_words s) = number_reread name.bay 58 (32 ∷ said_words s) (omega (arith, low)) refl in
    ap bounds_at (words_then name (said_words s)) ∙ rw (w, n, other) refl

mixed : {X : Type 0} (b c : YardBay) (s : Said) (lower : ℕ) (upper : Option ℕ) → IsYardBay b → IsYardBay c → tag_at (codes ": at least ") (58 ∷ 32 ∷ said_words s) ≡ None
    → IsSmallVerdict (verdict.Bounds lower upper) → words_of_bay b s ≡ words_of_shown c (verdict.Bounds lower upper) → X
mixed b c s lower upper is also other small e =
    absurd (none-some ((c.block, c.bay), (lower, upper)) (sym (not_bounds b s is other) ∙ ap bounds_at e ∙ bounds_again c lower upper also small))

abbrev Same : YardBay → YardBay → Verdict → Verdict → Type 0
Same b c v w = (b ≡ c) × (v ≡ w)

settled_same : (b c : YardBay) (s t : Said) (v w : Verdict) → settled_by s ≡ Some v → settled_by t ≡ Some w → (b ≡ c) × (s ≡ t) → Same b c v w
settled_same b c s t v w of_s of_t same = (same.0, same_Some v w (sym of_s ∙ ap settled_by same.1 ∙ of_t))

pub one_shown : (b c : YardBay) (v w : Verdict) → IsYardBay b → IsYardBay c → IsSmallVerdict v → IsSmallVerdict w → words_of_shown b v ≡ words_of_shown c w → (b ≡ c) × (v ≡ w)
one_shown b c (verdict.Optimal n) (verdict.Optimal m) is also small few e =
    settled_same b c (said.Optimal n) (said.Optimal m) (verdict.Optimal n) (verdict.Optimal m) refl refl (one_bay b c (said.Optimal n) (said.Optimal m) is also small few e)
one_shown b c (verdict.Optimal n) (verdict.First m) is also small few e =
    settled_same b c (said.Optimal n) (said.First m) (verdict.Optimal n) (verdict.First m) refl refl (one_bay b c (said.Optimal n) (said.First m) is also small few e)
one_shown b c (verdict.Optimal n) verdict.NoPlan is also small few e =
    settled_same b c (said.Optimal n) said.NoPlan (verdict.Optimal n) verdict.NoPlan refl refl (one_bay b c (said.Optimal n) said.NoPlan is also small tt e)
one_shown b c (verdict.First n) (verdict.Optimal m) is also small few e =
    settled_same b c (said.First n) (said.Optimal m) (verdict.First n) (verdict.Optimal m) refl refl (one_bay b c (said.First n) (said.Optimal m) is also small few e)
one_shown b c (verdict.First n) (verdict.First m) is also small few e =
    settled_same b c (said.First n) (said.First m) (verdict.First n) (verdict.First m) refl refl (one_bay b c (said.First n) (said.First m) is also small few e)
one_shown b c (verdict.First n) verdict.NoPlan is also small few e =
    settled_same b c (said.First n) said.NoPlan (verdict.First n) verdict.NoPlan refl refl (one_bay b c (said.First n) said.NoPlan is also small tt e)
one_shown b c verdict.NoPlan (verdict.Optimal m) is also small few e =
    settled_same b c said.NoPlan (said.Optimal m) verdict.NoPlan (verdict.Optimal m) refl refl (one_bay b c said.NoPlan (said.Optimal m) is also tt few e)
one_shown b c verdict.NoPlan (verdict.First m) is also small few e =
    settled_same b c said.NoPlan (said.First m) verdict.NoPlan (verdict.First m) refl refl (one_bay b c said.NoPlan (said.First m) is also tt few e)
one_shown b c verdict.NoPlan verdict.NoPlan is also small few e =
    settled_same b c said.NoPlan said.NoPlan verdict.NoPlan verdict.NoPlan refl refl (one_bay b c said.NoPlan said.NoPlan is also tt tt e)
one_shown b c (verdict.Optimal n) (verdict.Bounds l u) is also small few e = mixed b c (said.Optimal n) l u is also refl few e
one_shown b c (verdict.Bounds l u) (verdict.Optimal n) is also small few e = mixed c b (said.Optimal n) l u also is refl small (sym e)
one_shown b c (verdict.First n) (verdict.Bounds l u) is also small few e = mixed b c (said.First n) l u is also refl few e
one_shown b c (verdict.Bounds l u) (verdict.First n) is also small few e = mixed c b (said.First n) l u also is refl small (sym e)
one_shown b c verdict.NoPlan (verdict.Bounds l u) is also small few e = mixed b c said.NoPlan l u is also refl few e
one_shown b c (verdict.Bounds l u) verdict.NoPlan is also small few e = mixed c b said.NoPlan l u also is refl small (sym e)
one_shown b c (verdict.Bounds l u) (verdict.Bounds m o) is also small few e =
    let same = same_Some ((b.block, b.bay), (l, u)) ((c.block, c.bay), (m, o)) (sym (bounds_again b l u is small) ∙ ap bounds_at e ∙ bounds_again c m o also few) in
    (ap (λ (x : Bounded). named x.0) same, ap (λ (x : Bounded). verdict.Bounds x.1.0 x.1.1) same)

-- ---- a number behind words

pub tagged_found : (words line : List ℕ) (n : ℕ) → tagged_at words line ≡ Some n → (n ≤ most) × (line ≡ words ++ decimal n)
unfolding tagged_at
tagged_found words line n e =
    let a = bind_some (tag_at words line) _ n e in
    let x = alone_found a.0 n a.2 in
    (x.1, tag_takes words line a.0 a.1 ∙ ap (λ l. words ++ l) x.0)

pub tagged_again : (words : List ℕ) (n : ℕ) → n ≤ most → tagged_at words (words ++ decimal n) ≡ Some n
unfolding tagged_at
tagged_again words n low = rw (tag_again words (decimal n), alone_again n low) refl

pub no_tagged : (words line : List ℕ) → tagged_at words line ≡ None → ¬ IsNumberLine words line
no_tagged words line none (n, low, e) = none-some n (sym none ∙ ap (tagged_at words) e ∙ tagged_again words n low)

pub one_number : (words : List ℕ) (a b : ℕ) → a ≤ most → b ≤ most → words ++ decimal a ≡ words ++ decimal b → a ≡ b
one_number words a b low few e = same_Some a b (sym (tagged_again words a low) ∙ ap (tagged_at words) e ∙ tagged_again words b few)

-- ---- the name of a bay

pub title_takes : (line : List ℕ) (x : List ℕ × ℕ) → title_at line ≡ Some x → line ≡ title_words (named x)
unfolding title_at
title_takes line v e =
    let a = bind_some (tag_at (codes "bay ") line) _ v e in
    let w = bind_some (word_at a.0) _ v a.2 in
    let n = bind_some (tagged_at (codes " ") w.0.1) _ v w.2 in
    tag_takes (codes "bay ") line a.0 a.1
    ∙ ap (λ l. codes "bay " ++ l) (word_takes a.0 w.0.0 w.0.1 w.1 ∙ ap (λ l. w.0.0 ++ l) (tagged_found (codes " ") w.0.1 n.0 n.1).1)
    ∙ ap (λ (x : List ℕ × ℕ). title_words (named x)) (same_Some (w.0.0, n.0) v n.2)

title_again : (name : YardBay) → IsYardBay name → title_at (title_words name) ≡ Some (name.block, name.bay)
unfolding title_at
title_again name is =
    let low = is.four_digits in
    let w : word_at (name.block ++ 32 ∷ decimal name.bay) ≡ Some (name.block, 32 ∷ decimal name.bay) =
    word_again name.block (decimal name.bay) (recursion_from_All (λ b. (33 ≤ b) × (b ≤ 126)) name.block is.printed) in
    let n : tagged_at (codes " ") (32 ∷ decimal name.bay) ≡ Some name.bay = tagged_again (codes " ") name.bay (omega (arith, low)) in
    rw (w, n) refl

pub no_title : (line : List ℕ) → title_at line ≡ None → ¬ IsTitleLine line
no_title line none (name, is, e) = none-some (name.block, name.bay) (sym none ∙ ap title_at e ∙ title_again name is)

-- what is read is the name whose line it is
pub title_is : (line block : List ℕ) (bay : ℕ) → title_at line ≡ Some (block, bay) → IsTitleLine line → IsYardBay (record { block = block; bay = bay })
title_is line block bay read (name, is, e) =
    let same = same_Some (name.block, name.bay) (block, bay) (sym (title_again name is) ∙ ap title_at (sym e) ∙ read) in
    subst IsYardBay (ap named same) is

pub one_title : (b c : YardBay) → IsYardBay b → IsYardBay c → title_words b ≡ title_words c → b ≡ c
one_title b c is also e = ap named (same_Some (b.block, b.bay) (c.block, c.bay) (sym (title_again b is) ∙ ap title_at e ∙ title_again c also))

pub title_plain : (bay : YardBay) → IsYardBay bay → IsPlain (title_words bay)
title_plain bay is =
    front (λ b. b ≢ 10) (title_words bay) (codes ": ")
    (subst IsPlain (sym (append_assoc (codes "bay ") (bay.block ++ 32 ∷ decimal bay.bay) (codes ": ")
    ∙ ap (λ l. codes "bay " ++ l) (append_assoc bay.block (32 ∷ decimal bay.bay) (codes ": ")))) (bay_plain bay is))
