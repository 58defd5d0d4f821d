-- What a symbol of a family leads to.
use Rattle.std.proofs.Common.{◌≡◌, ◌≢◌, ℕ, zero, suc, ◌+◌, ◌-◌, ◌*◌, ◌/◌, ◌%◌, ◌<◌, ◌≤◌, Bool, true, false, ◌&&◌, nat_le, nat_lt, Option, None, Some, List, [], ◌∷◌, ◌++◌, length, map, get_or, codes, refl, sym, ap, ◌∙◌, subst, ◌⊎◌, inl, inr, ⊎_elim, arith, append_assoc, append-nil}
use Rattle.std.specs.List.{AllByRecursion}
use Rattle.std.specs.Bool.{OnTrue, OnFalse}
use Rattle.std.specs.Fmt.{decimal}
use Rattle.std.proofs.lemmas.Fmt.{decimal_digit, decimal_step}
use Rattle.std.proofs.lemmas.Bool.{cases_lt, le-leb, leb-true, ltb-true, and_parts, ne_eqb, false_from_ne_true}
use Rattle.std.proofs.lemmas.List.Sums.{sum_by-cons}
use Rattle.crp_plan.specs.Rows.{occurrences}
use Rattle.crp_plan.specs.Bay.{Position}
use Rattle.crp_plan.proofs.Lists.{times, times_held, at_le_sum, occurrences-cons}
use Rattle.crp_chains.specs.declared.blocker.Blocker.{Blocker}
use Rattle.crp_chains.specs.Chains.{IsBlocker, AreLinked, IsChain, ranks_of, chain_gain, gain}
use Rattle.crp_chains.specs.Named.{turn_of, family_of}
use Rattle.crp_chains.proofs.Clear.{IsClear}
use Rattle.crp_chains.proofs.Blockers.{holds_own}
use Rattle.crp_chains.proofs.Naming.{family_named}
use Rattle.crp_thinning.specs.declared.reading.Reading.{Reading}
use Rattle.crp_thinning.specs.Steps.{IsFine}
use Rattle.crp_thinning.specs.Symbols.{chain_text, family_text}
use Rattle.crp_thinning.specs.Owed.{Task, Owes, points, digits_of, begun, EndsFamily}
use Rattle.crp_thinning.specs.OneChain.{IsRank, IsFair, last_rank, chain_of, Counted, CannotCount, ChainDone, CannotEnd}
use Rattle.crp_thinning.proofs.Texts.{IsShort, Read, read, digit_fits, may_end, read_begun, IsStop, FirstIs, first_chain, read_stop}

-- ---- ranks of a bay

rank_of : (count : ℕ) (s : Position) (b : Blocker) → IsFine count s → IsBlocker s b → IsRank b.rank
rank_of count s b f i =
    let st = i.stands in let lower : b.turn < b.rank = i.is_lower in
    (omega arith, f.ranks b.rank (omega (arith, at_le_sum (times b.rank) s.stacks st.row (i.beneath ++ b.rank ∷ st.over) st.stands, times_held b.rank (i.beneath ++ b.rank ∷ st.over) (holds_own i.beneath b.rank st.over))))

abbrev pub named : Position → List ℕ → List Blocker
named s chain = map (λ x. record { rank = x; turn = turn_of s x }) chain

ranks_of_chain : (count : ℕ) (s : Position) (chain : List ℕ) → IsFine count s → AllByRecursion (IsBlocker s) (named s chain) → AllByRecursion IsRank chain
ranks_of_chain count s [] f i = tt
ranks_of_chain count s (x ∷ chain) f i = (rank_of count s (record { rank = x; turn = turn_of s x }) f i.0, ranks_of_chain count s chain f i.1)

rising : (count : ℕ) (s : Position) (x : ℕ) (chain : List ℕ) → IsFine count s → AllByRecursion (IsBlocker s) (named s (x ∷ chain)) → AreLinked s (named s (x ∷ chain)) → x + length chain ≤ 96
rising count s x [] f i l = let r = rank_of count s (record { rank = x; turn = turn_of s x }) f i.0 in omega (arith, r.1)
rising count s x (y ∷ chain) f i l = let m = l.0 in omega (arith, m.rising, rising count s y chain f i.1 l.1)

short_chain : (count : ℕ) (s : Position) (chain : List ℕ) → IsFine count s → IsChain s (named s chain) → IsShort chain
short_chain count s [] f k = record { ranks = tt; few = omega arith }
short_chain count s (x ∷ chain) f k =
    let r = ranks_of_chain count s (x ∷ chain) f k.blockers in
    record { ranks = r; few = omega (arith, r.0.0, rising count s x chain f k.blockers k.linked) }

pub short_family : (count : ℕ) (s : Position) (family : List (List ℕ)) → IsFine count s → AllByRecursion (IsChain s) (family_of s family) → AllByRecursion IsShort family
short_family count s [] f k = tt
short_family count s (chain ∷ family) f k = (short_chain count s chain f k.0, short_family count s family f k.1)

-- ---- the front of what is to come

-- parts of what is read
parts : (x y : Read) → ◌≡◌ {A = Option Read} (Some x) (Some y) → (x.0 ≡ y.0) × (x.1 ≡ y.1) × (x.2 ≡ y.2)
parts x y e = (ap chain e, ap stop e, ap behind e)
  where
    chain : Option Read → List ℕ
    chain None = []
    chain (Some z) = z.0

    stop : Option Read → ℕ
    stop None = 0
    stop (Some z) = z.1

    behind : Option Read → List ℕ
    behind None = []
    behind (Some z) = z.2

-- a family is to come, and so its first chain
pub record Front (s : Position) (r : Reading) (tasks : List Task) (text : List ℕ) (k : EndsFamily s r tasks text) : Type 0 where
  pub chain : List ℕ
  pub stop : ℕ
  pub behind : List ℕ
  pub is_read : read r.ranks.items r.number text ≡ Some (chain, stop, behind)
  pub first : FirstIs k.family k.rest chain stop behind

pub front : (count : ℕ) (s : Position) (r : Reading) (tasks : List Task) (text : List ℕ) → IsFine count s → IsFair r → (k : EndsFamily s r tasks text) → Front s r tasks text k
front count s r tasks text f fair k =
    let F = first_chain k.family k.rest (short_family count s k.family f k.chains) in
    record {
      chain = F.0;
      stop = F.1;
      behind = F.2;
      is_read = sym (read_begun r.ranks.items r.number text fair.whole fair.few fair.begun) ∙ ap (read [] 0) k.is_text ∙ F.3;
      first = F.4;
    }

none_some : {X : Type 0} (P : Type 0) (x : X) (o : Option X) → o ≡ None → o ≡ Some x → P
none_some P x o e h = let q : None ≡ Some x = sym e ∙ h in cc

-- nothing ends here
pub nothing_yet : (count : ℕ) (s : Position) (r : Reading) (tasks : List Task) → IsFine count s → IsFair r → EndsFamily s r tasks [] → ⊥
nothing_yet count s r tasks f fair k = let F = front count s r tasks [] f fair k in none_some ⊥ (F.chain, F.stop, F.behind) (read r.ranks.items r.number []) refl F.is_read

-- a symbol that is refused
refused : (count : ℕ) (s : Position) (r : Reading) (tasks : List Task) (b : ℕ) (text : List ℕ) → IsFine count s → IsFair r → read r.ranks.items r.number (b ∷ text) ≡ None → EndsFamily s r tasks (b ∷ text) → ⊥
refused count s r tasks b text f fair e k = let F = front count s r tasks (b ∷ text) f fair k in none_some ⊥ (F.chain, F.stop, F.behind) (read r.ranks.items r.number (b ∷ text)) e F.is_read

-- ---- digits

not_fits : (n b : ℕ) → (IsRank (n * 10 + (b - 48)) → ⊥) → digit_fits n b ≡ false
not_fits n b no_rank = false_from_ne_true (digit_fits n b) (λ t. let p = and_parts (nat_le 1 (n * 10 + (b - 48))) (nat_le (n * 10 + (b - 48)) 96) t in no_rank (leb-true 1 (n * 10 + (b - 48)) p.0, leb-true (n * 10 + (b - 48)) 96 p.1))

pub digit_refused : (count : ℕ) (s : Position) (r : Reading) (tasks : List Task) (b : ℕ) (text : List ℕ) → IsFine count s → IsFair r → 48 ≤ b → b ≤ 57 → (IsRank (r.number * 10 + (b - 48)) → ⊥) → EndsFamily s r tasks (b ∷ text) → ⊥
digit_refused count s r tasks b text f fair lo hi no_rank k =
    refused count s r tasks b text f fair (rw (le-leb 48 b lo) (rw (le-leb b 57 hi) (rw (not_fits r.number b no_rank) refl))) k

-- a number by its last digit
more_digits : (n d : ℕ) → d ≤ 9 → IsRank (n * 10 + d) → digits_of (n * 10 + d) ≡ digits_of n ++ (48 + d) ∷ []
more_digits zero d le is = as_decimal (0 * 10 + d) is.0 ∙ decimal_digit (0 * 10 + d) (omega arith) ∙ ap (λ x. x ∷ []) (omega arith)
  where
    as_decimal : (m : ℕ) → 1 ≤ m → digits_of m ≡ decimal m
    as_decimal zero h = absurd (omega arith)
    as_decimal (suc m) h = refl
more_digits (suc n) d le is =
    let m : ℕ = suc n * 10 + d in
    let q : m / 10 ≡ suc n = omega arith in
    let u : m % 10 ≡ d = omega arith in
    as_decimal m is.0 ∙ decimal_step m (omega arith) (omega arith) ∙ ap (λ x. decimal x ++ (48 + m % 10) ∷ []) q ∙ ap (λ x. decimal (suc n) ++ (48 + x) ∷ []) u
  where
    as_decimal : (m : ℕ) → 1 ≤ m → digits_of m ≡ decimal m
    as_decimal zero h = absurd (omega arith)
    as_decimal (suc m) h = refl

-- the same family is to come, by what has begun
pub same_end : (s : Position) (r n : Reading) (tasks : List Task) (text more : List ℕ) → begun r ++ text ≡ begun n ++ more → n.seen ≡ r.seen → n.wanted ≡ r.wanted → EndsFamily s r tasks text → EndsFamily s n tasks more
same_end s r n tasks text more e seen wanted k = record {
  family = k.family;
  rest = k.rest;
  is_text = sym e ∙ k.is_text;
  chains = k.chains;
  apart = λ x. omega (arith, k.apart x, ap (λ l. get_or l x 0) seen);
  gains = omega (arith, k.gains, wanted);
  owes = k.owes;
}

pub digit_begun : (r n : Reading) (b : ℕ) (text : List ℕ) → 48 ≤ b → b ≤ 57 → IsRank (r.number * 10 + (b - 48)) → n ≡ record r { number = r.number * 10 + (b - 48) } → begun r ++ b ∷ text ≡ begun n ++ text
digit_begun r n b text lo hi is e =
    let back : 48 + (b - 48) ≡ b = omega arith in
    let digits : digits_of (r.number * 10 + (b - 48)) ≡ digits_of r.number ++ b ∷ [] = more_digits r.number (b - 48) (omega arith) is ∙ ap (λ x. digits_of r.number ++ x ∷ []) back in
    sym (ap (λ (m : Reading). begun m ++ text) e ∙ ap (λ l. (points r.ranks.items ++ l) ++ text) digits ∙ ap (λ l. l ++ text) (sym (append_assoc (points r.ranks.items) (digits_of r.number) (b ∷ []))) ∙ append_assoc (begun r) (b ∷ []) text)

pub digit_fair : (r n : Reading) (b : ℕ) → IsFair r → IsRank (r.number * 10 + (b - 48)) → n ≡ record r { number = r.number * 10 + (b - 48) } → IsFair n
digit_fair r n b fair is e = subst IsFair (sym e) (record { whole = fair.whole; few = fair.few; begun = is.1; once = fair.once })

-- ---- points

points_push : (xs : List ℕ) (x : ℕ) → points (xs ++ x ∷ []) ≡ points xs ++ (decimal x ++ 46 ∷ [])
points_push [] x = refl
points_push (y ∷ xs) x = ap (λ l. decimal y ++ 46 ∷ l) (points_push xs x) ∙ sym (append_assoc (decimal y) (46 ∷ points xs) (decimal x ++ 46 ∷ []))

digits_some : (n : ℕ) → 1 ≤ n → digits_of n ≡ decimal n
digits_some zero h = absurd (omega arith)
digits_some (suc n) h = refl

begun_by : (r : Reading) (ranks : List ℕ) (n : ℕ) → r.ranks.items ≡ ranks → r.number ≡ n → begun r ≡ points ranks ++ digits_of n
begun_by r ranks n e f = ap (λ l. points l ++ digits_of r.number) e ∙ ap (λ m. points ranks ++ digits_of m) f

pub point_begun : (r n : Reading) (text : List ℕ) → 1 ≤ r.number → n.ranks.items ≡ r.ranks.items ++ r.number ∷ [] → n.number ≡ 0 → begun r ++ 46 ∷ text ≡ begun n ++ text
point_begun r n text some ranks none =
    let x : ℕ = r.number in
    sym (
    ap (λ l. l ++ text) (begun_by n (r.ranks.items ++ x ∷ []) 0 ranks none ∙ append-nil (points (r.ranks.items ++ x ∷ [])) ∙ points_push r.ranks.items x ∙ sym (append_assoc (points r.ranks.items) (decimal x) (46 ∷ [])) ∙ ap (λ l. (points r.ranks.items ++ l) ++ 46 ∷ []) (sym (digits_some x some)))
    ∙ append_assoc (begun r) (46 ∷ []) text
    )

each_push : {X : Type 0} (P : X → Type 0) (xs : List X) (x : X) → AllByRecursion P xs → P x → AllByRecursion P (xs ++ x ∷ [])
each_push P [] x a p = (p, tt)
each_push P (y ∷ xs) x a p = (a.0, each_push P xs x a.1 p)

pub point_fair : (r n : Reading) → IsFair r → 1 ≤ r.number → length r.ranks.items + 1 < 96 → n.ranks.items ≡ r.ranks.items ++ r.number ∷ [] → n.number ≡ 0 → n.seen ≡ r.seen → IsFair n
point_fair r n fair some few ranks none seen =
    let begun_few = fair.begun in
    record {
      whole = subst (AllByRecursion IsRank) (sym ranks) (each_push IsRank r.ranks.items r.number fair.whole (some, fair.begun));
      few = omega (arith, ap length ranks, long r.ranks.items r.number);
      begun = omega arith;
      once = λ x. omega (arith, fair.once x, ap (λ l. get_or l x 0) seen);
    }
  where
    long : (xs : List ℕ) (x : ℕ) → length (xs ++ x ∷ []) ≡ length xs + 1
    long [] x = refl
    long (y ∷ xs) x = let h = long xs x in omega arith

pub point_refused : (count : ℕ) (s : Position) (r : Reading) (tasks : List Task) (text : List ℕ) → IsFine count s → IsFair r → (1 ≤ r.number → length r.ranks.items + 1 < 96 → ⊥) → EndsFamily s r tasks (46 ∷ text) → ⊥
point_refused count s r tasks text f fair not_both k =
    let e : (nat_le 1 r.number && nat_lt (length r.ranks.items + 1) 96) ≡ false = false_from_ne_true (nat_le 1 r.number && nat_lt (length r.ranks.items + 1) 96) (λ t.
    let p = and_parts (nat_le 1 r.number) (nat_lt (length r.ranks.items + 1) 96) t in not_both (leb-true 1 r.number p.0) (ltb-true (length r.ranks.items + 1) 96 p.1)) in
    refused count s r tasks 46 text f fair (rw e refl) k

-- ---- other symbols

pub other_refused : (count : ℕ) (s : Position) (r : Reading) (tasks : List Task) (b : ℕ) (text : List ℕ) → IsFine count s → IsFair r → (48 ≤ b → b ≤ 57 → ⊥) → b ≢ 46 → b ≢ 44 → b ≢ 59 → EndsFamily s r tasks (b ∷ text) → ⊥
other_refused count s r tasks b text f fair no_digit p c e k =
    let d : (nat_le 48 b && nat_le b 57) ≡ false = false_from_ne_true (nat_le 48 b && nat_le b 57) (λ t. let q = and_parts (nat_le 48 b) (nat_le b 57) t in no_digit (leb-true 48 b q.0) (leb-true b 57 q.1)) in
    refused count s r tasks b text f fair (rw d (rw (ne_eqb b 46 p) (rw (ne_eqb b 44 c) (rw (ne_eqb b 59 e) refl)))) k

-- ---- the end of a chain

may_from : (ranks : List ℕ) (n : ℕ) → (n ≡ 0 → ranks ≡ []) → may_end ranks n ≡ true
may_from [] n h = refl
may_from (x ∷ xs) n h = ⊎_elim (λ lt. let z : n ≡ 0 = omega arith in let e = h z in let q = ap length e in absurd (omega arith)) (λ ge. le-leb 1 n ge) (cases_lt n 1)

may_not : (ranks : List ℕ) (n : ℕ) → n ≡ 0 → (ranks ≡ [] → ⊥) → may_end ranks n ≡ false
may_not [] n z h = absurd (h refl)
may_not (x ∷ xs) n z h = ap (nat_le 1) z

text_push : (xs : List ℕ) (x : ℕ) → points xs ++ decimal x ≡ chain_text (xs ++ x ∷ [])
text_push [] x = refl
text_push (y ∷ []) x = append_assoc (decimal y) (46 ∷ []) (decimal x) ∙ sym (append_assoc (decimal y) (codes ".") (decimal x))
text_push (y ∷ z ∷ xs) x = append_assoc (decimal y) (46 ∷ points (z ∷ xs)) (decimal x) ∙ ap (λ l. decimal y ++ 46 ∷ l) (text_push (z ∷ xs) x) ∙ sym (append_assoc (decimal y) (codes ".") (chain_text (z ∷ xs ++ x ∷ [])))

whole_text : (ranks : List ℕ) (n : ℕ) → (n ≡ 0 → ranks ≡ []) → points ranks ++ digits_of n ≡ chain_text (ranks ++ last_rank n)
whole_text ranks zero may = let e = may refl in ap (λ l. points l ++ []) e ∙ ap (λ l. chain_text (l ++ [])) (sym e)
whole_text ranks (suc n) may = text_push ranks (suc n)

-- the chain that ends is the first of those to come
pub record Ends (s : Position) (r : Reading) (tasks : List Task) (b : ℕ) (text : List ℕ) (k : EndsFamily s r tasks (b ∷ text)) : Type 0 where
  pub first : FirstIs k.family k.rest (chain_of r) b text

pub ends : (count : ℕ) (s : Position) (r : Reading) (tasks : List Task) (b : ℕ) (text : List ℕ) → IsFine count s → IsFair r → (r.number ≡ 0 → r.ranks.items ≡ []) → IsStop b → (k : EndsFamily s r tasks (b ∷ text)) → Ends s r tasks b text k
ends count s r tasks b text f fair may stop k =
    let F = front count s r tasks (b ∷ text) f fair k in
    let p = parts (F.chain, F.stop, F.behind) (chain_of r, b, text) (sym F.is_read ∙ read_stop r.ranks.items r.number b text (may_from r.ranks.items r.number may) stop) in
    record {
      first = subst (λ c. FirstIs k.family k.rest c b text) p.0 (subst (λ a. FirstIs k.family k.rest F.chain a text) p.1 (subst (λ v. FirstIs k.family k.rest F.chain F.stop v) p.2 F.first));
    }

gain-cons : (s : Position) (c : List ℕ) (f : List (List ℕ)) → gain s (family_of s (c ∷ f)) ≡ chain_gain s (named s c) + gain s (family_of s f)
gain-cons s c f = sum_by-cons (chain_gain s) (named s c) (family_of s f)

pub gain_one : (s : Position) (c : List ℕ) → gain s (family_of s (c ∷ [])) ≡ chain_gain s (named s c)
gain_one s c = omega (arith, gain-cons s c [])

pub occurs_one : (x : ℕ) (c : List ℕ) → occurrences x (c ∷ []) ≡ times x c
occurs_one x c = omega (arith, occurrences-cons x c [])

begun_nothing : (n : Reading) → n.ranks.items ≡ [] → n.number ≡ 0 → begun n ≡ []
begun_nothing n e z = begun_by n [] 0 e z

-- behind a comma the other chains are to come
pub comma_on : (count : ℕ) (s : Position) (r n : Reading) (tasks : List Task) (text : List ℕ) → IsFine count s → IsFair r → ChainDone s r n → EndsFamily s r tasks (44 ∷ text) → EndsFamily s n tasks text
comma_on count s r n tasks text f fair d k = ⊎_elim
    (λ e. absurd (omega (arith, e.0)))
    (λ c.
    let counted = d.counted in
    let chains : AllByRecursion (IsChain s) (family_of s (chain_of r ∷ c.1)) = subst (λ l. AllByRecursion (IsChain s) (family_of s l)) c.2 k.chains in
    record {
      family = c.1;
      rest = k.rest;
      is_text = ap (λ l. l ++ text) (begun_nothing n counted.no_ranks counted.no_number) ∙ c.3;
      chains = chains.1;
      apart = λ x. omega (arith, k.apart x, ap (occurrences x) c.2, occurrences-cons x (chain_of r) c.1, occurs_one x (chain_of r), counted.seen x);
      gains = omega (arith, k.gains, counted.wanted, ap (λ l. gain s (family_of s l)) c.2, gain-cons s (chain_of r) c.1, gain_one s (chain_of r));
      owes = k.owes;
    })
    (ends count s r tasks 44 text f fair d.may_end (inl refl) k).first

-- an empty chain stands for no chain where others come before it
shown_as : List (List ℕ) → List (List ℕ)
shown_as [] = [] ∷ []
shown_as (c ∷ f) = c ∷ f

pub comma_back : (s : Position) (r n : Reading) (tasks : List Task) (text : List ℕ) → ChainDone s r n → EndsFamily s n tasks text → EndsFamily s r tasks (44 ∷ text)
comma_back s r n tasks text d k = go k.family k.is_text k.chains k.apart k.gains
  where
    start_text : (more : List (List ℕ)) (w : List ℕ) → text ≡ w → begun r ++ 44 ∷ text ≡ chain_text (chain_of r) ++ 44 ∷ w
    start_text more w e = ap (λ l. l ++ 44 ∷ text) (whole_text r.ranks.items r.number d.may_end) ∙ ap (λ l. chain_text (chain_of r) ++ 44 ∷ l) e

    go : (family : List (List ℕ)) → begun n ++ text ≡ family_text family ++ k.rest → AllByRecursion (IsChain s) (family_of s family) → ((x : ℕ) → get_or n.seen x 0 + occurrences x family ≤ 1) → n.wanted ≤ gain s (family_of s family) → EndsFamily s r tasks (44 ∷ text)
    go [] e chains apart gains =
        let counted = d.counted in
        let is : text ≡ codes ";" ++ k.rest = ap (λ l. l ++ text) (sym (begun_nothing n counted.no_ranks counted.no_number)) ∙ e in
        record {
          family = chain_of r ∷ [] ∷ [];
          rest = k.rest;
          is_text = start_text [] (codes ";" ++ k.rest) is ∙ sym (append_assoc (chain_text (chain_of r) ++ codes ",") (codes ";") k.rest ∙ append_assoc (chain_text (chain_of r)) (codes ",") (codes ";" ++ k.rest));
          chains = (counted.is_chain.0, (record { blockers = tt; linked = tt; in_time = tt }, tt));
          apart = λ x. omega (arith, apart x, occurrences-cons x (chain_of r) ([] ∷ []), occurrences-cons x [] [], occurs_one x (chain_of r), counted.seen x);
          gains = omega (arith, gains, counted.wanted, gain-cons s (chain_of r) ([] ∷ []), gain_one s (chain_of r));
          owes = k.owes;
        }
    go (c ∷ family) e chains apart gains =
        let counted = d.counted in
        let is : text ≡ family_text (c ∷ family) ++ k.rest = ap (λ l. l ++ text) (sym (begun_nothing n counted.no_ranks counted.no_number)) ∙ e in
        record {
          family = chain_of r ∷ c ∷ family;
          rest = k.rest;
          is_text = start_text [] (family_text (c ∷ family) ++ k.rest) is ∙ sym (append_assoc (chain_text (chain_of r) ++ codes ",") (family_text (c ∷ family)) k.rest ∙ append_assoc (chain_text (chain_of r)) (codes ",") (family_text (c ∷ family) ++ k.rest));
          chains = (counted.is_chain.0, chains);
          apart = λ x. omega (arith, apart x, occurrences-cons x (chain_of r) (c ∷ family), occurs_one x (chain_of r), counted.seen x);
          gains = omega (arith, gains, counted.wanted, gain-cons s (chain_of r) (c ∷ family), gain_one s (chain_of r));
          owes = k.owes;
        }

-- behind the end of the family the trees are to come
pub end_on : (count : ℕ) (s : Position) (r n : Reading) (tasks : List Task) (text : List ℕ) → IsFine count s → IsFair r → ChainDone s r n → EndsFamily s r tasks (59 ∷ text) → (n.wanted ≡ 0) × Owes tasks text
end_on count s r n tasks text f fair d k = ⊎_elim
    (λ e.
    let counted = d.counted in (
      ⊎_elim
          (λ one. omega (arith, k.gains, counted.wanted, ap (λ l. gain s (family_of s l)) one))
          (λ none. omega (arith, k.gains, counted.wanted, ap (λ l. gain s (family_of s l)) none.0))
          e.2,
      subst (Owes tasks) (sym e.1) k.owes,
    ))
    (λ c. absurd (omega (arith, c.0)))
    (ends count s r tasks 59 text f fair d.may_end (inr refl) k).first

pub end_back : (s : Position) (r n : Reading) (tasks : List Task) (text : List ℕ) → ChainDone s r n → n.wanted ≡ 0 → Owes tasks text → EndsFamily s r tasks (59 ∷ text)
end_back s r n tasks text d none o =
    let counted = d.counted in
    record {
      family = chain_of r ∷ [];
      rest = text;
      is_text = ap (λ l. l ++ 59 ∷ text) (whole_text r.ranks.items r.number d.may_end) ∙ sym (append_assoc (chain_text (chain_of r)) (codes ";") text);
      chains = counted.is_chain;
      apart = λ x. omega (arith, counted.seen x, counted.once x);
      gains = omega (arith, counted.wanted);
      owes = o;
    }

-- a chain that can't end here
pub cannot_end : (count : ℕ) (s : Position) (r : Reading) (tasks : List Task) (b : ℕ) (text : List ℕ) → IsFine count s → IsFair r → IsStop b → CannotEnd s r → EndsFamily s r tasks (b ∷ text) → ⊥
cannot_end count s r tasks b text f fair stop no_end k = ⊎_elim
    (λ m. refused count s r tasks b text f fair (none_read b stop (may_not r.ranks.items r.number m.0 m.1)) k)
    (λ c. ⊎_elim
    (λ may. counts_not c (ends count s r tasks b text f fair may stop k).first)
    (λ m. refused count s r tasks b text f fair (none_read b stop (may_not r.ranks.items r.number m.0 m.1)) k)
    (may_or r.ranks.items r.number))
    no_end
  where
    may_or : (ranks : List ℕ) (n : ℕ) → (n ≡ 0 → ranks ≡ []) ⊎ ((n ≡ 0) × (ranks ≡ [] → ⊥))
    may_or [] n = inl (λ z. refl)
    may_or (x ∷ xs) zero = inr (refl, λ e. let q = ap length e in omega arith)
    may_or (x ∷ xs) (suc n) = inl (λ z. absurd (omega arith))

    none_read : (a : ℕ) → IsStop a → may_end r.ranks.items r.number ≡ false → read r.ranks.items r.number (a ∷ text) ≡ None
    none_read a st m = ⊎_elim
        (λ e. subst (λ c. read r.ranks.items r.number (c ∷ text) ≡ None) (sym e) (rw m refl))
        (λ e. subst (λ c. read r.ranks.items r.number (c ∷ text) ≡ None) (sym e) (rw m refl))
        st

    among : (more : List (List ℕ)) → k.family ≡ chain_of r ∷ more → CannotCount s (chain_of r) r → ⊥
    among more e c = ⊎_elim
        (λ two. omega (arith, two.1, k.apart two.0, ap (occurrences two.0) e, occurrences-cons two.0 (chain_of r) more, occurs_one two.0 (chain_of r)))
        (λ no_chain. let chains : AllByRecursion (IsChain s) (family_of s (chain_of r ∷ more)) = subst (λ l. AllByRecursion (IsChain s) (family_of s l)) e k.chains in no_chain (chains.0, tt))
        c

    counts_not : CannotCount s (chain_of r) r → FirstIs k.family k.rest (chain_of r) b text → ⊥
    counts_not c first = ⊎_elim
        (λ e. ⊎_elim
        (λ one. among [] one c)
        (λ none. ⊎_elim
        (λ two. omega (arith, two.1, fair.once two.0, occurs_one two.0 (chain_of r), ap (times two.0) none.1))
        (λ no_chain. no_chain (subst (λ l. AllByRecursion (IsChain s) (family_of s (l ∷ []))) (sym none.1) (record { blockers = tt; linked = tt; in_time = tt }, tt)))
        c)
        e.2)
        (λ m. among m.1 m.2 c)
        first

-- ---- chains by their ranks

pub named_ranks : (s : Position) (ranks : List ℕ) → ranks_of (named s ranks) ≡ ranks
named_ranks s [] = refl
named_ranks s (x ∷ ranks) = ap (λ l. x ∷ l) (named_ranks s ranks)

pub chain_is_named : (s : Position) (chain : List Blocker) (ranks : List ℕ) → IsClear s → ranks_of chain ≡ ranks → IsChain s chain → chain ≡ named s ranks
chain_is_named s chain ranks clear e k =
    let f : chain ∷ [] ≡ named s (ranks_of chain) ∷ [] = family_named s (chain ∷ []) clear.once (k, tt) in
    ap first f ∙ ap (named s) e
  where
    first : List (List Blocker) → List Blocker
    first [] = []
    first (c ∷ cs) = c

pub on_true_then : (P Q : Type 0) (b : Bool) → OnTrue b P → (P → Q) → OnTrue b Q
on_true_then P Q true h f = f h
on_true_then P Q false h f = h

pub on_false_then : (P Q : Type 0) (b : Bool) → OnFalse b P → (P → Q) → OnFalse b Q
on_false_then P Q true h f = h
on_false_then P Q false h f = f h

-- the number that had begun is the last rank
pub counted_after : (s : Position) (r m n : Reading) → m.ranks.items ≡ chain_of r → (m.seen ≡ r.seen) × (m.wanted ≡ r.wanted) → Counted s m.ranks.items m n → Counted s (chain_of r) r n
counted_after s r m n e same k =
    let q : Counted s (chain_of r) m n = subst (λ l. Counted s l m n) e k in
    record {
      is_chain = q.is_chain;
      seen = λ x. omega (arith, q.seen x, ap (λ l. get_or l x 0) same.0);
      once = q.once;
      wanted = omega (arith, q.wanted, same.1);
      no_ranks = q.no_ranks;
      no_number = q.no_number;
    }

pub cannot_after : (s : Position) (r m : Reading) → m.ranks.items ≡ chain_of r → (m.seen ≡ r.seen) × (m.wanted ≡ r.wanted) → CannotCount s m.ranks.items m → CannotCount s (chain_of r) r
cannot_after s r m e same k = ⊎_elim
    (λ two. inl (two.0, omega (arith, two.1, ap (λ l. get_or l two.0 0) same.0)))
    (λ no_chain. inr no_chain)
    (subst (λ l. CannotCount s l m) e k)

-- a chain that is counted leaves a fair state
pub done_fair : (s : Position) (r n : Reading) → ChainDone s r n → IsFair n
done_fair s r n d =
    let c = d.counted in
    record { whole = subst (AllByRecursion IsRank) (sym c.no_ranks) tt; few = omega (arith, ap length c.no_ranks); begun = omega (arith, c.no_number); once = c.once }
