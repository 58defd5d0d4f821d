-- The text of a family, read from its front.
use Rattle.std.proofs.Common.{◌≡◌, ℕ, zero, suc, ◌+◌, ◌-◌, ◌*◌, ◌/◌, ◌%◌, ◌<◌, ◌≤◌, Bool, true, ◌==◌, ◌&&◌, ◌||◌, nat_le, nat_lt, if◌then◌else◌, Option, None, Some, List, [], ◌∷◌, ◌++◌, length, codes, refl, sym, ap, ◌∙◌, subst, ◌⊎◌, inl, inr, ⊎_elim, arith, append_assoc, append-nil, length-append}
use Rattle.std.specs.List.{AllByRecursion}
use Rattle.std.specs.Fmt.{decimal}
use Rattle.std.proofs.lemmas.Fmt.{decimal_digit, decimal_step}
use Rattle.std.proofs.lemmas.Bool.{cases_lt, le-leb, lt-ltb}
use Rattle.crp_thinning.specs.Symbols.{chain_text, family_text}
use Rattle.crp_thinning.specs.Owed.{points, digits_of}
use Rattle.crp_thinning.specs.OneChain.{IsRank, last_rank}

-- a chain that may be read
pub record IsShort (chain : List ℕ) : Type 0 where
  pub ranks : AllByRecursion IsRank chain
  pub few : length chain ≤ 96

-- a number goes on by a digit; it stays a rank
abbrev pub digit_fits : ℕ → ℕ → Bool
digit_fits n b = nat_le 1 (n * 10 + (b - 48)) && nat_le (n * 10 + (b - 48)) 96

-- a chain may end: a rank is there, or the chain is empty
abbrev pub may_end : List ℕ → ℕ → Bool
may_end [] n = true
may_end (x ∷ xs) n = nat_le 1 n

-- a chain, the stop behind it, and the rest
abbrev pub Read : Type 0
Read = List ℕ × ℕ × List ℕ

-- the first chain of a text of which some ranks are read, and a number has begun; the stop behind it, and the rest
abbrev pub read : List ℕ → ℕ → List ℕ → Option Read
read ranks n [] = None
read ranks n (b ∷ text) =
    if nat_le 48 b && nat_le b 57 then (if digit_fits n b then read ranks (n * 10 + (b - 48)) text else None)
    else (if b == 46 then (if nat_le 1 n && nat_lt (length ranks + 1) 96 then read (ranks ++ n ∷ []) 0 text else None)
    else (if (b == 44 || b == 59) && may_end ranks n then Some (ranks ++ last_rank n, b, text) else None))

-- a digit
pub read_digit : (ranks : List ℕ) (n d : ℕ) (text : List ℕ) → d ≤ 9 → IsRank (n * 10 + d) → read ranks n ((48 + d) ∷ text) ≡ read ranks (n * 10 + d) text
read_digit ranks n d text le is =
    let v : 48 + d - 48 ≡ d = omega arith in
    rw (le-leb 48 (48 + d) (omega arith)) (rw (le-leb (48 + d) 57 (omega arith)) (rw v (rw (le-leb 1 (n * 10 + d) is.0) (rw (le-leb (n * 10 + d) 96 is.1) refl))))

-- two digits
decimal_two : (n : ℕ) (text : List ℕ) → 10 ≤ n → n < 100 → decimal n ++ text ≡ (48 + n / 10) ∷ (48 + n % 10) ∷ text
decimal_two n text ge lt = ap (λ l. l ++ text) (decimal_step n ge (omega arith) ∙ ap (λ l. l ++ (48 + n % 10) ∷ []) (decimal_digit (n / 10) (omega arith)))

-- a rank
pub read_rank : (ranks : List ℕ) (x : ℕ) (text : List ℕ) → IsRank x → read ranks 0 (decimal x ++ text) ≡ read ranks x text
read_rank ranks x text is = ⊎_elim
    (λ lt.
    let e : 0 * 10 + x ≡ x = omega arith in
    ap (λ l. read ranks 0 (l ++ text)) (decimal_digit x lt) ∙ read_digit ranks 0 x text (omega arith) (subst IsRank (sym e) is) ∙ ap (λ n. read ranks n text) e)
    (λ ge.
    let q : 0 * 10 + x / 10 ≡ x / 10 = omega arith in
    let e : x / 10 * 10 + x % 10 ≡ x = omega arith in
    ap (read ranks 0) (decimal_two x text ge (omega arith))
    ∙ read_digit ranks 0 (x / 10) ((48 + x % 10) ∷ text) (omega arith) (omega arith, omega arith)
    ∙ ap (λ n. read ranks n ((48 + x % 10) ∷ text)) q
    ∙ read_digit ranks (x / 10) (x % 10) text (omega arith) (subst IsRank (sym e) is)
    ∙ ap (λ n. read ranks n text) e)
    (cases_lt x 10)

-- a point behind a rank
pub read_point : (ranks : List ℕ) (n : ℕ) (text : List ℕ) → 1 ≤ n → length ranks + 1 < 96 → read ranks n (46 ∷ text) ≡ read (ranks ++ n ∷ []) 0 text
read_point ranks n text some few = rw (le-leb 1 n some) (rw (lt-ltb (length ranks + 1) 96 few) refl)

-- ranks with points
pub read_points : (ranks more : List ℕ) (text : List ℕ) → AllByRecursion IsRank more → length ranks + length more < 96 → read ranks 0 (points more ++ text) ≡ read (ranks ++ more) 0 text
read_points ranks [] text all few = ap (λ l. read l 0 text) (sym (append-nil ranks))
read_points ranks (x ∷ more) text all few =
    let long : length (ranks ++ x ∷ []) ≡ length ranks + 1 = length-append ranks (x ∷ []) in
    ap (read ranks 0) (append_assoc (decimal x) (46 ∷ points more) text)
    ∙ read_rank ranks x (46 ∷ (points more ++ text)) all.0
    ∙ read_point ranks x (points more ++ text) all.0.0 (omega arith)
    ∙ read_points (ranks ++ x ∷ []) more text all.1 (omega arith)
    ∙ ap (λ l. read l 0 text) (append_assoc ranks (x ∷ []) more)

-- a number that has begun
pub read_digits : (ranks : List ℕ) (n : ℕ) (text : List ℕ) → n ≤ 96 → read ranks 0 (digits_of n ++ text) ≡ read ranks n text
read_digits ranks zero text le = refl
read_digits ranks (suc n) text le = read_rank ranks (suc n) text (omega arith, le)

-- what has begun
pub read_begun : (ranks : List ℕ) (n : ℕ) (text : List ℕ) → AllByRecursion IsRank ranks → length ranks < 96 → n ≤ 96 → read [] 0 ((points ranks ++ digits_of n) ++ text) ≡ read ranks n text
read_begun ranks n text all few le =
    ap (read [] 0) (append_assoc (points ranks) (digits_of n) text) ∙ read_points [] ranks (digits_of n ++ text) all (omega arith) ∙ read_digits ranks n text le

-- the stops
abbrev pub IsStop : ℕ → Type 0
IsStop b = (b ≡ 44) ⊎ (b ≡ 59)

-- a stop
pub read_stop : (ranks : List ℕ) (n b : ℕ) (text : List ℕ) → may_end ranks n ≡ true → IsStop b → read ranks n (b ∷ text) ≡ Some (ranks ++ last_rank n, b, text)
read_stop ranks n b text may stop = ⊎_elim
    (λ e. subst (λ c. read ranks n (c ∷ text) ≡ Some (ranks ++ last_rank n, c, text)) (sym e) (rw may refl))
    (λ e. subst (λ c. read ranks n (c ∷ text) ≡ Some (ranks ++ last_rank n, c, text)) (sym e) (rw may refl))
    stop

ends_some : (ranks : List ℕ) (n : ℕ) → 1 ≤ n → may_end ranks n ≡ true
ends_some [] n some = refl
ends_some (x ∷ xs) n some = le-leb 1 n some

last_some : (n : ℕ) → 1 ≤ n → last_rank n ≡ n ∷ []
last_some zero some = absurd (omega arith)
last_some (suc n) some = refl

-- a chain that is not empty, and its stop
read_some : (ranks : List ℕ) (x : ℕ) (chain : List ℕ) (b : ℕ) (text : List ℕ) → AllByRecursion IsRank (x ∷ chain) → length ranks + length (x ∷ chain) ≤ 96 → IsStop b → read ranks 0 (chain_text (x ∷ chain) ++ b ∷ text) ≡ Some (ranks ++ x ∷ chain, b, text)
read_some ranks x [] b text all few stop =
    read_rank ranks x (b ∷ text) all.0 ∙ read_stop ranks x b text (ends_some ranks x all.0.0) stop ∙ ap (λ l. Some (ranks ++ l, b, text)) (last_some x all.0.0)
read_some ranks x (y ∷ chain) b text all few stop =
    let long : length (ranks ++ x ∷ []) ≡ length ranks + 1 = length-append ranks (x ∷ []) in
    ap (read ranks 0) (append_assoc (decimal x ++ codes ".") (chain_text (y ∷ chain)) (b ∷ text) ∙ append_assoc (decimal x) (codes ".") (chain_text (y ∷ chain) ++ b ∷ text))
    ∙ read_rank ranks x (46 ∷ (chain_text (y ∷ chain) ++ b ∷ text)) all.0
    ∙ read_point ranks x (chain_text (y ∷ chain) ++ b ∷ text) all.0.0 (omega arith)
    ∙ read_some (ranks ++ x ∷ []) y chain b text all.1 (omega arith) stop
    ∙ ap (λ l. Some (l, b, text)) (append_assoc ranks (x ∷ []) (y ∷ chain))

-- a chain and its stop
pub read_chain : (chain : List ℕ) (b : ℕ) (text : List ℕ) → IsShort chain → IsStop b → read [] 0 (chain_text chain ++ b ∷ text) ≡ Some (chain, b, text)
read_chain [] b text short stop = read_stop [] 0 b text refl stop
read_chain (x ∷ chain) b text short stop = (let few = short.few in read_some [] x chain b text short.ranks (omega arith) stop)

-- the front of the text of a family: its first chain, the stop behind it, and the rest
pub record Fronts (family : List (List ℕ)) (rest chain : List ℕ) (stop : ℕ) (behind : List ℕ) : Type 0 where
  pub is_text : family_text family ++ rest ≡ chain_text chain ++ stop ∷ behind
  pub is_stop : IsStop stop

-- the last chain, or the text of no chain
abbrev pub IsLast : List (List ℕ) → List ℕ → Type 0
IsLast family chain = (family ≡ chain ∷ []) ⊎ ((family ≡ []) × (chain ≡ []))

-- the cases
abbrev pub FirstIs : List (List ℕ) → List ℕ → List ℕ → ℕ → List ℕ → Type 0
FirstIs family rest chain stop behind =
    ((stop ≡ 59) × (behind ≡ rest) × IsLast family chain) ⊎ ((stop ≡ 44) × (more : List (List ℕ)) × (family ≡ chain ∷ more) × (behind ≡ family_text more ++ rest))

pub first_chain : (family : List (List ℕ)) (rest : List ℕ) → AllByRecursion IsShort family →
    (chain : List ℕ) × (stop : ℕ) × (behind : List ℕ) × (read [] 0 (family_text family ++ rest) ≡ Some (chain, stop, behind)) × FirstIs family rest chain stop behind
first_chain [] rest all = ([], 59, rest, refl, inl (refl, refl, inr (refl, refl)))
first_chain (chain ∷ []) rest all = (
  chain,
  59,
  rest,
  ap (read [] 0) (append_assoc (chain_text chain) (codes ";") rest) ∙ read_chain chain 59 rest all.0 (inr refl),
  inl (refl, refl, inl refl),
)
first_chain (chain ∷ other ∷ family) rest all = (
  chain,
  44,
  family_text (other ∷ family) ++ rest,
  ap (read [] 0) (append_assoc (chain_text chain ++ codes ",") (family_text (other ∷ family)) rest ∙ append_assoc (chain_text chain) (codes ",") (family_text (other ∷ family) ++ rest))
      ∙ read_chain chain 44 (family_text (other ∷ family) ++ rest) all.0 (inl refl),
  inr (refl, other ∷ family, refl, refl),
)
