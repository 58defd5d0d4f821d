-- What is settled stays as it is, whatever follows; and the lines of a head are short.
use Rattle.std.proofs.Common.{◌≡◌, ◌≢◌, ◌⊎◌, inl, inr, ℕ, suc, ◌+◌, ◌*◌, ◌/◌, ◌%◌, ◌^◌, ◌<◌, ◌≤◌, ⊎_elim, List, [], ◌∷◌, ◌++◌, length, Option, Some, None, refl, sym, ap, ◌∙◌, subst, arith, append_assoc, length-append, lit≤}
use Rattle.std.specs.Prelude.{codes, IfSome, Bool, true, false, not, ◌==◌, ◌&&◌}
use Rattle.std.specs.List.{AllByRecursion, list_all, flat_map}
use Rattle.std.specs.Fmt.{decimal}
use Rattle.std.proofs.lemmas.Fmt.{length-decimal-le, decimal_by_steps}
use Rattle.std.proofs.lemmas.List.Elements.{recursion_from_All}
use Rattle.crp_plan.specs.BayNames.{YardBay, IsYardBay}
use Rattle.crp_plan.specs.Bay.{Problem, IsProblem, Position, start, IsAt}
use Rattle.crp_plan.proofs.Lists.{snoc_parts}
use Rattle.crp_bay.specs.Positions.{settled}
use Rattle.crp_bay.proofs.Walked.{at_reads}
use Rattle.crp_cert.proofs.PartNames.{rows_low, first_rows}
use Rattle.crp_cert.specs.declared.claim.Claim.{Claim}
use Rattle.crp_cert.specs.declared.claim.Claim.TheVariants.{AtLeast, First}
use Rattle.crp_cert.specs.declared.size.Size.{Size}
use Rattle.crp_cert.specs.declared.version.Version.{Version}
use Rattle.crp_cert.specs.declared.version.Version.TheVariants.{One, Two, Three}
use Rattle.crp_cert.specs.Text.{title_line, spaced, numbers_line, bay_line, size_line, heights_line, row_line, bound, claim_line, plan_line, IsSize, AreRows}
use Rattle.crp_cert.specs.Faults.{BeginsWith, AreHeightsOf, IsNextStack}
use Rattle.crp_cert.proofs.Joined.{all_both}
use Rattle.crp_cert.proofs.Stacks.{few_parsed, next_eight, next_small}
use Rattle.crp_cert.proofs.Heights.{digits}
use Rattle.crp_cert.specs.Settled.{StopsWithin, CanBeJudged, longest_line, IsName, spelled_name, longest_name}

-- ---- fronts

-- the shorter of two fronts is a front of the longer
pub front : (xs ys zs ws : List ℕ) → xs ++ ys ≡ zs ++ ws → length zs ≤ length xs → (rest : List ℕ) × (xs ≡ zs ++ rest)
front xs ys [] ws e le = (xs, refl)
front [] ys (z ∷ zs) ws e le = absurd (omega arith)
front (x ∷ xs) ys (z ∷ zs) ws e le =
    let tail : xs ++ ys ≡ zs ++ ws = cc in
    let r = front xs ys zs ws tail (omega arith) in
    let head : x ≡ z = cc in
    (r.0, ap (λ b. b ∷ xs) head ∙ ap (λ l. z ∷ l) r.1)

-- the first stop stands in one place
until_stop : (stop : ℕ) (xs ys x y : List ℕ) → AllByRecursion (λ b. b ≢ stop) xs → AllByRecursion (λ b. b ≢ stop) ys → xs ++ stop ∷ x ≡ ys ++ stop ∷ y → length xs ≡ length ys
until_stop stop [] [] x y all all' e = refl
until_stop stop [] (b ∷ ys) x y all all' e = absurd (all'.0 (let h : b ≡ stop = cc in h))
until_stop stop (b ∷ xs) [] x y all all' e = absurd (all.0 (let h : b ≡ stop = cc in h))
until_stop stop (b ∷ xs) (d ∷ ys) x y all all' e = ap suc (until_stop stop xs ys x y all.1 all'.1 (let t : xs ++ stop ∷ x ≡ ys ++ stop ∷ y = cc in t))

-- a text that is settled, and does not stand there, does not stand there whatever follows
pub stays : {A : Type 0} (fits : A → Type 0) (text : A → List ℕ) (stop most : ℕ) → ((x : A) → fits x → StopsWithin stop most (text x)) → (bytes more : List ℕ) → CanBeJudged stop most bytes →
    ¬ BeginsWith fits text bytes → ¬ BeginsWith fits text (bytes ++ more)
stays fits text stop most are bytes more settled none stands =
    let x = stands.0 in
    let own = are x stands.1 in
    let short : length (text x) ≤ length bytes = ⊎_elim
    (λ whole.
    let same_text : whole.body ++ stop ∷ (whole.rest ++ more) ≡ own.body ++ stop ∷ stands.2.0 =
    sym (ap (λ l. l ++ more) whole.is ∙ append_assoc whole.body (stop ∷ whole.rest) more)
    ∙ stands.2.1 ∙ ap (λ l. l ++ stands.2.0) own.is ∙ append_assoc own.body (stop ∷ []) stands.2.0 in
    let same = until_stop stop whole.body own.body (whole.rest ++ more) stands.2.0 whole.before own.before same_text in
    omega (arith, ap length whole.is, ap length own.is, length-append whole.body (stop ∷ whole.rest), length-append own.body (stop ∷ [])))
    (λ long. let s = own.short in omega arith)
    settled in
    let r = front bytes more (text x) stands.2.0 stands.2.1 short in
    none (x, stands.1, (r.0, r.1))

-- no stop stands in bytes without one
pub no_stop : (stop : ℕ) (body rest : List ℕ) → AllByRecursion (λ b. b ≢ stop) (body ++ stop ∷ rest) → ⊥
no_stop stop [] rest all = all.0 refl
no_stop stop (b ∷ body) rest all = no_stop stop body rest all.1

-- so no text that ends with it does
pub not_yet : {A : Type 0} (fits : A → Type 0) (text : A → List ℕ) (stop most : ℕ) → ((x : A) → fits x → StopsWithin stop most (text x)) → (bytes : List ℕ) → AllByRecursion (λ b. b ≢ stop) bytes → ¬ BeginsWith fits text bytes
not_yet fits text stop most are bytes all stands =
    let own = are stands.0 stands.1 in
    no_stop stop own.body stands.2.0 (subst (AllByRecursion (λ b. b ≢ stop)) (stands.2.1 ∙ ap (λ l. l ++ stands.2.0) own.is ∙ append_assoc own.body (stop ∷ []) stands.2.0) all)

-- ---- lines with numbers

-- no digit of a number is a stop
pub digits_apart : (stop n : ℕ) → stop < 48 → n < 2 ^ 64 → AllByRecursion (λ b. b ≢ stop) (decimal n)
digits_apart stop n low small = decimal_by_steps P one step n small
  where
    P : ℕ → List ℕ → Type 0
    P m ds = AllByRecursion (λ b. b ≢ stop) ds

    one : (m : ℕ) → m < 10 → P m ((48 + m) ∷ [])
    one m lt = (λ e. omega arith, tt)

    step : (m : ℕ) (ds : List ℕ) → 10 ≤ m → P (m / 10) ds → P m (ds ++ (48 + m % 10) ∷ [])
    step m ds ten h = all_both (λ b. b ≢ stop) ds ((48 + m % 10) ∷ []) h (λ e. omega arith, tt)

-- numbers with a space before each are short, and none of their bytes is LF
spaced_apart : (ns : List ℕ) → AllByRecursion (λ n. n ≤ 9999) ns → AllByRecursion (λ b. b ≢ 10) (spaced ns)
spaced_apart [] low = tt
spaced_apart (n ∷ ns) low = (λ e. omega arith, all_both (λ b. b ≢ 10) (decimal n) (spaced ns) (digits_apart 10 n (omega arith) (let le = low.0 in omega arith)) (spaced_apart ns low.1))

spaced_short : (k most : ℕ) (ns : List ℕ) → 0 < k → most < 10 ^ k → most ≤ 9999 → AllByRecursion (λ n. n ≤ most) ns → length (spaced ns) ≤ (k + 1) * length ns
spaced_short k most [] some low small all = omega arith
spaced_short k most (n ∷ ns) some low small all =
    let le = all.0 in
    let own : length (decimal n) ≤ k = length-decimal-le k n some (omega arith) (omega arith) in
    let others = spaced_short k most ns some low small all.1 in
    let both : (k + 1) * suc (length ns) ≡ (k + 1) + (k + 1) * length ns = grind (arith) in
    omega (arith, length-append (decimal n) (spaced ns))

-- a word and numbers
numbers_short : (word : List ℕ) (k most top : ℕ) (ns : List ℕ) → AllByRecursion (λ b. b ≢ 10) word → 0 < k → most < 10 ^ k → most ≤ 9999 → AllByRecursion (λ n. n ≤ most) ns → length word + (k + 1) * length ns + 1 ≤ top →
    StopsWithin 10 top (numbers_line word ns)
numbers_short word k most top ns apart some low small all fits = record {
  body = word ++ spaced ns;
  before = all_both (λ b. b ≢ 10) word (spaced ns) apart (spaced_apart ns (lower ns all));
  is = sym (append_assoc word (spaced ns) (10 ∷ []));
  short = let s = spaced_short k most ns some low small all in omega (arith, length-append word (spaced ns ++ 10 ∷ []), length-append (spaced ns) (10 ∷ []));
}
  where
    lower : (ns : List ℕ) → AllByRecursion (λ n. n ≤ most) ns → AllByRecursion (λ n. n ≤ 9999) ns
    lower [] all = tt
    lower (n ∷ ns) all = (let le = all.0 in omega arith, lower ns all.1)

-- ---- the lines of a head

-- bytes that pass the test have no LF
no_end : (xs : List ℕ) → list_all (λ b. not (b == 10)) xs ≡ true → AllByRecursion (λ b. b ≢ 10) xs
no_end [] e = tt
no_end (x ∷ xs) e =
    let two = halves (not (x == 10)) (list_all (λ b. not (b == 10)) xs) e in
    (λ ten. let t : not (10 == 10) ≡ true = subst (λ b. not (b == 10) ≡ true) ten two.0 in cc, no_end xs two.1)
  where
    halves : (x y : Bool) → (x && y) ≡ true → (x ≡ true) × (y ≡ true)
    halves true y e = (refl, e)
    halves false y e = absurd cc

pub title_short : (version : Version) → StopsWithin 10 longest_line (title_line version)
title_short One = record { body = codes "CRP-CERT 1"; before = no_end (codes "CRP-CERT 1") refl; is = refl; short = lit≤ tt }
title_short Two = record { body = codes "CRP-CERT 2"; before = no_end (codes "CRP-CERT 2") refl; is = refl; short = lit≤ tt }
title_short Three = record { body = codes "CRP-CERT 3"; before = no_end (codes "CRP-CERT 3") refl; is = refl; short = lit≤ tt }

pub size_short : (size : Size) → IsSize size → StopsWithin 10 longest_line (size_line size)
size_short size is =
    let few = is.few_rows in let low = is.few_tiers in let fit = is.ordered_fit in let total = few_parsed size is in
    numbers_short (codes "size") 2 99 longest_line (size.rows ∷ size.tiers ∷ size.ordered ∷ size.total ∷ []) (no_end (codes "size") refl) (omega arith) (omega arith) (omega arith)
    (omega arith, (omega arith, (omega arith, (omega arith, tt)))) (lit≤ tt)

pub heights_short : (size : Size) (heights : List ℕ) → IsSize size → AreHeightsOf size heights → StopsWithin 10 longest_line (heights_line heights)
heights_short size heights is are =
    let few = is.few_rows in let each = are.for_each_row in
    numbers_short (codes "heights") 2 99 longest_line heights (no_end (codes "heights") refl) (omega arith) (omega arith) (omega arith) (digits heights are.are_heights) (omega arith)

pub claim_short : (most : ℕ) (claim : Claim) → most ≤ 9999 → bound claim ≤ most → StopsWithin 10 longest_line (claim_line claim)
claim_short most (AtLeast least) low le = numbers_short (codes "at least") 4 9999 longest_line (least ∷ []) (no_end (codes "at least") refl) (omega arith) (omega arith) (omega arith) (omega arith, tt) (lit≤ tt)
claim_short most (First least) low le = numbers_short (codes "first") 4 9999 longest_line (least ∷ []) (no_end (codes "first") refl) (omega arith) (omega arith) (omega arith) (omega arith, tt) (lit≤ tt)

pub row_short : (stack : List ℕ) → length stack ≤ 8 → AllByRecursion (λ n. n ≤ 99) stack → StopsWithin 10 longest_line (row_line stack)
row_short stack few low = numbers_short (codes "row") 2 99 longest_line stack (no_end (codes "row") refl) (omega arith) (omega arith) (omega arith) low (omega arith)

pub plan_short : (plan : Option (List ℕ)) → IfSome plan AreRows → StopsWithin 10 longest_line (plan_line plan)
plan_short None is = record { body = codes "plan -"; before = no_end (codes "plan -") refl; is = refl; short = lit≤ tt }
plan_short (Some rows) is =
    let few = is.0 in
    numbers_short (codes "plan") 2 99 longest_line rows (no_end (codes "plan") refl) (omega arith) (omega arith) (omega arith) (recursion_from_All (λ row. row ≤ 99) rows is.1) (omega arith)

pub bay_short : (name : YardBay) → IsYardBay name → StopsWithin 10 longest_line (bay_line name)
bay_short name is =
    let few = is.few_characters in let four = is.four_digits in
    let s = spaced_short 4 9999 (name.bay ∷ []) (omega arith) (omega arith) (omega arith) (four, tt) in
    record {
      body = codes "bay " ++ (name.block ++ spaced (name.bay ∷ []));
      before = all_both (λ b. b ≢ 10) (codes "bay ") (name.block ++ spaced (name.bay ∷ [])) (no_end (codes "bay ") refl)
          (all_both (λ b. b ≢ 10) name.block (spaced (name.bay ∷ [])) (printed name.block (recursion_from_All (λ b. (33 ≤ b) × (b ≤ 126)) name.block is.printed)) (spaced_apart (name.bay ∷ []) (four, tt)));
      is = ap (λ l. codes "bay " ++ l) (sym (append_assoc name.block (spaced (name.bay ∷ [])) (10 ∷ [])));
      short = omega (arith, length-append name.block (spaced (name.bay ∷ []) ++ 10 ∷ []), length-append (spaced (name.bay ∷ [])) (10 ∷ []));
    }
  where
    printed : (block : List ℕ) → AllByRecursion (λ b. (33 ≤ b) × (b ≤ 126)) block → AllByRecursion (λ b. b ≢ 10) block
    printed [] all = tt
    printed (b ∷ block) all = (λ e. let le = all.0.0 in omega arith, printed block all.1)

-- the line of a stack that may follow others
pub row_is_short : (size : Size) (heights : List ℕ) (stacks : List (List ℕ)) (stack : List ℕ) → IsSize size → AreHeightsOf size heights → IsNextStack size heights stacks stack → StopsWithin 10 longest_line (row_line stack)
row_is_short size heights stacks stack is are next = row_short stack (next_eight size heights stacks stack are next) (next_small size heights stacks stack is next)

-- ---- names of parts

-- rows with points before them
points_apart : (stop : ℕ) (rows : List ℕ) → stop < 46 → AllByRecursion (λ row. row ≤ 99) rows → AllByRecursion (λ b. b ≢ stop) (flat_map (λ r. 46 ∷ decimal r) rows)
points_apart stop [] less low = tt
points_apart stop (row ∷ rows) less low =
    (λ e. omega arith, all_both (λ b. b ≢ stop) (decimal row) (flat_map (λ r. 46 ∷ decimal r) rows) (digits_apart stop row (omega arith) (let le = low.0 in omega arith)) (points_apart stop rows less low.1))

points_short : (rows : List ℕ) → AllByRecursion (λ row. row ≤ 99) rows → length (flat_map (λ r. 46 ∷ decimal r) rows) ≤ 3 * length rows
points_short [] low = omega arith
points_short (row ∷ rows) low =
    let le = low.0 in
    let own : length (decimal row) ≤ 2 = length-decimal-le 2 row (omega arith) (omega arith) (omega arith) in
    let others = points_short rows low.1 in
    omega (arith, length-append (decimal row) (flat_map (λ r. 46 ∷ decimal r) rows))

-- a name of low rows
name_short : (name : List ℕ) → length name ≤ 8 → AllByRecursion (λ row. row ≤ 99) name → StopsWithin 32 longest_name (spelled_name name)
name_short [] few low = record { body = codes "/:"; before = (λ e. omega arith, (λ e. omega arith, tt)); is = refl; short = lit≤ tt }
name_short (row ∷ rows) few low =
    let le = low.0 in
    let own : length (decimal row) ≤ 2 = length-decimal-le 2 row (omega arith) (omega arith) (omega arith) in
    let others = points_short rows low.1 in
    record {
      body = (decimal row ++ flat_map (λ r. 46 ∷ decimal r) rows) ++ codes ":";
      before = all_both (λ b. b ≢ 32) (decimal row ++ flat_map (λ r. 46 ∷ decimal r) rows) (codes ":")
          (all_both (λ b. b ≢ 32) (decimal row) (flat_map (λ r. 46 ∷ decimal r) rows) (digits_apart 32 row (omega arith) (omega arith)) (points_apart 32 rows (omega arith) low.1)) (λ e. omega arith, tt);
      is = sym (append_assoc (decimal row ++ flat_map (λ r. 46 ∷ decimal r) rows) (codes ":") (32 ∷ []));
      short = omega (arith, length-append (decimal row ++ flat_map (λ r. 46 ∷ decimal r) rows) (codes ": "), length-append (decimal row) (flat_map (λ r. 46 ∷ decimal r) rows));
    }

-- a name stands in one line
name_in_line : (name : List ℕ) → AllByRecursion (λ row. row ≤ 99) name → AllByRecursion (λ b. b ≢ 10) (spelled_name name)
name_in_line [] low = (λ e. omega arith, (λ e. omega arith, (λ e. omega arith, tt)))
name_in_line (row ∷ rows) low =
    let le = low.0 in
    all_both (λ b. b ≢ 10) (decimal row ++ flat_map (λ r. 46 ∷ decimal r) rows) (codes ": ")
    (all_both (λ b. b ≢ 10) (decimal row) (flat_map (λ r. 46 ∷ decimal r) rows) (digits_apart 10 row (omega arith) (omega arith)) (points_apart 10 rows (omega arith) low.1)) (λ e. omega arith, (λ e. omega arith, tt))

-- the rows of a path are low
path_low : (p : Problem) (name : List ℕ) (s : Position) → IsProblem p → IsAt p name s → AllByRecursion (λ row. row ≤ 99) name
path_low p name s is a =
    let most = is.few_rows in
    lower name (rows_low 12 (settled (start p)) s name (omega (arith, first_rows p)) (at_reads p name s is a))
  where
    lower : (rows : List ℕ) → AllByRecursion (λ row. (1 ≤ row) × (row ≤ 12)) rows → AllByRecursion (λ row. row ≤ 99) rows
    lower [] all = tt
    lower (row ∷ rows) all = (let le = all.0.1 in omega arith, lower rows all.1)

-- the name of a path stands in one line
pub path_in_line : (p : Problem) (name : List ℕ) (s : Position) → IsProblem p → IsAt p name s → AllByRecursion (λ b. b ≢ 10) (spelled_name name)
path_in_line p name s is a = name_in_line name (path_low p name s is a)

pub name_stays : (p : Problem) → IsProblem p → (bytes more : List ℕ) → CanBeJudged 32 longest_name bytes → ¬ BeginsWith (IsName p) spelled_name bytes → ¬ BeginsWith (IsName p) spelled_name (bytes ++ more)
name_stays p is = stays (IsName p) spelled_name 32 longest_name (λ name fits. name_short name fits.0 (path_low p name fits.1.0 is fits.1.1))

-- ---- bytes that come one by one

-- a list is empty or has a last element
last_of : (xs : List ℕ) → (xs ≡ []) ⊎ ((before : List ℕ) × (last : ℕ) × (xs ≡ before ++ last ∷ []))
last_of [] = inl refl
last_of (x ∷ xs) = ⊎_elim
    (λ none. inr ([], x, ap (λ l. x ∷ l) none))
    (λ some. inr (x ∷ some.0, some.1, ap (λ l. x ∷ l) some.2))
    (last_of xs)

-- bytes that begin with a text, and did not before the last of them came, are the text
pub grown : (xs : List ℕ) (b : ℕ) (text rest : List ℕ) → xs ++ b ∷ [] ≡ text ++ rest → ((r : List ℕ) → xs ≡ text ++ r → ⊥) → rest ≡ []
grown xs b text rest e none = ⊎_elim
    (λ empty. empty)
    (λ some.
    let two = snoc_parts xs (text ++ some.0) b some.1 (e ∙ ap (λ l. text ++ l) some.2 ∙ sym (append_assoc text some.0 (some.1 ∷ []))) in
    absurd (none some.0 two.0))
    (last_of rest)
