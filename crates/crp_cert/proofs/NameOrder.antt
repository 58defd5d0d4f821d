-- Names of parts that rise: one comes after all if it comes after the last, and there are fewer than 2 ^ 32 of them.
use Rattle.std.proofs.Common.{◌≡◌, ℕ, zero, suc, ◌+◌, ◌-◌, ◌*◌, ◌<◌, ◌≤◌, ◌⊎◌, inl, inr, ⊎_elim, List, [], ◌∷◌, ◌++◌, length, get_or, slice_get, All, Some, sym, ap, ◌∙◌, subst, arith}
use Rattle.std.specs.Prelude.{AllPairs}
use Rattle.std.specs.List.{AllByRecursion}
use Rattle.std.proofs.lemmas.Option.{get_or_from_slice_get, slice_get_within}
use Rattle.std.proofs.lemmas.List.{get_or-map, length-map}
use Rattle.std.proofs.lemmas.Bool.{cases_eq}
use Rattle.std.proofs.lemmas.Nat.{mul-le}
use Rattle.crp_plan.specs.Bay.{Problem, IsProblem, start}
use Rattle.crp_bay.specs.Positions.{settled}
use Rattle.crp_bay.proofs.Walked.{at_reads}
use Rattle.crp_tree.specs.Names.{Precedes}
use Rattle.crp_tree.proofs.Ordered.{goes_further, not_itself, less_if}
use Rattle.crp_tree.specs.Claims.{Part, names}
use Rattle.crp_cert.specs.declared.version.Version.{Version}
use Rattle.crp_cert.specs.Script.{IsPartLine}
use Rattle.crp_cert.specs.ScriptFaults.{ComesAfter}
use Rattle.crp_cert.proofs.PartNames.{first_rows, rows_low}

-- ---- after the last

-- the names that are stated, one by one
name_parsed : (parts : List Part) (k : ℕ) (d : Part) → k < length parts → get_or (names parts) k d.name ≡ (get_or parts k d).name
name_parsed parts k d lt = get_or-map (λ part. part.name) parts k d d.name lt

-- as many names as parts
pub length_names : (parts : List Part) → length (names parts) ≡ length parts
length_names parts = length-map parts (λ (part : Part). part.name)

-- a name that comes after the last comes after all
pub after_last : (parts : List Part) (last : Part) (name : List ℕ) → AllPairs Precedes (names parts) → slice_get parts (length parts - 1) ≡ Some last → Precedes last.name name → ComesAfter parts name
after_last parts last name rising e p k d lt = ⊎_elim
    (λ same. subst (λ (part : Part). Precedes part.name name) (sym (ap (λ i. get_or parts i d) same ∙ get_or_from_slice_get parts (length parts - 1) last d e)) p)
    (λ ne. goes_further (get_or parts k d).name last.name name
    (subst (λ n. Precedes n last.name) (name_parsed parts k d lt)
    (subst (Precedes (get_or (names parts) k d.name)) (name_parsed parts (length parts - 1) d (omega arith) ∙ ap (λ (part : Part). part.name) (get_or_from_slice_get parts (length parts - 1) last d e))
    (rising k (length parts - 1) d.name (omega arith) (omega (arith, length_names parts)))))
    p)
    (cases_eq k (length parts - 1))

-- and one that comes after all comes after the last
pub before_last : (parts : List Part) (last : Part) (name : List ℕ) → slice_get parts (length parts - 1) ≡ Some last → ComesAfter parts name → Precedes last.name name
before_last parts last name e after =
    subst (λ (part : Part). Precedes part.name name) (get_or_from_slice_get parts (length parts - 1) last last e) (after (length parts - 1) last (slice_get_within parts (length parts - 1) last e))

-- ---- not too many

-- how many names of so many rows at most there are, and more
abbrev names_below : ℕ → ℕ
names_below zero = 1
names_below (suc room) = 13 * names_below room

-- the place of a name among them
abbrev rank : ℕ → List ℕ → ℕ
rank zero name = 0
rank (suc room) [] = 0
rank (suc room) (row ∷ rows) = row * names_below room + rank room rows

-- rows from 1 to 12
abbrev AreLowRows : List ℕ → Type 0
AreLowRows name = AllByRecursion (λ row. (1 ≤ row) × (row ≤ 12)) name

-- at least one
some_names : (room : ℕ) → 1 ≤ names_below room
some_names zero = omega arith
some_names (suc room) = omega (arith, some_names room)

-- the place is below their number
rank_low : (room : ℕ) (name : List ℕ) → AreLowRows name → rank room name < names_below room
rank_low zero name low = omega arith
rank_low (suc room) [] low = omega (arith, some_names room)
rank_low (suc room) (row ∷ rows) low =
    let hi = (low.0).1 in
    omega (arith, rank_low room rows low.1, mul-le row (names_below room) 12 (names_below room) hi (omega arith))

-- which of two names comes first is stated by their first rows, or else by the others
cons_cases : (x y : ℕ) (xs ys : List ℕ) → Precedes (x ∷ xs) (y ∷ ys) → (x < y) ⊎ ((x ≡ y) × Precedes xs ys)
cons_cases x y xs ys (inl goes) =
    let e = goes.is in
    let h : y ≡ x = cc in let t : ys ≡ xs ++ goes.row ∷ goes.rest = cc in
    inr (sym h, inl (record { row = goes.row; rest = goes.rest; is = t }))
cons_cases x y xs ys (inr turns) = by_common turns.common turns.is_name turns.is_other
  where
    by_common : (common : List ℕ) → x ∷ xs ≡ common ++ turns.low ∷ turns.after_low → y ∷ ys ≡ common ++ turns.high ∷ turns.after_high → (x < y) ⊎ ((x ≡ y) × Precedes xs ys)
    by_common [] e f =
        let h : x ≡ turns.low = cc in let g : y ≡ turns.high = cc in
        let lt = turns.lower in inl (omega arith)
    by_common (z ∷ zs) e f =
        let h : x ≡ z = cc in let g : y ≡ z = cc in
        let t : xs ≡ zs ++ turns.low ∷ turns.after_low = cc in let u : ys ≡ zs ++ turns.high ∷ turns.after_high = cc in
        inr (h ∙ sym g, inr (record { common = zs; low = turns.low; high = turns.high; after_low = turns.after_low; after_high = turns.after_high; lower = turns.lower; is_name = t; is_other = u }))

-- the places rise with the names
rank_rises : (room : ℕ) (a b : List ℕ) → length a ≤ room → length b ≤ room → AreLowRows a → AreLowRows b → Precedes a b → rank room a < rank room b
rank_rises room [] [] la lb low-a low-b p = absurd (not_itself [] p)
rank_rises zero [] (y ∷ ys) la lb low-a low-b p = absurd (omega arith)
rank_rises (suc room) [] (y ∷ ys) la lb low-a low-b p =
    let lo = (low-b.0).0 in omega (arith, some_names room, mul-le 1 (names_below room) y (names_below room) lo (omega arith))
rank_rises room (x ∷ xs) [] la lb low-a low-b p = absurd (let e = less_if (x ∷ xs) [] p in cc)
rank_rises zero (x ∷ xs) (y ∷ ys) la lb low-a low-b p = absurd (omega arith)
rank_rises (suc room) (x ∷ xs) (y ∷ ys) la lb low-a low-b p = ⊎_elim
    (λ lt. omega (arith, rank_low room xs low-a.1, mul-le (suc x) (names_below room) y (names_below room) lt (omega arith)))
    (λ same. omega (arith, ap (λ n. n * names_below room) same.0, rank_rises room xs ys (omega arith) (omega arith) low-a.1 low-b.1 same.1))
    (cons_cases x y xs ys p)

-- a name of at most 8 rows from 1 to 12
abbrev IsLowName : List ℕ → Type 0
IsLowName name = (length name ≤ 8) × AreLowRows name

-- names after this one have higher places
raised : (name : List ℕ) (names : List (List ℕ)) → IsLowName name → AllByRecursion IsLowName names → ((k : ℕ) → k < length names → Precedes name (get_or names k name)) →
    AllByRecursion (λ other. IsLowName other × (suc (rank 8 name) ≤ rank 8 other)) names
raised name [] low lows after = tt
raised name (other ∷ names) low lows after =
    ((lows.0, rank_rises 8 name other low.0 (lows.0).0 low.1 (lows.0).1 (after 0 (omega arith))), raised name names low lows.1 (λ k lt. after (suc k) (omega arith)))

-- so there are not more names than places
few_names : (from : ℕ) (names : List (List ℕ)) → from ≤ names_below 8 → AllByRecursion (λ name. IsLowName name × (from ≤ rank 8 name)) names → AllPairs Precedes names → length names + from ≤ names_below 8
few_names from [] within lows rising = omega arith
few_names from (name ∷ names) within lows rising =
    let low = lows.0 in let is_low = low.0 in let least = low.1 in
    let rest = few_names (suc (rank 8 name)) names (rank_low 8 name is_low.1) (raised name names is_low (only names lows.1) (λ k lt. rising 0 (suc k) name (omega arith) (omega arith))) (λ i j d lt bound. rising (suc i) (suc j) d (omega arith) (omega arith)) in
    omega arith
  where
    only : (names : List (List ℕ)) → AllByRecursion (λ name. IsLowName name × (from ≤ rank 8 name)) names → AllByRecursion IsLowName names
    only [] lows = tt
    only (name ∷ names) lows = ((lows.0).0, only names lows.1)

-- the name of a part has at most 8 rows from 1 to 12
name_low : (version : Version) (p : Problem) (part : Part) → IsProblem p → IsPartLine version p part → IsLowName part.name
name_low version p part is line =
    let most = is.few_rows in
    (line.short, rows_low 12 (settled (start p)) line.place part.name (omega (arith, first_rows p)) (at_reads p part.name line.place is line.is_at))

-- there are fewer than 2 ^ 32 parts
pub few_parts : (version : Version) (p : Problem) (parts : List Part) → IsProblem p → All (IsPartLine version p) parts → AllPairs Precedes (names parts) → length parts ≤ 815730721
few_parts version p parts is each rising = omega (arith, length_names parts, few_names 0 (names parts) (omega arith) (lows parts each) rising)
  where
    lows : (parts : List Part) → All (IsPartLine version p) parts → AllByRecursion (λ name. IsLowName name × (0 ≤ rank 8 name)) (names parts)
    lows [] each = tt
    lows (part ∷ parts) each = ((name_low version p part is (each 0 part (omega arith)), omega arith), lows parts (λ k d lt. each (suc k) d (omega arith)))
