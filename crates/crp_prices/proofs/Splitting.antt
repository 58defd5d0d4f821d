-- The innermost scope of a stack, and the scopes of what stands after its turn.
use Rattle.std.proofs.Common.{◌≡◌, ℕ, zero, suc, ◌+◌, ◌-◌, ◌*◌, ◌<◌, ◌≤◌, true, List, [], ◌∷◌, length, take, refl, sym, ap, ◌∙◌, subst, ⊎_elim, arith}
use Rattle.std.specs.Bool.{⊤}
use Rattle.std.proofs.lemmas.List.{take_all, length-take-le}
use Rattle.std.proofs.lemmas.Bool.{cases_lt, lt-ltb, le-ltb}
use Rattle.crp_plan.specs.Rows.{holds}
use Rattle.crp_prices.specs.Prices.{standing_at, least_of}
use Rattle.crp_prices.proofs.Playing.{standing_late, least_held}
use Rattle.crp_prices.specs.declared.job.MarkedJob.{MarkedJob}
use Rattle.crp_prices.specs.Pass.{Scope, with_all, scopes_of, best, worth, row_pass}
use Rattle.crp_prices.proofs.Scopes.{going_on, one_below, one_above, going_all, Innermost, innermost}
use Rattle.crp_prices.proofs.Few.{AreFew, best_few}

-- the lows rise outward, from this one on
AreWider : ℕ → ℕ → List Scope → Type 0
AreWider lowest ordered [] = ⊤
AreWider lowest ordered (s ∷ scopes) = (lowest ≤ s.low) × (s.low ≤ suc ordered) × AreWider (suc s.low) ordered scopes

wider_all : (ordered : ℕ) (s : Scope) (scopes : List Scope) (stack : List ℕ) → AreWider 0 ordered (s ∷ scopes) → AreWider 0 ordered (with_all (s ∷ scopes) stack)
unfolding AreWider
wider_all ordered s scopes [] w = w
wider_all ordered s scopes (c ∷ stack) w =
    let few : s.low ≤ suc ordered = w.1 in
    ⊎_elim
    (λ below. subst (λ l. AreWider 0 ordered (with_all l stack)) (sym (one_below c s scopes below))
    (wider_all ordered (record { low = c; size = suc s.size }) (s ∷ scopes) stack (omega arith, omega arith, (omega arith, few, w.2))))
    (λ above. subst (λ l. AreWider 0 ordered (with_all l stack)) (sym (one_above c s scopes above))
    (wider_all ordered (record { low = s.low; size = suc s.size }) scopes stack w))
    (cases_lt c s.low)

-- none of the outer ones ends with the inner one
outer_on : (v ordered : ℕ) (scopes : List Scope) → AreWider v ordered scopes → going_on v scopes ≡ scopes
unfolding AreWider
outer_on v ordered [] w = refl
outer_on v ordered (s ∷ scopes) w = rw (le-ltb s.low v w.0) refl

outer_none : (ordered : ℕ) (scopes : List Scope) → AreWider (suc (suc ordered)) ordered scopes → scopes ≡ []
unfolding AreWider
outer_none ordered [] w = refl
outer_none ordered (s ∷ scopes) w =
    let a : suc (suc ordered) ≤ s.low = w.0 in
    let b : s.low ≤ suc ordered = w.1 in
    absurd (omega arith)

wider_outer : (ordered : ℕ) (s : Scope) (scopes : List Scope) → AreWider 0 ordered (s ∷ scopes) → (s.low ≤ suc ordered) × AreWider (suc s.low) ordered scopes
unfolding AreWider
wider_outer ordered s scopes w = (w.1, w.2)

wider_of : (ordered : ℕ) (stack : List ℕ) → AreWider 0 ordered (scopes_of ordered stack)
unfolding AreWider
wider_of ordered stack = wider_all ordered (record { low = suc ordered; size = 0 }) [] stack (omega arith, omega arith, tt)

-- what a stack's scopes are worth, where something ordered stands
pub split_some : (price : ℕ → ℕ → ℕ) (unit ordered : ℕ) (all : List MarkedJob) (height from : ℕ) (jobs : List MarkedJob) (stack : List ℕ) → least_of ordered stack ≤ ordered →
    worth price unit ordered all height from jobs (scopes_of ordered stack) ≡
    best price unit ordered all (height - length stack) (least_of ordered stack) from jobs
    + worth price unit ordered all height (suc (least_of ordered stack)) jobs (scopes_of ordered (standing_at (suc (least_of ordered stack)) stack))
split_some price unit ordered all height from jobs stack le =
    let low : ℕ = least_of ordered stack in
    let t : Innermost (scopes_of ordered stack) (length stack) low = innermost ordered stack in
    let w : AreWider 0 ordered (t.scope ∷ t.outer) = subst (AreWider 0 ordered) t.are (wider_of ordered stack) in
    let o = wider_outer ordered t.scope t.outer w in
    let low_is : t.scope.low ≡ low = t.low_is in
    let over : going_on (suc low) (t.scope ∷ t.outer) ≡ going_on (suc low) t.outer = rw (lt-ltb t.scope.low (suc low) (omega arith)) refl in
    let on : going_on (suc low) t.outer ≡ t.outer = outer_on (suc low) ordered t.outer (subst (λ n. AreWider (suc n) ordered t.outer) low_is o.1) in
    let all_on : going_on (suc low) (scopes_of ordered stack) ≡ scopes_of ordered (standing_at (suc low) stack) =
    going_all (suc low) (record { low = suc ordered; size = 0 }) [] stack (omega arith) in
    let outer_is : t.outer ≡ scopes_of ordered (standing_at (suc low) stack) = sym on ∙ sym over ∙ ap (going_on (suc low)) (sym t.are) ∙ all_on in
    ap (worth price unit ordered all height from jobs) t.are
    ∙ ap (λ n. best price unit ordered all (height - n) t.scope.low from jobs + worth price unit ordered all height (suc t.scope.low) jobs t.outer) t.size_is
    ∙ ap (λ n. best price unit ordered all (height - length stack) n from jobs + worth price unit ordered all height (suc n) jobs t.outer) low_is
    ∙ ap (λ l. best price unit ordered all (height - length stack) low from jobs + worth price unit ordered all height (suc low) jobs l) outer_is

-- and where nothing does
pub split_none : (price : ℕ → ℕ → ℕ) (unit ordered : ℕ) (all : List MarkedJob) (height from : ℕ) (jobs : List MarkedJob) (stack : List ℕ) → ordered < least_of ordered stack →
    worth price unit ordered all height from jobs (scopes_of ordered stack) ≡ best price unit ordered all (height - length stack) (least_of ordered stack) from jobs
split_none price unit ordered all height from jobs stack lt =
    let low : ℕ = least_of ordered stack in
    let t : Innermost (scopes_of ordered stack) (length stack) low = innermost ordered stack in
    let w : AreWider 0 ordered (t.scope ∷ t.outer) = subst (AreWider 0 ordered) t.are (wider_of ordered stack) in
    let o = wider_outer ordered t.scope t.outer w in
    let low_is : t.scope.low ≡ low = t.low_is in
    let few : t.scope.low ≤ suc ordered = o.0 in
    let top : t.scope.low ≡ suc ordered = omega arith in
    let none : t.outer ≡ [] = outer_none ordered t.outer (subst (λ n. AreWider (suc n) ordered t.outer) top o.1) in
    omega (
      arith,
      ap (worth price unit ordered all height from jobs) t.are,
      ap (λ n. best price unit ordered all (height - n) t.scope.low from jobs) t.size_is,
      ap (λ n. best price unit ordered all (height - length stack) n from jobs) low_is,
      ap (λ l. worth price unit ordered all height (suc t.scope.low) jobs l) none,
    )

pub least_most : (ordered : ℕ) (stack : List ℕ) → least_of ordered stack ≤ suc ordered
least_most ordered [] = omega arith
least_most ordered (x ∷ xs) = omega (arith, least_most ordered xs)

-- less stands after the turn of the least
pub fewer_stand : (ordered end : ℕ) (stack : List ℕ) → end ≤ length stack → take end stack ≡ standing_at (suc (least_of ordered stack)) stack → least_of ordered stack ≤ ordered → end < length stack
fewer_stand ordered end stack le stands some = ⊎_elim
    (λ lt. lt)
    (λ ge.
    let whole : take end stack ≡ stack = take_all end stack ge in
    let held : holds (least_of ordered stack) stack ≡ true = least_held ordered (least_of ordered stack) stack refl some in
    let still : holds (least_of ordered stack) (standing_at (suc (least_of ordered stack)) stack) ≡ true =
    ap (holds (least_of ordered stack)) (sym stands ∙ whole) ∙ held in
    absurd (omega (arith, standing_late (suc (least_of ordered stack)) (least_of ordered stack) stack still)))
    (cases_lt end (length stack))

-- what stands in a turn is not lower than its rank
late_least : (v ordered : ℕ) (stack : List ℕ) → v ≤ suc ordered → v ≤ least_of ordered (standing_at v stack)
late_least v ordered stack le = ⊎_elim
    (λ none. omega arith)
    (λ some. standing_late v (least_of ordered (standing_at v stack)) stack (least_held ordered (least_of ordered (standing_at v stack)) (standing_at v stack) refl some))
    (cases_lt ordered (least_of ordered (standing_at v stack)))

-- part of a row, up to an index: its scope and what it brings, and the total with the outer scopes
pub record Part (price : ℕ → ℕ → ℕ) (unit ordered : ℕ) (all : List MarkedJob) (height from : ℕ) (stack : List ℕ) (end total brings low whole : ℕ) : Type 0 where
  pub within : end ≤ length stack
  pub low_is : low ≡ least_of ordered (take end stack)
  pub brings_is : brings ≡ best price unit ordered all (height - end) low from all
  pub total_is : total + worth price unit ordered all height from all (scopes_of ordered (take end stack)) ≡ whole

-- what it brings, of its length and its least rank
part_brings : (price : ℕ → ℕ → ℕ) (unit ordered : ℕ) (all : List MarkedJob) (height from : ℕ) (stack : List ℕ) (end total brings low whole : ℕ) →
    Part price unit ordered all height from stack end total brings low whole →
    brings ≡ best price unit ordered all (height - length (take end stack)) (least_of ordered (take end stack)) from all
part_brings price unit ordered all height from stack end total brings low whole p =
    p.brings_is
    ∙ ap (λ n. best price unit ordered all (height - n) low from all) (sym (length-take-le end stack p.within))
    ∙ ap (λ n. best price unit ordered all (height - length (take end stack)) n from all) p.low_is

pub part_within : (price : ℕ → ℕ → ℕ) (unit ordered : ℕ) (all : List MarkedJob) (height from : ℕ) (stack : List ℕ) (end total brings low whole : ℕ) →
    Part price unit ordered all height from stack end total brings low whole → total + brings ≤ whole
part_within price unit ordered all height from stack end total brings low whole p =
    let b = part_brings price unit ordered all height from stack end total brings low whole p in
    ⊎_elim
    (λ none. omega (arith, b, p.total_is, split_none price unit ordered all height from all (take end stack) none))
    (λ some. omega (arith, b, p.total_is, split_some price unit ordered all height from all (take end stack) some))
    (cases_lt ordered (least_of ordered (take end stack)))

-- where something ordered stands, the next part outward
pub row_step : (price : ℕ → ℕ → ℕ) (unit ordered : ℕ) (all : List MarkedJob) (height from : ℕ) (stack : List ℕ) (end next total brings low whole : ℕ) →
    Part price unit ordered all height from stack end total brings low whole → low ≤ ordered → next ≤ length (take end stack) →
    take next (take end stack) ≡ standing_at (low + 1) (take end stack) →
    (next < end) × (total + brings + worth price unit ordered all height (low + 1) all (scopes_of ordered (take next stack)) ≡ whole) × (low + 1 ≤ least_of ordered (take next stack))
row_step price unit ordered all height from stack end next total brings low whole p some fewer stands =
    let part : List ℕ = take end stack in
    let low_is : low ≡ least_of ordered part = p.low_is in
    let long : length part ≡ end = length-take-le end stack p.within in
    let suc_is : low + 1 ≡ suc (least_of ordered part) = omega (arith, low_is) in
    let stands' : take next part ≡ standing_at (suc (least_of ordered part)) part = stands ∙ ap (λ n. standing_at n part) suc_is in
    let lt : next < length part = fewer_stand ordered next part fewer stands' (omega (arith, low_is)) in
    let same : take next stack ≡ standing_at (suc (least_of ordered part)) part = sym (take_less next end stack (omega (arith, long))) ∙ stands' in (
      omega (arith, lt, long),
      omega (
        arith,
        p.total_is,
        split_some price unit ordered all height from all part (omega (arith, low_is)),
        part_brings price unit ordered all height from stack end total brings low whole p,
        ap (λ l. worth price unit ordered all height (low + 1) all (scopes_of ordered l)) same,
        ap (λ n. worth price unit ordered all height n all (scopes_of ordered (standing_at (suc (least_of ordered part)) part))) suc_is,
      ),
      omega (arith, suc_is, late_least (suc (least_of ordered part)) ordered part (omega (arith, low_is)), ap (least_of ordered) same),
    )
  where
    take_less : (a b : ℕ) (xs : List ℕ) → a ≤ b → take a (take b xs) ≡ take a xs
    take_less zero b xs ab = refl
    take_less (suc a) zero xs ab = absurd (omega arith)
    take_less (suc a) (suc b) [] ab = refl
    take_less (suc a) (suc b) (x ∷ xs) ab = ap (λ l. x ∷ l) (take_less a b xs (omega arith))

-- where nothing ordered stands, this is the last part
pub row_end : (price : ℕ → ℕ → ℕ) (unit ordered : ℕ) (all : List MarkedJob) (height from : ℕ) (stack : List ℕ) (end total brings low whole : ℕ) →
    Part price unit ordered all height from stack end total brings low whole → ordered < low → total + brings ≡ whole
row_end price unit ordered all height from stack end total brings low whole p none = omega (
  arith,
  p.total_is,
  p.low_is,
  part_brings price unit ordered all height from stack end total brings low whole p,
  split_none price unit ordered all height from all (take end stack) (omega (arith, p.low_is)),
)

-- scopes that rise outward bring no more than one of all their turns could
parts_few : (tall a b n most : ℕ) → a + b ≤ n → tall * (a * most) + tall * (b * most) ≤ tall * (n * most)
parts_few tall a b n most le =
    let more : ℕ = n - (a + b) in
    let e : n ≡ a + b + more = omega arith in
    rw e (omega arith)

worth_few : (price : ℕ → ℕ → ℕ) (unit ordered most : ℕ) (all : List MarkedJob) → AreFew price most all → (height tall : ℕ) → height ≤ tall → (scopes : List Scope) (from n : ℕ) → AreWider from ordered scopes →
    suc (suc ordered) ≤ from + n → worth price unit ordered all height from all scopes ≤ tall * (n * most)
unfolding AreWider
worth_few price unit ordered most all few height tall high [] from n w le = omega arith
worth_few price unit ordered most all few height tall high (s ∷ scopes) from n w le =
    let a : from ≤ s.low = w.0 in
    let b : s.low ≤ suc ordered = w.1 in
    omega (
      arith,
      best_few price unit ordered most all few (height - s.size) tall s.low from (s.low - from) all (λ x has. has) (omega arith) (omega arith),
      worth_few price unit ordered most all few height tall high scopes (suc s.low) (n - (s.low - from)) w.2 (omega arith),
      parts_few tall (s.low - from) (n - (s.low - from)) n most (omega arith),
    )

pub row_few : (price : ℕ → ℕ → ℕ) (unit ordered most : ℕ) (all : List MarkedJob) → AreFew price most all → (height tall n : ℕ) (stack : List ℕ) → height ≤ tall → suc (suc ordered) ≤ n →
    row_pass price unit ordered all height stack ≤ tall * (n * most)
row_few price unit ordered most all few height tall n stack high le =
    worth_few price unit ordered most all few height tall high (scopes_of ordered stack) 0 n (wider_of ordered stack) (omega arith)
