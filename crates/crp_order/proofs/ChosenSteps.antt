-- Sequences without the containers of other bays.
use Prim.Native.Nat.{zero}
use Rattle.std.proofs.Common.{◌≡◌, ◌≢◌, ◌≤◌, ◌<◌, ◌+◌, ◌==◌, ℕ, suc, Bool, true, false, cond, not, List, [], ◌∷◌, ◌++◌, length, take, get_or, map, Option, Some, None, IfSome, slice_get, refl, sym, ap, ◌∙◌, inl, inr, arith}
use Rattle.std.specs.Prelude.{◌||◌, filter, count_by, option_map}
use Rattle.std.specs.List.{list_any, IsDistinct, AllByRecursion}
use Rattle.std.specs.Str.{bytes_eq}
use denote.Ref.{Bor}
use Rattle.std.proofs.lemmas.Bool.{false≢true, cases_lt, eq-eqb, ne_eqb}
use Rattle.std.proofs.lemmas.List.{take_more}
use Rattle.std.proofs.lemmas.List.Elements.{filter-append}
use Rattle.std.proofs.lemmas.List.Folds.{list_any-append}
use Rattle.std.proofs.lemmas.List.Sums.{length-filter}
use Rattle.std.proofs.lemmas.Option.{same_Some, MatchOption-at_some}
use Rattle.crp_plan.specs.BayNames.{YardBay}
use Rattle.crp_plan.specs.Faults.{stated_with}
use Rattle.crp_sizes.specs.Sizes.{YardSizes, heights_at}
use Rattle.crp_yard.specs.Inventory.{Inventory, StackedBay, IsYard, is_among, containers_of, stands, times, name_at}
use Rattle.crp_order.specs.declared.bay_problem.BayProblem.{BayProblem}
use Rattle.crp_order.specs.Sequenced.{AreSequenced}
use Rattle.crp_order.specs.BayProblems.{standing, leaving, staying, ranks_in, is_called, bay_problem_of, problems_of, absent_of}
use Rattle.crp_order.specs.Groups.{kept_of, is_index, ArePlaced}
use Rattle.crp_order.specs.OfBays.{is_chosen, other_bays, of_bays}
use Rattle.crp_order.proofs.Once.{same, among, filter-same}
use Rattle.crp_order.proofs.YardSteps.{AtBay, at_bay, apart}

-- a filter behind one that lets through all that it wants
pub filter-kept : {X : Type 0} (r q : X → Bool) (xs : List X) → ((x : X) → r x ≡ true → q x ≡ true) → filter r (filter q xs) ≡ filter r xs
filter-kept r q [] h = refl
filter-kept {X} r q (x ∷ xs) h = by (q x) refl (r x) refl (filter-kept r q xs h)
  where
    by : (b : Bool) → q x ≡ b → (c : Bool) → r x ≡ c → filter r (filter q xs) ≡ filter r xs
        → filter r (cond b (x ∷ filter q xs) (filter q xs)) ≡ cond c (x ∷ filter r xs) (filter r xs)
    by true e c f ih = rw (f, ih) refl
    by false e true f ih = absurd (false≢true (sym e ∙ h x f))
    by false e false f ih = ih

any-kept : (r q : List ℕ → Bool) (xs : List (List ℕ)) → ((x : List ℕ) → r x ≡ true → q x ≡ true) → list_any r (filter q xs) ≡ list_any r xs
any-kept r q [] h = refl
any-kept r q (x ∷ xs) h = by (q x) refl (r x) refl (any-kept r q xs h)
  where
    by : (b : Bool) → q x ≡ b → (c : Bool) → r x ≡ c → list_any r (filter q xs) ≡ list_any r xs → list_any r (cond b (x ∷ filter q xs) (filter q xs)) ≡ (c || list_any r xs)
    by true e c f ih = rw (f, ih) refl
    by false e true f ih = absurd (false≢true (sym e ∙ h x f))
    by false e false f ih = ih

-- none of those that a filter lets through passes a test that it wants nothing of
any-dropped : (r q : List ℕ → Bool) (xs : List (List ℕ)) → ((x : List ℕ) → r x ≡ true → q x ≡ false) → list_any r (filter q xs) ≡ false
any-dropped r q [] h = refl
any-dropped r q (x ∷ xs) h = by (q x) refl (r x) refl (any-dropped r q xs h)
  where
    by : (b : Bool) → q x ≡ b → (c : Bool) → r x ≡ c → list_any r (filter q xs) ≡ false → list_any r (cond b (x ∷ filter q xs) (filter q xs)) ≡ false
    by true e true f ih = absurd (false≢true (sym (h x f) ∙ e))
    by true e false f ih = rw (f, ih) refl
    by false e c f ih = ih

-- what stands in the first of some bays, and in the others
stands-first : (b : StackedBay) (bays : List StackedBay) (c : List ℕ) → stands (b ∷ bays) c ≡ (is_among (standing b.1) c || stands bays c)
stands-first b bays c = list_any-append (λ other. bytes_eq c other) (standing b.1) (containers_of bays)

stands-none : (p : StackedBay → Bool) (bays : List StackedBay) (c : List ℕ) → ((j : ℕ) (b : StackedBay) → slice_get bays j ≡ Some b → is_among (standing b.1) c ≡ false)
    → stands (filter p bays) c ≡ false
stands-none p [] c h = refl
stands-none p (b ∷ bays) c h = by (p b) (h 0 b refl) (stands-none p bays c (λ j d e. h (suc j) d e))
  where
    by : (q : Bool) → is_among (standing b.1) c ≡ false → stands (filter p bays) c ≡ false → stands (cond q (b ∷ filter p bays) (filter p bays)) c ≡ false
    by true f g = stands-first b (filter p bays) c ∙ ap (λ r. r || stands (filter p bays) c) f ∙ g
    by false f g = g

stands-one : (p : StackedBay → Bool) (bays : List StackedBay) (c : List ℕ) (k : ℕ) (here : StackedBay) → slice_get bays k ≡ Some here → is_among (standing here.1) c ≡ true
    → ((j : ℕ) (b : StackedBay) → j ≢ k → slice_get bays j ≡ Some b → is_among (standing b.1) c ≡ false) → stands (filter p bays) c ≡ p here
stands-one p [] c k here e t others = cc
stands-one p (b ∷ bays) c zero here e t others =
    let is : b ≡ here = same_Some b here e in
    by (p b) (ap (λ x. is_among (standing x.1) c) is ∙ t) (stands-none p bays c (λ j d f. others (suc j) d (omega arith) f)) ∙ ap p is
  where
    by : (q : Bool) → is_among (standing b.1) c ≡ true → stands (filter p bays) c ≡ false → stands (cond q (b ∷ filter p bays) (filter p bays)) c ≡ q
    by true f g = stands-first b (filter p bays) c ∙ ap (λ r. r || stands (filter p bays) c) f
    by false f g = g
stands-one p (b ∷ bays) c (suc k) here e t others =
    by (p b) (others 0 b (omega arith) refl) (stands-one p bays c k here e t (λ j d ne f. others (suc j) d (omega arith) f))
  where
    by : (q : Bool) → is_among (standing b.1) c ≡ false → stands (filter p bays) c ≡ p here → stands (cond q (b ∷ filter p bays) (filter p bays)) c ≡ p here
    by true f g = stands-first b (filter p bays) c ∙ ap (λ r. r || stands (filter p bays) c) f ∙ g
    by false f g = g

not-not : (b : Bool) → not (not b) ≡ b
not-not true = refl
not-not false = refl

-- a container that is kept of no bay, and one that is kept of a bay with this name
pub stays-nowhere : (names : List YardBay) (yard : Inventory) (entries : List (Bor (List ℕ) × ℕ)) (c : Bor (List ℕ)) → ArePlaced (length yard.bays) yard.bays entries → kept_of entries c.now ≡ None
    → not (stands (other_bays names yard.bays) c.now) ≡ true
stays-nowhere names yard entries c placed none =
    ap not (stands-none (λ b. not (is_chosen names b.0)) yard.bays c.now
    (λ j b e. placed.standing_there c j b (Rattle.std.proofs.lemmas.Option.slice_get_within yard.bays j b e) e ∙ ap (λ k. is_index k j) none))

pub stays-there : (names : List YardBay) (yard : Inventory) (entries : List (Bor (List ℕ) × ℕ)) (c : Bor (List ℕ)) (i : ℕ) (bay : YardBay) → ArePlaced (length yard.bays) yard.bays entries
    → kept_of entries c.now ≡ Some i → i < length yard.bays → name_at yard i ≡ Some bay → not (stands (other_bays names yard.bays) c.now) ≡ is_chosen names bay
stays-there names yard entries c i bay placed some low named =
    let at : AtBay yard i = at_bay yard i low in
    let which : (j : ℕ) (b : StackedBay) → slice_get yard.bays j ≡ Some b → is_among (standing b.1) c.now ≡ (i == j) =
    λ j b e. placed.standing_there c j b (Rattle.std.proofs.lemmas.Option.slice_get_within yard.bays j b e) e ∙ ap (λ k. is_index k j) some in
    let is : at.bay.0 ≡ bay = same_Some at.bay.0 bay (ap (option_map (λ (b : StackedBay). b.0)) (sym at.here) ∙ named) in
    ap not (stands-one (λ b. not (is_chosen names b.0)) yard.bays c.now i at.bay at.here (which i at.bay at.here ∙ eq-eqb i i refl)
    (λ j b ne e. which j b e ∙ ne_eqb i j (λ eq. ne (sym eq))))
    ∙ not-not (is_chosen names at.bay.0) ∙ ap (is_chosen names) is

-- a container that stands in a bay of the yard
there : (names : List YardBay) (yard : Inventory) (k : ℕ) (bay : StackedBay) (c : List ℕ) → IsYard yard → slice_get yard.bays k ≡ Some bay → is_among (standing bay.1) c ≡ true
    → not (stands (other_bays names yard.bays) c) ≡ is_chosen names bay.0
there names yard k bay c is at t =
    ap not (stands-one (λ b. not (is_chosen names b.0)) yard.bays c k bay at t (λ j b ne e. by j b ne e (is_among (standing b.1) c) refl)) ∙ not-not (is_chosen names bay.0)
  where
    by : (j : ℕ) (b : StackedBay) → j ≢ k → slice_get yard.bays j ≡ Some b → (r : Bool) → is_among (standing b.1) c ≡ r → r ≡ false
    by j b ne e false f = refl
    by j b ne e true f =
        elim (cases_lt j k) [
          | inl lt ↦ absurd (apart yard is c j k b bay lt e at f t)
          | inr le ↦ absurd (apart yard is c k j bay b (omega (arith, ne)) at e t f)
        ]

-- what a sequence without the containers of other bays says of a bay: as much as the whole one of a chosen bay, and of another that no container of it stands there
record Says (sizes : YardSizes) (names : List YardBay) (whole part : List (List ℕ)) (bay : StackedBay) : Type 0 where
  called : is_chosen names bay.0 ≡ true → is_called part bay ≡ is_called whole bay
  same_problem : is_chosen names bay.0 ≡ true → bay_problem_of sizes part bay ≡ bay_problem_of sizes whole bay
  other : is_chosen names bay.0 ≡ false → is_called part bay ≡ false

made_of : YardSizes → StackedBay → List (List ℕ) → List (List ℕ) → BayProblem
made_of sizes bay left stay = record {
  bay = bay.0;
  problem = stated_with (heights_at sizes bay.0) (length left) (ranks_in (left ++ stay) bay.1);
  names = left ++ stay;
}

-- the container does not stand in another bay
abbrev pub is_left : List YardBay → Inventory → List ℕ → Bool
is_left names yard c = not (stands (other_bays names yard.bays) c)

left-there : (names : List YardBay) (yard : Inventory) (k : ℕ) (bay : StackedBay) → IsYard yard → slice_get yard.bays k ≡ Some bay → is_chosen names bay.0 ≡ true
    → (c : List ℕ) → is_among (standing bay.1) c ≡ true → is_left names yard c ≡ true
left-there names yard k bay is at chosen c t = there names yard k bay c is at t ∙ chosen

says : (names : List YardBay) (yard : Inventory) (sequence : List (List ℕ)) (k : ℕ) (bay : StackedBay) → IsYard yard → slice_get yard.bays k ≡ Some bay
    → Says yard.sizes names sequence (of_bays names yard sequence) bay
unfolding made_of
says names yard sequence k bay is at = record {
  called = λ chosen. any-kept (is_among (standing bay.1)) (is_left names yard) sequence (left-there names yard k bay is at chosen);
  same_problem = λ chosen.
      let left : leaving (of_bays names yard sequence) bay.1 ≡ leaving sequence bay.1 = filter-kept (is_among (standing bay.1)) (is_left names yard) sequence (left-there names yard k bay is at chosen) in
      let stay : staying (of_bays names yard sequence) bay.1 ≡ staying sequence bay.1 =
      filter-same (λ c. not (is_among (of_bays names yard sequence) c)) (λ c. not (is_among sequence c)) (standing bay.1)
      (λ c some. ap not (any-kept (bytes_eq c) (is_left names yard) sequence
      (λ d e. ap (is_left names yard) (sym (same c d e)) ∙ left-there names yard k bay is at chosen c (among c (standing bay.1) some)))) in
      ap (λ l. made_of yard.sizes bay l (staying (of_bays names yard sequence) bay.1)) left ∙ ap (made_of yard.sizes bay (leaving sequence bay.1)) stay;
  other = λ not_chosen. any-dropped (is_among (standing bay.1)) (is_left names yard) sequence (λ c t. there names yard k bay c is at t ∙ not_chosen);
}

problems-each : (sizes : YardSizes) (names : List YardBay) (whole part : List (List ℕ)) (bays : List StackedBay) → ((k : ℕ) (bay : StackedBay) → slice_get bays k ≡ Some bay → Says sizes names whole part bay)
    → map (bay_problem_of sizes part) (filter (is_called part) bays) ≡ filter (λ made. is_chosen names made.bay) (map (bay_problem_of sizes whole) (filter (is_called whole) bays))
problems-each sizes names whole part [] h = refl
problems-each sizes names whole part (b ∷ bays) h =
    by (is_chosen names b.0) refl (is_called whole b) refl (is_called part b) refl (h 0 b refl) (problems-each sizes names whole part bays (λ k d e. h (suc k) d e))
  where
    by : (c : Bool) → is_chosen names b.0 ≡ c → (w : Bool) → is_called whole b ≡ w → (p : Bool) → is_called part b ≡ p → Says sizes names whole part b
        → map (bay_problem_of sizes part) (filter (is_called part) bays) ≡ filter (λ made. is_chosen names made.bay) (map (bay_problem_of sizes whole) (filter (is_called whole) bays))
        → map (bay_problem_of sizes part) (cond p (b ∷ filter (is_called part) bays) (filter (is_called part) bays))
        ≡ filter (λ made. is_chosen names made.bay) (map (bay_problem_of sizes whole) (cond w (b ∷ filter (is_called whole) bays) (filter (is_called whole) bays)))
    by true e true f true g s ih = rw (e, s.same_problem e, ih) refl
    by true e true f false g s ih = absurd (false≢true (sym g ∙ s.called e ∙ f))
    by true e false f true g s ih = absurd (false≢true (sym f ∙ sym (s.called e) ∙ g))
    by true e false f false g s ih = ih
    by false e w f true g s ih = absurd (false≢true (sym (s.other e) ∙ g))
    by false e true f false g s ih = rw (e, ih) refl
    by false e false f false g s ih = ih

-- the problems that a sequence without the containers of other bays states are those of the chosen bays
pub problems-chosen : (names : List YardBay) (yard : Inventory) (sequence : List (List ℕ)) → IsYard yard
    → problems_of yard (of_bays names yard sequence) ≡ filter (λ made. is_chosen names made.bay) (problems_of yard sequence)
problems-chosen names yard sequence is = problems-each yard.sizes names sequence (of_bays names yard sequence) yard.bays (λ k bay at. says names yard sequence k bay is at)

-- what stands nowhere in the yard stands in none of the other bays
nowhere : (p : StackedBay → Bool) (bays : List StackedBay) (c : List ℕ) → stands bays c ≡ false → stands (filter p bays) c ≡ false
nowhere p [] c h = refl
nowhere p (b ∷ bays) c h = by (p b) (is_among (standing b.1) c) refl (sym (stands-first b bays c) ∙ h) (nowhere p bays c)
  where
    by : (q f : Bool) → is_among (standing b.1) c ≡ f → (f || stands bays c) ≡ false → (stands bays c ≡ false → stands (filter p bays) c ≡ false)
        → stands (cond q (b ∷ filter p bays) (filter p bays)) c ≡ false
    by q true e k ih = absurd (false≢true (sym k))
    by true false e k ih = stands-first b (filter p bays) c ∙ ap (λ r. r || stands (filter p bays) c) e ∙ ih k
    by false false e k ih = ih k

pub absent-chosen : (names : List YardBay) (yard : Inventory) (sequence : List (List ℕ)) → absent_of yard (of_bays names yard sequence) ≡ absent_of yard sequence
absent-chosen names yard sequence =
    sym (length-filter (λ c. not (stands yard.bays c)) (of_bays names yard sequence))
    ∙ ap length (filter-kept (λ c. not (stands yard.bays c)) (λ c. not (stands (other_bays names yard.bays) c)) sequence (λ c e. by c (stands yard.bays c) refl e))
    ∙ length-filter (λ c. not (stands yard.bays c)) sequence
  where
    by : (c : List ℕ) (b : Bool) → stands yard.bays c ≡ b → not b ≡ true → not (stands (other_bays names yard.bays) c) ≡ true
    by c true e h = absurd (false≢true h)
    by c false e h = ap not (nowhere (λ b. not (is_chosen names b.0)) yard.bays c e)

-- with no bay named the sequence is the whole one
pub all-chosen : (yard : Inventory) (sequence : List (List ℕ)) → of_bays [] yard sequence ≡ sequence
all-chosen yard sequence = whole (other_bays [] yard.bays) (none yard.bays) sequence
  where
    none : (bays : List StackedBay) → other_bays [] bays ≡ []
    none [] = refl
    none (b ∷ bays) = none bays

    whole : (others : List StackedBay) → others ≡ [] → (xs : List (List ℕ)) → filter (λ c. not (stands others c)) xs ≡ xs
    whole others e [] = refl
    whole others e (x ∷ xs) = rw (ap (λ o. stands o x) e, whole others e xs) refl

-- what is left of a sequence is one
all-apart : (q : List ℕ → Bool) (x : List ℕ) (xs : List (List ℕ)) → AllByRecursion (λ y. bytes_eq x y ≡ false) xs → AllByRecursion (λ y. bytes_eq x y ≡ false) (filter q xs)
all-apart q x [] d = d
all-apart q x (y ∷ xs) d = by (q y) d.0 (all-apart q x xs d.1)
  where
    by : (b : Bool) → bytes_eq x y ≡ false → AllByRecursion (λ z. bytes_eq x z ≡ false) (filter q xs) → AllByRecursion (λ z. bytes_eq x z ≡ false) (cond b (y ∷ filter q xs) (filter q xs))
    by true e rest = (e, rest)
    by false e rest = rest

distinct : (q : List ℕ → Bool) (xs : List (List ℕ)) → IsDistinct bytes_eq xs → IsDistinct bytes_eq (filter q xs)
unfolding Rattle.std.specs.List.IsDistinct
distinct q [] d = d
distinct q (x ∷ xs) d = by (q x) (all-apart q x xs d.0) (distinct q xs d.1)
  where
    by : (b : Bool) → AllByRecursion (λ y. bytes_eq x y ≡ false) (filter q xs) → IsDistinct bytes_eq (filter q xs) → IsDistinct bytes_eq (cond b (x ∷ filter q xs) (filter q xs))
    by true first rest = (first, rest)
    by false first rest = rest

-- no more are left than there were
pub fewer : (q : List ℕ → Bool) (xs : List (List ℕ)) → length (filter q xs) ≤ length xs
fewer q [] = omega arith
fewer q (x ∷ xs) = by (q x) (fewer q xs)
  where
    by : (b : Bool) → length (filter q xs) ≤ length xs → length (cond b (x ∷ filter q xs) (filter q xs)) ≤ length (x ∷ xs)
    by true h = omega (arith, h)
    by false h = omega (arith, h)

pub of-bays-fewer : (names : List YardBay) (yard : Inventory) (sequence : List (List ℕ)) → length (of_bays names yard sequence) ≤ length sequence
of-bays-fewer names yard sequence = fewer (is_left names yard) sequence

pub sequenced-filter : (q : List ℕ → Bool) (xs : List (List ℕ)) → AreSequenced xs → AreSequenced (filter q xs)
sequenced-filter q xs are = record { once = distinct q xs are.once; few = omega (arith, fewer q xs, are.few) }

-- a container more
pub of-bays-more : (names : List YardBay) (yard : Inventory) (xs : List (List ℕ)) (i : ℕ) (x : List ℕ) (b : Bool) → i < length xs → x ≡ get_or xs i x → is_left names yard x ≡ b
    → of_bays names yard (take (i + 1) xs) ≡ of_bays names yard (take i xs) ++ cond b (x ∷ []) []
of-bays-more names yard xs i x b within at is =
    ap (filter (is_left names yard)) (take_more xs i x within ∙ ap (λ y. take i xs ++ y ∷ []) (sym at)) ∙ filter-append (is_left names yard) (take i xs) (x ∷ [])
    ∙ ap (λ c. of_bays names yard (take i xs) ++ cond c (x ∷ []) []) is
