-- Each text lists sizes or has a first fault.
use Rattle.std.proofs.Common.{◌≡◌, ◌∙◌, ◌⊎◌, inl, inr, ⊎_elim, ◌<◌, ℕ, ◌+◌, ◌-◌, Bool, true, false, List, [], ◌∷◌, ◌++◌, length, drop, Option, Some, None, refl, sym, ap, subst, arith, append_assoc, append-nil, get_or}
use Rattle.std.specs.Prelude.{IsTrue, IsSome}
use Rattle.std.specs.List.{IsDistinct, AllByRecursion}
use Rattle.std.proofs.lemmas.Bool.{cases_lt, cases_eq, false≢true}
use Rattle.std.proofs.lemmas.List.Elements.{All-from_recursion, recursion_from_All}
use Rattle.crp_plan.specs.Faults.{HasTiers}
use Rattle.crp_sizes.specs.Fields.{max_bytes}
use Rattle.crp_sizes.specs.Fields.{records_of, field_of}
use Rattle.crp_sizes.specs.declared.fault.SizesFault.{SizesFault}
use Rattle.crp_sizes.specs.declared.fault.SizesFault.TheVariants.{Header, Fields, Digits, Heights, Twice, TooLarge}
use Rattle.crp_sizes.specs.Heights.{behind_points, IsHeightsText}
use Rattle.crp_sizes.specs.Sizes.{BaySize, heights_of}
use Rattle.crp_sizes.specs.Fields.{has_number, bay_named}
use Rattle.crp_sizes.specs.Records.{header, is_header, is_well_formed, GivesSize, AreSizes, AreListed, IsSizesList}
use Rattle.crp_sizes.specs.Faults.{IsFault, IsFaultIn, IsFirstFault}
use Rattle.crp_sizes.proofs.HeaderSteps.{header_is, no_header, none_there}
use Rattle.crp_sizes.proofs.HeightSteps.{length_behind, with_point}
use Rattle.crp_sizes.proofs.SizeSteps.{once_more, one_size_more, faulty_next}

either : (b : Bool) → (b ≡ true) ⊎ (b ≡ false)
either true = inl refl
either false = inr refl

not_true : (b : Bool) → b ≡ false → ¬ IsTrue b
not_true b e t = false≢true (sym e ∙ t)

-- ---- heights

abbrev Written : List ℕ → Type 0
Written text = (heights : List ℕ) × AllByRecursion HasTiers heights × (text ≡ behind_points heights)

abbrev Unwritten : List ℕ → Type 0
Unwritten text = (heights : List ℕ) → AllByRecursion HasTiers heights → text ≡ behind_points heights → ⊥

-- a point and a digit more
one_more : (point digit : ℕ) (text : List ℕ) → Written text ⊎ Unwritten text → Written (point ∷ digit ∷ text) ⊎ Unwritten (point ∷ digit ∷ text)
one_more point digit text (inr none) = inr wrong
  where
    wrong : Unwritten (point ∷ digit ∷ text)
    wrong [] all e = absurd (cc)
    wrong (height ∷ heights) all e = none heights all.1 (ap (λ (l : List ℕ). drop 2 l) e)
one_more point digit text (inl some) =
    elim (cases_eq point 46) [
      | inr other ↦ inr (λ heights all e. not_point heights e other)
      | inl is ↦ elim (cases_lt digit 49) [
        | inl low ↦ inr (λ heights all e. not_digit heights all e (inl low))
        | inr least ↦ elim (cases_lt 56 digit) [
          | inl high ↦ inr (λ heights all e. not_digit heights all e (inr high))
          | inr most ↦
              let same : digit ≡ 48 + (digit - 48) = omega arith in
              inl ((digit - 48) ∷ some.0, ((omega arith, omega arith), some.1), λ i. is i ∷ same i ∷ some.2 i)
        ]
      ]
    ]
  where
    not_point : (heights : List ℕ) → point ∷ digit ∷ text ≡ behind_points heights → (point ≡ 46 → ⊥) → ⊥
    not_point [] e other = absurd (cc)
    not_point (height ∷ heights) e other = other (ap (λ (l : List ℕ). get_or l 0 0) e)

    not_digit : (heights : List ℕ) → AllByRecursion HasTiers heights → point ∷ digit ∷ text ≡ behind_points heights → (digit < 49) ⊎ (56 < digit) → ⊥
    not_digit [] all e beyond = absurd (cc)
    not_digit (height ∷ heights) all e beyond =
        let is : digit ≡ 48 + height = ap (λ (l : List ℕ). get_or l 1 0) e in
        let tiers = all.0 in
        omega (arith, is, tiers.0, tiers.1, beyond)

behind : (text : List ℕ) → Written text ⊎ Unwritten text
behind [] = inl ([], tt, refl)
behind (point ∷ []) = inr odd
  where
    odd : Unwritten (point ∷ [])
    odd [] all e = absurd (cc)
    odd (height ∷ heights) all e = let none : [] ≡ (48 + height) ∷ behind_points heights = ap (λ (l : List ℕ). drop 1 l) e in absurd (cc)
behind (point ∷ digit ∷ text) = one_more point digit text (behind text)

-- a text is that of some heights or of none
heights_or_none : (text : List ℕ) → ((heights : List ℕ) × IsHeightsText heights text) ⊎ ((heights : List ℕ) → IsHeightsText heights text → ⊥)
heights_or_none text = by (behind (46 ∷ text))
  where
    few : (heights : List ℕ) → AllByRecursion HasTiers heights → 46 ∷ text ≡ behind_points heights → ((heights : List ℕ) × IsHeightsText heights text) ⊎ ((heights : List ℕ) → IsHeightsText heights text → ⊥)
    few [] all e = absurd (cc)
    few (height ∷ heights) all e =
        elim (cases_lt 12 (length (height ∷ heights))) [
          | inl many ↦ inr (λ others is. absurd (omega (arith, many, is.0.0.1, ap length (sym e ∙ with_point others text is), length_behind others, length_behind (height ∷ heights))))
          | inr room ↦ inl (height ∷ heights, (((omega arith, room), All-from_recursion HasTiers (height ∷ heights) all), ap (λ (l : List ℕ). drop 1 l) e))
        ]

    by : Written (46 ∷ text) ⊎ Unwritten (46 ∷ text) → ((heights : List ℕ) × IsHeightsText heights text) ⊎ ((heights : List ℕ) → IsHeightsText heights text → ⊥)
    by (inl some) = few some.0 some.1 some.2
    by (inr none) = inr (λ heights is. none heights (recursion_from_All HasTiers heights is.0.1) (with_point heights text is))

-- ---- records

-- a record gives a size of a bay that is not there yet, or has a fault
size_or_fault : (sizes : List BaySize) (fields : List (List ℕ)) (n : ℕ)
    → ((size : BaySize) × GivesSize fields size × (heights_of sizes size.0 ≡ None)) ⊎ ((fault : SizesFault) × IsFault sizes fields n fault)
size_or_fault sizes fields n =
    elim (either (is_well_formed fields)) [
      | inr lacks ↦ inr (Fields n, (refl, not_true (is_well_formed fields) lacks))
      | inl formed ↦ elim (either (has_number fields)) [
        | inr lacks ↦ inr (Digits n, (refl, formed, not_true (has_number fields) lacks))
        | inl numbered ↦ elim (heights_or_none (field_of fields 2)) [
          | inr none ↦ inr (Heights n, (refl, formed, numbered, none))
          | inl some ↦ listed (bay_named fields, some.0) (record { formed = formed; numbered = numbered; bay = refl; heights = some.1 }) (heights_of sizes (bay_named fields)) refl
        ]
      ]
    ]
  where
    listed : (size : BaySize) → GivesSize fields size → (there : Option (List ℕ)) → heights_of sizes size.0 ≡ there
        → ((size : BaySize) × GivesSize fields size × (heights_of sizes size.0 ≡ None)) ⊎ ((fault : SizesFault) × IsFault sizes fields n fault)
    listed size gives None e = inl (size, gives, e)
    listed size gives (Some x) e = inr (Twice n, (refl, size, gives, subst IsSome (sym e) refl))

-- records behind those of these sizes
from_here : (before : List (List (List ℕ))) (sizes : List BaySize) (rest : List (List (List ℕ))) → AreSizes before sizes
    → ((all : List BaySize) × AreSizes (before ++ rest) all) ⊎ ((fault : SizesFault) × IsFaultIn (header ∷ before ++ rest) fault)
from_here before sizes [] is = inl (sizes, subst (λ (l : List (List (List ℕ))). AreSizes l sizes) (sym (append-nil before)) is)
from_here before sizes (fields ∷ rest) is =
    elim (size_or_fault sizes fields (length sizes + 2)) [
      | inr bad ↦ inr (bad.0, faulty_next (header ∷ before ++ fields ∷ rest) before sizes fields bad.0 (rest, refl) is bad.1)
      | inl good ↦
          let more : AreSizes (before ++ fields ∷ []) (sizes ++ good.0 ∷ []) = record { given = one_size_more before sizes fields good.0 is.given good.1; once = once_more sizes good.0 is.once good.2 } in
          subst (λ (l : List (List (List ℕ))). ((all : List BaySize) × AreSizes l all) ⊎ ((fault : SizesFault) × IsFaultIn (header ∷ l) fault)) (append_assoc before (fields ∷ []) rest)
          (from_here (before ++ fields ∷ []) (sizes ++ good.0 ∷ []) rest more)
    ]

listed_or_fault : (records : List (List (List ℕ))) → ((sizes : List BaySize) × AreListed records sizes) ⊎ ((fault : SizesFault) × IsFaultIn records fault)
unfolding Rattle.std.specs.List.IsDistinct
listed_or_fault [] = inr (Header 1, inl (refl, none_there [] refl))
listed_or_fault (fields ∷ rest) =
    elim (either (is_header fields)) [
      | inr other ↦ inr (Header 1, inl (refl, no_header (fields ∷ rest) fields rest refl other))
      | inl is ↦
          subst (λ (f : List (List ℕ)). ((sizes : List BaySize) × AreListed (f ∷ rest) sizes) ⊎ ((fault : SizesFault) × IsFaultIn (f ∷ rest) fault)) (sym (header_is fields is))
          (⊎_elim (λ good. inl (good.0, record { rest = rest; begun = refl; sized = good.1 })) (λ bad. inr bad) (from_here [] [] rest (record { given = tt; once = tt })))
    ]

pub some_outcome : (text : List ℕ) → ((sizes : List BaySize) × IsSizesList text sizes) ⊎ ((fault : SizesFault) × IsFirstFault text fault)
some_outcome text =
    elim (cases_lt max_bytes (length text)) [
      | inl long ↦ inr (TooLarge, inl (refl, long))
      | inr short ↦ ⊎_elim (λ good. inl (good.0, record { short = short; listed = good.1 })) (λ bad. inr (bad.0, inr (short, bad.1))) (listed_or_fault (records_of text))
    ]
