-- Sizes and faults of records: each record gives one size at most or has one fault, and never both.
use Rattle.std.proofs.Common.{◌≡◌, ◌∙◌, ◌⊎◌, inl, inr, ⊎_elim, ℕ, zero, suc, ◌+◌, Bool, true, false, cond, List, [], ◌∷◌, ◌++◌, map, length, take, drop, Option, Some, None, refl, sym, ap, ap₂, subst, arith}
use Rattle.std.specs.Prelude.{IsSome, slice_get}
use Rattle.std.specs.List.{IsDistinct, AllByRecursion}
use Rattle.std.proofs.lemmas.Bool.{false≢true}
use Rattle.std.proofs.lemmas.Map.Keys.{IsDistinct-head, IsDistinct-tail, IsDistinct-cons}
use Rattle.crp_plan.specs.BayNames.{YardBay, same_bay}
use Rattle.crp_sizes.proofs.Lists.{looked_up}
use Rattle.crp_sizes.proofs.Bays.{same_bay_laws, same_bay_is, same_bay_self}
use Rattle.crp_sizes.specs.declared.fault.SizesFault.{SizesFault}
use Rattle.crp_sizes.specs.declared.fault.SizesFault.TheVariants.{Header, Fields, Digits, Heights, Twice}
use Rattle.crp_sizes.specs.Sizes.{BaySize, heights_of}
use Rattle.crp_sizes.specs.Records.{header, GivesSize, GiveSizes, AreSizes, AreListed, IsSizesList}
use Rattle.crp_sizes.specs.Fields.{records_of, field_of}
use Rattle.crp_sizes.specs.Faults.{IsFault, HasFault, LacksHeader, IsFaultIn, IsFirstFault}
use Rattle.crp_sizes.proofs.HeightSteps.{one_heights}

-- ---- sizes

pub same_size : (fields : List (List ℕ)) (size other : BaySize) → GivesSize fields size → GivesSize fields other → size ≡ other
same_size fields size other is also =
    ap₂ (λ bay heights. (bay, heights)) (is.bay ∙ sym also.bay) (one_heights (field_of fields 2) size.1 other.1 is.heights also.heights)

pub same_sizes : (records : List (List (List ℕ))) (sizes others : List BaySize) → GiveSizes records sizes → GiveSizes records others → sizes ≡ others
same_sizes [] [] [] is also = refl
same_sizes [] [] (other ∷ others) is also = absurd also
same_sizes [] (size ∷ sizes) others is also = absurd is
same_sizes (fields ∷ records) [] others is also = absurd is
same_sizes (fields ∷ records) (size ∷ sizes) [] is also = absurd also
same_sizes (fields ∷ records) (size ∷ sizes) (other ∷ others) is also =
    ap₂ (λ x xs. x ∷ xs) (same_size fields size other is.0 also.0) (same_sizes records sizes others is.1 also.1)

pub as_many : (records : List (List (List ℕ))) (sizes : List BaySize) → GiveSizes records sizes → length records ≡ length sizes
as_many [] [] is = refl
as_many [] (size ∷ sizes) is = absurd is
as_many (fields ∷ records) [] is = absurd is
as_many (fields ∷ records) (size ∷ sizes) is = ap suc (as_many records sizes is.1)

pub one_size_more : (records : List (List (List ℕ))) (sizes : List BaySize) (fields : List (List ℕ)) (size : BaySize) → GiveSizes records sizes → GivesSize fields size
    → GiveSizes (records ++ fields ∷ []) (sizes ++ size ∷ [])
one_size_more [] [] fields size is one = (one, tt)
one_size_more [] (s ∷ sizes) fields size is one = absurd is
one_size_more (f ∷ records) [] fields size is one = absurd is
one_size_more (f ∷ records) (s ∷ sizes) fields size is one = (is.0, one_size_more records sizes fields size is.1 one)

-- the size of a record stands behind those of the records before it
pub next_size : (before : List (List (List ℕ))) (front : List BaySize) (fields : List (List ℕ)) (after : List (List (List ℕ))) (sizes : List BaySize)
    → GiveSizes before front → GiveSizes (before ++ fields ∷ after) sizes
    → (size : BaySize) × (rest : List BaySize) × GivesSize fields size × (sizes ≡ front ++ size ∷ rest)
next_size [] [] fields after [] is all = absurd all
next_size [] [] fields after (size ∷ sizes) is all = (size, sizes, all.0, refl)
next_size [] (s ∷ front) fields after sizes is all = absurd is
next_size (f ∷ before) [] fields after sizes is all = absurd is
next_size (f ∷ before) (s ∷ front) fields after [] is all = absurd all
next_size (f ∷ before) (s ∷ front) fields after (size ∷ sizes) is all =
    let found = next_size before front fields after sizes is.1 all.1 in
    (found.0, found.1, found.2, ap₂ (λ x xs. x ∷ xs) (same_size f size s all.0 is.0) found.3)

abbrev pub names : List BaySize → List YardBay
names sizes = map (λ (size : BaySize). size.0) sizes

pub turned : (a b : YardBay) → same_bay a b ≡ false → same_bay b a ≡ false
turned a b e = sym (same_bay_laws.symm a b) ∙ e

-- and the sizes before it have not its bay
pub apart : (front : List BaySize) (size : BaySize) (rest : List BaySize) → IsDistinct same_bay (names (front ++ size ∷ rest)) → heights_of front size.0 ≡ None
apart [] size rest once = refl
apart (s ∷ front) size rest once =
    let head : same_bay s.0 size.0 ≡ false = at front size rest (IsDistinct-head same_bay s.0 (names (front ++ size ∷ rest)) once) in
    ap (λ b. cond b (Some s.1) (heights_of front size.0)) (turned s.0 size.0 head) ∙ apart front size rest (IsDistinct-tail same_bay s.0 (names (front ++ size ∷ rest)) once)
  where
    at : (front : List BaySize) (size : BaySize) (rest : List BaySize) → AllByRecursion (λ y. same_bay s.0 y ≡ false) (names (front ++ size ∷ rest)) → same_bay s.0 size.0 ≡ false
    at [] size rest all = all.0
    at (x ∷ front) size rest all = at front size rest all.1

apart_from : (sizes : List BaySize) (bay : YardBay) (size : BaySize) → heights_of (size ∷ sizes) bay ≡ None → (same_bay bay size.0 ≡ false) × (heights_of sizes bay ≡ None)
apart_from sizes bay size e = by (same_bay bay size.0) e
  where
    by : (b : Bool) → cond b (Some size.1) (heights_of sizes bay) ≡ None → (b ≡ false) × (heights_of sizes bay ≡ None)
    by true e = absurd (cc)
    by false e = (refl, e)

-- a bay more that is not there yet
pub once_more : (sizes : List BaySize) (size : BaySize) → IsDistinct same_bay (names sizes) → heights_of sizes size.0 ≡ None → IsDistinct same_bay (names (sizes ++ size ∷ []))
once_more [] size once fresh = IsDistinct-cons same_bay size.0 [] tt once
once_more (s ∷ sizes) size once fresh =
    let parts = apart_from sizes size.0 s fresh in
    IsDistinct-cons same_bay s.0 (names (sizes ++ size ∷ [])) (each sizes (IsDistinct-head same_bay s.0 (names sizes) once) (turned size.0 s.0 parts.0))
    (once_more sizes size (IsDistinct-tail same_bay s.0 (names sizes) once) parts.1)
  where
    each : (sizes : List BaySize) → AllByRecursion (λ y. same_bay s.0 y ≡ false) (names sizes) → same_bay s.0 size.0 ≡ false → AllByRecursion (λ y. same_bay s.0 y ≡ false) (names (sizes ++ size ∷ []))
    each [] all h = (h, tt)
    each (x ∷ sizes) all h = (all.0, each sizes all.1 h)

-- the sizes up to that with a number
split_at : (sizes : List BaySize) (i : ℕ) (size : BaySize) → slice_get sizes i ≡ Some size → (rest : List BaySize) × (sizes ≡ take i sizes ++ size ∷ rest)
split_at [] i size e = absurd (cc)
split_at (s ∷ sizes) zero size e = let same : s ≡ size = cc in (sizes, ap (λ x. x ∷ sizes) same)
split_at (s ∷ sizes) (suc i) size e = let more = split_at sizes i size e in (more.0, ap (λ l. s ∷ l) more.1)

pub fresh_at : (sizes : List BaySize) (i : ℕ) (size : BaySize) → IsDistinct same_bay (names sizes) → slice_get sizes i ≡ Some size → heights_of (take i sizes) size.0 ≡ None
fresh_at sizes i size once e =
    let parts = split_at sizes i size e in
    apart (take i sizes) size parts.0 (subst (λ (l : List BaySize). IsDistinct same_bay (names l)) parts.1 once)

taken : (sizes : List BaySize) (i : ℕ) (size : BaySize) → slice_get sizes i ≡ Some size → take (suc i) sizes ≡ take i sizes ++ size ∷ []
taken [] i size e = absurd (cc)
taken (s ∷ []) zero size e = let same : s ≡ size = cc in ap (λ x. x ∷ []) same
taken (s ∷ t ∷ sizes) zero size e = let same : s ≡ size = cc in ap (λ x. x ∷ []) same
taken (s ∷ sizes) (suc i) size e = ap (λ l. s ∷ l) (taken sizes i size e)

pub next_taken : (sizes : List BaySize) (i : ℕ) (size : BaySize) → slice_get sizes i ≡ Some size → take (i + 1) sizes ≡ take i sizes ++ size ∷ []
next_taken sizes i size e = let n : i + 1 ≡ suc i = omega arith in ap (λ k. take k sizes) n ∙ taken sizes i size e

-- ---- faults

none_is_some : {P : Type 0} (heights : Option (List ℕ)) → heights ≡ None → IsSome heights → P
none_is_some None e h = absurd (false≢true h)
none_is_some (Some x) e h = absurd (cc)

-- a record that gives a size of a bay that is not listed has no fault
pub not_faulty : (sizes : List BaySize) (fields : List (List ℕ)) (n : ℕ) (fault : SizesFault) (size : BaySize) → GivesSize fields size → heights_of sizes size.0 ≡ None → IsFault sizes fields n fault → ⊥
not_faulty sizes fields n (Fields k) size is fresh h = h.1 is.formed
not_faulty sizes fields n (Digits k) size is fresh h = h.2 is.numbered
not_faulty sizes fields n (Heights k) size is fresh h = h.3 size.1 is.heights
not_faulty sizes fields n (Twice k) size is fresh h =
    none_is_some (heights_of sizes h.1.0) (ap (λ (s : BaySize). heights_of sizes s.0) (same_size fields h.1 size h.2 is) ∙ fresh) h.3
not_faulty sizes fields n fault size is fresh h = absurd h

-- a record has one fault at most
pub one_fault : (sizes : List BaySize) (fields : List (List ℕ)) (n : ℕ) (fault other : SizesFault) → IsFault sizes fields n fault → IsFault sizes fields n other → fault ≡ other
one_fault sizes fields n (Fields k) (Fields j) h g = ap Fields (h.0 ∙ sym g.0)
one_fault sizes fields n (Fields k) (Digits j) h g = absurd (h.1 g.1)
one_fault sizes fields n (Fields k) (Heights j) h g = absurd (h.1 g.1)
one_fault sizes fields n (Fields k) (Twice j) h g = absurd (h.1 g.2.formed)
one_fault sizes fields n (Fields k) other h g = absurd g
one_fault sizes fields n (Digits k) (Fields j) h g = absurd (g.1 h.1)
one_fault sizes fields n (Digits k) (Digits j) h g = ap Digits (h.0 ∙ sym g.0)
one_fault sizes fields n (Digits k) (Heights j) h g = absurd (h.2 g.2)
one_fault sizes fields n (Digits k) (Twice j) h g = absurd (h.2 g.2.numbered)
one_fault sizes fields n (Digits k) other h g = absurd g
one_fault sizes fields n (Heights k) (Fields j) h g = absurd (g.1 h.1)
one_fault sizes fields n (Heights k) (Digits j) h g = absurd (g.2 h.2)
one_fault sizes fields n (Heights k) (Heights j) h g = ap Heights (h.0 ∙ sym g.0)
one_fault sizes fields n (Heights k) (Twice j) h g = absurd (h.3 g.1.1 g.2.heights)
one_fault sizes fields n (Heights k) other h g = absurd g
one_fault sizes fields n (Twice k) (Fields j) h g = absurd (g.1 h.2.formed)
one_fault sizes fields n (Twice k) (Digits j) h g = absurd (g.2 h.2.numbered)
one_fault sizes fields n (Twice k) (Heights j) h g = absurd (g.3 h.1.1 h.2.heights)
one_fault sizes fields n (Twice k) (Twice j) h g = ap Twice (h.0 ∙ sym g.0)
one_fault sizes fields n (Twice k) other h g = absurd g
one_fault sizes fields n fault other h g = absurd h

-- ---- records

-- a faulty record behind those of these sizes is none of the records of sizes
pub none_within : (before : List (List (List ℕ))) (front : List BaySize) (fields : List (List ℕ)) (after : List (List (List ℕ))) (n : ℕ) (fault : SizesFault) (sizes : List BaySize)
    → AreSizes before front → IsFault front fields n fault → AreSizes (before ++ fields ∷ after) sizes → ⊥
none_within before front fields after n fault sizes is faulty all =
    let next = next_size before front fields after sizes is.given all.given in
    let fresh : heights_of front next.0.0 ≡ None = apart front next.0 next.1 (subst (λ (xs : List BaySize). IsDistinct same_bay (names xs)) next.3 all.once) in
    not_faulty front fields n fault next.0 next.2 fresh faulty

-- of two places in a list one is the other, or one comes first
pub two_places : {X : Type 0} (xs : List X) (x : X) (xs2 ys : List X) (y : X) (ys2 : List X) → xs ++ x ∷ xs2 ≡ ys ++ y ∷ ys2
    → ((xs ≡ ys) × (x ≡ y)) ⊎ (((more : List X) × (ys ≡ xs ++ x ∷ more)) ⊎ ((more : List X) × (xs ≡ ys ++ y ∷ more)))
two_places [] x xs2 [] y ys2 e = inl (refl, (cc))
two_places [] x xs2 (b ∷ ys) y ys2 e = let same : x ≡ b = cc in inr (inl (ys, ap (λ z. z ∷ ys) (sym same)))
two_places (a ∷ xs) x xs2 [] y ys2 e = let same : a ≡ y = cc in inr (inr (xs, ap (λ z. z ∷ xs) same))
two_places {X} (a ∷ xs) x xs2 (b ∷ ys) y ys2 e =
    let same : a ≡ b = cc in
    let rest : xs ++ x ∷ xs2 ≡ ys ++ y ∷ ys2 = ap (λ (l : List X). drop 1 l) e in
    ⊎_elim (λ h. inl (ap₂ (λ z zs. z ∷ zs) same h.0, h.1))
    (λ h. ⊎_elim (λ g. inr (inl (g.0, ap₂ (λ z zs. z ∷ zs) (sym same) g.1))) (λ g. inr (inr (g.0, ap₂ (λ z zs. z ∷ zs) same g.1))) h)
    (two_places xs x xs2 ys y ys2 rest)

tail_of : {X : Type 0} (a b : X) (xs ys : List X) → a ∷ xs ≡ b ∷ ys → xs ≡ ys
tail_of {X} a b xs ys e = ap (λ (l : List X). drop 1 l) e

-- the fault of the record behind those of the sizes
pub faulty_next : (records before : List (List (List ℕ))) (sizes : List BaySize) (fields : List (List ℕ)) (fault : SizesFault)
    → (after : List (List (List ℕ))) × (records ≡ header ∷ before ++ fields ∷ after) → AreSizes before sizes → IsFault sizes fields (length sizes + 2) fault → IsFaultIn records fault
faulty_next records before sizes fields fault next sized faulty = inr (record {
  before = before;
  sizes = sizes;
  fields = fields;
  after = next.0;
  parts = next.1;
  sized = sized;
  faulty = subst (λ (n : ℕ). IsFault sizes fields (n + 2) fault) (sym (as_many before sizes sized.given)) faulty;
})

-- ---- texts

-- records of sizes have no fault
pub none_in : (records : List (List (List ℕ))) (sizes : List BaySize) (fault : SizesFault) → AreListed records sizes → IsFaultIn records fault → ⊥
none_in records sizes fault is h =
    ⊎_elim (λ (g : (fault ≡ Header 1) × LacksHeader records). g.1 is.rest is.begun)
    (λ (g : HasFault records fault).
    let parts : is.rest ≡ g.before ++ g.fields ∷ g.after = tail_of header header is.rest (g.before ++ g.fields ∷ g.after) (sym is.begun ∙ g.parts) in
    none_within g.before g.sizes g.fields g.after (length g.before + 2) fault sizes g.sized g.faulty (subst (λ (rest : List (List (List ℕ))). AreSizes rest sizes) parts is.sized)) h

-- two faults of records are one
pub one_of : (records : List (List (List ℕ))) (fault other : SizesFault) → HasFault records fault → HasFault records other → fault ≡ other
one_of records fault other h g =
    elim (two_places h.before h.fields h.after g.before g.fields g.after (tail_of header header (h.before ++ h.fields ∷ h.after) (g.before ++ g.fields ∷ g.after) (sym h.parts ∙ g.parts))) [
      | inl same ↦
          let sizes : h.sizes ≡ g.sizes = same_sizes g.before h.sizes g.sizes (subst (λ (before : List (List (List ℕ))). GiveSizes before h.sizes) same.0 h.sized.given) g.sized.given in
          one_fault g.sizes g.fields (length g.before + 2) fault other (rw (same.0, same.1, sizes) at h.faulty) g.faulty
      | inr (inl later) ↦ absurd (none_within h.before h.sizes h.fields later.0 (length h.before + 2) fault g.sizes h.sized h.faulty (subst (λ (before : List (List (List ℕ))). AreSizes before g.sizes) later.1 g.sized))
      | inr (inr later) ↦ absurd (none_within g.before g.sizes g.fields later.0 (length g.before + 2) other h.sizes g.sized g.faulty (subst (λ (before : List (List (List ℕ))). AreSizes before h.sizes) later.1 h.sized))
    ]

pub one_in : (records : List (List (List ℕ))) (fault other : SizesFault) → IsFaultIn records fault → IsFaultIn records other → fault ≡ other
one_in records fault other (inl h) (inl g) = h.0 ∙ sym g.0
one_in records fault other (inl h) (inr g) = absurd (h.1 (g.before ++ g.fields ∷ g.after) g.parts)
one_in records fault other (inr h) (inl g) = absurd (g.1 (h.before ++ h.fields ∷ h.after) h.parts)
one_in records fault other (inr h) (inr g) = one_of records fault other h g

pub one_first : (text : List ℕ) (fault other : SizesFault) → IsFirstFault text fault → IsFirstFault text other → fault ≡ other
one_first text fault other (inl h) (inl g) = h.0 ∙ sym g.0
one_first text fault other (inl h) (inr g) = let long = h.1 in let short = g.0 in absurd (omega arith)
one_first text fault other (inr h) (inl g) = let long = g.1 in let short = h.0 in absurd (omega arith)
one_first text fault other (inr h) (inr g) = one_in (records_of text) fault other h.1 g.1

pub never_both : (text : List ℕ) (sizes : List BaySize) (fault : SizesFault) → IsSizesList text sizes → IsFirstFault text fault → ⊥
never_both text sizes fault is (inl h) = let long = h.1 in let short = is.short in absurd (omega arith)
never_both text sizes fault is (inr h) = none_in (records_of text) sizes fault is.listed h.1

pub one_sizes : (text : List ℕ) (sizes others : List BaySize) → IsSizesList text sizes → IsSizesList text others → sizes ≡ others
one_sizes text sizes others is also =
    let rest : is.listed.rest ≡ also.listed.rest = tail_of header header is.listed.rest also.listed.rest (sym is.listed.begun ∙ also.listed.begun) in
    same_sizes also.listed.rest sizes others (subst (λ (rest : List (List (List ℕ))). GiveSizes rest sizes) rest is.listed.sized.given) also.listed.sized.given

-- ---- the heights of a bay

pub stands_there : (sizes : List BaySize) (bay : YardBay) (heights : List ℕ) → heights_of sizes bay ≡ Some heights → (i : ℕ) × (slice_get sizes i ≡ Some (bay, heights))
stands_there [] bay heights e = absurd (cc)
stands_there (size ∷ sizes) bay heights e = by (same_bay bay size.0) refl (stands_there sizes bay heights)
  where
    by : (t : Bool) → same_bay bay size.0 ≡ t → (heights_of sizes bay ≡ Some heights → (i : ℕ) × (slice_get sizes i ≡ Some (bay, heights)))
        → (i : ℕ) × (slice_get (size ∷ sizes) i ≡ Some (bay, heights))
    by true t rest =
        let first : Some size.1 ≡ Some heights = sym (ap (λ b. cond b (Some size.1) (heights_of sizes bay)) t) ∙ e in
        let same : size.1 ≡ heights = cc first in
        (0, ap₂ (λ b hs. Some (b, hs)) (sym (same_bay_is bay size.0 t)) same)
    by false t rest =
        let later = rest (sym (ap (λ b. cond b (Some size.1) (heights_of sizes bay)) t) ∙ e) in
        (suc later.0, later.1)

pub found_there : (sizes : List BaySize) (bay : YardBay) (heights : List ℕ) → IsDistinct same_bay (names sizes) → (i : ℕ) × (slice_get sizes i ≡ Some (bay, heights)) → heights_of sizes bay ≡ Some heights
found_there sizes bay heights once there = looked_up same_bay same_bay_laws sizes there.0 (bay, heights) same_bay_self once there.1
