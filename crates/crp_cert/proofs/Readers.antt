-- Readers of a line: what is read is what the line says, and the line is read again.
use Rattle.std.proofs.Common.{◌≡◌, ℕ, ◌≤◌, Bool, true, cond, List, [], ◌∷◌, ◌++◌, length, Option, Some, None, refl, sym, ap, ◌∙◌, nat_le, ◌&&◌, subst}
use Rattle.std.specs.Prelude.{IfSome, ⊤, codes}
use Rattle.std.specs.List.{list_all, AllByRecursion}
use Rattle.std.proofs.lemmas.Bool.{and_parts, and_from, leb-true, le-leb}
use Rattle.std.proofs.lemmas.Option.{none-some, some_pair_parts}
use Rattle.std.proofs.lemmas.List.Elements.{recursion_from_All, All-from_recursion}
use Rattle.std.specs.Option.{option_or}
use Rattle.crp_plan.specs.BayNames.{YardBay, IsYardBay}
use Rattle.crp_cert.specs.declared.claim.Claim.{Claim}
use Rattle.crp_cert.specs.declared.claim.Claim.TheVariants.{AtLeast, First}
use Rattle.crp_cert.specs.declared.version.Version.{Version}
use Rattle.crp_cert.specs.declared.version.Version.TheVariants.{One, Two, Three}
use Rattle.crp_cert.specs.Text.{spaced, title_line, bay_line, size_line, claim_line, plan_line, IsSize, AreRows, CanClaim}
use Rattle.crp_cert.specs.Faults.{BeginsWith, MayClaim}
use Rattle.crp_cert.specs.Reading.{◌>>=◌, tag_at, title_at, name_at, size_at, bound_at, first_at, claim_at, plan_at}
use Rattle.crp_cert.proofs.Numbers.{bind_some, if_some, tag_takes, tag_again}
use Rattle.crp_cert.proofs.Lines.{name_takes, name_again, size_takes, size_again, bound_takes, bound_again, bound_not, plan_takes, plan_again, plan_low}

-- a reader of the lines of what fits
pub record IsReader {A : Type 0} (fits : A → Type 0) (line : A → List ℕ) (at : List ℕ → Option (A × List ℕ)) : Type 0 where
  pub takes : (bytes : List ℕ) (x : A) (rest : List ℕ) → at bytes ≡ Some (x, rest) → fits x × (bytes ≡ line x ++ rest)
  pub again : (x : A) (rest : List ℕ) → fits x → at (line x ++ rest) ≡ Some (x, rest)

-- where nothing is read, no line stands that may
pub none_stands : {A : Type 0} {fits : A → Type 0} {line : A → List ℕ} {at : List ℕ → Option (A × List ℕ)} → IsReader fits line at → (bytes : List ℕ) → at bytes ≡ None → ¬ BeginsWith fits line bytes
none_stands {at = at} reads bytes e stands = none-some (stands.0, stands.2.0) (sym e ∙ ap at stands.2.1 ∙ reads.again stands.0 stands.2.0 stands.1)

-- and where no line stands that may, nothing is read
pub none_read : {A : Type 0} {fits : A → Type 0} {line : A → List ℕ} {at : List ℕ → Option (A × List ℕ)} → IsReader fits line at → (bytes : List ℕ) → ¬ BeginsWith fits line bytes → at bytes ≡ None
none_read {A} {fits} {line} {at} reads bytes nothing = by_cases (at bytes) refl
  where
    by_cases : (o : Option (A × List ℕ)) → at bytes ≡ o → at bytes ≡ None
    by_cases None e = e
    by_cases (Some x) e = let t = reads.takes bytes x.0 x.1 e in absurd (nothing (x.0, t.0, (x.1, t.1)))

-- bytes begin with one line of what fits at most
pub once : {A : Type 0} {fits : A → Type 0} {line : A → List ℕ} {at : List ℕ → Option (A × List ℕ)} → IsReader fits line at → (a b : A) (x y : List ℕ) → fits a → fits b → line a ++ x ≡ line b ++ y → (a ≡ b) × (x ≡ y)
once {at = at} reads a b x y is-a is-b e = some_pair_parts a b x y (sym (reads.again a x is-a) ∙ ap at e ∙ reads.again b y is-b)

-- a test of each element
pub all_to : {X : Type 0} (P : X → Type 0) (p : X → Bool) → ((x : X) → p x ≡ true → P x) → (xs : List X) → list_all p xs ≡ true → AllByRecursion P xs
all_to P p h [] e = tt
all_to P p h (x ∷ xs) e = let a = and_parts (p x) (list_all p xs) e in (h x a.0, all_to P p h xs a.1)

-- and back
pub all_from : {X : Type 0} (P : X → Type 0) (p : X → Bool) → ((x : X) → P x → p x ≡ true) → (xs : List X) → AllByRecursion P xs → list_all p xs ≡ true
all_from P p h [] all = refl
all_from P p h (x ∷ xs) all = and_from (p x) (list_all p xs) (h x all.0) (all_from P p h xs all.1)

-- ---- the name of a bay

-- a printed character
abbrev is_printed : ℕ → Bool
is_printed b = nat_le 33 b && nat_le b 126

-- a test of a name
abbrev is_yard_bay : YardBay → Bool
is_yard_bay name = nat_le 1 (length name.block) && (nat_le (length name.block) 17 && (list_all is_printed name.block && (nat_le 1 name.bay && nat_le name.bay 9999)))

-- a name that passes the test is one
named_to : (name : YardBay) → is_yard_bay name ≡ true → IsYardBay name
named_to name e =
    let a = and_parts (nat_le 1 (length name.block)) (nat_le (length name.block) 17 && (list_all is_printed name.block && (nat_le 1 name.bay && nat_le name.bay 9999))) e in
    let b = and_parts (nat_le (length name.block) 17) (list_all is_printed name.block && (nat_le 1 name.bay && nat_le name.bay 9999)) a.1 in
    let c = and_parts (list_all is_printed name.block) (nat_le 1 name.bay && nat_le name.bay 9999) b.1 in
    let d = and_parts (nat_le 1 name.bay) (nat_le name.bay 9999) c.1 in
    record {
      some_characters = leb-true 1 (length name.block) a.0;
      few_characters = leb-true (length name.block) 17 b.0;
      printed = All-from_recursion (λ b. (33 ≤ b) × (b ≤ 126)) name.block (all_to (λ b. (33 ≤ b) × (b ≤ 126)) is_printed (λ b e. let p = and_parts (nat_le 33 b) (nat_le b 126) e in (leb-true 33 b p.0, leb-true b 126 p.1)) name.block c.0);
      counts = leb-true 1 name.bay d.0;
      four_digits = leb-true name.bay 9999 d.1;
    }

-- and a name passes it
named_from : (name : YardBay) → IsYardBay name → is_yard_bay name ≡ true
named_from name is =
    and_from _ _ (le-leb 1 (length name.block) is.some_characters) (and_from _ _ (le-leb (length name.block) 17 is.few_characters)
    (and_from _ _ (all_from (λ b. (33 ≤ b) × (b ≤ 126)) is_printed (λ b h. and_from (nat_le 33 b) (nat_le b 126) (le-leb 33 b h.0) (le-leb b 126 h.1)) name.block (recursion_from_All (λ b. (33 ≤ b) × (b ≤ 126)) name.block is.printed))
    (and_from _ _ (le-leb 1 name.bay is.counts) (le-leb name.bay 9999 is.four_digits))))

-- the name of a block and a number
abbrev to_name : List ℕ × ℕ → YardBay
to_name x = record { block = x.0; bay = x.1 }

-- the name if it passes the test
abbrev kept_name : (List ℕ × ℕ) × List ℕ → Option (YardBay × List ℕ)
kept_name x = cond (is_yard_bay (to_name x.0)) (Some (to_name x.0, x.1)) None

-- the name of a bay from the front of the bytes
abbrev pub bay_at : List ℕ → Option (YardBay × List ℕ)
bay_at bytes = name_at bytes >>= kept_name

-- the line of a bay
pub bay_reader : IsReader IsYardBay bay_line bay_at
bay_reader = record { takes = takes; again = again }
  where
    takes : (bytes : List ℕ) (name : YardBay) (rest : List ℕ) → bay_at bytes ≡ Some (name, rest) → IsYardBay name × (bytes ≡ bay_line name ++ rest)
    takes bytes name rest e =
        let x = bind_some (name_at bytes) kept_name (name, rest) e in
        let k = if_some (is_yard_bay (to_name x.0.0)) (Some (to_name x.0.0, x.0.1)) (name, rest) x.2 in
        let p = some_pair_parts (to_name x.0.0) name x.0.1 rest k.1 in
        let t = (name_takes bytes x.0.0.0 x.0.0.1 x.0.1 x.1).0 in
        (subst IsYardBay p.0 (named_to (to_name x.0.0) k.0), t ∙ ap (λ (n : YardBay). bay_line n ++ x.0.1) p.0 ∙ ap (λ l. bay_line name ++ l) p.1)

    again : (name : YardBay) (rest : List ℕ) → IsYardBay name → bay_at (bay_line name ++ rest) ≡ Some (name, rest)
    again name rest is = ap (λ o. o >>= kept_name) (name_again name rest is) ∙ ap (λ (b : Bool). cond b (Some (name, rest)) None) (named_from name is)

-- ---- the title

-- each version has one
abbrev pub AnyVersion : Version → Type 0
AnyVersion version = ⊤

-- a version, and what follows its title
abbrev titled : Version → List ℕ → Option (Version × List ℕ)
titled version rest = Some (version, rest)

-- the title
pub title_reader : IsReader AnyVersion title_line title_at
title_reader = record { takes = λ bytes version rest e. (tt, by_first bytes version rest (tag_at (title_line One) bytes) refl e); again = again }
  where
    -- a title that was read
    read : (bytes : List ℕ) (of version : Version) (r rest : List ℕ) → tag_at (title_line of) bytes ≡ Some r → titled of r ≡ Some (version, rest) → bytes ≡ title_line version ++ rest
    read bytes of version r rest f e =
        let p = some_pair_parts of version r rest e in
        tag_takes (title_line of) bytes r f ∙ ap (λ (v : Version). title_line v ++ r) p.0 ∙ ap (λ l. title_line version ++ l) p.1

    by_third : (bytes : List ℕ) (version : Version) (rest : List ℕ) → (tag_at (title_line Three) bytes >>= titled Three) ≡ Some (version, rest) → bytes ≡ title_line version ++ rest
    by_third bytes version rest e = let x = bind_some (tag_at (title_line Three) bytes) (titled Three) (version, rest) e in read bytes Three version x.0 rest x.1 x.2

    by_second : (bytes : List ℕ) (version : Version) (rest : List ℕ) (o : Option (List ℕ)) → tag_at (title_line Two) bytes ≡ o →
        option_or (o >>= titled Two) (tag_at (title_line Three) bytes >>= titled Three) ≡ Some (version, rest) → bytes ≡ title_line version ++ rest
    by_second bytes version rest None f e = by_third bytes version rest e
    by_second bytes version rest (Some r) f e = read bytes Two version r rest f e

    by_first : (bytes : List ℕ) (version : Version) (rest : List ℕ) (o : Option (List ℕ)) → tag_at (title_line One) bytes ≡ o →
        option_or (o >>= titled One) (option_or (tag_at (title_line Two) bytes >>= titled Two) (tag_at (title_line Three) bytes >>= titled Three)) ≡ Some (version, rest) → bytes ≡ title_line version ++ rest
    by_first bytes version rest None f e = by_second bytes version rest (tag_at (title_line Two) bytes) refl e
    by_first bytes version rest (Some r) f e = read bytes One version r rest f e

    again : (version : Version) (rest : List ℕ) → AnyVersion version → title_at (title_line version ++ rest) ≡ Some (version, rest)
    again One rest any =
        ap (λ o. option_or (o >>= titled One) (option_or (tag_at (title_line Two) (title_line One ++ rest) >>= titled Two) (tag_at (title_line Three) (title_line One ++ rest) >>= titled Three))) (tag_again (title_line One) rest)
    again Two rest any = ap (λ o. option_or (o >>= titled Two) (tag_at (title_line Three) (title_line Two ++ rest) >>= titled Three)) (tag_again (title_line Two) rest)
    again Three rest any = ap (λ o. o >>= titled Three) (tag_again (title_line Three) rest)

-- ---- the other lines

-- the size line
pub size_reader : IsReader IsSize size_line size_at
size_reader = record { takes = size_takes; again = size_again }

-- what is made of a bound that is read
abbrev claimed : (ℕ → Claim) → Option (ℕ × List ℕ) → Option (Claim × List ℕ)
claimed of read = read >>= λ x. Some (of x.0, x.1)

-- the claim line
pub claim_reader : (version : Version) (most : ℕ) → most ≤ 9999 → IsReader (MayClaim version most) claim_line (claim_at version most)
claim_reader version most few = record { takes = λ bytes claim rest e. by_first version bytes claim rest (bound_at (codes "at least") most bytes) refl e; again = again version }
  where
    -- a claim of the first best plan, in a version that has one
    takes_bound : (version : Version) (bytes : List ℕ) (claim : Claim) (rest : List ℕ) → ((c : Claim) → CanClaim version c) → claimed First (bound_at (codes "first") most bytes) ≡ Some (claim, rest) →
        MayClaim version most claim × (bytes ≡ claim_line claim ++ rest)
    takes_bound version bytes claim rest any e =
        let x = bind_some (bound_at (codes "first") most bytes) (λ x. Some (First x.0, x.1)) (claim, rest) e in
        let p = some_pair_parts (First x.0.0) claim x.0.1 rest x.2 in
        let t = bound_takes (codes "first") most bytes x.0.0 x.0.1 x.1 in
        (subst (MayClaim version most) p.0 (record { can_claim = any (First x.0.0); within = t.0 }), t.1 ∙ ap (λ (c : Claim). claim_line c ++ x.0.1) p.0 ∙ ap (λ l. claim_line claim ++ l) p.1)

    takes_first : (version : Version) (bytes : List ℕ) (claim : Claim) (rest : List ℕ) → first_at version most bytes ≡ Some (claim, rest) → MayClaim version most claim × (bytes ≡ claim_line claim ++ rest)
    takes_first One bytes claim rest e = absurd (none-some (claim, rest) e)
    takes_first Two bytes claim rest e = takes_bound Two bytes claim rest (λ c. tt) e
    takes_first Three bytes claim rest e = takes_bound Three bytes claim rest (λ c. tt) e

    low : (version : Version) (least : ℕ) → CanClaim version (AtLeast least)
    low One least = tt
    low Two least = tt
    low Three least = tt

    by_first : (version : Version) (bytes : List ℕ) (claim : Claim) (rest : List ℕ) (o : Option (ℕ × List ℕ)) → bound_at (codes "at least") most bytes ≡ o → option_or (claimed AtLeast o) (first_at version most bytes) ≡ Some (claim, rest) →
        MayClaim version most claim × (bytes ≡ claim_line claim ++ rest)
    by_first version bytes claim rest None f e = takes_first version bytes claim rest e
    by_first version bytes claim rest (Some x) f e =
        let p = some_pair_parts (AtLeast x.0) claim x.1 rest e in
        let t = bound_takes (codes "at least") most bytes x.0 x.1 f in
        (subst (MayClaim version most) p.0 (record { can_claim = low version x.0; within = t.0 }), t.1 ∙ ap (λ (c : Claim). claim_line c ++ x.1) p.0 ∙ ap (λ l. claim_line claim ++ l) p.1)

    -- behind another word the first best plan is claimed
    first_again : (least : ℕ) (rest : List ℕ) → least ≤ most → (other : Option (Claim × List ℕ)) → other ≡ claimed First (bound_at (codes "first") most (claim_line (First least) ++ rest)) →
        option_or (claimed AtLeast (bound_at (codes "at least") most (claim_line (First least) ++ rest))) other ≡ Some (First least, rest)
    first_again least rest within other is =
        ap (λ o. option_or (claimed AtLeast o) other) (bound_not most 102 97 (codes "t least") (codes "irst" ++ (spaced (least ∷ []) ++ 10 ∷ []) ++ rest) refl)
        ∙ is ∙ ap (claimed First) (bound_again (codes "first") most least rest within few)

    again : (version : Version) (claim : Claim) (rest : List ℕ) → MayClaim version most claim → claim_at version most (claim_line claim ++ rest) ≡ Some (claim, rest)
    again version (AtLeast least) rest may = ap (λ o. option_or (claimed AtLeast o) (first_at version most (claim_line (AtLeast least) ++ rest))) (bound_again (codes "at least") most least rest may.within few)
    again One (First least) rest may = absurd may.can_claim
    again Two (First least) rest may = first_again least rest may.within (first_at Two most (claim_line (First least) ++ rest)) refl
    again Three (First least) rest may = first_again least rest may.within (first_at Three most (claim_line (First least) ++ rest)) refl

-- the plan line
pub plan_reader : IsReader (λ plan. IfSome plan AreRows) plan_line plan_at
plan_reader = record { takes = plan_takes; again = λ plan rest fits. plan_again plan rest (plan_low plan fits) }
