-- Lists of containers, and what stays true of a listing when an entry more is taken.
use Prim.Native.Nat.{zero}
use Rattle.std.proofs.Common.{◌≡◌, ◌≤◌, ◌<◌, ◌+◌, ℕ, suc, Bool, true, false, not, cond, List, [], ◌∷◌, ◌++◌, map, length, length-append, Vec, Global, Option, Some, None, is_some, refl, sym, ap, subst, ◌∙◌, arith}
use Rattle.std.specs.Prelude.{if◌then◌else◌, ◌||◌, slice_get, nat_lt}
use Rattle.std.specs.List.{list_any, position, position_or_len}
use Rattle.std.specs.Option.{option_map}
use Rattle.std.specs.Map.{lookup}
use Rattle.std.specs.Str.{bytes_eq}
use Rattle.std.proofs.lemmas.List.{map-append, length-map}
use Rattle.std.proofs.lemmas.Bool.{false≢true, ltb-true}
use Rattle.std.proofs.lemmas.Slice.Eq.{bytes_eq-Decides}
use Rattle.crp_yard.specs.Places.{YardPlace}
use Rattle.crp_yard.specs.Records.{Entry}
use Rattle.crp_yard.specs.Inventory.{times, is_among}
use Rattle.crp_yard.specs.Faults.{is_named, max_containers}
use Rattle.crp_yard.specs.Listings.{IsListing, entries_listed, entry_names}

pub any-map : {X Y : Type 0} (p : Y → Bool) (f : X → Y) (xs : List X) → list_any p (map f xs) ≡ list_any (λ x. p (f x)) xs
any-map p f [] = refl
any-map p f (x ∷ xs) = ap (λ b. p (f x) || b) (any-map p f xs)

pub times-push : (c : List ℕ) (xs : List (List ℕ)) (x : List ℕ) → times c (xs ++ x ∷ []) ≡ times c xs + (if bytes_eq c x then 1 else 0)
times-push c [] x = omega arith
times-push c (y ∷ xs) x = omega (arith, times-push c xs x)

pub times-append : (c : List ℕ) (xs ys : List (List ℕ)) → times c (xs ++ ys) ≡ times c xs + times c ys
times-append c [] ys = omega arith
times-append c (x ∷ xs) ys = omega (arith, times-append c xs ys)

pub times_absent : (c : List ℕ) (xs : List (List ℕ)) → is_among xs c ≡ false → times c xs ≡ 0
times_absent c [] e = refl
times_absent c (x ∷ xs) e = by (bytes_eq c x) refl (times_absent c xs)
  where
    by : (b : Bool) → bytes_eq c x ≡ b → (is_among xs c ≡ false → times c xs ≡ 0) → times c (x ∷ xs) ≡ 0
    by true h rest = absurd (false≢true (sym e ∙ ap (λ b. b || is_among xs c) h))
    by false h rest = let none : times c xs ≡ 0 = rest (sym (ap (λ b. b || is_among xs c) h) ∙ e) in rw h (omega (arith, none))

pub named_is : (entries : List Entry) (c : List ℕ) → is_named entries c ≡ is_among (entry_names entries) c
named_is entries c = sym (any-map (λ other. bytes_eq c other) (λ entry. entry.1) entries)

pub named_by : (names : List (Vec ℕ Global)) (entries : List Entry) (c : List ℕ) → entry_names entries ≡ map (λ name. name.items) names
    → list_any (λ name. bytes_eq c name.items) names ≡ is_named entries c
named_by names entries c e =
    sym (any-map (λ other. bytes_eq c other) (λ name. name.items) names) ∙ ap (λ l. is_among l c) (sym e) ∙ sym (named_is entries c)

pub no_value : {X : Type 0} (o : Option X) → is_some o ≡ false → o ≡ None
no_value None e = refl
no_value (Some x) e = absurd (false≢true (sym e))

-- a name that is not there yet
pub once-push : (xs : List (List ℕ)) (x : List ℕ) → ((c : List ℕ) → times c xs ≤ 1) → is_among xs x ≡ false → (c : List ℕ) → times c (xs ++ x ∷ []) ≤ 1
once-push xs x once fresh c = rw times-push (by (bytes_eq c x) refl)
  where
    by : (b : Bool) → bytes_eq c x ≡ b → times c xs + (if bytes_eq c x then 1 else 0) ≤ 1
    by false h = rw h (omega (arith, once c))
    by true h =
        let same : c ≡ x = (bytes_eq-Decides c x).0 h in
        let none : times c xs ≡ 0 = times_absent c xs (rw same fresh) in
        rw h (omega (arith, none))

pub names_listed : (places : List YardPlace) (names : List (Vec ℕ Global)) → length places ≡ length names → entry_names (entries_listed places names) ≡ map (λ name. name.items) names
names_listed [] [] e = refl
names_listed [] (name ∷ names) e = absurd (omega arith)
names_listed (place ∷ places) [] e = absurd (omega arith)
names_listed (place ∷ places) (name ∷ names) e = ap (λ l. name.items ∷ l) (names_listed places names (omega arith))

pub length_listed : (places : List YardPlace) (names : List (Vec ℕ Global)) → length places ≡ length names → length (entries_listed places names) ≡ length names
length_listed places names e = sym (length-map (entries_listed places names) (λ (entry : Entry). entry.1)) ∙ ap length (names_listed places names e) ∙ length-map names (λ name. name.items)

pub pushed_listed : (places : List YardPlace) (names : List (Vec ℕ Global)) (place : YardPlace) (name : Vec ℕ Global) → length places ≡ length names
    → entries_listed (places ++ place ∷ []) (names ++ name ∷ []) ≡ entries_listed places names ++ (place, name.items) ∷ []
pushed_listed [] [] place name e = refl
pushed_listed [] (n ∷ names) place name e = absurd (omega arith)
pushed_listed (p ∷ places) [] place name e = absurd (omega arith)
pushed_listed (p ∷ places) (n ∷ names) place name e = ap (λ l. (p, n.items) ∷ l) (pushed_listed places names place name (omega arith))

-- a place is named where it is among the places
pub taken_listed : (test : YardPlace → Bool) (places : List YardPlace) (names : List (Vec ℕ Global)) → length places ≡ length names → is_some (lookup test (entries_listed places names)) ≡ list_any test places
taken_listed test [] [] e = refl
taken_listed test [] (name ∷ names) e = absurd (omega arith)
taken_listed test (place ∷ places) [] e = absurd (omega arith)
taken_listed test (place ∷ places) (name ∷ names) e = by (test place) (taken_listed test places names (omega arith))
  where
    by : (b : Bool) → is_some (lookup test (entries_listed places names)) ≡ list_any test places → is_some (cond b (Some name.items) (lookup test (entries_listed places names))) ≡ (b || list_any test places)
    by true h = refl
    by false h = h

-- and its container has its number
pub read_listed : (test : YardPlace → Bool) (places : List YardPlace) (names : List (Vec ℕ Global)) (i : ℕ) → length places ≡ length names → position_or_len test places ≡ i → i < length places
    → lookup test (entries_listed places names) ≡ option_map (λ (name : Vec ℕ Global). name.items) (slice_get names i)
read_listed test [] names i e at below = absurd (omega arith)
read_listed test (place ∷ places) [] i e at below = absurd (omega arith)
read_listed test (place ∷ places) (name ∷ names) i e at below = by (test place) at (λ k own. read_listed test places names k (omega arith) own)
  where
    by : (b : Bool) → cond (not b) (1 + position_or_len test places) 0 ≡ i
        → ((k : ℕ) → position_or_len test places ≡ k → k < length places → lookup test (entries_listed places names) ≡ option_map (λ (n : Vec ℕ Global). n.items) (slice_get names k))
        → cond b (Some name.items) (lookup test (entries_listed places names)) ≡ option_map (λ (n : Vec ℕ Global). n.items) (slice_get (name ∷ names) i)
    by true h rest = ap (λ k. option_map (λ (n : Vec ℕ Global). n.items) (slice_get (name ∷ names) k)) h
    by false h rest =
        let next : suc (position_or_len test places) ≡ i = omega arith in
        rest (position_or_len test places) refl (omega arith) ∙ ap (λ k. option_map (λ (n : Vec ℕ Global). n.items) (slice_get (name ∷ names) k)) next

-- the place at which a test first passes
pub position_is : {X : Type 0} (test : X → Bool) (xs : List X) (i : ℕ) → position test xs ≡ Some i → (position_or_len test xs ≡ i) × (i < length xs)
position_is test xs i e = by (nat_lt (position_or_len test xs) (length xs)) refl e
  where
    by : (b : Bool) → nat_lt (position_or_len test xs) (length xs) ≡ b → cond b (Some (position_or_len test xs)) None ≡ Some i → (position_or_len test xs ≡ i) × (i < length xs)
    by true h at =
        let same : position_or_len test xs ≡ i = cc at in
        (same, subst (λ (k : ℕ). k < length xs) same (ltb-true (position_or_len test xs) (length xs) h))
    by false h at = absurd (cc at)

pub place_listed : (places : List YardPlace) (names : List (Vec ℕ Global)) (i : ℕ) (place : YardPlace) → length places ≡ length names → slice_get places i ≡ Some place
    → (container : List ℕ) × (slice_get (entries_listed places names) i ≡ Some (place, container))
place_listed [] names i place e at = absurd (cc)
place_listed (p ∷ places) [] i place e at = absurd (omega arith)
place_listed (p ∷ places) (name ∷ names) zero place e at = let same : p ≡ place = cc in (name.items, ap (λ q. Some (q, name.items)) same)
place_listed (p ∷ places) (name ∷ names) (suc i) place e at = place_listed places names i place (omega arith) at

-- one entry more
pub listing-push : (places : List YardPlace) (names : List (Vec ℕ Global)) (place : YardPlace) (name : Vec ℕ Global)
    → IsListing places names → is_named (entries_listed places names) name.items ≡ false → length (entries_listed places names) < max_containers
    → IsListing (places ++ place ∷ []) (names ++ name ∷ [])
listing-push places names place name kept fresh room =
    let listed = names_listed places names kept.one_for_each in
    let absent : is_among (map (λ (k : Vec ℕ Global). k.items) names) name.items ≡ false = ap (λ l. is_among l name.items) (sym listed) ∙ sym (named_is (entries_listed places names) name.items) ∙ fresh in
    let long = length_listed places names kept.one_for_each in
    record {
      one_for_each = omega (arith, length-append places (place ∷ []), length-append names (name ∷ []), kept.one_for_each);
      once = λ c. rw (map-append (λ k. k.items) names (name ∷ [])) (once-push (map (λ (k : Vec ℕ Global). k.items) names) name.items kept.once absent c);
      few = omega (arith, length-append names (name ∷ []), long, room);
    }
