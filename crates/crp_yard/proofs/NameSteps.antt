-- Sets of containers, and one more.
use Rattle.std.proofs.Common.{◌≡◌, ◌<◌, ◌+◌, ℕ, Bool, true, false, List, [], ◌∷◌, ◌++◌, take, length, flat_map, get_or, Vec, Global, Some, refl, sym, add-one}
use Rattle.std.specs.Prelude.{slice_get, if◌then◌else◌, ◌||◌}
use Rattle.std.specs.Str.{bytes_eq}
use Rattle.std.proofs.lemmas.List.Folds.{list_any-append, list_any_more}
use Rattle.std.proofs.lemmas.List.Concat.{flat_map-append}
use Rattle.std.proofs.lemmas.List.{append-nil}
use Rattle.std.proofs.lemmas.Slice.Eq.{bytes_eq-Decides}
use Rattle.indexmap.specs.IndexSet.{insert_key}
use Rattle.crp_yard.specs.Inventory.{StackedBay, is_among, containers_of}
use Rattle.crp_yard.specs.Listings.{has, Adds, HasNames}
use Rattle.crp_yard.proofs.BuildingSteps.{take_next}

or_assoc : (a b c : Bool) → ((a || b) || c) ≡ (a || (b || c))
or_assoc true b c = refl
or_assoc false b c = refl

or_false : (a : Bool) → (a || false) ≡ a
or_false true = refl
or_false false = refl

-- the set has the name that was put in, and what it had
pub has-insert : (names : List (Vec ℕ Global)) (name : Vec ℕ Global) (c : List ℕ)
    → has (insert_key (λ a b. bytes_eq a.items b.items) names name) c ≡ (has names c || bytes_eq c name.items)
has-insert names name c = by (has names name.items) refl
  where
    there : (b : Bool) → bytes_eq c name.items ≡ b → has names name.items ≡ true → has names c ≡ (has names c || b)
    there false e h = sym (or_false (has names c))
    there true e h =
        let same : c ≡ name.items = (bytes_eq-Decides c name.items).0 e in
        let held : has names c ≡ true = rw same h in
        rw held refl

    by : (b : Bool) → has names name.items ≡ b
        → has (if has names name.items then names else names ++ name ∷ []) c ≡ (has names c || bytes_eq c name.items)
    by true h = rw h (there (bytes_eq c name.items) refl h)
    by false h = rw (h, list_any-append (λ other. bytes_eq c other.items) names (name ∷ []), or_false (bytes_eq c name.items)) refl

pub adds-none : (names : List (Vec ℕ Global)) → Adds names names []
adds-none names c = sym (or_false (has names c))

pub adds-more : (old mid new : List (Vec ℕ Global)) (stack : List (List ℕ)) (i : ℕ) (name : Vec ℕ Global) (x : List ℕ) → Adds old mid (take i stack) → i < length stack
    → x ≡ get_or stack i x → name.items ≡ x → new ≡ insert_key (λ a b. bytes_eq a.items b.items) mid name → Adds old new (take (i + 1) stack)
adds-more old mid new stack i name x adds within at is e c =
    rw (e, has-insert mid name c, adds c, list_any_more (λ other. bytes_eq c other) stack i x within, is, ← at)
    (or_assoc (has old c) (is_among (take i stack) c) (bytes_eq c x))

pub names-more : (mid new : List (Vec ℕ Global)) (bays : List StackedBay) (i : ℕ) (bay : StackedBay) → HasNames (take i bays) mid → slice_get bays i ≡ Some bay
    → Adds mid new (flat_map (λ stack. stack) bay.1) → HasNames (take (i + 1) bays) new
names-more mid new bays i bay first at second c =
    let own = flat_map (λ (s : List (List ℕ)). s) bay.1 in
    let all : containers_of (take (i + 1) bays) ≡ containers_of (take i bays) ++ own =
    rw (add-one i, take_next bays i bay at, flat_map-append (λ (b : StackedBay). flat_map (λ (s : List (List ℕ)). s) b.1) (take i bays) (bay ∷ []), append-nil own) refl in
    rw (second c, first c, all, list_any-append (λ other. bytes_eq c other) (containers_of (take i bays)) own) refl
