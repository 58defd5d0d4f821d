-- Bays that are found by their names.
use Rattle.std.proofs.Common.{◌≡◌, ◌∙◌, ◌≤◌, ◌<◌, ◌+◌, ℕ, zero, suc, arith, Bool, true, false, not, cond, ◌||◌, List, [], ◌∷◌, ◌++◌, length, map, take, Option, Some, None, is_some, slice_get, refl, sym, ap, subst}
use Rattle.std.specs.Prelude.{IfSome, IfNone, if◌then◌else◌}
use Rattle.std.specs.List.{list_any, position, position_or_len, IsDistinct}
use Rattle.std.specs.Map.{lookup}
use Rattle.std.specs.Option.{option_map}
use Rattle.std.proofs.lemmas.List.{map-append, take-map}
use Rattle.std.proofs.lemmas.Option.{same_Some, none-some}
use Rattle.crp_plan.specs.BayNames.{YardBay, same_bay}
use Rattle.crp_sizes.specs.Sizes.{heights_at}
use Rattle.crp_sizes.proofs.Bays.{same_bay_laws, same_bay_is}
use Rattle.crp_sizes.proofs.Lists.{member, unmapped, looked}
use Rattle.crp_yard.specs.Inventory.{Inventory, StackedBay, heights_in_bay}
use Rattle.crp_yard.proofs.BuildingSteps.{take_next}
use Rattle.crp_yard.proofs.ListingSteps.{position_is, no_value}
use Rattle.crp_follow.specs.declared.followed.FollowedBay.{FollowedBay}
use Rattle.crp_follow.specs.declared.stated.StatedMove.{StatedMove}
use Rattle.crp_follow.specs.Stated.{BayStated, moves_of}
use Rattle.crp_follow.specs.Faults.{rows_in, is_named}
use Rattle.crp_follow.specs.Followed.{BayFollowed, AreFollowed}
use Rattle.crp_follow.specs.Behind.{first_moves, made_in}
use Rattle.crp_follow.specs.Views.{bay_followed}

-- ---- names one after the other

-- none of those before has the name of one of bays of distinct names
none_before : {X : Type 0} (f : X → YardBay) (xs : List X) (i : ℕ) (x : X) → IsDistinct same_bay (map f xs) → slice_get xs i ≡ Some x → list_any (same_bay (f x)) (map f (take i xs)) ≡ false
unfolding Rattle.std.specs.List.IsDistinct
none_before f [] i x once at = absurd (none-some x at)
none_before f (y ∷ xs) zero x once at = refl
none_before f (y ∷ xs) (suc i) x once at =
    let apart : same_bay (f y) (f x) ≡ false = member (λ z. same_bay (f y) (f z) ≡ false) xs i x (unmapped (λ k. same_bay (f y) k ≡ false) f xs once.0) at in
    ap (λ t. t || list_any (same_bay (f x)) (map f (take i xs))) (sym (same_bay_laws.symm (f y) (f x)) ∙ apart) ∙ none_before f xs i x once.1 at

pub new_name : {X : Type 0} (f : X → YardBay) (xs : List X) (i : ℕ) (x : X) (names : List YardBay) → IsDistinct same_bay (map f xs) → slice_get xs i ≡ Some x → names ≡ map f (take i xs)
    → list_any (same_bay (f x)) names ≡ false
new_name f xs i x names once at e = ap (list_any (same_bay (f x))) e ∙ none_before f xs i x once at

take_one_more : {X : Type 0} (xs : List X) (i : ℕ) (x : X) → slice_get xs i ≡ Some x → take (i + 1) xs ≡ take i xs ++ x ∷ []
take_one_more xs i x at = let next : i + 1 ≡ suc i = omega arith in ap (λ n. take n xs) next ∙ take_next xs i x at

pub one_name_more : {X : Type 0} (f : X → YardBay) (xs : List X) (i : ℕ) (x : X) (names new : List YardBay) → slice_get xs i ≡ Some x → names ≡ map f (take i xs) → new ≡ names ++ f x ∷ []
    → new ≡ map f (take (i + 1) xs)
one_name_more f xs i x names new at e longer =
    longer ∙ ap (λ l. l ++ f x ∷ []) e ∙ sym (map-append f (take i xs) (x ∷ [])) ∙ ap (map f) (sym (take_one_more xs i x at))

-- ---- where a name stands

-- a test passes first at this place: what stands there, and that a look-up finds it
pub record IsFirstAt {V : Type 0} (test : YardBay → Bool) (es : List (YardBay × V)) (i : ℕ) : Type 0 where
  pub entry : YardBay × V
  pub at : slice_get es i ≡ Some entry
  pub passes : test entry.0 ≡ true
  pub found : lookup test es ≡ Some entry.1

pub first_at : {V : Type 0} (test : YardBay → Bool) (es : List (YardBay × V)) (i : ℕ) → position_or_len test (map (λ e. e.0) es) ≡ i → i < length es → IsFirstAt test es i
first_at test [] i e lt = absurd (omega arith)
first_at {V} test (x ∷ es) i e lt = by (test x.0) refl e (λ n own within. first_at test es n own within)
  where
    by : (b : Bool) → test x.0 ≡ b → cond (not b) (1 + position_or_len test (map (λ (e : YardBay × V). e.0) es)) 0 ≡ i
        → ((n : ℕ) → position_or_len test (map (λ (e : YardBay × V). e.0) es) ≡ n → n < length es → IsFirstAt test es n) → IsFirstAt test (x ∷ es) i
    by true t h later = subst (IsFirstAt test (x ∷ es)) h (record { entry = x; at = refl; passes = t; found = ap (λ b. cond b (Some x.1) (lookup test es)) t })
    by false t h later =
        let n = position_or_len test (map (λ (e : YardBay × V). e.0) es) in
        let next : suc n ≡ i = omega arith in
        let rest = later n refl (omega arith) in
        subst (IsFirstAt test (x ∷ es)) next (record { entry = rest.entry; at = rest.at; passes = rest.passes; found = ap (λ b. cond b (Some x.1) (lookup test es)) t ∙ rest.found })

pub mapped_length : {X Y : Type 0} (f : X → Y) (xs : List X) → length (map f xs) ≡ length xs
mapped_length f [] = refl
mapped_length f (x ∷ xs) = ap suc (mapped_length f xs)

-- the bay whose name stands at a place of the names of a yard
pub found_there : (yard : Inventory) (bay : YardBay) (names : List YardBay) (o : Option ℕ) → names ≡ map (λ (b : StackedBay). b.0) yard.bays → o ≡ position (same_bay bay) names
    → IfSome o (λ i. (i < length yard.bays) × (heights_in_bay yard i ≡ Some (heights_at yard.sizes bay)) × (rows_in yard bay ≡ option_map (λ (b : StackedBay). b.1) (slice_get yard.bays i)))
found_there yard bay names None are is = tt
found_there yard bay names (Some i) are is =
    let at = position_is (same_bay bay) (map (λ (b : StackedBay). b.0) yard.bays) i (ap (position (same_bay bay)) (sym are) ∙ sym is) in
    let within : i < length yard.bays = subst (λ n. i < n) (mapped_length (λ (b : StackedBay). b.0) yard.bays) at.1 in
    let first = first_at (same_bay bay) yard.bays i at.0 within in (
      within,
      ap (λ o. option_map (heights_at yard.sizes) (option_map (λ (b : StackedBay). b.0) o)) first.at ∙ ap (λ n. Some (heights_at yard.sizes n)) (sym (same_bay_is bay first.entry.0 first.passes)),
      first.found ∙ sym (ap (option_map (λ (b : StackedBay). b.1)) first.at),
    )

pub found_nowhere : (yard : Inventory) (bay : YardBay) (names : List YardBay) (o : Option ℕ) → names ≡ map (λ (b : StackedBay). b.0) yard.bays → is_some o ≡ list_any (same_bay bay) names
    → IfNone o (rows_in yard bay ≡ None)
found_nowhere yard bay names (Some i) are is = tt
found_nowhere yard bay names None are is =
    no_value (lookup (same_bay bay) yard.bays) (looked (same_bay bay) yard.bays ∙ ap (list_any (same_bay bay)) (sym are) ∙ sym is)

-- ---- bays that are stated

-- one of the bays has the name where it is among their names
pub named_among : (bays : List BayStated) (bay : YardBay) (names : List YardBay) → names ≡ map (λ (b : BayStated). b.bay) bays → list_any (same_bay bay) names ≡ is_named bays bay
named_among bays bay names e = ap (list_any (same_bay bay)) e ∙ among bays
  where
    among : (bays : List BayStated) → list_any (same_bay bay) (map (λ (b : BayStated). b.bay) bays) ≡ is_named bays bay
    among [] = refl
    among (b ∷ bays) = ap (λ t. t || list_any (same_bay bay) (map (λ (b : BayStated). b.bay) bays)) (same_bay_laws.symm bay b.bay) ∙ ap (λ t. same_bay b.bay bay || t) (among bays)

-- ---- moves by the name of their bay

-- what is said by the first moves
pub said_of_first : (count : ℕ) (moves : List StatedMove) → moves_of (take count moves) ≡ take count (moves_of moves)
said_of_first count moves = sym (take-map (λ (m : StatedMove). m.said) count moves)

-- the name of a bay
abbrev pub bay_name : FollowedBay → YardBay
bay_name b = b.stated.bay

made : (t : Bool) (bays : List FollowedBay) (counts : List ℕ) (name : YardBay) (n : ℕ) (x : FollowedBay) → same_bay name (bay_name x) ≡ t
    → made_in (first_moves (n ∷ counts) (map bay_followed (x ∷ bays))) name ≡ (if t then take n (moves_of x.stated.moves.items) else made_in (first_moves counts (map bay_followed bays)) name)
made t bays counts name n x e =
    ap (λ s. if s then take n (moves_of x.stated.moves.items) else made_in (first_moves counts (map bay_followed bays)) name) (sym (same_bay_laws.symm name (bay_name x)) ∙ e)

-- those of the bay whose name stands there, as many as are counted
pub made_there : (bays : List FollowedBay) (counts : List ℕ) (name : YardBay) (i count : ℕ) (b : FollowedBay) → position_or_len (same_bay name) (map (λ (b : FollowedBay). b.stated.bay) bays) ≡ i
    → slice_get bays i ≡ Some b → slice_get counts i ≡ Some count → made_in (first_moves counts (map bay_followed bays)) name ≡ take count (moves_of b.stated.moves.items)
made_there [] counts name i count b e at counted = absurd (none-some b at)
made_there (x ∷ bays) [] name i count b e at counted = absurd (none-some count counted)
made_there (x ∷ bays) (n ∷ counts) name i count b e at counted = by (same_bay name (bay_name x)) refl e (λ k own. made_there bays counts name k count b own)
  where
    by : (t : Bool) → same_bay name (bay_name x) ≡ t → cond (not t) (1 + position_or_len (same_bay name) (map (λ (b : FollowedBay). b.stated.bay) bays)) 0 ≡ i
        → ((k : ℕ) → position_or_len (same_bay name) (map (λ (b : FollowedBay). b.stated.bay) bays) ≡ k → slice_get bays k ≡ Some b → slice_get counts k ≡ Some count
        → made_in (first_moves counts (map bay_followed bays)) name ≡ take count (moves_of b.stated.moves.items))
        → made_in (first_moves (n ∷ counts) (map bay_followed (x ∷ bays))) name ≡ take count (moves_of b.stated.moves.items)
    by true t h later =
        let bay : x ≡ b = same_Some x b (ap (slice_get (x ∷ bays)) h ∙ at) in
        let many : n ≡ count = same_Some n count (ap (slice_get (n ∷ counts)) h ∙ counted) in
        made true bays counts name n x t ∙ ap (λ k. take k (moves_of x.stated.moves.items)) many ∙ ap (λ (y : FollowedBay). take count (moves_of y.stated.moves.items)) bay
    by false t h later =
        let k = position_or_len (same_bay name) (map (λ (b : FollowedBay). b.stated.bay) bays) in
        let next : i ≡ suc k = omega arith in
        made false bays counts name n x t ∙ later k refl (sym (ap (slice_get (x ∷ bays)) next) ∙ at) (sym (ap (slice_get (n ∷ counts)) next) ∙ counted)

-- none where none are counted for it
pub made_uncounted : (bays : List FollowedBay) (counts : List ℕ) (name : YardBay) (i : ℕ) → position_or_len (same_bay name) (map (λ (b : FollowedBay). b.stated.bay) bays) ≡ i
    → length counts ≤ i → made_in (first_moves counts (map bay_followed bays)) name ≡ []
made_uncounted bays [] name i e all = refl
made_uncounted [] (n ∷ counts) name i e all = refl
made_uncounted (x ∷ bays) (n ∷ counts) name i e all = by (same_bay name (bay_name x)) refl e (λ k own. made_uncounted bays counts name k own)
  where
    by : (t : Bool) → same_bay name (bay_name x) ≡ t → cond (not t) (1 + position_or_len (same_bay name) (map (λ (b : FollowedBay). b.stated.bay) bays)) 0 ≡ i
        → ((k : ℕ) → position_or_len (same_bay name) (map (λ (b : FollowedBay). b.stated.bay) bays) ≡ k → length counts ≤ k → made_in (first_moves counts (map bay_followed bays)) name ≡ [])
        → made_in (first_moves (n ∷ counts) (map bay_followed (x ∷ bays))) name ≡ []
    by true t h later = absurd (omega arith)
    by false t h later =
        let k = position_or_len (same_bay name) (map (λ (b : FollowedBay). b.stated.bay) bays) in
        let next : i ≡ suc k = omega arith in
        made false bays counts name n x t ∙ later k refl (omega arith)

-- none where no bay has the name
pub made_nowhere : (bays : List FollowedBay) (counts : List ℕ) (name : YardBay) → list_any (same_bay name) (map (λ (b : FollowedBay). b.stated.bay) bays) ≡ false
    → made_in (first_moves counts (map bay_followed bays)) name ≡ []
made_nowhere bays [] name none = refl
made_nowhere [] (n ∷ counts) name none = refl
made_nowhere (x ∷ bays) (n ∷ counts) name none =
    let parts = neither (same_bay name (bay_name x)) (list_any (same_bay name) (map (λ (b : FollowedBay). b.stated.bay) bays)) none in
    made false bays counts name n x parts.0 ∙ made_nowhere bays counts name parts.1
  where
    neither : (a b : Bool) → (a || b) ≡ false → (a ≡ false) × (b ≡ false)
    neither true b e = cc
    neither false b e = (refl, e)

-- bays that are followed have distinct names
pub names_once : (yard : Inventory) (stated : List BayStated) (bays : List FollowedBay) → AreFollowed yard stated (map bay_followed bays) → IsDistinct same_bay (map bay_name bays)
names_once yard stated bays are = subst (IsDistinct same_bay) (ap (map (λ (b : BayStated). b.bay)) are.is ∙ own bays) are.once
  where
    own : (bays : List FollowedBay) → map (λ (b : BayStated). b.bay) (map (λ (b : BayFollowed). b.stated) (map bay_followed bays)) ≡ map bay_name bays
    own [] = refl
    own (b ∷ bays) = ap (λ l. b.stated.bay ∷ l) (own bays)
