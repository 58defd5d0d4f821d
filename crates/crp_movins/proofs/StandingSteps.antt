-- What a segment leaves in force, by its kind.
use Prim.Native.Nat.{zero}
use Rattle.std.proofs.Common.{◌≡◌, ◌≢◌, length, ℕ, suc, ◌+◌, ◌-◌, ◌≤◌, ◌<◌, ◌⊎◌, Bool, true, false, not, cond, eqb, ◌&&◌, List, [], ◌∷◌, Option, Some, None, refl, sym, ap, subst, ◌∙◌, inl, inr, arith, rules, tests, add-one}
use Rattle.std.proofs.lemmas.Bool.{not-false}
use Rattle.edi_text.specs.Parts.{SegmentParts}
use Rattle.crp_movins.specs.Loading.{Loading, reads}
use Rattle.crp_movins.specs.declared.fault.MovinsFault.{MovinsFault}
use Rattle.crp_movins.specs.declared.fault.MovinsFault.TheVariants.{SlotNumber, OrderedTwice, TooManyOrders}
use Rattle.crp_movins.specs.declared.kind.Kind.{Kind}
use Rattle.crp_movins.specs.declared.kind.Kind.TheVariants.{InterchangeHeader, MessageHeader, MessageTrailer, InterchangeTrailer, FunctionalGroup, Handling, SlotGroup, Equipment, Other}
use Rattle.crp_movins.specs.declared.slot.Slot.{Slot}
use Rattle.crp_movins.specs.declared.standing.Standing.{Standing}
use Rattle.crp_movins.specs.Digits.{is_slot, slot_of}
use Rattle.crp_movins.specs.Kinds.{kind_of, ends_group, is_message_header, is_slot_group}
use Rattle.std.specs.Prelude.{nat_le}
use Rattle.std.specs.Str.{bytes_eq}
use Rattle.crp_movins.specs.Places.{kind_at, text_at, last_before, count_before, where_holds, is_read, is_loading, opens_loading_group, loading_group, ordered_group}
use Rattle.crp_movins.specs.Accepted.{max_orders, is_ordered}
use Rattle.crp_movins.specs.LoadOrders.{orders_before, is_place_number, is_filled, is_vacant, count_below, vacant_before}
use Rattle.crp_movins.specs.Faults.{is_in_group, ordering_before, first_of, own_faults, faults_at, fault_at}
use Rattle.crp_movins.specs.Standings.{open_slot, is_group_filled, standing_before}
use Rattle.crp_movins.proofs.Counting.{count_below-bound, count_below-same, count_below-without}

pub standing-start : (segments : List SegmentParts) (loading : Loading) → record { is_closed = false; message = None; messages = 0; is_read = false; is_loading = false; group = None; is_filled = false; vacant = 0 } ≡ standing_before segments loading 1
unfolding kind_at kind_of vacant_before is_group_filled
standing-start segments loading = refl

-- these leave all as it is
abbrev pub is_passed : Kind → Bool
is_passed InterchangeHeader = true
is_passed FunctionalGroup = true
is_passed Other = true
is_passed _ = false

cond-some : (b : Bool) (i j : ℕ) (rest : Option ℕ) → cond b (Some i) rest ≡ Some j → (i ≡ j) ⊎ (rest ≡ Some j)
cond-some true i j rest h = inl (cc)
cond-some false i j rest h = inr h

pub last_before-below : (test : Kind → Bool) (segments : List SegmentParts) (i j : ℕ) → last_before test segments i ≡ Some j → j < i
last_before-below test segments zero j h = absurd (cc)
last_before-below test segments (suc i) j h =
    elim (cond-some (test (kind_at segments i)) i j (last_before test segments i) h) [
      | inl e ↦ omega arith
      | inr rest ↦ omega (arith, last_before-below test segments i j rest)
    ]

where_holds-some : (test : ℕ → Bool) (place : Option ℕ) (j : ℕ) → where_holds test place ≡ Some j → (place ≡ Some j) × (test j ≡ true)
where_holds-some test None j h = absurd (cc)
where_holds-some test (Some i) j h = kept (test i) refl h
  where
    kept : (b : Bool) → test i ≡ b → cond b (Some i) None ≡ Some j → (◌≡◌ {A = Option ℕ} (Some i) (Some j)) × (test j ≡ true)
    kept true e k = let same : i ≡ j = cc in (ap Some same, ap test (sym same) ∙ e)
    kept false e k = absurd (cc)

pub loading_group-below : (segments : List SegmentParts) (loading : Loading) (i j : ℕ) → loading_group segments loading i ≡ Some j → (j < i) × (opens_loading_group segments loading j ≡ true)
loading_group-below segments loading i j h =
    let found = where_holds-some (opens_loading_group segments loading) (last_before ends_group segments i) j h in
    (last_before-below ends_group segments i j found.0, found.1)

number-apart : (group : Option ℕ) (i j : ℕ) → ((g : ℕ) → group ≡ Some g → g < i) → i ≤ j → is_place_number group j ≡ false
number-apart None i j below h = refl
number-apart (Some g) i j below h = let lt : g < j = omega (arith, below g refl) in search (rules, tests)

ordered_group-below : (segments : List SegmentParts) (loading : Loading) (i g : ℕ) (b : Bool) → cond b (loading_group segments loading i) None ≡ Some g → g < i
ordered_group-below segments loading i g true h = (loading_group-below segments loading i g h).0
ordered_group-below segments loading i g false h = absurd (cc)

-- a group is filled by segments after it alone
pub is_filled-early : (segments : List SegmentParts) (loading : Loading) (i j : ℕ) → i ≤ j → is_filled segments loading i j ≡ false
is_filled-early segments loading zero j h = refl
is_filled-early segments loading (suc i) j h =
    let here : is_place_number (ordered_group segments loading i) j ≡ false = number-apart (ordered_group segments loading i) i j (λ g e. ordered_group-below segments loading i g (Rattle.crp_movins.specs.Kinds.is_equipment (kind_at segments i)) e) (omega arith) in
    let before : is_filled segments loading i j ≡ false = is_filled-early segments loading i j (omega arith) in
    rw (here, before) refl

-- a segment that orders nothing fills no group
pub filled-passed : (segments : List SegmentParts) (loading : Loading) (i : ℕ) (group : Option ℕ) → ordered_group segments loading i ≡ None → is_group_filled segments loading (suc i) group ≡ is_group_filled segments loading i group
unfolding is_group_filled
filled-passed segments loading i None none = refl
filled-passed segments loading i (Some j) none = rw none refl

is_vacant-passed : (segments : List SegmentParts) (loading : Loading) (i j : ℕ) → ordered_group segments loading i ≡ None → is_vacant segments loading (suc i) j ≡ is_vacant segments loading i j
is_vacant-passed segments loading i j none = rw none refl

count-passed : (segments : List SegmentParts) (loading : Loading) (i n : ℕ) → ordered_group segments loading i ≡ None → count_below (is_vacant segments loading (suc i)) n ≡ count_below (is_vacant segments loading i) n
count-passed segments loading i n none = count_below-same (is_vacant segments loading (suc i)) (is_vacant segments loading i) n (λ j below. is_vacant-passed segments loading i j none)

-- a segment that is no LOC 147 and orders nothing leaves the count of vacant groups
pub vacant-passed : (segments : List SegmentParts) (loading : Loading) (i : ℕ) → is_slot_group (kind_at segments i) ≡ false → ordered_group segments loading i ≡ None → vacant_before segments loading (suc i) ≡ vacant_before segments loading i
unfolding vacant_before
vacant-passed segments loading i apart none = rw apart (count-passed segments loading i i none)

-- a segment of another kind orders nothing
no-order : (segments : List SegmentParts) (loading : Loading) (i : ℕ) (kind : Kind) → kind_at segments i ≡ kind → Rattle.crp_movins.specs.Kinds.is_equipment kind ≡ false → ordered_group segments loading i ≡ None
no-order segments loading i kind h apart = rw (h, apart) refl

pub after-closing : (segments : List SegmentParts) (loading : Loading) (i : ℕ) → kind_at segments i ≡ InterchangeTrailer → record (standing_before segments loading i) { is_closed = true } ≡ standing_before segments loading (i + 1)
after-closing segments loading i h =
    let none = no-order segments loading i InterchangeTrailer h refl in
    let vacant = vacant-passed segments loading i (ap is_slot_group h) none in
    let filled = filled-passed segments loading i (loading_group segments loading i) none in
    rw (add-one i, vacant, h, filled) refl

pub after-header : (segments : List SegmentParts) (loading : Loading) (i : ℕ) → kind_at segments i ≡ MessageHeader → record (standing_before segments loading i) { message = Some i; messages = count_before is_message_header segments i + 1; is_read = reads loading.messages (text_at segments i 1 1); is_loading = false; group = None; is_filled = false } ≡ standing_before segments loading (i + 1)
unfolding is_group_filled
after-header segments loading i h =
    let none = no-order segments loading i MessageHeader h refl in
    let vacant = vacant-passed segments loading i (ap is_slot_group h) none in
    rw (add-one i, vacant, h, h) refl

pub after-trailer : (segments : List SegmentParts) (loading : Loading) (i : ℕ) → kind_at segments i ≡ MessageTrailer → record (standing_before segments loading i) { message = None } ≡ standing_before segments loading (i + 1)
after-trailer segments loading i h =
    let none = no-order segments loading i MessageTrailer h refl in
    let vacant = vacant-passed segments loading i (ap is_slot_group h) none in
    let filled = filled-passed segments loading i (loading_group segments loading i) none in
    rw (add-one i, vacant, h, h, filled) refl

pub after-handling : (segments : List SegmentParts) (loading : Loading) (i : ℕ) → kind_at segments i ≡ Handling → record (standing_before segments loading i) { is_loading = (bytes_eq (text_at segments i 1 1) loading.code && is_read segments loading i); group = None; is_filled = false } ≡ standing_before segments loading (i + 1)
unfolding is_group_filled
after-handling segments loading i h =
    let none = no-order segments loading i Handling h refl in
    let vacant = vacant-passed segments loading i (ap is_slot_group h) none in
    rw (add-one i, vacant, h, h) refl

after-nothing : (segments : List SegmentParts) (loading : Loading) (i : ℕ) → is_passed (kind_at segments i) ≡ true → (k : Kind) → kind_at segments i ≡ k → is_passed k ≡ true → standing_before segments loading i ≡ standing_before segments loading (i + 1)
after-nothing segments loading i p InterchangeHeader h q =
    let none = no-order segments loading i InterchangeHeader h refl in
    let vacant = vacant-passed segments loading i (ap is_slot_group h) none in
    let filled = filled-passed segments loading i (loading_group segments loading i) none in
    rw (add-one i, vacant, h, filled) refl
after-nothing segments loading i p FunctionalGroup h q =
    let none = no-order segments loading i FunctionalGroup h refl in
    let vacant = vacant-passed segments loading i (ap is_slot_group h) none in
    let filled = filled-passed segments loading i (loading_group segments loading i) none in
    rw (add-one i, vacant, h, filled) refl
after-nothing segments loading i p Other h q =
    let none = no-order segments loading i Other h refl in
    let vacant = vacant-passed segments loading i (ap is_slot_group h) none in
    let filled = filled-passed segments loading i (loading_group segments loading i) none in
    rw (add-one i, vacant, h, filled) refl
after-nothing segments loading i p _ h q = absurd (cc)

pub after-passed : (segments : List SegmentParts) (loading : Loading) (i : ℕ) (kind : Kind) → kind ≡ kind_at segments i → is_passed kind ≡ true → standing_before segments loading i ≡ standing_before segments loading (i + 1)
after-passed segments loading i kind h p = after-nothing segments loading i (ap is_passed (sym h) ∙ p) kind (sym h) p

pub after-other-slot : (segments : List SegmentParts) (loading : Loading) (i : ℕ) → kind_at segments i ≡ SlotGroup → is_loading segments loading i ≡ false → record (standing_before segments loading i) { group = None; is_filled = false } ≡ standing_before segments loading (i + 1)
unfolding vacant_before is_group_filled
after-other-slot segments loading i h code_apart =
    let none = no-order segments loading i SlotGroup h refl in
    let counted = count-passed segments loading i i none in
    rw (add-one i, h, h, code_apart, counted) refl

pub after-loading-slot : (segments : List SegmentParts) (loading : Loading) (i : ℕ) → kind_at segments i ≡ SlotGroup → is_loading segments loading i ≡ true → record (standing_before segments loading i) { group = Some (slot_of (text_at segments i 2 1)); is_filled = false; vacant = vacant_before segments loading i + 1 } ≡ standing_before segments loading (i + 1)
unfolding vacant_before is_group_filled
after-loading-slot segments loading i h same_code =
    let none = no-order segments loading i SlotGroup h refl in
    let counted = count-passed segments loading i i none in
    let empty : is_filled segments loading i i ≡ false = is_filled-early segments loading i i (omega arith) in
    rw (add-one i, h, h, same_code, h, empty, counted) refl

pub after-no-order : (segments : List SegmentParts) (loading : Loading) (i : ℕ) → kind_at segments i ≡ Equipment → loading_group segments loading i ≡ None → standing_before segments loading i ≡ standing_before segments loading (i + 1)
after-no-order segments loading i h group =
    let none : ordered_group segments loading i ≡ None = rw (h, group) refl in
    let vacant = vacant-passed segments loading i (ap is_slot_group h) none in
    let filled = filled-passed segments loading i (loading_group segments loading i) none in
    rw (add-one i, vacant, h, filled) refl

eqb-same : (g : ℕ) → eqb g g ≡ true
eqb-same g = search (rules, tests)

eqb-apart : (g j : ℕ) → j ≢ g → eqb g j ≡ false
eqb-apart g j apart = search (rules, tests)

is_vacant-other : (segments : List SegmentParts) (loading : Loading) (i g j : ℕ) → ordered_group segments loading i ≡ Some g → j ≢ g → is_vacant segments loading (suc i) j ≡ is_vacant segments loading i j
is_vacant-other segments loading i g j ordered apart = let e = eqb-apart g j apart in rw (ordered, e) refl

is_vacant-ordered : (segments : List SegmentParts) (loading : Loading) (i g : ℕ) → ordered_group segments loading i ≡ Some g → opens_loading_group segments loading g ≡ true → is_vacant segments loading (suc i) g ≡ false
is_vacant-ordered segments loading i g ordered opens = let e = eqb-same g in rw (opens, ordered, e) refl

-- no further group is filled by a second container
vacant-again : (segments : List SegmentParts) (loading : Loading) (i g : ℕ) → is_slot_group (kind_at segments i) ≡ false → ordered_group segments loading i ≡ Some g → opens_loading_group segments loading g ≡ true → is_filled segments loading i g ≡ true → vacant_before segments loading (suc i) ≡ vacant_before segments loading i
unfolding vacant_before
vacant-again segments loading i g apart ordered opens filled =
    rw apart (count_below-same (is_vacant segments loading (suc i)) (is_vacant segments loading i) i (λ j below.
    elim (Rattle.std.proofs.lemmas.Bool.cases_eq j g) [
      | inl e ↦ subst (λ x. is_vacant segments loading (suc i) x ≡ is_vacant segments loading i x) (sym e) (is_vacant-ordered segments loading i g ordered opens ∙ sym (rw (opens, filled) refl))
      | inr ne ↦ is_vacant-other segments loading i g j ordered ne
    ]))

-- the first container fills a group
vacant-first : (segments : List SegmentParts) (loading : Loading) (i g : ℕ) → is_slot_group (kind_at segments i) ≡ false → ordered_group segments loading i ≡ Some g → g < i → opens_loading_group segments loading g ≡ true → is_filled segments loading i g ≡ false → vacant_before segments loading i ≡ vacant_before segments loading (suc i) + 1
unfolding vacant_before
vacant-first segments loading i g apart ordered below opens unfilled =
    let was : is_vacant segments loading i g ≡ true = rw (opens, unfilled) refl in
    rw apart (count_below-without (is_vacant segments loading i) (is_vacant segments loading (suc i)) g i below was (is_vacant-ordered segments loading i g ordered opens) (λ j ne. is_vacant-other segments loading i g j ordered ne))

filled-ordered : (segments : List SegmentParts) (loading : Loading) (i g : ℕ) → ordered_group segments loading i ≡ Some g → is_group_filled segments loading (suc i) (Some g) ≡ true
unfolding is_group_filled
filled-ordered segments loading i g ordered = let e = eqb-same g in rw (ordered, e) refl

group_filled : (segments : List SegmentParts) (loading : Loading) (i g : ℕ) → is_group_filled segments loading i (Some g) ≡ is_filled segments loading i g
unfolding is_group_filled
group_filled segments loading i g = refl

after-order : (segments : List SegmentParts) (loading : Loading) (i g v : ℕ) → kind_at segments i ≡ Equipment → loading_group segments loading i ≡ Some g → vacant_before segments loading (suc i) ≡ v → record (standing_before segments loading i) { is_filled = true; vacant = v } ≡ standing_before segments loading (i + 1)
after-order segments loading i g v h group vacant =
    let ordered : ordered_group segments loading i ≡ Some g = rw (h, group) refl in
    let filled = filled-ordered segments loading i g ordered in
    rw (add-one i, vacant, h, group, filled) refl

group_cases : (group : Option ℕ) → (group ≡ None) ⊎ ((g : ℕ) × (group ≡ Some g))
group_cases None = inl refl
group_cases (Some g) = inr (g, refl)

-- a container outside of a loading group is not ordered
pub order-none : (segments : List SegmentParts) (loading : Loading) (i : ℕ) (s : Standing) → s ≡ standing_before segments loading i → kind_at segments i ≡ Equipment → s.group ≡ None → s ≡ standing_before segments loading (i + 1)
order-none segments loading i s here h none =
    elim (group_cases (loading_group segments loading i)) [
      | inl e ↦ here ∙ after-no-order segments loading i h e
      | inr p ↦
          let known : s.group ≡ Some (slot_of (text_at segments p.0 2 1)) = ap (λ (x : Standing). x.group) here ∙ rw p.1 refl in
          absurd (cc)
    ]

-- the open group, where its slot is known
open_group : (segments : List SegmentParts) (loading : Loading) (i : ℕ) (s : Standing) (slot : Slot) → s ≡ standing_before segments loading i → s.group ≡ Some slot → (g : ℕ) × (loading_group segments loading i ≡ Some g)
open_group segments loading i s slot here known =
    elim (group_cases (loading_group segments loading i)) [
      | inl e ↦
          let none : s.group ≡ None = ap (λ (x : Standing). x.group) here ∙ rw e refl in
          absurd (cc)
      | inr p ↦ p
    ]

filled-known : (segments : List SegmentParts) (loading : Loading) (i g : ℕ) (s : Standing) → s ≡ standing_before segments loading i → loading_group segments loading i ≡ Some g → s.is_filled ≡ is_filled segments loading i g
filled-known segments loading i g s here group = ap (λ (x : Standing). x.is_filled) here ∙ ap (is_group_filled segments loading i) group ∙ group_filled segments loading i g

-- a further container of the group
pub order-again : (segments : List SegmentParts) (loading : Loading) (i : ℕ) (s : Standing) (slot : Slot) → s ≡ standing_before segments loading i → kind_at segments i ≡ Equipment → s.group ≡ Some slot → s.is_filled ≡ true → s ≡ standing_before segments loading (i + 1)
order-again segments loading i s slot here h known filled =
    let found = open_group segments loading i s slot here known in
    let g = found.0 in
    let group : loading_group segments loading i ≡ Some g = found.1 in
    let opened = loading_group-below segments loading i g group in
    let ordered : ordered_group segments loading i ≡ Some g = rw (h, group) refl in
    let was : is_filled segments loading i g ≡ true = sym (filled-known segments loading i g s here group) ∙ filled in
    let vacant = vacant-again segments loading i g (ap is_slot_group h) ordered opened.1 was in
    let same : s ≡ record s { is_filled = true } = ap (λ (b : Bool). record s { is_filled = b }) filled in
    let there : record s { is_filled = true } ≡ record (standing_before segments loading i) { is_filled = true; vacant = vacant_before segments loading i } = ap (λ (x : Standing). record x { is_filled = true }) here in
    same ∙ there ∙ after-order segments loading i g (vacant_before segments loading i) h group vacant

-- the first container of the group
pub order-first : (segments : List SegmentParts) (loading : Loading) (i : ℕ) (s : Standing) (slot : Slot) → s ≡ standing_before segments loading i → kind_at segments i ≡ Equipment → s.group ≡ Some slot → s.is_filled ≡ false → (1 ≤ s.vacant) × (record s { is_filled = true; vacant = s.vacant - 1 } ≡ standing_before segments loading (i + 1))
order-first segments loading i s slot here h known unfilled =
    let found = open_group segments loading i s slot here known in
    let g = found.0 in
    let group : loading_group segments loading i ≡ Some g = found.1 in
    let opened = loading_group-below segments loading i g group in
    let ordered : ordered_group segments loading i ≡ Some g = rw (h, group) refl in
    let was : is_filled segments loading i g ≡ false = sym (filled-known segments loading i g s here group) ∙ unfilled in
    let vacant : vacant_before segments loading i ≡ vacant_before segments loading (suc i) + 1 = vacant-first segments loading i g (ap is_slot_group h) ordered opened.0 opened.1 was in
    let now : s.vacant ≡ vacant_before segments loading i = ap (λ (x : Standing). x.vacant) here in
    let left : vacant_before segments loading (suc i) ≡ s.vacant - 1 = omega arith in
    let there : record s { is_filled = true; vacant = s.vacant - 1 } ≡ record (standing_before segments loading i) { is_filled = true; vacant = s.vacant - 1 } = ap (λ (x : Standing). record x { is_filled = true; vacant = s.vacant - 1 }) here in
    (omega arith, there ∙ after-order segments loading i g (s.vacant - 1) h group left)

pub messages-bound : (segments : List SegmentParts) (i : ℕ) → count_before is_message_header segments i ≤ i
messages-bound segments zero = omega arith
messages-bound segments (suc i) = omega (arith, one_more (is_message_header (kind_at segments i)) (count_before is_message_header segments i) i (messages-bound segments i))
  where
    one_more : (b : Bool) (n m : ℕ) → n ≤ m → cond b (n + 1) n ≤ m + 1
    one_more true n m h = omega arith
    one_more false n m h = omega arith

pub vacant-bound : (segments : List SegmentParts) (loading : Loading) (i : ℕ) → vacant_before segments loading i ≤ i
unfolding vacant_before
vacant-bound segments loading i = count_below-bound (is_vacant segments loading i) i

-- all but the first
abbrev pub further : List (Bool × MovinsFault) → List (Bool × MovinsFault)
further [] = []
further (fault ∷ faults) = faults

none-next : (b : Bool) (fault : MovinsFault) (rest : Option MovinsFault) → cond b (Some fault) rest ≡ None → (b ≡ false) × (rest ≡ None)
none-next true fault rest h = absurd (cc)
none-next false fault rest h = (refl, h)

first_of-further : (faults : List (Bool × MovinsFault)) → first_of faults ≡ None → first_of (further faults) ≡ None
first_of-further [] h = refl
first_of-further (fault ∷ faults) h = (none-next fault.0 fault.1 (first_of faults) h).1

-- a loading group that is not faulty has a slot
pub slot-faultless : (segments : List SegmentParts) (loading : Loading) (i : ℕ) → fault_at segments loading i ≡ None → kind_at segments i ≡ SlotGroup → is_loading segments loading i ≡ true → is_slot (text_at segments i 2 1) ≡ true
unfolding fault_at
slot-faultless segments loading i faultless h same_code =
    let all = faults_at segments loading i in
    let own : first_of (own_faults (kind_at segments i) segments loading i) ≡ None = first_of-further (further (further (further all))) (first_of-further (further (further all)) (first_of-further (further all) (first_of-further all faultless))) in
    let slot : first_of (own_faults SlotGroup segments loading i) ≡ None = rw h at own in
    let test : (is_loading segments loading i && not (is_slot (text_at segments i 2 1))) ≡ false = (none-next (is_loading segments loading i && not (is_slot (text_at segments i 2 1))) (SlotNumber i) None slot).0 in
    not-false (is_slot (text_at segments i 2 1)) (rw same_code at test)

-- an order that is not faulty is for a new container, and there is room for it
pub order-faultless : (segments : List SegmentParts) (loading : Loading) (i : ℕ) (slot : Slot) → fault_at segments loading i ≡ None → kind_at segments i ≡ Equipment → open_slot segments loading i ≡ Some slot → (is_ordered (orders_before segments loading i) (text_at segments i 2 1) ≡ false) × (length (orders_before segments loading i) < max_orders)
unfolding fault_at
order-faultless segments loading i slot faultless h known =
    let all = faults_at segments loading i in
    let own : first_of (own_faults (kind_at segments i) segments loading i) ≡ None = first_of-further (further (further (further all))) (first_of-further (further (further all)) (first_of-further (further all) (first_of-further all faultless))) in
    let two : first_of (own_faults Equipment segments loading i) ≡ None = rw h at own in
    let grouped : is_in_group segments loading i ≡ true = elim (group_cases (loading_group segments loading i)) [
      | inl e ↦ let none : open_slot segments loading i ≡ None = rw e refl in absurd (cc)
      | inr p ↦ rw p.1 refl
    ] in
    let twice = is_ordered (orders_before segments loading i) (text_at segments i 2 1) in
    let full = nat_le max_orders (length (orders_before segments loading i)) in
    let first = none-next (is_in_group segments loading i && twice) (OrderedTwice i (ordering_before segments loading (text_at segments i 2 1) i)) (first_of ((is_in_group segments loading i && full, TooManyOrders i) ∷ [])) two in
    let second = none-next (is_in_group segments loading i && full) (TooManyOrders i) None first.1 in
    let fresh : twice ≡ false = rw grouped at first.0 in
    let room : full ≡ false = rw grouped at second.0 in
    (fresh, search (rules, tests))
