-- Loading slot groups and orders, as they are computed from places, are those of the relations of places, and the other way round.
use Prim.Native.Nat.{zero}
use Rattle.std.proofs.Common.{◌≡◌, ℕ, suc, Bool, true, false, cond, ◌&&◌, List, Option, Some, None, refl, sym, ap, subst, ◌∙◌, inl, inr, arith}
use Rattle.std.specs.Option.{option_map, option_map_or}
use Rattle.std.specs.Str.{bytes_eq}
use Rattle.std.proofs.lemmas.Bool.{cases_eq}
use Rattle.std.proofs.lemmas.Slice.Eq.{bytes_eq-Decides}
use Rattle.edi_text.specs.Parts.{SegmentParts}
use Rattle.crp_movins.specs.Loading.{Loading, reads}
use Rattle.crp_movins.specs.declared.kind.Kind.{Kind}
use Rattle.crp_movins.specs.declared.order.Order.{Order}
use Rattle.crp_movins.specs.Digits.{slot_of}
use Rattle.crp_movins.specs.Kinds.{is_message_header, is_handling, settles_code, is_slot_group, ends_group, is_equipment}
use Rattle.crp_movins.specs.Places.{kind_at, text_at, last_before, where_holds, is_read, is_loading, opens_loading_group, loading_group, ordered_group}
use Rattle.crp_movins.specs.LoadOrders.{order_at}
use Rattle.crp_movins.specs.ByPlaces.{IsLast, IsRead, IsLoadingGroup, StandsInGroup, IsOrdered}
use Rattle.crp_movins.proofs.Least.{last-last}

is_last : (test : Kind → Bool) (segments : List SegmentParts) (i j : ℕ) → last_before test segments i ≡ Some j → IsLast test segments i j
is_last test segments i j h =
    let found = last-last test segments i j h in
    record { below = found.0; such = found.1; none_between = found.2 }

last_is : (test : Kind → Bool) (segments : List SegmentParts) (i j : ℕ) → IsLast test segments i j → last_before test segments i ≡ Some j
last_is test segments zero j h = absurd (omega (arith, h.below))
last_is test segments (suc i) j h =
    elim (cases_eq j i) [
      | inl e ↦
          let here : test (kind_at segments i) ≡ true = subst (λ (x : ℕ). test (kind_at segments x) ≡ true) e h.such in
          rw here (ap Some (sym e))
      | inr ne ↦
          let apart : test (kind_at segments i) ≡ false = h.none_between i (omega (arith, h.below)) (omega arith) in
          rw apart (last_is test segments i j (record { below = omega (arith, h.below); such = h.such; none_between = λ k above below. h.none_between k above (omega arith) }))
    ]

taken_then : {X : Type 0} (b : Bool) (o : Option X) (x : X) → cond b o None ≡ Some x → (b ≡ true) × (o ≡ Some x)
taken_then true o x h = (refl, h)
taken_then false o x h = absurd (cc)

pub mapped : {X Y : Type 0} (f : X → Y) (o : Option X) (y : Y) → option_map f o ≡ Some y → (x : X) × (o ≡ Some x) × (f x ≡ y)
mapped f None y h = absurd (cc)
mapped f (Some x) y h = (x, refl, (cc))

held : (test : ℕ → Bool) (o : Option ℕ) → option_map_or test o false ≡ true → (x : ℕ) × (o ≡ Some x) × (test x ≡ true)
held test None h = absurd (cc)
held test (Some x) h = (x, refl, h)

kept : (test : ℕ → Bool) (o : Option ℕ) (j : ℕ) → where_holds test o ≡ Some j → (o ≡ Some j) × (test j ≡ true)
kept test None j h = absurd (cc)
kept test (Some i) j h =
    let parts = taken_then (test i) (Some i) j h in
    (parts.1, let same : i ≡ j = let e = parts.1 in cc in ap test (sym same) ∙ parts.0)

pub and-both : (a b : Bool) → (a && b) ≡ true → (a ≡ true) × (b ≡ true)
and-both true b h = (refl, h)
and-both false b h = absurd (cc)

read-means : (segments : List SegmentParts) (loading : Loading) (i : ℕ) → is_read segments loading i ≡ true → IsRead segments loading i
read-means segments loading i h =
    let found = held (λ (j : ℕ). reads loading.messages (text_at segments j 1 1)) (last_before is_message_header segments i) h in
    record { header = found.0; last_header = is_last is_message_header segments i found.0 found.1; chosen = found.2 }

read-given : (segments : List SegmentParts) (loading : Loading) (i : ℕ) → IsRead segments loading i → is_read segments loading i ≡ true
read-given segments loading i h =
    let last = last_is is_message_header segments i h.header h.last_header in
    rw (last, h.chosen) refl

pub group-means : (segments : List SegmentParts) (loading : Loading) (group : ℕ) → opens_loading_group segments loading group ≡ true → IsLoadingGroup segments loading group
group-means segments loading group h =
    let parts = and-both (is_slot_group (kind_at segments group)) (is_loading segments loading group) h in
    let settled = held (λ (j : ℕ). is_handling (kind_at segments j) && (bytes_eq (text_at segments j 1 1) loading.code && is_read segments loading j)) (last_before settles_code segments group) parts.1 in
    let setting = settled.0 in
    let handled = and-both (is_handling (kind_at segments setting)) (bytes_eq (text_at segments setting 1 1) loading.code && is_read segments loading setting) settled.2 in
    let coded = and-both (bytes_eq (text_at segments setting 1 1) loading.code) (is_read segments loading setting) handled.1 in
    record {
      slot_group = parts.0;
      setting = setting;
      last_setting = is_last settles_code segments group setting settled.1;
      handling = handled.0;
      coded = (bytes_eq-Decides (text_at segments setting 1 1) loading.code).0 coded.0;
      read = read-means segments loading setting coded.1;
    }

pub group-given : (segments : List SegmentParts) (loading : Loading) (group : ℕ) → IsLoadingGroup segments loading group → opens_loading_group segments loading group ≡ true
group-given segments loading group h =
    let setting = last_is settles_code segments group h.setting h.last_setting in
    let same = (bytes_eq-Decides (text_at segments h.setting 1 1) loading.code).1 h.coded in
    let read = read-given segments loading h.setting h.read in
    let under : is_loading segments loading group ≡ true = rw (setting, h.handling, same, read) refl in
    rw (h.slot_group, under) refl

-- the segment orders a container to the slot of the group
pub filling-means : (segments : List SegmentParts) (loading : Loading) (i group : ℕ) → ordered_group segments loading i ≡ Some group → StandsInGroup segments i group × (opens_loading_group segments loading group ≡ true)
filling-means segments loading i group h =
    let grouped = taken_then (is_equipment (kind_at segments i)) (loading_group segments loading i) group h in
    let opened = kept (opens_loading_group segments loading) (last_before ends_group segments i) group grouped.1 in
    (record { equipment = grouped.0; last_group = is_last ends_group segments i group opened.0 }, opened.1)

pub filling-given : (segments : List SegmentParts) (loading : Loading) (i group : ℕ) → StandsInGroup segments i group → opens_loading_group segments loading group ≡ true → ordered_group segments loading i ≡ Some group
filling-given segments loading i group h opens =
    let last = last_is ends_group segments i group h.last_group in
    let grouped : loading_group segments loading i ≡ Some group = rw (last, opens) refl in
    rw (h.equipment, grouped) refl

pub order-means : (segments : List SegmentParts) (loading : Loading) (i : ℕ) (order : Order) → order_at segments loading i ≡ Some order → IsOrdered segments loading i order
order-means segments loading i order h =
    let made = mapped (λ (j : ℕ). let given : Order = record { container = text_at segments i 2 1; slot = slot_of (text_at segments j 2 1) } in given) (ordered_group segments loading i) order h in
    let group = made.0 in
    let filled = filling-means segments loading i group made.1 in
    record {
      group = group;
      stands = filled.0;
      loading_group = group-means segments loading group filled.1;
      container = sym (ap (λ (x : Order). x.container) made.2);
      slot = sym (ap (λ (x : Order). x.slot) made.2);
    }

pub order-given : (segments : List SegmentParts) (loading : Loading) (i : ℕ) (order : Order) → IsOrdered segments loading i order → order_at segments loading i ≡ Some order
order-given segments loading i order h =
    let ordered = filling-given segments loading i h.group h.stands (group-given segments loading h.group h.loading_group) in
    rw (ordered, ← h.container, ← h.slot) refl
