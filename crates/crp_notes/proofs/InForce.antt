-- What a segment leaves in force, and the slot that an order names there.
use Rattle.std.proofs.Common.{◌≡◌, ℕ, ◌+◌, Bool, true, false, ◌&&◌, cond, List, ◌++◌, Option, Some, None, refl, sym, ap, ◌∙◌, add-one, Bor}
use Rattle.std.specs.Prelude.{option_to_list, is_some}
use Rattle.std.specs.Option.{option_map}
use Rattle.std.specs.Str.{bytes_eq}
use Rattle.std.proofs.lemmas.Cmp.{nat_list_eq_equiv}
use Rattle.edi_text.specs.Parts.{SegmentParts, component_of}
use Rattle.crp_movins.specs.Digits.{seven_digits}
use Rattle.crp_movins.specs.Loading.{Loading, reads}
use Rattle.crp_movins.specs.Kinds.{is_message_header}
use Rattle.crp_movins.specs.Places.{segment_numbered, kind_at, text_at, count_before, is_loading, loading_group, ordered_group}
use Rattle.crp_notes.specs.declared.standing.Standing.{Standing}
use Rattle.crp_notes.specs.Slots.{named_group, has_container, named_before, placed_at, placed_before}
use Rattle.crp_notes.specs.Unread.{code_before, under_code_before, order_at}
use Rattle.crp_notes.specs.Messages.{IsKind, IsStanding, texts}

abbrev pub pair : ℕ → List ℕ → ℕ × List ℕ
pair a b = (a, b)

same-both : {X Y Z : Type 0} (f : Y → Z) (g : X → Y) (o : Option X) → option_map (λ x. f (g x)) o ≡ option_map f (option_map g o)
same-both f g None = refl
same-both f g (Some x) = refl

module _ (segments : List SegmentParts) (loading : Loading) (i : ℕ) (s : Standing) (h : IsStanding segments loading i s) where
  pub after-header : IsKind (segment_numbered segments i) true false false false → (reference : List ℕ) → reference ≡ component_of (segment_numbered segments i) 1 1 → IsStanding segments loading (i + 1) (record { messages = s.messages + 1; is_read = reads loading.messages reference; is_loading = false; group = None; has_container = false; code = s.code; is_ordering = false; is_open = false })
  unfolding kind_at text_at
  after-header k reference text = record {
    messages = rw (add-one i, k.begins) (ap (λ n. n + 1) h.messages);
    read = rw (add-one i, k.begins) (ap (reads loading.messages) text);
    in_force = rw (add-one i, k.settles, k.handles) refl;
    group = rw (add-one i, k.ends, k.opens) refl;
    container = rw (add-one i, k.ends, k.contains) refl;
    code = rw (add-one i, k.handles) h.code;
    orders = rw (add-one i, k.settles, k.handles) refl;
    opened = rw (add-one i, k.ends, k.opens) refl;
  }

  pub after-handling : (b : Bool) (found : Bor (List ℕ)) → IsKind (segment_numbered segments i) false true false false → found.now ≡ component_of (segment_numbered segments i) 1 1 → b ≡ (bytes_eq found.now loading.code && s.is_read) → IsStanding segments loading (i + 1) (record s { is_loading = b; group = None; has_container = false; code = found; is_ordering = s.is_read; is_open = false })
  unfolding kind_at text_at
  after-handling b found k text same = record {
    messages = rw (add-one i, k.begins) h.messages;
    read = rw (add-one i, k.begins) h.read;
    in_force = rw (add-one i, k.settles, k.handles) (same ∙ rw (text, h.read) refl);
    group = rw (add-one i, k.ends, k.opens) refl;
    container = rw (add-one i, k.ends, k.contains) refl;
    code = rw (add-one i, k.handles) text;
    orders = rw (add-one i, k.settles, k.handles, nat_list_eq_equiv.refl (component_of (segment_numbered segments i) 1 1)) h.read;
    opened = rw (add-one i, k.ends, k.opens) refl;
  }

  pub after-slot : (slot : Bor (List ℕ)) → IsKind (segment_numbered segments i) false false true false → slot.now ≡ component_of (segment_numbered segments i) 2 1 → IsStanding segments loading (i + 1) (record s { group = cond s.is_loading (Some slot) None; has_container = false; is_open = s.is_ordering })
  unfolding kind_at text_at
  after-slot slot k text = record {
    messages = rw (add-one i, k.begins) h.messages;
    read = rw (add-one i, k.begins) h.read;
    in_force = rw (add-one i, k.settles) h.in_force;
    group = rw (add-one i, k.ends, k.opens, h.in_force) (by (is_loading segments loading i));
    container = rw (add-one i, k.ends, k.contains) refl;
    code = rw (add-one i, k.handles) h.code;
    orders = rw (add-one i, k.settles, k.handles) h.orders;
    opened = rw (add-one i, k.ends, k.opens, k.handles, h.orders) (there (is_loading segments (under_code_before segments loading i) i));
  }
    where
      there : (b : Bool) → b ≡ is_some (cond b (Some i) None)
      there true = refl
      there false = refl

      by : (b : Bool) → option_map (λ (t : Bor (List ℕ)). t.now) (cond b (Some slot) None) ≡ option_map (λ j. text_at segments j 2 1) (cond b (Some i) None)
      by true = ap Some text
      by false = refl

  pub after-container : IsKind (segment_numbered segments i) false false false true → IsStanding segments loading (i + 1) (record s { has_container = true })
  unfolding kind_at
  after-container k = record {
    messages = rw (add-one i, k.begins) h.messages;
    read = rw (add-one i, k.begins) h.read;
    in_force = rw (add-one i, k.settles) h.in_force;
    group = rw (add-one i, k.ends) h.group;
    container = rw (add-one i, k.ends, k.contains, k.contains) refl;
    code = rw (add-one i, k.handles) h.code;
    orders = rw (add-one i, k.settles, k.handles) h.orders;
    opened = rw (add-one i, k.ends, k.handles) h.opened;
  }

  pub after-other : IsKind (segment_numbered segments i) false false false false → IsStanding segments loading (i + 1) s
  unfolding kind_at
  after-other k = record {
    messages = rw (add-one i, k.begins) h.messages;
    read = rw (add-one i, k.begins) h.read;
    in_force = rw (add-one i, k.settles) h.in_force;
    group = rw (add-one i, k.ends) h.group;
    container = rw (add-one i, k.ends, k.contains) h.container;
    code = rw (add-one i, k.handles) h.code;
    orders = rw (add-one i, k.settles, k.handles) h.orders;
    opened = rw (add-one i, k.ends, k.handles) h.opened;
  }

  pub slot-named : (slot : Bor (List ℕ)) → IsKind (segment_numbered segments i) false false true false → slot.now ≡ component_of (segment_numbered segments i) 2 1 → option_map (λ (t : Bor (List ℕ)). t.now) (cond s.is_loading (Some slot) None) ≡ option_map (λ j. text_at segments j 2 1) (named_group segments loading i)
  unfolding kind_at text_at
  slot-named slot k text = rw (k.opens, k.contains, h.in_force) (by (is_loading segments loading i) (has_container segments i))
    where
      by : (b c : Bool) → option_map (λ (t : Bor (List ℕ)). t.now) (cond b (Some slot) None) ≡ option_map (λ j. text_at segments j 2 1) (cond b (Some i) (cond c None None))
      by true c = ap Some text
      by false true = refl
      by false false = refl

  pub container-named : IsKind (segment_numbered segments i) false false false true → option_map (λ (t : Bor (List ℕ)). t.now) (cond s.has_container s.group None) ≡ option_map (λ j. text_at segments j 2 1) (named_group segments loading i)
  unfolding kind_at
  container-named k = rw (k.opens, k.contains, h.container) (by (has_container segments i))
    where
      by : (c : Bool) → option_map (λ (t : Bor (List ℕ)). t.now) (cond c s.group None) ≡ option_map (λ j. text_at segments j 2 1) (cond c (loading_group segments loading i) None)
      by true = h.group
      by false = refl

  pub nothing-named : (b c : Bool) → IsKind (segment_numbered segments i) b c false false → named_group segments loading i ≡ None
  unfolding kind_at
  nothing-named b c k = rw (k.opens, k.contains) (by (has_container segments i))
    where
      by : (d : Bool) → ◌≡◌ {A = Option ℕ} (cond d None None) None
      by true = refl
      by false = refl

  -- the slot to which a container is ordered
  pub container-placed : IsKind (segment_numbered segments i) false false false true → (name : Bor (List ℕ)) → name.now ≡ component_of (segment_numbered segments i) 2 1 → option_map (λ (t : Bor (List ℕ)). texts t.now name.now) s.group ≡ option_map (λ j. texts (text_at segments j 2 1) (text_at segments i 2 1)) (ordered_group segments loading i)
  unfolding kind_at text_at
  container-placed k name text =
      let with = λ (t : List ℕ). texts t name.now in
      rw (k.contains, ← text) (same-both with (λ (t : Bor (List ℕ)). t.now) s.group ∙ ap (option_map with) h.group ∙ sym (same-both with (λ j. text_at segments j 2 1) (loading_group segments loading i)))

  pub nothing-placed : (b c d : Bool) → IsKind (segment_numbered segments i) b c d false → ordered_group segments loading i ≡ None
  unfolding kind_at
  nothing-placed b c d k = rw k.contains refl

  -- the order that a container gives
  pub container-ordered : IsKind (segment_numbered segments i) false false false true → option_map (λ (t : Bor (List ℕ)). pair s.messages t.now) (cond s.is_open (Some s.code) None) ≡ order_at segments loading i
  unfolding kind_at
  container-ordered k = rw k.contains (by s.is_open (loading_group segments (under_code_before segments loading i) i) h.opened)
    where
      by : (b : Bool) (o : Option ℕ) → b ≡ is_some o → option_map (λ (t : Bor (List ℕ)). pair s.messages t.now) (cond b (Some s.code) None) ≡ option_map (λ (j : ℕ). pair (count_before is_message_header segments i) (code_before segments i)) o
      by b None e = rw e refl
      by b (Some j) e = rw e (λ x. Some (pair (h.messages x) (h.code x)))

  pub nothing-ordered : (b c d : Bool) → IsKind (segment_numbered segments i) b c d false → None ≡ order_at segments loading i
  unfolding kind_at
  nothing-ordered b c d k = rw k.contains refl

-- the slots that are named before the next segment
pub named-more : (segments : List SegmentParts) (loading : Loading) (i : ℕ) (slot : Option (Bor (List ℕ))) (old new : List (List ℕ)) → option_map (λ (t : Bor (List ℕ)). t.now) slot ≡ option_map (λ j. text_at segments j 2 1) (named_group segments loading i) → old ≡ named_before segments loading i → new ≡ old ++ option_to_list (option_map (λ (t : Bor (List ℕ)). seven_digits t.now) slot) → new ≡ named_before segments loading (i + 1)
named-more segments loading i slot old new same so_far all =
    let here : option_map (λ (t : Bor (List ℕ)). seven_digits t.now) slot ≡ option_map (λ j. seven_digits (text_at segments j 2 1)) (named_group segments loading i) =
    same-both seven_digits (λ (t : Bor (List ℕ)). t.now) slot ∙ ap (option_map seven_digits) same ∙ sym (same-both seven_digits (λ j. text_at segments j 2 1) (named_group segments loading i)) in
    rw (add-one i, ← so_far) (all ∙ ap (λ o. old ++ option_to_list o) here)

-- the containers that are ordered before the next segment
pub placed-more : (segments : List SegmentParts) (loading : Loading) (i : ℕ) (order : Option (Bor (List ℕ) × Bor (List ℕ))) (old new : List (List ℕ × List ℕ)) → option_map (λ (p : Bor (List ℕ) × Bor (List ℕ)). texts p.0.now p.1.now) order ≡ option_map (λ j. texts (text_at segments j 2 1) (text_at segments i 2 1)) (ordered_group segments loading i) → old ≡ placed_before segments loading i → new ≡ old ++ option_to_list (option_map (λ (p : Bor (List ℕ) × Bor (List ℕ)). texts (seven_digits p.0.now) p.1.now) order) → new ≡ placed_before segments loading (i + 1)
placed-more segments loading i order old new same so_far all =
    let digits = λ (t : List ℕ × List ℕ). texts (seven_digits t.0) t.1 in
    let here : option_map (λ (p : Bor (List ℕ) × Bor (List ℕ)). texts (seven_digits p.0.now) p.1.now) order ≡ placed_at segments loading i =
    same-both digits (λ (p : Bor (List ℕ) × Bor (List ℕ)). texts p.0.now p.1.now) order ∙ ap (option_map digits) same ∙ sym (same-both digits (λ (j : ℕ). texts (text_at segments j 2 1) (text_at segments i 2 1)) (ordered_group segments loading i)) in
    rw (add-one i, ← so_far) (all ∙ ap (λ o. old ++ option_to_list o) here)
