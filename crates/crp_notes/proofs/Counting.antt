-- Orders under other codes, and how many there are of each.
use Rattle.std.proofs.Common.{◌≡◌, ℕ, ◌+◌, ◌<◌, ◌≤◌, Bool, true, false, cond, List, [], ◌∷◌, ◌++◌, Option, Some, length, map, filter, take, get_or, refl, sym, ap, ◌∙◌, arith, add-one}
use Rattle.std.specs.Prelude.{not, unwrap_or, option_to_list}
use Rattle.std.proofs.lemmas.List.{take_more, map_push, length-map, length-take}
use Rattle.std.proofs.lemmas.List.Filters.{length-filter_both}
use Rattle.std.proofs.lemmas.List.Elements.{filter-append}
use Rattle.edi_text.specs.Parts.{SegmentParts}
use Rattle.crp_movins.specs.Loading.{Loading}
use Rattle.crp_notes.specs.declared.unread.Ordered.{Ordered}
use Rattle.crp_notes.specs.Repeated.{times}
use Rattle.crp_notes.specs.Unread.{is_same, order_at, orders_before, is_unread}
use Rattle.crp_notes.specs.Orders.{ordered}
use Rattle.crp_notes.proofs.Repeating.{codes_of_messages, times-push}

-- what stands where no order does
abbrev pub no_order : Ordered
no_order = record { message = 0; code = record { ref_ptr = (0, 0); now = [] } }

pub more : (orders : List Ordered) (i : ℕ) → i < length orders → map ordered (take (i + 1) orders) ≡ map ordered (take i orders) ++ ordered (get_or orders i no_order) ∷ []
more orders i below = ap (map ordered) (take_more orders i no_order below) ∙ map_push ordered (take i orders) (get_or orders i no_order)

-- at most all of them are one
pub times-few : (a : ℕ × List ℕ) (i : ℕ) (orders : List Ordered) → times is_same a (map ordered (take i orders)) ≤ i
times-few a i orders =
    let both = length-filter_both (is_same a) (λ (x : ℕ × List ℕ). not (is_same a x)) (λ x. refl) (map ordered (take i orders)) in
    let some : times is_same a (map ordered (take i orders)) ≤ length (map ordered (take i orders)) = omega (arith, both) in
    omega (arith, some, length-map (take i orders) ordered, length-take i orders)

-- how many there are of one, with one more of another or of the same
pub count-more : (a b : ℕ × List ℕ) (slots : List (ℕ × List ℕ)) (found : Option ℕ) (n : ℕ) (same : Bool) → is_same b a ≡ same → is_same a b ≡ same → unwrap_or found 0 ≡ times is_same a slots → n ≡ times is_same b slots → unwrap_or (cond same (Some (n + 1)) found) 0 ≡ times is_same a (slots ++ b ∷ [])
count-more a b slots found n true e f was is =
    ap (λ m. m + 1) (is ∙ ap (λ (x : ℕ × List ℕ). times is_same x slots) (codes_of_messages.exact b a e)) ∙ sym (times-push is_same a b slots ∙ ap (λ c. times is_same a slots + cond c 1 0) f)
count-more a b slots found n false e f was is =
    let no_more : times is_same a (slots ++ b ∷ []) ≡ times is_same a slots = times-push is_same a b slots ∙ ap (λ c. times is_same a slots + cond c 1 0) f ∙ (omega arith) in
    was ∙ sym no_more

-- the orders that are not read before the next segment
pub unread-more : (segments : List SegmentParts) (loading : Loading) (i : ℕ) (here : Option (ℕ × List ℕ)) (old new : List (ℕ × List ℕ)) → here ≡ order_at segments loading i → old ≡ filter (is_unread loading) (orders_before segments loading i) → new ≡ old ++ filter (is_unread loading) (option_to_list here) → new ≡ filter (is_unread loading) (orders_before segments loading (i + 1))
unread-more segments loading i here old new at so_far all =
    rw (add-one i, filter-append (is_unread loading) (orders_before segments loading i) (option_to_list (order_at segments loading i)), ← at, ← so_far) all
