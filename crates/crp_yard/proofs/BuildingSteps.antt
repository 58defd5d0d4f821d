-- The bays of the entries so far, and of one more.
use Rattle.std.proofs.Common.{◌≡◌, ◌+◌, ℕ, zero, suc, Bool, true, false, List, [], ◌∷◌, ◌++◌, map, take, length, fold, Some, None, is_some, refl, sym, ap, ◌∙◌, add-one, cond}
use Rattle.std.specs.Prelude.{slice_get, ◌||◌}
use Rattle.std.specs.List.{list_any}
use Rattle.std.specs.Map.{lookup}
use Rattle.std.proofs.lemmas.List.{map-append}
use Rattle.indexmap.specs.IndexMap.{IndexMap, get, insert_entry}
use Rattle.indexmap.proofs.CallerLemmas.{insert_entry-new}
use Rattle.crp_plan.specs.BayNames.{YardBay, same_bay}
use Rattle.crp_sizes.specs.Sizes.{YardSizes, heights_at}
use Rattle.crp_yard.specs.Records.{Entry}
use Rattle.crp_yard.specs.Inventory.{StackedBay, bays_of, with_bay, stacked, stacks_up_to}
use Rattle.crp_yard.proofs.ListingSteps.{no_value}

pub take_next : {X : Type 0} (xs : List X) (i : ℕ) (x : X) → slice_get xs i ≡ Some x → take (suc i) xs ≡ take i xs ++ x ∷ []
take_next [] i x e = absurd (cc)
take_next (y ∷ xs) zero x e = let same : y ≡ x = cc in rw same refl
take_next (y ∷ xs) (suc i) x e = ap (λ l. y ∷ l) (take_next xs i x e)

fold_push : {X Y : Type 0} (f : Y → X → Y) (y : Y) (xs : List X) (x : X) → fold f y (xs ++ x ∷ []) ≡ f (fold f y xs) x
fold_push f y [] x = refl
fold_push f y (z ∷ xs) x = fold_push f (f y z) xs x

bays-more : (entries : List Entry) (entry : Entry) → bays_of (entries ++ entry ∷ []) ≡ with_bay (bays_of entries) entry.0.bay
bays-more entries entry = rw (map-append (λ e. e.0.bay) entries (entry ∷ [])) (fold_push with_bay [] (map (λ e. e.0.bay) entries) entry.0.bay)

found : (sizes : YardSizes) (entries : List Entry) (seen : List YardBay) (bay : YardBay) → is_some (lookup (same_bay bay) (map (stacked sizes entries) seen)) ≡ list_any (same_bay bay) seen
found sizes entries [] bay = refl
found sizes entries (b ∷ seen) bay = by (same_bay bay b) (found sizes entries seen bay)
  where
    by : (t : Bool) → is_some (lookup (same_bay bay) (map (stacked sizes entries) seen)) ≡ list_any (same_bay bay) seen
        → is_some (cond t (Some (stacked sizes entries b).1) (lookup (same_bay bay) (map (stacked sizes entries) seen))) ≡ (t || list_any (same_bay bay) seen)
    by true h = refl
    by false h = h

module _ (sizes : YardSizes) (entries : List Entry) (i : ℕ) (entry : Entry) (at : slice_get entries i ≡ Some entry) where
  -- the bays of one entry more
  next : map (stacked sizes entries) (bays_of (take (i + 1) entries)) ≡ map (stacked sizes entries) (with_bay (bays_of (take i entries)) entry.0.bay)
  next = ap (map (stacked sizes entries)) (rw (add-one i, take_next entries i entry at) (bays-more (take i entries) entry))

  pub bays-kept : (bays : List StackedBay) → bays ≡ map (stacked sizes entries) (bays_of (take i entries)) → is_some (lookup (same_bay entry.0.bay) bays) ≡ true
      → bays ≡ map (stacked sizes entries) (bays_of (take (i + 1) entries))
  bays-kept bays e there =
      let seen : list_any (same_bay entry.0.bay) (bays_of (take i entries)) ≡ true = sym (found sizes entries (bays_of (take i entries)) entry.0.bay) ∙ (rw e at there) in
      rw (next, seen) e

  pub bays-added : {S : Type 0} (m : IndexMap YardBay (List (List (List ℕ))) S) (new : List StackedBay) → m.entries ≡ map (stacked sizes entries) (bays_of (take i entries))
      → is_some (lookup (same_bay entry.0.bay) m.entries) ≡ false → new ≡ insert_entry same_bay m.entries entry.0.bay (stacks_up_to entries entry.0.bay (heights_at sizes entry.0.bay) (length (heights_at sizes entry.0.bay)))
      → new ≡ map (stacked sizes entries) (bays_of (take (i + 1) entries))
  bays-added m new e absent added =
      let seen : list_any (same_bay entry.0.bay) (bays_of (take i entries)) ≡ false = sym (found sizes entries (bays_of (take i entries)) entry.0.bay) ∙ (rw e at absent) in
      let none : get same_bay m entry.0.bay ≡ None = no_value (lookup (same_bay entry.0.bay) m.entries) absent in
      added ∙ insert_entry-new same_bay m entry.0.bay (stacks_up_to entries entry.0.bay (heights_at sizes entry.0.bay) (length (heights_at sizes entry.0.bay))) none
      ∙ rw (next, seen, map-append (stacked sizes entries) (bays_of (take i entries)) (entry.0.bay ∷ []), e) refl
