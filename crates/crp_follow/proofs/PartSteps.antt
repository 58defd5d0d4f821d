-- Parts of reports.
use Rattle.std.proofs.Common.{◌≡◌, ◌∙◌, ℕ, suc, ◌+◌, Bool, true, false, cond, List, [], ◌∷◌, length, map, refl, sym, ap, subst}
use Rattle.std.specs.List.{filter, AllByRecursion, IsDistinct}
use Rattle.crp_plan.specs.BayNames.{YardBay, same_bay}
use Rattle.crp_yard.specs.Inventory.{Inventory}
use Rattle.crp_follow.specs.declared.followed.FollowedBay.{FollowedBay}
use Rattle.crp_follow.specs.Faults.{LeadsIn}
use Rattle.crp_follow.specs.Followed.{BayFollowed, AreFollowed}
use Rattle.crp_follow.specs.Stated.{BayStated}
use Rattle.crp_follow.specs.Views.{bay_followed}

-- those that pass a test are seen as those that pass it as they are seen
pub seen_filtered : {X Y : Type 0} (view : X → Y) (test : Y → Bool) (xs : List X) → map view (filter (λ x. test (view x)) xs) ≡ filter test (map view xs)
seen_filtered view test [] = refl
seen_filtered view test (x ∷ xs) =
    elim (test (view x)) as (λ b. map view (cond b (x ∷ filter (λ y. test (view y)) xs) (filter (λ y. test (view y)) xs)) ≡ cond b (view x ∷ filter test (map view xs)) (filter test (map view xs))) [
      | true ↦ ap (λ l. view x ∷ l) (seen_filtered view test xs)
      | false ↦ seen_filtered view test xs
    ]

-- what holds of all holds of those
pub all_filtered : {X : Type 0} (P : X → Type 0) (test : X → Bool) (xs : List X) → AllByRecursion P xs → AllByRecursion P (filter test xs)
all_filtered P test [] all = tt
all_filtered P test (x ∷ xs) all = elim (test x) as (λ b. AllByRecursion P (cond b (x ∷ filter test xs) (filter test xs))) [
  | true ↦ (all.0, all_filtered P test xs all.1)
  | false ↦ all_filtered P test xs all.1
]

names_filtered : {X : Type 0} (P : YardBay → Type 0) (name : X → YardBay) (test : X → Bool) (xs : List X) → AllByRecursion P (map name xs) → AllByRecursion P (map name (filter test xs))
names_filtered P name test [] all = tt
names_filtered P name test (x ∷ xs) all = elim (test x) as (λ b. AllByRecursion P (map name (cond b (x ∷ filter test xs) (filter test xs)))) [
  | true ↦ (all.0, names_filtered P name test xs all.1)
  | false ↦ names_filtered P name test xs all.1
]

distinct_filtered : {X : Type 0} (name : X → YardBay) (test : X → Bool) (xs : List X) → IsDistinct same_bay (map name xs) → IsDistinct same_bay (map name (filter test xs))
unfolding IsDistinct
distinct_filtered name test [] once = tt
distinct_filtered name test (x ∷ xs) once = elim (test x) as (λ b. IsDistinct same_bay (map name (cond b (x ∷ filter test xs) (filter test xs)))) [
  | true ↦ (names_filtered (λ y. same_bay (name x) y ≡ false) name test xs once.0, distinct_filtered name test xs once.1)
  | false ↦ distinct_filtered name test xs once.1
]

own_names : (bays : List BayFollowed) → map (λ (b : BayStated). b.bay) (map (λ (b : BayFollowed). b.stated) bays) ≡ map (λ (b : BayFollowed). b.stated.bay) bays
own_names [] = refl
own_names (b ∷ bays) = ap (λ l. b.stated.bay ∷ l) (own_names bays)

-- some of the bays that are followed are followed
pub part_followed : (yard : Inventory) (stated : List BayStated) (bays : List BayFollowed) (test : BayFollowed → Bool) → AreFollowed yard stated bays
    → (left : List BayStated) × AreFollowed yard left (filter test bays)
part_followed yard stated bays test are =
    let once : IsDistinct same_bay (map (λ (b : BayFollowed). b.stated.bay) bays) =
    subst (IsDistinct same_bay) (ap (map (λ (b : BayStated). b.bay)) are.is ∙ own_names bays) are.once in (
      map (λ (b : BayFollowed). b.stated) (filter test bays),
      record {
        is = refl;
        once = subst (IsDistinct same_bay) (sym (own_names (filter test bays))) (distinct_filtered (λ (b : BayFollowed). b.stated.bay) test bays once);
        leads = all_filtered (λ b. LeadsIn yard b.stated b.start b.after) test bays are.leads;
      },
    )
