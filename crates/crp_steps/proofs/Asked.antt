-- What a world is asked.
use Rattle.std.proofs.Common.{◌≡◌, ℕ, zero, suc, ◌+◌, ◌<◌, min, List, [], ◌∷◌, ◌++◌, length, map, take, drop, get_or, Result, Ok, Err, OnErr, refl, sym, ap, ◌∙◌, subst, arith}
use Rattle.std.proofs.lemmas.List.{drop_more}
use Rattle.crp_tree.specs.Trees.{least}
use Rattle.crp_steps.specs.declared.event.Event.{Event}
use Rattle.crp_steps.specs.Worlds.{Leaf, World}
use Rattle.crp_steps.specs.Events.{IsNotNow, Comes, Come, ComeInPart}
use Rattle.crp_steps.proofs.One.{come_one}

least_more : (most v : ℕ) (values : List ℕ) → least (min most v) values ≡ least most (v ∷ values)
least_more most v [] = omega arith
least_more most v (x ∷ values) = omega (arith, least_more most v values)

-- one leaf more is looked at
pub leaf_more : (most : ℕ) (leaves : List Leaf) (i : ℕ) (leaf : Leaf) → i < length leaves → leaf ≡ get_or leaves i leaf →
    least (min most leaf.value) (map (λ (l : Leaf). l.value) (drop (i + 1) leaves)) ≡ least most (map (λ (l : Leaf). l.value) (drop i leaves))
leaf_more most leaves i leaf lt e =
    least_more most leaf.value (map (λ (l : Leaf). l.value) (drop (i + 1) leaves))
    ∙ ap (λ (l : Leaf). least most (l.value ∷ map (λ (x : Leaf). x.value) (drop (i + 1) leaves))) e
    ∙ ap (λ l. least most (map (λ (x : Leaf). x.value) l)) (sym (drop_more leaves i leaf lt))

-- the events before the one for which there was no memory
pub in_part : (events : List Event) (i : ℕ) (d : Event) (w last : World) → i < length events → Come (take i events) w last → (IsNotNow (get_or events i d) last → ⊥) → ComeInPart events w last
in_part events i d w last lt come allowed = (take i events, get_or events i d, drop (i + 1) events, parted events i d lt, come, allowed)
  where
    parted : {X : Type 0} (xs : List X) (i : ℕ) (d : X) → i < length xs → xs ≡ take i xs ++ get_or xs i d ∷ drop (i + 1) xs
    parted [] i d lt = absurd (omega arith)
    parted (y ∷ xs) zero d lt = refl
    parted (y ∷ xs) (suc i) d lt =
        let next : suc (i + 1) ≡ suc i + 1 = omega arith in
        ap (λ l. y ∷ l) (parted xs i d (omega arith)) ∙ ap (λ n. y ∷ take i xs ++ get_or xs i d ∷ drop n (y ∷ xs)) next

-- one more event came
pub one_came : (events : List Event) (i : ℕ) (d : Event) (w mid next : World) → i < length events → Come (take i events) w mid → Comes (get_or events i d) mid next → Come (take (i + 1) events) w next
one_came events i d w mid next lt come one = subst (λ l. Come l w next) (sym (taken events i d lt)) (come_one (take i events) (get_or events i d) w mid next come one)
  where
    taken : {X : Type 0} (xs : List X) (i : ℕ) (d : X) → i < length xs → take (i + 1) xs ≡ take i xs ++ get_or xs i d ∷ []
    taken [] i d lt = absurd (omega arith)
    taken (y ∷ xs) zero d lt = refl
    taken (y ∷ xs) (suc i) d lt =
        let next : suc i + 1 ≡ suc (i + 1) = omega arith in
        ap (λ n. take n (y ∷ xs)) next ∙ ap (λ l. y ∷ l) (taken xs i d (omega arith))

-- what holds anyway holds at an error
pub at_err : {T E : Type 0} (answer : Result T E) (P : Type 0) → P → OnErr answer P
at_err (Ok x) P p = tt
at_err (Err e) P p = p
