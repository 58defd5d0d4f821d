-- A bay has one first fault at most, and so have bays one after the other.
use Rattle.std.proofs.Common.{◌≡◌, ◌∙◌, ◌⊎◌, inl, inr, Bool, true, false, ◌||◌, List, [], ◌∷◌, ◌++◌, map, Option, Some, None, refl, sym, ap, subst}
use Rattle.std.specs.Prelude.{IsSome}
use Rattle.std.specs.List.{AllByRecursion, IsDistinct}
use Rattle.std.proofs.lemmas.Option.{same_Some, none-some}
use Rattle.std.proofs.lemmas.Map.Keys.{IsDistinct-head, IsDistinct-tail, IsDistinct-cons}
use Rattle.crp_plan.specs.BayNames.{YardBay, same_bay}
use Rattle.crp_sizes.specs.Sizes.{heights_at}
use Rattle.crp_yard.specs.Inventory.{Inventory}
use Rattle.crp_follow.specs.declared.fault.FollowFault.{FollowFault}
use Rattle.crp_follow.specs.declared.fault.FollowFault.TheVariants as fault
use Rattle.crp_follow.specs.Crane.{Stack, Leads}
use Rattle.crp_follow.specs.Stated.{BayStated, moves_of}
use Rattle.crp_follow.specs.MoveFaults.{StopsWith}
use Rattle.crp_follow.specs.Faults.{rows_in, is_named, CountsShifts, IsBayFault, LeadsIn, IsBaysFault}
use Rattle.crp_follow.specs.Followed.{BayFollowed}
use Rattle.crp_follow.proofs.Cuts.{AreCuts, cuts, right_at}
use Rattle.crp_follow.proofs.OneMove.{leads_once, stops_apart, stops_once}

-- ---- names

abbrev names : List BayStated → List YardBay
names bays = map (λ (b : BayStated). b.bay) bays

-- none is named so, where the name differs from each
pub not_named : (before : List BayStated) (b : BayStated) (later : List BayStated) → IsDistinct same_bay (names (before ++ b ∷ later)) → is_named before b.bay ≡ false
not_named [] b later once = refl
not_named (x ∷ before) b later once =
    let head : same_bay x.bay b.bay ≡ false = at before b later (IsDistinct-head same_bay x.bay (names (before ++ b ∷ later)) once) in
    rw (head, not_named before b later (IsDistinct-tail same_bay x.bay (names (before ++ b ∷ later)) once)) refl
  where
    at : (before : List BayStated) (b : BayStated) (later : List BayStated) → AllByRecursion (λ y. same_bay x.bay y ≡ false) (names (before ++ b ∷ later)) → same_bay x.bay b.bay ≡ false
    at [] b later all = all.0
    at (y ∷ before) b later all = at before b later all.1

true_false : {P : Type 0} (t : Bool) → t ≡ true → t ≡ false → P
true_false t e f = cc

either_false : (a b : Bool) → (a || b) ≡ false → (a ≡ false) × (b ≡ false)
either_false true b e = cc
either_false false b e = (refl, e)

-- a name more
pub named_more : (before : List BayStated) (b : BayStated) → IsDistinct same_bay (names before) → is_named before b.bay ≡ false → IsDistinct same_bay (names (before ++ b ∷ []))
named_more [] b once fresh = IsDistinct-cons same_bay b.bay [] tt once
named_more (x ∷ before) b once fresh =
    let parts = either_false (same_bay x.bay b.bay) (is_named before b.bay) fresh in
    IsDistinct-cons same_bay x.bay (names (before ++ b ∷ [])) (each before (IsDistinct-head same_bay x.bay (names before) once) parts.0)
    (named_more before b (IsDistinct-tail same_bay x.bay (names before) once) parts.1)
  where
    each : (before : List BayStated) → AllByRecursion (λ y. same_bay x.bay y ≡ false) (names before) → same_bay x.bay b.bay ≡ false → AllByRecursion (λ y. same_bay x.bay y ≡ false) (names (before ++ b ∷ []))
    each [] all h = (h, tt)
    each (y ∷ before) all h = (all.0, each before all.1 h)

-- ---- one bay

abbrev WrongBay : Inventory → List BayStated → BayStated → FollowFault → Type 0
WrongBay yard before b f =
    ((f ≡ fault.NoBay b.line) × (rows_in yard b.bay ≡ None))
    ⊎ (((f ≡ fault.Again b.line) × IsSome (rows_in yard b.bay) × (is_named before b.bay ≡ true))
    ⊎ (((f ≡ fault.Relocations b.line) × IsSome (rows_in yard b.bay) × (is_named before b.bay ≡ false) × ¬ CountsShifts b)
    ⊎ ((start : List Stack) × (rows_in yard b.bay ≡ Some start) × (is_named before b.bay ≡ false) × CountsShifts b × StopsWith (heights_at yard.sizes b.bay) start b.moves f)))

wrong_bay : (yard : Inventory) (before : List BayStated) (b : BayStated) (f : FollowFault) → IsBayFault yard before b f → WrongBay yard before b f
wrong_bay yard before b (fault.NoBay line) w = inl (ap fault.NoBay w.0, w.1)
wrong_bay yard before b (fault.Again line) w = inr (inl (ap fault.Again w.0, w.1, w.2))
wrong_bay yard before b (fault.Relocations line) w = inr (inr (inl (ap fault.Relocations w.0, w.1, w.2, w.3)))
wrong_bay yard before b f w = inr (inr (inr w))

none_there : {P : Type 0} (o : Option (List Stack)) → o ≡ None → IsSome o → P
none_there None e some = let t : false ≡ true = some in absurd (cc)
none_there (Some x) e some = cc

apart : (yard : Inventory) (before : List BayStated) (b : BayStated) (f : FollowFault) (start after : List Stack) → WrongBay yard before b f → is_named before b.bay ≡ false
    → LeadsIn yard b start after → ⊥
apart yard before b f start after (inl (e, none)) fresh leads = none-some start (sym none ∙ leads.stands)
apart yard before b f start after (inr (inl (e, some, named))) fresh leads = true_false (is_named before b.bay) named fresh
apart yard before b f start after (inr (inr (inl (e, some, fresh, not)))) also leads = not leads.counts
apart yard before b f start after (inr (inr (inr (begin, stands, fresh, counts, stops)))) also leads =
    let same : begin ≡ start = same_Some begin start (sym stands ∙ leads.stands) in
    stops_apart (heights_at yard.sizes b.bay) start b.moves f after (subst (λ (s : List Stack). StopsWith (heights_at yard.sizes b.bay) s b.moves f) same stops) leads.leads

pub bay_apart : (yard : Inventory) (before : List BayStated) (b : BayStated) (f : FollowFault) (start after : List Stack) → IsBayFault yard before b f → is_named before b.bay ≡ false
    → LeadsIn yard b start after → ⊥
bay_apart yard before b f start after w fresh leads = apart yard before b f start after (wrong_bay yard before b f w) fresh leads

same_wrong : (yard : Inventory) (before : List BayStated) (b : BayStated) (f g : FollowFault) → WrongBay yard before b f → WrongBay yard before b g → f ≡ g
same_wrong yard before b f g (inl (e, p)) (inl (k, q)) = e ∙ sym k
same_wrong yard before b f g (inl (e, p)) (inr (inl (k, some, q))) = none_there (rows_in yard b.bay) p some
same_wrong yard before b f g (inl (e, p)) (inr (inr (inl (k, some, q, not)))) = none_there (rows_in yard b.bay) p some
same_wrong yard before b f g (inl (e, p)) (inr (inr (inr (start, stands, q, counts, stops)))) = absurd (none-some start (sym p ∙ stands))
same_wrong yard before b f g (inr (inl (e, some, p))) (inl (k, q)) = none_there (rows_in yard b.bay) q some
same_wrong yard before b f g (inr (inl (e, some, p))) (inr (inl (k, also, q))) = e ∙ sym k
same_wrong yard before b f g (inr (inl (e, some, p))) (inr (inr (inl (k, also, q, not)))) = true_false (is_named before b.bay) p q
same_wrong yard before b f g (inr (inl (e, some, p))) (inr (inr (inr (start, stands, q, counts, stops)))) = true_false (is_named before b.bay) p q
same_wrong yard before b f g (inr (inr (inl (e, some, p, not)))) (inl (k, q)) = none_there (rows_in yard b.bay) q some
same_wrong yard before b f g (inr (inr (inl (e, some, p, not)))) (inr (inl (k, also, q))) = true_false (is_named before b.bay) q p
same_wrong yard before b f g (inr (inr (inl (e, some, p, not)))) (inr (inr (inl (k, also, q, non)))) = e ∙ sym k
same_wrong yard before b f g (inr (inr (inl (e, some, p, not)))) (inr (inr (inr (start, stands, q, counts, stops)))) = absurd (not counts)
same_wrong yard before b f g (inr (inr (inr (start, stands, p, counts, stops)))) (inl (k, q)) = absurd (none-some start (sym q ∙ stands))
same_wrong yard before b f g (inr (inr (inr (start, stands, p, counts, stops)))) (inr (inl (k, also, q))) = true_false (is_named before b.bay) q p
same_wrong yard before b f g (inr (inr (inr (start, stands, p, counts, stops)))) (inr (inr (inl (k, also, q, non)))) = absurd (non counts)
same_wrong yard before b f g (inr (inr (inr (start, stands, p, counts, stops)))) (inr (inr (inr (begin, there, q, also, ends)))) =
    let same : begin ≡ start = same_Some begin start (sym there ∙ stands) in
    stops_once (heights_at yard.sizes b.bay) start b.moves f g stops (subst (λ (s : List Stack). StopsWith (heights_at yard.sizes b.bay) s b.moves g) same ends)

-- ---- bays one after the other

abbrev pub Followable : Inventory → BayStated → Type 0
Followable yard b = (start : List Stack) × (after : List Stack) × LeadsIn yard b start after

past : (yard : Inventory) (before : List BayStated) (b : BayStated) (later : List BayStated) (f : FollowFault) → IsBayFault yard before b f
    → IsDistinct same_bay (names (before ++ b ∷ later)) → AllByRecursion (Followable yard) (before ++ b ∷ later) → ⊥
past yard before b later f wrong once each =
    let (start, after, leads) = right_at (Followable yard) before b later each in
    bay_apart yard before b f start after wrong (not_named before b later once) leads

-- bays that are followed have no fault
pub followed_apart : (yard : Inventory) (bays : List BayStated) (f : FollowFault) → IsDistinct same_bay (names bays) → AllByRecursion (Followable yard) bays → IsBaysFault yard bays f → ⊥
followed_apart yard bays f once each w =
    past yard w.before w.bay w.later f w.wrong (subst (λ l. IsDistinct same_bay (names l)) w.bays_are once) (subst (AllByRecursion (Followable yard)) w.bays_are each)

pub bays_once : (yard : Inventory) (bays : List BayStated) (f g : FollowFault) → IsBaysFault yard bays f → IsBaysFault yard bays g → f ≡ g
bays_once yard bays f g s t = decide (cuts s.before t.before s.bay t.bay s.later t.later (sym s.bays_are ∙ t.bays_are))
  where
    decide : AreCuts s.before t.before s.bay t.bay s.later t.later → f ≡ g
    decide (inl (front, bay, later)) =
        let wrong : IsBayFault yard t.before t.bay f = subst (λ (b : BayStated). IsBayFault yard t.before b f) bay (subst (λ (l : List BayStated). IsBayFault yard l s.bay f) front s.wrong) in
        same_wrong yard t.before t.bay f g (wrong_bay yard t.before t.bay f wrong) (wrong_bay yard t.before t.bay g t.wrong)
    decide (inr (inl (mid, is))) = absurd (past yard s.before s.bay mid f s.wrong (subst (λ l. IsDistinct same_bay (names l)) is t.once) (subst (AllByRecursion (Followable yard)) is t.each))
    decide (inr (inr (mid, is))) = absurd (past yard t.before t.bay mid g t.wrong (subst (λ l. IsDistinct same_bay (names l)) is s.once) (subst (AllByRecursion (Followable yard)) is s.each))

-- ---- bays are followed in one way

pub each_followed : (yard : Inventory) (bays : List BayFollowed) → AllByRecursion (λ b. LeadsIn yard b.stated b.start b.after) bays → AllByRecursion (Followable yard) (map (λ (b : BayFollowed). b.stated) bays)
each_followed yard [] all = tt
each_followed yard (b ∷ bays) all = ((b.start, b.after, all.0), each_followed yard bays all.1)

same_rows : (yard : Inventory) (b c : BayFollowed) → b.stated ≡ c.stated → LeadsIn yard b.stated b.start b.after → LeadsIn yard c.stated c.start c.after → b ≡ c
same_rows yard b c e p q =
    let made : BayStated → List Stack → List Stack → BayFollowed = λ s start after. record { stated = s; start = start; after = after } in
    let p' : LeadsIn yard c.stated b.start b.after = subst (λ (s : BayStated). LeadsIn yard s b.start b.after) e p in
    let start : b.start ≡ c.start = same_Some b.start c.start (sym p'.stands ∙ q.stands) in
    let heights = heights_at yard.sizes c.stated.bay in
    let leads : Leads heights c.start (moves_of c.stated.moves) b.after = subst (λ (s : List Stack). Leads heights s (moves_of c.stated.moves) b.after) start p'.leads in
    let after : b.after ≡ c.after = leads_once heights c.start (moves_of c.stated.moves) b.after c.after leads q.leads in
    ap (λ s. made s b.start b.after) e ∙ ap (λ s. made c.stated s b.after) start ∙ ap (made c.stated c.start) after

pub followed_once : (yard : Inventory) (bs cs : List BayFollowed) → AllByRecursion (λ b. LeadsIn yard b.stated b.start b.after) bs → AllByRecursion (λ b. LeadsIn yard b.stated b.start b.after) cs
    → map (λ (b : BayFollowed). b.stated) bs ≡ map (λ (b : BayFollowed). b.stated) cs → bs ≡ cs
followed_once yard [] [] p q e = refl
followed_once yard [] (c ∷ cs) p q e = cc
followed_once yard (b ∷ bs) [] p q e = cc
followed_once yard (b ∷ bs) (c ∷ cs) p q e =
    let head : b.stated ≡ c.stated = cc in
    let tail : map (λ (b : BayFollowed). b.stated) bs ≡ map (λ (b : BayFollowed). b.stated) cs = cc in
    ap (λ x. x ∷ bs) (same_rows yard b c head p.0 q.0) ∙ ap (λ l. c ∷ l) (followed_once yard bs cs p.1 q.1 tail)
