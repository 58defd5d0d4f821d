-- One bay more that is followed, and what is wrong with the next.
use Rattle.std.proofs.Common.{◌≡◌, ◌∙◌, ◌⊎◌, inl, inr, false, List, [], ◌∷◌, ◌++◌, map, refl, sym, ap, subst}
use Rattle.std.specs.List.{AllByRecursion, IsDistinct, list_any}
use Rattle.std.proofs.lemmas.List.{map-append}
use Rattle.std.specs.Vec.Iter.{into_iter_items, into_iter_steps}
use Rattle.std.specs.Iterator.{Yields}
use Rattle.std.specs.declared.vec.IntoIter.{IntoIter}
use Rattle.crp_plan.specs.BayNames.{YardBay, same_bay}
use Rattle.crp_yard.specs.Inventory.{Inventory}
use Rattle.crp_follow.specs.declared.stated.StatedBay.{StatedBay}
use Rattle.crp_follow.specs.declared.followed.FollowedBay.{FollowedBay}
use Rattle.crp_follow.specs.declared.fault.FollowFault.{FollowFault}
use Rattle.crp_follow.specs.declared.fault.FollowFault.TheVariants as fault
use Rattle.crp_follow.specs.Stated.{BayStated}
use Rattle.crp_follow.specs.Faults.{is_named, LeadsIn, IsBayFault, IsBaysFault}
use Rattle.crp_follow.specs.Followed.{BayFollowed, AreFollowed}
use Rattle.crp_follow.specs.Table.{StandFew}
use Rattle.crp_follow.specs.Views.{bay_stated, bay_followed}
use Rattle.crp_follow.proofs.Cuts.{all_both}
use Rattle.crp_follow.proofs.Named.{named_among}
use Rattle.crp_follow.proofs.OneBay.{Followable, named_more, each_followed}

none_apart : IsDistinct same_bay []
unfolding Rattle.std.specs.List.IsDistinct
none_apart = tt

pub none_followed : (yard : Inventory) (bays : List FollowedBay) → bays ≡ [] → AreFollowed yard [] (map bay_followed bays)
none_followed yard bays e = subst (λ l. AreFollowed yard [] (map bay_followed l)) (sym e) (record { is = refl; once = none_apart; leads = tt })

-- what is stated of bays that are followed
pub stated_of : (bays : List FollowedBay) → map (λ (b : FollowedBay). bay_stated b.stated) bays ≡ map (λ (b : BayFollowed). b.stated) (map bay_followed bays)
stated_of [] = refl
stated_of (b ∷ bays) = ap (λ l. bay_stated b.stated ∷ l) (stated_of bays)

abbrev pub before_are : List FollowedBay → List BayStated
before_are bays = map (λ (b : FollowedBay). bay_stated b.stated) bays

pub one_bay_more : (yard : Inventory) (stated : List StatedBay) (followed new : List FollowedBay) (s : StatedBay) (b : FollowedBay) → AreFollowed yard (map bay_stated stated) (map bay_followed followed)
    → bay_stated b.stated ≡ bay_stated s → is_named (before_are followed) s.bay ≡ false → LeadsIn yard (bay_stated s) b.start.items b.after.items → new ≡ followed ++ b ∷ []
    → AreFollowed yard (map bay_stated (stated ++ s ∷ [])) (map bay_followed new)
one_bay_more yard stated followed new s b so same fresh leads longer =
    let both : map bay_followed new ≡ map bay_followed followed ++ bay_followed b ∷ [] = ap (map bay_followed) longer ∙ map-append bay_followed followed (b ∷ []) in
    let more : map bay_stated (stated ++ s ∷ []) ≡ map bay_stated stated ++ bay_stated s ∷ [] = map-append bay_stated stated (s ∷ []) in
    let names : before_are followed ≡ map bay_stated stated = stated_of followed ∙ sym so.is in
    let P : BayFollowed → Type 0 = λ x. LeadsIn yard x.stated x.start x.after in
    record {
      is = more ∙ ap (λ x. map bay_stated stated ++ x ∷ []) (sym same) ∙ ap (λ l. l ++ bay_stated b.stated ∷ []) so.is
          ∙ sym (map-append (λ (x : BayFollowed). x.stated) (map bay_followed followed) (bay_followed b ∷ [])) ∙ ap (map (λ (x : BayFollowed). x.stated)) (sym both);
      once = subst (λ (l : List BayStated). IsDistinct same_bay (map (λ x. x.bay) l)) (sym more)
          (named_more (map bay_stated stated) (bay_stated s) so.once (subst (λ (l : List BayStated). is_named l s.bay ≡ false) names fresh));
      leads = subst (AllByRecursion P) (sym both)
          (all_both P (map bay_followed followed) (bay_followed b ∷ []) so.leads (subst (λ (x : BayStated). LeadsIn yard x b.start.items b.after.items) (sym same) leads, tt));
    }

pub no_names : (bays : List FollowedBay) (names : List YardBay) → bays ≡ [] → names ≡ [] → names ≡ map (λ (b : BayStated). b.bay) (before_are bays)
no_names bays names e none = none ∙ sym (ap (λ l. map (λ (b : BayStated). b.bay) (before_are l)) e)

-- one name more
pub name_more : (bays longer : List FollowedBay) (b : FollowedBay) (names new : List YardBay) → names ≡ map (λ (b : BayStated). b.bay) (before_are bays) → longer ≡ bays ++ b ∷ []
    → new ≡ names ++ b.stated.bay ∷ [] → new ≡ map (λ (b : BayStated). b.bay) (before_are longer)
name_more bays longer b names new e more is =
    is ∙ ap (λ l. l ++ b.stated.bay ∷ []) e ∙ sym (map-append (λ (b : BayStated). b.bay) (before_are bays) (bay_stated b.stated ∷ []))
    ∙ ap (map (λ (b : BayStated). b.bay)) (sym (ap before_are more ∙ map-append (λ (b : FollowedBay). bay_stated b.stated) bays (b ∷ [])))

-- and it is none of those before
pub fresh_name : (before : List BayStated) (s : StatedBay) (b : FollowedBay) (names : List YardBay) → bay_stated b.stated ≡ bay_stated s → is_named before s.bay ≡ false
    → names ≡ map (λ (b : BayStated). b.bay) before → list_any (same_bay b.stated.bay) names ≡ false
fresh_name before s b names same fresh e =
    ap (λ (x : BayStated). list_any (same_bay x.bay) names) same ∙ named_among before s.bay names e ∙ fresh

pub bay_refused : (yard : Inventory) (bays before later : List StatedBay) (followed : List FollowedBay) (s : StatedBay) (f : FollowFault) → AreFollowed yard (map bay_stated before) (map bay_followed followed)
    → bays ≡ before ++ s ∷ later → (f ≡ fault.Memory) ⊎ IsBayFault yard (before_are followed) (bay_stated s) f → (f ≡ fault.Memory) ⊎ IsBaysFault yard (map bay_stated bays) f
bay_refused yard bays before later followed s f so is (inl e) = inl e
bay_refused yard bays before later followed s f so is (inr wrong) =
    inr (record {
      before = map bay_stated before;
      bay = bay_stated s;
      later = map bay_stated later;
      bays_are = ap (map bay_stated) is ∙ map-append bay_stated before (s ∷ later);
      once = so.once;
      each = subst (AllByRecursion (Followable yard)) (sym so.is) (each_followed yard (map bay_followed followed) so.leads);
      wrong = subst (λ (l : List BayStated). IsBayFault yard l (bay_stated s) f) (stated_of followed ∙ sym so.is) wrong;
    })

-- what the iterator of a list has given is a front of it
pub taken_front : {X A : Type 0} (s : IntoIter X A) (xs : List X) (t : IntoIter X A) → Yields into_iter_steps s xs t → into_iter_items s ≡ xs ++ into_iter_items t
taken_front s [] t y = ap into_iter_items y
taken_front s (x ∷ xs) t y = y.1.0 ∙ ap (λ ys. x ∷ ys) (taken_front y.0 xs t y.2)

-- ---- few containers

pub none_stand : (bays : List FollowedBay) → bays ≡ [] → AllByRecursion StandFew (map bay_followed bays)
none_stand bays e = subst (λ l. AllByRecursion StandFew (map bay_followed l)) (sym e) tt

pub few_more : (bays new : List FollowedBay) (b : FollowedBay) → AllByRecursion StandFew (map bay_followed bays) → StandFew (bay_followed b) → new ≡ bays ++ b ∷ []
    → AllByRecursion StandFew (map bay_followed new)
few_more bays new b few one longer =
    subst (AllByRecursion StandFew) (sym (ap (map bay_followed) longer ∙ map-append bay_followed bays (b ∷ [])))
    (all_both StandFew (map bay_followed bays) (bay_followed b ∷ []) few (one, tt))
