-- The first moves of bays, as many as are counted.
use Rattle.std.proofs.Common.{◌≡◌, ◌∙◌, ℕ, ◌+◌, ◌<◌, arith, List, [], ◌∷◌, ◌++◌, length, length-append, map, take, get_or, refl, sym, ap, subst}
use Rattle.std.proofs.lemmas.List.{map-append, take_more, length-map}
use Rattle.crp_follow.specs.declared.followed.FollowedBay.{FollowedBay}
use Rattle.crp_follow.specs.Stated.{moves_of}
use Rattle.crp_follow.specs.Followed.{BayFollowed}
use Rattle.crp_follow.specs.Behind.{Made, first_moves}
use Rattle.crp_follow.specs.Views.{bay_followed}

-- so many of the first moves of a bay
abbrev pub first_of : ℕ → BayFollowed → Made
first_of count b = record { bay = b.stated.bay; moves = take count (moves_of b.stated.moves) }

first_push : (counts : List ℕ) (count : ℕ) (bays : List BayFollowed) (b : BayFollowed) → length counts ≡ length bays
    → first_moves (counts ++ count ∷ []) (bays ++ b ∷ []) ≡ first_moves counts bays ++ first_of count b ∷ []
first_push [] count [] b same = refl
first_push [] count (x ∷ bays) b same = absurd (omega arith)
first_push (n ∷ counts) count [] b same = absurd (omega arith)
first_push (n ∷ counts) count (x ∷ bays) b same = ap (λ l. first_of n x ∷ l) (first_push counts count bays b (omega arith))

-- the moves of each bay so far are as many of its first as are counted
pub record AreCounted (made : BayFollowed → Made) (counts : List ℕ) (bays : List FollowedBay) : Type 0 where
  pub so_many : length counts ≡ length bays
  pub first : first_moves counts (map bay_followed bays) ≡ map made (map bay_followed bays)

pub none_counted : (made : BayFollowed → Made) (counts : List ℕ) (bays : List FollowedBay) → counts ≡ [] → AreCounted made counts (take 0 bays)
none_counted made counts bays e = subst (λ l. AreCounted made l (take 0 bays)) (sym e) (none bays)
  where
    none : (bays : List FollowedBay) → AreCounted made [] (take 0 bays)
    none [] = record { so_many = refl; first = refl }
    none (b ∷ bays) = record { so_many = refl; first = refl }

-- one bay more
pub counted_more : (made : BayFollowed → Made) (bays : List FollowedBay) (i : ℕ) (b : FollowedBay) (counts new : List ℕ) (count : ℕ) → i < length bays → b ≡ get_or bays i b
    → AreCounted made counts (take i bays) → new ≡ counts ++ count ∷ [] → first_of count (bay_followed b) ≡ made (bay_followed b) → AreCounted made new (take (i + 1) bays)
counted_more made bays i b counts new count lt at before longer same =
    let front = take i bays in
    let more : take (i + 1) bays ≡ front ++ b ∷ [] = take_more bays i b lt ∙ ap (λ x. front ++ x ∷ []) (sym at) in
    let many : length counts ≡ length (map bay_followed front) = before.so_many ∙ sym (length-map front bay_followed) in
    let both : map bay_followed (front ++ b ∷ []) ≡ map bay_followed front ++ bay_followed b ∷ [] = map-append bay_followed front (b ∷ []) in
    subst (AreCounted made new) (sym more) (subst (λ l. AreCounted made l (front ++ b ∷ [])) (sym longer) (record {
      so_many = length-append counts (count ∷ []) ∙ ap (λ n. n + 1) before.so_many ∙ sym (length-append front (b ∷ []));
      first = ap (first_moves (counts ++ count ∷ [])) both ∙ first_push counts count (map bay_followed front) (bay_followed b) many
          ∙ ap (λ l. l ++ first_of count (bay_followed b) ∷ []) before.first ∙ ap (λ m. map made (map bay_followed front) ++ m ∷ []) same
          ∙ sym (map-append made (map bay_followed front) (bay_followed b ∷ [])) ∙ sym (ap (map made) both);
    }))
