-- One bay more is counted.
use Rattle.std.proofs.Common.{◌≡◌, ◌∙◌, ℕ, ◌+◌, ◌<◌, List, [], ◌∷◌, length, map, take, get_or, ap, arith}
use Rattle.std.specs.Prelude.{sum_by}
use Rattle.std.proofs.lemmas.List.{map-append}
use Rattle.std.proofs.lemmas.List.Sums.{sum_by-append, sum_by-cons}
use Rattle.crp_follow.specs.declared.followed.FollowedBay.{FollowedBay}
use Rattle.crp_follow.specs.Followed.{BayFollowed}
use Rattle.crp_follow.specs.Views.{bay_followed}
use Rattle.crp_page.specs.declared.counting.Counts.{Counts}
use Rattle.crp_page.proofs.Numbering.{with_it}

one_more : (f : BayFollowed → ℕ) (before : List BayFollowed) (b : BayFollowed) → sum_by f before + sum_by f (b ∷ []) ≡ sum_by f before + f b
one_more f before b = omega (arith, sum_by-cons f b [])

-- the sum with one bay more
pub sum_more : (f : BayFollowed → ℕ) (bays : List FollowedBay) (i : ℕ) (b : FollowedBay) → i < length bays → b ≡ get_or bays i b
    → sum_by f (map bay_followed (take (i + 1) bays)) ≡ sum_by f (map bay_followed (take i bays)) + f (bay_followed b)
sum_more f bays i b lt at =
    ap (λ l. sum_by f (map bay_followed l)) (with_it bays i b lt at) ∙ ap (sum_by f) (map-append bay_followed (take i bays) (b ∷ []))
    ∙ sum_by-append f (map bay_followed (take i bays)) (bay_followed b ∷ []) ∙ one_more f (map bay_followed (take i bays)) (bay_followed b)

-- four numbers that are the same
made : ℕ → ℕ → ℕ → ℕ → Counts
made moves relocations takes left = record { moves = moves; relocations = relocations; takes = takes; left = left }

pub same_counts : (a b : Counts) → a.moves ≡ b.moves → a.relocations ≡ b.relocations → a.takes ≡ b.takes → a.left ≡ b.left → a ≡ b
unfolding made
same_counts a b moves relocations takes left =
    ap (λ n. made n a.relocations a.takes a.left) moves ∙ ap (λ n. made b.moves n a.takes a.left) relocations ∙ ap (λ n. made b.moves b.relocations n a.left) takes
    ∙ ap (λ n. made b.moves b.relocations b.takes n) left
