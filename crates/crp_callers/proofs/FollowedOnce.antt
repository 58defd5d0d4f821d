-- What a call of `follow` gives of a report that is followed.
use Rattle.std.proofs.Common.{◌≡◌, ℕ, List, subst}
use Rattle.crp_yard.specs.Inventory.{Inventory}
use Rattle.crp_said.specs.declared.numbers.Numbers.{Numbers}
use Rattle.crp_follow.specs.Followed.{BayFollowed, IsFollowed}

-- the law of one outcome
abbrev pub FollowedOnce : Type 0
FollowedOnce = (yard : Inventory) (text : List ℕ) (n k : Numbers) (bs cs : List BayFollowed) → IsFollowed yard text n bs → IsFollowed yard text k cs → (n ≡ k) × (bs ≡ cs)

-- the same yard and the same text are followed to the same bays
pub same_bays : FollowedOnce → (yard other : Inventory) (text report : List ℕ) (n k : Numbers) (bs cs : List BayFollowed) → yard ≡ other → text ≡ report
    → IsFollowed yard text n bs → IsFollowed other report k cs → cs ≡ bs
same_bays law yard other text report n k bs cs e f is also =
    let at = subst (λ (y : Inventory). IsFollowed y text n bs) e is in
    let there = subst (λ (t : List ℕ). IsFollowed other t n bs) f at in
    (law other report k n cs bs also there).1
