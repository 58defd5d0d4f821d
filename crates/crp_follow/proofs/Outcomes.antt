-- A report is followed, or it has one first fault.
use Rattle.std.proofs.Common.{◌≡◌, ◌∙◌, ◌⊎◌, inl, inr, ℕ, List, sym, subst}
use Rattle.std.specs.List.{AllByRecursion}
use Rattle.crp_yard.specs.Inventory.{Inventory}
use Rattle.crp_said.specs.declared.numbers.Numbers.{Numbers}
use Rattle.crp_follow.specs.declared.fault.FollowFault.{FollowFault}
use Rattle.crp_follow.specs.declared.fault.FollowFault.TheVariants as fault
use Rattle.crp_follow.specs.Stated.{BayStated, States}
use Rattle.crp_follow.specs.TextFaults.{IsTextFault}
use Rattle.crp_follow.specs.Faults.{IsBaysFault, IsFirstFault}
use Rattle.crp_follow.specs.Followed.{BayFollowed, AreFollowed, IsFollowed}
use Rattle.crp_follow.proofs.OneBay.{Followable, followed_apart, bays_once, each_followed, followed_once}
use Rattle.crp_follow.proofs.OneText.{states_once, text_apart, text_once}

pub one_way : (yard : Inventory) (text : List ℕ) (n k : Numbers) (bs cs : List BayFollowed) → IsFollowed yard text n bs → IsFollowed yard text k cs → (n ≡ k) × (bs ≡ cs)
one_way yard text n k bs cs p q =
    let same = states_once text n k p.stated q.stated p.states q.states in
    let a = p.followed in
    let b = q.followed in
    (same.0, followed_once yard bs cs a.leads b.leads (sym a.is ∙ same.1 ∙ b.is))

pub no_fault : (yard : Inventory) (text : List ℕ) (n : Numbers) (bays : List BayFollowed) (f : FollowFault) → IsFollowed yard text n bays → ¬ IsFirstFault yard text f
no_fault yard text n bays f p (inl w) = text_apart text n p.stated f p.states w
no_fault yard text n bays f p (inr (k, others, states, w)) =
    let same = states_once text k n others p.stated states p.states in
    let a = p.followed in
    followed_apart yard p.stated f a.once (subst (AllByRecursion (Followable yard)) (sym a.is) (each_followed yard bays a.leads)) (subst (λ (l : List BayStated). IsBaysFault yard l f) same.1 w)

pub one_fault : (yard : Inventory) (text : List ℕ) (f g : FollowFault) → IsFirstFault yard text f → IsFirstFault yard text g → f ≡ g
one_fault yard text f g (inl v) (inl w) = text_once text f g v w
one_fault yard text f g (inl v) (inr (n, bays, states, w)) = absurd (text_apart text n bays f states v)
one_fault yard text f g (inr (n, bays, states, w)) (inl v) = absurd (text_apart text n bays g states v)
one_fault yard text f g (inr (n, bays, states, v)) (inr (k, others, also, w)) =
    let same = states_once text k n others bays also states in
    bays_once yard bays f g v (subst (λ (l : List BayStated). IsBaysFault yard l g) same.1 w)

-- what is refused of a report that is followed
pub memory_of_text : (yard : Inventory) (text : List ℕ) (n : Numbers) (bays : List BayFollowed) (f : FollowFault) → IsFollowed yard text n bays → (f ≡ fault.Memory) ⊎ IsTextFault text f → f ≡ fault.Memory
memory_of_text yard text n bays f p (inl e) = e
memory_of_text yard text n bays f p (inr w) = absurd (no_fault yard text n bays f p (inl w))

pub memory_of_bays : (yard : Inventory) (text : List ℕ) (n k : Numbers) (bays : List BayFollowed) (stated : List BayStated) (f : FollowFault) → IsFollowed yard text n bays → States text k stated
    → (f ≡ fault.Memory) ⊎ IsBaysFault yard stated f → f ≡ fault.Memory
memory_of_bays yard text n k bays stated f p states (inl e) = e
memory_of_bays yard text n k bays stated f p states (inr w) = absurd (no_fault yard text n bays f p (inr (k, stated, states, w)))

pub followed_refuses_none : (yard : Inventory) (text : List ℕ) (n : Numbers) (stated : List BayStated) (bays : List BayFollowed) (f : FollowFault) → States text n stated → AreFollowed yard stated bays
    → ¬ IsFirstFault yard text f
followed_refuses_none yard text n stated bays f states followed = no_fault yard text n bays f (record { stated = stated; states = states; followed = followed })
