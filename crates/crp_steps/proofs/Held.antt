-- What a world keeps in its type.
use Rattle.std.proofs.Common.{◌≡◌, ℕ, zero, suc, ◌+◌, ◌^◌, ◌<◌, ◌≤◌, min, inl, ⊎_elim, cond, nat_lt, List, [], ◌∷◌, ◌++◌, length, Some, Result, Ok, Err, OnOk, OnErr, IfErr, ◌↔◌, slice_get, slice_set, sum_by, refl, sym, ap, ◌∙◌, subst, arith}
use Rattle.std.proofs.lemmas.List.{length-set, length-replicate}
use Rattle.std.proofs.lemmas.List.Sums.{sum_by-cons}
use Rattle.std.proofs.lemmas.Bool.{cases_Bool}
use Rattle.crp_plan.specs.Running.{after_claim}
use Rattle.crp_plan.proofs.Lists.{at_le_sum}
use Rattle.crp_steps.specs.declared.event.Kind.{Kind}
use Rattle.crp_steps.specs.declared.event.Kind.TheVariants.{See, Take, Steal, Claim, Try, Put, Leaf as CloseLeaf, Offer, Finish}
use Rattle.crp_steps.specs.declared.event.Event.{Event}
use Rattle.crp_steps.specs.declared.event.Stopped.{Stopped}
use Rattle.crp_steps.specs.declared.event.Stopped.TheVariants.{NotNow, Memory}
use Rattle.crp_steps.specs.Worlds.{Rules, AreRules, Worker, World, fresh, fresh_workers, begin}
use Rattle.crp_steps.specs.Events.{words_of, after_words, branched, LeadsBy, Leads, IsNotNow, Come}
use Rattle.crp_steps.specs.Own.{IsStopped, CanCount, IsHeld}
use Rattle.crp_steps.proofs.Followed.{same_rules}
use Rattle.crp_steps.proofs.Ends.{reached_kept}
use Rattle.crp_steps.proofs.One.{come_one}

at_most_each : (f : Worker → ℕ) (ws : List Worker) → ((k : ℕ) (v : Worker) → slice_get ws k ≡ Some v → f v ≤ 1) → sum_by f ws ≤ length ws
at_most_each f [] each = omega arith
at_most_each f (v ∷ ws) each = omega (arith, sum_by-cons f v ws, each 0 v refl, at_most_each f ws (λ k u e. each (suc k) u e))

pub can_count : (w : World) → IsHeld w → CanCount w
can_count w held k v was =
    let h = reached_kept w held.reached in
    few (v.view).granted (v.view).refused _ _ (length w.workers) w.spent w.rules.budget
    (at_le_sum (λ (u : Worker). u.view.granted) w.workers k v was) h.granted h.refused (at_most_each (λ (u : Worker). u.view.refused) w.workers h.once) (h.once k v was) held.budget held.few
  where
    few : (g r gs rs n spent budget : ℕ) → g ≤ gs → gs ≡ min spent budget → rs + min spent budget ≡ spent → rs ≤ n → r ≤ 1 → budget ≤ 1099511627776 → n < 2 ^ 32 → spent + g + r < 2 ^ 63
    few g r gs rs n spent budget a b c d e f h = omega arith

-- an event leaves as many workers
pub same_size : (k : ℕ) (kind : Kind) (w next : World) → LeadsBy k kind w next → length next.workers ≡ length w.workers
same_size k See w next r = ap (λ (x : World). length x.workers) r.after ∙ length-set w.workers k _
same_size k Take w next r = ap (λ (x : World). length x.workers) r.after ∙ length-set w.workers k _
same_size k (Steal victim) w next r = ap (λ (x : World). length x.workers) r.after ∙ length-set (slice_set w.workers victim _) k _ ∙ length-set w.workers victim _
same_size k Claim w next r =
    let v = r.worker in
    let yes' : World = branched w k v r.others r.path r.place in
    let no' : World = after_words w k v (after_claim w.rules.budget (words_of w v)) in
    ap (λ (x : World). length x.workers) r.after ∙ ⊎_elim
    (λ t. subst (λ b. length (cond b yes' no').workers ≡ length w.workers) (sym t) (length-set w.workers k _))
    (λ f. subst (λ b. length (cond b yes' no').workers ≡ length w.workers) (sym f) (length-set w.workers k _))
    (cases_Bool (nat_lt w.spent w.rules.budget))
same_size k Try w next r = ap (λ (x : World). length x.workers) r.after ∙ length-set w.workers k _
same_size k (Put index) w next r = ap (λ (x : World). length x.workers) r.after ∙ length-set w.workers k _
same_size k (CloseLeaf bound) w next r = ap (λ (x : World). length x.workers) r.after ∙ length-set w.workers k _
same_size k Offer w next r = ap (λ (x : World). length x.workers) r.after ∙ length-set w.workers k _
same_size k Finish w next r = ap (λ (x : World). length x.workers) r.after ∙ length-set w.workers k _

pub led_on : (event : Event) (w next : World) → IsHeld w → Leads event w next → IsHeld next
led_on event w next held r =
    let e : next.rules ≡ w.rules = same_rules event.worker event.kind w next r in
    let t = held.reached in
    record {
      reached = record {
        workers = t.workers;
        some = t.some;
        rules = subst AreRules (sym e) t.rules;
        events = t.events ++ event ∷ [];
        come = subst (λ (x : Rules). Come (t.events ++ event ∷ []) (begin x t.workers) next) (sym e) (come_one t.events event (begin w.rules t.workers) w next t.come (inl r));
      };
      budget = subst (λ (x : Rules). x.budget ≤ 1099511627776) (sym e) held.budget;
      few = subst (λ n. n < 2 ^ 32) (sym (same_size event.worker event.kind w next r)) held.few;
    }

size_of : (start n : ℕ) → 1 ≤ n → length (fresh_workers start n) ≡ n
size_of start zero some = absurd (omega arith)
size_of start (suc n) some = omega (arith, length-replicate n (fresh start []))

pub begins_held : (rules : Rules) (workers : ℕ) → AreRules rules → 1 ≤ workers → workers < 2 ^ 32 → rules.budget ≤ 1099511627776 → IsHeld (begin rules workers)
begins_held rules workers are some few budget = record {
  reached = record { workers = workers; some = some; rules = are; events = []; come = refl };
  budget = budget;
  few = subst (λ n. n < 2 ^ 32) (sym (size_of rules.start workers some)) few;
}

-- followed or not, the world keeps it
pub stays_held : {T E : Type 0} (answer : Result T E) (event : Event) (w next : World) → IsHeld w → OnOk answer (Leads event w next) → OnErr answer (next ≡ w) → IsHeld next
stays_held (Ok x) event w next held led same = led_on event w next held led
stays_held (Err e) event w next held led same = subst IsHeld (sym same) held

-- not allowed is answered exactly where the event leads to no world
pub exact : {T : Type 0} (answer : Result T Stopped) (event : Event) (w next : World) → OnOk answer (Leads event w next) → IfErr answer (IsStopped (Leads event w)) → (answer ≡ Err NotNow) ↔ IsNotNow event w
exact (Ok x) event w next led stopped = (λ e. cc, λ none. absurd (none next led))
exact (Err NotNow) event w next led none = (λ e. none, λ n. refl)
exact (Err Memory) event w next led some = (λ e. cc, λ none. absurd (none some.0 some.1))
