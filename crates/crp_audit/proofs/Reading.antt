-- The bays that were right so far, where the certificates are read from a source: whatever may be left of them.
use Rattle.std.proofs.Common.{◌≡◌, ◌≢◌, ◌∙◌, ◌⊎◌, ℕ, ◌+◌, ◌-◌, ◌<◌, List, [], ◌∷◌, ◌++◌, length, drop, Option, None, Some, refl, ap, arith, length-append, length-drop}
use Rattle.crp_plan.proofs.Interruptions.{has_failed}
use Rattle.crp_plan.specs.BayNames.{YardBay}
use Rattle.crp_plan.specs.Devices.{Transfers, failures_of_read}
use Rattle.crp_plan.specs.declared.transfer.ReadFault.{ReadFault}
use Rattle.crp_plan.specs.declared.transfer.ReadFault.TheVariants as read
use Rattle.crp_yard.specs.Inventory.{Inventory, StackedBay}
use Rattle.crp_yard.specs.Reading.{IsTextOf}
use Rattle.crp_movins.specs.LoadOrders.{LoadOrders}
use Rattle.crp_order.specs.declared.bay_problem.BayProblem.{BayProblem}
use Rattle.crp_order.specs.BayProblems.{bay_problem_of}
use Rattle.crp_checker.specs.declared.unread.Unread.{Unread}
use Rattle.crp_checker.specs.declared.verdict.Verdict.{Verdict}
use Rattle.crp_checker.specs.Reading.{HasMore, IsLeft, AreTaken, IsTaken, IsTooLong}
use Rattle.crp_said.specs.Said.{BaySaid, bay_text}
use Rattle.crp_audit.specs.declared.fault.AuditFault.{AuditFault}
use Rattle.crp_audit.specs.declared.fault.AuditFault.TheVariants as fault
use Rattle.crp_audit.specs.declared.fault.AuditStop.{AuditStop}
use Rattle.crp_audit.specs.declared.fault.AuditStop.TheVariants as stop
use Rattle.crp_audit.specs.Headline.{Handed, handed, IsTrueOf, verdict_in}
use Rattle.crp_audit.specs.Faults.{IsFaultOf, IsAuditRefusal, ShowsFirst, reported_as}
use Rattle.crp_audit.specs.Stops.{IsAuditStop, StopsAt, failures_of_stop, of_read}
use Rattle.crp_audit.proofs.Audited.{AreRight, one_right, refused_bay, shows_first, out_of_memory}

-- the certificates that may have been given, where this is left: so much of them is right
pub record IsRightWith (of : List ℕ → Handed) (given : Option (List ℕ)) (limit : ℕ) (shown : List (YardBay × Verdict)) (front : List ℕ) (stated : List BayProblem) (more : List BaySaid) (u : Unread) (left : List ℕ) : Type 0 where
  pub text : List ℕ
  pub given_is : IsTextOf given text
  pub counted : length text + u.room ≡ limit + length left
  pub right : AreRight (of text) shown front stated more left

-- whatever may be left
pub record AreRightSoFar (of : List ℕ → Handed) (given : Option (List ℕ)) (limit : ℕ) (shown : List (YardBay × Verdict)) (front : List ℕ) (stated : List BayProblem) (more : List BaySaid) (known : Option (List ℕ)) (u : Unread) : Type 0 where
  pub right : (left : List ℕ) → IsLeft known u left → IsRightWith of given limit shown front stated more u left
  pub some : (left : List ℕ) × IsLeft known u left

-- a refusal of what may have been given
abbrev pub IsRefusedAt : (List ℕ → Handed) → Option (List ℕ) → List (YardBay × Verdict) → AuditFault → Type 0
IsRefusedAt of given shown f = (text : List ℕ) × IsTextOf given text × IsAuditRefusal (of text) shown f

-- some bytes may be given
pub given_some : (given : Option (List ℕ)) → (text : List ℕ) × IsTextOf given text
given_some None = ([], tt)
given_some (Some xs) = (xs, refl)

-- before the first bay
pub none_so_far : (of : List ℕ → Handed) (given : Option (List ℕ)) (limit : ℕ) (shown : List (YardBay × Verdict)) (front : List ℕ) (stated : List BayProblem) (more : List BaySaid) (u : Unread)
    → ((left : List ℕ) → IsLeft given u left → IsTextOf given left) → ((left : List ℕ) → IsTextOf given left → IsLeft given u left) → u.room ≡ limit
    → ((text : List ℕ) → AreRight (of text) shown front stated more text) → AreRightSoFar of given limit shown front stated more given u
none_so_far of given limit shown front stated more u whole begins room right = record {
  right = λ left is. record { text = left; given_is = whole left is; counted = omega (arith, room); right = right left };
  some = let (text, is) = given_some given in (text, begins text is);
}

-- one bay more
pub one_more : (of : List ℕ → Handed) (given : Option (List ℕ)) (limit : ℕ) (shown wide : List (YardBay × Verdict)) (front new : List ℕ) (stated behind : List BayProblem) (next : BayProblem)
    (more after : List BaySaid) (s : BaySaid) (known later : Option (List ℕ)) (u v : Unread) (text : List ℕ) (verdict : Verdict) → AreRightSoFar of given limit shown front stated more known u
    → stated ≡ next ∷ behind → more ≡ s ∷ after → s.bay ≡ next.bay → IsTaken known u text later v
    → ((h : Handed) (bay : StackedBay) → next ≡ bay_problem_of h.yard.sizes h.sequence bay → IsTrueOf h (reported_as bay s text) × (verdict ≡ verdict_in h (reported_as bay s text)))
    → new ≡ front ++ bay_text s → wide ≡ shown ++ (next.bay, verdict) ∷ [] → AreRightSoFar of given limit wide new behind after later v
one_more of given limit shown wide front new stated behind next more after s known later u v text verdict so is-next is-said name taken true_of longer wider =
    let took = taken.taken in
    record {
      right = λ left is.
          let old = so.right (text ++ left) (took.before left is) in
          record {
            text = old.text;
            given_is = old.given_is;
            counted = omega (arith, old.counted, took.room, length-append text left);
            right = one_right (of old.text) shown wide front new stated behind next more after s (text ++ left) left verdict old.right is-next is-said name
                (λ bay e. let (is_true, shows) = true_of (of old.text) bay e in (text, taken.first left is, is_true, shows)) longer wider;
          };
      some = took.some;
    }

-- nothing is taken
pub none_more : (of : List ℕ → Handed) (given : Option (List ℕ)) (limit : ℕ) (shown : List (YardBay × Verdict)) (front : List ℕ) (stated : List BayProblem) (more : List BaySaid)
    (known later : Option (List ℕ)) (u v : Unread) → AreRightSoFar of given limit shown front stated more known u → AreTaken known u [] later v
    → AreRightSoFar of given limit shown front stated more later v
none_more of given limit shown front stated more known later u v so took = record {
  right = λ left is.
      let old = so.right left (took.before left is) in
      record { text = old.text; given_is = old.given_is; counted = omega (arith, old.counted, took.room); right = old.right };
  some = took.some;
}

-- a fault of what may be left
pub refused_with : (of : List ℕ → Handed) (given : Option (List ℕ)) (limit : ℕ) (shown : List (YardBay × Verdict)) (front : List ℕ) (stated : List BayProblem) (more : List BaySaid)
    (known : Option (List ℕ)) (u : Unread) (f : AuditFault) → AreRightSoFar of given limit shown front stated more known u
    → ((text left : List ℕ) → IsLeft known u left → AreRight (of text) shown front stated more left → IsAuditRefusal (of text) shown f) → IsRefusedAt of given shown f
refused_with of given limit shown front stated more known u f so why =
    let (left, is) = so.some in
    let old = so.right left is in (old.text, old.given_is, why old.text left is old.right)

-- more than may be read
too_long_at : (yard : Inventory) (orders : LoadOrders) (sequence : List (List ℕ)) (report : List ℕ) (given : Option (List ℕ)) (limit : ℕ) (shown : List (YardBay × Verdict)) (front : List ℕ)
    (stated : List BayProblem) (more : List BaySaid) (known : Option (List ℕ)) (u : Unread) → AreRightSoFar (handed yard orders sequence report) given limit shown front stated more known u → IsTooLong known u
    → (text : List ℕ) × IsTextOf given text × (limit < length text) × ShowsFirst (handed yard orders sequence report text) shown
too_long_at yard orders sequence report given limit shown front stated more known u so (left, is, long) =
    let old = so.right left is in
    (old.text, old.given_is, omega (arith, long, old.counted), shows_first (handed yard orders sequence report old.text) shown front stated more left old.right)

-- what an audit is stopped by
abbrev pub IsStoppedAt : (List ℕ → Handed) → Option (List ℕ) → ℕ → ℕ → ℕ → List (YardBay × Verdict) → AuditStop → Type 0
IsStoppedAt of given limit before after shown why = (text : List ℕ) × IsTextOf given text × IsAuditStop (of text) limit before after shown why

-- at a bay
pub stopped_at : {i j : ℕ} {x y : Option ℕ} (yard : Inventory) (orders : LoadOrders) (sequence : List (List ℕ)) (report : List ℕ) (given : Option (List ℕ)) (limit before after : ℕ) (shown : List (YardBay × Verdict))
    (front : List ℕ) (stated behind : List BayProblem) (next : BayProblem) (more rest : List BaySaid) (s : BaySaid) (known : Option (List ℕ)) (u : Unread) (why : AuditStop)
    → AreRightSoFar (handed yard orders sequence report) given limit shown front stated more known u → Transfers (failures_of_stop why) i j before after x y
    → stated ≡ next ∷ behind → more ≡ s ∷ rest → s.bay ≡ next.bay
    → StopsAt known u
    (λ left f. (h : Handed) (bay : StackedBay) → next ≡ bay_problem_of h.yard.sizes h.sequence bay → s.bay ≡ bay.0 → (f ≡ fault.Memory) ⊎ IsFaultOf s.said h (reported_as bay s []) left front f) why
    → IsStoppedAt (handed yard orders sequence report) given limit before after shown why
stopped_at yard orders sequence report given limit before after shown front stated behind next more rest s known u (stop.Fault f) so count is-next is-said name (left, is, wrong) =
    let old = so.right left is in
    let h : Handed = handed yard orders sequence report old.text in
    (old.text, old.given_is, refused_bay h shown front stated behind next more rest s left f old.right is-next is-said name (λ bay e called. wrong h bay e called))
stopped_at yard orders sequence report given limit before after shown front stated behind next more rest s known u stop.Failed so count is-next is-said name failed =
    let (left, is) = so.some in
    let old = so.right left is in (old.text, old.given_is, (has_failed count, shows_first (handed yard orders sequence report old.text) shown front stated more left old.right))
stopped_at yard orders sequence report given limit before after shown front stated behind next more rest s known u stop.TooLarge so count is-next is-said name long =
    let (text, given_is, larger, shows) = too_long_at yard orders sequence report given limit shown front stated more known u so long in (text, given_is, (larger, shows))

-- where certificates are not read
pub unread_at : {i j : ℕ} {x y : Option ℕ} (yard : Inventory) (orders : LoadOrders) (sequence : List (List ℕ)) (report : List ℕ) (given : Option (List ℕ)) (limit before after : ℕ) (shown : List (YardBay × Verdict))
    (front : List ℕ) (stated : List BayProblem) (more : List BaySaid) (known : Option (List ℕ)) (u : Unread) (why : ReadFault)
    → AreRightSoFar (handed yard orders sequence report) given limit shown front stated more known u → Transfers (failures_of_read why) i j before after x y → (why ≡ read.TooLarge → IsTooLong known u)
    → IsStoppedAt (handed yard orders sequence report) given limit before after shown (of_read why)
unread_at yard orders sequence report given limit before after shown front stated more known u read.Failed so count long =
    let (left, is) = so.some in
    let old = so.right left is in (old.text, old.given_is, (has_failed count, shows_first (handed yard orders sequence report old.text) shown front stated more left old.right))
unread_at yard orders sequence report given limit before after shown front stated more known u read.TooLarge so count long =
    let (text, given_is, larger, shows) = too_long_at yard orders sequence report given limit shown front stated more known u so (long refl) in (text, given_is, (larger, shows))
unread_at yard orders sequence report given limit before after shown front stated more known u read.Memory so count long =
    refused_with (handed yard orders sequence report) given limit shown front stated more known u fault.Memory so
    (λ text left is right. out_of_memory (handed yard orders sequence report text) shown front stated more left right)

-- some bytes are left
pub some_left : (known : Option (List ℕ)) (u : Unread) (left : List ℕ) → HasMore u → IsLeft known u left → left ≢ []
some_left known u left more is none =
    let long : length left ≡ (length u.piece.items - u.taken) + length is.rest = ap length is.is ∙ length-append (drop u.taken u.piece.items) is.rest ∙ ap (λ n. n + length is.rest) (length-drop u.taken u.piece.items) in
    let zero : length left ≡ 0 = ap length none in
    omega (arith, long, zero, more.0)
