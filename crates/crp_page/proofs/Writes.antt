-- Texts that a sink gets one after the other.
use Rattle.std.proofs.Common.{◌≡◌, ◌∙◌, ◌≤◌, ℕ, ◌+◌, List, [], ◌++◌, Option, Some, None, length, take, sym, ap, subst, arith, append-nil, append_assoc, length-append, ⊎_elim}
use Rattle.std.specs.Prelude.{Result, Ok, Err, OnOk, IsErrOf, IfSome, IfNone}
use Rattle.std.specs.Io.KnownBytes.{Appends}
use Rattle.std.proofs.KnownBytes.{Appends-nil, Appends-trans}
use Rattle.std.proofs.lemmas.List.{take-append-le, take_all}
use Rattle.std.proofs.Math.Seq.{take-append-add}
use Rattle.std.proofs.lemmas.Bool.{cases_lt}
use Rattle.crp_plan.specs.Devices.{AppendsPart, most_interruptions}
use Rattle.crp_plan.proofs.Fronts.{Appends-front, Appends-then_part}
use Rattle.crp_plan.proofs.Interruptions.{no_transfer, transfers_on}
use Rattle.crp_plan.specs.declared.transfer.WriteFault.{WriteFault}
use Rattle.crp_plan.specs.declared.transfer.WriteFault.TheVariants as fault
use Rattle.crp_page.specs.Writing.{Calls, SinkNow, Writes, Got, Stops, Wrote}

-- nothing was written
pub writes_nothing : (a : SinkNow) → a.passed ≤ most_interruptions → Writes [] a a
writes_nothing a few = record { got = Appends-nil a.holds; calls = no_transfer a.passed a.failures a.interrupted few }

-- one text, and then another
pub writes_then : (p q : List ℕ) (a b c : SinkNow) → Writes p a b → Writes q b c → Writes (p ++ q) a c
writes_then p q a b c first next = record { got = Appends-trans a.holds b.holds c.holds p q first.got next.got; calls = transfers_on first.calls next.calls }

pub writes_more : (all p q : List ℕ) (a b c : SinkNow) → all ≡ p ++ q → Writes p a b → Writes q b c → Writes all a c
writes_more all p q a b c is first next = subst (λ l. Writes l a c) (sym is) (writes_then p q a b c first next)

-- a text that is the same
pub writes_as : {p q : List ℕ} {a b : SinkNow} → p ≡ q → Writes p a b → Writes q a b
writes_as {p} {q} {a} {b} same w = subst (λ l. Writes l a b) same w

pub stops_as : {p q : List ℕ} {a b : SinkNow} {f : WriteFault} → p ≡ q → Stops p a b f → Stops q a b f
stops_as {p} {q} {a} {b} {f} same w = subst (λ l. Stops l a b f) same w

-- a front of what follows a text
front_behind : (f : WriteFault) (a b c : Option (List ℕ)) (p q : List ℕ) → Appends a b p → Got f b c q → Got f a c (p ++ q)
front_behind fault.Failed a b c p q first next = subst (AppendsPart a c) (ap (λ l. p ++ l) (append-nil q)) (Appends-then_part a b c p q [] first next)
front_behind fault.Memory a b c p q first (n, next) =
    (length p + n, subst (Appends a c) (sym (take-append-add p q n)) (Appends-trans a b c p (take n q) first next))

-- the first was written, and a front of the other
pub stops_behind : (p q : List ℕ) (a b c : SinkNow) (f : WriteFault) → Writes p a b → Stops q b c f → Stops (p ++ q) a c f
stops_behind p q a b c f first next = record { got = front_behind f a.holds b.holds c.holds p q first.got next.got; calls = transfers_on first.calls next.calls }

-- a front of a text is one of a longer text
front_before : (f : WriteFault) (a b : Option (List ℕ)) (p q : List ℕ) → Got f a b p → Got f a b (p ++ q)
front_before fault.Failed a b p q (n, small, got) =
    let low : n ≤ length p = omega arith in
    (n, omega (arith, small, length-append p q), subst (Appends a b) (sym (take-append-le n p q low)) got)
front_before fault.Memory a b p q (n, got) =
    ⊎_elim (λ lt. let low : n ≤ length p = omega arith in (n, subst (Appends a b) (sym (take-append-le n p q low)) got))
    (λ ge. Appends-front a b p q (subst (Appends a b) (take_all n p ge) got)) (cases_lt n (length p))

-- a front of the first was written
pub stops_before : (p q : List ℕ) (a b : SinkNow) (f : WriteFault) → Stops p a b f → Stops (p ++ q) a b f
stops_before p q a b f first = record { got = front_before f a.holds b.holds p q first.got; calls = first.calls }

-- the first was written, and a front of the second; more was to follow
pub stops_within : (all p q rest : List ℕ) (a b c : SinkNow) (f : WriteFault) → all ≡ (p ++ q) ++ rest → Writes p a b → Stops q b c f → Stops all a c f
stops_within all p q rest a b c f is first next = subst (λ l. Stops l a c f) (sym is) (stops_before (p ++ q) rest a c f (stops_behind p q a b c f first next))

-- nothing was written yet
pub stops_first : (p : List ℕ) (a : SinkNow) → a.passed ≤ most_interruptions → Stops p a a fault.Memory
stops_first p a few = record { got = (0, Appends-nil a.holds); calls = no_transfer a.passed a.failures a.interrupted few }

-- one text, and then what was written of another
pub wrote_then : {T : Type 0} (r : Result T WriteFault) (p q : List ℕ) (a b c : SinkNow) → Writes p a b → Wrote r q b c → Wrote r (p ++ q) a c
wrote_then (Ok t) p q a b c first next = writes_then p q a b c first next
wrote_then (Err f) p q a b c first next = stops_behind p q a b c f first next

-- ---- what that says of the sink

pub got_all : {T : Type 0} (r : Result T WriteFault) (text : List ℕ) (a b : SinkNow) → Wrote r text a b → OnOk r (Appends a.holds b.holds text)
got_all (Ok t) text a b w = w.got
got_all (Err f) text a b w = tt

pub calls_all : {T : Type 0} (r : Result T WriteFault) (text : List ℕ) (a b : SinkNow) → Wrote r text a b → OnOk r (Calls 0 a b)
calls_all (Ok t) text a b w = w.calls
calls_all (Err f) text a b w = tt

pub stopped : {T : Type 0} (r : Result T WriteFault) (f : WriteFault) (text : List ℕ) (a b : SinkNow) → Wrote r text a b → IsErrOf r f → Stops text a b f
stopped r f text a b w is = subst (λ x. Wrote x text a b) is w

-- ---- a text that is written up to here, and what follows it

pub record WritesUpTo (whole rest : List ℕ) (a b : SinkNow) : Type 0 where
  pub front : List ℕ
  pub whole_is : whole ≡ front ++ rest
  pub wrote : Writes front a b

pub nothing_yet : (whole rest : List ℕ) (a : SinkNow) → whole ≡ rest → a.passed ≤ most_interruptions → WritesUpTo whole rest a a
nothing_yet whole rest a is few = record { front = []; whole_is = is; wrote = writes_nothing a few }

pub one_text_more : (whole rest text later : List ℕ) (a b c : SinkNow) → WritesUpTo whole rest a b → rest ≡ text ++ later → Writes text b c → WritesUpTo whole later a c
one_text_more whole rest text later a b c so is next = record {
  front = so.front ++ text;
  whole_is = so.whole_is ∙ ap (λ l. so.front ++ l) is ∙ sym (append_assoc so.front text later);
  wrote = writes_then so.front text a b c so.wrote next;
}

pub all_written : (whole rest : List ℕ) (a b : SinkNow) → WritesUpTo whole rest a b → rest ≡ [] → Writes whole a b
all_written whole rest a b so none = writes_as (sym (so.whole_is ∙ ap (λ l. so.front ++ l) none ∙ append-nil so.front)) so.wrote

-- memory runs out before the next text is made, or the next text is not written
pub stops_here : (whole rest : List ℕ) (a b : SinkNow) → WritesUpTo whole rest a b → b.passed ≤ most_interruptions → Stops whole a b fault.Memory
stops_here whole rest a b so few = stops_as (sym so.whole_is) (stops_behind so.front rest a b b fault.Memory so.wrote (stops_first rest b few))

pub stops_next : (whole rest text later : List ℕ) (a b c : SinkNow) (f : WriteFault) → WritesUpTo whole rest a b → rest ≡ text ++ later → Stops text b c f → Stops whole a c f
stops_next whole rest text later a b c f so is next =
    stops_as (sym (so.whole_is ∙ ap (λ l. so.front ++ l) is)) (stops_behind so.front (text ++ later) a b c f so.wrote (stops_before text later b c f next))

-- what holds of what is there, and where nothing is
pub at_some : {A : Type 0} (P : A → Type 0) {o : Option A} {x : A} → o ≡ Some x → IfSome o P → P x
at_some P e h = subst (λ o. IfSome o P) e h

pub at_none : {A : Type 0} (P : Type 0) {o : Option A} → o ≡ None → IfNone o P → P
at_none P e h = subst (λ o. IfNone o P) e h
