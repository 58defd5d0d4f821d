-- What sinks got of pieces, and of more pieces.
use Rattle.std.proofs.Common.{◌≡◌, ◌∙◌, ◌<◌, ◌≤◌, ◌-◌, ℕ, zero, suc, Bool, true, false, List, [], ◌∷◌, ◌++◌, Option, length, take, drop, refl, sym, ap, subst, arith, ⊎_elim, append_assoc, append-nil, length-append, length-drop, take-append-drop}
use Rattle.std.specs.Prelude.{◌^◌, if◌then◌else◌}
use Rattle.std.proofs.KnownBytes.{Appends-nil, Appends-trans}
use Rattle.std.proofs.lemmas.Bool.{cases_lt}
use Rattle.std.proofs.lemmas.Grind.{flat_map-append}
use Rattle.std.specs.Io.KnownBytes.{Appends}
use Rattle.crp_plan.specs.Devices.{AppendsFront, AppendsPart, HasFailed, most_interruptions}
use Rattle.crp_plan.proofs.Fronts.{Appends-front, Appends-part}
use Rattle.crp_report.specs.declared.fault.Fault.{Fault}
use Rattle.crp_report.specs.declared.fault.Fault.TheVariants as fault
use Rattle.crp_report.specs.declared.fault.Output.{Output}
use Rattle.crp_report.specs.declared.fault.Output.TheVariants as output
use Rattle.crp_report.specs.Pieces.{Piece, piece, is_same, bytes_for, Stop, wanted, written}
use Rattle.crp_report.specs.Writing.{Sinks, sink_now, SinksGet, Writes, StopsWith}

-- a device that has failed since, has failed since any time before
pub failed_since : (first before after : ℕ) → first ≤ before → before ≤ after → HasFailed before after → HasFailed first after
failed_since first before after le grows failed = λ small. ⊎_elim (λ lt. let more = failed lt in omega arith) (λ ge. omega arith) (cases_lt before (2 ^ 64 - 1))

-- what a sink gets of pieces and of more pieces
pub more_for : (sink : Output) (pieces more : List Piece) → bytes_for sink (pieces ++ more) ≡ bytes_for sink pieces ++ bytes_for sink more
more_for sink pieces more = flat_map-append _ pieces more

-- ---- one after the other

-- nothing was written
pub gets_nothing : (s : Sinks) → s.passed ≤ most_interruptions → Writes [] s s
gets_nothing s few = record { got = λ each. Appends-nil (sink_now s each).holds; grown = λ each. omega arith; counted = omega arith; few = few }

-- pieces, and then others
pub gets_then : (p q : List Piece) (n : ℕ) (a b c : Sinks) → Writes p a b → SinksGet q n b c → SinksGet (p ++ q) n a c
gets_then p q n a b c first next = record {
  got = λ each. subst (Appends (sink_now a each).holds (sink_now c each).holds) (sym (more_for each p q))
      (Appends-trans (sink_now a each).holds (sink_now b each).holds (sink_now c each).holds _ _ (first.got each) (next.got each));
  grown = λ each. omega (arith, first.grown each, next.grown each);
  counted = omega (arith, first.counted, next.counted);
  few = next.few;
}

-- the first were written, and the others were not all
pub stops_behind : (p q : List Piece) (a b c : Sinks) (f : Fault) → Writes p a b → StopsWith q b c f → StopsWith (p ++ q) a c f
stops_behind p q a b c (fault.Write sink) first (stop, is, to, got, failed) = (
  record { before = p ++ stop.before; failed = stop.failed; taken = stop.taken; not_all = stop.not_all; behind = stop.behind },
  ap (λ l. p ++ l) is ∙ sym (append_assoc p stop.before (stop.failed ∷ stop.behind)),
  to,
  subst (λ l. SinksGet l 1 a c) (sym (append_assoc p stop.before (piece stop.failed.to (take stop.taken stop.failed.bytes) ∷ [])))
      (gets_then p (written stop) 1 a b c first got),
  failed_since (sink_now a sink).failures (sink_now b sink).failures (sink_now c sink).failures (first.grown sink) (got.grown sink) failed,
)
stops_behind p q a b c fault.Memory first (done, behind, is, got) =
    (p ++ done, behind, ap (λ l. p ++ l) is ∙ sym (append_assoc p done behind), gets_then p done 0 a b c first got)
stops_behind p q a b c (fault.Yard f) first none = absurd none
stops_behind p q a b c (fault.Interchange f) first none = absurd none
stops_behind p q a b c (fault.Message f) first none = absurd none
stops_behind p q a b c (fault.Read input) first none = absurd none

-- the first were not all written, so the others stand behind what was
pub stops_before : (p q : List Piece) (a b : Sinks) (f : Fault) → StopsWith p a b f → StopsWith (p ++ q) a b f
stops_before p q a b (fault.Write sink) (stop, is, to, got, failed) = (
  record { before = stop.before; failed = stop.failed; taken = stop.taken; not_all = stop.not_all; behind = stop.behind ++ q },
  ap (λ l. l ++ q) is ∙ append_assoc stop.before (stop.failed ∷ stop.behind) q,
  to,
  got,
  failed,
)
stops_before p q a b fault.Memory (done, behind, is, got) = (done, behind ++ q, ap (λ l. l ++ q) is ∙ append_assoc done behind q, got)
stops_before p q a b (fault.Yard f) none = absurd none
stops_before p q a b (fault.Interchange f) none = absurd none
stops_before p q a b (fault.Message f) none = absurd none
stops_before p q a b (fault.Read input) none = absurd none

-- none of them was written
pub stops_first : (p : List Piece) (s : Sinks) → s.passed ≤ most_interruptions → StopsWith p s s fault.Memory
stops_first p s few = ([], p, refl, gets_nothing s few)

-- ---- a front of all pieces

-- what goes to a sink of a piece
abbrev own : Output → Piece → List ℕ
own sink p = if is_same sink p.to then p.bytes else []

abbrev nothing : List ℕ
nothing = []

take_none : (n : ℕ) → take n nothing ≡ nothing
take_none zero = refl
take_none (suc n) = refl

own_taken : (here : Bool) (n : ℕ) (bytes : List ℕ) → (if here then take n bytes else []) ≡ take n (if here then bytes else [])
own_taken true n bytes = refl
own_taken false n bytes = sym (take_none n)

written_for : (stop : Stop) (sink : Output) → bytes_for sink (written stop) ≡ bytes_for sink stop.before ++ take stop.taken (own sink stop.failed)
written_for stop sink =
    more_for sink stop.before (piece stop.failed.to (take stop.taken stop.failed.bytes) ∷ [])
    ∙ ap (λ l. bytes_for sink stop.before ++ l) (append-nil _ ∙ own_taken (is_same sink stop.failed.to) stop.taken stop.failed.bytes)

wanted_for : (stop : Stop) (sink : Output)
    → bytes_for sink (wanted stop) ≡ (bytes_for sink stop.before ++ take stop.taken (own sink stop.failed)) ++ (drop stop.taken (own sink stop.failed) ++ bytes_for sink stop.behind)
wanted_for stop sink =
    let before : List ℕ = bytes_for sink stop.before in
    let behind : List ℕ = bytes_for sink stop.behind in
    let got : List ℕ = take stop.taken (own sink stop.failed) in
    let rest : List ℕ = drop stop.taken (own sink stop.failed) in
    let halves : got ++ rest ≡ own sink stop.failed = take-append-drop stop.taken (own sink stop.failed) in
    more_for sink stop.before (stop.failed ∷ stop.behind) ∙ ap (λ l. before ++ (l ++ behind)) (sym halves) ∙ ap (λ l. before ++ l) (append_assoc got rest behind)
    ∙ sym (append_assoc before got (rest ++ behind))

-- each sink got a front of what was to go to it
pub stop_front : (stop : Stop) (sink : Output) (a b : Option (List ℕ)) → Appends a b (bytes_for sink (written stop)) → AppendsFront a b (bytes_for sink (wanted stop))
stop_front stop sink a b got = subst (AppendsFront a b) (sym (wanted_for stop sink)) (Appends-front a b _ _ (subst (Appends a b) (written_for stop sink) got))

itself : (sink : Output) → is_same sink sink ≡ true
itself output.Report = refl
itself output.Certificates = refl
itself output.YardAfter = refl

-- and the one whose write failed not all of that
pub stop_part : (stop : Stop) (sink : Output) (a b : Option (List ℕ)) → stop.failed.to ≡ sink → Appends a b (bytes_for sink (written stop)) → AppendsPart a b (bytes_for sink (wanted stop))
stop_part stop sink a b to got =
    let whole : own sink stop.failed ≡ stop.failed.bytes =
    subst (λ (s : Output). own s stop.failed ≡ stop.failed.bytes) to (ap (λ (here : Bool). if here then stop.failed.bytes else []) (itself stop.failed.to)) in
    let rest : List ℕ = drop stop.taken (own sink stop.failed) in
    let more : 0 < length (rest ++ bytes_for sink stop.behind) =
    omega (arith, stop.not_all, ap length whole, length-append rest (bytes_for sink stop.behind), length-drop stop.taken (own sink stop.failed)) in
    subst (AppendsPart a b) (sym (wanted_for stop sink)) (Appends-part a b _ _ more (subst (Appends a b) (written_for stop sink) got))
