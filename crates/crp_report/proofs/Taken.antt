-- What a write of one piece says of all three sinks.
use Rattle.std.proofs.Common.{◌≡◌, ◌∙◌, ℕ, ◌≤◌, List, [], ◌∷◌, Option, Result, Ok, Err, IfErr, refl, sym, subst, arith, append-nil, take}
use Rattle.std.specs.Prelude.{OnOk, OnErr, MatchResult}
use Rattle.std.specs.Io.KnownBytes.{Appends}
use Rattle.std.proofs.KnownBytes.{Appends-nil}
use Rattle.crp_plan.specs.Devices.{AppendsPart, most_interruptions}
use Rattle.crp_report.specs.declared.fault.Fault.{Fault}
use Rattle.crp_report.specs.declared.fault.Output.{Output}
use Rattle.crp_report.specs.declared.fault.Output.TheVariants as output
use Rattle.crp_report.specs.declared.writing.RunSinks.{RunSinks}
use Rattle.crp_report.specs.Runs.{failures_of_fault}
use Rattle.crp_report.specs.BayTexts.{AreFailuresCounted, IsWriteOf}
use Rattle.crp_report.specs.Pieces.{piece, bytes_for}
use Rattle.crp_report.specs.Writing.{SinkNow, Sinks, sink_now, AreSameSinks, SinksGet, Writes, StopsWith}

-- what holds of each of the three sinks
pub each_sink : (P : Output → Type 0) → P output.Report → P output.Certificates → P output.YardAfter → (each : Output) → P each
each_sink P report certificates yard output.Report = report
each_sink P report certificates yard output.Certificates = certificates
each_sink P report certificates yard output.YardAfter = yard

-- a sink that holds these bytes, and of which so many calls have failed
abbrev pub holding : Option (List ℕ) → ℕ → SinkNow
holding bytes failures = record { holds = bytes; failures = failures }

-- the three sinks, of which this one changes
abbrev with_sink : Output → SinkNow → SinkNow → SinkNow → ℕ → Sinks
with_sink output.Report own one other passed = record { report = own; certificates = one; yard_after = other; passed = passed }
with_sink output.Certificates own one other passed = record { report = one; certificates = own; yard_after = other; passed = passed }
with_sink output.YardAfter own one other passed = record { report = one; certificates = other; yard_after = own; passed = passed }

-- it got this text of a piece, and the others nothing
piece_got : (to : Output) (n : ℕ) (text : List ℕ) (a b c d : SinkNow) (p q : ℕ) → Appends a.holds b.holds text → a.failures ≤ b.failures
    → AreFailuresCounted n a.failures b.failures p q → q ≤ most_interruptions → SinksGet (piece to text ∷ []) n (with_sink to a c d p) (with_sink to b c d q)
piece_got output.Report n text a b c d p q got grown counted few = record {
  got = each_sink (λ each. Appends (sink_now (with_sink output.Report a c d p) each).holds (sink_now (with_sink output.Report b c d q) each).holds (bytes_for each (piece output.Report text ∷ [])))
      (subst (Appends a.holds b.holds) (sym (append-nil text)) got) (Appends-nil c.holds) (Appends-nil d.holds);
  grown = each_sink (λ each. (sink_now (with_sink output.Report a c d p) each).failures ≤ (sink_now (with_sink output.Report b c d q) each).failures) grown (omega arith) (omega arith);
  counted = omega (arith, counted);
  few = few;
}
piece_got output.Certificates n text a b c d p q got grown counted few = record {
  got = each_sink (λ each. Appends (sink_now (with_sink output.Certificates a c d p) each).holds (sink_now (with_sink output.Certificates b c d q) each).holds (bytes_for each (piece output.Certificates text ∷ [])))
      (Appends-nil c.holds) (subst (Appends a.holds b.holds) (sym (append-nil text)) got) (Appends-nil d.holds);
  grown = each_sink (λ each. (sink_now (with_sink output.Certificates a c d p) each).failures ≤ (sink_now (with_sink output.Certificates b c d q) each).failures) (omega arith) grown (omega arith);
  counted = omega (arith, counted);
  few = few;
}
piece_got output.YardAfter n text a b c d p q got grown counted few = record {
  got = each_sink (λ each. Appends (sink_now (with_sink output.YardAfter a c d p) each).holds (sink_now (with_sink output.YardAfter b c d q) each).holds (bytes_for each (piece output.YardAfter text ∷ [])))
      (Appends-nil c.holds) (Appends-nil d.holds) (subst (Appends a.holds b.holds) (sym (append-nil text)) got);
  grown = each_sink (λ each. (sink_now (with_sink output.YardAfter a c d p) each).failures ≤ (sink_now (with_sink output.YardAfter b c d q) each).failures) (omega arith) (omega arith) grown;
  counted = omega (arith, counted);
  few = few;
}

-- it is the one that changed
own_sink : (to : Output) (a c d : SinkNow) (p : ℕ) → sink_now (with_sink to a c d p) to ≡ a
own_sink output.Report a c d p = refl
own_sink output.Certificates a c d p = refl
own_sink output.YardAfter a c d p = refl

-- a write of a piece is one for all three sinks
pub piece_written : {T : Type 0} (r : Result T Fault) (to : Output) (bytes : List ℕ) (a b c d : SinkNow) (p q : ℕ) → OnOk r (Appends a.holds b.holds bytes)
    → OnErr r (AppendsPart a.holds b.holds bytes) → IfErr r (IsWriteOf to a.failures b.failures)
    → MatchResult r (λ _. AreFailuresCounted 0 a.failures b.failures p q) (λ f. AreFailuresCounted (failures_of_fault f) a.failures b.failures p q)
    → a.failures ≤ b.failures → q ≤ most_interruptions
    → MatchResult r (λ _. Writes (piece to bytes ∷ []) (with_sink to a c d p) (with_sink to b c d q)) (StopsWith (piece to bytes ∷ []) (with_sink to a c d p) (with_sink to b c d q))
piece_written (Ok v) to bytes a b c d p q all part refused counted grown few = piece_got to 0 bytes a b c d p q all grown counted few
piece_written (Err f) to bytes a b c d p q all (n, small, took) (is, failed) counted grown few =
    let one : AreFailuresCounted 1 a.failures b.failures p q = subst (λ g. AreFailuresCounted (failures_of_fault g) a.failures b.failures p q) is counted in
    subst (StopsWith (piece to bytes ∷ []) (with_sink to a c d p) (with_sink to b c d q)) (sym is) (
      record { before = []; failed = piece to bytes; taken = n; not_all = small; behind = [] },
      refl,
      refl,
      piece_got to 1 (take n bytes) a b c d p q took grown one few,
      rw (own_sink to a c d p, own_sink to b c d q) failed,
    )

-- the same sinks as those that were the same
pub same_then : {W C A : Type 0} (a b c : RunSinks W C A) → AreSameSinks a b → AreSameSinks b c → AreSameSinks a c
same_then a b c one two =
    record { report = two.report ∙ one.report; certificates = two.certificates ∙ one.certificates; yard_after = two.yard_after ∙ one.yard_after }
