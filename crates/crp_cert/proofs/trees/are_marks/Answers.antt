use Rattle.std.proofs.Common.{◌≡◌, ◌⊎◌, ⊎_elim, ℕ, false, List, ◌∷◌, None, sym, ap, ◌∙◌}
use Rattle.crp_cert.specs.declared.version.Version.{Version}
use Rattle.crp_cert.specs.declared.version.Version.TheVariants.{One, Two, Three}
use Rattle.crp_cert.specs.Reading.{reasons_at}
use Rattle.crp_cert.specs.PartReading.{symbol_test, marks_test}
use Rattle.crp_cert.proofs.PartTests.{test_reasons, test_none}
use Rattle.crp_cert.proofs.Reasons.{shorter}
use Rattle.crp_cert.proofs.trees.are_marks.Goals as goal

-- versions 1 and 2 spell no reasons
early : (version : Version) → (version ≡ One) ⊎ (version ≡ Two) → version ≡ Three → ⊥
early version is three = ⊎_elim (λ e. let f : One ≡ Three = sym e ∙ three in cc) (λ e. let f : Two ≡ Three = sym e ∙ three in cc) is

-- behind a byte that spells nothing the test fails
fails_at : (version : Version) (b : ℕ) (behind rest bytes : List ℕ) → rest ≡ b ∷ behind → symbol_test b ≡ false → (version ≡ Three → reasons_at (b ∷ behind) ≡ None) → marks_test version rest ≡ marks_test version bytes → false ≡ marks_test version bytes
fails_at version b behind rest bytes is no' none same = sym (test_none version b behind no' none) ∙ ap (marks_test version) (sym is) ∙ same

pub returns-in-One : goal.returns-in-One
returns-in-One c =
    fails_at c.args.version c.in-Some.byte.now c.in-Some.behind.now c.loop-byte.rest.now c.args.bytes.now c.in-Some.ensures.cases.0 (sym c.is_symbol.ensures ∙ c.if-is_symbol.false) (λ three. absurd (early c.args.version c.in-One.is three)) c.loop-byte.invariant

pub returns-in_default-reasons_of : goal.returns-in_default-reasons_of
returns-in_default-reasons_of c =
    let is = c.in-Some.ensures.cases.0 in
    fails_at c.args.version c.in-Some.byte.now c.in-Some.behind.now c.loop-byte.rest.now c.args.bytes.now is (sym c.is_symbol.ensures ∙ c.if-is_symbol.false) (λ three. ap reasons_at (sym is) ∙ c.in_default-reasons_of.ensures) c.loop-byte.invariant

pub loop-byte-smaller : goal.loop-byte-smaller
loop-byte-smaller c = shorter c.loop-byte.rest.now _ c.in-Some-reasons_of.behind.now c.in-Some-reasons_of.ensures

pub loop-byte-preserved : goal.loop-byte-preserved
loop-byte-preserved c = sym (test_reasons c.args.version c.loop-byte.rest.now _ c.in-Some-reasons_of.behind.now c.in-Three.is c.in-Some-reasons_of.ensures) ∙ c.loop-byte.invariant
