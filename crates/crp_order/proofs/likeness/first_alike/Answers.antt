use Rattle.std.proofs.Common.{◌≡◌, ◌∙◌, ap, sym, true, false, List, [], ℕ, get_or}
use Rattle.std.specs.Str.{bytes_eq}
use denote.Ref.{Bor}
use Rattle.crp_order.specs.Alike.{plain, are_alike}
use Rattle.crp_order.specs.Groups.{pointed}
use Rattle.crp_order.proofs.AbsentSteps.{first-found, none-more, pointed-at}
use Rattle.crp_order.proofs.likeness.first_alike.Goals as goal

pub returns-then-eq : goal.returns-then-eq
returns-then-eq c =
    let d : Bor (List ℕ) = record { ref_ptr = (0, 0); now = [] } in
    let x : List ℕ = (get_or c.args.containers.now c.loop-container.container-index d).now in
    let e : c.eq.result ≡ true = c.if-eq.true in
    let f = c.eq.ensures in
    let a = c.as_slice.ensures.value ∙ c.in_ok-name.ensures in
    let b = c.as_slice-in-loop-container.ensures.value ∙ c.in_ok-other.ensures in
    let passes = ap (λ t. bytes_eq t (plain x)) (sym a) ∙ ap (bytes_eq c.as_slice.result.now) (sym b) ∙ sym f ∙ e in
    sym (first-found (are_alike c.args.name.now) (pointed c.args.containers.now) c.loop-container.container-index x
    (pointed-at c.args.containers.now c.loop-container.container-index d c.loop-container-test.true) c.loop-container.invariant passes)

pub loop-container-preserved : goal.loop-container-preserved
loop-container-preserved c =
    let d : Bor (List ℕ) = record { ref_ptr = (0, 0); now = [] } in
    let x : List ℕ = (get_or c.args.containers.now c.loop-container.container-index d).now in
    let e : c.eq.result ≡ false = c.if-eq.false in
    let f = c.eq.ensures in
    let a = c.as_slice.ensures.value ∙ c.in_ok-name.ensures in
    let b = c.as_slice-in-loop-container.ensures.value ∙ c.in_ok-other.ensures in
    let fails = ap (λ t. bytes_eq t (plain x)) (sym a) ∙ ap (bytes_eq c.as_slice.result.now) (sym b) ∙ sym f ∙ e in
    none-more (are_alike c.args.name.now) (pointed c.args.containers.now) c.loop-container.container-index x
    (pointed-at c.args.containers.now c.loop-container.container-index d c.loop-container-test.true) c.loop-container.invariant fails
