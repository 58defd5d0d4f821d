use Rattle.std.proofs.Common.{◌≡◌, ◌<◌, ◌∙◌, arith, true, ℕ, List, ◌∷◌, length, sym, ap}
use Rattle.std.proofs.lemmas.Bool.{eqb-false}
use Rattle.std.specs.Io.KnownBytes.{Keeps}
use Rattle.crp_separated.specs.Given.{unmarked}
use Rattle.crp_separated.proofs.Marks.{first_taken, first_given, first_set}
use Rattle.crp_separated.proofs.unmarked.UnmarkedSource.read.Goals as goal

pub returns-then-not-is_empty-clause-bytes : goal.returns-then-not-is_empty-clause-bytes
returns-then-not-is_empty-clause-bytes g c =
    let a = c.args.self.now in
    let s = c.look_at_front.new.self in
    let left = c.remove.new.self.items in
    let r = c.remove.result in
    let some : 0 < length s.front.items = omega (arith, eqb-false _ _ (sym c.is_empty-2.ensures ∙ c.if-not-is_empty.true)) in
    let first : s.front.items ≡ r ∷ left = first_taken s.front.items r some c.remove.ensures.value ∙ ap (λ (l : List ℕ). r ∷ l) (sym c.remove.ensures.items) in
    let room : 0 < length c.args.buf.now = omega (arith, eqb-false _ _ (sym c.is_empty.ensures ∙ c.if-is_empty.false)) in
    let keeps : Keeps (unmarked a.looked a.front.items (g.R.Source.remaining a.source)) (unmarked true s.front.items (g.R.Source.remaining s.source)) = rw c.in_ok-look_at_front.ensures.looked at c.in_ok-look_at_front.ensures.keeps in
    (rw (first_set c.args.buf.now r room, c.in_ok-look_at_front.ensures.looked) (first_given s.front.items left r _ (g.R.Source.remaining s.source) keeps first), λ e. absurd (cc e))
