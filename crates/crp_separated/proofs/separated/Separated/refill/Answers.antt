use Rattle.std.proofs.Common.{◌≡◌, ◌∙◌, rules, arith, [], length, take, drop, sym, inl, inr}
use Rattle.crp_separated.specs.Separators.{translated}
use Rattle.crp_separated.proofs.Pieces.{refilled, nothing_stands, drop_all, none_taken}
use Rattle.crp_separated.proofs.separated.Separated.refill.Goals as goal

pub returns-clause-keeps : goal.returns-clause-keeps
returns-clause-keeps g c =
    let s = c.args.self.now.separators in
    let got = take c.in_ok-n.n c.read.new.buf in
    let ready : c.push_translated-self.new.ready.items ≡ translated s.from s.to c.args.self.now.place got = rw c.clear.ensures at c.push_translated-self.ensures.ready in
    let given : drop c.args.self.now.given c.args.self.now.ready.items ≡ [] = drop_all c.args.self.now.given c.args.self.now.ready.items (omega (arith, c.requires.all_given)) in
    rw (ready, c.push_translated-self.ensures.place) (refilled s.from s.to c.args.self.now.place _ got _ _ c.in_ok-n.ensures.bytes.0 given)

pub returns-clause-none : goal.returns-clause-none
returns-clause-none g c = λ none.
    let s = c.args.self.now.separators in
    let got = take c.in_ok-n.n c.read.new.buf in
    let ready : c.push_translated-self.new.ready.items ≡ translated s.from s.to c.args.self.now.place got = rw c.clear.ensures at c.push_translated-self.ensures.ready in
    let size : length c.read.new.buf ≡ 2048 = search rules in
    elim (nothing_stands s.from s.to c.args.self.now.place got (sym ready ∙ none)) [
      | inl e ↦ inl (c.in_ok-n.ensures.bytes.1 (none_taken c.in_ok-n.n c.read.new.buf e (omega (arith, size))) (omega (arith, size)))
      | inr w ↦ inr (w.0, c.push_translated-self.ensures.place ∙ w.1)
    ]
