use Rattle.std.proofs.Common.{◌≡◌, ◌≢◌, ◌≤◌, ◌⊎◌, List, ℕ, [], ◌∷◌, ◌++◌, length, sym, ap, ◌∙◌, subst, arith}
use Rattle.std.specs.List.{AllByRecursion}
use Rattle.crp_cert.specs.Settled.{longest_line}
use Rattle.crp_cert.specs.HeadsFed.{IsLineEnd, HasFed}
use Rattle.crp_cert.proofs.Joined.{all_both}
use Rattle.crp_cert.proofs.Heading.{line_ends, placed}
use Rattle.crp_cert.proofs.open_head.OpenHead.read_byte.Goals as goal

pub returns-then-is_judged-clause-fed : goal.returns-then-is_judged-clause-fed
returns-then-is_judged-clause-fed c before at =
    let old : List ℕ = c.args.self.begun.items in
    let new : List ℕ = c.push.new.self.items in
    let added = c.in_ok-push.ensures.items in
    let ends : IsLineEnd new = line_ends old new c.args.byte at.one_line added
    (subst (λ n. (c.args.byte ≡ 10) ⊎ (longest_line ≤ n)) (let e : c.len.result ≡ length new = omega arith in e) (c.is_judged.ensures.judged c.if-is_judged.true)) in
    subst (λ l. HasFed l c.in_ok-fed.fed) (ap (λ l. at.above ++ l) c.deref.ensures.value ∙ placed before at.above old (c.args.byte ∷ []) new at.is added)
    (c.in_ok-fed.ensures.fed at.above at.has (subst IsLineEnd (sym c.deref.ensures.value) ends))

pub returns-clause-fed : goal.returns-clause-fed
returns-clause-fed c before at =
    let old : List ℕ = c.args.self.begun.items in
    let new : List ℕ = c.push.new.self.items in
    let added = c.in_ok-push.ensures.items in
    record {
      above = at.above;
      has = at.has;
      one_line = subst (AllByRecursion (λ b. b ≢ 10)) (sym added)
          (all_both (λ b. b ≢ 10) old (c.args.byte ∷ []) at.one_line (c.is_judged.ensures.goes_on c.if-is_judged.false, tt));
      is = sym (placed before at.above old (c.args.byte ∷ []) new at.is added);
    }
