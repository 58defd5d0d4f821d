use Rattle.std.proofs.Common.{◌≡◌, ◌++◌, ◌∷◌, [], rules, sym, subst}
use Rattle.crp_prices.specs.PriceLists.{AreListed}
use Rattle.crp_prices.proofs.Listed.{listed_more, listed_last}
use Rattle.crp_prices.proofs.list.may_follow.Goals as goal

pub returns-then-not-stands_before : goal.returns-then-not-stands_before
returns-then-not-stands_before c =
    let last = c.in-Some.last.now in let front = c.in-Some._front.now in let e = c.args.entry in
    let all : c.args.entries.now ≡ front ++ last ∷ [] = c.in-Some.ensures.cases.0 in (
      (λ never. absurd (let no = never in cc)),
      (λ listed. absurd (let is = listed_last front last e (subst (λ l. AreListed (l ++ e ∷ [])) all listed) in let yes = c.stands_before.ensures.1 is.0 in search rules)),
    )

pub returns : goal.returns
returns c =
    let last = c.in-Some.last.now in let front = c.in-Some._front.now in let e = c.args.entry in
    let all : c.args.entries.now ≡ front ++ last ∷ [] = c.in-Some.ensures.cases.0 in
    let before = c.stands_before.ensures.0 (search rules) in (
      (λ may. subst (λ l. AreListed (l ++ e ∷ [])) (sym all) (listed_more front last e (subst AreListed all c.requires) before (c.is_priced-2.ensures.0 may))),
      (λ listed. c.is_priced-2.ensures.1 (let is = listed_last front last e (subst (λ l. AreListed (l ++ e ∷ [])) all listed) in is.1)),
    )
