use Rattle.std.proofs.Common.{◌-◌, length, sym, ap, ◌∙◌}
use Rattle.crp_bay.specs.Back.{PlaceAndTrail}
use Rattle.crp_checker.specs.Pending.{pending, owed_by}
use Rattle.crp_checker.specs.declared.next.Next.{Next}
use Rattle.crp_checker.proofs.owing.Owing.pay.Goals as goal

pub returns-in-Behind : goal.returns-in-Behind
returns-in-Behind c spot owed is =
    let o = c.self.inside in
    let more = length o.path.items - o.above in
    let there = ap (λ (s : PlaceAndTrail). pending more o.path.items s) c.deref_mut.ensures.value in
    let behind = ap (λ (n : Next). owed_by n more o.path.items o.place.value) (sym c.in-Behind.is) in
    c.pay_behind-is_low.ensures.paid spot owed (there ∙ behind ∙ c.self.view_is ∙ is)
