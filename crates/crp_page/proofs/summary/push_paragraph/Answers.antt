use Rattle.std.proofs.Common.{◌≡◌, ◌∙◌, ◌-◌, length, map, ap, arith, append_assoc}
use Rattle.std.specs.Prelude.{sum_by}
use Rattle.std.proofs.lemmas.List.{length-map}
use Rattle.crp_follow.specs.Views.{bay_followed}
use Rattle.crp_page.specs.Counts.{takes_in}
use Rattle.crp_page.proofs.summary.push_paragraph.Goals as goal

pub returns : goal.returns
returns c =
    let bays = c.args.followed.now.bays.items in
    let takes = ap (λ s. s.takes) c.sums_of-takes.ensures.value ∙ ap (λ l. sum_by takes_in (map bay_followed l)) c.deref.ensures.value in
    let others : c.saturating_sub-others.result ≡ c.args.count - length (map bay_followed bays) = omega (arith, length-map bays bay_followed) in
    rw (
      c.in_ok-extend_from_slice-4.ensures.items,
      c.in_ok-push_counted.ensures,
      c.in_ok-extend_from_slice-3.ensures.items,
      c.in_ok-push_taken.ensures,
      c.in_ok-extend_from_slice-2.ensures.items,
      c.in_ok-push_ordered_by.ensures,
      c.in_ok-extend_from_slice.ensures.items,
      c.numbers_in.ensures,
      takes,
      others,
    ) (simp append_assoc)
