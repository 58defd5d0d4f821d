use Rattle.std.proofs.Common.{List, ℕ, [], IsTrue, subst}
use Rattle.std.specs.Prelude.{◌↔◌}
use Rattle.crp_plan.specs.BayNames.{YardBay}
use Rattle.crp_movins.specs.Loading.{Loading}
use Rattle.crp_order.specs.OfBays.{IsSequenceOf}
use Rattle.crp_audit.specs.Headline.{handed}
use Rattle.crp_audit.specs.Fitting.{MovesFit}
use Rattle.crp_jobs.specs.OtherSettings.{HasOrders}
use Rattle.crp_jobs.proofs.other_settings.fit_yard.Goals as goal

pub returns : goal.returns
returns g c =
    let known = g.F.Files.known c.args.files.now in
    let yard = c.args.yard.now in
    let orders = c.in_ok-orders.orders in
    let sequence = c.in-Ok.sequence in
    let part = c.in-Ok-part_of.part in
    let whole = c.in_ok-report.report in
    let fit = c.in-Ok-moves_fit.fit in
    let read = c.in_ok-report.ensures in
    record {
      orders = orders;
      sequence = sequence;
      text = read.0;
      report = whole.text.items;
      bays = whole.bays;
      ordered = subst (λ (l : Loading). HasOrders known c.args.names.now l orders) c.loading.ensures c.in_ok-orders.ensures;
      in_sequence = subst (λ (b : List YardBay). IsSequenceOf c.args.mode b yard orders.list sequence) c.bays.ensures c.in-Ok.ensures;
      front = read.1;
      whole = read.2;
      fit_is = subst (λ (s : List (List ℕ)). IsTrue fit ↔ MovesFit (handed yard orders s whole.text.items [])) c.in-Ok-part_of.ensures
          (subst (λ (r : List ℕ). IsTrue fit ↔ MovesFit (handed yard orders part r [])) c.as_slice.ensures.value (c.in-Ok-moves_fit.ensures orders []));
    }
