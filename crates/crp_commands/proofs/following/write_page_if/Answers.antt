use Rattle.std.proofs.Common.{arith, inr, map, refl, rules, subst}
use Rattle.std.specs.Prelude.{Option}
use Rattle.std.proofs.KnownBytes.{Appends-nil}
use Rattle.std.proofs.lemmas.Result.{err_from_is_err_and}
use Rattle.crp_follow.specs.Views.{bay_followed}
use Rattle.crp_loading.specs.Turns.{ShipOrder}
use Rattle.crp_page.specs.Page.{page_text}
use Rattle.crp_page.specs.declared.ordered.OrderNumbers.{OrderNumbers}
use Rattle.crp_report.specs.Runs.{SinkSeen, sink_seen}
use Rattle.crp_jobs.specs.declared.outcome.ToolFault.TheVariants as fault
use Rattle.crp_commands.specs.Follow.{StopsPage, WritesWhole, if_asked, order_for}
use Rattle.crp_commands.proofs.Traced.{asked_front}
use Rattle.crp_commands.proofs.following.write_page_if.Goals as goal

-- memory ran out before the page: nothing of it was written
pub returns-in_err-order-clause-ended : goal.returns-in_err-order-clause-ended
returns-in_err-order-clause-ended g c =
    let p = err_from_is_err_and c.from_residual.result c.from_residual.ensures.1 in
    let page : SinkSeen = sink_seen g.P.Sink.contents g.P.Sink.failures c.args.page.now c.args.page.now in
    rw (p.1, p.2) (inr (refl, asked_front c.args.asked page _ (0, Appends-nil _)))

pub returns-in_err-order-clause-counted : goal.returns-in_err-order-clause-counted
returns-in_err-order-clause-counted g c =
    let p = err_from_is_err_and c.from_residual.result c.from_residual.ensures.1 in
    rw (p.1, p.2) (omega arith)

-- the page has the numbers that were counted, and the order of the ship
pub returns-in-Ok-clause-ended : goal.returns-in-Ok-clause-ended
returns-in-Ok-clause-ended g c =
    let page : SinkSeen = sink_seen g.P.Sink.contents g.P.Sink.failures c.args.page.now c.write_page-written.new.sink in
    let text = λ (n : OrderNumbers) (o : Option ShipOrder). page_text c.args.input.now.yard n o (map bay_followed c.args.followed.now.bays.items) in
    let is : WritesWhole (text c.numbers_for-numbers.result c.in_ok-order.order) (if_asked c.args.asked page) = search rules in
    subst (λ (n : OrderNumbers). WritesWhole (text n (order_for c.args.input.now.ship)) (if_asked c.args.asked page)) c.numbers_for-numbers.ensures
    (subst (λ (o : Option ShipOrder). WritesWhole (text c.numbers_for-numbers.result o) (if_asked c.args.asked page)) c.in_ok-order.ensures is)

pub returns-in-Err-Failed-clause-ended : goal.returns-in-Err-Failed-clause-ended
returns-in-Err-Failed-clause-ended g c =
    let page : SinkSeen = sink_seen g.P.Sink.contents g.P.Sink.failures c.args.page.now c.write_page-written.new.sink in
    let text = λ (n : OrderNumbers) (o : Option ShipOrder). page_text c.args.input.now.yard n o (map bay_followed c.args.followed.now.bays.items) in
    let is : StopsPage (text c.numbers_for-numbers.result c.in_ok-order.order) (if_asked c.args.asked page) fault.WritePage = search rules in
    subst (λ (n : OrderNumbers). StopsPage (text n (order_for c.args.input.now.ship)) (if_asked c.args.asked page) fault.WritePage) c.numbers_for-numbers.ensures
    (subst (λ (o : Option ShipOrder). StopsPage (text c.numbers_for-numbers.result o) (if_asked c.args.asked page) fault.WritePage) c.in_ok-order.ensures is)

pub returns-in-Err-Memory-clause-ended : goal.returns-in-Err-Memory-clause-ended
returns-in-Err-Memory-clause-ended g c =
    let page : SinkSeen = sink_seen g.P.Sink.contents g.P.Sink.failures c.args.page.now c.write_page-written.new.sink in
    let text = λ (n : OrderNumbers) (o : Option ShipOrder). page_text c.args.input.now.yard n o (map bay_followed c.args.followed.now.bays.items) in
    let is : StopsPage (text c.numbers_for-numbers.result c.in_ok-order.order) (if_asked c.args.asked page) fault.Memory = search rules in
    subst (λ (n : OrderNumbers). StopsPage (text n (order_for c.args.input.now.ship)) (if_asked c.args.asked page) fault.Memory) c.numbers_for-numbers.ensures
    (subst (λ (o : Option ShipOrder). StopsPage (text c.numbers_for-numbers.result o) (if_asked c.args.asked page) fault.Memory) c.in_ok-order.ensures is)
