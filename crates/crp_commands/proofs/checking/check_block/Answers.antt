use Rattle.std.proofs.Common.{◌≡◌, ◌+◌, ◌-◌, ◌≤◌, ◌<◌, List, ℕ, length, rules}
use Rattle.std.proofs.lemmas.Result.{err_from_is_err_and}
use Rattle.crp_commands.proofs.SideBySide.{block_goes_on, block_stops, block_too_long, fill_stops, late_read_stops}
use Rattle.crp_commands.proofs.checking.check_block.Goals as goal

pub returns-in_err-more-clause-fault : goal.returns-in_err-more-clause-fault
returns-in_err-more-clause-fault g c =
    let p = err_from_is_err_and c.from_residual.result c.from_residual.ensures.1 in
    rw (p.1, p.2) (fill_stops _ _ c.args.files.now c.args.number.now c.args.left.now _ _ _ _ c.in_err-more.field-0.0 c.in_err-more.ensures.fault)

pub returns-in_err-check_apart-clause-fault : goal.returns-in_err-check_apart-clause-fault
returns-in_err-check_apart-clause-fault g c =
    let p = err_from_is_err_and c.from_residual-in_err-check_apart.result c.from_residual-in_err-check_apart.ensures.1 in
    let block : List ℕ = c.fill.new.block.items in
    let fed = c.min-fed.result in
    let within : fed ≤ length block = search rules in
    let left : fed ≤ c.args.left.now = search rules in
    rw (p.1, p.2)
    (block_stops _ _ _ _ c.args.files.now c.args.number.now c.args.left.now fed (g.R.Source.failures c.args.reader.now) (g.R.Source.failures c.fill.new.reader) _ _ c.deref.result.now block c.in_err-check_apart.field-0.0 c.deref.ensures.value
    within left c.in_ok-more.ensures.got c.in_err-check_apart.ensures.fault)

pub returns-then-fed-len-clause-fault : goal.returns-then-fed-len-clause-fault
returns-then-fed-len-clause-fault g c =
    let block : List ℕ = c.fill.new.block.items in
    let fed = c.min-fed.result in
    let fewer : fed < length block = search rules in
    let all : fed ≡ c.args.left.now = search rules in
    block_too_long _ _ _ _ c.args.files.now c.check_apart.new.files c.args.number.now c.check_apart.new.number c.args.left.now fed (g.R.Source.failures c.args.reader.now) (g.R.Source.failures c.fill.new.reader)
    (g.W.Sink.failures c.args.writer.now) (g.W.Sink.failures c.check_apart.new.writer) c.deref.result.now block c.deref.ensures.value fewer all c.in_ok-more.ensures.got c.in_ok-check_apart.ensures.on

pub returns-in-More-clause-on : goal.returns-in-More-clause-on
returns-in-More-clause-on g c =
    let block : List ℕ = c.fill.new.block.items in
    let fed = c.min-fed.result in
    let all : fed ≡ length block = search rules in
    let fewer : c.args.left.now ≡ (c.args.left.now - c.len-3.result) + length block = search rules in
    block_goes_on _ _ _ _ c.args.files.now c.check_apart.new.files c.args.number.now c.check_apart.new.number c.args.left.now (c.args.left.now - c.len-3.result) fed c.deref.result.now block c.deref.ensures.value all fewer
    c.in_ok-more.ensures.got c.in_ok-check_apart.ensures.on

pub returns-in-Nothing-clause-on : goal.returns-in-Nothing-clause-on
returns-in-Nothing-clause-on g c =
    let block : List ℕ = c.fill.new.block.items in
    let fed = c.min-fed.result in
    let all : fed ≡ length block = search rules in
    let fewer : c.args.left.now ≡ (c.args.left.now - c.len-3.result) + length block = search rules in
    block_goes_on _ _ _ _ c.args.files.now c.check_apart.new.files c.args.number.now c.check_apart.new.number c.args.left.now (c.args.left.now - c.len-3.result) fed c.deref.result.now block c.deref.ensures.value all fewer
    c.in_ok-more.ensures.got c.in_ok-check_apart.ensures.on

pub returns-in-Failure-clause-fault : goal.returns-in-Failure-clause-fault
returns-in-Failure-clause-fault g c =
    let block : List ℕ = c.fill.new.block.items in
    let fed = c.min-fed.result in
    let all : fed ≡ length block = search rules in
    let fewer : c.args.left.now ≡ (c.args.left.now - c.len-3.result) + length block = search rules in
    late_read_stops _ _ _ _ c.args.files.now c.check_apart.new.files c.args.number.now c.check_apart.new.number c.args.left.now (c.args.left.now - c.len-3.result) (g.R.Source.failures c.args.reader.now)
    (g.R.Source.failures c.fill.new.reader) (g.W.Sink.failures c.args.writer.now) (g.W.Sink.failures c.check_apart.new.writer) (c.in_ok-more.ensures.failed c.in-Failure.is)
    (block_goes_on _ _ _ _ c.args.files.now c.check_apart.new.files c.args.number.now c.check_apart.new.number c.args.left.now (c.args.left.now - c.len-3.result) fed c.deref.result.now block c.deref.ensures.value all fewer
    c.in_ok-more.ensures.got c.in_ok-check_apart.ensures.on)
