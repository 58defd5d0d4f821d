use Rattle.std.proofs.Common.{◌≡◌, ◌≤◌, refl, sym, subst, arith}
use Rattle.std.specs.Prelude.{◌/◌, ◌%◌, slice_index}
use Rattle.crp_prices.specs.PriceTable.{price_in}
use Rattle.crp_prices.specs.PriceLists.{listed_price}
use Rattle.crp_prices.proofs.Gathered.{AreGathered, gathered_on, gathered_more, gathered_all, priced_at}
use Rattle.crp_prices.proofs.list.PriceList.of.Goals as goal
use Rattle.crp_prices.proofs.list.PriceList.of.Goals.{then-price-gt0+in_ok-push, else-price-gt0}

pub loop-i-preserved : goal.loop-i-preserved
loop-i-preserved c =
    elim c.if-price-gt0.branch [
      | then-price-gt0+in_ok-push w ↦
          rw (w.entries-is, w.in_ok-push.ensures.items)
          (gathered_more c.table-price-items.result.now c.loop-i.i c.loop-i.entries.items (record { rank = c.loop-i.i / 97; turn = c.loop-i.i % 97; price = slice_index c.table-price-items.result.now c.loop-i.i })
          c.loop-i.invariant
          (priced_at c.table-price-items.result.now c.loop-i.i (omega (arith, c.loop-i-test.true, c.table-price-items.ensures.long)) w.if-price-gt0.true (λ rank turn. subst (λ t. price_in t rank turn ≤ 9999) (sym c.table-price-items.ensures.value) (c.table-price-items.ensures.few rank turn)))
          (omega arith) refl)
      | else-price-gt0 w ↦
          rw w.entries-is (gathered_on c.table-price-items.result.now c.loop-i.i c.loop-i.entries.items c.loop-i.invariant (omega (arith, w.if-price-gt0.false)))
    ]

pub returns : goal.returns
returns c = λ rank turn. subst (λ t. listed_price c.loop-i.entries.items rank turn ≡ price_in t rank turn) c.table-price-items.ensures.value
    (gathered_all c.table-price-items.result.now c.loop-i.entries.items (subst (λ n. AreGathered c.table-price-items.result.now n c.loop-i.entries.items) (omega (arith, c.loop-i.auto.i-end, c.loop-i-test.false, c.table-price-items.ensures.long)) c.loop-i.invariant) rank turn)
