use Rattle.std.proofs.Common.{List, ℕ, subst}
use Rattle.edi_text.specs.Spelling.{Spells}
use Rattle.crp_jobs.proofs.other_settings.orders_again.Goals as goal

pub returns : goal.returns
returns g c = (
  c.in_ok-text.text.items,
  c.in_ok-text.ensures.front,
  record {
    segments = c.in-Ok.segments;
    spelled = subst (λ (t : List ℕ). Spells t c.in-Ok.segments) c.as_slice.ensures.value c.in-Ok.ensures.list;
    faultless = c.in-Ok-load_orders.ensures.accepted;
    orders_are = c.in-Ok-load_orders.ensures.orders;
  },
)
