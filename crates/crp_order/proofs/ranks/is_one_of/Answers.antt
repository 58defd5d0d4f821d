use Rattle.std.proofs.Common.{◌∙◌, sym}
use Rattle.std.specs.Str.{bytes_eq}
use Rattle.crp_yard.proofs.ListingSteps.{any-map}
use Rattle.crp_order.proofs.Once.{any-turned}
use Rattle.crp_order.proofs.ranks.is_one_of.Goals as goal

pub returns : goal.returns
returns c = c.contains.ensures.value ∙ any-turned c.args.container.now c.args.containers.now ∙ sym (any-map (bytes_eq c.args.container.now) (λ other. other.now) c.args.containers.now)
