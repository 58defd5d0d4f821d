use Rattle.std.proofs.Common.{◌≡◌, ◌∙◌, ◌++◌, ◌∷◌, [], List, All, None, ap, sym, subst}
use Rattle.std.specs.List.{IsDistinct}
use Rattle.std.proofs.lemmas.List.Elements.{All-push}
use Rattle.indexmap.proofs.CallerLemmas.{insert_entry-new}
use Rattle.crp_plan.specs.BayNames.{same_bay}
use Rattle.crp_sizes.specs.Heights.{CanBeHeights}
use Rattle.crp_sizes.specs.Sizes.{BaySize, YardSizes, heights_of}
use Rattle.crp_sizes.proofs.SizeSteps.{names, once_more}
use Rattle.crp_sizes.proofs.sizes.Sizes.push.Goals as goal

pub invariant_of-self-2 : goal.invariant_of-self-2
invariant_of-self-2 c =
    let entries = c.self.inside.listed.entries in
    let size : BaySize = (c.args.bay, c.args.heights) in
    let absent : heights_of entries c.args.bay ≡ None = ap (λ (sizes : YardSizes). heights_of sizes.listed c.args.bay) c.self.view_is ∙ c.requires.fresh in
    let added : c.insert.new.self.entries ≡ entries ++ size ∷ [] = c.in_ok-insert.ensures.entries ∙ insert_entry-new same_bay c.self.inside.listed c.args.bay c.args.heights absent in
    record {
      common = c.self.invariant.common;
      listed = subst (λ (l : List BaySize). All (λ size. CanBeHeights size.1) l) (sym added) (All-push (λ (size : BaySize). CanBeHeights size.1) entries size c.self.invariant.listed c.requires.heights);
      once = subst (λ (l : List BaySize). IsDistinct same_bay (names l)) (sym added) (once_more entries size c.self.invariant.once absent);
    }

pub returns-clause-sizes : goal.returns-clause-sizes
returns-clause-sizes c = invariant_of-self-2 c

pub returns-clause-added : goal.returns-clause-added
returns-clause-added c =
    let absent : heights_of c.self.inside.listed.entries c.args.bay ≡ None = ap (λ (sizes : YardSizes). heights_of sizes.listed c.args.bay) c.self.view_is ∙ c.requires.fresh in
    c.in_ok-insert.ensures.entries ∙ insert_entry-new same_bay c.self.inside.listed c.args.bay c.args.heights absent
    ∙ ap (λ (sizes : YardSizes). sizes.listed ++ (c.args.bay, c.args.heights) ∷ []) c.self.view_is
