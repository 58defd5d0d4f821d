use Rattle.std.proofs.Common.{◌≡◌, ◌++◌, All, length, ap, ◌∙◌, subst, arith}
use Rattle.crp_tree.specs.Trees.{nodes, IsInPlace}
use Rattle.crp_search.proofs.walking.walk.Goals as goal

pub giving-requires-clause-part : goal.giving-requires-clause-part
giving-requires-clause-part g c =
    let path : c.try_extend_from_slice.new.self.items ≡ c.args.name = c.in-Ok.ensures.ok ∙ ap (λ l. l ++ c.rows.result.now) c.new-path.ensures ∙ c.rows.ensures.value in
    record {
      short = omega (arith, c.rows.ensures.few, ap length c.rows.ensures.value);
      place = c.in-Some.place.place;
      is_at = c.in-Some.ensures.at;
      shape = record {
        fits = c.in_ok-found.ensures.fits;
        in_place = subst (λ l. All IsInPlace (nodes l c.in-Some.place.place c.in_ok-found.found.tree)) path (g.met.S.Seek.placed c.args.problem.now c.min.result _ _ _ _ _ c.in_ok-found.ensures.met);
        not_given = c.in_ok-found.ensures.own;
      };
    }
