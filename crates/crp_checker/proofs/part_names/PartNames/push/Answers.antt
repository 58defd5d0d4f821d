use Rattle.std.proofs.Common.{ℕ, ◌≤◌, List, length, sym, subst, All, AllPairs}
use Rattle.std.proofs.lemmas.List.Quantifiers.{all_pairs_push}
use Rattle.std.proofs.lemmas.List.Elements.{All-push}
use Rattle.crp_tree.specs.Names.{Precedes}
use Rattle.crp_checker.proofs.part_names.PartNames.push.Goals as goal

pub invariant_of-self-2 : goal.invariant_of-self-2
invariant_of-self-2 c =
    let names : List (List ℕ) = c.self.inside.names.items in (
      subst (AllPairs Precedes) (sym c.in_ok-push.ensures.items) (all_pairs_push Precedes names c.args.name c.self.invariant.0 (subst (All (λ other. Precedes other c.args.name)) (sym c.self.view_is) c.requires)),
      subst (All (λ name. length name ≤ 8)) (sym c.in_ok-push.ensures.items) (All-push (λ name. length name ≤ 8) names c.args.name c.self.invariant.1 (subst (λ n. length n ≤ 8) c.rows-rows.ensures.value c.rows-rows.ensures.few)),
    )
