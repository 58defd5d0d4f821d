-- Trees that give nothing away.
use Rattle.std.proofs.Common.{◌≡◌, ℕ, false, List, [], ◌∷◌, ◌++◌, map, Option, Some, None, refl, sym, ap, ◌∙◌}
use Rattle.std.specs.Prelude.{option_map, unwrap_or}
use Rattle.std.specs.List.{list_any}
use Rattle.std.proofs.lemmas.Bool.{or_parts}
use Rattle.std.proofs.lemmas.List.{map-append}
use Rattle.crp_row.specs.Rows.{kind_of, gives_away}
use Rattle.std.proofs.lemmas.List.Folds.{list_any-append}
use Rattle.crp_plan.specs.Bay.{Problem, Position}
use Rattle.crp_bay.specs.Positions.{targets, child, at}
use Rattle.crp_tree.specs.Tree.{Tree, CutB, CutL, CutR, Branch, Given, Trees, no_trees, one_and}
use Rattle.crp_tree.specs.Trees.{nodes, nodes_of_each, given_names}
use Rattle.crp_tree.specs.Symbols.{symbols, symbols_of_each}
use Rattle.crp_tree.specs.Claims.{Part, given_by}
use Rattle.crp_tree.proofs.Nodes.{given_names-append}

mutual
  -- without the symbol of a subtree that is given away there is no given name
  pub none_in : (path : List ℕ) (s : Position) (tree : Tree) → list_any gives_away (map kind_of (symbols tree)) ≡ false → given_names (nodes path s tree) ≡ []
  none_in path s CutB free = refl
  none_in path s CutL free = refl
  none_in path s (CutR bound text) free = refl
  none_in path s Given free = cc
  none_in path s (Branch all) free = none_in_each path s (targets s) all free

  none_in_each : (path : List ℕ) (s : Position) (rows : List ℕ) (all : Trees) → list_any gives_away (map kind_of (symbols_of_each all)) ≡ false → given_names (nodes_of_each path s rows all) ≡ []
  none_in_each path s [] no_trees free = refl
  none_in_each path s [] (one_and tree trees) free = refl
  none_in_each path s (row ∷ rows) no_trees free = refl
  none_in_each path s (row ∷ rows) (one_and tree trees) free =
      let first = map kind_of (symbols tree) in
      let others = map kind_of (symbols_of_each trees) in
      let parts = or_parts (list_any gives_away first) (list_any gives_away others) (sym (list_any-append gives_away first others) ∙ ap (list_any gives_away) (sym (map-append kind_of (symbols tree) (symbols_of_each trees))) ∙ free) in
      given_names-append (nodes (path ++ row ∷ []) (child s row) tree) (nodes_of_each path s rows trees)
      ∙ ap (λ l. l ++ given_names (nodes_of_each path s rows trees)) (none_in (path ++ row ∷ []) (child s row) tree parts.0)
      ∙ none_in_each path s rows trees parts.1

-- so a part of such a tree gives no name
pub none_of : (p : Problem) (x : Part) → list_any gives_away (map kind_of (symbols x.tree)) ≡ false → given_by p x ≡ []
none_of p x free = by (at p x.name)
  where
    by : (o : Option Position) → given_names (unwrap_or (option_map (λ s. nodes x.name s x.tree) o) []) ≡ []
    by None = refl
    by (Some s) = none_in x.name s x.tree free
