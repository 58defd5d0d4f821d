use Rattle.std.proofs.Common.{◌≡◌, ℕ, ◌∙◌, sym, subst, arith, get_or, add-one, ap, [], ◌∷◌, ◌++◌, length, rules, append_assoc}
use Rattle.std.proofs.lemmas.List.{take_all}
use Rattle.crp_bay.specs.Back.{PlaceAndTrail}
use Rattle.crp_bay.specs.Positions.{child, targets}
use Rattle.crp_row.specs.Symbol as symbol
use Rattle.crp_tree.specs.Tree.{Tree, CutB, CutL, CutR, Branch, Given, items, row}
use Rattle.crp_tree.specs.Symbols.{symbols, symbols_of_each, items_row}
use Rattle.crp_tree.specs.Trees.{Fits}
use Rattle.crp_tree.specs.Listed.{AreFit}
use Rattle.crp_tree.proofs.Listed.{fit_push, fit_lengths}
use Rattle.crp_tree.proofs.Followed.{pop_back}
use Rattle.crp_cert.specs.ScriptFaults.{BeginsWithTree}
use Rattle.crp_cert.proofs.Reasons.{Reasons, reasons_reader}
use Rattle.crp_cert.proofs.Symbols.{no_symbol, branch_stops, branch_read, text_push, each_push}
use Rattle.crp_cert.proofs.trees.+read_symbols.Goals as goal

pub returns-in-Some-clause-found : goal.returns-in-Some-clause-found
returns-in-Some-clause-found t c = (CutB, c.in_ok-push.ensures.symbols, tt, search rules)

pub returns-in-Some-after_tag-clause-found : goal.returns-in-Some-after_tag-clause-found
returns-in-Some-after_tag-clause-found t c = (CutL, c.in_ok-push-2.ensures.symbols, tt, search rules)

pub returns-in-Some-after_tag-2-clause-found : goal.returns-in-Some-after_tag-2-clause-found
returns-in-Some-after_tag-2-clause-found t c = (Given, c.in_ok-push-3.ensures.symbols, tt, search rules)

pub returns-in-Some-reasons_of-clause-found : goal.returns-in-Some-reasons_of-clause-found
returns-in-Some-reasons_of-clause-found t c =
    let x : Reasons = (c.in-Some-reasons_of.bound, c.in-Some-reasons_of.text.now) in
    let read = reasons_reader.takes c.args.bytes.now x c.in-Some-reasons_of.rest.now c.in-Some-reasons_of.ensures in
    (CutR x.0 x.1, c.in_ok-push_reasons.ensures.symbols, read.0, read.1)

pub returns-in_default-after_tag-3-clause-none : goal.returns-in_default-after_tag-3-clause-none
returns-in_default-after_tag-3-clause-none t c =
    no_symbol c.args.place.now.place c.args.bytes.now c.in_default.ensures c.in_default-after_tag.ensures c.in_default-after_tag-2.ensures c.in_default-reasons_of.ensures c.in_default-after_tag-3.ensures

pub returns-in_default-2-clause-none : goal.returns-in_default-2-clause-none
returns-in_default-2-clause-none t c =
    let inv = c.loop-target.invariant in
    branch_stops c.args.place.now.place c.args.bytes.now c.as_slice-target-items.result.now inv.trees c.loop-target.target-index 0 c.loop-target.rest.now inv.rows c.loop-target-test.true inv.match inv.text
    (subst (λ v. ¬ BeginsWithTree v c.loop-target.rest.now)
    (ap (λ (v : PlaceAndTrail). v.place) c.if-not-push.ensures.pushed ∙ ap (λ (v : PlaceAndTrail). child v.place (get_or c.as_slice-target-items.result.now c.loop-target.target-index 0)) inv.same)
    ((rw c.in_default-2.is at c.in_ok-after.ensures).none))

pub loop-target-preserved : goal.loop-target-preserved
loop-target-preserved t c =
    let inv = c.loop-target.invariant in
    let row_now : ℕ = get_or c.as_slice-target-items.result.now c.loop-target.target-index 0 in
    let whole = rw c.in-Some-2.is at c.in_ok-after.ensures in
    let tree : Tree = whole.found.0 in
    let next : c.push-in-loop-target.new.self.place ≡ child c.args.place.now.place row_now = ap (λ (v : PlaceAndTrail). v.place) c.if-not-push.ensures.pushed ∙ ap (λ (v : PlaceAndTrail). child v.place row_now) inv.same in
    record {
      same = pop_back c.loop-target.place c.read_symbols.new.place c.pop-popped.new.self row_now c.pop-popped.result (whole.back ∙ c.if-not-push.ensures.pushed)
          (record { popped = c.pop-popped.ensures.popped; none = c.pop-popped.ensures.none }) ∙ inv.same;
      rows = inv.rows;
      trees = inv.trees ++ tree ∷ [];
      match = rw add-one (fit_push c.args.place.now.place c.as_slice-target-items.result.now inv.trees c.loop-target.target-index 0 tree c.loop-target-test.true inv.match (subst (λ v. Fits v tree) next whole.found.2));
      text = text_push c.args.bytes.now inv.trees tree c.loop-target.rest.now c.in-Some-2.after.now inv.text whole.found.3;
      kept = whole.found.1 ∙ ap (λ l. l ++ symbols tree) inv.kept
          ∙ append_assoc c.args.row.now.symbols (symbol.Branch (length c.as_slice-target-items.result.now) ∷ symbols_of_each (row inv.trees)) (symbols tree)
          ∙ ap (λ l. c.args.row.now.symbols ++ symbol.Branch (length c.as_slice-target-items.result.now) ∷ l) (each_push inv.trees tree);
    }

pub returns-clause-found : goal.returns-clause-found
returns-clause-found t c =
    let inv = c.loop-target.invariant in
    let fit = subst (λ l. AreFit c.args.place.now.place l inv.trees) (take_all c.loop-target.target-index c.as_slice-target-items.result.now (omega arith) ∙ inv.rows) inv.match in
    let read = branch_read c.args.place.now.place c.args.bytes.now inv.trees c.loop-target.rest.now fit inv.text in
    let many : length c.as_slice-target-items.result.now ≡ length (items (row inv.trees)) = ap length inv.rows ∙ fit_lengths c.args.place.now.place (targets c.args.place.now.place) inv.trees fit ∙ ap length (sym (items_row inv.trees)) in
    (Branch (row inv.trees), inv.kept ∙ ap (λ n. c.args.row.now.symbols ++ symbol.Branch n ∷ symbols_of_each (row inv.trees)) many, read.0, read.1)
