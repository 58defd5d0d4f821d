-- What the end of a line of symbols means for the part line.
use Rattle.std.proofs.Common.{◌≡◌, ◌≢◌, ℕ, ◌≤◌, List, [], ◌++◌, length, All, refl, sym, ap, ◌∙◌, subst, append-nil}
use Rattle.crp_plan.specs.Bay.{Problem, IsProblem, Position, IsAt}
use Rattle.crp_tree.specs.Trees.{nodes, given_names}
use Rattle.crp_tree.specs.Claims.{Part, nodes_in}
use Rattle.crp_tree.proofs.Accepted.{nodes_are}
use Rattle.crp_cert.specs.declared.version.Version.{Version}
use Rattle.crp_cert.proofs.PartTests.{can_spell}
use Rattle.crp_cert.specs.Script.{symbols_of, symbols_line}
use Rattle.crp_cert.specs.ScriptFaults.{ComesAfter, BeginsWithPart}
use Rattle.crp_checker.specs.declared.line_end.LineEnd.{LineEnd}
use Rattle.crp_checker.specs.declared.line_end.LineEnd.TheVariants.{Unknown, Trailing, Unfinished, Whole}
use Rattle.crp_checker.specs.Gathered.{gathered}
use Rattle.crp_checker.specs.Symbols.{IsFirstOf}
use Rattle.crp_checker.specs.Ends.{IsEndOfSymbols}
use Rattle.crp_checker.specs.PartEnds.{IsPartEnd}

-- what the symbols of a part line are found to be is what the definitions of certificates say of the line
pub part_lines_end : (need : List ℕ → ℕ) (version : Version) (p : Problem) (parts : List Part) (line : ℕ) (name : List ℕ) (place : Position) (symbols after : List ℕ) (end : LineEnd) → IsProblem p → length name ≤ 8 → IsAt p name place →
    All (λ b. b ≢ 10) symbols → ComesAfter parts name → IsEndOfSymbols need version (record { path = name; place = place }) symbols end → IsPartEnd need version p parts line name (symbols_line name symbols ++ after) after end
part_lines_end need version p parts line name place symbols after end is short is_at one_line comes = by_end end
  where
    begins : BeginsWithPart p (symbols_line name symbols ++ after)
    begins = record { name = name; short = short; place = place; is_at = is_at; symbols = symbols; one_line = one_line; after = after; text = refl }

    by_end : (end : LineEnd) → IsEndOfSymbols need version (record { path = name; place = place }) symbols end → IsPartEnd need version p parts line name (symbols_line name symbols ++ after) after end
    by_end Unknown e = (refl, (begins, comes, e))
    by_end Trailing e = (refl, (begins, comes, e.0, e.1))
    by_end Unfinished e = (refl, (begins, comes, e.0, e.1))
    by_end (Whole wrong given) e =
        let w = e.1 in
        let part : Part = record { name = name; tree = w.tree } in
        let same : nodes_in p part ≡ nodes name place w.tree = nodes_are p part place is is_at in
        record {
          part = part;
          named = refl;
          readable = record { short = short; place = place; is_at = is_at; fits = w.fits; not_given = w.not_given; can_spell = can_spell version place w.tree symbols [] w.fits (w.symbols_are ∙ sym (append-nil (symbols_of w.tree))) e.0 };
          in_order = comes;
          text = ap (λ l. symbols_line name l ++ after) w.symbols_are;
          wrong_is = subst (λ l. IsFirstOf need l wrong) (sym same) w.wrong_is;
          given_are = w.given_are ∙ sym (ap (λ l. gathered (given_names l)) same);
        }
