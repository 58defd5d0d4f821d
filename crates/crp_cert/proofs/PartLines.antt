-- Part lines: what is read is what the line says, and a line is read again.
use Rattle.std.proofs.Common.{◌≡◌, ◌≢◌, ℕ, ◌≤◌, List, [], ◌∷◌, ◌++◌, length, All, Some, None, refl, sym, ap, ◌∙◌, subst, append_assoc}
use Rattle.std.specs.Prelude.{codes}
use Rattle.std.specs.List.{AllByRecursion}
use Rattle.std.proofs.lemmas.Option.{same_Some, none-some}
use Rattle.std.proofs.lemmas.List.Elements.{recursion_from_All, All-from_recursion}
use Rattle.crp_plan.specs.Bay.{Problem, IsProblem, Position}
use Rattle.crp_bay.specs.Positions.{at}
use Rattle.crp_bay.proofs.Walked.{at_reads}
use Rattle.crp_tree.specs.Names.{name_text}
use Rattle.crp_cert.specs.Script.{symbols_line}
use Rattle.crp_cert.specs.ScriptFaults.{BeginsWithPart}
use Rattle.crp_cert.specs.Reading.{◌>>=◌, tag_at, newline_at}
use Rattle.crp_cert.specs.PartReading.{line_at, name_at, part_at}
use Rattle.crp_cert.proofs.Numbers.{bind_some, tag_takes, tag_again, newline_takes}
use Rattle.crp_cert.proofs.PartNames.{line_takes, line_again, name_takes, name_again}

-- a part line and what follows it, from behind its first word
abbrev pub behind_word : List ℕ → List ℕ → List ℕ → List ℕ
behind_word name symbols after = name_text name ++ (codes ": " ++ (symbols ++ 10 ∷ after))

-- a part line and what follows it, piece by piece
pub line_then : (name symbols after : List ℕ) → symbols_line name symbols ++ after ≡ codes "part " ++ behind_word name symbols after
line_then name symbols after =
    let text : List ℕ = name_text name in
    ap (λ l. codes "part " ++ l)
    (append_assoc text (codes ": " ++ (symbols ++ 10 ∷ [])) after ∙ ap (λ l. text ++ (codes ": " ++ l)) (append_assoc symbols (10 ∷ []) after))

-- what was read of a part line
pub record IsPartRead (p : Problem) (bytes name symbols after : List ℕ) : Type 0 where
  pub short : length name ≤ 8
  pub place : Position
  pub goes : at p name ≡ Some place
  pub one_line : AllByRecursion (λ b. b ≢ 10) symbols
  pub text : bytes ≡ behind_word name symbols after

-- what is read of a part line is what it says
pub part_takes : (p : Problem) (bytes name symbols after : List ℕ) → part_at p bytes ≡ Some ((name, symbols), after) → IsPartRead p bytes name symbols after
unfolding part_at
part_takes p bytes name symbols after e =
    let n = bind_some (name_at p bytes) (λ n. tag_at (codes ": ") n.1 >>= λ rest. (line_at rest >>= λ line. (newline_at line.1 >>= λ after'. Some ((n.0.0, line.0), after')))) ((name, symbols), after) e in
    let r = bind_some (tag_at (codes ": ") n.0.1) (λ rest. line_at rest >>= λ line. (newline_at line.1 >>= λ after'. Some ((n.0.0.0, line.0), after'))) ((name, symbols), after) n.2 in
    let l = bind_some (line_at r.0) (λ line. newline_at line.1 >>= λ after'. Some ((n.0.0.0, line.0), after')) ((name, symbols), after) r.2 in
    let a = bind_some (newline_at l.0.1) (λ after'. Some ((n.0.0.0, l.0.0), after')) ((name, symbols), after) l.2 in
    let t = name_takes p bytes n.0.0.0 n.0.0.1 n.0.1 n.1 in
    let s = line_takes r.0 l.0.0 l.0.1 l.1 in
    subst (λ (v : (List ℕ × List ℕ) × List ℕ). IsPartRead p bytes v.0.0 v.0.1 v.1) (same_Some ((n.0.0.0, l.0.0), a.0) ((name, symbols), after) a.2)
    (record {
      short = t.0;
      place = n.0.0.1;
      goes = t.1;
      one_line = s.1;
      text = t.2 ∙ ap (λ x. name_text n.0.0.0 ++ x) (tag_takes (codes ": ") n.0.1 r.0 r.1 ∙ ap (λ x. codes ": " ++ x) (s.0 ∙ ap (λ x. l.0.0 ++ x) (newline_takes l.0.1 a.0 a.1)));
    })

-- a part line is read again
pub part_again : (p : Problem) (name symbols after : List ℕ) (t : Position) → IsProblem p → length name ≤ 8 → at p name ≡ Some t → AllByRecursion (λ b. b ≢ 10) symbols →
    part_at p (behind_word name symbols after) ≡ Some ((name, symbols), after)
unfolding part_at
part_again p name symbols after t is few goes one =
    ap (λ o. o >>= λ n. (tag_at (codes ": ") n.1 >>= λ rest. (line_at rest >>= λ line. (newline_at line.1 >>= λ after'. Some ((n.0.0, line.0), after')))))
    (name_again p name t 58 (32 ∷ (symbols ++ 10 ∷ after)) is few goes refl (λ e. cc))
    ∙ ap (λ o. o >>= λ line. (newline_at line.1 >>= λ after'. Some ((name, line.0), after'))) (line_again symbols after one)

-- a part line that bytes begin with is the one that is read
pub part_is : (p : Problem) (bytes : List ℕ) → IsProblem p → (part : BeginsWithPart p (codes "part " ++ bytes)) → part_at p bytes ≡ Some ((part.name, part.symbols), part.after)
part_is p bytes is part =
    ap (part_at p) (same_Some bytes (behind_word part.name part.symbols part.after) (sym (tag_again (codes "part ") bytes) ∙ ap (tag_at (codes "part ")) (part.text ∙ line_then part.name part.symbols part.after) ∙ tag_again (codes "part ") _))
    ∙ part_again p part.name part.symbols part.after part.place is part.short (at_reads p part.name part.place is part.is_at) (recursion_from_All (λ b. b ≢ 10) part.symbols part.one_line)

-- where nothing is read, no part line stands
pub no_part : (p : Problem) (bytes : List ℕ) → IsProblem p → part_at p bytes ≡ None → ¬ BeginsWithPart p (codes "part " ++ bytes)
no_part p bytes is e part = none-some ((part.name, part.symbols), part.after) (sym e ∙ part_is p bytes is part)

-- the part line that was read
pub begins_with : (p : Problem) (bytes name symbols after : List ℕ) → part_at p bytes ≡ Some ((name, symbols), after) →
    (length name ≤ 8) × All (λ b. b ≢ 10) symbols × (codes "part " ++ bytes ≡ symbols_line name symbols ++ after)
begins_with p bytes name symbols after e =
    let r = part_takes p bytes name symbols after e in
    (r.short, All-from_recursion (λ b. b ≢ 10) symbols r.one_line, ap (λ l. codes "part " ++ l) r.text ∙ sym (line_then name symbols after))
