-- What the symbols of a part line lead to, and what its end does.
use Rattle.std.proofs.Common.{◌≡◌, ◌≢◌, ℕ, suc, ◌+◌, ◌-◌, ◌^◌, List, [], ◌∷◌, ◌++◌, length, min, All, Option, Some, None, refl, sym, ap, ◌∙◌, subst, arith, append_assoc, length-append}
use Rattle.std.specs.Prelude.{codes}
use Rattle.std.specs.List.{AllByRecursion, flat_map}
use Rattle.std.proofs.lemmas.List.{append-nil, map-append}
use Rattle.std.proofs.lemmas.List.Elements.{All-from_recursion}
use Rattle.std.proofs.lemmas.Grind.{flat_map-append}
use Rattle.crp_plan.specs.Bay.{Problem, IsProblem}
use Rattle.crp_tree.specs.Names.{Precedes, name_text}
use Rattle.crp_tree.specs.Claims.{Part, names, given_by}
use Rattle.crp_cert.specs.declared.fault.CertFault.{CertFault}
use Rattle.crp_cert.specs.declared.fault.CertFault.TheVariants as faults
use Rattle.crp_cert.specs.declared.version.Version.{Version}
use Rattle.crp_cert.specs.declared.script.Script.{Script}
use Rattle.crp_cert.specs.Script.{symbols_line, part_line}
use Rattle.crp_cert.specs.ScriptFaults.{BeginsWithParts, IsLineFault}
use Rattle.crp_cert.specs.PartReading.{AreParts}
use Rattle.crp_cert.specs.Settled.{spelled_name, BeginsWithBay}
use Rattle.crp_cert.proofs.Heads.{first_few}
use Rattle.crp_cert.proofs.Joined.{all_both}
use Rattle.crp_cert.proofs.NameOrder.{few_parts}
use Rattle.crp_cert.proofs.Opening.{begins_on, line_fault}
use Rattle.crp_cert.proofs.PartFaults.{parts_push, tells_parts}
use Rattle.crp_checker.specs.Gathered.{Gathered, gathered, joined}
use Rattle.crp_checker.proofs.Gathering.{gathered_joined}
use Rattle.crp_checker.specs.declared.findings.Findings.{Findings}
use Rattle.crp_checker.specs.declared.need.Need.{Need}
use Rattle.crp_checker.specs.declared.line.SymbolLine.{SymbolLine}
use Rattle.crp_checker.specs.declared.line_end.LineEnd.{LineEnd}
use Rattle.crp_checker.specs.declared.refused.Refused.{Refused}
use Rattle.crp_checker.specs.declared.refused.Refused.TheVariants as refused
use Rattle.crp_checker.specs.declared.wrong.Wrong.{Wrong}
use Rattle.crp_checker.specs.declared.wrong.Wrong.TheVariants as wrong
use Rattle.crp_checker.specs.Refusals.{nodes_by_name, named_nodes, IsRightPart, need_in, HasRightHead, IsFirstWrongNode}
use Rattle.crp_checker.specs.Nodes.{need_of, IsLow, IsAtEnd, IsUnshown, IsFirstWrong}
use Rattle.crp_checker.specs.Openings.{part_word, named_line}
use Rattle.crp_tree.specs.Spots.{Spot}
use Rattle.crp_checker.specs.Symbols.{IsFirstOf}
use Rattle.crp_checker.specs.Kept.{need_by}
use Rattle.crp_checker.specs.Lines.{LineIs}
use Rattle.crp_checker.specs.Ends.{IsEndOfSymbols}
use Rattle.crp_checker.specs.PartEnds.{IsNextPart, IsPartEnd}
use Rattle.crp_checker.specs.Stages.{AreFindings, IsNote, note_after, IsOpenLine, IsAtLine, IsAtPart, IsFaulty}
use Rattle.crp_checker.proofs.AtLines.{bay_known}
use Rattle.crp_checker.proofs.PartEnds.{part_lines_end}
use Rattle.crp_checker.proofs.Rising.{comes_after, after_names}

-- ---- in the symbols

-- what is kept says what the cuts of the script need
same_need : (wanted : Option Problem) (script : Script) (findings : Findings) → AreFindings wanted script findings → need_by findings.need ≡ need_in script
same_need wanted script findings are = ap (λ c. need_of c findings.need.plan) are.claim_is ∙ ap (need_of script.head.claim) are.plan_is

-- some symbols more
pub symbols_on : (wanted : Option Problem) (before taken name : List ℕ) (findings : Findings) (old new : SymbolLine) → IsAtPart wanted before findings name old → AllByRecursion (λ b. b ≢ 10) taken →
    ((top : Spot) (before : List ℕ) → LineIs (need_by findings.need) findings.need.version top before old → LineIs (need_by findings.need) findings.need.version top (before ++ taken) new) →
    IsAtPart wanted (before ++ taken) findings name new
symbols_on wanted before taken name findings old new at one_line fed =
    let top : Spot = record { path = name; place = at.place } in
    let needs = need_by findings.need in
    let same = same_need wanted at.script findings at.are in
    let version = at.script.head.version in
    let old_is = subst (λ v. LineIs needs v top at.symbols old) (sym at.are.version_is) (subst (λ n. LineIs n version top at.symbols old) (sym same) at.kept_is) in
    record {
      script = at.script;
      line = at.line;
      place = at.place;
      symbols = at.symbols ++ taken;
      are = at.are;
      begins = subst (BeginsWithParts (before ++ taken) at.script.head at.script.parts at.line) (append_assoc (named_line name) at.symbols taken)
          (begins_on before taken at.script.head at.script.parts at.line (named_line name ++ at.symbols) at.begins);
      short = at.short;
      is_at = at.is_at;
      one_line = all_both (λ b. b ≢ 10) at.symbols taken at.one_line one_line;
      kept_is = subst (λ n. LineIs n version top (at.symbols ++ taken) new) same (subst (λ v. LineIs needs v top (at.symbols ++ taken) new) at.are.version_is (fed top at.symbols old_is));
    }

-- ---- the end of the line

-- the whole line
whole_line : (name symbols : List ℕ) → (named_line name ++ symbols) ++ 10 ∷ [] ≡ symbols_line name symbols
whole_line name symbols =
    append_assoc (named_line name) symbols (10 ∷ [])
    ∙ append_assoc part_word (spelled_name name) (symbols ++ 10 ∷ [])
    ∙ ap (λ l. part_word ++ l) (append_assoc (name_text name) (codes ": ") (symbols ++ 10 ∷ []))

line_ends : (wanted : Option Problem) (before name : List ℕ) (findings : Findings) (kept : SymbolLine) (at : IsAtPart wanted before findings name kept) →
    BeginsWithParts (before ++ 10 ∷ []) at.script.head at.script.parts at.line (symbols_line name at.symbols)
line_ends wanted before name findings kept at =
    subst (BeginsWithParts (before ++ 10 ∷ []) at.script.head at.script.parts at.line) (whole_line name at.symbols)
    (begins_on before (10 ∷ []) at.script.head at.script.parts at.line (named_line name ++ at.symbols) at.begins)

-- it has a fault, whatever follows
at_fault : (wanted : Option Problem) (before name : List ℕ) (findings : Findings) (kept : SymbolLine) (fault : CertFault) (at : IsAtPart wanted before findings name kept) →
    ((more : List ℕ) → IsLineFault at.script.head.version at.script.head.problem at.script.parts at.line (symbols_line name at.symbols ++ more) fault) → IsFaulty (before ++ 10 ∷ []) (Some findings.bay) fault
at_fault wanted before name findings kept fault at is =
    let script = at.script in
    let begins = line_ends wanted before name findings kept at in
    record {
      fault_stays = λ more. line_fault (before ++ 10 ∷ []) more script.head script.parts at.line (symbols_line name at.symbols) fault begins (is more);
      bay_stays = λ more. subst (BeginsWithBay ((before ++ 10 ∷ []) ++ more)) (sym at.are.bay_is) (bay_known (before ++ 10 ∷ []) script.head script.parts at.line (symbols_line name at.symbols) begins more);
    }

number_is : (wanted : Option Problem) (before name : List ℕ) (findings : Findings) (kept : SymbolLine) (at : IsAtPart wanted before findings name kept) → at.line ≡ findings.line
number_is wanted before name findings kept at = at.begins.number ∙ sym at.are.line_is

-- the name does not come after the others
pub not_in_order : (wanted : Option Problem) (before name : List ℕ) (findings : Findings) (kept : SymbolLine) → IsAtPart wanted before findings name kept → (All (λ other. Precedes other name) findings.names → ⊥) →
    IsFaulty (before ++ 10 ∷ []) (Some findings.bay) (faults.Order findings.line)
not_in_order wanted before name findings kept at not =
    at_fault wanted before name findings kept (faults.Order findings.line) at
    (λ more. (
      sym (number_is wanted before name findings kept at),
      (
        record { name = name; short = at.short; place = at.place; is_at = at.is_at; symbols = at.symbols; one_line = All-from_recursion (λ b. b ≢ 10) at.symbols at.one_line; after = more; text = refl },
        λ comes. not (subst (All (λ other. Precedes other name)) (sym at.are.names_are) (after_names at.script.parts name comes)),
      ),
    ))

-- what the end of the symbols means for the line
meant : (wanted : Option Problem) (before name : List ℕ) (findings : Findings) (kept : SymbolLine) (end : LineEnd) (at : IsAtPart wanted before findings name kept) → All (λ other. Precedes other name) findings.names →
    ((need : List ℕ → ℕ) (version : Version) (top : Spot) (bytes : List ℕ) → LineIs need version top bytes kept → IsEndOfSymbols need version top bytes end) →
    (more : List ℕ) → IsPartEnd (need_in at.script) at.script.head.version at.script.head.problem at.script.parts at.line name (symbols_line name at.symbols ++ more) more end
meant wanted before name findings kept end at order ends more =
    let script = at.script in
    let p = script.head.problem in
    let is : IsProblem p = at.begins.is_head.problem in
    let comes = comes_after script.parts name (subst (All (λ other. Precedes other name)) at.are.names_are order) in
    part_lines_end (need_in script) script.head.version p script.parts at.line name at.place at.symbols more end is at.short at.is_at (All-from_recursion (λ b. b ≢ 10) at.symbols at.one_line) comes
    (ends (need_in script) script.head.version (record { path = name; place = at.place }) at.symbols at.kept_is)

-- a fault of the symbols
pub symbols_fault : (wanted : Option Problem) (before name : List ℕ) (findings : Findings) (kept : SymbolLine) (end : LineEnd) (fault : CertFault) (at : IsAtPart wanted before findings name kept) →
    All (λ other. Precedes other name) findings.names →
    ((need : List ℕ → ℕ) (version : Version) (top : Spot) (bytes : List ℕ) → LineIs need version top bytes kept → IsEndOfSymbols need version top bytes end) →
    ((version : Version) (p : Problem) (parts : List Part) (need : List ℕ → ℕ) (line : ℕ) (bytes after : List ℕ) → line ≡ findings.line → IsPartEnd need version p parts line name bytes after end → IsLineFault version p parts line bytes fault) → IsFaulty (before ++ 10 ∷ []) (Some findings.bay) fault
symbols_fault wanted before name findings kept end fault at order ends is =
    at_fault wanted before name findings kept fault at
    (λ more. is at.script.head.version at.script.head.problem at.script.parts (need_in at.script) at.line (symbols_line name at.symbols ++ more) more (number_is wanted before name findings kept at) (meant wanted before name findings kept end at order ends more))

-- ---- one part more

right_still : (wanted : Option Problem) (script : Script) (part : Part) → HasRightHead wanted script → HasRightHead wanted (record script { parts = script.parts ++ part ∷ [] })
right_still wanted script part right = record { as_wanted = right.as_wanted; plan_is = right.plan_is; its_plan = right.its_plan }

-- the first wrong node of some parts is the first of more
first_still : (need : List ℕ → ℕ) (Wrong : _) (p : Problem) (parts : List Part) (part : Part) (name : List ℕ) (k : ℕ) → IsFirstWrongNode need Wrong (nodes_by_name p parts) name k → IsFirstWrongNode need Wrong (nodes_by_name p (parts ++ part ∷ [])) name k
first_still need Wrong p parts part name k m = record {
  before = m.before;
  part = m.part;
  after = m.after ++ named_nodes p part ∷ [];
  parts_are = map-append (named_nodes p) parts (part ∷ []) ∙ ap (λ l. l ++ named_nodes p part ∷ []) m.parts_are ∙ append_assoc m.before (m.part ∷ m.after) (named_nodes p part ∷ []);
  named = m.named;
  right = m.right;
  first = m.first;
}

-- the first of the last part, where the others are right
first_in_last : (need : List ℕ → ℕ) (Wrong : _) (p : Problem) (parts : List Part) (part : Part) (name : List ℕ) (k : ℕ) → part.name ≡ name → AllByRecursion (IsRightPart need) (nodes_by_name p parts) →
    IsFirstWrong need Wrong (named_nodes p part).nodes k → IsFirstWrongNode need Wrong (nodes_by_name p (parts ++ part ∷ [])) name k
first_in_last need Wrong p parts part name k named right first = record {
  before = nodes_by_name p parts;
  part = named_nodes p part;
  after = [];
  parts_are = map-append (named_nodes p) parts (part ∷ []);
  named = named;
  right = right;
  first = first;
}

-- what is noted
noted : (wanted : Option Problem) (script : Script) (part : Part) (name : List ℕ) (note : Option Refused) (w : Option Wrong) → part.name ≡ name → IsFirstOf (need_in script) (named_nodes script.head.problem part).nodes w →
    IsNote wanted script note → IsNote wanted (record script { parts = script.parts ++ part ∷ [] }) (note_after note name w)
noted wanted script part name (Some refused.OtherProblem) w named first is = is
noted wanted script part name (Some (refused.Plan fault)) w named first is = is
noted wanted script part name (Some refused.NoFirstPlan) w named first is = is
noted wanted script part name (Some (refused.Low other k)) w named first is = (right_still wanted script part is.0, first_still (need_in script) (IsLow (need_in script)) script.head.problem script.parts part other k is.1)
noted wanted script part name (Some (refused.Finished other k)) w named first is = (right_still wanted script part is.0, first_still (need_in script) IsAtEnd script.head.problem script.parts part other k is.1)
noted wanted script part name (Some (refused.Unshown other k)) w named first is = (right_still wanted script part is.0, first_still (need_in script) (IsUnshown (need_in script)) script.head.problem script.parts part other k is.1)
noted wanted script part name (Some (refused.Cert fault)) w named first is = absurd is
noted wanted script part name (Some (refused.Missing other)) w named first is = absurd is
noted wanted script part name (Some (refused.Unneeded other)) w named first is = absurd is
noted wanted script part name (Some refused.Memory) w named first is = absurd is
noted wanted script part name None None named first is = (
  right_still wanted script part is.0,
  subst (AllByRecursion (IsRightPart (need_in script))) (sym (map-append (named_nodes script.head.problem) script.parts (part ∷ [])))
      (all_both (IsRightPart (need_in script)) (nodes_by_name script.head.problem script.parts) (named_nodes script.head.problem part ∷ []) is.1 (first, tt)),
)
noted wanted script part name None (Some (wrong.Low k)) named first is = (right_still wanted script part is.0, first_in_last (need_in script) (IsLow (need_in script)) script.head.problem script.parts part name k named is.1 first)
noted wanted script part name None (Some (wrong.AtEnd k)) named first is = (right_still wanted script part is.0, first_in_last (need_in script) IsAtEnd script.head.problem script.parts part name k named is.1 first)
noted wanted script part name None (Some (wrong.Unshown k)) named first is = (right_still wanted script part is.0, first_in_last (need_in script) (IsUnshown (need_in script)) script.head.problem script.parts part name k named is.1 first)

-- what is kept of one part more
pub record IsWithPart (old new : Findings) (name : List ℕ) (w : Option Wrong) (given : Gathered) : Type 0 where
  pub same_bay : new.bay ≡ old.bay
  pub same_problem : new.problem ≡ old.problem
  pub same_need : new.need ≡ old.need
  pub same_count : new.count ≡ old.count
  pub next_line : new.line ≡ min (old.line + 1) (2 ^ 32 - 1)
  pub more_names : new.names ≡ old.names ++ name ∷ []
  pub more_given : new.given ≡ joined old.given given
  pub same_note : new.wrong ≡ note_after old.wrong name w

-- no line has begun
nothing_begun : (script : Script) → IsOpenLine script []
nothing_begun script = record { no_name = λ stands. let e = stands.2.1 in cc; no_end = λ stands. let e = stands.1 in cc }

pub part_ended : (wanted : Option Problem) (before name : List ℕ) (old new : Findings) (kept : SymbolLine) (end : LineEnd) (begun : List ℕ) (w : Option Wrong) (given : Gathered) → IsAtPart wanted before old name kept →
    All (λ other. Precedes other name) old.names →
    ((need : List ℕ → ℕ) (version : Version) (top : Spot) (bytes : List ℕ) → LineIs need version top bytes kept → IsEndOfSymbols need version top bytes end) →
    ((version : Version) (p : Problem) (parts : List Part) (need : List ℕ → ℕ) (line : ℕ) (bytes after : List ℕ) → IsPartEnd need version p parts line name bytes after end → IsNextPart need version p parts name bytes after w given) →
    IsWithPart old new name w given → begun ≡ [] → IsAtLine wanted (before ++ 10 ∷ []) new begun
part_ended wanted before name old new kept end begun w given at order ends whole is none =
    let script = at.script in
    let head = script.head in
    let p = head.problem in
    let parts = script.parts in
    let rest = symbols_line name at.symbols in
    let next = whole head.version p parts (need_in script) at.line (rest ++ []) [] (meant wanted before name old kept end at order ends []) in
    let part = next.part in
    let tells = line_ends wanted before name old kept at in
    let behind : List ℕ = flat_map part_line parts ++ rest in
    let are : AreParts head.version p behind parts rest = record { each_part = tells.each_part; rising = tells.rising; text = refl } in
    let more = parts_push head.version p behind parts (parts ++ part ∷ []) part rest [] refl are next.readable next.in_order (sym (append-nil rest) ∙ next.text) in
    let longer : length (parts ++ part ∷ []) ≡ length parts + 1 = length-append parts (part ∷ []) in
    let begins : BeginsWithParts (before ++ 10 ∷ []) head (parts ++ part ∷ []) (suc at.line) [] =
    tells_parts (before ++ 10 ∷ []) head behind (parts ++ part ∷ []) (suc at.line) [] tells.is_head tells.text more (let number = tells.number in omega arith) in
    let few = few_parts head.version p (parts ++ part ∷ []) tells.is_head.problem more.each_part more.rising in
    let early = first_few head tells.is_head in
    subst (IsAtLine wanted (before ++ 10 ∷ []) new) (sym none)
    (record {
      script = record { head = head; parts = parts ++ part ∷ [] };
      line = suc at.line;
      are = record {
        bay_is = is.same_bay ∙ at.are.bay_is;
        problem_is = is.same_problem ∙ at.are.problem_is;
        version_is = ap (λ (n : Need). n.version) is.same_need ∙ at.are.version_is;
        claim_is = ap (λ (n : Need). n.claim) is.same_need ∙ at.are.claim_is;
        plan_is = ap (λ (n : Need). n.plan) is.same_need ∙ at.are.plan_is;
        count_is = is.same_count ∙ at.are.count_is;
        line_is = let number = at.are.line_is in is.next_line ∙ omega arith;
        names_are = is.more_names ∙ ap (λ l. l ++ name ∷ []) at.are.names_are ∙ ap (λ n. names parts ++ n ∷ []) (sym next.named) ∙ sym (map-append (λ (x : Part). x.name) parts (part ∷ []));
        given_are = is.more_given ∙ ap (λ kept. joined kept given) at.are.given_are
            ∙ ap (joined (gathered (flat_map (given_by p) parts))) (next.given_are ∙ ap gathered (sym (append-nil (given_by p part))))
            ∙ sym (gathered_joined (flat_map (given_by p) parts) (flat_map (given_by p) (part ∷ []))) ∙ ap gathered (sym (flat_map-append (given_by p) parts (part ∷ [])));
        note = subst (IsNote wanted (record { head = head; parts = parts ++ part ∷ [] })) (sym is.same_note) (noted wanted script part name old.wrong w next.named next.wrong_is at.are.note);
      };
      begins = begins;
      is_open = nothing_begun (record { head = head; parts = parts ++ part ∷ [] });
    })
