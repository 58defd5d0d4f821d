-- What the lines of a head lead to, one by one.
use Rattle.std.proofs.Common.{◌≡◌, ◌≢◌, ◌≤◌, ◌⊎◌, ℕ, List, length, [], ◌∷◌, ◌++◌, sym, ap, ◌∙◌, subst, append_assoc, inl, inr, ⊎_elim}
use Rattle.std.specs.List.{AllByRecursion, flat_map}
use Rattle.std.proofs.lemmas.List.{append-nil}
use Rattle.crp_plan.specs.Faults.{stacks_of}
use Rattle.crp_cert.specs.declared.bay_rows.BayRows.{BayRows}
use Rattle.crp_cert.specs.declared.head_lines.HeadLines.{HeadLines}
use Rattle.crp_cert.specs.declared.head_lines.HeadLines.TheVariants as lines
use Rattle.crp_cert.specs.declared.head_lines.HeadRead.{HeadRead}
use Rattle.crp_cert.specs.Text.{title_line, bay_line, size_line, stated_heights, row_line, claim_line}
use Rattle.crp_cert.specs.Faults.{IsFirstFault}
use Rattle.crp_cert.specs.Settled.{longest_line}
use Rattle.crp_cert.specs.LinesOfHead.{HasLines, HasRead, HasNoLine, IsLineRead, fault_behind, bay_of}
use Rattle.crp_cert.proofs.Settled.{no_stop, grown}
use Rattle.crp_cert.proofs.Readers.{once, title_reader}
use Rattle.crp_cert.proofs.LinesOfHead.{settled, fault_is}
use Rattle.crp_cert.specs.declared.open_head.OpenHead.{OpenHead}
use Rattle.crp_cert.specs.HeadsFed.{IsInHead, IsLineEnd, IsBayIn, IsFaultyHead}

-- three texts, and more behind them
behind : (a b c more : List ℕ) → (a ++ (b ++ c)) ++ more ≡ a ++ (b ++ (c ++ more))
behind a b c more = append_assoc a (b ++ c) more ∙ ap (λ l. a ++ l) (append_assoc b c more)

-- what stands behind the name of the bay
below_name : BayRows → List ℕ
below_name rows = size_line rows.size ++ (stated_heights rows.version rows.heights.items ++ flat_map row_line (stacks_of rows.stacks.items))

-- the bay that is named, where no line more may stand there
bay_in : (bytes rest : List ℕ) (all : HeadLines) → HasLines bytes all → HasNoLine all rest → IsBayIn (bytes ++ rest) (bay_of all)
unfolding below_name
bay_in bytes rest lines.Start has none = λ name stands. none (stands.1.0, tt, (bay_line name ++ stands.1.1, sym (ap (λ l. l ++ rest) has) ∙ stands.1.2))
bay_in bytes rest (lines.Title version) has none = λ name stands.
    let same = once title_reader version stands.1.0 rest (bay_line name ++ stands.1.1) tt tt (sym (ap (λ l. l ++ rest) has) ∙ stands.1.2) in
    none (name, stands.0, (stands.1.1, same.1))
bay_in bytes rest (lines.Bay version bay) has none = (has.0, (version, rest, ap (λ l. l ++ rest) has.1 ∙ append_assoc (title_line version) (bay_line bay) rest))
bay_in bytes rest (lines.Size sized) has none = (has.0, (sized.version, size_line sized.size ++ rest, ap (λ l. l ++ rest) has.1 ∙ behind (title_line sized.version) (bay_line sized.bay) (size_line sized.size) rest))
bay_in bytes rest (lines.Rows rows) has none = (has.0.0, (rows.version, below_name rows ++ rest, ap (λ l. l ++ rest) has.1 ∙ behind (title_line rows.version) (bay_line rows.bay) (below_name rows) rest))
bay_in bytes rest (lines.Claim claimed) has none =
    let rows : BayRows = claimed.rows in
    let claim : List ℕ = claim_line claimed.claim in (
      has.0.0,
      (
        rows.version,
        (below_name rows ++ claim) ++ rest,
        ap (λ l. l ++ rest) (has.2 ∙ behind (title_line rows.version) (bay_line rows.bay) (below_name rows) claim) ∙ behind (title_line rows.version) (bay_line rows.bay) (below_name rows ++ claim) rest,
      ),
    )

-- bytes that end in a head
pub head_ends : (bytes : List ℕ) (front : OpenHead) → IsInHead bytes front → IsFirstFault bytes (fault_behind front.lines)
head_ends bytes front at =
    subst (λ l. IsFirstFault l (fault_behind front.lines)) (sym at.is) (fault_is at.above front.begun.items front.lines at.has ((settled front.lines).not_yet front.begun.items at.one_line))

pub head_bay : (bytes : List ℕ) (front : OpenHead) → IsInHead bytes front → IsBayIn bytes (bay_of front.lines)
head_bay bytes front at =
    subst (λ l. IsBayIn l (bay_of front.lines)) (sym at.is) (bay_in at.above front.begun.items front.lines at.has ((settled front.lines).not_yet front.begun.items at.one_line))

-- a line that may not stand there
pub line_is_faulty : (before line : List ℕ) (all : HeadLines) → HasLines before all → IsLineEnd line → HasNoLine all line → IsFaultyHead (before ++ line) (bay_of all) (fault_behind all)
line_is_faulty before line all has ends none = record {
  fault_stays = λ more. subst (λ l. IsFirstFault l (fault_behind all)) (sym (append_assoc before line more)) (fault_is before (line ++ more) all has ((settled all).stays line more ends.judged none));
  bay_stays = λ more. subst (λ l. IsBayIn l (bay_of all)) (sym (append_assoc before line more)) (bay_in before (line ++ more) all has ((settled all).stays line more ends.judged none));
}

-- a line that may is read as a whole
pub line_is_read : (before line rest : List ℕ) (all : HeadLines) (next : HeadRead) → HasLines before all → IsLineEnd line → IsLineRead all line next rest → HasRead (before ++ line) next
line_is_read before line rest all next has ends step =
    let own = step.ends in
    let empty = grown ends.begun ends.last step.line rest (sym ends.is ∙ step.is)
    (λ r e. no_stop 10 own.body r (subst (AllByRecursion (λ b. b ≢ 10)) (e ∙ ap (λ l. l ++ r) own.is ∙ append_assoc own.body (10 ∷ []) r) ends.one_line)) in
    subst (λ l. HasRead (before ++ l) next) (sym (step.is ∙ ap (λ l. step.line ++ l) empty ∙ append-nil step.line)) (step.leads before has)

-- a byte with which a line can be judged
pub line_ends : (old new : List ℕ) (b : ℕ) → AllByRecursion (λ x. x ≢ 10) old → new ≡ old ++ b ∷ [] → (b ≡ 10) ⊎ (longest_line ≤ length new) → IsLineEnd new
line_ends old new b one_line added judged = record {
  begun = old;
  last = b;
  one_line = one_line;
  is = added;
  judged = ⊎_elim (λ lf. inl (record { body = old; rest = []; before = one_line; is = added ∙ ap (λ x. old ++ x ∷ []) lf })) (λ long. inr long) judged;
}

-- more of a line
pub placed : (before above begun more new : List ℕ) → before ≡ above ++ begun → new ≡ begun ++ more → above ++ new ≡ before ++ more
placed before above begun more new is added = ap (λ l. above ++ l) added ∙ sym (append_assoc above begun more) ∙ ap (λ l. l ++ more) (sym is)
