-- What a command writes to a list of bytes that was empty.
use Rattle.std.proofs.Common.{◌≡◌, ◌∙◌, ℕ, suc, List, [], ◌∷◌, ◌++◌, length, Some, None, Option, true, refl, sym, ap, subst, append_assoc, arith}
use Rattle.std.specs.Prelude.{codes, decimal, MatchOption}
use Rattle.std.specs.Io.KnownBytes.{Appends}
use Rattle.crp_plan.specs.declared.moves.Move.{Move}
use Rattle.crp_plan.specs.declared.moves.Move.TheVariants.{Shift, Take}
use Rattle.crp_plan.specs.Bay.{Problem, path_of, relocations}
use Rattle.crp_cert.specs.declared.head.Head.{Head}
use Rattle.crp_cert.specs.Text.{bay_line, IsHeadOf}
use Rattle.crp_report.specs.declared.status.Status.{Status}
use Rattle.crp_jobs.specs.declared.job.FileCommand.{FileCommand}
use Rattle.crp_jobs.specs.declared.job.FileCommand.TheVariants.{Replay, Bound, Check, Prove, Rewrite}
use Rattle.crp_yard.specs.Reading.{IsTextOf}
use Rattle.crp_commands.specs.Calls.{CallSeen, IsTextWithin, WritesReport}
use Rattle.crp_commands.specs.Performing.{Performs}
use Rattle.crp_commands.specs.Replay.{IsReplay, IsReplayText}
use Rattle.crp_commands.specs.Bound.{IsBound, bound_lines}
use Rattle.crp_commands.specs.Check.{IsCheck, most_bytes}
use Rattle.crp_follow.specs.Rewritten.{IsRewritten}
use Rattle.crp_commands.specs.Prove.{IsProof}
use Rattle.crp_chains.proofs.Reading.{chains_floor}
use Rattle.crp_callers.specs.CommandReports.{IsReportOf, EndsWithBound}

-- a call that was given these bytes, and held nothing before and these bytes after
pub record IsOverBytes (s : CallSeen) (bytes new : List ℕ) : Type 0 where
  pub given : s.given ≡ Some bytes
  pub held : s.held ≡ Some []
  pub holds : s.holds ≡ Some new

pub report_written : (IsInput : Option (List ℕ) → List ℕ → Type 0) (IsReport : List ℕ → List ℕ → Type 0) (bytes new : List ℕ) (s : CallSeen)
    → ((known : Option (List ℕ)) (text : List ℕ) → IsInput known text → IsTextOf known text) → IsOverBytes s bytes new → WritesReport IsInput IsReport s → IsReport bytes new
report_written IsInput IsReport bytes new s reads over (text, report, input, is, appends) =
    let same = subst (λ (o : Option (List ℕ)). IsTextOf o text) over.given (reads s.given text input) in
    let behind = subst (λ (o : Option (List ℕ)). Appends o s.holds report) over.held appends in
    let all : new ≡ report = subst (λ (o : Option (List ℕ)). Appends (Some []) o report) over.holds behind in
    subst (λ (r : List ℕ). IsReport bytes r) (sym all) (subst (λ (t : List ℕ). IsReport t report) same is)

pub command_reported : (command : FileCommand) (ended : Status) (bytes new : List ℕ) (s : CallSeen) → IsOverBytes s bytes new
    → Performs command ended s → IsReportOf command bytes new
command_reported Replay ended bytes new s over done = report_written IsTextOf IsReplay bytes new s (λ known text is. is) over done.1
command_reported (Bound chains json) ended bytes new s over done = report_written IsTextOf (IsBound chains) bytes new s (λ known text is. is) over done.1
command_reported (Check any_size workers json) ended bytes new s over done = report_written (IsTextWithin (most_bytes any_size)) IsCheck bytes new s (λ known text is. is.1) over done.1
command_reported (Prove search) ended bytes new s over done = (ended, report_written IsTextOf (IsProof search ended) bytes new s (λ known text is. is) over done)
command_reported Rewrite ended bytes new s over done = report_written IsTextOf IsRewritten bytes new s (λ known text is. is) over done.1

-- ---- a replay

relocations_by_path : (moves : List Move) → relocations moves ≡ length (path_of moves)
relocations_by_path [] = refl
relocations_by_path (Shift from to ∷ moves) = ap suc (relocations_by_path moves)
relocations_by_path (Take row ∷ moves) = relocations_by_path moves

regrouped : (a m n r d l : List ℕ) → a ++ ((m ++ (n ++ (r ++ (d ++ 10 ∷ [])))) ++ l) ≡ (a ++ (m ++ n)) ++ (r ++ (d ++ 10 ∷ l))
regrouped a m n r d l = simp append_assoc

abbrev pub CountsRows : List ℕ → Option (List ℕ) → Type 0
CountsRows report plan = MatchOption plan ((before : List ℕ) × (report ≡ before ++ codes "no plan\n"))
    (λ rows. (before : List ℕ) × (after : List ℕ) × (report ≡ before ++ (codes " relocations " ++ (decimal (length rows) ++ 10 ∷ after))))

rows_counted : (problem : Problem) (line : List ℕ) (plan : Option (List ℕ)) (text report : List ℕ) → report ≡ line ++ text
    → MatchOption plan (text ≡ codes "no plan" ++ 10 ∷ []) (λ rows. IsReplayText problem rows text) → CountsRows report plan
rows_counted problem line None text report e is = (line, e ∙ ap (λ t. line ++ t) is)
rows_counted problem line (Some rows) text report e (moves, lines, plan, path, printed, is) =
    let many : relocations moves ≡ length rows = relocations_by_path moves ∙ ap length path in
    let before = line ++ (codes "moves " ++ decimal (length moves)) in
    let whole = e ∙ ap (λ t. line ++ t) is ∙ regrouped line (codes "moves ") (decimal (length moves)) (codes " relocations ") (decimal (relocations moves)) lines in
    (before, lines, whole ∙ ap (λ n. before ++ (codes " relocations " ++ (decimal n ++ 10 ∷ lines))) many)

pub relocations_counted : (bytes report : List ℕ) → IsReplay bytes report → (head : Head) × IsHeadOf bytes head × CountsRows report head.plan
relocations_counted bytes report (head, is, (text, e, stated)) = (head, is, rows_counted head.problem (bay_line head.bay) head.plan text report e stated)

-- ---- a line of chains

pub bound_below_plans : (bytes report : List ℕ) → IsBound true bytes report → (head : Head) × IsHeadOf bytes head × EndsWithBound head.problem report
bound_below_plans bytes report (head, of_head, (s, at, (line, (chains, bound, (family, names, is_family, value), is_line), is))) = (
  head,
  of_head,
  record {
    before = bay_line head.bay ++ bound_lines s;
    bound = bound;
    chains = chains;
    is = is ∙ ap (λ l. bay_line head.bay ++ (bound_lines s ++ l)) is_line ∙ sym (append_assoc (bay_line head.bay) (bound_lines s) _);
    below = λ moves plan. let low = chains_floor head.problem [] (path_of moves) s family moves of_head.0.problem at is_family plan refl in omega (arith, value, low);
  },
)
