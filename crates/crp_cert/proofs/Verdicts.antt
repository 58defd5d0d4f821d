-- Each text begins with a head's text or has a first fault, and only one of these.
use Rattle.std.proofs.Common.{◌≡◌, ℕ, zero, suc, ◌+◌, ◌-◌, ◌≤◌, ◌⊎◌, inl, inr, ⊎_elim, Bool, true, cond, List, [], ◌∷◌, ◌++◌, length, get_or, Option, Some, None, refl, sym, ap, ◌∙◌, subst, arith, append_assoc}
use Rattle.std.specs.Prelude.{IfSome}
use Rattle.std.specs.List.{flat_map}
use Rattle.std.proofs.lemmas.Option.{none-some, same_Some, some_pair_parts}
use Rattle.std.proofs.lemmas.List.{append-nil}
use Rattle.std.proofs.lemmas.Bool.{cases_lt}
use Rattle.crp_plan.specs.BayNames.{YardBay, IsYardBay}
use Rattle.crp_plan.specs.Rows.{total, tallest, occurrences}
use Rattle.crp_plan.specs.Bay.{Problem, IsProblem}
use Rattle.crp_plan.specs.Faults.{stated_with}
use Rattle.crp_cert.specs.declared.claim.Claim.{Claim}
use Rattle.crp_cert.specs.declared.head.Head.{Head}
use Rattle.crp_cert.specs.declared.size.Size.{Size}
use Rattle.crp_cert.specs.declared.version.Version.{Version}
use Rattle.crp_cert.specs.declared.version.Version.TheVariants.{One, Two, Three}
use Rattle.crp_cert.specs.declared.fault.CertFault.{CertFault}
use Rattle.crp_cert.specs.declared.fault.CertFault.TheVariants as faults
use Rattle.crp_cert.specs.Text.{title_line, has_heights, bay_line, size_line, stated_heights, row_line, bound, claim_line, plan_line, head_text, first_row, size_of, IsSize, IsHead, IsHeadOf, AreRows}
use Rattle.crp_cert.specs.Faults.{BeginsWith, MayState, AreFirstStacks, IsNextStack, most_claimed, MayClaim, Frame, BeginsWithFrame, BeginsWithStacks, IsFirstFault}
use Rattle.crp_cert.specs.Reading.{◌>>=◌, title_at, size_at, heights_at, heights_line_at, row_at, claim_at, plan_at}
use Rattle.crp_cert.proofs.Numbers.{bind_some, if_some}
use Rattle.crp_cert.proofs.Lines.{row_again, row_takes}
use Rattle.crp_cert.proofs.Heads.{head_then, size_is, head_states}
use Rattle.crp_cert.proofs.Readers.{IsReader, none_stands, none_read, title_reader, bay_at, bay_reader, size_reader, claim_reader, plan_reader}
use Rattle.crp_cert.proofs.Heights.{line_reader, heights_reader, heights_are, can_state, front_of}
use Rattle.crp_cert.proofs.Stacks.{no_stacks, next_low, next_small, fewer, problem_is, total_is, cap_is, few_claimed, are_first, first_to, first_from, length_push}

-- ---- the next row line

-- the stack if it may follow
abbrev kept_stack : Size → List ℕ → List (List ℕ) → List ℕ × List ℕ → Option (List ℕ × List ℕ)
kept_stack size heights stacks x = cond (are_first size heights (stacks ++ x.0 ∷ [])) (Some x) None

-- the height of the row behind some stacks
abbrev pub next_height : List ℕ → List (List ℕ) → ℕ
next_height heights stacks = get_or heights (length stacks) 0

-- a stack that may follow, from the front of the bytes
abbrev pub next_at : Size → List ℕ → List (List ℕ) → List ℕ → Option (List ℕ × List ℕ)
next_at size heights stacks bytes = row_at (next_height heights stacks) bytes >>= kept_stack size heights stacks

-- the next row line
pub next_reader : (size : Size) (heights : List ℕ) (stacks : List (List ℕ)) → IsSize size → IsReader (IsNextStack size heights stacks) row_line (next_at size heights stacks)
next_reader size heights stacks is = record { takes = takes; again = again }
  where
    takes : (bytes stack rest : List ℕ) → next_at size heights stacks bytes ≡ Some (stack, rest) → IsNextStack size heights stacks stack × (bytes ≡ row_line stack ++ rest)
    takes bytes stack rest e =
        let x = bind_some (row_at (next_height heights stacks) bytes) (kept_stack size heights stacks) (stack, rest) e in
        let k = if_some (are_first size heights (stacks ++ x.0.0 ∷ [])) (Some x.0) (stack, rest) x.2 in
        let p = some_pair_parts x.0.0 stack x.0.1 rest k.1 in
        let t = (row_takes (next_height heights stacks) bytes x.0.0 x.0.1 x.1).0 in
        (subst (IsNextStack size heights stacks) p.0 (first_to size heights (stacks ++ x.0.0 ∷ []) k.0), t ∙ ap (λ s. row_line s ++ x.0.1) p.0 ∙ ap (λ l. row_line stack ++ l) p.1)

    again : (stack rest : List ℕ) → IsNextStack size heights stacks stack → next_at size heights stacks (row_line stack ++ rest) ≡ Some (stack, rest)
    again stack rest next =
        ap (λ o. o >>= kept_stack size heights stacks) (row_again (next_height heights stacks) stack rest (next_low size heights stacks stack next) (next_small size heights stacks stack is next))
        ∙ ap (λ (b : Bool). cond b (Some (stack, rest)) None) (first_from size heights (stacks ++ stack ∷ []) next)

-- a row line that states a stack which may not follow
pub not_next : (size : Size) (heights : List ℕ) (stacks : List (List ℕ)) (bytes stack rest : List ℕ) → IsSize size → row_at (next_height heights stacks) bytes ≡ Some (stack, rest) → ¬ IsNextStack size heights stacks stack →
    ¬ BeginsWith (IsNextStack size heights stacks) row_line bytes
not_next size heights stacks bytes stack rest is e never stands =
    let other : List ℕ = stands.0 in let next : IsNextStack size heights stacks other = stands.1 in
    let again : row_at (next_height heights stacks) bytes ≡ Some (other, stands.2.0) =
    ap (row_at (next_height heights stacks)) stands.2.1 ∙ row_again (next_height heights stacks) other stands.2.0 (next_low size heights stacks other next) (next_small size heights stacks other is next) in
    never (subst (IsNextStack size heights stacks) (some_pair_parts other stack stands.2.0 rest (sym again ∙ e)).0 next)

-- no row line, or one of too many ranks
pub no_row : (size : Size) (heights : List ℕ) (stacks : List (List ℕ)) (bytes : List ℕ) → IsSize size → row_at (next_height heights stacks) bytes ≡ None → ¬ BeginsWith (IsNextStack size heights stacks) row_line bytes
no_row size heights stacks bytes is e = none_stands (next_reader size heights stacks is) bytes (ap (λ o. o >>= kept_stack size heights stacks) e)

-- ---- the fault that is met first, going from line to line

-- the fault where nothing was read, or what follows
abbrev pub or_fault : {A : Type 0} → Option A → CertFault → (A → Option CertFault) → Option CertFault
or_fault None fault next = Some fault
or_fault (Some x) fault next = next x

-- what the lines above the rows say
abbrev pub frame_of : Version → Size → List ℕ → Frame
frame_of version size heights = record { version = version; size = size; heights = heights }

-- the number of the claim's line
abbrev pub claim_number : Frame → ℕ
claim_number frame = first_row frame.version + frame.size.rows

-- the fault from the plan line on
plan_fault : Frame → List ℕ → Option CertFault
plan_fault frame bytes = or_fault (plan_at bytes) (faults.Plan (claim_number frame + 1)) (λ x. None)

-- from the claim line on
claim_fault : Frame → List ℕ → Option CertFault
claim_fault frame bytes = or_fault (claim_at frame.version (most_claimed frame.size) bytes) (faults.Claim (claim_number frame)) (λ x. plan_fault frame x.1)

-- from a row line on, where so many are left
rows_fault : Frame → ℕ → List (List ℕ) → List ℕ → Option CertFault
rows_fault frame zero stacks bytes = claim_fault frame bytes
rows_fault frame (suc left) stacks bytes = or_fault (next_at frame.size frame.heights stacks bytes) (faults.Row (first_row frame.version + length stacks)) (λ x. rows_fault frame left (stacks ++ x.0 ∷ []) x.1)

-- from behind the size line on
heights_fault : Version → Size → List ℕ → Option CertFault
heights_fault version size bytes = or_fault (heights_at version size bytes) (faults.Size 4) (λ x. rows_fault (frame_of version size x.0) size.rows [] x.1)

-- from the size line on
size_fault : Version → List ℕ → Option CertFault
size_fault version bytes = or_fault (size_at bytes) (faults.Size 3) (λ x. heights_fault version x.0 x.1)

-- from the line of the bay on
bay_fault : Version → List ℕ → Option CertFault
bay_fault version bytes = or_fault (bay_at bytes) (faults.Opening 2) (λ x. size_fault version x.1)

-- the fault of the whole text, if there is one
met : List ℕ → Option CertFault
met bytes = or_fault (title_at bytes) (faults.Opening 1) (λ x. bay_fault x.0 x.1)

-- past the title
past_title : (version : Version) (rest : List ℕ) → met (title_line version ++ rest) ≡ bay_fault version rest
unfolding met
past_title version rest = ap (λ o. or_fault o (faults.Opening 1) (λ x. bay_fault x.0 x.1)) (title_reader.again version rest tt)

-- past the line of the bay
past_bay : (version : Version) (name : YardBay) (rest : List ℕ) → IsYardBay name → bay_fault version (bay_line name ++ rest) ≡ size_fault version rest
unfolding bay_fault
past_bay version name rest is = ap (λ o. or_fault o (faults.Opening 2) (λ x. size_fault version x.1)) (bay_reader.again name rest is)

-- past the size line
past_size : (version : Version) (size : Size) (rest : List ℕ) → IsSize size → size_fault version (size_line size ++ rest) ≡ heights_fault version size rest
unfolding size_fault
past_size version size rest is = ap (λ o. or_fault o (faults.Size 3) (λ x. heights_fault version x.0 x.1)) (size_reader.again size rest is)

-- past the heights
past_heights : (frame : Frame) (rest : List ℕ) → IsSize frame.size → MayState frame.version frame.size frame.heights →
    heights_fault frame.version frame.size (stated_heights frame.version frame.heights ++ rest) ≡ rows_fault frame frame.size.rows [] rest
unfolding heights_fault
past_heights frame rest is state =
    ap (λ o. or_fault o (faults.Size 4) (λ x. rows_fault (frame_of frame.version frame.size x.0) frame.size.rows [] x.1)) ((heights_reader frame.version frame.size is).again frame.heights rest state)

-- past a row line
past_row : (frame : Frame) (left : ℕ) (stacks : List (List ℕ)) (stack rest : List ℕ) → IsSize frame.size → IsNextStack frame.size frame.heights stacks stack →
    rows_fault frame (suc left) stacks (row_line stack ++ rest) ≡ rows_fault frame left (stacks ++ stack ∷ []) rest
unfolding rows_fault
past_row frame left stacks stack rest is next =
    ap (λ o. or_fault o (faults.Row (first_row frame.version + length stacks)) (λ x. rows_fault frame left (stacks ++ x.0 ∷ []) x.1)) ((next_reader frame.size frame.heights stacks is).again stack rest next)

-- past row lines
past_rows : (frame : Frame) (left k : ℕ) (before more : List (List ℕ)) (rest : List ℕ) → IsSize frame.size → AreFirstStacks frame.size frame.heights (before ++ more) → k ≡ left + length more →
    rows_fault frame k before (flat_map row_line more ++ rest) ≡ rows_fault frame left (before ++ more) rest
past_rows frame left k before [] rest is first e =
    let same : k ≡ left = omega arith in
    ap (λ n. rows_fault frame n before rest) same ∙ ap (λ l. rows_fault frame left l rest) (sym (append-nil before))
past_rows frame left zero before (stack ∷ more) rest is first e = absurd (omega arith)
past_rows frame left (suc k) before (stack ∷ more) rest is first e =
    let group : (before ++ stack ∷ []) ++ more ≡ before ++ stack ∷ more = append_assoc before (stack ∷ []) more in
    let first' : AreFirstStacks frame.size frame.heights ((before ++ stack ∷ []) ++ more) = subst (AreFirstStacks frame.size frame.heights) (sym group) first in
    ap (rows_fault frame (suc k) before) (append_assoc (row_line stack) (flat_map row_line more) rest)
    ∙ past_row frame k before stack (flat_map row_line more ++ rest) is (some_fewer (before ++ stack ∷ []) more first')
    ∙ past_rows frame left k (before ++ stack ∷ []) more rest is first' (omega arith)
    ∙ ap (λ l. rows_fault frame left l rest) group
  where
    some_fewer : (a b : List (List ℕ)) → AreFirstStacks frame.size frame.heights (a ++ b) → AreFirstStacks frame.size frame.heights a
    some_fewer a [] h = subst (AreFirstStacks frame.size frame.heights) (append-nil a) h
    some_fewer a (x ∷ b) h = fewer frame.size frame.heights a (x ∷ b) (omega arith) h

-- past the lines above the rows
met_frame : (bytes : List ℕ) (frame : Frame) (rest : List ℕ) → BeginsWithFrame bytes frame rest → met bytes ≡ rows_fault frame frame.size.rows [] rest
met_frame bytes frame rest tells =
    let more : List ℕ = stated_heights frame.version frame.heights ++ rest in
    ap met tells.text ∙ past_title frame.version (bay_line tells.name ++ (size_line frame.size ++ more)) ∙ past_bay frame.version tells.name (size_line frame.size ++ more) tells.named
    ∙ past_size frame.version frame.size more tells.is_size ∙ past_heights frame rest tells.is_size tells.may_state

-- past the lines down to these stacks
met_stacks : (bytes : List ℕ) (frame : Frame) (stacks : List (List ℕ)) (rest : List ℕ) (left : ℕ) → BeginsWithStacks bytes frame stacks rest → frame.size.rows ≡ left + length stacks → met bytes ≡ rows_fault frame left stacks rest
met_stacks bytes frame stacks rest left parsed e =
    met_frame bytes frame (flat_map row_line stacks ++ rest) parsed.tells ∙ past_rows frame left frame.size.rows [] stacks rest parsed.tells.is_size parsed.first e

-- past all row lines
met_all : (bytes : List ℕ) (frame : Frame) (stacks : List (List ℕ)) (rest : List ℕ) → BeginsWithStacks bytes frame stacks rest → length stacks ≡ frame.size.rows → met bytes ≡ claim_fault frame rest
unfolding rows_fault
met_all bytes frame stacks rest parsed all = met_stacks bytes frame stacks rest 0 parsed (omega arith)

-- past the claim line
past_claim : (frame : Frame) (claim : Claim) (rest : List ℕ) → IsSize frame.size → MayClaim frame.version (most_claimed frame.size) claim → claim_fault frame (claim_line claim ++ rest) ≡ plan_fault frame rest
unfolding claim_fault
past_claim frame claim rest is low =
    ap (λ o. or_fault o (faults.Claim (claim_number frame)) (λ x. plan_fault frame x.1)) ((claim_reader frame.version (most_claimed frame.size) (few_claimed frame.size is)).again claim rest low)

-- the heights of a version that has a line of them
line_at : (version : Version) (size : Size) (rest : List ℕ) → has_heights version ≡ true → heights_at version size rest ≡ heights_line_at size rest
line_at One size rest with_line = absurd cc
line_at Two size rest with_line = refl
line_at Three size rest with_line = refl

-- the first fault is the one that is met
met_fault : (bytes : List ℕ) (fault : CertFault) → IsFirstFault bytes fault → met bytes ≡ Some fault
unfolding met bay_fault size_fault heights_fault rows_fault claim_fault plan_fault
met_fault bytes (faults.Opening line) (inl is) =
    ap (λ o. or_fault o (faults.Opening 1) (λ x. bay_fault x.0 x.1)) (none_read title_reader bytes (λ stands. is.1 stands.0 stands.2.0 stands.2.1)) ∙ ap (λ n. Some (faults.Opening n)) (sym is.0)
met_fault bytes (faults.Opening line) (inr is) =
    ap met is.1.2 ∙ past_title is.1.0 is.1.1 ∙ ap (λ o. or_fault o (faults.Opening 2) (λ x. size_fault is.1.0 x.1)) (none_read bay_reader is.1.1 is.1.3) ∙ ap (λ n. Some (faults.Opening n)) (sym is.0)
met_fault bytes (faults.Size line) (inl is) =
    ap met is.1.4 ∙ past_title is.1.0 (bay_line is.1.1 ++ is.1.2) ∙ past_bay is.1.0 is.1.1 is.1.2 is.1.3
    ∙ ap (λ o. or_fault o (faults.Size 3) (λ x. heights_fault is.1.0 x.0 x.1)) (none_read size_reader is.1.2 is.1.5) ∙ ap (λ n. Some (faults.Size n)) (sym is.0)
met_fault bytes (faults.Size line) (inr is) =
    let version : Version = is.1.0 in let name : YardBay = is.1.1 in let size : Size = is.1.2 in let rest : List ℕ = is.1.3 in
    ap met is.1.7 ∙ past_title version (bay_line name ++ (size_line size ++ rest)) ∙ past_bay version name (size_line size ++ rest) is.1.5 ∙ past_size version size rest is.1.6
    ∙ ap (λ o. or_fault o (faults.Size 4) (λ x. rows_fault (frame_of version size x.0) size.rows [] x.1)) (line_at version size rest is.1.4 ∙ none_read (line_reader size is.1.6) rest is.1.8) ∙ ap (λ n. Some (faults.Size n)) (sym is.0)
met_fault bytes (faults.Row line) (frame, stacks, rest, parsed, more, place, none) =
    met_stacks bytes frame stacks rest (suc (frame.size.rows - suc (length stacks))) parsed (omega arith)
    ∙ ap (λ o. or_fault o (faults.Row (first_row frame.version + length stacks)) (λ x. rows_fault frame (frame.size.rows - suc (length stacks)) (stacks ++ x.0 ∷ []) x.1))
    (none_read (next_reader frame.size frame.heights stacks parsed.tells.is_size) rest none)
    ∙ ap (λ n. Some (faults.Row n)) (sym place)
met_fault bytes (faults.Claim line) (frame, stacks, rest, parsed, all, place, none) =
    met_all bytes frame stacks rest parsed all
    ∙ ap (λ o. or_fault o (faults.Claim (claim_number frame)) (λ x. plan_fault frame x.1)) (none_read (claim_reader frame.version (most_claimed frame.size) (few_claimed frame.size parsed.tells.is_size)) rest none)
    ∙ ap (λ n. Some (faults.Claim n)) (sym place)
met_fault bytes (faults.Plan line) (frame, stacks, claim, rest, parsed, all, low, place, none) =
    met_all bytes frame stacks (claim_line claim ++ rest) parsed all ∙ past_claim frame claim rest parsed.tells.is_size low
    ∙ ap (λ o. or_fault o (faults.Plan (claim_number frame + 1)) (λ x. None)) (none_read plan_reader rest none)
    ∙ ap (λ n. Some (faults.Plan n)) (sym place)
met_fault bytes _ is = absurd is

-- ---- what a head states

-- the stacks of a problem are first stacks
problem_first : (p : Problem) → IsProblem p → AreFirstStacks (size_of p) p.heights p.stacks
problem_first p is = record {
  few = omega arith;
  low = front_of p.heights p.stacks is.stacks_fit;
  in_range = is.no_other;
  apart = λ x.
      ⊎_elim
      (λ some. let r = is.no_other x some in omega (arith, is.each_once x r.0 r.1))
      (λ none. omega arith)
      (cases_lt 0 (occurrences x p.stacks));
  none_missing = λ all x lo hi. omega (arith, is.each_once x lo hi);
}

-- what a head says above its rows
abbrev pub frame_in : Head → Frame
frame_in head = frame_of head.version (size_of head.problem) head.problem.heights

-- what a head states above its claim
head_tells : (bytes : List ℕ) (head : Head) (rest : List ℕ) → IsHead head → bytes ≡ head_text head ++ rest → BeginsWithStacks bytes (frame_in head) head.problem.stacks (claim_line head.claim ++ (plan_line head.plan ++ rest))
head_tells bytes head rest is text = record {
  tells = record { name = head.bay; named = is.name; is_size = size_is head is; may_state = head_states head is; text = text ∙ head_then head rest };
  first = problem_first head.problem is.problem;
}

-- what a head claims it may claim
may_claim : (head : Head) → IsHead head → MayClaim head.version (most_claimed (size_of head.problem)) head.claim
may_claim head is = record { can_claim = is.can_claim; within = is.claim }

-- no fault is met in a head
met_head : (bytes : List ℕ) (head : Head) → IsHeadOf bytes head → met bytes ≡ None
unfolding plan_fault
met_head bytes head of =
    let is = of.0 in let rest : List ℕ = of.1.0 in let frame : Frame = frame_in head in
    let parsed = head_tells bytes head rest is of.1.1 in
    met_all bytes frame head.problem.stacks (claim_line head.claim ++ (plan_line head.plan ++ rest)) parsed refl
    ∙ past_claim frame head.claim (plan_line head.plan ++ rest) parsed.tells.is_size (may_claim head is)
    ∙ ap (λ o. or_fault o (faults.Plan (claim_number frame + 1)) (λ x. None)) (plan_reader.again head.plan rest is.plan)

-- no text has both
pub apart : (bytes : List ℕ) (head : Head) (fault : CertFault) → IsHeadOf bytes head → IsFirstFault bytes fault → ⊥
apart bytes head fault of is = none-some fault (sym (met_head bytes head of) ∙ met_fault bytes fault is)

-- no text has two first faults
pub one_fault : (bytes : List ℕ) (fault other : CertFault) → IsFirstFault bytes fault → IsFirstFault bytes other → fault ≡ other
one_fault bytes fault other is also = same_Some fault other (sym (met_fault bytes fault is) ∙ met_fault bytes other also)

-- ---- one or the other

-- a head, or a first fault
abbrev Answer : List ℕ → Type 0
Answer bytes = ((head : Head) × IsHeadOf bytes head) ⊎ ((fault : CertFault) × IsFirstFault bytes fault)

-- the head that these lines state
abbrev pub parsed_head : YardBay → Frame → List (List ℕ) → Claim → Option (List ℕ) → Head
parsed_head name frame stacks claim plan = record { version = frame.version; bay = name; problem = stated_with frame.heights frame.size.ordered stacks; claim = claim; plan = plan }

pub head_of : (bytes : List ℕ) (name : YardBay) (frame : Frame) (stacks : List (List ℕ)) (claim : Claim) (plan : Option (List ℕ)) (rest : List ℕ) → IsYardBay name → IsSize frame.size →
    MayState frame.version frame.size frame.heights → AreFirstStacks frame.size frame.heights stacks → length stacks ≡ frame.size.rows → MayClaim frame.version (most_claimed frame.size) claim → IfSome plan AreRows →
    bytes ≡ title_line frame.version ++ (bay_line name ++ (size_line frame.size ++ (stated_heights frame.version frame.heights ++ (flat_map row_line stacks ++ (claim_line claim ++ (plan_line plan ++ rest)))))) →
    IsHead (parsed_head name frame stacks claim plan) × (bytes ≡ head_text (parsed_head name frame stacks claim plan) ++ rest)
head_of bytes name frame stacks claim plan rest named is state first all low fits text =
    let size : Size = frame.size in let heights : List ℕ = frame.heights in
    let are = heights_are frame.version size heights is state in
    let head : Head = parsed_head name frame stacks claim plan in
    let same : size ≡ size_of (stated_with heights size.ordered stacks) =
    same_size size.rows size.tiers size.total (length stacks) (tallest heights) (total stacks) size.ordered (sym all) (sym are.largest) (sym (total_is size heights stacks first all)) in (
      record {
        name = named;
        problem = problem_is size heights stacks is are first all;
        can_state = can_state frame.version size (stated_with heights size.ordered stacks) all are.largest state;
        can_claim = low.can_claim;
        claim = subst (λ m. bound claim ≤ m) (sym (cap_is size heights stacks are)) low.within;
        plan = fits;
      },
      text
          ∙ ap (λ (s : Size). title_line frame.version ++ (bay_line name ++ (size_line s ++ (stated_heights frame.version heights ++ (flat_map row_line stacks ++ (claim_line claim ++ (plan_line plan ++ rest))))))) same
          ∙ sym (head_then head rest),
    )
  where
    same_size : (r t m r' t' m' n : ℕ) → r ≡ r' → t ≡ t' → m ≡ m' → ◌≡◌ {A = Size} (record { rows = r; tiers = t; ordered = n; total = m }) (record { rows = r'; tiers = t'; ordered = n; total = m' })
    same_size r t m r' t' m' n a b c =
        ap (λ x. record { rows = x; tiers = t; ordered = n; total = m }) a ∙ ap (λ x. record { rows = r'; tiers = x; ordered = n; total = m }) b ∙ ap (λ x. record { rows = r'; tiers = t'; ordered = n; total = x }) c

-- from the plan line on there is one of the two
plan_answer : (bytes : List ℕ) (frame : Frame) (stacks : List (List ℕ)) (claim : Claim) (rest : List ℕ) → BeginsWithStacks bytes frame stacks (claim_line claim ++ rest) → length stacks ≡ frame.size.rows → MayClaim frame.version (most_claimed frame.size) claim → Answer bytes
plan_answer bytes frame stacks claim rest parsed all low = by_plan (plan_at rest) refl
  where
    by_plan : (o : Option (Option (List ℕ) × List ℕ)) → plan_at rest ≡ o → Answer bytes
    by_plan None e = inr (faults.Plan (claim_number frame + 1), (frame, stacks, claim, rest, parsed, all, low, refl, none_stands plan_reader rest e))
    by_plan (Some x) e =
        let name : YardBay = parsed.tells.name in
        let t = plan_reader.takes rest x.0 x.1 e in
        let h = head_of bytes name frame stacks claim x.0 x.1 parsed.tells.named parsed.tells.is_size parsed.tells.may_state parsed.first all low t.0
        (parsed.tells.text ∙ ap (λ l. title_line frame.version ++ (bay_line name ++ (size_line frame.size ++ (stated_heights frame.version frame.heights ++ (flat_map row_line stacks ++ (claim_line claim ++ l)))))) t.1) in
        inl (parsed_head name frame stacks claim x.0, (h.0, (x.1, h.1)))

-- from the claim line on
claim_answer : (bytes : List ℕ) (frame : Frame) (stacks : List (List ℕ)) (rest : List ℕ) → BeginsWithStacks bytes frame stacks rest → length stacks ≡ frame.size.rows → Answer bytes
claim_answer bytes frame stacks rest parsed all = by_claim (claim_at frame.version (most_claimed frame.size) rest) refl
  where
    reader : IsReader (MayClaim frame.version (most_claimed frame.size)) claim_line (claim_at frame.version (most_claimed frame.size))
    reader = claim_reader frame.version (most_claimed frame.size) (few_claimed frame.size parsed.tells.is_size)

    by_claim : (o : Option (Claim × List ℕ)) → claim_at frame.version (most_claimed frame.size) rest ≡ o → Answer bytes
    by_claim None e = inr (faults.Claim (claim_number frame), (frame, stacks, rest, parsed, all, refl, none_stands reader rest e))
    by_claim (Some x) e =
        let t = reader.takes rest x.0 x.1 e in
        plan_answer bytes frame stacks x.0 x.1 (subst (BeginsWithStacks bytes frame stacks) t.1 parsed) all t.0

-- the text of one more stack
pub text_push : (bytes : List ℕ) (stacks : List (List ℕ)) (stack rest after : List ℕ) → bytes ≡ flat_map row_line stacks ++ rest → rest ≡ row_line stack ++ after → bytes ≡ flat_map row_line (stacks ++ stack ∷ []) ++ after
text_push bytes stacks stack rest after e f = e ∙ ap (λ l. flat_map row_line stacks ++ l) f ∙ pushed stacks
  where
    pushed : (stacks : List (List ℕ)) → flat_map row_line stacks ++ (row_line stack ++ after) ≡ flat_map row_line (stacks ++ stack ∷ []) ++ after
    pushed [] = sym (ap (λ l. l ++ after) (append-nil (row_line stack)))
    pushed (s ∷ stacks) =
        append_assoc (row_line s) (flat_map row_line stacks) (row_line stack ++ after) ∙ ap (λ l. row_line s ++ l) (pushed stacks)
        ∙ sym (append_assoc (row_line s) (flat_map row_line (stacks ++ stack ∷ [])) after)

-- the lines with one more row
pub tells_next : (bytes : List ℕ) (frame : Frame) (stacks : List (List ℕ)) (stack rest after : List ℕ) → BeginsWithStacks bytes frame stacks rest → IsNextStack frame.size frame.heights stacks stack → rest ≡ row_line stack ++ after →
    BeginsWithStacks bytes frame (stacks ++ stack ∷ []) after
tells_next bytes frame stacks stack rest after parsed next e = record {
  tells = subst (BeginsWithFrame bytes frame) (text_push (flat_map row_line stacks ++ rest) stacks stack rest after refl e) parsed.tells;
  first = next;
}

-- from a row line on
rows_answer : (left : ℕ) (bytes : List ℕ) (frame : Frame) (stacks : List (List ℕ)) (rest : List ℕ) → BeginsWithStacks bytes frame stacks rest → frame.size.rows ≡ left + length stacks → Answer bytes
rows_answer zero bytes frame stacks rest parsed e = claim_answer bytes frame stacks rest parsed (omega arith)
rows_answer (suc left) bytes frame stacks rest parsed e =
    by_row (λ stack after next. rows_answer left bytes frame (stacks ++ stack ∷ []) after next (omega (arith, length_push stacks stack))) (next_at frame.size frame.heights stacks rest) refl
  where
    reader : IsReader (IsNextStack frame.size frame.heights stacks) row_line (next_at frame.size frame.heights stacks)
    reader = next_reader frame.size frame.heights stacks parsed.tells.is_size

    by_row : ((stack after : List ℕ) → BeginsWithStacks bytes frame (stacks ++ stack ∷ []) after → Answer bytes) → (o : Option (List ℕ × List ℕ)) → next_at frame.size frame.heights stacks rest ≡ o → Answer bytes
    by_row go None f = inr (faults.Row (first_row frame.version + length stacks), (frame, stacks, rest, parsed, omega arith, refl, none_stands reader rest f))
    by_row go (Some x) f =
        let t = reader.takes rest x.0 x.1 f in
        go x.0 x.1 (tells_next bytes frame stacks x.0 rest x.1 parsed t.0 t.1)

-- from behind the size line on
heights_answer : (bytes : List ℕ) (version : Version) (name : YardBay) (size : Size) (rest : List ℕ) → IsYardBay name → IsSize size → bytes ≡ title_line version ++ (bay_line name ++ (size_line size ++ rest)) → Answer bytes
heights_answer bytes version name size rest named is text = by_heights version text (heights_at version size rest) refl
  where
    by_heights : (v : Version) → bytes ≡ title_line v ++ (bay_line name ++ (size_line size ++ rest)) → (o : Option (List ℕ × List ℕ)) → heights_at v size rest ≡ o → Answer bytes
    by_heights One text None e = absurd cc
    by_heights Two text None e = inr (faults.Size 4, inr (refl, (Two, name, size, rest, refl, named, is, text, none_stands (line_reader size is) rest e)))
    by_heights Three text None e = inr (faults.Size 4, inr (refl, (Three, name, size, rest, refl, named, is, text, none_stands (line_reader size is) rest e)))
    by_heights v text (Some x) e =
        let t = (heights_reader v size is).takes rest x.0 x.1 e in
        rows_answer size.rows bytes (frame_of v size x.0) [] x.1
        (record {
          tells = record { name = name; named = named; is_size = is; may_state = t.0; text = text ∙ ap (λ l. title_line v ++ (bay_line name ++ (size_line size ++ l))) t.1 };
          first = no_stacks size x.0 is;
        }) (omega arith)

-- from the size line on
size_answer : (bytes : List ℕ) (version : Version) (name : YardBay) (rest : List ℕ) → IsYardBay name → bytes ≡ title_line version ++ (bay_line name ++ rest) → Answer bytes
size_answer bytes version name rest named text = by_size (size_at rest) refl
  where
    by_size : (o : Option (Size × List ℕ)) → size_at rest ≡ o → Answer bytes
    by_size None e = inr (faults.Size 3, inl (refl, (version, name, rest, named, text, none_stands size_reader rest e)))
    by_size (Some x) e =
        let t = size_reader.takes rest x.0 x.1 e in
        heights_answer bytes version name x.0 x.1 named t.0 (text ∙ ap (λ l. title_line version ++ (bay_line name ++ l)) t.1)

-- from the line of the bay on
bay_answer : (bytes : List ℕ) (version : Version) (rest : List ℕ) → bytes ≡ title_line version ++ rest → Answer bytes
bay_answer bytes version rest text = by_bay (bay_at rest) refl
  where
    by_bay : (o : Option (YardBay × List ℕ)) → bay_at rest ≡ o → Answer bytes
    by_bay None e = inr (faults.Opening 2, inr (refl, (version, rest, text, none_stands bay_reader rest e)))
    by_bay (Some x) e =
        let t = bay_reader.takes rest x.0 x.1 e in
        size_answer bytes version x.0 x.1 t.0 (text ∙ ap (λ l. title_line version ++ l) t.1)

-- where no title is read none stands
pub no_title : (bytes : List ℕ) → title_at bytes ≡ None → (version : Version) (rest : List ℕ) → bytes ≡ title_line version ++ rest → ⊥
no_title bytes e version rest text = none_stands title_reader bytes e (version, tt, (rest, text))

-- each text has one of the two
pub some_answer : (bytes : List ℕ) → Answer bytes
some_answer bytes = by_title (title_at bytes) refl
  where
    by_title : (o : Option (Version × List ℕ)) → title_at bytes ≡ o → Answer bytes
    by_title None e = inr (faults.Opening 1, inl (refl, no_title bytes e))
    by_title (Some x) e = bay_answer bytes x.0 x.1 (title_reader.takes bytes x.0 x.1 e).1
