-- The lines of a head, one by one.
use Rattle.std.proofs.Common.{◌≡◌, ◌≢◌, ℕ, true, ◌+◌, ⊎_elim, inl, inr, List, [], ◌∷◌, ◌++◌, length, Option, refl, sym, ap, ◌∙◌, subst, arith, append_assoc, append-nil}
use Rattle.std.specs.Prelude.{IfSome, ⊤}
use Rattle.std.specs.List.{AllByRecursion, flat_map}
use Rattle.std.proofs.lemmas.List.Concat.{flat_map-append}
use Rattle.std.proofs.lemmas.Bool.{cases_lt, lt-ltb, le-ltb}
use Rattle.crp_plan.specs.BayNames.{YardBay, IsYardBay}
use Rattle.crp_plan.specs.Bay.{Problem}
use Rattle.crp_plan.specs.Faults.{stacks_of, stated_with}
use Rattle.crp_cert.specs.declared.head.Head.{Head}
use Rattle.crp_cert.specs.declared.size.Size.{Size}
use Rattle.crp_cert.specs.declared.version.Version.{Version}
use Rattle.crp_cert.specs.declared.version.Version.TheVariants.{One}
use Rattle.crp_cert.specs.declared.bay_rows.BayRows.{BayRows}
use Rattle.crp_cert.specs.declared.bay_rows.BayClaim.{BayClaim}
use Rattle.crp_cert.specs.declared.head_lines.HeadLines.{HeadLines}
use Rattle.crp_cert.specs.declared.head_lines.HeadLines.TheVariants as lines
use Rattle.crp_cert.proofs.Heights.{may_line, line_is}
use Rattle.crp_cert.specs.Text.{title_line, has_heights, bay_line, size_line, heights_line, stated_heights, row_line, claim_line, plan_line, first_row, IsSize, AreRows, IsHead, head_text}
use Rattle.crp_cert.specs.Faults.{BeginsWith, AreHeightsOf, MayState, IsNextStack, most_claimed, MayClaim, Frame, BeginsWithStacks, IsFirstFault}
use Rattle.crp_cert.specs.Settled.{StopsWithin, CanBeJudged, longest_line}
use Rattle.crp_cert.specs.LinesOfHead.{rows_text, AreStated, HasLines, HasNoLine, fault_behind}
use Rattle.crp_cert.proofs.Stacks.{few_claimed}
use Rattle.crp_cert.proofs.Verdicts.{frame_of, head_of}
use Rattle.crp_cert.proofs.Settled.{stays, not_yet, title_short, bay_short, size_short, heights_short, row_is_short, claim_short, plan_short}

-- ---- whether a line stands there

-- that no line stands there is so as long as its end has not come, and for good once it can be judged
pub record IsSettled (Nothing : List ℕ → Type 0) : Type 0 where
  pub not_yet : (bytes : List ℕ) → AllByRecursion (λ b. b ≢ 10) bytes → Nothing bytes
  pub stays : (bytes more : List ℕ) → CanBeJudged 10 longest_line bytes → Nothing bytes → Nothing (bytes ++ more)

settled_by : {A : Type 0} (fits : A → Type 0) (line : A → List ℕ) → ((x : A) → fits x → StopsWithin 10 longest_line (line x)) → IsSettled (λ bytes. ¬ BeginsWith fits line bytes)
settled_by fits line are = record { not_yet = not_yet fits line 10 longest_line are; stays = stays fits line 10 longest_line are }

-- whatever was read
pub settled : (all : HeadLines) → IsSettled (HasNoLine all)
settled lines.Start = settled_by (λ version. ⊤) title_line (λ version any. title_short version)
settled (lines.Title version) = settled_by IsYardBay bay_line bay_short
settled (lines.Bay version bay) = settled_by IsSize size_line size_short
settled (lines.Size sized) = settled_by (AreHeightsOf sized.size) heights_line (λ heights are. heights_short sized.size heights sized.is_size are)
settled (lines.Rows rows) =
    let stacks : List (List ℕ) = stacks_of rows.stacks.items in
    let row = settled_by (IsNextStack rows.size rows.heights.items stacks) row_line (λ stack next. row_is_short rows.size rows.heights.items stacks stack rows.is_size rows.are_heights next) in
    let claim = settled_by (MayClaim rows.version (most_claimed rows.size)) claim_line (λ claim may. claim_short (most_claimed rows.size) claim (few_claimed rows.size rows.is_size) may.within) in
    record {
      not_yet = λ bytes all. (λ more. row.not_yet bytes all, λ whole. claim.not_yet bytes all);
      stays = λ bytes more can none. (λ left. row.stays bytes more can (none.0 left), λ whole. claim.stays bytes more can (none.1 whole));
    }
settled (lines.Claim claimed) = settled_by (λ plan. IfSome plan AreRows) plan_line plan_short

-- ---- the fault of a line that does not

-- five texts, and more behind them
regroup : (a b c d e more : List ℕ) → (a ++ (b ++ (c ++ (d ++ e)))) ++ more ≡ a ++ (b ++ (c ++ (d ++ (e ++ more))))
regroup a b c d e more = simp append_assoc

-- the lines of some rows, and this behind them
stacks_begin : (rows : BayRows) (rest : List ℕ) → AreStated rows → BeginsWithStacks (rows_text rows ++ rest) (frame_of rows.version rows.size rows.heights.items) (stacks_of rows.stacks.items) rest
stacks_begin rows rest stated = record {
  tells = record {
    name = rows.bay;
    named = stated.0;
    is_size = rows.is_size;
    may_state = stated.1;
    text = regroup (title_line rows.version) (bay_line rows.bay) (size_line rows.size) (stated_heights rows.version rows.heights.items) (flat_map row_line (stacks_of rows.stacks.items)) rest;
  };
  first = rows.first;
}

pub fault_is : (bytes rest : List ℕ) (all : HeadLines) → HasLines bytes all → HasNoLine all rest → IsFirstFault (bytes ++ rest) (fault_behind all)
fault_is bytes rest lines.Start has none = inl (refl, λ version more e. none (version, tt, (more, sym (ap (λ l. l ++ rest) has) ∙ e)))
fault_is bytes rest (lines.Title version) has none = inr (refl, (version, rest, ap (λ l. l ++ rest) has, none))
fault_is bytes rest (lines.Bay version bay) has none = inl (refl, (version, bay, rest, has.0, ap (λ l. l ++ rest) has.1 ∙ append_assoc (title_line version) (bay_line bay) rest, none))
fault_is bytes rest (lines.Size sized) has none =
    inr (
      refl,
      (
        sized.version,
        sized.bay,
        sized.size,
        rest,
        sized.with_heights,
        has.0,
        sized.is_size,
        ap (λ l. l ++ rest) has.1 ∙ append_assoc (title_line sized.version) (bay_line sized.bay ++ size_line sized.size) rest ∙ ap (λ l. title_line sized.version ++ l) (append_assoc (bay_line sized.bay) (size_line sized.size) rest),
        none,
      ),
    )
fault_is bytes rest (lines.Rows rows) has none =
    let stacks : List (List ℕ) = stacks_of rows.stacks.items in
    let frame : Frame = frame_of rows.version rows.size rows.heights.items in
    let begins : BeginsWithStacks (bytes ++ rest) frame stacks rest = subst (λ l. BeginsWithStacks (l ++ rest) frame stacks rest) (sym has.1) (stacks_begin rows rest has.0) in
    let few = rows.first.few in
    ⊎_elim
    (λ more. rw (lt-ltb (length stacks) rows.size.rows more) (frame, stacks, rest, begins, more, refl, none.0 more))
    (λ whole.
    let all : length stacks ≡ rows.size.rows = omega arith in
    rw (le-ltb (length stacks) rows.size.rows whole) (frame, stacks, rest, begins, all, ap (λ n. first_row rows.version + n) all, none.1 all))
    (cases_lt (length stacks) rows.size.rows)
fault_is bytes rest (lines.Claim claimed) has none =
    let rows : BayRows = claimed.rows in
    let stacks : List (List ℕ) = stacks_of rows.stacks.items in
    let frame : Frame = frame_of rows.version rows.size rows.heights.items in
    let text : rows_text rows ++ (claim_line claimed.claim ++ rest) ≡ bytes ++ rest = sym (ap (λ l. l ++ rest) has.2 ∙ append_assoc (rows_text rows) (claim_line claimed.claim) rest) in
    let begins : BeginsWithStacks (bytes ++ rest) frame stacks (claim_line claimed.claim ++ rest) = subst (λ l. BeginsWithStacks l frame stacks (claim_line claimed.claim ++ rest)) text (stacks_begin rows (claim_line claimed.claim ++ rest) has.0) in
    (frame, stacks, claimed.claim, rest, begins, claimed.all, has.1, ap (λ n. first_row rows.version + n + 1) claimed.all, none)

-- ---- one line more

-- four texts, and one more behind them
regrouped : (a b c d : List ℕ) → (a ++ (b ++ c)) ++ d ≡ a ++ (b ++ (c ++ (d ++ [])))
regrouped a b c d = append_assoc a (b ++ c) d ∙ ap (λ l. a ++ l) (append_assoc b c d) ∙ ap (λ l. a ++ (b ++ (c ++ l))) (sym (append-nil d))

-- the heights, behind which no row was read
pub above_rows : (bytes : List ℕ) (rows : BayRows) (version : Version) (bay : YardBay) (size : Size) (heights : List ℕ) → rows.version ≡ version → rows.bay ≡ bay → rows.size ≡ size → rows.heights.items ≡ heights →
    stacks_of rows.stacks.items ≡ [] → IsYardBay bay → MayState version size heights → bytes ≡ title_line version ++ (bay_line bay ++ (size_line size ++ (stated_heights version heights ++ []))) → HasLines bytes (lines.Rows rows)
above_rows bytes rows version bay size heights v b s h none named state text = rw (v, b, s, h, none) ((named, state), text)

-- the size in version 1, which has no line of heights
pub sized_rows : (before : List ℕ) (rows : BayRows) (version : Version) (bay : YardBay) (size : Size) (heights : List ℕ) → version ≡ One → rows.version ≡ One → rows.bay ≡ bay → rows.size ≡ size → rows.heights.items ≡ heights →
    stacks_of rows.stacks.items ≡ [] → MayState One size heights → HasLines before (lines.Bay version bay) → HasLines (before ++ size_line size) (lines.Rows rows)
sized_rows before rows version bay size heights one v b s h none state has =
    above_rows (before ++ size_line size) rows One bay size heights v b s h none has.0 state
    (ap (λ l. l ++ size_line size) (has.1 ∙ ap (λ (v : Version). title_line v ++ bay_line bay) one) ∙ append_assoc (title_line One) (bay_line bay) (size_line size)
    ∙ ap (λ l. title_line One ++ (bay_line bay ++ l)) (sym (append-nil (size_line size))))

-- the heights in a version that has a line of them
pub stated_rows : (before : List ℕ) (rows : BayRows) (version : Version) (bay : YardBay) (size : Size) (heights : List ℕ) → has_heights version ≡ true → rows.version ≡ version → rows.bay ≡ bay → rows.size ≡ size → rows.heights.items ≡ heights → stacks_of rows.stacks.items ≡ [] →
    AreHeightsOf size heights → IsYardBay bay → before ≡ title_line version ++ (bay_line bay ++ size_line size) → HasLines (before ++ heights_line heights) (lines.Rows rows)
stated_rows before rows version bay size heights with_line v b s h none are named has =
    above_rows (before ++ heights_line heights) rows version bay size heights v b s h none named (may_line version size heights with_line are)
    (ap (λ l. l ++ heights_line heights) has ∙ regrouped (title_line version) (bay_line bay) (size_line size) (heights_line heights)
    ∙ ap (λ l. title_line version ++ (bay_line bay ++ (size_line size ++ (l ++ [])))) (sym (line_is version heights with_line)))

-- a row behind others
pub row_added : (a b c d : List ℕ) (stacks new : List (List ℕ)) (stack : List ℕ) → new ≡ stacks ++ stack ∷ [] → (a ++ (b ++ (c ++ (d ++ flat_map row_line stacks)))) ++ row_line stack ≡ a ++ (b ++ (c ++ (d ++ flat_map row_line new)))
row_added a b c d stacks new stack e =
    regroup a b c d (flat_map row_line stacks) (row_line stack)
    ∙ ap (λ l. a ++ (b ++ (c ++ (d ++ l)))) (ap (λ l. flat_map row_line stacks ++ l) (sym (append-nil (row_line stack))) ∙ sym (flat_map-append row_line stacks (stack ∷ [])) ∙ ap (flat_map row_line) (sym e))

-- the plan, with which the head ends
pub whole_head : (before : List ℕ) (claimed : BayClaim) (problem : Problem) (heights : List ℕ) (stacks : List (List ℕ)) (plan : Option (List ℕ)) → problem ≡ stated_with heights claimed.rows.size.ordered stacks → heights ≡ claimed.rows.heights.items →
    stacks ≡ stacks_of claimed.rows.stacks.items → IfSome plan AreRows → HasLines before (lines.Claim claimed) →
    let head : Head = record { version = claimed.rows.version; bay = claimed.rows.bay; problem = problem; claim = claimed.claim; plan = plan } in IsHead head × (before ++ plan_line plan ≡ head_text head)
whole_head before claimed problem heights stacks plan made same_heights same_stacks fits has =
    let rows : BayRows = claimed.rows in
    let all : List (List ℕ) = stacks_of rows.stacks.items in
    let whole = head_of (before ++ plan_line plan) rows.bay (frame_of rows.version rows.size rows.heights.items) all claimed.claim plan [] has.0.0 rows.is_size has.0.1 rows.first claimed.all has.1 fits
    (ap (λ l. l ++ plan_line plan) has.2 ∙ text (title_line rows.version) (bay_line rows.bay) (size_line rows.size) (stated_heights rows.version rows.heights.items) (flat_map row_line all) (claim_line claimed.claim) (plan_line plan)) in
    subst (λ (p : Problem). let head : Head = record { version = rows.version; bay = rows.bay; problem = p; claim = claimed.claim; plan = plan } in IsHead head × (before ++ plan_line plan ≡ head_text head))
    (sym (made ∙ ap (λ h. stated_with h rows.size.ordered stacks) same_heights ∙ ap (stated_with rows.heights.items rows.size.ordered) same_stacks))
    (whole.0, whole.1 ∙ append-nil (head_text _))
  where
    text : (a b c d e f g : List ℕ) → ((a ++ (b ++ (c ++ (d ++ e)))) ++ f) ++ g ≡ a ++ (b ++ (c ++ (d ++ (e ++ (f ++ (g ++ []))))))
    text a b c d e f g = ap (λ l. l ++ g) (regroup a b c d e f) ∙ regroup a b c d (e ++ f) g ∙ ap (λ l. a ++ (b ++ (c ++ (d ++ l)))) (append_assoc e f g) ∙ ap (λ l. a ++ (b ++ (c ++ (d ++ (e ++ (f ++ l)))))) (sym (append-nil g))
