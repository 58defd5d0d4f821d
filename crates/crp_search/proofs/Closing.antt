-- What holds of a node where so much suffices, by its mark; and how a node closes.
use Rattle.std.proofs.Common.{◌≡◌, ℕ, ◌+◌, ◌<◌, ◌≤◌, min, inl, List, [], ◌∷◌, ◌++◌, length, map, Option, Some, None, Result, Ok, Err, refl, sym, ap, ◌∙◌, append-nil, arith}
use Rattle.std.specs.Prelude.{IfOk, IfSome}
use Rattle.crp_plan.specs.Bay.{Position}
use Rattle.crp_bounds.specs.Bounds.{blocking, look_ahead}
use Rattle.crp_tree.specs.Mark.{B, X}
use Rattle.crp_row.specs.Reasons.{AreReasons}
use Rattle.crp_row.specs.Rows.{symbol_of}
use Rattle.crp_row.specs.declared.kind.Kind.{Kind}
use Rattle.crp_row.specs.declared.kind.Kind.TheVariants.{CutB, CutL, CutR, Branch, Given}
use Rattle.crp_tree.specs.Symbols.{IsLeaf, leaf}
use Rattle.crp_tree.specs.Trees.{Node, nodes, cuts, value, least, least_value, given_names, IsGivenAway}
use Rattle.crp_tree.proofs.Shown.{least_most}
use Rattle.crp_tree.proofs.Joined.{least_value-append}
use Rattle.crp_search.specs.declared.frames.Closed.{Closed}
use Rattle.crp_search.specs.declared.walk_end.WalkEnd.{WalkEnd}
use Rattle.crp_search.specs.Limits.{Dealings}
use Rattle.crp_search.specs.Searched.{IsHeld}
use Rattle.crp_search.specs.Walked.{met_at, IsLeafAt, Closes}

pub held_b : (bar : ℕ) (path : List ℕ) (s : Position) → bar ≤ length path + blocking s → IsHeld 0 bar (record { path = path; place = s; mark = B })
held_b bar path s le = record { closed = λ cut. inl le; needed = λ ahead. absurd (cc); below = λ branch. absurd (cc) }

pub held_x : (bar : ℕ) (path : List ℕ) (s : Position) → length path + look_ahead s < bar → IsHeld 0 bar (record { path = path; place = s; mark = X })
held_x bar path s low = record { closed = λ cut. absurd (cc); needed = λ ahead. absurd (cc); below = λ branch. low }

-- the floor stays where a branch is met, and falls to the value of a cut
pub floor_branch : (most floor : ℕ) (met : List Node) (path : List ℕ) (s : Position) → floor ≡ least_value most met → floor ≡ least_value most (met ++ record { path = path; place = s; mark = X } ∷ [])
floor_branch most floor met path s is =
    let node : Node = record { path = path; place = s; mark = X } in
    omega (arith, is, least_value-append most met (node ∷ []), least_most most (map value (cuts met)))

least_lower : (floor most : ℕ) (values : List ℕ) → floor ≤ most → least floor values ≡ min floor (least most values)
least_lower floor most [] le = omega (arith, le)
least_lower floor most (v ∷ values) le = omega (arith, least_lower floor most values le)

pub floor_more : (most floor low : ℕ) (met own : List Node) → floor ≡ least_value most met → low ≡ least_value floor own → low ≡ least_value most (met ++ own)
floor_more most floor low met own is lower =
    omega (arith, is, lower, least_value-append most met own, least_lower floor most (map value (cuts own)) (omega (arith, is, least_most most (map value (cuts met)))))

-- ---- how a node closes

-- by the blocking bound
pub closed_b : (floor low : ℕ) (path : List ℕ) (s : Position) (text : List ℕ) → low ≡ length path + blocking s → IsLeafAt 0 floor path s text (record { kind = CutB; floor = min low floor })
closed_b floor low path s text e = record { leaf_is = tt; fits = tt; given = λ away. absurd away; floor_is = ap (λ v. min v floor) e }

-- by the look-ahead bound
pub closed_l : (floor high : ℕ) (path : List ℕ) (s : Position) (text : List ℕ) → high ≡ length path + look_ahead s → IsLeafAt 0 floor path s text (record { kind = CutL; floor = min high floor })
closed_l floor high path s text e = record { leaf_is = tt; fits = tt; given = λ away. absurd away; floor_is = ap (λ v. min v floor) e }

-- by reasons
pub closed_r : (floor high bound : ℕ) (path : List ℕ) (s : Position) (text : List ℕ) → AreReasons bound text → high ≡ length path + bound → IsLeafAt 0 floor path s text (record { kind = CutR bound; floor = min high floor })
closed_r floor high bound path s text spelled e = record { leaf_is = tt; fits = spelled; given = λ away. absurd away; floor_is = ap (λ v. min v floor) e }

-- as it does once no node was met before, and where more may be given away
pub closes_from : {A : Type 0} {Meets : ℕ → A → Dealings → A → Dealings → List Node → Type 0} {Ends : ℕ → A → Dealings → A → Dealings → List Node → WalkEnd → Type 0} {a b c : A} {d e f : Dealings}
    {floor : ℕ} {path : List ℕ} {s : Position} {text : List ℕ} (more : ℕ) (result : Result (Option Closed) WalkEnd) → Closes Meets Ends b e c f 0 floor path s text result →
    ((rows : ℕ) (met : List Node) → Meets rows b e c f met → Meets rows a d c f met) → ((rows : ℕ) (end : WalkEnd) → Ends rows b e c f [] end → Ends rows a d c f [] end) →
    Closes Meets Ends a d c f more floor path s text result
closes_from more (Err end) h on ends = record { met = tt; closed = tt; ended = λ rows _. ends rows end (h.ended rows (omega arith)) }
closes_from {path} {s} {text} more (Ok None) h on ends = record { met = λ rows _. on rows (met_at path s text None) (h.met rows (omega arith)); closed = tt; ended = tt }
closes_from {path} {s} {text} more (Ok (Some closed)) h on ends =
    let leaf = h.closed in
    record {
      met = λ rows _. on rows (met_at path s text (Some closed)) (h.met rows (omega arith));
      closed = record { leaf_is = leaf.leaf_is; fits = leaf.fits; given = λ away. let none = leaf.given away in absurd (omega arith); floor_is = leaf.floor_is };
      ended = tt;
    }

-- ---- the names that are given

-- a node that is closed and not given away gives none
none_of_kind : (path : List ℕ) (s : Position) (text : List ℕ) (kind : Kind) → IsLeaf (symbol_of kind text) → (IsGivenAway (leaf (symbol_of kind text)) → length path < 0) → given_names (nodes path s (leaf (symbol_of kind text))) ≡ []
none_of_kind path s text CutB is away = refl
none_of_kind path s text CutL is away = refl
none_of_kind path s text (CutR bound) is away = refl
none_of_kind path s text (Branch count) is away = absurd is
none_of_kind path s text Given is away = absurd (let none = away tt in omega arith)

pub none_given : (before : ℕ) (path : List ℕ) (s : Position) (text : List ℕ) (found : Option Closed) → IfSome found (IsLeafAt 0 before path s text) → given_names (met_at path s text found) ≡ []
none_given before path s text None is = refl
none_given before path s text (Some closed) is = none_of_kind path s text closed.kind is.leaf_is is.given

pub gives_none : {A : Type 0} {Meets : ℕ → A → Dealings → A → Dealings → List Node → Type 0} {Ends : ℕ → A → Dealings → A → Dealings → List Node → WalkEnd → Type 0} {a b : A} {d e : Dealings}
    {floor : ℕ} {path : List ℕ} {s : Position} {text : List ℕ} (result : Result (Option Closed) WalkEnd) → Closes Meets Ends a d b e 0 floor path s text result →
    (old new : List (List ℕ)) → new ≡ old → IfOk result (λ found. new ≡ old ++ given_names (met_at path s text found))
gives_none (Err end) h old new same = tt
gives_none {floor} {path} {s} {text} (Ok found) h old new same = same ∙ sym (append-nil old) ∙ ap (λ l. old ++ l) (sym (none_given floor path s text found h.closed))
