-- A thinned tree shows each floor that its cuts have.
use Rattle.std.proofs.Common.{◌≡◌, ℕ, ◌+◌, ◌-◌, ◌≤◌, ◌↔◌, Bool, true, List, [], ◌∷◌, ◌++◌, length, filter, get_or, Contains, All, refl, sym, ap, ◌∙◌, subst, ⊎_elim, arith, length-append}
use Rattle.std.proofs.lemmas.List.Elements.{All-head, All-tail, All-nil, All-cons, All-append}
use Rattle.crp_plan.specs.declared.moves.Move.{Move}
use Rattle.crp_plan.specs.Rows.{FitRows}
use Rattle.crp_plan.specs.Bay.{Problem, IsProblem, Position, IsSound, IsTaken, IsAt, IsPlan, IsFinished, Runs, Completes, relocations, path_of}
use Rattle.crp_plan.proofs.Covered.{from_at, at_sound, relocations-path}
use Rattle.crp_bay.specs.Positions.{stack_at}
use Rattle.crp_bay.proofs.Members.{not_in_nil, in_head, in_tail, in_cons_cases, from_filter}
use Rattle.crp_bounds.specs.Bounds.{blocking, look_ahead}
use Rattle.crp_chains.specs.Named.{family_of}
use Rattle.crp_thinned.specs.Tree.{Tree, CutB, CutL, CutT, Branch, Thin, Free, Given, Trees, no_trees, one_and}
use Rattle.crp_thinned.specs.Hindering.{hinders_nobody}
use Rattle.crp_thinned.specs.Thinned.{blocker, good_rows, free_rows, first, free_row, child_at, child_without, Cut, cut_value, ByBlocking, ByLookAhead, ByChains, chains_at, thinned_cuts, cuts_of_each, FitsThinned, FitsEachGood, ReachesAll, shown, shown_by_each}
use Rattle.crp_thinned.specs.Missing.{left_of, SitsLow, IsSettled, IsSoundlyThin, IsThinned}
use Rattle.crp_thinned.proofs.Kept.{rows_left, all_left, length_left}
use Rattle.crp_thinned.proofs.Sitting.{sits_whole}
use Rattle.crp_thinned.proofs.Keeping.{thin_at, thin_without}
use Rattle.crp_thinned.proofs.Playing.{Choice, To, Out, Plays, price, played, claimed, below_price}
use Rattle.crp_thinned.proofs.Falling.{blocking_slow, ahead_slow}
use Rattle.crp_thinned.proofs.Chained.{Claims, chains_fall}
use Rattle.crp_thinned.proofs.Exchanging.{HindersNobody, exchange}

-- what holds of all of two lists holds of all of each
pub in_first : {X : Type 0} (P : X → Type 0) (xs ys : List X) → All P (xs ++ ys) → All P xs
in_first P [] ys h = All-nil P
in_first P (x ∷ xs) ys h = All-cons P x xs (All-head P x (xs ++ ys) h) (in_first P xs ys (All-tail P x (xs ++ ys) h))

pub in_second : {X : Type 0} (P : X → Type 0) (xs ys : List X) → All P (xs ++ ys) → All P ys
in_second P [] ys h = h
in_second P (x ∷ xs) ys h = in_second P xs ys (All-tail P x (xs ++ ys) h)

-- the first of some rows
first_in : (rows : List ℕ) → 1 ≤ first rows → Contains rows (first rows)
first_in [] some = absurd (omega arith)
first_in (row ∷ rows) some = in_head row rows

-- the row of a branch with one tree
pub record IsFree (s : Position) (row : ℕ) : Type 0 where
  pub legal : Contains (good_rows s) row
  pub hinders : HindersNobody s row

pub free_is : (s : Position) → 1 ≤ free_row s → IsFree s (free_row s)
free_is s some =
    let parts = from_filter (λ row. hinders_nobody s.ordered (blocker s) s.stacks (get_or s.heights (row - 1) 0) (stack_at s (row - 1))) (good_rows s) (free_row s) (first_in (free_rows s) some) in
    record { legal = parts.1; hinders = parts.0 }

pub thin_free : (s : Position) → IsSoundlyThin s → 1 ≤ free_row s → IsSoundlyThin (child_at s (free_row s))
thin_free s thin some = thin_at s (free_row s) thin (free_is s some).legal

mutual
  -- a play beside a tree
  pub showing : (f cost : ℕ) (s : Position) (tree : Tree) (play : List Choice) → IsSoundlyThin s → FitsThinned s tree → ReachesAll f (thinned_cuts cost s tree) → Plays s play → f ≤ cost + price play
  showing f cost s CutB play thin fits high p = let h = All-head (λ (cut : Cut). f ≤ cut_value cut) _ [] high in omega (arith, h, below_price blocking s play blocking_slow thin p)
  showing f cost s CutL play thin fits high p = let h = All-head (λ (cut : Cut). f ≤ cut_value cut) _ [] high in omega (arith, h, below_price look_ahead s play ahead_slow thin p)
  showing f cost s (CutT family) play thin fits high p =
      let h = All-head (λ (cut : Cut). f ≤ cut_value cut) _ [] high in
      omega (arith, h, claimed Claims s (chains_at family s) play chains_fall thin (family_of s family, fits, refl) p)
  showing f cost s (Branch all) play thin fits high p = absurd fits
  showing f cost s (Thin all) [] thin fits high p = absurd (let le = fits.0 in omega arith)
  showing f cost s (Thin all) (To row ∷ play) thin fits high p = showing_row f cost s (good_rows s) all row play thin (λ r k. k) p.0 fits.1 high p.1
  showing f cost s (Thin all) (Out ∷ play) thin fits high p = showing_last f cost s (good_rows s) all play thin p.0 fits.1 high p.1
  showing f cost s (Free tree) play thin fits high p =
      let free = free_is s fits.0 in
      let cheaper = exchange s (free_row s) play thin free.legal free.hinders p in
      let r = showing f (cost + 1) (child_at s (free_row s)) tree cheaper.0 (thin_at s (free_row s) thin free.legal) fits.1 high cheaper.1 in
      omega (arith, r, cheaper.2)
  showing f cost s Given play thin fits high p = absurd fits

  -- one that goes to one of the rows
  showing_row : (f cost : ℕ) (s : Position) (rows : List ℕ) (all : Trees) (row : ℕ) (play : List Choice) → IsSoundlyThin s → ((r : ℕ) → Contains rows r → Contains (good_rows s) r) → Contains rows row →
      FitsEachGood s rows all → ReachesAll f (cuts_of_each cost s rows all) → Plays (child_at s row) play → f ≤ cost + (1 + price play)
  showing_row f cost s [] all row play thin legal c fits high p = absurd (not_in_nil row c)
  showing_row f cost s (r ∷ rows) no_trees row play thin legal c fits high p = absurd fits
  showing_row f cost s (r ∷ rows) (one_and tree trees) row play thin legal c fits high p =
      let P : Cut → Type 0 = λ cut. f ≤ cut_value cut in
      let A : List Cut = thinned_cuts (cost + 1) (child_at s r) tree in
      let B : List Cut = cuts_of_each cost s rows trees in
      ⊎_elim
      (λ same.
      let h = showing f (cost + 1) (child_at s r) tree play (thin_at s r thin (legal r (in_head r rows))) fits.0 (in_first P A B high) (subst (λ (x : ℕ). Plays (child_at s x) play) (sym same) p) in
      omega (arith, h))
      (λ there. showing_row f cost s rows trees row play thin (λ x k. legal x (in_tail r rows x k)) there fits.1 (in_second P A B high) p)
      (in_cons_cases r rows row c)

  -- one that lifts the blocker out
  showing_last : (f cost : ℕ) (s : Position) (rows : List ℕ) (all : Trees) (play : List Choice) → IsSoundlyThin s → s.next ≤ s.ordered →
      FitsEachGood s rows all → ReachesAll f (cuts_of_each cost s rows all) → Plays (child_without s) play → f ≤ cost + (2 + price play)
  showing_last f cost s [] no_trees play thin le fits high p = absurd fits
  showing_last f cost s [] (one_and last no_trees) play thin le fits high p = let h = showing f (cost + 2) (child_without s) last play (thin_without s thin le) fits high p in omega (arith, h)
  showing_last f cost s [] (one_and last (one_and tree trees)) play thin le fits high p = absurd fits
  showing_last f cost s (r ∷ rows) no_trees play thin le fits high p = absurd fits
  showing_last f cost s (r ∷ rows) (one_and tree trees) play thin le fits high p =
      showing_last f cost s rows trees play thin le fits.1 (in_second (λ (cut : Cut). f ≤ cut_value cut) (thinned_cuts (cost + 1) (child_at s r) tree) (cuts_of_each cost s rows trees) high) p

-- what is left of a real position is soundly thin
left_fits : (keep : ℕ → Bool) (heights : List ℕ) (stacks : List (List ℕ)) → FitRows heights stacks → FitRows heights (rows_left keep stacks)
left_fits keep [] [] fit = tt
left_fits keep [] (x ∷ xs) fit = absurd fit
left_fits keep (h ∷ hs) [] fit = absurd fit
left_fits keep (h ∷ hs) (x ∷ xs) fit = (let a = fit.0 in omega (arith, length_left keep x), left_fits keep hs xs fit.1)

pub thin_beside : (s v : Position) → IsSound s → IsThinned s v → IsSoundlyThin v
thin_beside s v sound h =
    let settled : IsSettled (left_of h.keep v.next s) = subst IsSettled h.is_left h.settled in
    let made : IsSoundlyThin (left_of h.keep v.next s) = record {
      stacks_fit = left_fits h.keep s.heights s.stacks sound.stacks_fit;
      once = λ x. omega (arith, all_left h.keep x s.stacks, sound.once x);
      settled = settled;
    } in
    subst IsSoundlyThin (sym h.is_left) made

-- a run to the end, beside a thinned tree
pub beside : (f : ℕ) (s t : Position) (moves : List Move) (cost : ℕ) (v : Position) (tree : Tree) → IsSound s → IsThinned s v → Runs s moves t → IsFinished t →
    FitsThinned v tree → ReachesAll f (thinned_cuts cost v tree) → f + blocking s ≤ relocations moves + cost + blocking v
beside f s t moves cost v tree sound h r end fits high =
    let p = played s t moves v sound h r end in
    omega (arith, showing f cost v tree p.0 (thin_beside s v sound h) fits high p.1, p.2)

-- at the beginning nothing is missing
all_there : (stacks : List (List ℕ)) → rows_left (λ x. true) stacks ≡ stacks
all_there [] = refl
all_there (x ∷ xs) = ap (λ l. l ∷ rows_left (λ y. true) xs) (whole x) ∙ ap (λ l. x ∷ l) (all_there xs)
  where
    whole : (ys : List ℕ) → filter (λ y. true) ys ≡ ys
    whole [] = refl
    whole (y ∷ ys) = ap (λ l. y ∷ l) (whole ys)

all_low : (ordered : ℕ) (stacks : List (List ℕ)) → All (SitsLow (λ x. true) ordered []) stacks
all_low ordered [] = All-nil (SitsLow (λ x. true) ordered [])
all_low ordered (x ∷ xs) = All-cons (SitsLow (λ y. true) ordered []) x xs (sits_whole (λ y. true) ordered [] x (λ y. refl)) (all_low ordered xs)

-- nothing can be taken
abbrev pub NoneToTake : Position → Type 0
NoneToTake s = (row : ℕ) (t : Position) → IsTaken s row t → ⊥

pub itself : (s : Position) → IsSound s → NoneToTake s → IsThinned s s
itself s sound none = record {
  keep = λ x. true;
  is_left = ap (λ stacks. record { heights = s.heights; ordered = s.ordered; next = s.next; stacks = stacks }) (sym (all_there s.stacks));
  low = all_low s.ordered s.stacks;
  settled = record { gone = sound.gone; there = λ le. omega (arith, sound.waiting s.next (omega arith) le); no_take = none };
}

-- so over runs from a real position
pub shows_run : (s t : Position) (tree : Tree) (cost f : ℕ) (moves : List Move) → IsSound s → NoneToTake s → FitsThinned s tree → ReachesAll f (thinned_cuts cost s tree) → Runs s moves t → IsFinished t →
    f ≤ relocations moves + cost
shows_run s t tree cost f moves sound none fits high r end =
    omega (arith, beside f s t moves cost s tree sound (itself s sound none) r end fits high)

-- and over plans through a path
pub shows_path : (p : Problem) (path : List ℕ) (s : Position) (tree : Tree) (f : ℕ) (moves : List Move) → IsProblem p → IsAt p path s → FitsThinned s tree → ReachesAll f (thinned_cuts (length path) s tree) →
    IsPlan p moves → ((rest : List ℕ) × (path_of moves ≡ path ++ rest)) → f ≤ relocations moves
shows_path p path s tree f moves is a fits high plan b =
    let r = from_at p path b.0 s moves is a plan b.1 in
    let sizes : relocations moves ≡ length path + relocations r.0 =
    relocations-path moves ∙ ap length b.1 ∙ length-append path b.0 ∙ ap (λ n. length path + n) (sym (relocations-path r.0 ∙ ap length r.2)) in
    omega (arith, shows_run s plan.0 tree (length path) f r.0 (at_sound p path s is a) a.no_take fits high r.1 plan.2)

-- one cut
one_cut : (f : ℕ) (cut : Cut) → ReachesAll f (cut ∷ []) ↔ (f ≤ cut_value cut)
one_cut f cut = (
  (λ h. All-head (λ (c : Cut). f ≤ cut_value c) cut [] h),
  (λ le. All-cons (λ (c : Cut). f ≤ cut_value c) cut [] le (All-nil (λ (c : Cut). f ≤ cut_value c))),
)

mutual
  -- the bound that a tree shows is what all its cuts reach
  pub reaches : (f cost : ℕ) (s : Position) (tree : Tree) → FitsThinned s tree → ReachesAll f (thinned_cuts cost s tree) ↔ (f ≤ cost + shown s tree)
  reaches f cost s CutB fits = one_cut f (record { cost = cost; place = s; by = ByBlocking })
  reaches f cost s CutL fits = one_cut f (record { cost = cost; place = s; by = ByLookAhead })
  reaches f cost s (CutT family) fits = one_cut f (record { cost = cost; place = s; by = ByChains family })
  reaches f cost s (Branch all) fits = absurd fits
  reaches f cost s (Thin all) fits = each_reaches f cost s (good_rows s) all fits.1
  reaches f cost s (Free tree) fits =
      let r = reaches f (cost + 1) (child_at s (free_row s)) tree fits.1 in
      ((λ h. omega (arith, r.0 h)), (λ le. r.1 (omega arith)))
  reaches f cost s Given fits = absurd fits

  each_reaches : (f cost : ℕ) (s : Position) (rows : List ℕ) (all : Trees) → FitsEachGood s rows all → ReachesAll f (cuts_of_each cost s rows all) ↔ (f ≤ cost + shown_by_each s rows all)
  each_reaches f cost s [] no_trees fits = absurd fits
  each_reaches f cost s [] (one_and last no_trees) fits =
      let r = reaches f (cost + 2) (child_without s) last fits in
      ((λ h. omega (arith, r.0 h)), (λ le. r.1 (omega arith)))
  each_reaches f cost s [] (one_and last (one_and tree trees)) fits = absurd fits
  each_reaches f cost s (row ∷ rows) no_trees fits = absurd fits
  each_reaches f cost s (row ∷ rows) (one_and tree trees) fits =
      let P : Cut → Type 0 = λ cut. f ≤ cut_value cut in
      let A : List Cut = thinned_cuts (cost + 1) (child_at s row) tree in
      let B : List Cut = cuts_of_each cost s rows trees in
      let r = reaches f (cost + 1) (child_at s row) tree fits.0 in
      let q = each_reaches f cost s rows trees fits.1 in (
        (λ h. omega (arith, r.0 (in_first P A B h), q.0 (in_second P A B h))),
        (λ le. All-append P A B (r.1 (omega arith)) (q.1 (omega arith))),
      )

-- so it is below every run to the end
pub shown_bounds : (s : Position) (tree : Tree) (moves : List Move) → IsSound s → NoneToTake s → FitsThinned s tree → Completes s moves → shown s tree ≤ relocations moves
shown_bounds s tree moves sound none fits k =
    omega (arith, shows_run s k.0 tree 0 (shown s tree) moves sound none fits ((reaches (shown s tree) 0 s tree fits).1 (omega arith)) k.1 k.2)
