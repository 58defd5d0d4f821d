-- How a text begins that is the symbols of trees, one after the other.
use Rattle.std.proofs.Common.{◌≡◌, ◌≢◌, ◌↔◌, ℕ, zero, suc, ◌+◌, ◌-◌, ◌/◌, ◌%◌, ◌<◌, ◌≤◌, List, [], ◌∷◌, ◌++◌, length, get_or, codes, refl, sym, ap, ◌∙◌, subst, ◌⊎◌, inl, inr, ⊎_elim, arith, append_assoc, append-nil}
use Rattle.std.specs.List.{AllByRecursion}
use Rattle.std.specs.Fmt.{decimal}
use Rattle.std.proofs.lemmas.Fmt.{decimal_digit, decimal_step}
use Rattle.std.proofs.lemmas.Bool.{cases_lt, ne_eqb}
use Rattle.crp_plan.specs.Rows.{occurrences}
use Rattle.crp_plan.specs.Bay.{Position}
use Rattle.crp_plan.proofs.Lists.{times, one_if, times-cons}
use Rattle.crp_bounds.specs.Bounds.{blocking, look_ahead}
use Rattle.crp_bounds.proofs.Cutting.{times-append}
use Rattle.crp_chains.proofs.Naming.{family_ranks}
use Rattle.crp_thinned.specs.Tree.{Tree, CutB, CutL, CutT, Branch, Thin, Free, Given, Trees, no_trees, one_and}
use Rattle.crp_thinned.specs.Thinned.{good_rows, free_row, child_at, child_without, FitsThinned, FitsEachGood, shown, shown_by_each}
use Rattle.crp_thinning.specs.declared.reading.Reading.{Reading}
use Rattle.crp_thinning.specs.Symbols.{symbols_of, symbols_of_each, chain_text, family_text, Closes}
use Rattle.crp_thinning.specs.Owed.{Task, Owes, points, digits_of, begun, EndsFamily}
use Rattle.crp_thinning.specs.OneChain.{IsRank, IsFair}
use Rattle.crp_thinning.specs.Branches.{task, row_tasks}

heads : (x y : ℕ) (xs ys : List ℕ) → x ∷ xs ≡ y ∷ ys → x ≡ y
heads x y xs ys h = ap first h
  where
    first : List ℕ → ℕ
    first [] = x
    first (z ∷ zs) = z

tails : (x y : ℕ) (xs ys : List ℕ) → x ∷ xs ≡ y ∷ ys → xs ≡ ys
tails x y xs ys h = ap rest h
  where
    rest : List ℕ → List ℕ
    rest [] = []
    rest (z ∷ zs) = zs

-- a tree at the front
tree_first : (s : Position) (need : ℕ) (tree : Tree) (tasks : List Task) (text rest : List ℕ) → FitsThinned s tree → need ≤ shown s tree → text ≡ symbols_of tree ++ rest → Owes tasks rest → Owes (task s need ∷ tasks) text
tree_first s need tree tasks text rest fits reaches e o = (symbols_of tree, rest, record { tree = tree; fits = fits; reaches = reaches; is_text = refl }, e, o)

-- ---- the trees of a thinned branch

pub rows_forward : (s : Position) (need : ℕ) (rows : List ℕ) (all : Trees) (tasks : List Task) (text rest : List ℕ) → FitsEachGood s rows all → need ≤ shown_by_each s rows all → text ≡ symbols_of_each all ++ rest → Owes tasks rest →
    Owes (row_tasks s need rows ++ tasks) text
rows_forward s need [] no_trees tasks text rest fits le e o = absurd fits
rows_forward s need [] (one_and tree no_trees) tasks text rest fits le e o = tree_first (child_without s) (need - 2) tree tasks text rest fits (omega arith) (e ∙ ap (λ l. l ++ rest) (append-nil (symbols_of tree))) o
rows_forward s need [] (one_and tree (one_and other all)) tasks text rest fits le e o = absurd fits
rows_forward s need (row ∷ rows) no_trees tasks text rest fits le e o = absurd fits
rows_forward s need (row ∷ rows) (one_and tree all) tasks text rest fits le e o =
    tree_first (child_at s row) (need - 1) tree (row_tasks s need rows ++ tasks) text (symbols_of_each all ++ rest) fits.0 (omega arith) (e ∙ append_assoc (symbols_of tree) (symbols_of_each all) rest)
    (rows_forward s need rows all tasks (symbols_of_each all ++ rest) rest fits.1 (omega arith) refl o)

-- the trees, of a text that has them
pub record Rows (s : Position) (need : ℕ) (rows : List ℕ) (tasks : List Task) (text : List ℕ) : Type 0 where
  pub all : Trees
  pub rest : List ℕ
  pub fits : FitsEachGood s rows all
  pub reaches : need ≤ shown_by_each s rows all
  pub is_text : text ≡ symbols_of_each all ++ rest
  pub owes : Owes tasks rest

pub rows_back : (s : Position) (need : ℕ) (rows : List ℕ) (tasks : List Task) (text : List ℕ) → Owes (row_tasks s need rows ++ tasks) text → Rows s need rows tasks text
rows_back s need [] tasks text o =
    let k = o.2 in let r = k.reaches in
    record {
      all = one_and k.tree no_trees;
      rest = o.1;
      fits = k.fits;
      reaches = omega arith;
      is_text = o.3 ∙ ap (λ l. l ++ o.1) (k.is_text ∙ sym (append-nil (symbols_of k.tree)));
      owes = o.4;
    }
rows_back s need (row ∷ rows) tasks text o =
    let k = o.2 in let r = k.reaches in
    let below = rows_back s need rows tasks o.1 o.4 in let q = below.reaches in
    record {
      all = one_and k.tree below.all;
      rest = below.rest;
      fits = (k.fits, below.fits);
      reaches = omega arith;
      is_text = o.3 ∙ ap (λ l. l ++ o.1) k.is_text ∙ ap (λ l. symbols_of k.tree ++ l) below.is_text ∙ sym (append_assoc (symbols_of k.tree) (symbols_of_each below.all) below.rest);
      owes = below.owes;
    }

-- ---- the first symbol

-- before the first rank of a family whose chains have to gain what the blocking bound leaves
pub record IsFresh (s : Position) (need : ℕ) (r : Reading) : Type 0 where
  pub seen : (x : ℕ) → get_or r.seen x 0 ≡ 0
  pub wanted : r.wanted ≡ need - blocking s
  pub ranks : r.ranks.items ≡ []
  pub number : r.number ≡ 0

fresh_begun : (s : Position) (need : ℕ) (r : Reading) → IsFresh s need r → begun r ≡ []
fresh_begun s need r f = ap (λ l. points l ++ digits_of r.number) f.ranks ∙ ap digits_of f.number

abbrev Opened : Position → ℕ → List Task → ℕ → List ℕ → Type 0
Opened s need tasks b text =
    ((b ≡ 66) × (need ≤ blocking s) × Owes tasks text)
    ⊎ (((b ≡ 76) × (need ≤ look_ahead s) × Owes tasks text)
    ⊎ (((b ≡ 84) × ((r : Reading) → IsFresh s need r → EndsFamily s r tasks text))
    ⊎ (((b ≡ 82) × (s.next ≤ s.ordered) × Owes (row_tasks s need (good_rows s) ++ tasks) text)
    ⊎ ((b ≡ 70) × (1 ≤ free_row s) × Owes (task (child_at s (free_row s)) (need - 1) ∷ tasks) text))))

opened : (s : Position) (need : ℕ) (tasks : List Task) (b : ℕ) (text : List ℕ) → Owes (task s need ∷ tasks) (b ∷ text) → Opened s need tasks b text
opened s need tasks b text o = let k = o.2 in go k.tree k.fits k.reaches (o.3 ∙ ap (λ l. l ++ o.1) k.is_text)
  where
    go : (tree : Tree) → FitsThinned s tree → need ≤ shown s tree → b ∷ text ≡ symbols_of tree ++ o.1 → Opened s need tasks b text
    go CutB fits le e = inl (heads b 66 text o.1 e, le, subst (Owes tasks) (sym (tails b 66 text o.1 e)) o.4)
    go CutL fits le e = inr (inl (heads b 76 text o.1 e, le, subst (Owes tasks) (sym (tails b 76 text o.1 e)) o.4))
    go (CutT family) fits le e =
        inr (inr (inl (
          heads b 84 text (family_text family ++ o.1) e,
          λ r f. record {
            family = family;
            rest = o.1;
            is_text = ap (λ l. l ++ text) (fresh_begun s need r f) ∙ tails b 84 text (family_text family ++ o.1) e;
            chains = fits.chains;
            apart = λ x. omega (arith, f.seen x, fits.apart x, ap (occurrences x) (family_ranks s family));
            gains = omega (arith, f.wanted, le);
            owes = o.4;
          },
        )))
    go (Branch all) fits le e = absurd fits
    go (Thin all) fits le e =
        inr (inr (inr (inl (heads b 82 text (symbols_of_each all ++ o.1) e, fits.0, rows_forward s need (good_rows s) all tasks text o.1 fits.1 le (tails b 82 text (symbols_of_each all ++ o.1) e) o.4))))
    go (Free tree) fits le e =
        inr (inr (inr (inr (heads b 70 text (symbols_of tree ++ o.1) e, fits.0, tree_first (child_at s (free_row s)) (need - 1) tree tasks text o.1 fits.1 (omega arith) (tails b 70 text (symbols_of tree ++ o.1) e) o.4))))
    go Given fits le e = absurd fits

is_b : (s : Position) (need : ℕ) (tasks : List Task) (text : List ℕ) → Owes (task s need ∷ tasks) (66 ∷ text) → (need ≤ blocking s) × Owes tasks text
is_b s need tasks text o = ⊎_elim
    (λ x. (x.1, x.2))
    (λ m. absurd (⊎_elim (λ x. omega (arith, x.0)) (λ n. ⊎_elim (λ x. omega (arith, x.0)) (λ p. ⊎_elim (λ x. omega (arith, x.0)) (λ x. omega (arith, x.0)) p) n) m))
    (opened s need tasks 66 text o)

is_l : (s : Position) (need : ℕ) (tasks : List Task) (text : List ℕ) → Owes (task s need ∷ tasks) (76 ∷ text) → (need ≤ look_ahead s) × Owes tasks text
is_l s need tasks text o = ⊎_elim
    (λ x. absurd (omega (arith, x.0)))
    (λ m. ⊎_elim (λ x. (x.1, x.2)) (λ n. absurd (⊎_elim (λ x. omega (arith, x.0)) (λ p. ⊎_elim (λ x. omega (arith, x.0)) (λ x. omega (arith, x.0)) p) n)) m)
    (opened s need tasks 76 text o)

is_t : (s : Position) (need : ℕ) (tasks : List Task) (text : List ℕ) (r : Reading) → IsFresh s need r → Owes (task s need ∷ tasks) (84 ∷ text) → EndsFamily s r tasks text
is_t s need tasks text r f o = ⊎_elim
    (λ x. absurd (omega (arith, x.0)))
    (λ m. ⊎_elim (λ x. absurd (omega (arith, x.0))) (λ n. ⊎_elim (λ x. x.1 r f) (λ p. absurd (⊎_elim (λ x. omega (arith, x.0)) (λ x. omega (arith, x.0)) p)) n) m)
    (opened s need tasks 84 text o)

is_r : (s : Position) (need : ℕ) (tasks : List Task) (text : List ℕ) → Owes (task s need ∷ tasks) (82 ∷ text) → (s.next ≤ s.ordered) × Owes (row_tasks s need (good_rows s) ++ tasks) text
is_r s need tasks text o = ⊎_elim
    (λ x. absurd (omega (arith, x.0)))
    (λ m. ⊎_elim (λ x. absurd (omega (arith, x.0))) (λ n. ⊎_elim (λ x. absurd (omega (arith, x.0))) (λ p. ⊎_elim (λ x. (x.1, x.2)) (λ x. absurd (omega (arith, x.0))) p) n) m)
    (opened s need tasks 82 text o)

is_f : (s : Position) (need : ℕ) (tasks : List Task) (text : List ℕ) → Owes (task s need ∷ tasks) (70 ∷ text) → (1 ≤ free_row s) × Owes (task (child_at s (free_row s)) (need - 1) ∷ tasks) text
is_f s need tasks text o = ⊎_elim
    (λ x. absurd (omega (arith, x.0)))
    (λ m. ⊎_elim (λ x. absurd (omega (arith, x.0))) (λ n. ⊎_elim (λ x. absurd (omega (arith, x.0))) (λ p. ⊎_elim (λ x. absurd (omega (arith, x.0))) (λ x. (x.1, x.2)) p) n) m)
    (opened s need tasks 70 text o)

-- each symbol, both ways

pub by_blocking : (s : Position) (need : ℕ) (tasks : List Task) (text : List ℕ) → need ≤ blocking s → Owes tasks text ↔ Owes (task s need ∷ tasks) (66 ∷ text)
by_blocking s need tasks text le = (λ o. tree_first s need CutB tasks (66 ∷ text) text tt le refl o, λ o. (is_b s need tasks text o).1)

pub not_blocking : (s : Position) (need : ℕ) (tasks : List Task) (text : List ℕ) → blocking s < need → ⊥ ↔ Owes (task s need ∷ tasks) (66 ∷ text)
not_blocking s need tasks text lt = (λ e. absurd e, λ o. let le = (is_b s need tasks text o).0 in omega arith)

pub by_look_ahead : (s : Position) (need : ℕ) (tasks : List Task) (text : List ℕ) → need ≤ look_ahead s → Owes tasks text ↔ Owes (task s need ∷ tasks) (76 ∷ text)
by_look_ahead s need tasks text le = (λ o. tree_first s need CutL tasks (76 ∷ text) text tt le refl o, λ o. (is_l s need tasks text o).1)

pub not_look_ahead : (s : Position) (need : ℕ) (tasks : List Task) (text : List ℕ) → (need ≤ look_ahead s → ⊥) → ⊥ ↔ Owes (task s need ∷ tasks) (76 ∷ text)
not_look_ahead s need tasks text no_le = (λ e. absurd e, λ o. no_le (is_l s need tasks text o).0)

pub by_family : (s : Position) (need : ℕ) (tasks : List Task) (text : List ℕ) (r : Reading) → IsFresh s need r → EndsFamily s r tasks text ↔ Owes (task s need ∷ tasks) (84 ∷ text)
by_family s need tasks text r f = (
  λ k. tree_first s need (CutT k.family) tasks (84 ∷ text) k.rest
      (record { chains = k.chains; apart = λ x. omega (arith, f.seen x, k.apart x, ap (occurrences x) (family_ranks s k.family)) })
      (omega (arith, f.wanted, k.gains))
      (ap (λ l. 84 ∷ l) (ap (λ l. l ++ text) (sym (fresh_begun s need r f)) ∙ k.is_text))
      k.owes,
  λ o. is_t s need tasks text r f o,
)

pub by_rows : (s : Position) (need : ℕ) (tasks : List Task) (text : List ℕ) → s.next ≤ s.ordered → Owes (row_tasks s need (good_rows s) ++ tasks) text ↔ Owes (task s need ∷ tasks) (82 ∷ text)
by_rows s need tasks text le = (
  λ o. let k = rows_back s need (good_rows s) tasks text o in tree_first s need (Thin k.all) tasks (82 ∷ text) k.rest (le, k.fits) k.reaches (ap (λ l. 82 ∷ l) k.is_text) k.owes,
  λ o. (is_r s need tasks text o).1,
)

pub not_rows : (s : Position) (need : ℕ) (tasks : List Task) (text : List ℕ) → s.ordered < s.next → ⊥ ↔ Owes (task s need ∷ tasks) (82 ∷ text)
not_rows s need tasks text lt = (λ e. absurd e, λ o. let le = (is_r s need tasks text o).0 in omega arith)

pub by_free : (s : Position) (need : ℕ) (tasks : List Task) (text : List ℕ) → 1 ≤ free_row s → Owes (task (child_at s (free_row s)) (need - 1) ∷ tasks) text ↔ Owes (task s need ∷ tasks) (70 ∷ text)
by_free s need tasks text some = (
  λ o. let k = o.2 in let r = k.reaches in tree_first s need (Free k.tree) tasks (70 ∷ text) o.1 (some, k.fits) (omega arith) (ap (λ l. 70 ∷ l) (o.3 ∙ ap (λ l. l ++ o.1) k.is_text)) o.4,
  λ o. (is_f s need tasks text o).1,
)

pub not_free : (s : Position) (need : ℕ) (tasks : List Task) (text : List ℕ) → free_row s ≡ 0 → ⊥ ↔ Owes (task s need ∷ tasks) (70 ∷ text)
not_free s need tasks text none = (λ e. absurd e, λ o. let some = (is_f s need tasks text o).0 in omega arith)

pub no_symbol : (s : Position) (need : ℕ) (tasks : List Task) (b : ℕ) (text : List ℕ) → b ≢ 66 → b ≢ 76 → b ≢ 82 → b ≢ 70 → b ≢ 84 → ⊥ ↔ Owes (task s need ∷ tasks) (b ∷ text)
no_symbol s need tasks b text nb nl nr nf nt = (
  λ e. absurd e,
  λ o. ⊎_elim (λ x. nb x.0) (λ m. ⊎_elim (λ x. nl x.0) (λ n. ⊎_elim (λ x. nt x.0) (λ p. ⊎_elim (λ x. nr x.0) (λ x. nf x.0) p) n) m) (opened s need tasks b text o),
)

-- ---- nothing is over

pub some_symbol : (s : Position) (need : ℕ) (tasks : List Task) → Owes (task s need ∷ tasks) [] → ⊥
some_symbol s need tasks o = let k = o.2 in go k.tree (ap length (o.3 ∙ ap (λ l. l ++ o.1) k.is_text))
  where
    go : (tree : Tree) → length {A = ℕ} [] ≡ length (symbols_of tree ++ o.1) → ⊥
    go CutB e = omega arith
    go CutL e = omega arith
    go (CutT family) e = omega arith
    go (Branch all) e = omega arith
    go (Thin all) e = omega arith
    go (Free tree) e = omega arith
    go Given e = omega arith

-- no end of a family in what was read of it
no_end : (x : ℕ) → IsRank x → times 59 (decimal x) ≡ 0
no_end x is = ⊎_elim
    (λ lt. omega (arith, ap (times 59) (decimal_digit x lt), times-cons 59 (48 + x) [], ap one_if (ne_eqb (48 + x) 59 (λ e. omega arith))))
    (λ ge. omega (
      arith,
      ap (times 59) (decimal_step x ge (omega arith) ∙ ap (λ l. l ++ (48 + x % 10) ∷ []) (decimal_digit (x / 10) (omega arith))),
      times-cons 59 (48 + x / 10) ((48 + x % 10) ∷ []),
      times-cons 59 (48 + x % 10) [],
      ap one_if (ne_eqb (48 + x / 10) 59 (λ e. omega arith)),
      ap one_if (ne_eqb (48 + x % 10) 59 (λ e. omega arith)),
    ))
    (cases_lt x 10)

no_end_points : (ranks : List ℕ) → AllByRecursion IsRank ranks → times 59 (points ranks) ≡ 0
no_end_points [] all = refl
no_end_points (x ∷ ranks) all = omega (arith, times-append 59 (decimal x) (46 ∷ points ranks), no_end x all.0, times-cons 59 46 (points ranks), no_end_points ranks all.1)

no_end_digits : (n : ℕ) → n ≤ 96 → times 59 (digits_of n) ≡ 0
no_end_digits zero le = refl
no_end_digits (suc n) le = no_end (suc n) (omega arith, le)

has_end : (family : List (List ℕ)) → 1 ≤ times 59 (family_text family)
has_end [] = omega arith
has_end (chain ∷ []) = omega (arith, times-append 59 (chain_text chain) (codes ";"))
has_end (chain ∷ other ∷ family) = omega (arith, times-append 59 (chain_text chain ++ codes ",") (family_text (other ∷ family)), has_end (other ∷ family))

pub some_end : (s : Position) (r : Reading) (tasks : List Task) → IsFair r → EndsFamily s r tasks [] → ⊥
some_end s r tasks fair k =
    omega (
      arith,
      ap (times 59) k.is_text,
      times-append 59 (begun r) [],
      times-append 59 (points r.ranks.items) (digits_of r.number),
      no_end_points r.ranks.items fair.whole,
      no_end_digits r.number fair.begun,
      times-append 59 (family_text k.family) k.rest,
      has_end k.family,
    )

-- ---- one tree alone

pub one_tree : (s : Position) (need : ℕ) (text : List ℕ) → Owes (task s need ∷ []) text ↔ Closes s need text
one_tree s need text = (λ o. subst (Closes s need) (sym (o.3 ∙ ap (λ l. o.0 ++ l) o.4 ∙ append-nil o.0)) o.2, λ k. (text, [], k, sym (append-nil text), refl))
