-- Whether a text closes a position is decided.
use Rattle.std.proofs.Common.{◌≡◌, ◌↔◌, ℕ, zero, suc, ◌+◌, ◌-◌, ◌≤◌, inl, inr, ⊎_elim, List, [], ◌∷◌, ◌++◌, length, Contains, codes, refl, sym, ap, ◌∙◌, subst, arith, length-append}
use Rattle.std.specs.List.{AllByRecursion}
use Rattle.std.specs.Fmt.{decimal}
use Rattle.std.proofs.lemmas.Bool.{cases_eq, cases_lt}
use Rattle.crp_plan.specs.Bay.{Position}
use Rattle.crp_bounds.specs.Bounds.{blocking, look_ahead}
use Rattle.crp_chains.specs.Chains.{IsBlocker, IsChain, IsFamily}
use Rattle.crp_chains.specs.Named.{family_of}
use Rattle.crp_thinned.specs.Tree.{Tree, CutB, CutL, CutT, Branch, Thin, Free, Given}
use Rattle.crp_thinned.specs.Thinned.{good_rows, free_row, child_at, chains_at, FitsThinned, shown}
use Rattle.crp_thinning.specs.Symbols.{symbols_of, symbols_of_each, chain_text, family_text, Closes}
use Rattle.crp_thinning.specs.Owed.{Task, Owes}
use Rattle.crp_thinning.specs.Branches.{task, row_tasks}
use Rattle.crp_thinning.proofs.Ending.{named}
use Rattle.crp_thinning.proofs.Opened.{by_blocking, not_blocking, by_look_ahead, not_look_ahead, by_rows, not_rows, by_free, not_free, no_symbol, some_symbol, one_tree}
use Rattle.crp_steps.proofs.Finite.{IsDecided, same_decided, three_or_not, le_or_not, Found, finite_members, AreShort, finite_lists}
use Rattle.crp_steps.proofs.ChainsDecided.{family_or_not, all_of, stands_there}

heads : (x y : ℕ) (xs ys : List ℕ) → x ∷ xs ≡ y ∷ ys → x ≡ y
heads x y xs ys e = cc

tails : (x y : ℕ) (xs ys : List ℕ) → x ∷ xs ≡ y ∷ ys → xs ≡ ys
tails x y xs ys e = cc

-- behind its front the text goes on with one that has the property
record Behind (P : List ℕ → Type 0) (front text : List ℕ) : Type 0 where
  rest : List ℕ
  is : text ≡ front ++ rest
  has : P rest

behind_or_not : (P : List ℕ → Type 0) (n : ℕ) → ((rest : List ℕ) → length rest ≤ n → IsDecided (P rest)) → (front text : List ℕ) → length text ≤ n → IsDecided (Behind P front text)
behind_or_not P n d [] text le = ⊎_elim (λ p. inl (record { rest = text; is = refl; has = p })) (λ no. inr (λ b. no (subst P (sym b.is) b.has))) (d text le)
behind_or_not P n d (x ∷ front) [] le = inr (λ b. let q = ap length b.is in omega arith)
behind_or_not P n d (x ∷ front) (y ∷ text) le = ⊎_elim
    (λ e. ⊎_elim
    (λ b. inl (record { rest = b.rest; is = ap (λ z. z ∷ text) e ∙ ap (λ l. x ∷ l) b.is; has = b.has }))
    (λ no. inr (λ b. no (record { rest = b.rest; is = tails y x text (front ++ b.rest) b.is; has = b.has })))
    (behind_or_not P n d front text (omega arith)))
    (λ ne. inr (λ b. ne (heads y x text (front ++ b.rest) b.is)))
    (cases_eq y x)

-- ---- families are finitely many

chain_long : (chain : List ℕ) → length chain ≤ length (chain_text chain) + 1
chain_long [] = omega arith
chain_long (x ∷ []) = omega arith
chain_long (x ∷ y ∷ chain) = omega (arith, chain_long (y ∷ chain), length-append (decimal x ++ codes ".") (chain_text (y ∷ chain)), length-append (decimal x) (codes "."))

family_long : (family : List (List ℕ)) → length family ≤ length (family_text family)
family_long [] = omega arith
family_long (chain ∷ []) = omega (arith, length-append (chain_text chain) (codes ";"))
family_long (chain ∷ other ∷ family) = omega (arith, family_long (other ∷ family), length-append (chain_text chain ++ codes ",") (family_text (other ∷ family)), length-append (chain_text chain) (codes ","))

-- a chain of ranks that stand in the bay, as long as the text at most
abbrev IsSome : Position → ℕ → List ℕ → Type 0
IsSome s n chain = AreShort (Contains (all_of s.stacks)) n chain

ranks_there : (s : Position) (chain : List ℕ) → AllByRecursion (IsBlocker s) (named s chain) → AllByRecursion (Contains (all_of s.stacks)) chain
ranks_there s [] all = tt
ranks_there s (x ∷ chain) all = let b = all.0 in let st = b.stands in (stands_there s.stacks x st.row b.beneath st.over st.stands, ranks_there s chain all.1)

chains_there : (s : Position) (n : ℕ) (family : List (List ℕ)) → AllByRecursion (IsChain s) (family_of s family) → length (family_text family) ≤ n → AllByRecursion (IsSome s n) family
chains_there s n [] all le = tt
chains_there s n (chain ∷ []) all le =
    let c = all.0 in
    ((omega (arith, chain_long chain, length-append (chain_text chain) (codes ";")), ranks_there s chain c.blockers), tt)
chains_there s n (chain ∷ other ∷ family) all le =
    let c = all.0 in (
      (omega (arith, chain_long chain, length-append (chain_text chain ++ codes ",") (family_text (other ∷ family)), length-append (chain_text chain) (codes ",")), ranks_there s chain c.blockers),
      chains_there s n (other ∷ family) all.1 (omega (arith, length-append (chain_text chain ++ codes ",") (family_text (other ∷ family)), length-append (chain_text chain) (codes ","))),
    )

-- ---- a cut by chains

-- the family is one, shows as much, and stands at the front of the text; then trees for the tasks come
record Fits (s : Position) (need : ℕ) (tasks : List Task) (text : List ℕ) (family : List (List ℕ)) : Type 0 where
  is_family : IsFamily s (family_of s family)
  reaches : need ≤ chains_at family s
  behind : Behind (Owes tasks) (family_text family) text

fits_or_not : (s : Position) (need n : ℕ) (tasks : List Task) (text : List ℕ) → length text ≤ n → ((rest : List ℕ) → length rest ≤ n → IsDecided (Owes tasks rest)) → (family : List (List ℕ)) → IsDecided (Fits s need tasks text family)
fits_or_not s need n tasks text le d family = same_decided (IsFamily s (family_of s family) × (need ≤ chains_at family s) × Behind (Owes tasks) (family_text family) text) (Fits s need tasks text family)
    (λ z. record { is_family = z.0; reaches = z.1; behind = z.2 }, λ f. (f.is_family, f.reaches, f.behind))
    (three_or_not (IsFamily s (family_of s family)) (need ≤ chains_at family s) (Behind (Owes tasks) (family_text family) text)
    (family_or_not s (family_of s family)) (le_or_not need (chains_at family s)) (behind_or_not (Owes tasks) n d (family_text family) text le))

by_chains : (s : Position) (need n : ℕ) (tasks : List Task) (text : List ℕ) → length text ≤ n → Found (AreShort (IsSome s n) n) (Fits s need tasks text) ↔ Owes (task s need ∷ tasks) (84 ∷ text)
by_chains s need n tasks text le = (forth, λ o. let k = o.2 in back o k.tree k.fits k.reaches (o.3 ∙ ap (λ l. l ++ o.1) k.is_text))
  where
    forth : Found (AreShort (IsSome s n) n) (Fits s need tasks text) → Owes (task s need ∷ tasks) (84 ∷ text)
    forth z =
        let f = z.has in
        let b = f.behind in
        (symbols_of (CutT z.it), b.rest, record { tree = CutT z.it; fits = f.is_family; reaches = f.reaches; is_text = refl }, ap (λ l. 84 ∷ l) b.is, b.has)

    back : (o : Owes (task s need ∷ tasks) (84 ∷ text)) → (tree : Tree) → FitsThinned s tree → need ≤ shown s tree → 84 ∷ text ≡ symbols_of tree ++ o.1 → Found (AreShort (IsSome s n) n) (Fits s need tasks text)
    back o CutB fits reaches e = let h = heads 84 66 text o.1 e in absurd (omega arith)
    back o CutL fits reaches e = let h = heads 84 76 text o.1 e in absurd (omega arith)
    back o (CutT family) fits reaches e =
        let t : text ≡ family_text family ++ o.1 = tails 84 84 text (family_text family ++ o.1) e in
        let few : length (family_text family) ≤ n = omega (arith, ap length t, length-append (family_text family) o.1) in
        record {
          it = family;
          is = (omega (arith, family_long family), chains_there s n family fits.chains few);
          has = record { is_family = fits; reaches = reaches; behind = record { rest = o.1; is = t; has = o.4 } };
        }
    back o (Branch all) fits reaches e = absurd fits
    back o (Thin all) fits reaches e = let h = heads 84 82 text (symbols_of_each all ++ o.1) e in absurd (omega arith)
    back o (Free tree) fits reaches e = let h = heads 84 70 text (symbols_of tree ++ o.1) e in absurd (omega arith)
    back o Given fits reaches e = absurd fits

-- ---- trees that are to come

pub owes_or_not : (n : ℕ) (tasks : List Task) (text : List ℕ) → length text ≤ n → IsDecided (Owes tasks text)
owes_or_not n [] [] le = inl refl
owes_or_not n [] (b ∷ text) le = inr (λ e. let q = ap length e in omega arith)
owes_or_not n (t ∷ tasks) [] le = inr (λ o. some_symbol t.place t.need tasks o)
owes_or_not zero (t ∷ tasks) (b ∷ text) le = absurd (omega arith)
owes_or_not (suc n) (t ∷ tasks) (b ∷ text) le =
    let s : Position = t.place in
    let need : ℕ = t.need in
    let here : ℕ → Type 0 = λ x. IsDecided (Owes (task s need ∷ tasks) (x ∷ text)) in
    let few : length text ≤ n = omega arith in
    ⊎_elim
    (λ e. subst here (sym e) (⊎_elim
    (λ lt. same_decided ⊥ (Owes (task s need ∷ tasks) (66 ∷ text)) (not_blocking s need tasks text lt) (inr (λ x. x)))
    (λ low. same_decided (Owes tasks text) (Owes (task s need ∷ tasks) (66 ∷ text)) (by_blocking s need tasks text low) (owes_or_not n tasks text few))
    (cases_lt (blocking s) need)))
    (λ nb. ⊎_elim
    (λ e. subst here (sym e) (⊎_elim
    (λ low. same_decided (Owes tasks text) (Owes (task s need ∷ tasks) (76 ∷ text)) (by_look_ahead s need tasks text low) (owes_or_not n tasks text few))
    (λ no. same_decided ⊥ (Owes (task s need ∷ tasks) (76 ∷ text)) (not_look_ahead s need tasks text no) (inr (λ x. x)))
    (le_or_not need (look_ahead s))))
    (λ nl. ⊎_elim
    (λ e. subst here (sym e) (⊎_elim
    (λ lt. same_decided ⊥ (Owes (task s need ∷ tasks) (82 ∷ text)) (not_rows s need tasks text lt) (inr (λ x. x)))
    (λ going. same_decided (Owes (row_tasks s need (good_rows s) ++ tasks) text) (Owes (task s need ∷ tasks) (82 ∷ text)) (by_rows s need tasks text going) (owes_or_not n (row_tasks s need (good_rows s) ++ tasks) text few))
    (cases_lt s.ordered s.next)))
    (λ nr. ⊎_elim
    (λ e. subst here (sym e) (⊎_elim
    (λ some. same_decided (Owes (task (child_at s (free_row s)) (need - 1) ∷ tasks) text) (Owes (task s need ∷ tasks) (70 ∷ text)) (by_free s need tasks text some) (owes_or_not n (task (child_at s (free_row s)) (need - 1) ∷ tasks) text few))
    (λ no. same_decided ⊥ (Owes (task s need ∷ tasks) (70 ∷ text)) (not_free s need tasks text (omega arith)) (inr (λ x. x)))
    (le_or_not 1 (free_row s))))
    (λ nf. ⊎_elim
    (λ e. subst here (sym e) (same_decided (Found (AreShort (IsSome s n) n) (Fits s need tasks text)) (Owes (task s need ∷ tasks) (84 ∷ text)) (by_chains s need n tasks text few)
    (finite_lists (IsSome s n) (finite_lists (Contains (all_of s.stacks)) (finite_members (all_of s.stacks)) n) n (Fits s need tasks text) (fits_or_not s need n tasks text few (λ rest short. owes_or_not n tasks rest short)))))
    (λ nt. same_decided ⊥ (Owes (task s need ∷ tasks) (b ∷ text)) (no_symbol s need tasks b text nb nl nr nf nt) (inr (λ x. x)))
    (cases_eq b 84))
    (cases_eq b 70))
    (cases_eq b 82))
    (cases_eq b 76))
    (cases_eq b 66)

-- the text closes the position, or it does not
pub closes_or_not : (s : Position) (need : ℕ) (text : List ℕ) → IsDecided (Closes s need text)
closes_or_not s need text = same_decided (Owes (task s need ∷ []) text) (Closes s need text) (one_tree s need text) (owes_or_not (length text) (task s need ∷ []) text (omega arith))
