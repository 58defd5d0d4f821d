-- How much of a search is left: it ends.
use Rattle.std.proofs.Common.{◌≡◌, ℕ, zero, suc, ◌+◌, ◌-◌, ◌*◌, ◌^◌, ◌<◌, ◌≤◌, List, [], ◌∷◌, length, mul-le-mul_right, sym, subst, arith}
use Rattle.std.proofs.Math.Nat.{pow-succ', pow-zero}
use Rattle.crp_search.specs.Frames.{Branching as Frame}

-- the rows of a frame that had no turn yet
abbrev pub left : Frame → ℕ
left f = length f.left

-- what frames above a node still owe: each row as many steps as a node of that depth can take
abbrev pub owed_above : ℕ → List Frame → ℕ
owed_above k [] = 0
owed_above k (f ∷ above) = 1 + left f * 13 ^ k + owed_above (suc k) above

-- what a search owes at a path of so many rows
abbrev pub owed : ℕ → Frame → List Frame → ℕ
owed rows f above = left f * 13 ^ (674 - rows) + owed_above (suc (674 - rows)) above

some_power : (k : ℕ) → 1 ≤ 13 ^ k
some_power zero = omega (arith, pow-zero 13)
some_power (suc k) = omega (arith, pow-succ' 13 k, some_power k)

-- a row less is left
less_left : (n m a b : ℕ) → n ≡ suc m → 1 ≤ a → m * a + b < n * a + b
less_left n m a b e some = rw e (omega arith)

pub owes_less : (rows : ℕ) (f g : Frame) (above : List Frame) → 1 ≤ left f → left f ≡ suc (left g) → owed rows g above < owed rows f above
owes_less rows f g above some e = less_left (left f) (left g) (13 ^ (674 - rows)) (owed_above (suc (674 - rows)) above) e (some_power (674 - rows))

-- twelve rows of a child and one step are less than the row that it stands for
below_row : (n m a b : ℕ) → n ≤ 12 → 2 ≤ a → n * a + (1 + m * (13 * a) + b) < suc m * (13 * a) + b
below_row n m a b few some = let most : n * a ≤ 12 * a = mul-le-mul_right a few in omega (arith, most)

two_powers : (k : ℕ) → 1 ≤ k → 2 ≤ 13 ^ k
two_powers zero some = absurd (omega arith)
two_powers (suc k) some = omega (arith, pow-succ' 13 k, some_power k)

-- the frame of a child owes less than the row
pub owes_below : (rows longer : ℕ) (f g fresh : Frame) (above : List Frame) → longer ≡ suc rows → longer ≤ 672 → left f ≡ suc (left g) → left fresh ≤ 12 → owed longer fresh (g ∷ above) < owed rows f above
owes_below rows longer f g fresh above e few one low =
    let k : ℕ = 674 - longer in
    let deep : 674 - rows ≡ suc k = omega arith in
    let power : 13 ^ suc k ≡ 13 * 13 ^ k = pow-succ' 13 k in
    rw deep (rw power (subst (λ n. left fresh * 13 ^ k + (1 + left g * (13 * 13 ^ k) + owed_above (suc (suc k)) above) < n * (13 * 13 ^ k) + owed_above (suc (suc k)) above) (sym one)
    (below_row (left fresh) (left g) (13 ^ k) (owed_above (suc (suc k)) above) low (two_powers k (omega arith)))))

-- a frame that is left owed its step
pub owes_above : (rows shorter : ℕ) (f g : Frame) (above : List Frame) → rows ≡ suc shorter → rows ≤ 672 → owed shorter g above < owed rows f (g ∷ above)
owes_above rows shorter f g above e few =
    let k : ℕ = 674 - rows in
    let up : 674 - shorter ≡ suc k = omega arith in
    rw up (omega arith)
