-- Open branches, one more or one less.
use Rattle.std.proofs.Common.{◌≡◌, ℕ, suc, ◌+◌, ◌-◌, ◌<◌, ◌≤◌, Bool, true, false, List, [], ◌∷◌, ◌++◌, length, reverse, drop, get_or, sym, ap, ◌∙◌, subst, arith}
use Rattle.std.proofs.Math.Seq.{drop-cons}
use Rattle.std.proofs.lemmas.List.{drop_all, reverse-append, length-reverse}
use Rattle.std.specs.Bool.{OnTrue, OnFalse}
use Rattle.crp_plan.specs.Bay.{Position}
use Rattle.crp_bay.specs.Back.{PlaceAndTrail}
use Rattle.crp_thinned.specs.Thinned.{good_rows, child_at, child_without}
use Rattle.crp_thinning.specs.declared.path.Frame.{Frame}
use Rattle.crp_thinning.specs.Branches.{task, row_tasks, left_of, tasks_of, AreOpen}

pub open_few : (frames : List Frame) (trail : List Position) → AreOpen frames trail → length frames ≤ length trail
open_few [] trail o = omega arith
open_few (frame ∷ frames) [] o = absurd o
open_few (frame ∷ frames) (s ∷ trail) o = let h = open_few frames trail o.1 in omega arith

pub room : (frames : List Frame) (trail : List Position) → AreOpen (reverse frames) trail → length trail < 193 → length frames < 193
room frames trail o lt = omega (arith, open_few (reverse frames) trail o, length-reverse frames)

-- one more frame
pub framed : (frames more : List Frame) (frame : Frame) → more ≡ frames ++ frame ∷ [] → reverse more ≡ frame ∷ reverse frames
framed frames more frame e = ap reverse e ∙ reverse-append frames (frame ∷ [])

pub open_more : (frames more : List Frame) (frame : Frame) (s : Position) (trail all : List Position) → more ≡ frames ++ frame ∷ [] → all ≡ s ∷ trail → (frame.last ≡ false → s.next ≤ s.ordered) → AreOpen (reverse frames) trail → AreOpen (reverse more) all
open_more frames more frame s trail all e q le o = subst (λ l. AreOpen l all) (sym (framed frames more frame e)) (subst (AreOpen (frame ∷ reverse frames)) (sym q) (le, o))

pub tasks_more : (frames more : List Frame) (frame : Frame) (s : Position) (trail all : List Position) → more ≡ frames ++ frame ∷ [] → all ≡ s ∷ trail → tasks_of (reverse more) all ≡ left_of s frame ++ tasks_of (reverse frames) trail
tasks_more frames more frame s trail all e q = ap (λ l. tasks_of l all) (framed frames more frame e) ∙ ap (tasks_of (frame ∷ reverse frames)) q

-- the next row of a branch, and its last tree
pub next_row : (s : Position) (need count : ℕ) → count < length (good_rows s) → row_tasks s need (drop count (good_rows s)) ≡ task (child_at s (get_or (good_rows s) count 0)) (need - 1) ∷ row_tasks s need (drop (count + 1) (good_rows s))
next_row s need count lt =
    let m : suc count ≡ count + 1 = omega arith in
    ap (row_tasks s need) (drop-cons (good_rows s) count 0 lt) ∙ ap (λ k. task (child_at s (get_or (good_rows s) count 0)) (need - 1) ∷ row_tasks s need (drop k (good_rows s))) m

pub last_tree : (s : Position) (need count : ℕ) → length (good_rows s) ≤ count → row_tasks s need (drop count (good_rows s)) ≡ task (child_without s) (need - 2) ∷ []
last_tree s need count ge = ap (row_tasks s need) (drop_all count (good_rows s) ge)

-- ---- one frame less

-- a frame is taken off, and undone
pub record Less (items rest : List Frame) (frame : Frame) (trail : List Position) (undone : Bool) (now : PlaceAndTrail) : Type 0 where
  pub trail_is : trail ≡ now.place ∷ now.trail
  pub tasks : tasks_of (reverse items) trail ≡ left_of now.place frame ++ tasks_of (reverse rest) now.trail
  pub left : frame.last ≡ false → now.place.next ≤ now.place.ordered
  pub open_still : AreOpen (reverse rest) now.trail

pub less : (items rest : List Frame) (frame : Frame) (trail : List Position) (undone : Bool) (now : PlaceAndTrail) → items ≡ rest ++ frame ∷ [] → AreOpen (reverse items) trail → OnTrue undone (trail ≡ now.place ∷ now.trail) → OnFalse undone (trail ≡ []) →
    Less items rest frame trail undone now
less items rest frame trail undone now e o yes_undone no_undone =
    let q : AreOpen (frame ∷ reverse rest) trail = subst (λ l. AreOpen l trail) (framed rest items frame e) o in
    let is : trail ≡ now.place ∷ now.trail = there undone yes_undone no_undone q in
    let p : AreOpen (frame ∷ reverse rest) (now.place ∷ now.trail) = subst (AreOpen (frame ∷ reverse rest)) is q in
    record { trail_is = is; tasks = ap (λ l. tasks_of l trail) (framed rest items frame e) ∙ ap (tasks_of (frame ∷ reverse rest)) is; left = p.0; open_still = p.1 }
  where
    there : (b : Bool) → OnTrue b (trail ≡ now.place ∷ now.trail) → OnFalse b (trail ≡ []) → AreOpen (frame ∷ reverse rest) trail → trail ≡ now.place ∷ now.trail
    there true y n k = y
    there false y n k = let z : AreOpen (frame ∷ reverse rest) [] = subst (AreOpen (frame ∷ reverse rest)) n k in absurd z

-- no frames are left
pub nothing_open : (items : List Frame) (trail : List Position) → items ≡ [] → tasks_of (reverse items) trail ≡ []
nothing_open items trail e = ap (λ l. tasks_of (reverse l) trail) e
