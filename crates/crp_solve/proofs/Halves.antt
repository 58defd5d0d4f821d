-- Groups of workers in two halves, and what they become together.
use Rattle.std.proofs.Common.{◌≡◌, ◌<◌, false, ◌||◌, ⊎_elim, List, [], ◌∷◌, ◌++◌, length, length-append, append-nil, map, All, sym, ap, ◌∙◌, subst, arith}
use Rattle.std.proofs.lemmas.Bool.{or_cases}
use Rattle.std.proofs.Math.Seq.{take-append_seam, drop-append_seam}
use Rattle.std.proofs.lemmas.List.{map-append}
use Rattle.std.proofs.lemmas.List.Elements.{All-cons, All-nil, All-take, All-drop}
use Rattle.crp_plan.specs.declared.running.View.{View}
use Rattle.crp_incumbent.specs.Rule.{view_joined}
use Rattle.crp_incumbent.specs.declared.rule.Key.{Key}
use Rattle.crp_incumbent.specs.Seats.{Shared, Seat}
use Rattle.crp_pool.specs.Deques.{DequeId}
use Rattle.crp_solve.specs.Groups.{Crew, keys, all_keys, place_key, shares, SameWorkers, StopsBy, AreTogether, AreReady}
use Rattle.crp_solve.specs.Begins.{IsStart, AreAllWorkers}
use Rattle.crp_solve.proofs.Joining.{every_place}
use Rattle.crp_solve.proofs.Opened.{keys-append, shares-append}

-- one group alone is at its words
at_words : (of : Shared) (g : Crew) → g.of ≡ of → All (λ (x : Crew). x.of ≡ of) (g ∷ [])
at_words of g at = All-cons (λ (x : Crew). x.of ≡ of) g [] at (All-nil (λ (x : Crew). x.of ≡ of))

-- a group that they became is at the words
pub together_at : (of : Shared) (gs : List Crew) (c : Crew) → AreReady of gs → AreTogether gs c → c.of ≡ of
together_at of gs c r t = sym (t.words 0 c r.some) ∙ r.words 0 c r.some

-- all are at the words of one that is
words_of : (of : Shared) (gs : List Crew) (c : Crew) → c.of ≡ of → All (λ g. g.of ≡ of) gs → All (λ g. g.of ≡ c.of) gs
words_of of gs c at all k d lt = all k d lt ∙ sym at

-- one group that worked is together with itself
pub together_one : (of : Shared) (g r : Crew) → g.of ≡ of → SameWorkers g r → AreTogether (g ∷ []) r
together_one of g r at s = record {
  words = words_of of (g ∷ []) r (s.words ∙ at) (at_words of g at);
  share = (let h = s.share in omega arith);
  places = λ ok. (s.places ok ∙ sym (append-nil (keys g)));
}

-- two that were merged
pub together_two : (of : Shared) (gs xs ys : List Crew) (a b c : Crew) → AreReady of gs → xs ++ ys ≡ gs → AreTogether xs a → AreTogether ys b → c.of ≡ of → c.view ≡ record (view_joined a.view b.view) { refused = c.view.refused } →
    (c.short ≡ false → c.places ≡ a.places ++ b.places) → (c.short ≡ false → (a.short ≡ false) × (b.short ≡ false)) → AreTogether gs c
together_two of gs xs ys a b c r whole ta tb at view places short = record {
  words = words_of of gs c at r.words;
  share = (let p = ta.share in let q = tb.share in omega (arith, ap (λ (v : View). v.share) view, shares-append xs ys, ap shares whole));
  places = λ ok. (let s = short ok in
      ap (map place_key) (places ok) ∙ map-append place_key a.places b.places ∙ ap (λ l. l ++ keys b) (ta.places s.0) ∙ ap (λ l. all_keys xs ++ l) (tb.places s.1) ∙ sym (keys-append xs ys) ∙ ap all_keys whole);
}

-- each part of groups that are ready is ready
pub ready_parts : (of : Shared) (gs xs ys : List Crew) → xs ++ ys ≡ gs → 0 < length xs → 0 < length ys → AreReady of gs → AreReady of xs × AreReady of ys
ready_parts of gs xs ys whole some more r =
    let P : Crew → Type 0 = λ g. g.of ≡ of in let n = length-append xs ys in let few = r.few in let m : length (xs ++ ys) ≡ length gs = ap length whole in
    let all : All P (xs ++ ys) = subst (All P) (sym whole) r.words in (
      record { some = some; few = omega arith; words = subst (All P) (take-append_seam xs ys) (All-take P (length xs) (xs ++ ys) all) },
      record { some = more; few = omega arith; words = subst (All P) (drop-append_seam xs ys) (All-drop P (length xs) (xs ++ ys) all) },
    )

-- the first worker alone is all workers
pub only_worker : (key : Key) (of : Shared) (left : Seat) (pool : List DequeId) (first : Crew) (groups : List Crew) → groups ≡ first ∷ [] → IsStart key of left pool first → AreAllWorkers of left pool groups
only_worker key of left pool first groups is s = subst (AreAllWorkers of left pool) (sym is) (record {
  left_new = s.left_new;
  share = (let a = s.left_share in let b = s.share in omega arith);
  ready = record { some = omega arith; few = omega arith; words = at_words of first s.words };
  places = λ all e. (every_place all first.places pool (e ∙ append-nil (keys first)) s.places.0, s.places.1);
})

-- claims that were stopped in either of two were stopped in both together
pub stops_two : {M : Type 0} (a b c : Crew) → c.stopped ≡ (a.stopped || b.stopped) → StopsBy M a → StopsBy M b → StopsBy M c
stops_two a b c is mine others e = ⊎_elim mine others (or_cases a.stopped b.stopped (sym is ∙ e))

pub stops_parts : {M : Type 0} (gs xs ys : List Crew) → xs ++ ys ≡ gs → All (StopsBy M) gs → All (StopsBy M) xs × All (StopsBy M) ys
stops_parts {M} gs xs ys whole all =
    let both : All (StopsBy M) (xs ++ ys) = subst (All (StopsBy M)) (sym whole) all in
    (subst (All (StopsBy M)) (take-append_seam xs ys) (All-take (StopsBy M) (length xs) (xs ++ ys) both), subst (All (StopsBy M)) (drop-append_seam xs ys) (All-drop (StopsBy M) (length xs) (xs ++ ys) both))
