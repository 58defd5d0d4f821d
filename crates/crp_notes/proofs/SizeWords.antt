-- The tiers of rows in words, the first row before the others.
use Rattle.std.proofs.Common.{◌≡◌, ◌≤◌, ◌-◌, ℕ, Bool, cond, List, [], ◌∷◌, ◌++◌, length, take, drop, get_or, refl, arith}
use Rattle.std.specs.Prelude.{◌==◌, nat_lt, codes, decimal, flat_map}
use Rattle.std.specs.List.{list_all}
use Rattle.std.proofs.lemmas.List.{take_all}
use Rattle.crp_notes.specs.Wording.{tiers_words}

-- the rows behind the first
abbrev pub others : List ℕ → List ℕ
others heights = take (length heights - 1) (drop 1 heights)

pub tiers_split : (heights : List ℕ) (t : Bool) → 1 ≤ length heights → list_all (λ other. other == get_or heights 0 0) (others heights) ≡ t
    → decimal (get_or heights 0 0) ++ cond t (cond (nat_lt 1 (get_or heights 0 0)) (codes " tiers") (codes " tier")) (flat_map (λ other. 46 ∷ decimal other) (others heights) ++ codes " tiers")
    ≡ tiers_words heights
tiers_split [] t some e = absurd (omega arith)
tiers_split (height ∷ heights) t some e =
    let all : others (height ∷ heights) ≡ heights = take_all _ heights (omega arith) in
    let same : list_all (λ other. other == height) heights ≡ t = rw all at e in
    rw (all, same) refl
