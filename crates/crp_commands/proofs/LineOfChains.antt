-- The line of chains, rank by rank and chain by chain.
use Rattle.std.proofs.Common.{◌≡◌, ◌≤◌, ◌∙◌, ◌-◌, ℕ, List, [], ◌∷◌, ◌++◌, codes, length, take, drop, get_or, sym, ap, subst, arith, append_assoc, append-nil}
use Rattle.std.proofs.lemmas.List.{take_all}
use Rattle.std.specs.Fmt.{decimal}
use Rattle.std.specs.List.{flat_map}
use Rattle.crp_thinning.specs.Symbols.{chain_text}

-- a rank behind a point
abbrev pub behind_point : ℕ → List ℕ
behind_point rank = 46 ∷ decimal rank

-- the ranks behind the first of a chain stand each behind a point
chain_behind : (x : ℕ) (ranks : List ℕ) → chain_text (x ∷ ranks) ≡ decimal x ++ flat_map behind_point ranks
chain_behind x [] = sym (append-nil (decimal x))
chain_behind x (y ∷ ranks) = append_assoc (decimal x) (codes ".") (chain_text (y ∷ ranks)) ∙ ap (λ l. decimal x ++ 46 ∷ l) (chain_behind y ranks)

-- so the text is whole once all of them were added
pub chain_whole : (ranks : List ℕ) (i : ℕ) → 1 ≤ length ranks → length (take (length ranks - 1) (drop 1 ranks)) ≤ i →
    decimal (get_or ranks 0 0) ++ flat_map behind_point (take i (take (length ranks - 1) (drop 1 ranks))) ≡ chain_text ranks
chain_whole [] i some far = absurd (omega arith)
chain_whole (x ∷ ranks) i some far =
    let all : take (length (x ∷ ranks) - 1) ranks ≡ ranks = take_all (length (x ∷ ranks) - 1) ranks (omega arith) in
    let end : take i ranks ≡ ranks = take_all i ranks (subst (λ (l : List ℕ). length l ≤ i) all far) in
    ap (λ (l : List ℕ). decimal x ++ flat_map behind_point (take i l)) all ∙ ap (λ (l : List ℕ). decimal x ++ flat_map behind_point l) end ∙ sym (chain_behind x ranks)
