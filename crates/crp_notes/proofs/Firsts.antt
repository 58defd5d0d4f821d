-- The first of a list of names, and the notes on them.
use Rattle.std.proofs.Common.{◌≡◌, ◌∙◌, ◌<◌, ◌++◌, ◌∷◌, [], ℕ, List, Option, Some, None, length, map, take, refl, sym, ap, arith, tests, Bor}
use Rattle.std.specs.Prelude.{nat_lt, min, codes}
use Rattle.std.proofs.lemmas.List.{take_min, take-map, length-map}
use Rattle.crp_notes.specs.Wording.{listed, containers_words, slots_note}
use Rattle.crp_notes.specs.Slots.{slot_with, note_if_shared}

-- what a list of names says
abbrev pub said : List (Bor (List ℕ)) → List (List ℕ)
said names = map (λ (name : Bor (List ℕ)). name.now) names

pub firsts : (m n : ℕ) (names : List (Bor (List ℕ))) → n ≡ min m (length names) → take m (said names) ≡ said (take n names)
firsts m n names most = take-map (λ (name : Bor (List ℕ)). name.now) m names ∙ ap said (sym (ap (λ k. take k names) most ∙ take_min m names))

pub are_more : (m n : ℕ) (names : List (Bor (List ℕ))) → n ≡ min m (length names) → nat_lt m (length names) ≡ nat_lt n (length names)
are_more m n names most = grind (arith, tests, most)

pub some-containers : (names : List (Bor (List ℕ))) → 0 < length names → containers_words (said names) ≡ codes " (" ++ (listed (take 2 (said names)) (nat_lt 2 (length names)) ++ codes ")")
some-containers [] h = absurd (omega arith)
some-containers (name ∷ names) h = ap (λ k. codes " (" ++ (listed (take 2 (said (name ∷ names))) (nat_lt 2 k) ++ codes ")")) (length-map (name ∷ names) (λ (n : Bor (List ℕ)). n.now))

pub no-note-shared : (placed : List (List ℕ × List ℕ)) (count : ℕ) (slots : List (Bor (List ℕ))) → length slots ≡ 0 → None ≡ note_if_shared placed count (said slots)
no-note-shared placed count [] h = refl
no-note-shared placed count (slot ∷ slots) h = absurd (omega arith)

pub some-note-shared : (placed : List (List ℕ × List ℕ)) (count : ℕ) (slots : List (Bor (List ℕ))) → 0 < length slots → Some (slots_note count (map (slot_with placed) (take 10 (said slots))) (nat_lt 10 (length slots))) ≡ note_if_shared placed count (said slots)
some-note-shared placed count [] h = absurd (omega arith)
some-note-shared placed count (slot ∷ slots) h = ap (λ k. Some (slots_note count (map (slot_with placed) (take 10 (said (slot ∷ slots)))) (nat_lt 10 k))) (sym (length-map (slot ∷ slots) (λ (n : Bor (List ℕ)). n.now)))
