-- Texts that are added one after the other.
use Rattle.std.proofs.Common.{◌≡◌, ◌∙◌, ℕ, List, ◌++◌, ap, append_assoc}
use Rattle.std.specs.Prelude.{Result, Ok, Err, OnOk}
use Rattle.crp_page.specs.declared.grounds.Ground.{Ground}
use Rattle.crp_page.specs.Sections.{figure}

pub regroup3 : (t a b c : List ℕ) → ((t ++ a) ++ b) ++ c ≡ t ++ (a ++ (b ++ c))
regroup3 t a b c = simp append_assoc

pub regroup4 : (t a b c d : List ℕ) → (((t ++ a) ++ b) ++ c) ++ d ≡ t ++ (a ++ (b ++ (c ++ d)))
regroup4 t a b c d = simp append_assoc

pub regroup7 : (t a b c d e f g : List ℕ) → ((((((t ++ a) ++ b) ++ c) ++ d) ++ e) ++ f) ++ g ≡ t ++ (a ++ (b ++ (c ++ (d ++ (e ++ (f ++ g))))))
regroup7 t a b c d e f g = simp append_assoc

pub regroup9 : (t a b c d e f g h i : List ℕ) → ((((((((t ++ a) ++ b) ++ c) ++ d) ++ e) ++ f) ++ g) ++ h) ++ i ≡ t ++ (a ++ (b ++ (c ++ (d ++ (e ++ (f ++ (g ++ (h ++ i))))))))
regroup9 t a b c d e f g h i = simp append_assoc

pub regroup10 : (t a b c d e f g h i j : List ℕ)
    → (((((((((t ++ a) ++ b) ++ c) ++ d) ++ e) ++ f) ++ g) ++ h) ++ i) ++ j ≡ t ++ (a ++ (b ++ (c ++ (d ++ (e ++ (f ++ (g ++ (h ++ (i ++ j)))))))))
regroup10 t a b c d e f g h i j = simp append_assoc

-- one text, and then another
pub then_added : {T E : Type 0} (r : Result T E) (t0 t1 t2 a b : List ℕ) → t1 ≡ t0 ++ a → OnOk r (t2 ≡ t1 ++ b) → OnOk r (t2 ≡ t0 ++ (a ++ b))
then_added (Ok x) t0 t1 t2 a b e f = f ∙ ap (λ l. l ++ b) e ∙ append_assoc t0 a b
then_added (Err x) t0 t1 t2 a b e f = tt

-- a figure of parts that are the same
pub as_parts : {T E : Type 0} (r : Result T E) (on : Ground) (title picture caption t p c old new : List ℕ) → title ≡ t → picture ≡ p → caption ≡ c
    → OnOk r (new ≡ old ++ figure on title picture caption) → OnOk r (new ≡ old ++ figure on t p c)
as_parts (Ok x) on title picture caption t p c old new title_is picture_is caption_is e =
    e ∙ ap (λ l. old ++ figure on l picture caption) title_is ∙ ap (λ l. old ++ figure on t l caption) picture_is ∙ ap (λ l. old ++ figure on t p l) caption_is
as_parts (Err x) on title picture caption t p c old new title_is picture_is caption_is e = tt
