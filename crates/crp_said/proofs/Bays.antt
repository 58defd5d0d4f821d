-- The line of a bay: what is read is what the line says, and the line is read again.
use Rattle.std.proofs.Common.{◌≡◌, ℕ, ◌≤◌, List, ◌∷◌, ◌++◌, Some, None, refl, sym, ap, ◌∙◌, subst, arith, append_assoc}
use Rattle.std.specs.Prelude.{codes}
use Rattle.std.specs.Fmt.{decimal}
use Rattle.std.proofs.lemmas.Option.{same_Some, none-some}
use Rattle.std.proofs.lemmas.List.Elements.{recursion_from_All}
use Rattle.crp_plan.specs.BayNames.{YardBay, IsYardBay}
use Rattle.crp_cert.specs.Reading.{tag_at, number_at, word_at}
use Rattle.crp_cert.proofs.Numbers.{bind_some, tag_takes}
use Rattle.crp_cert.proofs.Lines.{word_takes, word_again}
use Rattle.crp_said.specs.declared.said.Said.{Said}
use Rattle.crp_said.specs.Said.{said_words, words_of_bay}
use Rattle.crp_said.specs.Fields.{said_at, bay_at}
use Rattle.crp_said.specs.Spelled.{most, IsSmall, IsBayLine}
use Rattle.crp_said.proofs.Digits.{number_found, number_reread}
use Rattle.crp_said.proofs.SaidLines.{said_takes, said_again}

abbrev pub named : List ℕ × ℕ → YardBay
named x = record { block = x.0; bay = x.1 }

words_then : (name : YardBay) (s : Said) → words_of_bay name s ≡ codes "bay " ++ (name.block ++ 32 ∷ (decimal name.bay ++ 58 ∷ 32 ∷ said_words s))
words_then name s =
    ap (λ l. codes "bay " ++ l)
    (append_assoc name.block (32 ∷ (decimal name.bay ++ codes ": ")) (said_words s) ∙ ap (λ l. name.block ++ 32 ∷ l) (append_assoc (decimal name.bay) (codes ": ") (said_words s)))

pub bay_takes : (line : List ℕ) (x : (List ℕ × ℕ) × Said) → bay_at line ≡ Some x → IsSmall x.1 × (line ≡ words_of_bay (named x.0) x.1)
unfolding bay_at
bay_takes line v e =
    let a = bind_some (tag_at (codes "bay ") line) _ v e in
    let w = bind_some (word_at a.0) _ v a.2 in
    let b = bind_some (tag_at (codes " ") w.0.1) _ v w.2 in
    let n = bind_some (number_at most b.0) _ v b.2 in
    let c = bind_some (tag_at (codes ": ") n.0.1) _ v n.2 in
    let t = bind_some (said_at c.0) _ v c.2 in
    let x = number_found b.0 n.0.0 n.0.1 n.1 in
    let y = said_takes c.0 t.0 t.1 in
    let text : line ≡ words_of_bay (named (w.0.0, n.0.0)) t.0 =
    tag_takes (codes "bay ") line a.0 a.1
    ∙ ap (λ l. codes "bay " ++ l) (word_takes a.0 w.0.0 w.0.1 w.1 ∙ ap (λ l. w.0.0 ++ l) (tag_takes (codes " ") w.0.1 b.0 b.1
    ∙ ap (λ l. 32 ∷ l) (x.0 ∙ ap (λ l. decimal n.0.0 ++ l) (tag_takes (codes ": ") n.0.1 c.0 c.1 ∙ ap (λ l. codes ": " ++ l) y.1))))
    ∙ sym (words_then (named (w.0.0, n.0.0)) t.0) in
    subst (λ (x : (List ℕ × ℕ) × Said). IsSmall x.1 × (line ≡ words_of_bay (named x.0) x.1)) (same_Some ((w.0.0, n.0.0), t.0) v t.2) (y.0, text)

bay_again : (name : YardBay) (s : Said) → IsYardBay name → IsSmall s → bay_at (words_of_bay name s) ≡ Some ((name.block, name.bay), s)
unfolding bay_at
bay_again name s is small =
    let number : List ℕ = decimal name.bay ++ 58 ∷ 32 ∷ said_words s in
    let low = is.four_digits in
    let w : word_at (name.block ++ 32 ∷ number) ≡ Some (name.block, 32 ∷ number) = word_again name.block number (recursion_from_All (λ b. (33 ≤ b) × (b ≤ 126)) name.block is.printed) in
    let n : number_at most number ≡ Some (name.bay, 58 ∷ 32 ∷ said_words s) = number_reread name.bay 58 (32 ∷ said_words s) (omega (arith, low)) refl in
    ap bay_at (words_then name s) ∙ rw (w, n, said_again s small) refl

pub no_bay : (line : List ℕ) → bay_at line ≡ None → ¬ IsBayLine line
no_bay line none (name, s, is, small, e) = none-some ((name.block, name.bay), s) (sym none ∙ ap bay_at e ∙ bay_again name s is small)

-- the words of bays are the same, and so are the bays and what is said of them
pub one_bay : (b c : YardBay) (s t : Said) → IsYardBay b → IsYardBay c → IsSmall s → IsSmall t → words_of_bay b s ≡ words_of_bay c t → (b ≡ c) × (s ≡ t)
one_bay b c s t is also small few e =
    let same = same_Some ((b.block, b.bay), s) ((c.block, c.bay), t) (sym (bay_again b s is small) ∙ ap bay_at e ∙ bay_again c t also few) in
    (ap (λ (x : (List ℕ × ℕ) × Said). named x.0) same, ap (λ (x : (List ℕ × ℕ) × Said). x.1) same)

-- what is read is the name whose line it is
pub bay_is : (line block : List ℕ) (bay : ℕ) (s : Said) → bay_at line ≡ Some ((block, bay), s) → IsBayLine line → IsYardBay (record { block = block; bay = bay })
bay_is line block bay s read (name, said, is, small, e) =
    let same = same_Some ((name.block, name.bay), said) ((block, bay), s) (sym (bay_again name said is small) ∙ ap bay_at (sym e) ∙ read) in
    subst IsYardBay (ap (λ (x : (List ℕ × ℕ) × Said). named x.0) same) is
