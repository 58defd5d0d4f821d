-- The first line and the last: what is read is what the line says, and the line is read again.
use Rattle.std.proofs.Common.{◌≡◌, ℕ, ◌^◌, ◌<◌, ◌≤◌, arith, List, [], ◌∷◌, ◌++◌, Some, None, refl, sym, ap, ◌∙◌, subst}
use Rattle.std.specs.Prelude.{codes}
use Rattle.std.specs.Fmt.{decimal}
use Rattle.std.proofs.lemmas.Fmt.{decimal_injective}
use Rattle.std.proofs.lemmas.Option.{same_Some, none-some}
use Rattle.std.proofs.lemmas.List.{append_cancel_left, append_cancel_right}
use Rattle.crp_cert.specs.Reading.{tag_at, number_at}
use Rattle.crp_cert.proofs.Numbers.{bind_some, tag_takes}
use Rattle.crp_said.specs.declared.numbers.Numbers.{Numbers}
use Rattle.crp_said.specs.Said.{counts_line, bays_line}
use Rattle.crp_said.specs.Spelled.{most, AreSmall, ended, IsOrdersLine, IsLastLine}
use Rattle.crp_said.specs.Fields.{counts_at, last_at, number_alone_at}
use Rattle.crp_said.proofs.Bytes.{IsDigit, cut_once, are_digits}
use Rattle.crp_said.proofs.Digits.{number_found, number_reread, alone_found, alone_again}
use Rattle.crp_said.proofs.Words.{counts_words, counts_ended, last_words, last_ended}

-- ---- the three numbers

counts_takes : (line : List ℕ) (n : Numbers) → counts_at line ≡ Some n → AreSmall n × (line ≡ counts_words n)
unfolding counts_at
counts_takes line n e =
    let a = bind_some (tag_at (codes "orders ") line) _ n e in
    let orders = bind_some (number_at most a.0) _ n a.2 in
    let b = bind_some (tag_at (codes " open ") orders.0.1) _ n orders.2 in
    let vacant = bind_some (number_at most b.0) _ n b.2 in
    let c = bind_some (tag_at (codes " absent ") vacant.0.1) _ n vacant.2 in
    let absent = bind_some (number_alone_at c.0) _ n c.2 in
    let made : Numbers = record { orders = orders.0.0; vacant = vacant.0.0; absent = absent.0 } in
    let x = number_found a.0 orders.0.0 orders.0.1 orders.1 in
    let y = number_found b.0 vacant.0.0 vacant.0.1 vacant.1 in
    let z = alone_found c.0 absent.0 absent.1 in
    let text : line ≡ counts_words made =
    tag_takes (codes "orders ") line a.0 a.1
    ∙ ap (λ l. codes "orders " ++ l) (x.0 ∙ ap (λ l. decimal orders.0.0 ++ l) (tag_takes (codes " open ") orders.0.1 b.0 b.1
    ∙ ap (λ l. codes " open " ++ l) (y.0 ∙ ap (λ l. decimal vacant.0.0 ++ l) (tag_takes (codes " absent ") vacant.0.1 c.0 c.1
    ∙ ap (λ l. codes " absent " ++ l) z.0)))) in
    let small : AreSmall made = record { orders = x.1; vacant = y.1; absent = z.1 } in
    subst (λ (m : Numbers). AreSmall m × (line ≡ counts_words m)) (same_Some made n absent.2) (small, text)

counts_again : (n : Numbers) → AreSmall n → counts_at (counts_words n) ≡ Some n
unfolding counts_at
counts_again n small =
    let third : List ℕ = decimal n.absent in
    let second : List ℕ = decimal n.vacant ++ (codes " absent " ++ third) in
    rw (
      number_reread n.orders 32 (codes "open " ++ second) small.orders refl,
      number_reread n.vacant 32 (codes "absent " ++ third) small.vacant refl,
      alone_again n.absent small.absent,
    ) refl

pub counts_found : (line : List ℕ) (n : Numbers) → counts_at line ≡ Some n → AreSmall n × (ended line ≡ counts_line n)
counts_found line n e = let t = counts_takes line n e in (t.0, ap ended t.1 ∙ sym (counts_ended n))

-- the line of these numbers has these words
pub counts_are : (line : List ℕ) (n : Numbers) → ended line ≡ counts_line n → line ≡ counts_words n
counts_are line n e = append_cancel_right line (counts_words n) (10 ∷ []) (e ∙ counts_ended n)

pub no_counts : (line : List ℕ) → counts_at line ≡ None → ¬ IsOrdersLine line
no_counts line none (n, small, e) = none-some n (sym none ∙ ap counts_at (counts_are line n e) ∙ counts_again n small)

pub one_numbers : (n m : Numbers) → AreSmall n → AreSmall m → counts_words n ≡ counts_words m → n ≡ m
one_numbers n m small few e = same_Some n m (sym (counts_again n small) ∙ ap counts_at e ∙ counts_again m few)

-- ---- the two numbers of the last line

last_takes : (line : List ℕ) (count settled : ℕ) → last_at line ≡ Some (count, settled) → (count ≤ most) × (settled ≤ most) × (line ≡ last_words count settled)
unfolding last_at
last_takes line count settled e =
    let a = bind_some (tag_at (codes "bays ") line) _ (count, settled) e in
    let n = bind_some (number_at most a.0) _ (count, settled) a.2 in
    let b = bind_some (tag_at (codes " decided ") n.0.1) _ (count, settled) n.2 in
    let m = bind_some (number_alone_at b.0) _ (count, settled) b.2 in
    let x = number_found a.0 n.0.0 n.0.1 n.1 in
    let y = alone_found b.0 m.0 m.1 in
    let text : line ≡ last_words n.0.0 m.0 =
    tag_takes (codes "bays ") line a.0 a.1
    ∙ ap (λ l. codes "bays " ++ l) (x.0 ∙ ap (λ l. decimal n.0.0 ++ l) (tag_takes (codes " decided ") n.0.1 b.0 b.1 ∙ ap (λ l. codes " decided " ++ l) y.0)) in
    subst (λ (p : ℕ × ℕ). (p.0 ≤ most) × (p.1 ≤ most) × (line ≡ last_words p.0 p.1)) (same_Some (n.0.0, m.0) (count, settled) m.2) (x.1, y.1, text)

last_again : (count settled : ℕ) → count ≤ most → settled ≤ most → last_at (last_words count settled) ≡ Some (count, settled)
unfolding last_at
last_again count settled low few = rw (number_reread count 32 (codes "decided " ++ decimal settled) low refl, alone_again settled few) refl

pub last_found : (line : List ℕ) (count settled : ℕ) → last_at line ≡ Some (count, settled) → (count ≤ most) × (settled ≤ most) × (ended line ≡ bays_line count settled)
last_found line count settled e = let t = last_takes line count settled e in (t.0, t.1, ap ended t.2 ∙ sym (last_ended count settled))

pub last_are : (line : List ℕ) (count settled : ℕ) → ended line ≡ bays_line count settled → line ≡ last_words count settled
last_are line count settled e = append_cancel_right line (last_words count settled) (10 ∷ []) (e ∙ last_ended count settled)

pub no_last : (line : List ℕ) → last_at line ≡ None → ¬ IsLastLine line
no_last line none (count, settled, low, few, e) =
    none-some (count, settled) (sym none ∙ ap last_at (last_are line count settled e) ∙ last_again count settled low few)

-- words of last lines are the same, and so are their numbers
pub one_last : (a b c d : ℕ) → a < 2 ^ 64 → b < 2 ^ 64 → c < 2 ^ 64 → d < 2 ^ 64 → last_words a b ≡ last_words c d → (a ≡ c) × (b ≡ d)
one_last a b c d p q r s e =
    let cut = cut_once IsDigit 32 32 (decimal a) (decimal c) (codes "decided " ++ decimal b) (codes "decided " ++ decimal d) (λ is. omega (arith, is)) (λ is. omega (arith, is)) (are_digits a)
    (are_digits c) (append_cancel_left (codes "bays ") (decimal a ++ (codes " decided " ++ decimal b)) (decimal c ++ (codes " decided " ++ decimal d)) e) in
    (decimal_injective a c p r cut.0, decimal_injective b d q s (append_cancel_left (codes " decided ") (decimal b) (decimal d) cut.1))
