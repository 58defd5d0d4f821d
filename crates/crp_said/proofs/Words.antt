-- The words of lines: no byte of them is below 0x20.
use Rattle.std.proofs.Common.{◌≡◌, ◌≢◌, ◌∙◌, ℕ, ◌≤◌, ◌&&◌, nat_le, true, arith, List, [], ◌∷◌, ◌++◌, length, refl, sym, ap, append_assoc}
use Rattle.std.specs.Prelude.{codes, IsTrue, Option, Some, None, All}
use Rattle.std.specs.List.{AllByRecursion, list_all}
use Rattle.std.specs.Fmt.{decimal}
use Rattle.std.proofs.lemmas.Bool.{and_parts, leb-true}
use Rattle.std.proofs.lemmas.List.Elements.{recursion_from_All}
use Rattle.crp_plan.specs.BayNames.{YardBay, IsYardBay}
use Rattle.crp_yard.specs.Records.{is_container}
use Rattle.crp_cert.proofs.Joined.{all_both}
use Rattle.crp_said.specs.declared.numbers.Numbers.{Numbers}
use Rattle.crp_said.specs.declared.said.SaidCause.{SaidCause}
use Rattle.crp_said.specs.declared.said.SaidCause.TheVariants.{Budget, Memory, Time, Edited}
use Rattle.crp_said.specs.declared.said.Said.{Said}
use Rattle.crp_said.specs.declared.said.Said.TheVariants.{Optimal, First, NoPlan, Between, Outside}
use Rattle.crp_said.specs.declared.moves.Place.{Place}
use Rattle.crp_said.specs.declared.moves.SaidMove.{SaidMove}
use Rattle.crp_said.specs.declared.moves.SaidMove.TheVariants.{Shift, Take}
use Rattle.crp_said.specs.MoveLines.{spaced_place, move_words}
use Rattle.crp_said.specs.Said.{counts_line, bay_words, upper_words, cause_words, said_words, words_of_bay, bay_line, bays_line}
use Rattle.crp_said.specs.Spelled.{CanBeStated, ended}
use Rattle.crp_said.proofs.Bytes.{IsPlain, IsDigit, are_digits, all_weaker}

abbrev pub IsPrinted : List ℕ → Type 0
IsPrinted bytes = AllByRecursion (λ b. 32 ≤ b) bytes

pub plain : (bytes : List ℕ) → IsPrinted bytes → IsPlain bytes
plain bytes is = all_weaker (λ b. 32 ≤ b) (λ b. b ≢ 10) bytes (λ b low e. omega (arith, low, e)) is

both : (xs ys : List ℕ) → IsPrinted xs → IsPrinted ys → IsPrinted (xs ++ ys)
both xs ys a b = all_both (λ b. 32 ≤ b) xs ys a b

passed : (bytes : List ℕ) → list_all (λ b. nat_le 32 b) bytes ≡ true → IsPrinted bytes
passed [] e = tt
passed (b ∷ bytes) e = let parts = and_parts (nat_le 32 b) (list_all (λ b. nat_le 32 b) bytes) e in (leb-true 32 b parts.0, passed bytes parts.1)

number : (n : ℕ) → IsPrinted (decimal n)
number n = all_weaker IsDigit (λ b. 32 ≤ b) (decimal n) (λ b is. let low = is.0 in omega (arith, low)) (are_digits n)

-- ---- moves

place : (p : Place) → IsPrinted (spaced_place p)
place p = (omega arith, both (decimal p.row) (46 ∷ decimal p.tier) (number p.row) (omega arith, number p.tier))

container : (name : List ℕ) → IsTrue (is_container name) → IsPrinted (32 ∷ name)
container name is = (omega arith, passed name (and_parts (nat_le 1 (length name) && nat_le (length name) 35) (list_all (λ b. nat_le 32 b) name) is).1)

pub move_printed : (m : SaidMove) → CanBeStated m → IsPrinted (move_words m)
move_printed (Shift from to name) can =
    both (codes "shift") (spaced_place from ++ (spaced_place to ++ 32 ∷ name)) (passed (codes "shift") refl)
    (both (spaced_place from) (spaced_place to ++ 32 ∷ name) (place from) (both (spaced_place to) (32 ∷ name) (place to) (container name can.2)))
move_printed (Take from name) can =
    both (codes "take") (spaced_place from ++ 32 ∷ name) (passed (codes "take") refl) (both (spaced_place from) (32 ∷ name) (place from) (container name can.1))

-- ---- bays

block_printed : (block : List ℕ) → All (λ b. (33 ≤ b) × (b ≤ 126)) block → IsPrinted block
block_printed block all =
    all_weaker (λ b. (33 ≤ b) × (b ≤ 126)) (λ b. 32 ≤ b) block (λ b is. let low = is.0 in omega (arith, low)) (recursion_from_All (λ b. (33 ≤ b) × (b ≤ 126)) block all)

upper_printed : (upper : Option ℕ) → IsPrinted (upper_words upper)
upper_printed None = passed (codes "none") refl
upper_printed (Some count) = number count

cause_printed : (why : SaidCause) → IsPrinted (cause_words why)
cause_printed Budget = passed (codes "budget") refl
cause_printed Memory = passed (codes "memory") refl
cause_printed Time = passed (codes "time") refl
cause_printed Edited = passed (codes "edited") refl

said_printed : (said : Said) → IsPrinted (said_words said)
said_printed (Optimal count) = both (codes "optimal ") (decimal count) (passed (codes "optimal ") refl) (number count)
said_printed (First count) =
    both (codes "optimal ") (decimal count ++ codes " first") (passed (codes "optimal ") refl) (both (decimal count) (codes " first") (number count) (passed (codes " first") refl))
said_printed NoPlan = passed (codes "no plan") refl
said_printed (Between lower upper why) =
    both (codes "between ") (decimal lower ++ (codes " and " ++ (upper_words upper ++ (codes ", " ++ cause_words why)))) (passed (codes "between ") refl)
    (both (decimal lower) (codes " and " ++ (upper_words upper ++ (codes ", " ++ cause_words why))) (number lower)
    (both (codes " and ") (upper_words upper ++ (codes ", " ++ cause_words why)) (passed (codes " and ") refl)
    (both (upper_words upper) (codes ", " ++ cause_words why) (upper_printed upper) (both (codes ", ") (cause_words why) (passed (codes ", ") refl) (cause_printed why)))))
said_printed (Outside count) =
    both (codes "outside the rule ") (decimal count ++ codes ", edited") (passed (codes "outside the rule ") refl) (both (decimal count) (codes ", edited") (number count) (passed (codes ", edited") refl))

pub bay_printed : (bay : YardBay) (said : Said) → IsYardBay bay → IsPrinted (words_of_bay bay said)
bay_printed bay said is =
    both (bay_words bay) (said_words said)
    (both (codes "bay ") (bay.block ++ (32 ∷ (decimal bay.bay ++ codes ": "))) (passed (codes "bay ") refl)
    (both bay.block (32 ∷ (decimal bay.bay ++ codes ": ")) (block_printed bay.block is.printed)
    (omega arith, both (decimal bay.bay) (codes ": ") (number bay.bay) (passed (codes ": ") refl))))
    (said_printed said)

pub bay_ended : (bay : YardBay) (said : Said) → bay_line bay said ≡ ended (words_of_bay bay said)
bay_ended bay said = sym (append_assoc (bay_words bay) (said_words said) (10 ∷ []))

-- ---- the first line and the last

abbrev pub counts_words : Numbers → List ℕ
counts_words n = codes "orders " ++ (decimal n.orders ++ (codes " open " ++ (decimal n.vacant ++ (codes " absent " ++ decimal n.absent))))

pub counts_printed : (n : Numbers) → IsPrinted (counts_words n)
counts_printed n =
    both (codes "orders ") (decimal n.orders ++ (codes " open " ++ (decimal n.vacant ++ (codes " absent " ++ decimal n.absent)))) (passed (codes "orders ") refl)
    (both (decimal n.orders) (codes " open " ++ (decimal n.vacant ++ (codes " absent " ++ decimal n.absent))) (number n.orders)
    (both (codes " open ") (decimal n.vacant ++ (codes " absent " ++ decimal n.absent)) (passed (codes " open ") refl)
    (both (decimal n.vacant) (codes " absent " ++ decimal n.absent) (number n.vacant) (both (codes " absent ") (decimal n.absent) (passed (codes " absent ") refl) (number n.absent)))))

pub counts_ended : (n : Numbers) → counts_line n ≡ ended (counts_words n)
counts_ended n =
    let a = decimal n.absent in
    let v = decimal n.vacant ++ (codes " absent " ++ a) in
    ap (λ l. codes "orders " ++ (decimal n.orders ++ (codes " open " ++ l))) (sym (append_assoc (decimal n.vacant) (codes " absent " ++ a) (10 ∷ [])))
    ∙ ap (λ l. codes "orders " ++ l) (sym (append_assoc (decimal n.orders) (codes " open " ++ v) (10 ∷ [])))

abbrev pub last_words : ℕ → ℕ → List ℕ
last_words count settled = codes "bays " ++ (decimal count ++ (codes " decided " ++ decimal settled))

pub last_printed : (count settled : ℕ) → IsPrinted (last_words count settled)
last_printed count settled =
    both (codes "bays ") (decimal count ++ (codes " decided " ++ decimal settled)) (passed (codes "bays ") refl)
    (both (decimal count) (codes " decided " ++ decimal settled) (number count) (both (codes " decided ") (decimal settled) (passed (codes " decided ") refl) (number settled)))

pub last_ended : (count settled : ℕ) → bays_line count settled ≡ ended (last_words count settled)
last_ended count settled = ap (λ l. codes "bays " ++ l) (sym (append_assoc (decimal count) (codes " decided " ++ decimal settled) (10 ∷ [])))
