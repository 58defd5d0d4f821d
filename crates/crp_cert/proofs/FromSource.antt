-- What was read of a source that is to begin with a head.
use Rattle.std.proofs.Common.{◌≡◌, ◌∙◌, ℕ, ◌+◌, ◌<◌, ◌≤◌, List, [], ◌++◌, length, take, drop, Option, Some, None, IfSome, refl, sym, ap, subst, arith, append_assoc, append-nil, length-append, take-append-drop}
use Rattle.std.specs.Io.KnownBytes.{Consumes, IsAtEnd}
use Rattle.crp_plan.specs.BayNames.{YardBay}
use Rattle.crp_cert.specs.declared.fault.CertFault.{CertFault}
use Rattle.crp_cert.specs.declared.head.Head.{Head}
use Rattle.crp_cert.specs.Text.{IsHead, head_text}
use Rattle.crp_cert.specs.Faults.{IsFirstFault}
use Rattle.crp_cert.specs.HeadsFed.{IsFaultyHead}
use Rattle.crp_cert.specs.FromSources.{BeginsWithHead, BeginsWithNone}

-- one piece after the other
pub consumes_on : (a b c : Option (List ℕ)) (xs ys : List ℕ) → Consumes a b xs → Consumes b c ys → Consumes a c (xs ++ ys)
consumes_on None b c xs ys p q = tt
consumes_on (Some as') None c xs ys p q = absurd p
consumes_on (Some as') (Some bs) None xs ys p q = absurd q
consumes_on (Some as') (Some bs) (Some cs) xs ys p q = p ∙ ap (λ l. xs ++ l) q ∙ sym (append_assoc xs ys cs)

-- nothing yet
pub none_consumed : (a : Option (List ℕ)) → Consumes a a []
none_consumed None = tt
none_consumed (Some xs) = refl

-- what was read, and what may come behind it, is what the source had
text_behind : (a b : Option (List ℕ)) (got : List ℕ) → Consumes a b got → (rest : List ℕ) × IfSome a (λ bytes. got ++ rest ≡ bytes)
text_behind None b got p = ([], tt)
text_behind (Some xs) None got p = absurd p
text_behind (Some xs) (Some ys) got p = (ys, sym p)

-- a front of a piece, and what of it stands behind
front_of_piece : (got piece : List ℕ) (k : ℕ) → got ++ piece ≡ (got ++ take k piece) ++ drop k piece
front_of_piece got piece k = ap (λ l. got ++ l) (sym (take-append-drop k piece)) ∙ sym (append_assoc got (take k piece) (drop k piece))

-- a whole head stands in front of the text, and no more than a piece was read behind it
pub head_stands : (a b : Option (List ℕ)) (got piece : List ℕ) (k : ℕ) (head : Head) → Consumes a b (got ++ piece) → length piece ≤ 4096 → IsHead head → got ++ take k piece ≡ head_text head → BeginsWithHead a b head
head_stands a b got piece k head consumed small is whole =
    let (rest, known) = text_behind a b (got ++ piece) consumed in
    record {
      text = (got ++ piece) ++ rest;
      text_is = known;
      head_is = (
        is,
        (
          drop k piece ++ rest,
          ap (λ l. l ++ rest) (front_of_piece got piece k ∙ ap (λ l. l ++ drop k piece) whole) ∙ append_assoc (head_text head) (drop k piece) rest,
        ),
      );
      bytes = got ++ piece;
      read = consumed;
      near = omega (arith, small, length-append got piece, ap length whole, length-append got (take k piece));
    }

-- the source is at its end: what was read is what it had
pub all_read : (limit : ℕ) (a b : Option (List ℕ)) (got : List ℕ) (f : CertFault) → Consumes a b got → IsAtEnd b → length got ≤ limit → IsFirstFault got f → BeginsWithNone limit a f
all_read limit None b got f p e le first = record { text = got; text_is = tt; within = le; first = first }
all_read limit (Some xs) None got f p e le first = absurd p
all_read limit (Some xs) (Some ys) got f p e le first = record { text = got; text_is = sym (p ∙ ap (λ l. got ++ l) e ∙ append-nil got); within = le; first = first }

-- a fault of the front is one of the whole, where that is not too long
pub fault_stays : (limit room : ℕ) (a b : Option (List ℕ)) (got piece : List ℕ) (k : ℕ) (bay : Option YardBay) (f : CertFault) → Consumes a b (got ++ piece) → length (got ++ piece) + room ≤ limit →
    IfSome b (λ xs. length xs ≤ room) → IsFaultyHead (got ++ take k piece) bay f → BeginsWithNone limit a f
fault_stays limit room None b got piece k bay f p le within is = record {
  text = got ++ piece;
  text_is = tt;
  within = omega (arith, le);
  first = subst (λ l. IsFirstFault l f) (sym (front_of_piece got piece k)) (is.fault_stays (drop k piece));
}
fault_stays limit room (Some xs) None got piece k bay f p le within is = absurd p
fault_stays limit room (Some xs) (Some ys) got piece k bay f p le within is =
    let same : xs ≡ (got ++ take k piece) ++ (drop k piece ++ ys) = p ∙ ap (λ l. l ++ ys) (front_of_piece got piece k) ∙ append_assoc (got ++ take k piece) (drop k piece) ys in
    record {
      text = xs;
      text_is = refl;
      within = omega (arith, le, within, ap length p, length-append (got ++ piece) ys);
      first = subst (λ l. IsFirstFault l f) (sym same) (is.fault_stays (drop k piece ++ ys));
    }

-- more than the limit came
pub too_many : (limit : ℕ) (a b : Option (List ℕ)) (got : List ℕ) → Consumes a b got → limit < length got → IfSome a (λ xs. limit < length xs)
too_many limit None b got p lt = tt
too_many limit (Some xs) None got p lt = absurd p
too_many limit (Some xs) (Some ys) got p lt = omega (arith, lt, ap length p, length-append got ys)

-- or more than the room is left
pub too_many_left : (limit room : ℕ) (a b : Option (List ℕ)) (got : List ℕ) → Consumes a b got → length got + room ≡ limit → IfSome b (λ xs. room < length xs) → IfSome a (λ xs. limit < length xs)
too_many_left limit room None b got p e lt = tt
too_many_left limit room (Some xs) None got p e lt = absurd p
too_many_left limit room (Some xs) (Some ys) got p e lt = omega (arith, lt, e, ap length p, length-append got ys)

-- few bytes are left where a piece and then few were
pub few_left : (room n : ℕ) (a b : Option (List ℕ)) (got : List ℕ) → Consumes a b got → length got ≡ n → IfSome b (λ xs. length xs + n ≤ room) → IfSome a (λ xs. length xs ≤ room)
few_left room n None b got p e le = tt
few_left room n (Some xs) None got p e le = absurd p
few_left room n (Some xs) (Some ys) got p e le = omega (arith, le, e, ap length p, length-append got ys)
