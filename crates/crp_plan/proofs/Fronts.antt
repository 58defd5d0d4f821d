-- Texts that a sink takes one after the other.
use Rattle.std.proofs.Common.{◌≡◌, ◌∙◌, ℕ, ◌<◌, ◌+◌, List, ◌∷◌, ◌++◌, Option, length, take, drop, get_or, sym, ap, subst, arith, append_assoc, length-append, length-drop, take-append-drop, drop-cons, add-one}
use Rattle.std.specs.Prelude.{flat_map}
use Rattle.std.proofs.lemmas.Grind.{flat_map-append}
use Rattle.std.proofs.Math.Seq.{take-append_seam}
use Rattle.std.specs.Io.KnownBytes.{Appends}
use Rattle.std.proofs.KnownBytes.{Appends-trans}
use Rattle.crp_plan.specs.Devices.{AppendsFront, AppendsPart}

-- what an item of a list gives stands after what those before it give, and before what those after it give
pub around : {X Y : Type 0} (f : X → List Y) (xs : List X) (i : ℕ) (other : X) → i < length xs
    → flat_map f (take i xs) ++ (f (get_or xs i other) ++ flat_map f (drop (i + 1) xs)) ≡ flat_map f xs
around {X} f xs i other h =
    let tail : get_or xs i other ∷ drop (i + 1) xs ≡ drop i xs = rw (add-one) (sym (drop-cons xs i other h)) in
    sym (flat_map-append f (take i xs) (get_or xs i other ∷ drop (i + 1) xs)) ∙ ap (λ (l : List X). flat_map f (take i xs ++ l)) tail ∙ ap (flat_map f) (take-append-drop i xs)

pub split : {X Y : Type 0} (f : X → List Y) (xs : List X) (i : ℕ) (x : X) → i < length xs → x ≡ get_or xs i x
    → flat_map f (take i xs) ++ (f x ++ flat_map f (drop (i + 1) xs)) ≡ flat_map f xs
split {X} f xs i x h is = subst (λ (y : X). flat_map f (take i xs) ++ (f y ++ flat_map f (drop (i + 1) xs)) ≡ flat_map f xs) (sym is) (around f xs i x h)

-- all of a text that is a front of a longer one
pub Appends-front : (a b : Option (List ℕ)) (xs ys : List ℕ) → Appends a b xs → AppendsFront a b (xs ++ ys)
Appends-front a b xs ys h = (length xs, subst (Appends a b) (sym (take-append_seam xs ys)) h)

-- all of a text that is a front of a longer one, which goes on
pub Appends-part : (a b : Option (List ℕ)) (xs ys : List ℕ) → 0 < length ys → Appends a b xs → AppendsPart a b (xs ++ ys)
Appends-part a b xs ys more h = (length xs, omega (arith, more, length-append xs ys), subst (Appends a b) (sym (take-append_seam xs ys)) h)

-- a part of what follows a text, and more may follow
pub Appends-then_part : (a b c : Option (List ℕ)) (xs ys zs : List ℕ) → Appends a b xs → AppendsPart b c ys → AppendsPart a c (xs ++ (ys ++ zs))
Appends-then_part a b c xs ys zs h (m, small, took) =
    let split : (xs ++ take m ys) ++ (drop m ys ++ zs) ≡ xs ++ (ys ++ zs) =
    append_assoc xs (take m ys) (drop m ys ++ zs) ∙ ap (λ l. xs ++ l) (sym (append_assoc (take m ys) (drop m ys) zs) ∙ ap (λ l. l ++ zs) (take-append-drop m ys)) in
    let more : 0 < length (drop m ys ++ zs) = omega (arith, small, length-append (drop m ys) zs, length-drop m ys) in
    subst (AppendsPart a c) split (Appends-part a c (xs ++ take m ys) (drop m ys ++ zs) more (Appends-trans a b c xs (take m ys) h took))
