-- Two cuts of one list at an element, and lists each of whose elements is right.
use Rattle.std.proofs.Common.{◌≡◌, ◌∙◌, ◌⊎◌, inl, inr, List, [], ◌∷◌, ◌++◌, map, refl, sym, ap}
use Rattle.std.specs.List.{AllByRecursion}

-- what follows a front, where the lists are the same
abbrev pub IsSameCut : {A : Type 0} → List A → List A → A → A → List A → List A → Type 0
IsSameCut a b x y c d = (a ≡ b) × (x ≡ y) × (c ≡ d)

-- one front goes on behind the other
abbrev pub GoesOn : {A : Type 0} → List A → A → List A → Type 0
GoesOn {A} a x b = (mid : List A) × (b ≡ a ++ x ∷ mid)

abbrev pub AreCuts : {A : Type 0} → List A → List A → A → A → List A → List A → Type 0
AreCuts a b x y c d = IsSameCut a b x y c d ⊎ (GoesOn a x b ⊎ GoesOn b y a)

more : {A : Type 0} (z w : A) (a b : List A) (x y : A) (c d : List A) → z ≡ w → AreCuts a b x y c d → AreCuts (z ∷ a) (w ∷ b) x y c d
more z w a b x y c d e (inl (p, q, r)) = inl (ap (λ l. z ∷ l) p ∙ ap (λ v. v ∷ b) e, q, r)
more z w a b x y c d e (inr (inl (mid, is))) = inr (inl (mid, ap (λ l. w ∷ l) is ∙ ap (λ v. v ∷ (a ++ x ∷ mid)) (sym e)))
more z w a b x y c d e (inr (inr (mid, is))) = inr (inr (mid, ap (λ l. z ∷ l) is ∙ ap (λ v. v ∷ (b ++ y ∷ mid)) e))

pub head_same : {A : Type 0} (a b : A) (xs ys : List A) → a ∷ xs ≡ b ∷ ys → a ≡ b
head_same a b xs ys e = cc

pub tail_same : {A : Type 0} (a b : A) (xs ys : List A) → a ∷ xs ≡ b ∷ ys → xs ≡ ys
tail_same a b xs ys e = cc

pub cuts : {A : Type 0} (a b : List A) (x y : A) (c d : List A) → a ++ x ∷ c ≡ b ++ y ∷ d → AreCuts a b x y c d
cuts [] [] x y c d e = inl (refl, head_same x y c d e, tail_same x y c d e)
cuts [] (w ∷ b) x y c d e = inr (inl (b, ap (λ v. v ∷ b) (sym (head_same x w c (b ++ y ∷ d) e))))
cuts (z ∷ a) [] x y c d e = inr (inr (a, ap (λ v. v ∷ a) (head_same z y (a ++ x ∷ c) d e)))
cuts (z ∷ a) (w ∷ b) x y c d e =
    more z w a b x y c d (head_same z w (a ++ x ∷ c) (b ++ y ∷ d) e) (cuts a b x y c d (tail_same z w (a ++ x ∷ c) (b ++ y ∷ d) e))

-- each is right, and so is one among them
pub right_at : {A : Type 0} (P : A → Type 0) (a : List A) (x : A) (c : List A) → AllByRecursion P (a ++ x ∷ c) → P x
right_at P [] x c all = all.0
right_at P (z ∷ a) x c all = right_at P a x c all.1

pub all_both : {A : Type 0} (P : A → Type 0) (xs ys : List A) → AllByRecursion P xs → AllByRecursion P ys → AllByRecursion P (xs ++ ys)
all_both P [] ys a b = b
all_both P (x ∷ xs) ys a b = (a.0, all_both P xs ys a.1 b)

pub all_right : {A : Type 0} (P : A → Type 0) (xs ys : List A) → AllByRecursion P (xs ++ ys) → AllByRecursion P ys
all_right P [] ys all = all
all_right P (x ∷ xs) ys all = all_right P xs ys all.1

-- what a list is that is mapped to a front, an element and more
pub record IsMappedCut {A : Type 0} {B : Type 0} (f : A → B) (xs : List A) (a : List B) (x : B) (c : List B) : Type 0 where
  pub front : List A
  pub at : A
  pub later : List A
  pub is : xs ≡ front ++ at ∷ later
  pub front_is : map f front ≡ a
  pub at_is : f at ≡ x

pub mapped_cut : {A : Type 0} {B : Type 0} (f : A → B) (xs : List A) (a : List B) (x : B) (c : List B) → map f xs ≡ a ++ x ∷ c → IsMappedCut f xs a x c
mapped_cut f [] [] x c e = cc
mapped_cut f [] (z ∷ a) x c e = cc
mapped_cut f (v ∷ xs) [] x c e = record { front = []; at = v; later = xs; is = refl; front_is = refl; at_is = head_same (f v) x (map f xs) c e }
mapped_cut f (v ∷ xs) (z ∷ a) x c e =
    let rest = mapped_cut f xs a x c (tail_same (f v) z (map f xs) (a ++ x ∷ c) e) in
    record {
      front = v ∷ rest.front;
      at = rest.at;
      later = rest.later;
      is = ap (λ l. v ∷ l) rest.is;
      front_is = ap (λ w. w ∷ map f rest.front) (head_same (f v) z (map f xs) (a ++ x ∷ c) e) ∙ ap (λ l. z ∷ l) rest.front_is;
      at_is = rest.at_is;
    }
