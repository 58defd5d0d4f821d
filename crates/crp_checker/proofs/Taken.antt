-- What is left of a file of certificates when some of it was taken.
use Rattle.std.proofs.Common.{◌≡◌, ◌∙◌, ⊎_elim, ℕ, ◌+◌, ◌-◌, ◌<◌, ◌≤◌, List, [], ◌++◌, length, take, drop, true, false, Bool, Option, None, Some, IfSome, Result, Err, IfErr, inl, inr, refl, sym, ap, subst, arith, append_assoc, length-append, length-drop, take-append-drop}
use Rattle.std.specs.Io.KnownBytes.{Consumes, Keeps, IsAtEnd}
use Rattle.std.proofs.lemmas.List.{append-nil, drop_all, drop-drop, length-take, take-take}
use Rattle.crp_checker.specs.declared.checker.Checker.{Checker}
use Rattle.crp_checker.specs.declared.unread.Unread.{Unread}
use Rattle.crp_checker.specs.declared.watch.Watch.{Watch}
use Rattle.crp_checker.specs.Files.{HasNoEndLine}
use Rattle.crp_checker.specs.Watches.{IsUnended}
use Rattle.crp_checker.specs.Reading.{HasMore, IsSpent, IsLeft, AreTaken, IsTaken, IsTooLong, AreFed}
use Rattle.crp_checker.proofs.FileFed.{open_text}

-- ---- nothing, and one after the other

pub none_taken : (a : Option (List ℕ)) (u : Unread) (left : List ℕ) → IsLeft a u left → AreTaken a u [] a u
none_taken a u left is = record { before = λ rest l. l; some = (left, is); room = omega arith }

pub taken_on : (a b c : Option (List ℕ)) (u v w : Unread) (text more : List ℕ) → AreTaken a u text b v → AreTaken b v more c w → AreTaken a u (text ++ more) c w
taken_on a b c u v w text more first second = record {
  before = λ left l. subst (IsLeft a u) (sym (append_assoc text more left)) (first.before (more ++ left) (second.before left l));
  some = second.some;
  room = omega (arith, first.room, second.room, length-append text more);
}

pub too_long_since : (a b : Option (List ℕ)) (u v : Unread) (text : List ℕ) → AreTaken a u text b v → IsTooLong b v → IsTooLong a u
too_long_since a b u v text taken (left, is, long) = (text ++ left, taken.before left is, omega (arith, long, taken.room, length-append text left))

-- ---- a piece that is read

abbrev chosen : Option (List ℕ) → List ℕ
chosen None = []
chosen (Some xs) = xs

chosen_is : (a : Option (List ℕ)) → IfSome a (λ xs. chosen a ≡ xs)
chosen_is None = tt
chosen_is (Some xs) = refl

chosen_end : (a : Option (List ℕ)) → IsAtEnd a → chosen a ≡ []
chosen_end None e = refl
chosen_end (Some xs) e = e

given_before : (a b : Option (List ℕ)) (got rest left : List ℕ) → Consumes a b got → IfSome b (λ xs. rest ≡ xs) → left ≡ got ++ rest → IfSome a (λ xs. left ≡ xs)
given_before None b got rest left c g e = tt
given_before (Some xs) None got rest left c g e = absurd c
given_before (Some xs) (Some ys) got rest left c g e = e ∙ ap (λ l. got ++ l) g ∙ sym c

pub not_ended : (ended : Bool) → ended ≡ false → ended ≡ true → ⊥
not_ended ended f t = let k : false ≡ true = sym f ∙ t in cc

-- all that is left is still to come
all_behind : (a : Option (List ℕ)) (u : Unread) (left : List ℕ) → length u.piece.items ≤ u.taken → u.ended ≡ false → IfSome a (λ xs. left ≡ xs) → IsLeft a u left
all_behind a u left none going given = record {
  rest = left;
  is = ap (λ l. l ++ left) (sym (drop_all u.taken u.piece.items none));
  given = given;
  none_behind = λ e. absurd (not_ended u.ended going e);
}

pub refilled : (a b : Option (List ℕ)) (u v : Unread) (got : List ℕ) → length u.piece.items ≤ u.taken → u.ended ≡ false → Consumes a b got → (v.ended ≡ true → IsAtEnd b)
    → drop v.taken v.piece.items ≡ got → v.room ≡ u.room → AreTaken a u [] b v
refilled a b u v got none going consumes end got-is room = record {
  before = λ left l. all_behind a u left none going (given_before a b got l.rest left consumes l.given (l.is ∙ ap (λ x. x ++ l.rest) got-is));
  some = (got ++ chosen b, record { rest = chosen b; is = ap (λ x. x ++ chosen b) (sym got-is); given = chosen_is b; none_behind = λ e. chosen_end b (end e) });
  room = omega (arith, room);
}

-- a byte is there, and none may be taken
pub too_long : (a b : Option (List ℕ)) (u v : Unread) → AreTaken a u [] b v → v.taken < length v.piece.items → v.room ≡ 0 → IsTooLong a u
too_long a b u v took more none =
    let (left, is) = took.some in
    let long : length left ≡ (length v.piece.items - v.taken) + length is.rest =
    ap length is.is ∙ length-append (drop v.taken v.piece.items) is.rest ∙ ap (λ n. n + length is.rest) (length-drop v.taken v.piece.items) in
    (left, took.before left is, omega (arith, long, more, none, took.room))

-- ---- a part of it that is fed

pub part_taken : (a : Option (List ℕ)) (u v : Unread) (text left : List ℕ) → drop u.taken u.piece.items ≡ text ++ drop v.taken v.piece.items → length text + v.room ≡ u.room → v.ended ≡ u.ended
    → IsLeft a u left → AreTaken a u text a v
part_taken a u v text left front room same is = record {
  before = λ rest l. record {
    rest = l.rest;
    is = ap (λ x. text ++ x) l.is ∙ sym (append_assoc text (drop v.taken v.piece.items) l.rest) ∙ ap (λ x. x ++ l.rest) (sym front);
    given = l.given;
    none_behind = λ e. l.none_behind (same ∙ e);
  };
  some = (drop v.taken v.piece.items ++ is.rest, record { rest = is.rest; is = refl; given = is.given; none_behind = λ e. is.none_behind (sym same ∙ e) });
  room = room;
}

-- a range of what was read, from where it was taken
range_stands : (xs : List ℕ) (taken most : ℕ) → drop taken xs ≡ take (taken + most - taken) (drop taken xs) ++ drop (taken + most) xs
range_stands xs taken most =
    let m : ℕ = taken + most - taken in
    let same : taken + m ≡ taken + most = omega arith in
    sym (take-append-drop m (drop taken xs)) ∙ ap (λ l. take m (drop taken xs) ++ l) (drop-drop m taken xs ∙ ap (λ k. drop k xs) same)

pub range_length : (xs : List ℕ) (taken most : ℕ) → taken + most ≤ length xs → length (take (taken + most - taken) (drop taken xs)) ≡ most
range_length xs taken most within = omega (arith, within, length-take (taken + most - taken) (drop taken xs), length-drop taken xs)

front_stands : (xs : List ℕ) (taken most n : ℕ) → n ≤ most → drop taken xs ≡ take n (take (taken + most - taken) (drop taken xs)) ++ drop (taken + n) xs
front_stands xs taken most n le =
    let small : n ≤ taken + most - taken = omega (arith, le) in
    sym (take-append-drop n (drop taken xs)) ∙ ap (λ l. l ++ drop n (drop taken xs)) (sym (take-take n (taken + most - taken) (drop taken xs) small))
    ∙ ap (λ l. take n (take (taken + most - taken) (drop taken xs)) ++ l) (drop-drop n taken xs)

front_length : (xs : List ℕ) (taken most n : ℕ) → taken + most ≤ length xs → n ≤ most → length (take n (take (taken + most - taken) (drop taken xs))) ≡ n
front_length xs taken most n within le = omega (arith, le, length-take n (take (taken + most - taken) (drop taken xs)), range_length xs taken most within)

pub range_taken : (a : Option (List ℕ)) (u : Unread) (xs left : List ℕ) (most : ℕ) → xs ≡ u.piece.items → u.taken + most ≤ length xs → most ≤ u.room → IsLeft a u left
    → AreTaken a u (take (u.taken + most - u.taken) (drop u.taken xs)) a (record { piece = u.piece; taken = u.taken + most; room = u.room - most; ended = u.ended })
range_taken a u xs left most same within room is =
    let text : List ℕ = take (u.taken + most - u.taken) (drop u.taken xs) in
    let all : length text ≡ most = range_length xs u.taken most within in
    part_taken a u (record { piece = u.piece; taken = u.taken + most; room = u.room - most; ended = u.ended }) text left
    (subst (λ l. drop u.taken l ≡ text ++ drop (u.taken + most) l) same (range_stands xs u.taken most)) (omega (arith, all, room)) refl is

pub front_taken : (a : Option (List ℕ)) (u : Unread) (xs left : List ℕ) (most n : ℕ) → xs ≡ u.piece.items → u.taken + most ≤ length xs → most ≤ u.room → n ≤ most → IsLeft a u left
    → AreTaken a u (take n (take (u.taken + most - u.taken) (drop u.taken xs))) a (record { piece = u.piece; taken = u.taken + n; room = u.room - n; ended = u.ended })
front_taken a u xs left most n same within room le is =
    let text : List ℕ = take n (take (u.taken + most - u.taken) (drop u.taken xs)) in
    let all : length text ≡ n = front_length xs u.taken most n within le in
    part_taken a u (record { piece = u.piece; taken = u.taken + n; room = u.room - n; ended = u.ended }) text left
    (subst (λ l. drop u.taken l ≡ text ++ drop (u.taken + n) l) same (front_stands xs u.taken most n le)) (omega (arith, all, room, le)) refl is

-- ---- what was fed

pub fed_since : (u v w : Unread) (text : List ℕ) (before after : Checker) (stood stands : Watch) (more : Bool) → HasMore v → AreFed v text w before after stood stands more → AreFed u text w before after stood stands more
fed_since u v w text before after stood stands more has fed = record {
  read = fed.read;
  on = fed.on;
  ended = λ e. ⊎_elim (λ ended. inl ended) (λ k. absurd (k.2 has)) (fed.ended e);
}

pub err_at : {T E : Type 0} (r : Result T E) (x : E) (P : E → Type 0) → r ≡ Err x → IfErr r P → P x
err_at r x P e is = subst (λ y. IfErr y P) e is

-- ---- a whole certificate

pub nothing_left : (a : Option (List ℕ)) (u : Unread) (left : List ℕ) → IsSpent u → IsLeft a u left → left ≡ []
nothing_left a u left spent is = is.is ∙ ap (λ x. x ++ is.rest) (drop_all u.taken u.piece.items spent.0) ∙ is.none_behind spent.1

pub whole_taken : (a b c : Option (List ℕ)) (u v w : Unread) (text more : List ℕ) (before after : Checker) (stood stands : Watch) (goes_on : Bool) → AreTaken a u text b v → AreTaken b v more c w
    → IsUnended text stood → (text ≡ [] → HasMore v) → AreFed v more w before after stood stands goes_on → goes_on ≡ false → IsTaken a u (text ++ more) c w
whole_taken a b c u v w text more before after stood stands goes_on first second unended begun fed over = record {
  taken = taken_on a b c u v w text more first second;
  first = λ left l. ⊎_elim
      (λ ended. (left, refl, inl (ended text unended), refl))
      (λ k.
      let (nothing, same, none, spent) = k in
      let whole : text ++ more ≡ text = ap (λ x. text ++ x) nothing ∙ append-nil text in
      (left, refl, inr (subst HasNoEndLine (sym whole) (open_text text stood (λ e. none (begun e)) unended), nothing_left c w left spent l), refl))
      (fed.ended over);
}

-- behind nothing
pub taken_since : (a b c : Option (List ℕ)) (u v w : Unread) (text : List ℕ) → AreTaken a u [] b v → IsTaken b v text c w → IsTaken a u text c w
taken_since a b c u v w text first second = record { taken = taken_on a b c u v w [] text first second.taken; first = second.first }

-- who reads nothing has consumed nothing
pub nothing_consumed : (a : Option (List ℕ)) → Consumes a a []
nothing_consumed None = tt
nothing_consumed (Some xs) = refl

-- nor has who fails
pub kept_consumes : (a b : Option (List ℕ)) → Keeps a b → Consumes a b []
kept_consumes None b k = tt
kept_consumes (Some xs) None k = absurd k
kept_consumes (Some xs) (Some ys) k = sym k
