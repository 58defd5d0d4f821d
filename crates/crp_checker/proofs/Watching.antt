-- One byte more of a certificate in a file.
use Rattle.std.proofs.Common.{◌≡◌, ◌≢◌, ℕ, List, [], ◌∷◌, ◌++◌, refl, sym, ap, ◌∙◌, subst, append_assoc}
use Rattle.std.specs.Prelude.{codes}
use Rattle.std.specs.List.{AllByRecursion}
use Rattle.std.proofs.lemmas.List.{append-nil}
use Rattle.std.proofs.lemmas.List.Elements.{All-nil, All-from_recursion, recursion_from_All}
use Rattle.std.proofs.lemmas.Grind.{flat_map-append}
use Rattle.crp_cert.proofs.Joined.{all_both}
use Rattle.crp_checker.specs.declared.watch.Watch.{Watch}
use Rattle.crp_checker.specs.declared.watch.Watch.TheVariants.{Begun, E, En, End, Last, Other}
use Rattle.crp_checker.specs.Files.{BeginsWithEnd, IsOtherLine, joined_lines}
use Rattle.crp_checker.specs.Watches.{IsWatched, IsUnended}

-- a line goes on
goes_on : (text piece : List ℕ) (watch : Watch) → AllByRecursion (λ b. b ≢ 10) piece → (un : IsUnended text watch) → IsWatched (un.begun ++ piece) watch → IsUnended (text ++ piece) watch
goes_on text piece watch all un watched = record {
  lines = un.lines;
  begun = un.begun ++ piece;
  others = un.others;
  open_line = All-from_recursion (λ b. b ≢ 10) (un.begun ++ piece) (all_both (λ b. b ≢ 10) un.begun piece (recursion_from_All (λ b. b ≢ 10) un.begun un.open_line) all);
  is = ap (λ l. l ++ piece) un.is ∙ append_assoc (joined_lines un.lines) un.begun piece;
  watched = watched;
}

-- a line ends that is another
other_ends : (text : List ℕ) (old : Watch) → (un : IsUnended text old) → (BeginsWithEnd (un.begun ++ 10 ∷ []) → ⊥) → IsUnended (text ++ 10 ∷ []) Begun
other_ends text old un other = record {
  lines = un.lines ++ (un.begun ++ 10 ∷ []) ∷ [];
  begun = [];
  others = all_both IsOtherLine un.lines ((un.begun ++ 10 ∷ []) ∷ []) un.others (record { is_line = record { body = un.begun; one_line = un.open_line; is = refl }; other = other }, tt);
  open_line = All-nil (λ x. x ≢ 10);
  is = ap (λ l. l ++ 10 ∷ []) un.is ∙ append_assoc (joined_lines un.lines) un.begun (10 ∷ [])
      ∙ ap (λ l. joined_lines un.lines ++ l) (sym (append-nil (un.begun ++ 10 ∷ [])))
      ∙ sym (flat_map-append (λ line. line) un.lines ((un.begun ++ 10 ∷ []) ∷ []))
      ∙ sym (append-nil (joined_lines (un.lines ++ (un.begun ++ 10 ∷ []) ∷ [])));
  watched = refl;
}

-- no front of `end ` with another byte behind it begins so
no_e : (b : ℕ) → b ≢ 101 → (more : List ℕ) → BeginsWithEnd (([] ++ b ∷ []) ++ more) → ⊥
no_e b ne more is = ne (let e = is.1 in cc)

no_n : (b : ℕ) → b ≢ 110 → (more : List ℕ) → BeginsWithEnd ((codes "e" ++ b ∷ []) ++ more) → ⊥
no_n b ne more is = ne (let e = is.1 in cc)

no_d : (b : ℕ) → b ≢ 100 → (more : List ℕ) → BeginsWithEnd ((codes "en" ++ b ∷ []) ++ more) → ⊥
no_d b ne more is = ne (let e = is.1 in cc)

no_space : (b : ℕ) → b ≢ 32 → (more : List ℕ) → BeginsWithEnd ((codes "end" ++ b ∷ []) ++ more) → ⊥
no_space b ne more is = ne (let e = is.1 in cc)

-- where the line is no last line its end is none
pub line_ends : (text : List ℕ) (watch : Watch) → (watch ≡ Last → ⊥) → IsUnended text watch → IsUnended (text ++ 10 ∷ []) Begun
line_ends text Begun not un = other_ends text Begun un (λ is. no_e 10 (λ e. cc) [] (subst (λ l. BeginsWithEnd l) (ap (λ l. l ++ 10 ∷ []) un.watched ∙ sym (append-nil (10 ∷ []))) is))
line_ends text E not un = other_ends text E un (λ is. no_n 10 (λ e. cc) [] (subst (λ l. BeginsWithEnd l) (ap (λ l. l ++ 10 ∷ []) un.watched ∙ sym (append-nil (codes "e" ++ 10 ∷ []))) is))
line_ends text En not un = other_ends text En un (λ is. no_d 10 (λ e. cc) [] (subst (λ l. BeginsWithEnd l) (ap (λ l. l ++ 10 ∷ []) un.watched ∙ sym (append-nil (codes "en" ++ 10 ∷ []))) is))
line_ends text End not un = other_ends text End un (λ is. no_space 10 (λ e. cc) [] (subst (λ l. BeginsWithEnd l) (ap (λ l. l ++ 10 ∷ []) un.watched ∙ sym (append-nil (codes "end" ++ 10 ∷ []))) is))
line_ends text Last not un = absurd (not refl)
line_ends text Other not un = other_ends text Other un (λ is. un.watched (10 ∷ []) is)

-- more of a line that is no last line
pub other_goes_on : (text piece : List ℕ) → AllByRecursion (λ b. b ≢ 10) piece → IsUnended text Other → IsUnended (text ++ piece) Other
other_goes_on text piece all un = goes_on text piece Other all un (λ more is. un.watched (piece ++ more) (subst (λ l. BeginsWithEnd l) (append_assoc un.begun piece more) is))

-- and of one that is
pub last_goes_on : (text piece : List ℕ) → AllByRecursion (λ b. b ≢ 10) piece → IsUnended text Last → IsUnended (text ++ piece) Last
last_goes_on text piece all un = goes_on text piece Last all un (let w = un.watched in (w.0 ++ piece, ap (λ l. l ++ piece) w.1 ∙ append_assoc (codes "end ") w.0 piece))

-- nothing has not ended
pub nothing_unended : IsUnended [] Begun
nothing_unended = record { lines = []; begun = []; others = tt; open_line = All-nil (λ x. x ≢ 10); is = refl; watched = refl }
