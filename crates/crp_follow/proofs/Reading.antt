-- Lines that are read one after the other.
use Rattle.std.proofs.Common.{◌≡◌, ◌∙◌, ℕ, ◌^◌, ◌<◌, ◌≤◌, arith, Bool, false, List, [], ◌∷◌, length, map, refl, sym, ap, subst}
use Rattle.std.specs.Prelude.{◌↔◌, IsTrue, count_by}
use Rattle.std.proofs.lemmas.List.{length-map}
use Rattle.std.proofs.lemmas.List.Sums.{count_by-le-length}
use Rattle.crp_said.specs.Said.{bays_line, is_settled}
use Rattle.crp_said.specs.Spelled.{most, ended, IsLastLine}
use Rattle.crp_said.proofs.FirstLine.{last_are, one_last}
use Rattle.crp_follow.specs.declared.stated.StatedBay.{StatedBay}
use Rattle.crp_follow.specs.Stated.{BayStated}
use Rattle.crp_follow.specs.Views.{bay_stated}
use Rattle.crp_follow.specs.Lines.{Line}
use Rattle.crp_follow.specs.TextFaults.{IsNoLine, IsWrongCount}

abbrev settled_in : List StatedBay → ℕ
settled_in bays = count_by (λ s. is_settled s.said) (map bay_stated bays)

-- a line with others behind it is no last line, whatever it says
pub more_behind : (lines : List Line) (l k : Line) (more later : List Line) → lines ≡ l ∷ later → later ≡ k ∷ more → IsNoLine lines l.number
more_behind lines l k more later e some = subst (λ (x : List Line). IsNoLine x l.number) (sym e) (refl, λ none. cc)

-- nor is one that is none
pub no_last_line : (lines : List Line) (l : Line) (later : List Line) → lines ≡ l ∷ later → ¬ IsLastLine l.body → IsNoLine lines l.number
no_last_line lines l later e none = subst (λ (x : List Line). IsNoLine x l.number) (sym e) (refl, λ alone. none)

-- no line is there, so none counts the bays
pub lacking_last : (behind : ℕ) (bays : List BayStated) (lines : List Line) → lines ≡ [] → IsWrongCount behind bays lines behind
lacking_last behind bays lines none = subst (λ (x : List Line). IsWrongCount behind bays x behind) (sym none) refl

-- the numbers of a last line are those of these bays
pub right_count : (bays : List StatedBay) (line : List ℕ) (count settled : ℕ) → ended line ≡ bays_line count settled → count ≡ length bays → settled ≡ settled_in bays
    → ended line ≡ bays_line (length (map bay_stated bays)) (settled_in bays)
right_count bays line count settled e n k = e ∙ ap (λ x. bays_line x settled) (n ∙ sym (length-map bays bay_stated)) ∙ ap (bays_line (length (map bay_stated bays))) k

-- or they are others, and the line counts these bays wrong
pub wrong_count : (behind : ℕ) (bays : List StatedBay) (lines later : List Line) (l : Line) (count settled : ℕ) (t : Bool) → lines ≡ l ∷ later → later ≡ [] → count ≤ most → settled ≤ most
    → ended l.body ≡ bays_line count settled → length bays < 2 ^ 64 → IsTrue t ↔ ((count ≡ length bays) × (settled ≡ settled_in bays)) → t ≡ false
    → IsWrongCount behind (map bay_stated bays) lines l.number
wrong_count behind bays lines later l count settled t e alone few fewer is short right wrong =
    let n : ℕ = length (map bay_stated bays) in
    let long : n ≡ length bays = length-map bays bay_stated in
    let less : settled_in bays ≤ n = count_by-le-length (λ (b : BayStated). is_settled b.said) (map bay_stated bays) in
    subst (λ (x : List Line). IsWrongCount behind (map bay_stated bays) x l.number) (sym (e ∙ ap (λ x. l ∷ x) alone)) (
      refl,
      (count, settled, few, fewer, is),
      λ counts.
          let same =
          one_last count settled n (settled_in bays) (omega (arith, few)) (omega (arith, fewer)) (omega (arith, long, short)) (omega (arith, long, short, less))
          (sym (last_are l.body count settled is) ∙ last_are l.body n (settled_in bays) counts) in
          let so : IsTrue t = right.1 (same.0 ∙ long, same.1) in
          let never : IsTrue false = subst IsTrue wrong so in cc,
    )
