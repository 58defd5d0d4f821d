-- The JSON Lines grow with the pieces.
use Rattle.std.proofs.Common.{◌≡◌, ℕ, List, [], ◌∷◌, ◌++◌, sym, ap, ◌∙◌, append_assoc, append-nil}
use Rattle.std.specs.Prelude.{flat_map}
use Rattle.std.proofs.lemmas.Grind.{flat_map-append}
use Rattle.crp_json.specs.declared.entry.Entry.{Entry}
use Rattle.crp_json.specs.Entries.{entry_text}
use Rattle.crp_json.specs.Lines.{entry_line, report_of, json_of}
use Rattle.crp_json.specs.Shown.{entries_in, opening, lines_of}

-- one more
pub one_more : {A B : Type 0} (f : A → List B) (xs : List A) (x : A) → flat_map f (xs ++ x ∷ []) ≡ flat_map f xs ++ f x
one_more f xs x = flat_map-append f xs (x ∷ []) ∙ ap (λ l. flat_map f xs ++ l) (append-nil (f x))

-- what is printed grows by the lines of a piece
pub report_more : (pieces : List (List Entry)) (entries : List Entry) → report_of (entries_in (pieces ++ entries ∷ [])) ≡ report_of (entries_in pieces) ++ report_of entries
report_more pieces entries = ap report_of (one_more (λ (p : List Entry). p) pieces entries) ∙ flat_map-append entry_text (entries_in pieces) entries

json_more : (pieces : List (List Entry)) (entries : List Entry) → json_of (entries_in (pieces ++ entries ∷ [])) ≡ json_of (entries_in pieces) ++ json_of entries
json_more pieces entries = ap json_of (one_more (λ (p : List Entry). p) pieces entries) ∙ flat_map-append entry_line (entries_in pieces) entries

pub lines_more : (first : List ℕ) (pieces : List (List Entry)) (entries : List Entry) → lines_of first (pieces ++ entries ∷ []) ≡ lines_of first pieces ++ (opening first pieces ++ json_of entries)
lines_more first [] entries = ap (λ l. first ++ json_of l) (append-nil entries)
lines_more first (x ∷ pieces) entries = ap (λ l. first ++ l) (json_more (x ∷ pieces) entries) ∙ sym (append_assoc first (json_of (entries_in (x ∷ pieces))) (json_of entries))
