-- A text in shares.
use Rattle.std.proofs.Common.{◌≡◌, ◌∙◌, List, ℕ, [], ◌∷◌, ◌++◌, Vec, Global, ap, append-nil, append_assoc}
use Rattle.std.specs.Prelude.{flat_map, codes}
use Rattle.std.proofs.lemmas.List.Concat.{flat_map-append}
use Rattle.crp_tree.specs.Names.{name_text}
use Rattle.crp_cert.specs.Script.{opening_of, symbols_line}

-- a share more, behind others
pub share_more : (shares all : List (Vec ℕ Global)) (end : Vec ℕ Global) (lines own : List ℕ) → flat_map (λ (s : Vec ℕ Global). s.items) shares ≡ lines → end.items ≡ own
    → all ≡ shares ++ end ∷ [] → flat_map (λ (s : Vec ℕ Global). s.items) all ≡ lines ++ own
share_more shares all end lines own are ends is =
    ap (flat_map (λ (s : Vec ℕ Global). s.items)) is ∙ flat_map-append (λ (s : Vec ℕ Global). s.items) shares (end ∷ []) ∙ ap (λ l. l ++ (end.items ++ [])) are
    ∙ ap (λ l. lines ++ l) (append-nil end.items ∙ ends)

-- the line of a part, of what stands before its symbols, these and the line's end
pub line_joined : (text name symbols : List ℕ) → ((text ++ opening_of name) ++ symbols) ++ 10 ∷ [] ≡ text ++ symbols_line name symbols
line_joined text name symbols =
    let part = codes "part " in
    let colon = codes ": " in
    let end : List ℕ = symbols ++ 10 ∷ [] in
    append_assoc (text ++ opening_of name) symbols (10 ∷ []) ∙ append_assoc text (opening_of name) end
    ∙ ap (λ l. text ++ l) (append_assoc part (name_text name ++ colon) end ∙ ap (λ l. part ++ l) (append_assoc (name_text name) colon end))
