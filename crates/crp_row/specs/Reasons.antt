-- How reasons are spelled: in brackets, the number that they show, and their text.
use Rattle.std.specs.Prelude.{ℕ, ◌≤◌, List, ◌++◌, All, Contains, codes}
use Rattle.std.specs.Fmt.{decimal}

-- a byte that may stand in the text of reasons
abbrev pub IsReasonByte : ℕ → Type 0
IsReasonByte b = Contains (codes "BLTRF0123456789.,;") b

-- what may stand in brackets: a number that is a byte, and a text of such bytes
abbrev pub AreReasons : ℕ → List ℕ → Type 0
AreReasons n text = (n ≤ 255) × All IsReasonByte text

-- the brackets with the number and the text
abbrev pub reasons_text : ℕ → List ℕ → List ℕ
reasons_text n text = codes "[" ++ (decimal n ++ (codes ":" ++ (text ++ codes "]")))
