-- How the member of a text is written.
use Rattle.std.proofs.Common.{◌≡◌, ℕ, Bool, true, false, List, refl}
use Rattle.std.specs.Str.{IsUtf8, is_utf8}
use Rattle.std.proofs.lemmas.Str.{is_utf8-from_IsUtf8, IsUtf8-from_is_utf8}
use Rattle.hex.specs.Hex.{encode_lower}
use Rattle.crp_json.specs.Objects.{member, text_token, bytes_member}

is_false : (b : Bool) → ¬ (b ≡ true) → b ≡ false
is_false true not = absurd (not refl)
is_false false not = refl

pub as_text : (name hex_name bytes text : List ℕ) → text ≡ bytes → IsUtf8 bytes → member name (text_token text) ≡ bytes_member name hex_name bytes
as_text name hex_name bytes text e utf8 = rw (e, is_utf8-from_IsUtf8 bytes utf8) refl

pub as_digits : (name hex_name bytes digits : List ℕ) → digits ≡ encode_lower bytes → ¬ IsUtf8 bytes → member hex_name (text_token digits) ≡ bytes_member name hex_name bytes
as_digits name hex_name bytes digits e not = rw (e, is_false (is_utf8 bytes) (λ is. not (IsUtf8-from_is_utf8 bytes is))) refl
