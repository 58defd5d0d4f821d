-- A record whose first two fields are a block and a number names a bay of the yard.
use Rattle.std.proofs.Common.{◌≡◌, ◌≤◌, ◌<◌, ℕ, Bool, true, false, List, All, length, refl, arith}
use Rattle.std.specs.Prelude.{◌&&◌, nat_le, slice_index_or, IsTrue}
use Rattle.std.specs.List.{list_all}
use Rattle.std.specs.Char.{is_ascii_graphic}
use Rattle.std.proofs.lemmas.Bool.{leb-true, false≢true}
use Rattle.std.proofs.lemmas.List.Sums.{AllPass-from_list_all}
use Rattle.crp_plan.specs.BayNames.{IsYardBay}
use Rattle.crp_sizes.specs.Fields.{field_of, is_block, is_number, number_of, has_number}

pub both : (a b : Bool) → (a && b) ≡ true → (a ≡ true) × (b ≡ true)
both true b e = (refl, e)
both false b e = absurd (false≢true e)

printed : (bytes : List ℕ) → list_all (λ b. nat_le 33 b && nat_le b 126) bytes ≡ true → All (λ b. (33 ≤ b) × (b ≤ 126)) bytes
printed bytes e = λ k d h.
    let pass = both (nat_le 33 (slice_index_or bytes k d)) (nat_le (slice_index_or bytes k d) 126) (AllPass-from_list_all (λ b. nat_le 33 b && nat_le b 126) bytes e k d h) in
    (leb-true 33 (slice_index_or bytes k d) pass.0, leb-true (slice_index_or bytes k d) 126 pass.1)

below : {n : ℕ} → n < 10000 → n ≤ 9999
below h = omega arith

pub named : (fields : List (List ℕ)) (n : ℕ) → IsTrue (is_block (field_of fields 0)) → IsTrue (has_number fields) → n ≡ number_of (field_of fields 1) → n < 10000
    → IsYardBay (record { block = field_of fields 0; bay = n })
named fields n formed numbered is small =
    let block = field_of fields 0 in
    let parts = both (nat_le 1 (length block) && nat_le (length block) 17) (list_all is_ascii_graphic block) formed in
    let ends = both (nat_le 1 (length block)) (nat_le (length block) 17) parts.0 in
    let counts : 1 ≤ number_of (field_of fields 1) = leb-true 1 (number_of (field_of fields 1)) (both (is_number (field_of fields 1)) (nat_le 1 (number_of (field_of fields 1))) numbered).1 in
    record {
      some_characters = leb-true 1 (length block) ends.0;
      few_characters = leb-true (length block) 17 ends.1;
      printed = printed block parts.1;
      counts = rw is counts;
      four_digits = below small;
    }
