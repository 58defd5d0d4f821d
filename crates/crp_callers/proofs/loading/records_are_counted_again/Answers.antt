use Rattle.std.proofs.Common.{◌≡◌, ◌∙◌, ℕ, List, ap, sym, map, take}
use Rattle.std.specs.List.{sum, sum_by}
use Rattle.std.proofs.lemmas.Simd.{map-map}
use Rattle.std.proofs.lemmas.List.Sums.{sum-map}
use Rattle.crp_loading.specs.Loading.{TurnRecord, turn_fields, records_of}
use Rattle.crp_callers.proofs.loading.records_are_counted_again.Goals as goal

-- what is counted of what each record becomes
counted : (count : List (List ℕ) → ℕ) (records : List TurnRecord) → sum_by (λ r. count (take 12 (turn_fields r))) records ≡ sum_by count (map (λ r. take 12 (turn_fields r)) records)
counted count records = sym (sum-map (λ r. count (take 12 (turn_fields r))) records) ∙ ap sum (sym (map-map _ _ records)) ∙ sum-map count (map (λ r. take 12 (turn_fields r)) records)

pub returns : goal.returns
returns c = λ count sequence orders bays.
    let law = c.same_records.ensures in
    law.each (λ r. count (take 12 (turn_fields r))) sequence orders bays ∙ counted count (records_of sequence orders bays) ∙ ap (sum_by count) (law.columns sequence orders bays)
