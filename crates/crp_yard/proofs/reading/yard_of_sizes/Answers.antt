use Rattle.std.proofs.Common.{◌≡◌, ◌≤◌, ◌∙◌, Some, None, true, length, refl, sym, inl, inr, ⊎_elim, arith}
use Rattle.std.specs.Prelude.{nat_le}
use Rattle.std.proofs.lemmas.Bool.{le-leb}
use Rattle.std.proofs.lemmas.Result.{MatchResult-weaker}
use Rattle.crp_yard.specs.declared.fault.YardFault.{YardFault}
use Rattle.crp_yard.specs.Records.{records_of, entries_of}
use Rattle.crp_yard.specs.Inventory.{inventory_of}
use Rattle.crp_yard.specs.Faults.{max_bytes, floating_before}
use Rattle.crp_yard.specs.Reading.{IsYardListOf}
use Rattle.crp_yard.proofs.NamedBays.{yard_named}
use Rattle.crp_yard.proofs.RecordSteps.{floating-whole, ok_by_both}
use Rattle.crp_yard.proofs.reading.yard_of_sizes.Goals as goal

pub yard_with-requires : goal.yard_with-requires
yard_with-requires c = record { entries = (records_of c.args.text.now, record { faultless = c.in_ok-listing.ensures.faultless; said = c.in_ok-listing.ensures.said }) }

pub returns-clause-refused : goal.returns-clause-refused
returns-clause-refused c =
    let short : length c.args.text.now ≤ max_bytes = omega arith in
    let within : nat_le (length c.args.text.now) max_bytes ≡ true = le-leb (length c.args.text.now) max_bytes short in
    let records = records_of c.args.text.now in
    let listing = c.in_ok-listing.listing in
    let faulty : (fault : YardFault) → floating_before listing (length listing) ≡ Some fault → Some fault ≡ floating_before (entries_of records) (length (entries_of records)) =
    λ fault h. rw (← c.in_ok-listing.ensures.said) (sym h) in
    MatchResult-weaker c.yard_with.result c.yard_with.ensures.refused (λ yard h. h) (λ fault h.
    ⊎_elim (λ m. inl m) (λ t. inr (rw within (floating-whole c.args.sizes.now records (Some fault) c.in_ok-listing.ensures.faultless (faulty fault t)))) h)

pub returns-clause-accepted : goal.returns-clause-accepted
returns-clause-accepted c =
    let short : length c.args.text.now ≤ max_bytes = omega arith in
    let within : nat_le (length c.args.text.now) max_bytes ≡ true = le-leb (length c.args.text.now) max_bytes short in
    let records = records_of c.args.text.now in
    let listing = c.in_ok-listing.listing in
    ok_by_both c.yard_with.result (floating_before listing (length listing) ≡ None) (λ yard. yard ≡ inventory_of c.args.sizes.now listing)
    (λ yard. IsYardListOf c.args.sizes.now c.args.text.now yard) c.yard_with.ensures.standing c.yard_with.ensures.given
    (λ yard none is.
    let floating : None ≡ floating_before (entries_of records) (length (entries_of records)) = rw (← c.in_ok-listing.ensures.said) (sym none) in
    record {
      faultless = rw within (floating-whole c.args.sizes.now records None c.in_ok-listing.ensures.faultless floating);
      stands = is ∙ rw c.in_ok-listing.ensures.said refl;
    })

pub returns-clause-named : goal.returns-clause-named
returns-clause-named c =
    MatchResult-weaker c.yard_with.result (returns-clause-accepted c) (λ yard is. yard_named c.args.sizes.now c.args.text.now yard is) (λ fault h. h)
