use Rattle.std.proofs.Common.{ap, ◌≡◌, ◌≤◌, ◌-◌, length, true, refl, ⊎_elim}
use Rattle.std.proofs.lemmas.Bool.{cases_lt}
use Rattle.crp_bay.specs.Positions.{can_shift}
use Rattle.crp_bay.specs.Back.{PlaceAndTrail}
use Rattle.crp_bay.proofs.Reaching.{can_from_target}
use Rattle.crp_cert.proofs.PartNames.{names_begin, rows_no_number, rows_illegal, names_fail, names_end, names_go_on, none_named, some_named, not_legal, no_room}
use Rattle.crp_cert.proofs.part_fields.name_of.Goals as goal

pub loop-row-init : goal.loop-row-init
loop-row-init c = record { rows = names_begin c.root-name.result c.start-place.result.place _ c.args.bytes.now c.root-name.ensures (ap (λ (v : PlaceAndTrail). v.place) c.start-place.ensures.value); no_root = c.in_default.ensures; is_problem = c.start-place.ensures.problem }

pub returns-in_err-row-clause-value : goal.returns-in_err-row-clause-value
returns-in_err-row-clause-value c =
    let inv = c.loop-row.invariant in
    rw c.from_residual.ensures
    (none_named c.args.problem.now c.args.bytes.now inv.no_root
    (names_fail (8 - length c.loop-row.name) c.loop-row.name c.loop-row.place.place _ c.loop-row.rest.now c.args.bytes.now inv.rows (rows_no_number (8 - length c.loop-row.name) c.loop-row.place.place c.loop-row.rest.now c.in_err-row.ensures.value)))

pub returns-in_err-place-clause-value : goal.returns-in_err-place-clause-value
returns-in_err-place-clause-value c =
    let inv = c.loop-row.invariant in
    rw c.from_residual-in_err-place.ensures
    (none_named c.args.problem.now c.args.bytes.now inv.no_root
    (names_fail (8 - length c.loop-row.name) c.loop-row.name c.loop-row.place.place _ c.loop-row.rest.now c.args.bytes.now inv.rows
    (rows_illegal (8 - length c.loop-row.name) c.loop-row.place.place c.loop-row.rest.now c.in_ok-row.row c.in_ok-row.after.now c.in_ok-row.ensures.value (not_legal c.loop-row.place.place c.in_ok-row.row (λ in'. let e = c.in_err-place.ensures.target.1 in' in cc)))))

pub returns-in_err-name-clause-value : goal.returns-in_err-name-clause-value
returns-in_err-name-clause-value c =
    let inv = c.loop-row.invariant in
    let full : 8 ≤ length c.loop-row.name = ⊎_elim (λ lt. let e = c.in_err-name.ensures.room.1 lt in absurd cc) (λ le. le) (cases_lt (length c.loop-row.name) 8) in
    rw c.from_residual-in_err-name.ensures
    (none_named c.args.problem.now c.args.bytes.now inv.no_root
    (names_fail (8 - length c.loop-row.name) c.loop-row.name c.loop-row.place.place _ c.loop-row.rest.now c.args.bytes.now inv.rows (no_room c.loop-row.name c.loop-row.place.place c.loop-row.rest.now full)))

pub returns-in_default-after_tag-clause-value : goal.returns-in_default-after_tag-clause-value
returns-in_default-after_tag-clause-value c =
    let inv = c.loop-row.invariant in
    let legal : can_shift c.loop-row.place.place c.in_ok-row.row ≡ true = can_from_target c.loop-row.place.place c.in_ok-row.row (c.in_ok-place.ensures.target.0 refl) in
    some_named c.args.problem.now c.args.bytes.now _ inv.no_root
    (names_end c.loop-row.name c.in_ok-name.name c.loop-row.place.place _ c.in_ok-place.place.place c.in_ok-row.row c.loop-row.rest.now c.args.bytes.now c.in_ok-row.after.now (c.in_ok-name.ensures.room.0 refl)
    c.in_ok-name.ensures.value (ap (λ (v : PlaceAndTrail). v.place) c.in_ok-place.ensures.value) inv.rows c.in_ok-row.ensures.value legal c.in_default-after_tag.ensures)

pub loop-row-preserved : goal.loop-row-preserved
loop-row-preserved c =
    let inv = c.loop-row.invariant in
    let legal : can_shift c.loop-row.place.place c.in_ok-row.row ≡ true = can_from_target c.loop-row.place.place c.in_ok-row.row (c.in_ok-place.ensures.target.0 refl) in
    record {
      rows = names_go_on c.loop-row.name c.in_ok-name.name c.loop-row.place.place _ c.in_ok-place.place.place c.in_ok-row.row c.loop-row.rest.now c.args.bytes.now c.in_ok-row.after.now c.in-Some-after_tag.more.now (c.in_ok-name.ensures.room.0 refl)
          c.in_ok-name.ensures.value (ap (λ (v : PlaceAndTrail). v.place) c.in_ok-place.ensures.value) inv.rows c.in_ok-row.ensures.value legal c.in-Some-after_tag.ensures;
      no_root = inv.no_root;
      is_problem = inv.is_problem;
    }
