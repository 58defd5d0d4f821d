use Rattle.std.proofs.Common.{◌∙◌, arith, inl, inr, map, refl}
use Rattle.std.proofs.lemmas.Result.{err_from_is_err_and}
use Rattle.crp_follow.specs.Views.{bay_followed}
use Rattle.crp_jobs.specs.declared.outcome.ToolFault.TheVariants as fault
use Rattle.crp_commands.proofs.Noted.{noted_twice}
use Rattle.crp_commands.proofs.Replayed.{keeps_same}
use Rattle.crp_commands.proofs.comparing.compare.Goals as goal

pub returns-in_err-stands-clause-ended : goal.returns-in_err-stands-clause-ended
returns-in_err-stands-clause-ended g c =
    let p = err_from_is_err_and c.from_residual.result c.from_residual.ensures.1 in
    rw (p.1, p.2) (
      inl (inl (c.in_err-stands.field-0.0, refl, rw c.sizes.ensures.value at c.in_err-stands.ensures.refused), keeps_same _),
      omega (arith, c.in_err-stands.ensures.counted, c.in_err-stands.ensures.passed),
    )

pub returns-in_err-first-clause-ended : goal.returns-in_err-first-clause-ended
returns-in_err-first-clause-ended g c =
    let p = err_from_is_err_and c.from_residual-in_err-first.result c.from_residual-in_err-first.ensures.1 in
    rw (p.1, p.2) (
      inl (inr (c.in_ok-stands.stands, (rw c.sizes.ensures.value at c.in_ok-stands.ensures.accepted), inl c.in_err-first.ensures.refused), keeps_same _),
      omega (arith, c.in_ok-stands.ensures.counted, c.in_err-first.ensures.counted, c.in_err-first.ensures.count, c.in_err-first.ensures.passed),
    )

pub returns-in_err-other-clause-ended : goal.returns-in_err-other-clause-ended
returns-in_err-other-clause-ended g c =
    let p = err_from_is_err_and c.from_residual-in_err-other.result c.from_residual-in_err-other.ensures.1 in
    let first = c.in_ok-first.first in
    let (fault, stated, refused) = c.in_err-other.ensures.refused in
    rw (p.1, p.2) (
      inl (
        inr (
          c.in_ok-stands.stands,
          (rw c.sizes.ensures.value at c.in_ok-stands.ensures.accepted),
          inr (first.numbers, map bay_followed first.bays.items, fault, c.in_ok-first.ensures.followed, stated, refused),
        ),
        keeps_same _,
      ),
      omega (
        arith,
        c.in_ok-stands.ensures.counted,
        c.in_ok-first.ensures.counted,
        c.in_ok-first.ensures.count,
        c.in_err-other.ensures.counted,
        c.in_err-other.ensures.count,
        c.in_err-other.ensures.passed,
      ),
    )

pub returns-in_err-table-clause-ended : goal.returns-in_err-table-clause-ended
returns-in_err-table-clause-ended g c =
    let p = err_from_is_err_and c.from_residual-in_err-table.result c.from_residual-in_err-table.ensures.1 in
    let first = c.in_ok-first.first in
    rw (p.1, p.2) (
      inl (
        inr (
          c.in_ok-stands.stands,
          (rw c.sizes.ensures.value at c.in_ok-stands.ensures.accepted),
          inr (first.numbers, map bay_followed first.bays.items, fault.Memory, c.in_ok-first.ensures.followed, refl, inl tt),
        ),
        keeps_same _,
      ),
      omega (
        arith,
        c.in_ok-stands.ensures.counted,
        c.in_ok-first.ensures.counted,
        c.in_ok-first.ensures.count,
        c.in_ok-other.ensures.counted,
        c.in_ok-other.ensures.count,
        c.in_ok-other.ensures.passed,
      ),
    )

pub returns-in_err-write_table-clause-ended : goal.returns-in_err-write_table-clause-ended
returns-in_err-write_table-clause-ended g c =
    let p = err_from_is_err_and c.from_residual-in_err-write_table.result c.from_residual-in_err-write_table.ensures.1 in
    let first = c.in_ok-first.first in
    let other = c.in_ok-other.other in
    let (stated, failed, part) = c.in_err-write_table.ensures.ended in
    rw (p.1, p.2) (
      inr (
        stated,
        failed,
        (
          _,
          record {
            yard = c.in_ok-stands.stands;
            numbers = first.numbers;
            bays = map bay_followed first.bays.items;
            second_numbers = other.numbers;
            seconds = map bay_followed other.bays.items;
            listed = (rw c.sizes.ensures.value at c.in_ok-stands.ensures.accepted);
            report = c.in_ok-first.ensures.followed;
            second = c.in_ok-other.ensures.followed;
            table_is = c.deref.ensures.value ∙ c.in_ok-table.ensures;
          },
          part,
        ),
      ),
      omega (
        arith,
        c.in_ok-stands.ensures.counted,
        c.in_ok-first.ensures.counted,
        c.in_ok-first.ensures.count,
        c.in_ok-other.ensures.counted,
        c.in_ok-other.ensures.count,
        c.in_err-write_table.ensures.counted,
        c.in_err-write_table.ensures.count,
        c.in_err-write_table.ensures.passed,
      ),
    )

pub returns-clause-ended : goal.returns-clause-ended
returns-clause-ended g c =
    let first = c.in_ok-first.first in
    let other = c.in_ok-other.other in (
      refl,
      (
        _,
        record {
          yard = c.in_ok-stands.stands;
          numbers = first.numbers;
          bays = map bay_followed first.bays.items;
          second_numbers = other.numbers;
          seconds = map bay_followed other.bays.items;
          listed = (rw c.sizes.ensures.value at c.in_ok-stands.ensures.accepted);
          report = c.in_ok-first.ensures.followed;
          second = c.in_ok-other.ensures.followed;
          table_is = c.deref.ensures.value ∙ c.in_ok-table.ensures;
        },
        c.in_ok-write_table.ensures.ended,
      ),
      omega (
        arith,
        c.in_ok-stands.ensures.counted,
        c.in_ok-first.ensures.counted,
        c.in_ok-first.ensures.count,
        c.in_ok-other.ensures.counted,
        c.in_ok-other.ensures.count,
        c.in_ok-write_table.ensures.counted,
        c.in_ok-write_table.ensures.count,
        c.in_ok-write_table.ensures.passed,
      ),
    )

pub returns-in_err-other-clause-noted : goal.returns-in_err-other-clause-noted
returns-in_err-other-clause-noted g c = noted_twice _ _ _ _ _ _ _ c.followed_from.ensures.noted c.second_from.ensures.noted

pub returns-in_err-table-clause-noted : goal.returns-in_err-table-clause-noted
returns-in_err-table-clause-noted g c = noted_twice _ _ _ _ _ _ _ c.followed_from.ensures.noted c.second_from.ensures.noted

pub returns-in_err-write_table-clause-noted : goal.returns-in_err-write_table-clause-noted
returns-in_err-write_table-clause-noted g c = noted_twice _ _ _ _ _ _ _ c.followed_from.ensures.noted c.second_from.ensures.noted

pub returns-clause-noted : goal.returns-clause-noted
returns-clause-noted g c = noted_twice _ _ _ _ _ _ _ c.followed_from.ensures.noted c.second_from.ensures.noted
