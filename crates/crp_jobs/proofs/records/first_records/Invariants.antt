-- So many records are read.
use Rattle.std.proofs.Common.{◌≡◌, length, map, take}
use Rattle.csv.specs.Records.{fields_of}
use Rattle.crp_sizes.specs.Fields.{records_of}
use Rattle.crp_sizes.proofs.RowSteps.{HasRead}
use Rattle.crp_jobs.proofs.records.first_records.Given as goal

abbrev pub invariant-loop : goal.invariant-loop
invariant-loop l = record {
  counted : length l.records.items ≡ l.counter;
  read : HasRead l.fn.text (map fields_of l.records.items) l.rows;
  front : take l.counter (records_of l.fn.text) ≡ map fields_of l.records.items;
}
