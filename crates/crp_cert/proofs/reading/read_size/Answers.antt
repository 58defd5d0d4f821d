use Rattle.std.proofs.Common.{◌≡◌, ◌⊎◌, ⊎_elim, true, ◌++◌, ap, ◌∙◌, append_assoc}
use Rattle.crp_cert.specs.Text.{has_heights, title_line, bay_line, size_line}
use Rattle.crp_cert.specs.declared.size.Size.{Size}
use Rattle.crp_cert.specs.declared.version.Version.{Version}
use Rattle.crp_cert.specs.declared.version.Version.TheVariants.{One, Two, Three}
use Rattle.crp_cert.proofs.Settled.{size_short}
use Rattle.crp_cert.proofs.Heights.{heights_are}
use Rattle.crp_cert.proofs.Readers.{size_reader, none_stands}
use Rattle.crp_cert.proofs.LinesOfHead.{sized_rows}
use Rattle.crp_cert.proofs.reading.read_size.Goals as goal
use Rattle.crp_cert.proofs.reading.read_size.Goals.{in-One, in-Two}

pub returns-in_err-size-clause-none : goal.returns-in_err-size-clause-none
returns-in_err-size-clause-none c = rw c.from_residual.ensures (none_stands size_reader c.args.bytes.now c.in_err-size.ensures)

pub same_heights-heights-requires : goal.same_heights-heights-requires
same_heights-heights-requires c = (size_reader.takes c.args.bytes.now c.in_ok-size.size c.in_ok-size.rest.now c.in_ok-size.ensures).0.few_rows

pub no_rows-requires-clause-size : goal.no_rows-requires-clause-size
no_rows-requires-clause-size c = (size_reader.takes c.args.bytes.now c.in_ok-size.size c.in_ok-size.rest.now c.in_ok-size.ensures).0

pub no_rows-requires-clause-heights : goal.no_rows-requires-clause-heights
no_rows-requires-clause-heights c =
    heights_are One c.in_ok-size.size c.same_heights-heights.result.items (size_reader.takes c.args.bytes.now c.in_ok-size.size c.in_ok-size.rest.now c.in_ok-size.ensures).0 c.same_heights-heights.ensures

-- versions 2 and 3 have a line of heights
either : (version : Version) → (version ≡ Two) ⊎ (version ≡ Three) → has_heights version ≡ true
either version is = ⊎_elim (λ e. ap has_heights e) (λ e. ap has_heights e) is

pub invariant_of-lines : goal.invariant_of-lines
invariant_of-lines c = record {
  is_size = (size_reader.takes c.args.bytes.now c.in_ok-size.size c.in_ok-size.rest.now c.in_ok-size.ensures).0;
  with_heights = either c.args.version c.in-Two.is;
}

pub returns-clause-found : goal.returns-clause-found
returns-clause-found c =
    let size : Size = c.in_ok-size.size in
    let t = size_reader.takes c.args.bytes.now size c.in_ok-size.rest.now c.in_ok-size.ensures in
    record {
      line = size_line size;
      ends = size_short size t.0;
      is = t.1;
      rows = tt;
      leads = λ before has.
          elim c.match-version.branch [
            | in-One w ↦
                let made = w.no_rows.ensures in
                rw w.lines-is (sized_rows before w.no_rows.result c.args.version c.args.bay size w.same_heights-heights.result.items w.in-One.is made.version made.bay made.size made.heights made.stacks w.same_heights-heights.ensures has)
            | in-Two w ↦
                rw w.lines-is (has.0, ap (λ l. l ++ size_line size) has.1 ∙ append_assoc (title_line c.args.version) (bay_line c.args.bay) (size_line size))
          ];
    }
