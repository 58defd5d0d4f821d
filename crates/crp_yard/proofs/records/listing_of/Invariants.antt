-- csv's reader stands behind the records so far, and they are read.
use Rattle.std.proofs.Common.{◌≡◌, ◌<◌, ◌≤◌, ℕ, List, Some, length, true}
use Rattle.csv.specs.Reading.{Reached, Ready, default_config, source_of, strip_bom}
use Rattle.csv.specs.declared.parser.State.TheVariants as st
use Rattle.csv.specs.declared.reader.Trim.TheVariants as trim
use Rattle.crp_yard.specs.Faults.{max_containers}
use Rattle.crp_yard.specs.Listings.{IsRead}
use Rattle.crp_yard.proofs.records.listing_of.Given as goal

abbrev pub invariant-loop-row : goal.invariant-loop-row
invariant-loop-row l =
    (l.row-iterator.rdr.trim ≡ trim.None) × Ready l.row-iterator.rdr × (0 < l.row-iterator.left) × (l.row-iterator.rdr.config ≡ default_config)
    × (l.row-iterator.rdr.flexible ≡ true) × (length l.listing ≤ max_containers)
    × (y : List ℕ) × (source_of (λ s. Some s.now) l.row-iterator.rdr ≡ Some y)
    × (records : List (List (List ℕ))) × Reached default_config st.StartRecord (strip_bom l.fn.text) records l.row-iterator.rdr.state y
    × IsRead l.fn.sizes records l.listing l.number
