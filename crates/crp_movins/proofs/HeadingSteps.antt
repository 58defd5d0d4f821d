-- The segments that say the ship and the date, from the first on.
use Rattle.std.proofs.Common.{◌≡◌, ◌+◌, ℕ, Bool, List, None, refl, add-one}
use Rattle.std.specs.Option.{option_or}
use Rattle.std.specs.Bool.{then_some}
use Rattle.edi_text.specs.Parts.{SegmentParts}
use Rattle.crp_movins.specs.Loading.{Loading}
use Rattle.crp_movins.specs.Kinds.{kind_of}
use Rattle.crp_movins.specs.Places.{kind_at, tag_at}
use Rattle.crp_movins.specs.Headings.{names_ship, names_date}
use Rattle.crp_movins.specs.declared.headed.Headed.{Headed}
use Rattle.crp_movins.specs.Standings.{headed_before}

pub headed-start : (segments : List SegmentParts) (loading : Loading) → record { ship = None; date = None } ≡ headed_before segments loading 1
unfolding kind_at kind_of tag_at
headed-start segments loading = refl

-- one segment more
pub headed-more : (segments : List SegmentParts) (loading : Loading) (n : ℕ) (before : Headed) (ship date : Bool) → before ≡ headed_before segments loading n → ship ≡ names_ship segments loading n
    → date ≡ names_date segments loading n
    → record { ship = option_or before.ship (then_some ship n); date = option_or before.date (then_some date n) } ≡ headed_before segments loading (n + 1)
headed-more segments loading n before ship date is names dates = rw (is, names, dates, add-one n) refl
