-- Lists of which no memory is kept. No public clause cites this module.
use Rattle.std.specs.Prelude.{◌≡◌, ◌<◌, Bool, true, false, List, [], ◌∷◌, ◌++◌, length, Option, Some, None}
use Rattle.std.specs.declared.snapshot.Snapshot.{Snapshot}
use Rattle.crp_json.specs.declared.kept.Last.TheInside.{Inside}

-- those that a snapshot shows, if there is one
abbrev pub lists_in : {T : Type 0} → Option (Snapshot (List (List T))) → List (List T)
lists_in None = []
lists_in (Some s) = s.value

-- the same, and the last one
abbrev pub lists_with : {T : Type 0} → Inside T → List (List T)
lists_with last = lists_in last.before ++ last.list.items ∷ []

-- there is a snapshot of some alone
abbrev pub AreSome : {T : Type 0} → Option (Snapshot (List (List T))) → Type 0
AreSome {T} all = (s : Snapshot (List (List T))) → all ≡ Some s → 0 < length s.value

-- there are none
abbrev pub is_none : {T : Type 0} → List (List T) → Bool
is_none [] = true
is_none (list ∷ lists) = false
