-- The branches that are open on the way to where a text that is followed has come to, and what is still to come.
use Rattle.std.specs.Prelude.{◌≡◌, ℕ, ◌-◌, ◌≤◌, false, if◌then◌else◌, List, [], ◌∷◌, ◌++◌, reverse, drop, ⊤}
use Rattle.crp_plan.specs.Bay.{Position}
use Rattle.crp_thinned.specs.Thinned.{good_rows, child_at, child_without}
use Rattle.crp_thinning.specs.declared.path.Frame.{Frame}
use Rattle.crp_thinning.specs.declared.path.Path.{Path}
use Rattle.crp_thinning.specs.declared.reading.Reading.{Reading}
use Rattle.crp_thinning.specs.declared.stage.Stage.{Stage}
use Rattle.crp_thinning.specs.declared.stage.Stage.TheVariants as stage
use Rattle.crp_thinning.specs.Owed.{Task, Following, Trees, Family, Refused}
use Rattle.crp_thinning.specs.OneChain.{IsFair}

abbrev pub task : Position → ℕ → Task
task s need = record { place = s; need = need }

-- the trees of a thinned branch that are to come: those of these rows, and the last one
abbrev pub row_tasks : Position → ℕ → List ℕ → List Task
row_tasks s need [] = task (child_without s) (need - 2) ∷ []
row_tasks s need (row ∷ rows) = task (child_at s row) (need - 1) ∷ row_tasks s need rows

-- the trees of an open branch that are to come
abbrev pub left_of : Position → Frame → List Task
left_of s frame = if frame.last then [] else row_tasks s frame.need (drop frame.rows (good_rows s))

-- those of all open branches, the innermost first; the trail has the positions where they stand
abbrev pub tasks_of : List Frame → List Position → List Task
tasks_of [] trail = []
tasks_of (frame ∷ frames) [] = []
tasks_of (frame ∷ frames) (s ∷ trail) = left_of s frame ++ tasks_of frames trail

-- each open branch has its position, and one of which trees are to come stands where something is left to leave
abbrev pub AreOpen : List Frame → List Position → Type 0
AreOpen [] trail = ⊤
AreOpen (frame ∷ frames) [] = ⊥
AreOpen (frame ∷ frames) (s ∷ trail) = (frame.last ≡ false → s.next ≤ s.ordered) × AreOpen frames trail

abbrev pub IsOpen : Path → Type 0
IsOpen path = AreOpen (reverse path.frames.items) path.place.trail

-- the trees that are to come behind the next one
abbrev pub behind : Path → List Task
behind path = tasks_of (reverse path.frames.items) path.place.trail

-- the trees that are to come
abbrev pub to_come : Path → List Task
to_come path = task path.place.place path.need ∷ behind path

-- what is followed
abbrev pub following : Stage → Path → Reading → Following
following stage.Tree path reading = Trees (to_come path)
following stage.Family path reading = Family path.place.place reading (behind path)
following stage.Done path reading = Trees []
following stage.Refused path reading = Refused

-- what holds at a stage
abbrev pub IsKept : Stage → Path → Reading → Type 0
IsKept stage.Tree path reading = IsOpen path
IsKept stage.Family path reading = IsOpen path × IsFair reading
IsKept stage.Done path reading = ⊤
IsKept stage.Refused path reading = ⊤
