use Rattle.std.proofs.Common.{ℕ, Option, Some, None, IfSome, IfNone, subst, sym}
use Rattle.crp_plan.specs.declared.moves.Move.{Move}
use Rattle.crp_plan.specs.Bay.{Position, IsSound, Legal, IsTaken, IsShifted}
use Rattle.crp_plan.specs.Walks.{NoneToTake}
use Rattle.crp_plan.proofs.Determined.{one_take, one_source}
use Rattle.crp_plan.proofs.walk.Walk.make.Goals as goal

-- what was taken is what could be, and so with a relocation
take_made : (s t u : Position) (row : ℕ) (r : Option ℕ) → IsSound s → IsTaken s row t → IfSome r (λ x. IsTaken s x u) → IfNone r (NoneToTake s) → IsTaken s row u
take_made s t u row None sound legal some none = absurd (none row t legal)
take_made s t u row (Some x) sound legal some none = let P : ℕ → Type 0 = λ y. IsTaken s y u in subst P (one_take s x row u t sound some legal) some

shift_made : (s t u : Position) (from to : ℕ) (r : Option ℕ) → IsSound s → IsShifted s from to t → IfSome r (λ x. IsShifted s x to u) → IfNone r ((x : ℕ) (v : Position) → IsShifted s x to v → ⊥) → IsShifted s from to u
shift_made s t u from to None sound legal some none = absurd (none from t legal)
shift_made s t u from to (Some x) sound legal some none = let P : ℕ → Type 0 = λ y. IsShifted s y to u in subst P (one_source s x to from to u t sound some legal) some

pub returns-in-Shift : goal.returns-in-Shift
returns-in-Shift c =
    let s = c.args.self.now in let t = c.requires.legal.0 in let u = c.shift-from.new.self in
    let legal : IsShifted s c.in-Shift.from c.in-Shift.to t = subst (λ (m : Move). Legal s m t) c.in-Shift.is c.requires.legal.1 in
    subst (λ (m : Move). Legal s m u) (sym c.in-Shift.is)
    (shift_made s t u c.in-Shift.from c.in-Shift.to c.shift-from.result c.requires.sound legal c.shift-from.ensures.shifted c.shift-from.ensures.none)

pub returns-in-Take : goal.returns-in-Take
returns-in-Take c =
    let s = c.args.self.now in let t = c.requires.legal.0 in let u = c.take_next-row.new.self in
    let legal : IsTaken s c.in-Take.row t = subst (λ (m : Move). Legal s m t) c.in-Take.is c.requires.legal.1 in
    subst (λ (m : Move). Legal s m u) (sym c.in-Take.is)
    (take_made s t u c.in-Take.row c.take_next-row.result c.requires.sound legal c.take_next-row.ensures.taken c.take_next-row.ensures.none)
