use Rattle.std.proofs.Common.{◌≡◌, ◌<◌, Bool, true, false, List, [], ◌∷◌, length, Option, Some, None, refl, subst, arith}
use Rattle.std.specs.Prelude.{not}
use Rattle.std.specs.Option.{is_some}
use Rattle.std.specs.declared.snapshot.Snapshot.{Snapshot}
use Rattle.crp_json.specs.Kept.{lists_in, is_none, AreSome}
use Rattle.crp_json.proofs.kept.Kept.is_empty.Goals as goal

none_so : (T : Type 0) (all : Option (Snapshot (List (List T)))) (lists : List (List T)) (b : Bool) → lists_in all ≡ lists → AreSome all → is_some all ≡ not b → b ≡ is_none lists
none_so T None [] true e are is = refl
none_so T None [] false e are is = (cc)
none_so T None (list ∷ lists) b e are is = (cc)
none_so T (Some s) [] b e are is = absurd (omega (arith, subst (λ (l : List (List T)). 0 < length l) e (are s refl)))
none_so T (Some s) (list ∷ lists) true e are is = (cc)
none_so T (Some s) (list ∷ lists) false e are is = refl

pub returns : goal.returns
returns g c = none_so _ c.self.inside.all c.args.self.now c.is_none.result c.self.view_is c.self.invariant c.is_none.ensures
