use Rattle.std.proofs.Common.{◌++◌, ◌∷◌, [], Some, refl, sym, ap, subst}
use Rattle.crp_checker.specs.declared.line.SymbolLine.{SymbolLine}
use Rattle.crp_checker.specs.Kept.{need_by}
use Rattle.crp_checker.specs.Walks.{walked_at}
use Rattle.crp_checker.specs.Lines.{LineIs}
use Rattle.crp_checker.proofs.Lines.{reasons_begin}
use Rattle.crp_checker.proofs.line.SymbolLine.read_behind.Goals.{in_default-via-in-91+in_default, in_default-via-in_default}
use Rattle.crp_checker.proofs.line.SymbolLine.read_behind.Goals as goal

pub returns-in-91-Three : goal.returns-in-91-Three
returns-in-91-Three c top before is =
    let line : SymbolLine = c.args.self.now in
    let next = c.place_of_next-place in
    let new : SymbolLine = record line { owing = next.new.self; reasons = Some c.begin.result } in
    let need = need_by c.args.need.now in
    let version = c.args.need.now.version in
    subst (λ b. LineIs need version top (before ++ b ∷ []) new) (sym c.in-91-Three.is-0)
    (reasons_begin need version top before line new c.begin.result next.result.place c.in-91-Three.is-1 c.requires.known c.requires.closed is c.requires.known refl refl
    (ap (λ o. walked_at o line.found.count line.found) next.ensures.same) c.begin.ensures next.ensures.place)

pub returns-in_default : goal.returns-in_default
returns-in_default c top before is =
    c.read_letter.ensures (need_by c.args.need.now) c.args.need.now.version top before (λ three bracket. elim c.in_default.branch [ in_default-via-in-91+in_default w ↦ w.in_default.not-Three-1 three | in_default-via-in_default w ↦ w.in_default.is-0.1 bracket ]) is
