use Rattle.std.proofs.Common.{◌≡◌, ◌<◌, ◌∙◌, ◌++◌, ◌∷◌, [], ℕ, length, refl, ap, sym, subst, get_or}
use Rattle.crp_jobs.specs.Found.{IsPlainText, plain}
use Rattle.crp_jobs.specs.declared.plain.TheConstants.{MOST_FOUND}
use Rattle.crp_jobs.proofs.Shown.{plain-more, room-full, room-more, room-none}
use Rattle.crp_jobs.proofs.plain.push_plain.Goals as goal

pub loop-byte-init : goal.loop-byte-init
loop-byte-init c = (c.requires, λ fits. room-none MOST_FOUND c.args.line.now.items fits)

pub loop-byte-preserved : goal.loop-byte-preserved
loop-byte-preserved c =
    let line = c.loop-byte.line.items in
    let b = get_or c.args.text.now c.loop-byte.byte-index 0 in
    let more : c.try_push.new.self.items ≡ line ++ plain b ∷ [] = c.in-Ok.ensures.ok ∙ ap (λ (x : ℕ). line ++ x ∷ []) c.plain.ensures in
    let room : length line < MOST_FOUND = c.in-Ok.ensures.variant.0 refl in (
      subst IsPlainText (sym more) (plain-more line b c.loop-byte.invariant.0),
      λ fits. more ∙ room-more MOST_FOUND c.loop-byte.byte-index plain c.args.line.now.items line c.args.text.now (c.loop-byte.invariant.1 fits) room c.loop-byte-test.true,
    )

pub returns-in_default-clause-shown : goal.returns-in_default-clause-shown
returns-in_default-clause-shown c fits =
    let same : c.try_push.new.self.items ≡ c.loop-byte.line.items = ap (λ v. v.items) c.in_default.ensures.err in
    let full : length c.loop-byte.line.items ≡ MOST_FOUND = c.in_default.ensures.full in
    same ∙ room-full MOST_FOUND c.loop-byte.byte-index plain c.args.line.now.items c.loop-byte.line.items c.args.text.now (c.loop-byte.invariant.1 fits) full
