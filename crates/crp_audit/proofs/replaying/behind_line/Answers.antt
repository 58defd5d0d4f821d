use Rattle.std.proofs.Common.{◌≡◌, ◌∙◌, sym, ap, ◌++◌, ℕ, List, length, map, drop, true, false}
use Rattle.std.proofs.lemmas.Bool.Decides.{Decides-eqb}
use Rattle.std.proofs.lemmas.List.{take_rest}
use Rattle.std.proofs.lemmas.Slice.Eq.{starts_is}
use Rattle.crp_said.specs.MoveLines.{move_line}
use Rattle.crp_audit.proofs.replaying.behind_line.Goals as goal

pub returns-then-not-starts_with-clause-none : goal.returns-then-not-starts_with-clause-none
returns-then-not-starts_with-clause-none c more e =
    let written : List ℕ = move_line (map (λ name. name.items) c.args.names.now) c.args.walk.now c.args.step in
    let line : c.deref.result.now ≡ written = c.deref.ensures.value ∙ c.in_ok-push_line.ensures ∙ ap (λ l. l ++ written) c.new-line.ensures.items in
    let test = starts_is Decides-eqb c.args.bytes.now c.deref.result.now c.starts_with.result c.starts_with.ensures.value in
    let t : c.starts_with.result ≡ true = test.1 more (e ∙ ap (λ l. l ++ more) (sym line)) in
    let f : c.starts_with.result ≡ false = c.if-not-starts_with.true in cc

pub returns-clause-found : goal.returns-clause-found
returns-clause-found c =
    let written : List ℕ = move_line (map (λ name. name.items) c.args.names.now) c.args.walk.now c.args.step in
    let items : c.push_line.new.text.items ≡ written = c.in_ok-push_line.ensures ∙ ap (λ l. l ++ written) c.new-line.ensures.items in
    let line : c.deref.result.now ≡ written = c.deref.ensures.value ∙ items in
    let test = starts_is Decides-eqb c.args.bytes.now c.deref.result.now c.starts_with.result c.starts_with.ensures.value in
    let front : c.args.bytes.now ≡ c.deref.result.now ++ drop (length c.deref.result.now) c.args.bytes.now = test.0 c.if-not-starts_with.false in
    let long : length c.deref.result.now ≡ c.len.result = c.deref.ensures.len ∙ sym c.len.ensures in
    front ∙ ap (λ l. l ++ drop (length c.deref.result.now) c.args.bytes.now) line ∙ ap (λ n. written ++ drop n c.args.bytes.now) long
    ∙ ap (λ l. written ++ l) (sym (take_rest c.args.bytes.now c.len.result))
