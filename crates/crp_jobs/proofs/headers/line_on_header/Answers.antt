use Rattle.std.proofs.Common.{◌≡◌, ◌∙◌, ◌++◌, List, ℕ, Option, take, map, ap, arith, append_assoc}
use Rattle.std.specs.Prelude.{codes, unwrap_or}
use Rattle.crp_jobs.specs.declared.plain.TheConstants.{MOST_FOUND}
use Rattle.crp_jobs.specs.Found.{plain}
use Rattle.crp_jobs.specs.Headers.{first_line, header_text, wrong_with}
use Rattle.crp_jobs.specs.Placed.{shown}
use Rattle.crp_jobs.proofs.Shown.{pushed_more}
use Rattle.crp_jobs.proofs.headers.line_on_header.Goals as goal

pub returns-in-None-clause-said : goal.returns-in-None-clause-said
returns-in-None-clause-said c =
    let front = c.args.front.now in
    let first : c.push_plain-in-None.new.line.items ≡ shown (codes "the file begins with ") =
    c.push_plain-in-None.ensures.shown (rw c.new-line.ensures (omega arith)) ∙ ap (λ (l : List ℕ). take MOST_FOUND (l ++ map plain (codes "the file begins with "))) c.new-line.ensures in
    let second = pushed_more (codes "the file begins with ") c.first_line-header.result.now _ _ first c.push_plain-in-None-2.ensures.shown in
    let third = pushed_more (codes "the file begins with " ++ c.first_line-header.result.now) c.as_bytes-in-None.result.now _ _ second c.push_plain-in-None-3.ensures.shown in
    let header = c.first_line-header.ensures in
    let tail : c.as_bytes-in-None.result.now ≡ wrong_with c.args.kind c.args.separator (first_line front) = c.as_bytes-in-None.ensures.value ∙ c.wrong_with.ensures ∙ ap (wrong_with c.args.kind c.args.separator) header in
    let none = c.words_on_list.ensures in
    third ∙ ap shown (append_assoc (codes "the file begins with ") c.first_line-header.result.now c.as_bytes-in-None.result.now)
    ∙ ap (λ (l : List ℕ). shown (codes "the file begins with " ++ (l ++ c.as_bytes-in-None.result.now))) header
    ∙ ap (λ (l : List ℕ). shown (codes "the file begins with " ++ (first_line front ++ l))) tail
    ∙ ap (λ (o : Option (List ℕ)). shown (unwrap_or o (header_text c.args.kind c.args.separator front))) c.in-None.ensures
