use Rattle.std.proofs.Common.{◌≤◌, ◌≢◌, ℕ, List, [], ◌++◌, length, ◌+◌, ⊎_elim, sym, ap, subst, arith, length-append}
use Rattle.std.proofs.lemmas.List.{append-nil}
use Rattle.std.proofs.lemmas.Result.{err_from_is_err_and}
use Rattle.crp_checker.specs.FedFiles.{LeadsOn}
use Rattle.crp_checker.specs.Files.{IsFileRefusal}
use Rattle.crp_checker.proofs.FileFed.{front_on, memory_next}
use Rattle.crp_checker.proofs.file.check_some.Goals as goal

-- bytes with some at the end are some
some_more : (text rest : List ℕ) → 1 ≤ length rest → text ++ rest ≢ []
some_more text rest some e = omega (arith, ap length e, length-append text rest)

pub returns-in_err-feed-clause-refused : goal.returns-in_err-feed-clause-refused
returns-in_err-feed-clause-refused c =
    let p = err_from_is_err_and c.from_residual.result c.from_residual.ensures.1 in
    let rest : List ℕ = c.args.rest.now in
    let verdicts = c.args.verdicts.now.items in
    rw (p.1, p.2) (λ file read.
    ⊎_elim
    (λ memory. subst (IsFileRefusal (file ++ rest) verdicts (length verdicts + 1)) (sym memory) (memory_next (file ++ rest) verdicts (read.text ++ rest) (front_on file verdicts read.text rest read.front) (some_more read.text rest c.requires.some)))
    (λ why. subst (λ l. IsFileRefusal (file ++ l) verdicts (length verdicts + 1) c.in_err-feed.field-0.0) (append-nil rest) (why file verdicts [] read))
    c.in_err-feed.ensures.refused)

pub returns-in-Err-clause-refused : goal.returns-in-Err-clause-refused
returns-in-Err-clause-refused c file read =
    let rest : List ℕ = c.args.rest.now in
    rw c.in-Err.ensures.items (memory_next (file ++ rest) c.args.verdicts.now.items (read.text ++ rest) (front_on file c.args.verdicts.now.items read.text rest read.front) (some_more read.text rest c.requires.some))

pub returns-in-Ok-clause-some : goal.returns-in-Ok-clause-some
returns-in-Ok-clause-some c =
    let reading = c.requires.reading in
    (subst (LeadsOn reading.0 c.args.rest.now c.args.verdicts.now.items c.feed.new.self) c.in-Ended.is (c.in_ok-feed.ensures.on reading.0 c.args.verdicts.now.items reading.1)).0

pub returns-in-Ok-clause-within : goal.returns-in-Ok-clause-within
returns-in-Ok-clause-within c =
    let reading = c.requires.reading in
    (subst (LeadsOn reading.0 c.args.rest.now c.args.verdicts.now.items c.feed.new.self) c.in-Ended.is (c.in_ok-feed.ensures.on reading.0 c.args.verdicts.now.items reading.1)).1
