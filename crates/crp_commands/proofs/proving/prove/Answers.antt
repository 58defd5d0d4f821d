use Rattle.std.proofs.Common.{List, ℕ, Vec, Global, ap, rules}
use Rattle.std.specs.Prelude.{flat_map}
use Rattle.std.proofs.lemmas.Result.{err_from_is_err_and}
use Rattle.crp_plan.proofs.Interruptions.{has_failed}
use Rattle.crp_commands.proofs.Replayed.{proof_of}
use Rattle.crp_commands.proofs.proving.prove.Goals as goal

-- the shares of a text, one after the other
abbrev joined : List (Vec ℕ Global) → List ℕ
joined shares = flat_map (λ (share : Vec ℕ Global). share.items) shares

pub returns-in_err-write_shares : goal.returns-in_err-write_shares
returns-in_err-write_shares g c =
    let p = err_from_is_err_and c.from_residual-in_err-write_shares.result c.from_residual-in_err-write_shares.ensures.1 in
    let found = c.in_ok-head.ensures.found in
    let solved = c.in_ok-solved.solved in
    let proof = proof_of c.args.settings c.in_ok-head.head solved (joined c.in_ok-shares.shares.items) (joined c.deref.result.now) found.head_is.0
    c.in_ok-solved.ensures.solved c.in_ok-shares.ensures (ap joined c.deref.ensures.value) in
    rw (p.1, p.2) (
      (
        has_failed c.in_err-write_shares.ensures.gave_up,
        (
          found.text,
          joined c.deref.result.now,
          found.text_is,
          (c.status_of-status.result, (c.in_ok-head.head, found.head_is, (solved, proof, c.status_of-status.ensures))),
          c.in_err-write_shares.ensures.part,
        ),
      ),
      search rules,
    )

pub returns : goal.returns
returns g c =
    let found = c.in_ok-head.ensures.found in
    let solved = c.in_ok-solved.solved in
    let proof = proof_of c.args.settings c.in_ok-head.head solved (joined c.in_ok-shares.shares.items) (joined c.deref.result.now) found.head_is.0
    c.in_ok-solved.ensures.solved c.in_ok-shares.ensures (ap joined c.deref.ensures.value) in
    ((found.text, joined c.deref.result.now, found.text_is, (c.in_ok-head.head, found.head_is, (solved, proof, c.status_of-status.ensures)), c.in_ok-write_shares.ensures.all), search rules)
