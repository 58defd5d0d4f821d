use Rattle.std.proofs.Common.{◌≡◌, ◌++◌, List, ℕ, subst}
use Rattle.std.specs.Prelude.{codes, OnOk}
use Rattle.crp_page.specs.Sheets.{said}
use Rattle.crp_page.proofs.Chains.{then_added}
use Rattle.crp_page.proofs.sheets.push_heading.Goals as goal

pub returns : goal.returns
returns c =
    let heading = c.args.heading.now in
    let t0 = c.args.text.now.items in
    let t1 = c.push_said.new.text.items in
    let t2 = c.push_said-2.new.text.items in
    let t3 = c.push_said-3.new.text.items in
    let ship = subst (λ (b : List ℕ). t1 ≡ t0 ++ said (codes "Ship ") b) c.ship.ensures c.in_ok-push_said.ensures in
    let voyage = subst (λ (b : List ℕ). t2 ≡ t1 ++ said (codes "Voyage ") b) c.voyage.ensures c.in_ok-push_said-2.ensures in
    let date = subst (λ (b : List ℕ). OnOk c.push_said-3.result (t3 ≡ t2 ++ said (codes "Message of ") b)) c.date.ensures c.push_said-3.ensures in
    then_added c.push_said-3.result t0 t1 t3 (said (codes "Ship ") heading.ship) (said (codes "Voyage ") heading.voyage ++ said (codes "Message of ") heading.date) ship
    (then_added c.push_said-3.result t1 t2 t3 (said (codes "Voyage ") heading.voyage) (said (codes "Message of ") heading.date) voyage date)
