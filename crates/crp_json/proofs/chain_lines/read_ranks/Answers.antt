use Rattle.std.proofs.Common.{◌≡◌, ◌∷◌, ◌∙◌, List, ap, sym, subst}
use Rattle.crp_json.specs.declared.entry.ChainRank.{ChainRank}
use Rattle.crp_json.specs.Entries.{ranks_words, AreRanks}
use Rattle.crp_json.proofs.ChainLines.{first_none, others_none, ranks_found}
use Rattle.crp_json.proofs.NoEntry.{some_bytes}
use Rattle.crp_json.proofs.chain_lines.read_ranks.Goals as goal

pub returns-in_default-clause-none : goal.returns-in_default-clause-none
returns-in_default-clause-none c = first_none c.args.bytes.now (some_bytes c.args.bytes.now (sym c.if-is_empty.ensures)) c.in_default.ensures

pub returns-in_default-2-clause-none : goal.returns-in_default-2-clause-none
returns-in_default-2-clause-none c =
    others_none c.args.bytes.now c.in-Some.first c.in-Some.rest.now (some_bytes c.args.bytes.now (sym c.if-is_empty.ensures)) c.in-Some.ensures
    (rw c.in_default-2.is at c.in_ok-more.ensures.none)

pub returns-clause-found : goal.returns-clause-found
returns-clause-found c =
    let more = rw c.in-Some-2.is at c.in_ok-more.ensures.found in
    subst (λ (rs : List ChainRank). AreRanks rs × (c.args.bytes.now ≡ ranks_words rs)) (sym (c.in_ok-ranks.ensures ∙ ap (λ (rs : List ChainRank). c.in-Some.first ∷ rs) c.deref.ensures.value))
    (ranks_found c.args.bytes.now c.in-Some.first c.in-Some.rest.now c.in-Some-2.more.items c.in-Some.ensures more.0 more.1)
