use Rattle.std.proofs.Common.{◌≡◌, map, rules}
use Rattle.crp_callers.proofs.Worded.{linked_words, linked_ends}
use Rattle.crp_callers.proofs.words.status_of_linked.Goals as goal

pub returns-clause-refused : goal.returns-clause-refused
returns-clause-refused g c =
    let words : map (λ w. w.now) c.as_slice.result.now ≡ linked_words = search rules in
    (linked_ends _ _ _ c.run_words.result words c.requires c.run_words.ensures).0

pub returns-clause-unemptied : goal.returns-clause-unemptied
returns-clause-unemptied g c =
    let words : map (λ w. w.now) c.as_slice.result.now ≡ linked_words = search rules in
    (linked_ends _ _ _ c.run_words.result words c.requires c.run_words.ensures).1
