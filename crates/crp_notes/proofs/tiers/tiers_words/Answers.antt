use Rattle.std.proofs.Common.{◌≡◌, ◌∙◌, ◌∷◌, ◌++◌, true, false, get_or, sym, ap, arith, append_assoc}
use Rattle.std.specs.Prelude.{codes, decimal, flat_map}
use Rattle.crp_notes.proofs.SizeWords.{others, tiers_split}
use Rattle.crp_notes.proofs.tiers.tiers_words.Goals as goal

pub returns-then-are_all : goal.returns-then-are_all
returns-then-are_all c =
    let heights = c.args.heights.now in
    let first : c.push_number.new.text.items ≡ decimal (get_or heights 0 0) = c.in_ok-push_number.ensures ∙ ap (λ l. l ++ decimal (get_or heights 0 0)) c.new-text.ensures.items in
    c.in_ok-extend_from_slice.ensures.items ∙ ap (λ l. l ++ c.each_words.result.now) first ∙ ap (λ l. decimal (get_or heights 0 0) ++ l) c.each_words.ensures
    ∙ tiers_split heights true (omega (arith, c.in-len1-up.len_at_least)) (sym c.are_all.ensures ∙ c.if-are_all.true)

pub returns : goal.returns
returns c =
    let heights = c.args.heights.now in
    let tail = flat_map (λ other. 46 ∷ decimal other) (others heights) in
    let first : c.push_number.new.text.items ≡ decimal (get_or heights 0 0) = c.in_ok-push_number.ensures ∙ ap (λ l. l ++ decimal (get_or heights 0 0)) c.new-text.ensures.items in
    c.in_ok-extend_from_slice-2.ensures.items ∙ ap (λ l. l ++ codes " tiers") (c.in_ok-push_heights.ensures ∙ ap (λ l. l ++ tail) first)
    ∙ append_assoc (decimal (get_or heights 0 0)) tail (codes " tiers")
    ∙ tiers_split heights false (omega (arith, c.in-len1-up.len_at_least)) (sym c.are_all.ensures ∙ c.if-are_all.false)
