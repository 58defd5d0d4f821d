-- The line of chains: what is read is what the line says, and the line is read again.
use Rattle.std.proofs.Common.{◌≡◌, ◌≢◌, ◌⊎◌, ℕ, ◌+◌, ◌<◌, ◌≤◌, arith, length, Bool, true, false, ⊎_elim, inl, inr, List, [], ◌∷◌, ◌++◌, Some, None, refl, sym, ap, ◌∙◌, subst, append_assoc, append-nil, length-append}
use Rattle.std.specs.Prelude.{codes, flat_map, if◌then◌else◌}
use Rattle.std.specs.Char.{is_ascii_digit}
use Rattle.std.specs.Fmt.{decimal}
use Rattle.std.specs.List.{AllByRecursion}
use Rattle.std.proofs.lemmas.Option.{some_pair_parts, none-some}
use Rattle.crp_cert.specs.Reading.{tag_at, number_at}
use Rattle.crp_cert.proofs.Numbers.{bind_some, tag_again, tag_takes}
use Rattle.crp_said.specs.Spelled.{most}
use Rattle.crp_said.proofs.Bytes.{IsPlain, plain_both, plain_number, plain_words}
use Rattle.crp_said.proofs.Digits.{number_found, number_reread, number_whole}
use Rattle.crp_said.proofs.SaidLines.{either_read}
use Rattle.crp_json.specs.declared.entry.ChainRank.{ChainRank}
use Rattle.crp_json.specs.declared.entry.Chains.{Chains}
use Rattle.crp_json.specs.Checks.{behind_at, rank_at}
use Rattle.crp_json.specs.Entries.{chains_words, rank_words, ranks_words, AreAllRanks, AreChains, AreMoreRanks, AreRanks, IsSmallRank}

-- no digit follows
abbrev pub Stops : List ℕ → Type 0
Stops bytes = (bytes ≡ []) ⊎ ((stop : ℕ) × (rest : List ℕ) × (bytes ≡ stop ∷ rest) × (is_ascii_digit stop ≡ false))

number_stops : (n : ℕ) (rest : List ℕ) → n ≤ most → Stops rest → number_at most (decimal n ++ rest) ≡ Some (n, rest)
number_stops n rest low (inl none) = rw none (ap (number_at most) (append-nil (decimal n)) ∙ number_whole n low)
number_stops n rest low (inr (stop, more, is, not)) = rw is (number_reread n stop more low not)

abbrev mark : Bool → List ℕ
mark begins = if begins then codes " | " else codes "."

mark_stops : (begins : Bool) (rest : List ℕ) → Stops (mark begins ++ rest)
mark_stops true rest = inr (32, codes "| " ++ rest, refl, refl)
mark_stops false rest = inr (46, rest, refl, refl)

more_stop : (ranks : List ChainRank) → Stops (flat_map rank_words ranks)
more_stop [] = inl refl
more_stop (r ∷ ranks) =
    subst Stops (sym (append_assoc (mark r.begins) (decimal r.rank) (flat_map rank_words ranks))) (mark_stops r.begins (decimal r.rank ++ flat_map rank_words ranks))

ranks_stop : (ranks : List ChainRank) → Stops (ranks_words ranks)
ranks_stop [] = inl refl
ranks_stop (r ∷ ranks) = inr (58, 32 ∷ (decimal r.rank ++ flat_map rank_words ranks), refl, refl)

-- ---- a rank behind a mark

pub behind_takes : (m : List ℕ) (begins : Bool) (bytes : List ℕ) (r : ChainRank) (rest : List ℕ) → behind_at m begins bytes ≡ Some (r, rest)
    → IsSmallRank r × (r.begins ≡ begins) × (bytes ≡ m ++ (decimal r.rank ++ rest))
unfolding behind_at
behind_takes m begins bytes r rest e =
    let a = bind_some (tag_at m bytes) _ (r, rest) e in
    let n = bind_some (number_at most a.0) _ (r, rest) a.2 in
    let x = number_found a.0 n.0.0 n.0.1 n.1 in
    let made : ChainRank = record { begins = begins; rank = n.0.0 } in
    let p = some_pair_parts made r n.0.1 rest n.2 in
    subst (λ (q : ChainRank). IsSmallRank q × (q.begins ≡ begins) × (bytes ≡ m ++ (decimal q.rank ++ rest))) p.0
    (x.1, refl, tag_takes m bytes a.0 a.1 ∙ ap (λ l. m ++ l) (x.0 ∙ ap (λ l. decimal n.0.0 ++ l) p.1))

pub behind_again : (m : List ℕ) (begins : Bool) (n : ℕ) (rest : List ℕ) → n ≤ most → Stops rest
    → behind_at m begins (m ++ (decimal n ++ rest)) ≡ Some (record { begins = begins; rank = n }, rest)
unfolding behind_at
behind_again m begins n rest low stops = rw (tag_again m (decimal n ++ rest), number_stops n rest low stops) refl

-- ---- a rank behind others

pub rank_takes : (bytes : List ℕ) (r : ChainRank) (rest : List ℕ) → rank_at bytes ≡ Some (r, rest) → IsSmallRank r × (bytes ≡ rank_words r ++ rest)
rank_takes bytes r rest e =
    ⊎_elim (λ same. let t = behind_takes (codes ".") false bytes r rest same in (t.0, t.2 ∙ joined false t.1))
    (λ next. let t = behind_takes (codes " | ") true bytes r rest next in (t.0, t.2 ∙ joined true t.1))
    (either_read (behind_at (codes ".") false bytes) (behind_at (codes " | ") true bytes) (r, rest) e)
  where
    joined : (begins : Bool) → r.begins ≡ begins → mark begins ++ (decimal r.rank ++ rest) ≡ rank_words r ++ rest
    joined begins is = ap (λ b. mark b ++ (decimal r.rank ++ rest)) (sym is) ∙ sym (append_assoc (mark r.begins) (decimal r.rank) rest)

-- a mark has some bytes
longer : (begins : Bool) (xs : List ℕ) → length xs < length (mark begins ++ xs)
longer true xs = let some : length xs < length (32 ∷ 124 ∷ 32 ∷ xs) = omega arith in some
longer false xs = let some : length xs < length (46 ∷ xs) = omega arith in some

pub rank_shorter : (bytes : List ℕ) (r : ChainRank) (rest : List ℕ) → rank_at bytes ≡ Some (r, rest) → length rest < length bytes
rank_shorter bytes r rest e =
    let is : bytes ≡ mark r.begins ++ (decimal r.rank ++ rest) = (rank_takes bytes r rest e).1 ∙ append_assoc (mark r.begins) (decimal r.rank) rest in
    let more : length (decimal r.rank ++ rest) ≡ length (decimal r.rank) + length rest = length-append (decimal r.rank) rest in
    let some = longer r.begins (decimal r.rank ++ rest) in
    subst (λ (l : List ℕ). length rest < length l) (sym is) (omega (arith, more, some))

again : (begins : Bool) (n : ℕ) (rest : List ℕ) → n ≤ most → Stops rest → rank_at (mark begins ++ (decimal n ++ rest)) ≡ Some (record { begins = begins; rank = n }, rest)
unfolding behind_at
again false n rest low stops = rw (number_stops n rest low stops) refl
again true n rest low stops = rw (number_stops n rest low stops) refl

pub rank_again : (r : ChainRank) (rest : List ℕ) → IsSmallRank r → Stops rest → rank_at (rank_words r ++ rest) ≡ Some (r, rest)
rank_again r rest low stops = ap rank_at (append_assoc (mark r.begins) (decimal r.rank) rest) ∙ again r.begins r.rank rest low stops

-- none is read, where there is something
pub no_rank : (bytes : List ℕ) → bytes ≢ [] → rank_at bytes ≡ None → ¬ AreMoreRanks bytes
no_rank bytes some none ([], small, e) = some e
no_rank bytes some none (r ∷ ranks, small, e) = none-some (r, flat_map rank_words ranks) (sym none ∙ ap rank_at e ∙ rank_again r (flat_map rank_words ranks) small.0 (more_stop ranks))

-- one is read, and what follows are no ranks
pub none_follow : (bytes : List ℕ) (r : ChainRank) (rest : List ℕ) → rank_at bytes ≡ Some (r, rest) → ¬ AreMoreRanks rest → ¬ AreMoreRanks bytes
unfolding behind_at
none_follow bytes r rest read none ([], small, e) = let at : rank_at [] ≡ Some (r, rest) = ap rank_at (sym e) ∙ read in cc
none_follow bytes r rest read none (x ∷ ranks, small, e) =
    let h = sym (rank_again x (flat_map rank_words ranks) small.0 (more_stop ranks)) ∙ ap rank_at (sym e) ∙ read in
    none (ranks, small.1, sym (some_pair_parts x r (flat_map rank_words ranks) rest h).1)

-- ---- ranks behind the bound

pub first_none : (bytes : List ℕ) → bytes ≢ [] → behind_at (codes ": ") true bytes ≡ None → ¬ AreAllRanks bytes
first_none bytes some none ([], are, e) = some e
first_none bytes some none (r ∷ ranks, are, e) =
    none-some (record { begins = true; rank = r.rank }, flat_map rank_words ranks)
    (sym none ∙ ap (behind_at (codes ": ") true) e ∙ behind_again (codes ": ") true r.rank (flat_map rank_words ranks) are.1 (more_stop ranks))

pub others_none : (bytes : List ℕ) (first : ChainRank) (rest : List ℕ) → bytes ≢ [] → behind_at (codes ": ") true bytes ≡ Some (first, rest) → ¬ AreMoreRanks rest → ¬ AreAllRanks bytes
others_none bytes first rest some read none ([], are, e) = some e
others_none bytes first rest some read none (r ∷ ranks, are, e) =
    let h = sym (behind_again (codes ": ") true r.rank (flat_map rank_words ranks) are.1 (more_stop ranks)) ∙ ap (behind_at (codes ": ") true) (sym e) ∙ read in
    none (ranks, are.2, sym (some_pair_parts (record { begins = true; rank = r.rank }) first (flat_map rank_words ranks) rest h).1)

pub ranks_found : (bytes : List ℕ) (first : ChainRank) (rest : List ℕ) (ranks : List ChainRank) → behind_at (codes ": ") true bytes ≡ Some (first, rest)
    → AllByRecursion IsSmallRank ranks → rest ≡ flat_map rank_words ranks → AreRanks (first ∷ ranks) × (bytes ≡ ranks_words (first ∷ ranks))
ranks_found bytes first rest ranks read small e =
    let t = behind_takes (codes ": ") true bytes first rest read in
    ((t.1, t.0, small), t.2 ∙ ap (λ l. codes ": " ++ (decimal first.rank ++ l)) e)

-- ---- chains

abbrev chains_are : ℕ → List ChainRank → List ℕ
chains_are bound ranks = codes "chains " ++ (decimal bound ++ ranks_words ranks)

bound_again : (bound : ℕ) (ranks : List ChainRank) → bound ≤ most
    → behind_at (codes "chains ") true (chains_are bound ranks) ≡ Some (record { begins = true; rank = bound }, ranks_words ranks)
bound_again bound ranks low = behind_again (codes "chains ") true bound (ranks_words ranks) low (ranks_stop ranks)

pub no_bound : (line : List ℕ) → behind_at (codes "chains ") true line ≡ None → (c : Chains) → AreChains c → line ≢ chains_words c
no_bound line none c are e = none-some (record { begins = true; rank = c.bound }, ranks_words c.ranks.items)
    (sym none ∙ ap (behind_at (codes "chains ") true) e ∙ bound_again c.bound c.ranks.items are.0)

pub no_chains : (line : List ℕ) (first : ChainRank) (rest : List ℕ) → behind_at (codes "chains ") true line ≡ Some (first, rest) → ¬ AreAllRanks rest
    → (c : Chains) → AreChains c → line ≢ chains_words c
no_chains line first rest read none c are e =
    let h = sym (bound_again c.bound c.ranks.items are.0) ∙ ap (behind_at (codes "chains ") true) (sym e) ∙ read in
    none (c.ranks.items, are.1, sym (some_pair_parts (record { begins = true; rank = c.bound }) first (ranks_words c.ranks.items) rest h).1)

pub chains_found : (line : List ℕ) (first : ChainRank) (rest : List ℕ) (ranks : List ChainRank) → behind_at (codes "chains ") true line ≡ Some (first, rest)
    → rest ≡ ranks_words ranks → (first.rank ≤ most) × (line ≡ chains_are first.rank ranks)
chains_found line first rest ranks read e =
    let t = behind_takes (codes "chains ") true line first rest read in (t.0, t.2 ∙ ap (λ l. codes "chains " ++ (decimal first.rank ++ l)) e)

-- ranks are the same, where their words are
one_more : (ranks others : List ChainRank) → AllByRecursion IsSmallRank ranks → AllByRecursion IsSmallRank others → flat_map rank_words ranks ≡ flat_map rank_words others → ranks ≡ others
unfolding behind_at
one_more [] [] a b e = refl
one_more [] (r ∷ others) a b e =
    let at : rank_at [] ≡ Some (r, flat_map rank_words others) = ap rank_at e ∙ rank_again r (flat_map rank_words others) b.0 (more_stop others) in cc
one_more (r ∷ ranks) [] a b e =
    let at : rank_at [] ≡ Some (r, flat_map rank_words ranks) = ap rank_at (sym e) ∙ rank_again r (flat_map rank_words ranks) a.0 (more_stop ranks) in cc
one_more (r ∷ ranks) (q ∷ others) a b e =
    let h = sym (rank_again r (flat_map rank_words ranks) a.0 (more_stop ranks)) ∙ ap rank_at e ∙ rank_again q (flat_map rank_words others) b.0 (more_stop others) in
    let p = some_pair_parts r q (flat_map rank_words ranks) (flat_map rank_words others) h in
    ap (λ (x : ChainRank). x ∷ ranks) p.0 ∙ ap (λ (xs : List ChainRank). q ∷ xs) (one_more ranks others a.1 b.1 p.1)

one_ranks : (ranks others : List ChainRank) → AreRanks ranks → AreRanks others → ranks_words ranks ≡ ranks_words others → ranks ≡ others
one_ranks [] [] a b e = refl
one_ranks [] (r ∷ others) a b e = cc
one_ranks (r ∷ ranks) [] a b e = cc
one_ranks (r ∷ ranks) (q ∷ others) a b e =
    let h = sym (behind_again (codes ": ") r.begins r.rank (flat_map rank_words ranks) a.1 (more_stop ranks)) ∙ ap (behind_at (codes ": ") r.begins) e
    ∙ behind_again (codes ": ") r.begins q.rank (flat_map rank_words others) b.1 (more_stop others) in
    let p = some_pair_parts r (record { begins = r.begins; rank = q.rank }) (flat_map rank_words ranks) (flat_map rank_words others) h in
    let first : r ≡ q = p.0 ∙ ap (λ b. record { begins = b; rank = q.rank }) (a.0 ∙ sym b.0) in
    ap (λ (x : ChainRank). x ∷ ranks) first ∙ ap (λ (xs : List ChainRank). q ∷ xs) (one_more ranks others a.2 b.2 p.1)

pub one_chains : (c d : Chains) → AreChains c → AreChains d → chains_words c ≡ chains_words d → (c.bound ≡ d.bound) × (c.ranks.items ≡ d.ranks.items)
one_chains c d is also e =
    let h = sym (bound_again c.bound c.ranks.items is.0) ∙ ap (behind_at (codes "chains ") true) e ∙ bound_again d.bound d.ranks.items also.0 in
    let made : ℕ → ChainRank = λ n. record { begins = true; rank = n } in
    let p = some_pair_parts (made c.bound) (made d.bound) (ranks_words c.ranks.items) (ranks_words d.ranks.items) h in
    (ap (λ (r : ChainRank). r.rank) p.0, one_ranks c.ranks.items d.ranks.items is.1 also.1 p.1)

-- ---- no byte is LF

rank_plain : (begins : Bool) (n : ℕ) → IsPlain (mark begins ++ decimal n)
rank_plain true n = plain_both (codes " | ") (decimal n) (plain_words (codes " | ") refl) (plain_number n)
rank_plain false n = plain_both (codes ".") (decimal n) (plain_words (codes ".") refl) (plain_number n)

more_plain : (ranks : List ChainRank) → IsPlain (flat_map rank_words ranks)
more_plain [] = tt
more_plain (r ∷ ranks) = plain_both (rank_words r) (flat_map rank_words ranks) (rank_plain r.begins r.rank) (more_plain ranks)

ranks_plain : (ranks : List ChainRank) → IsPlain (ranks_words ranks)
ranks_plain [] = tt
ranks_plain (r ∷ ranks) =
    plain_both (codes ": ") (decimal r.rank ++ flat_map rank_words ranks) (plain_words (codes ": ") refl)
    (plain_both (decimal r.rank) (flat_map rank_words ranks) (plain_number r.rank) (more_plain ranks))

pub chains_plain : (c : Chains) → IsPlain (chains_words c)
chains_plain c =
    plain_both (codes "chains ") (decimal c.bound ++ ranks_words c.ranks.items) (plain_words (codes "chains ") refl)
    (plain_both (decimal c.bound) (ranks_words c.ranks.items) (plain_number c.bound) (ranks_plain c.ranks.items))
