-- The lines of bounds: where one is read, and where none is.
use Rattle.std.proofs.Common.{◌≡◌, ◌≢◌, ℕ, ◌≤◌, List, [], ◌∷◌, ◌++◌, Option, Some, None, refl, sym, ap, ◌∙◌, subst, append_assoc}
use Rattle.std.specs.Prelude.{codes, IfSome}
use Rattle.std.specs.Fmt.{decimal}
use Rattle.crp_plan.specs.BayNames.{YardBay, IsYardBay}
use Rattle.crp_said.specs.Spelled.{ended, most}
use Rattle.crp_said.proofs.Bytes.{IsPlain, line_once, no_end, plain_words}
use Rattle.crp_json.specs.declared.entry.BayBounds.{BayBounds}
use Rattle.crp_json.specs.declared.entry.Chains.{Chains}
use Rattle.crp_json.specs.Entries.{blocking_words, bound_lines, chains_line, chains_words, look_ahead_words, title_words, AreChains, IsBounds, IsNumberLine, IsTitleLine}
use Rattle.crp_json.specs.declared.entry.ChainRank.{ChainRank}
use Rattle.json.specs.Token.{Token}
use Rattle.crp_json.specs.Objects.{array, bay_tokens, bounds_object, chains_tokens, member, number_token, object, ranks_tokens}
use Rattle.crp_json.proofs.ChainLines.{chains_plain, one_chains}
use Rattle.crp_json.proofs.CheckLines.{number_plain, one_number, title_plain}

-- a line, and what is behind it
pub cut : (line rest : List ℕ) → ended line ++ rest ≡ line ++ 10 ∷ rest
cut line rest = append_assoc line (10 ∷ []) rest

-- lines are the same, and so is what is behind them
pub lines_same : (l k x y : List ℕ) → IsPlain l → IsPlain k → ended l ++ x ≡ ended k ++ y → (l ≡ k) × (x ≡ y)
lines_same l k x y p q e = line_once l k x y p q (sym (cut l x) ∙ e ∙ cut k y)

-- the first line of a text
pub first_same : (text line rest other more : List ℕ) → text ≡ line ++ 10 ∷ rest → IsPlain line → IsPlain other → text ≡ ended other ++ more → (line ≡ other) × (rest ≡ more)
first_same text line rest other more is one plain e = line_once line other rest more one plain (sym is ∙ e ∙ cut other more)

pub no_first : (text other more : List ℕ) → IsPlain text → text ≢ ended other ++ more
no_first text other more one e = no_end other more (subst IsPlain (e ∙ cut other more) one)

-- ---- the name of the bay

pub no_title_line : (text line rest : List ℕ) → text ≡ line ++ 10 ∷ rest → IsPlain line → ¬ IsTitleLine line → (bay : YardBay) (more : List ℕ) → IsYardBay bay → text ≢ ended (title_words bay) ++ more
no_title_line text line rest is one none bay more named e = none (bay, named, (first_same text line rest (title_words bay) more is one (title_plain bay named) e).0)

-- ---- a number

pub no_number_line : (text line rest words : List ℕ) → text ≡ line ++ 10 ∷ rest → IsPlain line → IsPlain words → ¬ IsNumberLine words line → (n : ℕ) (more : List ℕ) → n ≤ most
    → text ≢ ended (words ++ decimal n) ++ more
no_number_line text line rest words is one plain none n more low e =
    none (n, low, (first_same text line rest (words ++ decimal n) more is one (number_plain words n plain) e).0)

-- ---- chains

pub no_chain_text : (text : List ℕ) → text ≢ [] → IsPlain text → (chains : Option Chains) → IfSome chains AreChains → text ≢ chains_line chains
no_chain_text text some one None are e = some e
no_chain_text text some one (Some c) are e = no_end (chains_words c) [] (subst IsPlain e one)

pub more_behind : (text line rest : List ℕ) → text ≢ [] → text ≡ line ++ 10 ∷ rest → IsPlain line → rest ≢ [] → (chains : Option Chains) → IfSome chains AreChains → text ≢ chains_line chains
more_behind text line rest some is one more None are e = some e
more_behind text line rest some is one more (Some c) are e = more (line_once line (chains_words c) rest [] one (chains_plain c) (sym is ∙ e)).1

pub other_chains : (text line rest : List ℕ) → text ≢ [] → text ≡ line ++ 10 ∷ rest → IsPlain line → ((c : Chains) → AreChains c → line ≢ chains_words c)
    → (chains : Option Chains) → IfSome chains AreChains → text ≢ chains_line chains
other_chains text line rest some is one none None are e = some e
other_chains text line rest some is one none (Some c) are e = none c are (line_once line (chains_words c) rest [] one (chains_plain c) (sym is ∙ e)).0

-- ---- bounds

blocking_plain : (n : ℕ) → IsPlain (blocking_words n)
blocking_plain n = number_plain (codes "blocking ") n (plain_words (codes "blocking ") refl)

look_ahead_plain : (n : ℕ) → IsPlain (look_ahead_words n)
look_ahead_plain n = number_plain (codes "look-ahead ") n (plain_words (codes "look-ahead ") refl)

abbrev pub AreNone : List ℕ → Type 0
AreNone text = (b : BayBounds) → IsBounds b → text ≢ ended (title_words b.bay) ++ bound_lines b

-- what is behind a line that was read
behind_title : (text : List ℕ) (bay : YardBay) (rest : List ℕ) → IsYardBay bay → text ≡ ended (title_words bay) ++ rest → (b : BayBounds) → IsBounds b
    → text ≡ ended (title_words b.bay) ++ bound_lines b → rest ≡ bound_lines b
behind_title text bay rest named is b all e = (lines_same (title_words bay) (title_words b.bay) rest (bound_lines b) (title_plain bay named) (title_plain b.bay all.0) (sym is ∙ e)).1

pub no_blocking : (text : List ℕ) (bay : YardBay) (rest : List ℕ) → IsYardBay bay → text ≡ ended (title_words bay) ++ rest
    → ((n : ℕ) (more : List ℕ) → n ≤ most → rest ≢ ended (blocking_words n) ++ more) → AreNone text
no_blocking text bay rest named is none b all e =
    none b.blocking (ended (look_ahead_words b.look_ahead) ++ chains_line b.chains) all.1 (behind_title text bay rest named is b all e)

behind_blocking : (text : List ℕ) (bay : YardBay) (rest : List ℕ) (n : ℕ) (more : List ℕ) → IsYardBay bay → text ≡ ended (title_words bay) ++ rest → rest ≡ ended (blocking_words n) ++ more
    → (b : BayBounds) → IsBounds b → text ≡ ended (title_words b.bay) ++ bound_lines b → more ≡ ended (look_ahead_words b.look_ahead) ++ chains_line b.chains
behind_blocking text bay rest n more named is at b all e =
    (lines_same (blocking_words n) (blocking_words b.blocking) more (ended (look_ahead_words b.look_ahead) ++ chains_line b.chains) (blocking_plain n) (blocking_plain b.blocking)
    (sym at ∙ behind_title text bay rest named is b all e)).1

pub no_look_ahead : (text : List ℕ) (bay : YardBay) (rest : List ℕ) (n : ℕ) (more : List ℕ) → IsYardBay bay → text ≡ ended (title_words bay) ++ rest → rest ≡ ended (blocking_words n) ++ more
    → ((k : ℕ) (last : List ℕ) → k ≤ most → more ≢ ended (look_ahead_words k) ++ last) → AreNone text
no_look_ahead text bay rest n more named is at none b all e = none b.look_ahead (chains_line b.chains) all.2 (behind_blocking text bay rest n more named is at b all e)

pub no_chains_behind : (text : List ℕ) (bay : YardBay) (rest : List ℕ) (n : ℕ) (more : List ℕ) (k : ℕ) (last : List ℕ) → IsYardBay bay → text ≡ ended (title_words bay) ++ rest
    → rest ≡ ended (blocking_words n) ++ more → more ≡ ended (look_ahead_words k) ++ last → ((chains : Option Chains) → IfSome chains AreChains → last ≢ chains_line chains) → AreNone text
no_chains_behind text bay rest n more k last named is at next none b all e =
    none b.chains all.3 (lines_same (look_ahead_words k) (look_ahead_words b.look_ahead) last (chains_line b.chains) (look_ahead_plain k) (look_ahead_plain b.look_ahead)
    (sym next ∙ behind_blocking text bay rest n more named is at b all e)).1

pub bounds_found : (text : List ℕ) (bay : YardBay) (rest : List ℕ) (n : ℕ) (more : List ℕ) (k : ℕ) (last : List ℕ) (chains : Option Chains) → text ≡ ended (title_words bay) ++ rest
    → rest ≡ ended (blocking_words n) ++ more → more ≡ ended (look_ahead_words k) ++ last → last ≡ chains_line chains
    → text ≡ ended (title_words bay) ++ (ended (blocking_words n) ++ (ended (look_ahead_words k) ++ chains_line chains))
bounds_found text bay rest n more k last chains is at next end =
    is ∙ ap (λ l. ended (title_words bay) ++ l) (at ∙ ap (λ l. ended (blocking_words n) ++ l) (next ∙ ap (λ l. ended (look_ahead_words k) ++ l) end))

-- ---- bounds are the same, where their lines are, and what is behind them begins with no line of chains

abbrev pub BeginsWithNoChains : List ℕ → Type 0
BeginsWithNoChains text = (c : Chains) (rest : List ℕ) → text ≢ chains_words c ++ 10 ∷ rest

abbrev pub SameChains : Option Chains → Option Chains → Type 0
SameChains None None = Unit {0}
SameChains (Some c) (Some d) = (c.bound ≡ d.bound) × (c.ranks.items ≡ d.ranks.items)
SameChains c d = ⊥

pub chains_once : (c d : Option Chains) (x y : List ℕ) → IfSome c AreChains → IfSome d AreChains → BeginsWithNoChains x → BeginsWithNoChains y → chains_line c ++ x ≡ chains_line d ++ y
    → SameChains c d × (x ≡ y)
chains_once None None x y is also clear free e = (tt, e)
chains_once None (Some d) x y is also clear free e = absurd (clear d y (e ∙ cut (chains_words d) y))
chains_once (Some c) None x y is also clear free e = absurd (free c x (sym e ∙ cut (chains_words c) x))
chains_once (Some c) (Some d) x y is also clear free e =
    let same = lines_same (chains_words c) (chains_words d) x y (chains_plain c) (chains_plain d) e in
    (one_chains c d is also same.0, same.1)

regrouped : (b : BayBounds) (x : List ℕ) → bound_lines b ++ x ≡ ended (blocking_words b.blocking) ++ (ended (look_ahead_words b.look_ahead) ++ (chains_line b.chains ++ x))
regrouped b x =
    append_assoc (ended (blocking_words b.blocking)) (ended (look_ahead_words b.look_ahead) ++ chains_line b.chains) x
    ∙ ap (λ l. ended (blocking_words b.blocking) ++ l) (append_assoc (ended (look_ahead_words b.look_ahead)) (chains_line b.chains) x)

pub record SameBounds (b d : BayBounds) : Type 0 where
  pub blocking : b.blocking ≡ d.blocking
  pub look_ahead : b.look_ahead ≡ d.look_ahead
  pub chains : SameChains b.chains d.chains

pub bounds_once : (b d : BayBounds) (x y : List ℕ) → IsBounds b → IsBounds d → BeginsWithNoChains x → BeginsWithNoChains y → bound_lines b ++ x ≡ bound_lines d ++ y
    → SameBounds b d × (x ≡ y)
bounds_once b d x y is also clear free e =
    let first = lines_same (blocking_words b.blocking) (blocking_words d.blocking) (ended (look_ahead_words b.look_ahead) ++ (chains_line b.chains ++ x))
    (ended (look_ahead_words d.look_ahead) ++ (chains_line d.chains ++ y)) (blocking_plain b.blocking) (blocking_plain d.blocking) (sym (regrouped b x) ∙ e ∙ regrouped d y) in
    let next = lines_same (look_ahead_words b.look_ahead) (look_ahead_words d.look_ahead) (chains_line b.chains ++ x) (chains_line d.chains ++ y) (look_ahead_plain b.look_ahead)
    (look_ahead_plain d.look_ahead) first.1 in
    let last = chains_once b.chains d.chains x y is.3 also.3 clear free next.1 in (
      record {
        blocking = one_number (codes "blocking ") b.blocking d.blocking is.1 also.1 first.0;
        look_ahead = one_number (codes "look-ahead ") b.look_ahead d.look_ahead is.2 also.2 next.0;
        chains = last.0;
      },
      last.1,
    )

abbrev of_chains : ℕ → List ChainRank → List Token
of_chains n ranks = object (member (codes "bound") (number_token n) ++ member (codes "ranks") (array (ranks_tokens ranks)))

abbrev of_parts : YardBay → ℕ → ℕ → List Token → List Token
of_parts name n k ts = object (member (codes "bay") (bay_tokens name) ++ member (codes "blocking") (number_token n) ++ member (codes "look_ahead") (number_token k) ++ member (codes "chains") ts)

pub same_tokens : (c d : Option Chains) → SameChains c d → chains_tokens c ≡ chains_tokens d
same_tokens None None same = refl
same_tokens None (Some d) same = absurd same
same_tokens (Some c) None same = absurd same
same_tokens (Some c) (Some d) same = ap (λ (n : ℕ). of_chains n c.ranks.items) same.0 ∙ ap (λ (rs : List ChainRank). of_chains d.bound rs) same.1

pub bounds_same : (b d : BayBounds) → b.bay ≡ d.bay → SameBounds b d → bounds_object b ≡ bounds_object d
bounds_same b d bay same =
    ap (λ (n : YardBay). of_parts n b.blocking b.look_ahead (chains_tokens b.chains)) bay ∙ ap (λ (n : ℕ). of_parts d.bay n b.look_ahead (chains_tokens b.chains)) same.blocking
    ∙ ap (λ (n : ℕ). of_parts d.bay d.blocking n (chains_tokens b.chains)) same.look_ahead
    ∙ ap (λ (ts : List Token). of_parts d.bay d.blocking d.look_ahead ts) (same_tokens b.chains d.chains same.chains)
