-- A translated text has the records of the text.
use Rattle.std.specs.Prelude.{length, option_map, ◌⊎◌, ⊤}
use Rattle.std.proofs.Common.{◌≡◌, ◌<◌, ◌≤◌, ◌==◌, ◌+◌, arith, cond, ◌++◌, ◌∷◌, ◌∙◌, [], ℕ, List, Bool, Some, None, Option, refl, sym, ap, subst, true, false, inl, inr, suc, zero}
use Rattle.std.proofs.lemmas.Bool.{cases_Bool, eqb-true, ne_eqb, eq-eqb}
use Rattle.csv.specs.Machine.{next_record, step, in_field, start_field, start_record, after_end, ends_with, ends_at_end, is_end, fields_after, field_after, Read}
use Rattle.csv.specs.declared.parser.Config.{Config}
use Rattle.csv.specs.declared.parser.Action.{Action}
use Rattle.csv.specs.declared.parser.Action.TheVariants as act
use Rattle.csv.specs.declared.parser.Terminator.TheVariants as term
use Rattle.csv.specs.Reading.{records, records_from, records_next, strip_bom}
use Rattle.csv.specs.declared.parser.State.{State}
use Rattle.csv.specs.declared.parser.State.TheVariants as st
use Rattle.crp_separated.specs.declared.places.Place.{Place}
use Rattle.crp_separated.specs.declared.places.Place.TheVariants.{FieldStart, Field, Quoted, QuoteEnd}
use Rattle.crp_separated.specs.Separators.{IsSeparator, list_with, parted_by, translated}

-- the place of a state of csv's machine, which has neither escapes nor comments here
abbrev pub place_of : State → Place
place_of st.StartRecord = FieldStart
place_of st.AfterCr = FieldStart
place_of st.StartField = FieldStart
place_of st.InField = Field
place_of st.InQuoted = Quoted
place_of st.AfterQuote = QuoteEnd
place_of st.InEscape = Quoted
place_of st.InComment = Quoted

-- where csv's machine stands behind the translated text
abbrev pub state_of : State → State
state_of st.StartRecord = st.StartRecord
state_of st.AfterCr = st.AfterCr
state_of st.StartField = st.StartField
state_of st.InField = st.InQuoted
state_of st.InQuoted = st.InQuoted
state_of st.AfterQuote = st.InQuoted
state_of st.InEscape = st.InEscape
state_of st.InComment = st.InComment

abbrev pub HasPlace : State → Type 0
HasPlace st.InEscape = ⊥
HasPlace st.InComment = ⊥
HasPlace s = ⊤

abbrev pub read_with : ℕ → ℕ → Read → Read
read_with from to read = (read.0, state_of read.1, translated from to (place_of read.1) read.2)

-- one record from a state, and the same from the translated text
abbrev pub Same : ℕ → ℕ → State → List (List ℕ) → List ℕ → List ℕ → Type 0
Same from to s fields field text = next_record (parted_by to) (state_of s) fields field (translated from to (place_of s) text)
    ≡ option_map (read_with from to) (next_record (parted_by from) s fields field text)

-- a byte that ends no record, and one that ends it
goes : (cfg : Config) (s s2 : State) (a : Action) (fields : List (List ℕ)) (field : List ℕ) (c : ℕ) (rest : List ℕ) → step cfg s c ≡ (s2, a) → is_end a ≡ false
    → next_record cfg s fields field (c ∷ rest) ≡ next_record cfg s2 (fields_after a fields field) (field_after a c field) rest
unfolding next_record
goes cfg s s2 a fields field c rest e n = rw (e, n) refl

stops : (cfg : Config) (s s2 : State) (fields : List (List ℕ)) (field : List ℕ) (c : ℕ) (rest : List ℕ) → step cfg s c ≡ (s2, act.EndRecord)
    → next_record cfg s fields field (c ∷ rest) ≡ Some (fields ++ (field ∷ []), s2, rest)
unfolding next_record
stops cfg s s2 fields field c rest e = rw e refl

-- a byte for a byte
one : (from to : ℕ) (s s2 : State) (a : Action) (fields : List (List ℕ)) (field : List ℕ) (c d : ℕ) (text : List ℕ)
    → translated from to (place_of s) (c ∷ text) ≡ d ∷ translated from to (place_of s2) text
    → step (parted_by to) (state_of s) d ≡ (state_of s2, a) → step (parted_by from) s c ≡ (s2, a) → is_end a ≡ false → field_after a d field ≡ field_after a c field
    → Same from to s2 (fields_after a fields field) (field_after a c field) text → Same from to s fields field (c ∷ text)
one from to s s2 a fields field c d text e out into n k more = rw e (goes (parted_by to) (state_of s) (state_of s2) a fields field d _ out n
    ∙ ap (λ (p : List ℕ). next_record (parted_by to) (state_of s2) (fields_after a fields field) p (translated from to (place_of s2) text)) k
    ∙ more ∙ sym (ap (option_map (read_with from to)) (goes (parted_by from) s s2 a fields field c text into n)))

-- two bytes for a byte, of which the first is a quote
two : (from to : ℕ) (s s2 m : State) (a : Action) (fields : List (List ℕ)) (field : List ℕ) (c d : ℕ) (text : List ℕ)
    → translated from to (place_of s) (c ∷ text) ≡ 34 ∷ d ∷ translated from to (place_of s2) text
    → step (parted_by to) (state_of s) 34 ≡ (m, act.Skip) → step (parted_by to) m d ≡ (state_of s2, a) → step (parted_by from) s c ≡ (s2, a)
    → is_end a ≡ false → field_after a d field ≡ field_after a c field
    → Same from to s2 (fields_after a fields field) (field_after a c field) text → Same from to s fields field (c ∷ text)
two from to s s2 m a fields field c d text e first out into n k more = rw e (goes (parted_by to) (state_of s) m act.Skip fields field 34 _ first refl
    ∙ goes (parted_by to) m (state_of s2) a fields field d _ out n
    ∙ ap (λ (p : List ℕ). next_record (parted_by to) (state_of s2) (fields_after a fields field) p (translated from to (place_of s2) text)) k
    ∙ more ∙ sym (ap (option_map (read_with from to)) (goes (parted_by from) s s2 a fields field c text into n)))

-- a line end that ends the record: alone, and behind a quote
ends_plain : (from to : ℕ) (s s2 : State) (fields : List (List ℕ)) (field : List ℕ) (c : ℕ) (text : List ℕ)
    → translated from to (place_of s) (c ∷ text) ≡ c ∷ translated from to (place_of s2) text
    → step (parted_by to) (state_of s) c ≡ (state_of s2, act.EndRecord) → step (parted_by from) s c ≡ (s2, act.EndRecord) → Same from to s fields field (c ∷ text)
ends_plain from to s s2 fields field c text e out into = rw e (stops (parted_by to) (state_of s) (state_of s2) fields field c _ out
    ∙ sym (ap (option_map (read_with from to)) (stops (parted_by from) s s2 fields field c text into)))

ends_quoted : (from to : ℕ) (s s2 m : State) (fields : List (List ℕ)) (field : List ℕ) (c : ℕ) (text : List ℕ)
    → translated from to (place_of s) (c ∷ text) ≡ 34 ∷ c ∷ translated from to (place_of s2) text
    → step (parted_by to) (state_of s) 34 ≡ (m, act.Skip) → step (parted_by to) m c ≡ (state_of s2, act.EndRecord) → step (parted_by from) s c ≡ (s2, act.EndRecord)
    → Same from to s fields field (c ∷ text)
ends_quoted from to s s2 m fields field c text e first out into = rw e (goes (parted_by to) (state_of s) m act.Skip fields field 34 _ first refl
    ∙ stops (parted_by to) m (state_of s2) fields field c _ out
    ∙ sym (ap (option_map (read_with from to)) (stops (parted_by from) s s2 fields field c text into)))

-- what a byte is to a list with this separator
pub record IsOther (x c : ℕ) : Type 0 where
  pub separator : (c == x) ≡ false
  pub quote : (c == 34) ≡ false
  pub return : (c == 13) ≡ false
  pub feed : (c == 10) ≡ false

abbrev pub Kind : ℕ → ℕ → Type 0
Kind x c = (c ≡ x) ⊎ ((c ≡ 34) ⊎ ((c ≡ 13) ⊎ ((c ≡ 10) ⊎ IsOther x c)))

kind_of : (x c : ℕ) → Kind x c
kind_of x c = elim (cases_Bool (c == x)) [
  | inl e ↦ inl (eqb-true c x e)
  | inr s ↦ elim (cases_Bool (c == 34)) [
    | inl e ↦ inr (inl (eqb-true c 34 e))
    | inr q ↦ elim (cases_Bool (c == 13)) [
      | inl e ↦ inr (inr (inl (eqb-true c 13 e)))
      | inr r ↦ elim (cases_Bool (c == 10)) [
        | inl e ↦ inr (inr (inr (inl (eqb-true c 10 e))))
        | inr n ↦ inr (inr (inr (inr (record { separator = s; quote = q; return = r; feed = n }))))
      ]
    ]
  ]
]

-- the tests of a separator
pub record Tests (x : ℕ) : Type 0 where
  pub is : (x == x) ≡ true
  pub quote : (x == 34) ≡ false
  pub return : (x == 13) ≡ false
  pub feed : (x == 10) ≡ false
  pub quote_is : (34 == x) ≡ false
  pub return_is : (13 == x) ≡ false
  pub feed_is : (10 == x) ≡ false

tests : (x : ℕ) → IsSeparator x → Tests x
tests x s = record {
  is = eq-eqb x x refl;
  quote = ne_eqb x 34 s.no_quote;
  return = ne_eqb x 13 s.no_return;
  feed = ne_eqb x 10 s.no_feed;
  quote_is = ne_eqb 34 x (λ e. s.no_quote (sym e));
  return_is = ne_eqb 13 x (λ e. s.no_return (sym e));
  feed_is = ne_eqb 10 x (λ e. s.no_feed (sym e));
}

-- what is so of the bytes behind
abbrev More : ℕ → ℕ → List ℕ → Type 0
More from to text = (s : State) → HasPlace s → (fields : List (List ℕ)) (field : List ℕ) → Same from to s fields field text

at_start : (from to : ℕ) → Tests from → Tests to → (fields : List (List ℕ)) (field : List ℕ) (c : ℕ) (text : List ℕ) → More from to text → Kind from c
    → Same from to st.StartRecord fields field (c ∷ text)
at_start from to f t fields field c text more (inl e) = rw e (one from to st.StartRecord st.StartField act.EndField fields field from to text
    (rw (f.is, f.quote) refl) (rw (t.return, t.feed, t.quote, t.is) refl) (rw (f.return, f.feed, f.quote, f.is) refl) refl refl (more st.StartField tt _ _))
at_start from to f t fields field c text more (inr (inl e)) = rw e (one from to st.StartRecord st.InQuoted act.Skip fields field 34 34 text
    (rw f.quote_is refl) refl refl refl refl (more st.InQuoted tt _ _))
at_start from to f t fields field c text more (inr (inr (inl e))) = rw e (one from to st.StartRecord st.StartRecord act.Skip fields field 13 13 text
    (rw f.return_is refl) refl refl refl refl (more st.StartRecord tt _ _))
at_start from to f t fields field c text more (inr (inr (inr (inl e)))) = rw e (one from to st.StartRecord st.StartRecord act.Skip fields field 10 10 text
    (rw f.feed_is refl) refl refl refl refl (more st.StartRecord tt _ _))
at_start from to f t fields field c text more (inr (inr (inr (inr o)))) = two from to st.StartRecord st.InField st.InQuoted act.Copy fields field c c text
    (rw (o.separator, o.return, o.feed, o.quote) refl) refl (rw o.quote refl) (rw (o.return, o.feed, o.quote, o.separator) refl) refl refl (more st.InField tt _ _)

behind_return : (from to : ℕ) → Tests from → Tests to → (fields : List (List ℕ)) (field : List ℕ) (c : ℕ) (text : List ℕ) → More from to text → Kind from c
    → Same from to st.AfterCr fields field (c ∷ text)
behind_return from to f t fields field c text more (inl e) = rw e (one from to st.AfterCr st.StartField act.EndField fields field from to text
    (rw (f.is, f.quote) refl) (rw (t.return, t.feed, t.quote, t.is) refl) (rw (f.return, f.feed, f.quote, f.is) refl) refl refl (more st.StartField tt _ _))
behind_return from to f t fields field c text more (inr (inl e)) = rw e (one from to st.AfterCr st.InQuoted act.Skip fields field 34 34 text
    (rw f.quote_is refl) refl refl refl refl (more st.InQuoted tt _ _))
behind_return from to f t fields field c text more (inr (inr (inl e))) = rw e (one from to st.AfterCr st.StartRecord act.Skip fields field 13 13 text
    (rw f.return_is refl) refl refl refl refl (more st.StartRecord tt _ _))
behind_return from to f t fields field c text more (inr (inr (inr (inl e)))) = rw e (one from to st.AfterCr st.StartRecord act.Skip fields field 10 10 text
    (rw f.feed_is refl) refl refl refl refl (more st.StartRecord tt _ _))
behind_return from to f t fields field c text more (inr (inr (inr (inr o)))) = two from to st.AfterCr st.InField st.InQuoted act.Copy fields field c c text
    (rw (o.separator, o.return, o.feed, o.quote) refl) refl (rw o.quote refl) (rw (o.return, o.feed, o.quote, o.separator) refl) refl refl (more st.InField tt _ _)

at_field : (from to : ℕ) → Tests from → Tests to → (fields : List (List ℕ)) (field : List ℕ) (c : ℕ) (text : List ℕ) → More from to text → Kind from c
    → Same from to st.StartField fields field (c ∷ text)
at_field from to f t fields field c text more (inl e) = rw e (one from to st.StartField st.StartField act.EndField fields field from to text
    (rw (f.is, f.quote) refl) (rw (t.quote, t.is) refl) (rw (f.quote, f.is) refl) refl refl (more st.StartField tt _ _))
at_field from to f t fields field c text more (inr (inl e)) = rw e (one from to st.StartField st.InQuoted act.Skip fields field 34 34 text
    (rw f.quote_is refl) refl refl refl refl (more st.InQuoted tt _ _))
at_field from to f t fields field c text more (inr (inr (inl e))) = rw e (ends_plain from to st.StartField st.AfterCr fields field 13 text
    (rw f.return_is refl) (rw t.return_is refl) (rw f.return_is refl))
at_field from to f t fields field c text more (inr (inr (inr (inl e)))) = rw e (ends_plain from to st.StartField st.StartRecord fields field 10 text
    (rw f.feed_is refl) (rw t.feed_is refl) (rw f.feed_is refl))
at_field from to f t fields field c text more (inr (inr (inr (inr o)))) = two from to st.StartField st.InField st.InQuoted act.Copy fields field c c text
    (rw (o.separator, o.return, o.feed, o.quote) refl) refl (rw o.quote refl) (rw (o.quote, o.separator, o.return, o.feed) refl) refl refl (more st.InField tt _ _)

in_plain : (from to : ℕ) → Tests from → Tests to → (fields : List (List ℕ)) (field : List ℕ) (c : ℕ) (text : List ℕ) → More from to text → Kind from c
    → Same from to st.InField fields field (c ∷ text)
in_plain from to f t fields field c text more (inl e) = rw e (two from to st.InField st.StartField st.AfterQuote act.EndField fields field from to text
    (rw f.is refl) refl (rw (t.quote, t.is) refl) (rw f.is refl) refl refl (more st.StartField tt _ _))
in_plain from to f t fields field c text more (inr (inl e)) = rw e (two from to st.InField st.InField st.AfterQuote act.Copy fields field 34 34 text
    (rw f.quote_is refl) refl refl (rw f.quote_is refl) refl refl (more st.InField tt _ _))
in_plain from to f t fields field c text more (inr (inr (inl e))) = rw e (ends_quoted from to st.InField st.AfterCr st.AfterQuote fields field 13 text
    (rw f.return_is refl) refl (rw t.return_is refl) (rw f.return_is refl))
in_plain from to f t fields field c text more (inr (inr (inr (inl e)))) = rw e (ends_quoted from to st.InField st.StartRecord st.AfterQuote fields field 10 text
    (rw f.feed_is refl) refl (rw t.feed_is refl) (rw f.feed_is refl))
in_plain from to f t fields field c text more (inr (inr (inr (inr o)))) = one from to st.InField st.InField act.Copy fields field c c text
    (rw (o.separator, o.return, o.feed, o.quote) refl) (rw o.quote refl) (rw (o.separator, o.return, o.feed) refl) refl refl (more st.InField tt _ _)

behind_quote : (from to : ℕ) → Tests from → Tests to → (fields : List (List ℕ)) (field : List ℕ) (c : ℕ) (text : List ℕ) → More from to text → Kind from c
    → Same from to st.AfterQuote fields field (c ∷ text)
behind_quote from to f t fields field c text more (inl e) = rw e (two from to st.AfterQuote st.StartField st.AfterQuote act.EndField fields field from to text
    (rw (f.is, f.quote) refl) refl (rw (t.quote, t.is) refl) (rw (f.quote, f.is) refl) refl refl (more st.StartField tt _ _))
behind_quote from to f t fields field c text more (inr (inl e)) = rw e (two from to st.AfterQuote st.InQuoted st.AfterQuote act.Copy fields field 34 34 text
    (rw f.quote_is refl) refl refl refl refl refl (more st.InQuoted tt _ _))
behind_quote from to f t fields field c text more (inr (inr (inl e))) = rw e (ends_quoted from to st.AfterQuote st.AfterCr st.AfterQuote fields field 13 text
    (rw f.return_is refl) refl (rw t.return_is refl) (rw f.return_is refl))
behind_quote from to f t fields field c text more (inr (inr (inr (inl e)))) = rw e (ends_quoted from to st.AfterQuote st.StartRecord st.AfterQuote fields field 10 text
    (rw f.feed_is refl) refl (rw t.feed_is refl) (rw f.feed_is refl))
behind_quote from to f t fields field c text more (inr (inr (inr (inr o)))) = one from to st.AfterQuote st.InField act.Copy fields field c c text
    (rw (o.separator, o.return, o.feed, o.quote) refl) (rw o.quote refl) (rw (o.quote, o.separator, o.return, o.feed) refl) refl refl (more st.InField tt _ _)

-- a quote between quotes waits for the byte behind it
in_quotes : (from to : ℕ) (fields : List (List ℕ)) (field : List ℕ) (c : ℕ) (text : List ℕ) → More from to text → Same from to st.InQuoted fields field (c ∷ text)
in_quotes from to fields field c text more = elim (cases_Bool (c == 34)) [
  | inl q ↦
      let waits : translated from to Quoted (c ∷ text) ≡ translated from to QuoteEnd text = rw q refl in
      let into : step (parted_by from) st.InQuoted c ≡ (st.AfterQuote, act.Skip) = rw q refl in
      rw waits (more st.AfterQuote tt fields field
      ∙ sym (ap (option_map (read_with from to)) (goes (parted_by from) st.InQuoted st.AfterQuote act.Skip fields field c text into refl)))
  | inr o ↦ one from to st.InQuoted st.InQuoted act.Copy fields field c c text (rw o refl) (rw o refl) (rw o refl) refl refl (more st.InQuoted tt _ _)
]

step_same : (from to : ℕ) → Tests from → Tests to → (s : State) → HasPlace s → (fields : List (List ℕ)) (field : List ℕ) (c : ℕ) (text : List ℕ) → More from to text
    → Same from to s fields field (c ∷ text)
step_same from to f t st.StartRecord h fields field c text more = at_start from to f t fields field c text more (kind_of from c)
step_same from to f t st.AfterCr h fields field c text more = behind_return from to f t fields field c text more (kind_of from c)
step_same from to f t st.StartField h fields field c text more = at_field from to f t fields field c text more (kind_of from c)
step_same from to f t st.InField h fields field c text more = in_plain from to f t fields field c text more (kind_of from c)
step_same from to f t st.AfterQuote h fields field c text more = behind_quote from to f t fields field c text more (kind_of from c)
step_same from to f t st.InQuoted h fields field c text more = in_quotes from to fields field c text more
step_same from to f t st.InEscape h fields field c text more = absurd h
step_same from to f t st.InComment h fields field c text more = absurd h

none_same : (from to : ℕ) (s : State) → HasPlace s → (fields : List (List ℕ)) (field : List ℕ) → Same from to s fields field []
unfolding next_record
none_same from to st.StartRecord h fields field = refl
none_same from to st.AfterCr h fields field = refl
none_same from to st.StartField h fields field = refl
none_same from to st.InField h fields field = refl
none_same from to st.AfterQuote h fields field = refl
none_same from to st.InQuoted h fields field = refl
none_same from to st.InEscape h fields field = absurd h
none_same from to st.InComment h fields field = absurd h

-- one record, from a state
pub same_record : (from to : ℕ) → Tests from → Tests to → (s : State) → HasPlace s → (fields : List (List ℕ)) (field text : List ℕ) → Same from to s fields field text
same_record from to f t s h fields field [] = none_same from to s h fields field
same_record from to f t s h fields field (c ∷ text) = step_same from to f t s h fields field c text (λ s2 h2 fields2 field2. same_record from to f t s2 h2 fields2 field2 text)

-- ---- the states that csv's machine comes to

both : (b : Bool) (p q : State × Action) → HasPlace p.0 → HasPlace q.0 → HasPlace (cond b p q).0
both true p q h k = h
both false p q h k = k

end_placed : (c : ℕ) → HasPlace (after_end term.CRLF c)
end_placed c = elim (cases_Bool (c == 13)) [
  | inl e ↦ rw e tt
  | inr e ↦ rw e tt
]

in_placed : (x c : ℕ) → HasPlace (in_field (parted_by x) c).0
in_placed x c = both (c == x) _ _ tt (both (ends_with term.CRLF c) (after_end term.CRLF c, act.EndRecord) _ (end_placed c) tt)

field_placed : (x c : ℕ) → HasPlace (start_field (parted_by x) c).0
field_placed x c = both (c == 34) _ (in_field (parted_by x) c) tt (in_placed x c)

record_placed : (x c : ℕ) → HasPlace (start_record (parted_by x) c).0
record_placed x c = both (ends_with term.CRLF c) _ (start_field (parted_by x) c) tt (field_placed x c)

placed : (x : ℕ) (s : State) (c : ℕ) → HasPlace s → HasPlace (step (parted_by x) s c).0
placed x st.StartRecord c h = record_placed x c
placed x st.AfterCr c h = both (c == 10) _ (start_record (parted_by x) c) tt (record_placed x c)
placed x st.StartField c h = field_placed x c
placed x st.InField c h = in_placed x c
placed x st.InQuoted c h = both (c == 34) _ _ tt tt
placed x st.AfterQuote c h = both (c == 34) _ (in_field (parted_by x) c) tt (in_placed x c)
placed x st.InEscape c h = absurd h
placed x st.InComment c h = absurd h

chosen : {A : Type 0} (b : Bool) (x y : Option A) (z : A) (P : A → Type 0) → cond b x y ≡ Some z → (x ≡ Some z → P z) → (y ≡ Some z → P z) → P z
chosen true x y z P e f g = f e
chosen false x y z P e f g = g e

some_is : {A : Type 0} (x z : A) (P : A → Type 0) → Some x ≡ Some z → P x → P z
some_is x z P e h = let same : x ≡ z = cc in subst P same h

-- the end of a text gives a record at most, and nothing after it
abbrev AtEnd : Read → Type 0
AtEnd p = (p.1 ≡ st.StartRecord) × (p.2 ≡ [])

last : (cfg : Config) (s : State) (fields : List (List ℕ)) (field : List ℕ) (p : Read) → next_record cfg s fields field [] ≡ Some p → AtEnd p
unfolding next_record
last cfg s fields field p e = chosen (ends_at_end s) (Some (fields ++ (field ∷ []), st.StartRecord, [])) None p AtEnd e
    (λ h. some_is (fields ++ (field ∷ []), st.StartRecord, []) p AtEnd h (refl, refl)) (λ h. absurd (cc))

-- behind a record less is left, and its state has a place
abbrev Leaves : ℕ → Read → Type 0
Leaves n p = (length p.2 ≤ n) × HasPlace p.1

within : (x : ℕ) (s : State) → HasPlace s → (fields : List (List ℕ)) (field xs : List ℕ) (p : Read)
    → next_record (parted_by x) s fields field xs ≡ Some p → Leaves (length xs) p
unfolding next_record
within x s at fields field [] p e = let h = last (parted_by x) s fields field p e in rw (h.0, h.1) (omega arith, tt)
within x s at fields field (c ∷ rest) p e =
    chosen (is_end (step (parted_by x) s c).1) _ _ p (Leaves (suc (length rest))) e
    (λ h. some_is (fields_after (step (parted_by x) s c).1 fields field, (step (parted_by x) s c).0, rest) p (Leaves (suc (length rest))) h (omega arith, placed x s c at))
    (λ h. let left = within x (step (parted_by x) s c).0 (placed x s c at) (fields_after (step (parted_by x) s c).1 fields field) (field_after (step (parted_by x) s c).1 c field) rest p h
    in (omega (arith, left.0), left.1))

shorter : (x : ℕ) (s : State) → HasPlace s → (fields : List (List ℕ)) (field : List ℕ) (c : ℕ) (rest : List ℕ) (p : Read)
    → next_record (parted_by x) s fields field (c ∷ rest) ≡ Some p → Leaves (length rest) p
unfolding next_record
shorter x s at fields field c rest p e =
    chosen (is_end (step (parted_by x) s c).1) _ _ p (Leaves (length rest)) e
    (λ h. some_is (fields_after (step (parted_by x) s c).1 fields field, (step (parted_by x) s c).0, rest) p (Leaves (length rest)) h (omega arith, placed x s c at))
    (λ h. within x (step (parted_by x) s c).0 (placed x s c at) (fields_after (step (parted_by x) s c).1 fields field) (field_after (step (parted_by x) s c).1 c field) rest p h)

-- ---- all records

nothing : (cfg : Config) (n : ℕ) → records_from cfg n st.StartRecord [] ≡ []
unfolding records_from next_record
nothing cfg zero = refl
nothing cfg (suc n) = refl

-- with more turns than bytes there are no more records by more turns
abbrev Enough : ℕ → ℕ → ℕ → Type 0
Enough x n m = (s : State) (xs : List ℕ) → HasPlace s → length xs < n → length xs < m → records_from (parted_by x) n s xs ≡ records_from (parted_by x) m s xs

at_end_enough : (x n m : ℕ) (s : State) (read : Option Read) → next_record (parted_by x) s [] [] [] ≡ read
    → records_next (records_from (parted_by x) n) read ≡ records_next (records_from (parted_by x) m) read
at_end_enough x n m s None e = refl
at_end_enough x n m s (Some p) e = let at = last (parted_by x) s [] [] p e in rw (at.0, at.1, nothing (parted_by x) n, nothing (parted_by x) m) refl

next_enough : (x n m : ℕ) → Enough x n m → (s : State) → HasPlace s → (c : ℕ) (rest : List ℕ) → length rest < n → length rest < m
    → (read : Option Read) → next_record (parted_by x) s [] [] (c ∷ rest) ≡ read
    → records_next (records_from (parted_by x) n) read ≡ records_next (records_from (parted_by x) m) read
next_enough x n m more s at c rest a b None e = refl
next_enough x n m more s at c rest a b (Some p) e =
    let left = shorter x s at [] [] c rest p e in
    ap (λ (rows : List (List (List ℕ))). p.0 ∷ rows) (more p.1 p.2 left.1 (omega (arith, left.0, a)) (omega (arith, left.0, b)))

enough : (x n m : ℕ) → Enough x n m
unfolding records_from
enough x zero m s xs at a b = absurd (omega (arith, a))
enough x n zero s xs at a b = absurd (omega (arith, b))
enough x (suc n) (suc m) s [] at a b = at_end_enough x n m s _ refl
enough x (suc n) (suc m) s (c ∷ rest) at a b = next_enough x n m (enough x n m) s at c rest (omega (arith, a)) (omega (arith, b)) _ refl

next_same : (from to n : ℕ) → ((s : State) (xs : List ℕ) → HasPlace s
    → records_from (parted_by to) n (state_of s) (translated from to (place_of s) xs) ≡ records_from (parted_by from) n s xs)
    → (read : Option Read) → ((p : Read) → read ≡ Some p → HasPlace p.1)
    → records_next (records_from (parted_by to) n) (option_map (read_with from to) read) ≡ records_next (records_from (parted_by from) n) read
next_same from to n more None h = refl
next_same from to n more (Some p) h = ap (λ (rows : List (List (List ℕ))). p.0 ∷ rows) (more p.1 p.2 (h p refl))

same_turns : (from to : ℕ) → Tests from → Tests to → (n : ℕ) (s : State) (xs : List ℕ) → HasPlace s
    → records_from (parted_by to) n (state_of s) (translated from to (place_of s) xs) ≡ records_from (parted_by from) n s xs
unfolding records_from
same_turns from to f t zero s xs at = refl
same_turns from to f t (suc n) s xs at = rw (same_record from to f t s at [] [] xs) (next_same from to n (same_turns from to f t n) _
    (λ p e. (within from s at [] [] xs p e).1))

-- a translated text has no byte order mark
plain_front : (d : ℕ) (rest : List ℕ) → (d == 239) ≡ false → strip_bom (d ∷ rest) ≡ d ∷ rest
unfolding strip_bom
plain_front d [] e = refl
plain_front d (a ∷ []) e = refl
plain_front d (a ∷ b ∷ rest) e = rw e refl

unmarked_kind : (from to : ℕ) → IsSeparator to → Tests from → (c : ℕ) (text : List ℕ) → Kind from c
    → strip_bom (translated from to FieldStart (c ∷ text)) ≡ translated from to FieldStart (c ∷ text)
unmarked_kind from to s f c text (inl e) = rw (e, f.is) (plain_front to _ (ne_eqb to 239 (λ h. omega (arith, h, s.ascii))))
unmarked_kind from to s f c text (inr (inl e)) = rw (e, f.quote_is) (plain_front 34 _ refl)
unmarked_kind from to s f c text (inr (inr (inl e))) = rw (e, f.return_is) (plain_front 13 _ refl)
unmarked_kind from to s f c text (inr (inr (inr (inl e)))) = rw (e, f.feed_is) (plain_front 10 _ refl)
unmarked_kind from to s f c text (inr (inr (inr (inr o)))) = rw (o.separator, o.return, o.feed, o.quote) (plain_front 34 _ refl)

unmarked : (from to : ℕ) → IsSeparator from → IsSeparator to → (xs : List ℕ) → strip_bom (translated from to FieldStart xs) ≡ translated from to FieldStart xs
unfolding strip_bom
unmarked from to f t [] = refl
unmarked from to f t (c ∷ text) = unmarked_kind from to t (tests from f) c text (kind_of from c)

pub same_records : (from to : ℕ) (text : List ℕ) → IsSeparator from → IsSeparator to → records (parted_by to) (strip_bom (list_with from to text)) ≡ records (parted_by from) (strip_bom text)
same_records from to text f t =
    let plain = strip_bom text in
    let new = translated from to FieldStart plain in
    let turns = length plain + length new + 1 in
    rw (unmarked from to f t plain) (enough to (length new + 1) turns st.StartRecord new tt (omega arith) (omega arith)
    ∙ same_turns from to (tests from f) (tests to t) turns st.StartRecord plain tt
    ∙ enough from turns (length plain + 1) st.StartRecord plain tt (omega arith) (omega arith))
