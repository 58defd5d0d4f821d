-- Two files that a call writes, where they are asked for: what stands under their names when both were finished, and what else is as before.
use Rattle.std.proofs.Common.{◌≡◌, ◌∙◌, ℕ, List, Bool, false, Option, Some, None, ap, subst}
use Rattle.std.specs.Prelude.{IfSome, IsTrue, MatchOption}
use Rattle.crp_report.specs.Runs.{SinkSeen}
use Rattle.crp_files.specs.Known.{KnownFiles, IsChangedIn, IsPreparedIn, KeepsBytes}
use Rattle.crp_files.proofs.Prepared.{prepared_changes, prepared_keeps, keeps_twice}
use Rattle.crp_jobs.specs.Opened.{FilesSeen, IsWanted, IsLeft}
use Rattle.crp_commands.proofs.Finished.{IsWritten, wanted, left, same_states, same_links, same_leave, other_kept}

-- what was known of the files: at first; when what is read was open and what is written was there; when the first was made; when both were, and the call began
-- to write; when the first was finished; and when both were, and to the end
pub record Times : Type 0 where
  pub first : KnownFiles
  pub opened : KnownFiles
  pub one_made : KnownFiles
  pub made : KnownFiles
  pub one_finished : KnownFiles
  pub finished : KnownFiles
  pub last : KnownFiles

-- the files of these names are there, where they are asked for
pub record AreThere (one two : Option (List ℕ)) (first there : KnownFiles) : Type 0 where
  pub middle : KnownFiles
  pub one_prepared : IsPreparedIn one first middle
  pub two_prepared : IsPreparedIn two middle there

pub there_from : (own_one own_two one two : Option (List ℕ)) (first opened middle there : KnownFiles) → own_one ≡ one → own_two ≡ two → opened ≡ first
    → IsPreparedIn own_one opened middle → IsPreparedIn own_two middle there → AreThere one two first there
there_from own_one own_two one two first opened middle there is_one is_two same a b = record {
  middle = middle;
  one_prepared = subst (λ (o : Option (List ℕ)). IsPreparedIn o first middle) is_one (subst (λ (k : KnownFiles). IsPreparedIn own_one k middle) same a);
  two_prepared = subst (λ (o : Option (List ℕ)). IsPreparedIn o middle there) is_two b;
}

pub there_links : (one two : Option (List ℕ)) (first there : KnownFiles) → AreThere one two first there → there.are_one ≡ first.are_one
there_links one two first there is =
    same_links two is.middle there (prepared_changes two is.middle there is.two_prepared) ∙ same_links one first is.middle (prepared_changes one first is.middle is.one_prepared)

there_states : (one two : Option (List ℕ)) (first there : KnownFiles) → AreThere one two first there → there.states ≡ first.states
there_states one two first there is =
    same_states two is.middle there (prepared_changes two is.middle there is.two_prepared) ∙ same_states one first is.middle (prepared_changes one first is.middle is.one_prepared)

there_leave : (one two : Option (List ℕ)) (first there : KnownFiles) → AreThere one two first there → there.may_not_create ≡ first.may_not_create
there_leave one two first there is =
    same_leave two is.middle there (prepared_changes two is.middle there is.two_prepared) ∙ same_leave one first is.middle (prepared_changes one first is.middle is.one_prepared)

pub there_keeps : (one two : Option (List ℕ)) (first there : KnownFiles) → AreThere one two first there → KeepsBytes first there
there_keeps one two first there is =
    keeps_twice first is.middle there (prepared_keeps one first is.middle is.one_prepared) (prepared_keeps two is.middle there is.two_prepared)

-- where a file may be refused, it may have been so before
pub refused_before : (one two : Option (List ℕ)) (first there now : KnownFiles) (name : Option (List ℕ)) → AreThere one two first there
    → now.may_not_create ≡ there.may_not_create → MatchOption name ⊥ (λ n. IsTrue (now.may_not_create n)) → MatchOption name ⊥ (λ n. IsTrue (first.may_not_create n))
refused_before one two first there now name is leave refused =
    subst (λ (f : List ℕ → Bool). MatchOption name ⊥ (λ n. IsTrue (f n))) (leave ∙ there_leave one two first there is) refused

-- both were made, and then finished, where they are asked for; so many calls had failed before, between and behind that
pub record AreWritten (one two : Option (List ℕ)) (k : Times) (f g h u v : ℕ) (s t : SinkSeen) : Type 0 where
  pub begun : AreThere one two k.first k.opened
  pub one_changed : IsChangedIn one k.opened k.one_made
  pub two_changed : IsChangedIn two k.one_made k.made
  pub one_written : IsWritten one k.opened k.made k.one_finished f g u s
  pub two_written : IsWritten two k.one_made k.one_finished k.finished g h v t
  pub ended : k.last ≡ k.finished

-- which names lead to one file is known as at first
links_made : (one two : Option (List ℕ)) (k : Times) (f g h u v : ℕ) (s t : SinkSeen) → AreWritten one two k f g h u v s t → k.made.are_one ≡ k.first.are_one
links_made one two k f g h u v s t c =
    same_links two k.one_made k.made c.two_changed ∙ same_links one k.opened k.one_made c.one_changed ∙ there_links one two k.first k.opened c.begun

links_one_made : (one two : Option (List ℕ)) (k : Times) (f g h u v : ℕ) (s t : SinkSeen) → AreWritten one two k f g h u v s t → k.one_made.are_one ≡ k.first.are_one
links_one_made one two k f g h u v s t c = same_links one k.opened k.one_made c.one_changed ∙ there_links one two k.first k.opened c.begun

links_one_finished : (one two : Option (List ℕ)) (k : Times) (f g h u v : ℕ) (s t : SinkSeen) → AreWritten one two k f g h u v s t → k.one_finished.are_one ≡ k.first.are_one
links_one_finished one two k f g h u v s t c = same_links one k.made k.one_finished c.one_written.changed ∙ links_made one two k f g h u v s t c

-- of two names nothing else becomes known
apart_still : (name other : List ℕ) (old new : KnownFiles) → new.are_one ≡ old.are_one → old.are_one name other ≡ Some false → new.are_one name other ≡ Some false
apart_still name other old new same apart = ap (λ (f : List ℕ → List ℕ → Option Bool). f name other) same ∙ apart

all_apart : (name : Option (List ℕ)) (other : List ℕ) (old new : KnownFiles) → new.are_one ≡ old.are_one → IfSome name (λ n. old.are_one n other ≡ Some false)
    → IfSome name (λ n. new.are_one n other ≡ Some false)
all_apart None other old new same apart = tt
all_apart (Some n) other old new same apart = apart_still n other old new same apart

-- the bytes of another file
there_kept : (one two : Option (List ℕ)) (first there : KnownFiles) (other : List ℕ) → AreThere one two first there
    → IfSome one (λ n. first.are_one n other ≡ Some false) → IfSome two (λ n. first.are_one n other ≡ Some false) → there.given other ≡ first.given other
there_kept one two first there other is first_apart second_apart =
    let changed = prepared_changes one first is.middle is.one_prepared in
    other_kept two is.middle there other (prepared_changes two is.middle there is.two_prepared)
    (all_apart two other first is.middle (same_links one first is.middle changed) second_apart)
    ∙ other_kept one first is.middle other changed first_apart

pub others_kept : (one two : Option (List ℕ)) (k : Times) (f g h u v : ℕ) (s t : SinkSeen) → AreWritten one two k f g h u v s t → (other : List ℕ)
    → IfSome one (λ n. k.first.are_one n other ≡ Some false) → IfSome two (λ n. k.first.are_one n other ≡ Some false) → k.last.given other ≡ k.first.given other
others_kept one two k f g h u v s t c other first_apart second_apart =
    ap (λ (o : KnownFiles). o.given other) c.ended
    ∙ other_kept two k.one_finished k.finished other c.two_written.changed (all_apart two other k.first k.one_finished (links_one_finished one two k f g h u v s t c) second_apart)
    ∙ other_kept one k.made k.one_finished other c.one_written.changed (all_apart one other k.first k.made (links_made one two k f g h u v s t c) first_apart)
    ∙ other_kept two k.one_made k.made other c.two_changed (all_apart two other k.first k.one_made (links_one_made one two k f g h u v s t c) second_apart)
    ∙ other_kept one k.opened k.one_made other c.one_changed (all_apart one other k.first k.opened (there_links one two k.first k.opened c.begun) first_apart)
    ∙ there_kept one two k.first k.opened other c.begun first_apart second_apart

-- the first file is not changed when the second is finished
still_stands : (one two : Option (List ℕ)) (old new : KnownFiles) → IsChangedIn two old new
    → IfSome two (λ t. IfSome one (λ o. old.are_one t o ≡ Some false)) → IfSome one (λ o. new.given o ≡ old.given o)
still_stands None two old new is apart = tt
still_stands (Some o) None old new is apart = other_kept None old new o is tt
still_stands (Some o) (Some t) old new is apart = other_kept (Some t) old new o is apart

two_still : (one two : Option (List ℕ)) (old new : KnownFiles) → new.are_one ≡ old.are_one → IfSome two (λ t. IfSome one (λ o. old.are_one t o ≡ Some false))
    → IfSome two (λ t. IfSome one (λ o. new.are_one t o ≡ Some false))
two_still one None old new same apart = tt
two_still None (Some t) old new same apart = tt
two_still (Some o) (Some t) old new same apart = apart_still t o old new same apart

given_at_end : (name : Option (List ℕ)) (was now end : KnownFiles) → end ≡ now → IfSome name (λ n. now.given n ≡ was.given n) → IfSome name (λ n. end.given n ≡ was.given n)
given_at_end None was now end same kept = tt
given_at_end (Some n) was now end same kept = ap (λ (o : KnownFiles). o.given n) same ∙ kept

given_still : (name : Option (List ℕ)) (was end : KnownFiles) → end ≡ was → IfSome name (λ n. end.given n ≡ was.given n)
given_still None was end same = tt
given_still (Some n) was end same = ap (λ (o : KnownFiles). o.given n) same

-- the files, as the call saw them: so many calls had failed before, and behind it
abbrev pub files_in : Times → ℕ → ℕ → FilesSeen
files_in k before after = record { known = k.first; left = k.last; before = before; after = after }

-- files say what is written to them as at first
pub states_opened : (one two : Option (List ℕ)) (k : Times) (f g h u v : ℕ) (s t : SinkSeen) → AreWritten one two k f g h u v s t → k.opened.states ≡ k.first.states
states_opened one two k f g h u v s t c = there_states one two k.first k.opened c.begun

pub states_one_made : (one two : Option (List ℕ)) (k : Times) (f g h u v : ℕ) (s t : SinkSeen) → AreWritten one two k f g h u v s t → k.one_made.states ≡ k.first.states
states_one_made one two k f g h u v s t c = same_states one k.opened k.one_made c.one_changed ∙ there_states one two k.first k.opened c.begun

states_made : (one two : Option (List ℕ)) (k : Times) (f g h u v : ℕ) (s t : SinkSeen) → AreWritten one two k f g h u v s t → k.made.states ≡ k.first.states
states_made one two k f g h u v s t c = same_states two k.one_made k.made c.two_changed ∙ states_one_made one two k f g h u v s t c

-- what was written to them stands under their names at the end: under that of the first where they are known to be two
pub one_left : (one two : Option (List ℕ)) (k : Times) (f g h u v before after : ℕ) (s t : SinkSeen) → AreWritten one two k f g h u v s t
    → IfSome two (λ t. IfSome one (λ o. k.first.are_one t o ≡ Some false)) → IsLeft (files_in k before after) one u s
one_left one two k f g h u v before after s t c apart =
    let still = two_still one two k.first k.one_finished (links_one_finished one two k f g h u v s t c) apart in
    left one (files_in k before after) k.opened k.made k.one_finished f g u s (states_made one two k f g h u v s t c)
    (given_at_end one k.one_finished k.finished k.last c.ended (still_stands one two k.one_finished k.finished c.two_written.changed still)) c.one_written

pub two_left : (one two : Option (List ℕ)) (k : Times) (f g h u v before after : ℕ) (s t : SinkSeen) → AreWritten one two k f g h u v s t
    → IsLeft (files_in k before after) two v t
two_left one two k f g h u v before after s t c =
    left two (files_in k before after) k.one_made k.one_finished k.finished g h v t
    (same_states one k.made k.one_finished c.one_written.changed ∙ states_made one two k f g h u v s t c) (given_still two k.finished k.last c.ended) c.two_written

-- they are the files of their names, if they are asked for
pub one_wanted : (one two : Option (List ℕ)) (k : Times) (f g h u v : ℕ) (s t : SinkSeen) → AreWritten one two k f g h u v s t → IsWanted k.first one u s
one_wanted one two k f g h u v s t c = wanted one k.first k.opened k.made k.one_finished f g u s (states_opened one two k f g h u v s t c) c.one_written

pub two_wanted : (one two : Option (List ℕ)) (k : Times) (f g h u v : ℕ) (s t : SinkSeen) → AreWritten one two k f g h u v s t → IsWanted k.first two v t
two_wanted one two k f g h u v s t c = wanted two k.first k.one_made k.one_finished k.finished g h v t (states_one_made one two k f g h u v s t c) c.two_written
