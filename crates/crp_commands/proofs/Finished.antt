-- Files that a call writes where they are asked for: what stands under their names when they were finished, and what failed.
use Rattle.std.proofs.Common.{◌≡◌, ◌∙◌, ℕ, ◌+◌, List, [], Bool, false, Option, Some, None, IsSome, Result, Ok, Err, MatchResult, refl, sym, ap, subst, arith}
use Rattle.std.specs.Prelude.{IfSome, IfErr, IsTrue, MatchOption, OnOk, OnErr, ⊤}
use Rattle.crp_plan.specs.Devices.{CountsMore}
use Rattle.crp_report.specs.declared.status.Status.{Status}
use Rattle.crp_report.specs.Runs.{SinkSeen}
use Rattle.crp_files.specs.Known.{KnownFiles, IsChangedIn}
use Rattle.crp_jobs.specs.Opened.{FilesSeen, IsWanted, IsLeft}

-- ---- counts of failures, which end at the largest u64

pub none_more : (n : ℕ) → CountsMore 0 n n
none_more n = omega arith

pub more_from : (n a b c : ℕ) → b ≡ a → CountsMore n b c → CountsMore n a c
more_from n a b c e more = subst (λ (x : ℕ). CountsMore n x c) e more

pub more_and_more : (m n a b c : ℕ) → CountsMore m a b → CountsMore n b c → CountsMore (m + n) a c
more_and_more m n a b c first second = omega arith

-- ---- what stays known

pub same_states : (name : Option (List ℕ)) (old new : KnownFiles) → IsChangedIn name old new → new.states ≡ old.states
same_states None old new is = ap (λ (k : KnownFiles). k.states) is
same_states (Some n) old new is = is.states

pub same_links : (name : Option (List ℕ)) (old new : KnownFiles) → IsChangedIn name old new → new.are_one ≡ old.are_one
same_links None old new is = ap (λ (k : KnownFiles). k.are_one) is
same_links (Some n) old new is = is.are_one

pub same_leave : (name : Option (List ℕ)) (old new : KnownFiles) → IsChangedIn name old new → new.may_not_create ≡ old.may_not_create
same_leave None old new is = ap (λ (k : KnownFiles). k.may_not_create) is
same_leave (Some n) old new is = is.may_not_create

-- another file has its bytes as before
pub other_kept : (name : Option (List ℕ)) (old new : KnownFiles) (other : List ℕ) → IsChangedIn name old new
    → IfSome name (λ n. old.are_one n other ≡ Some false) → new.given other ≡ old.given other
other_kept None old new other is apart = ap (λ (k : KnownFiles). k.given other) is
other_kept (Some n) old new other is apart = is.others other apart

-- the file that was made and that which was finished are of one name: of no other one the bytes have changed
pub changed_twice : (name : Option (List ℕ)) (old middle new : KnownFiles) → IsChangedIn name old middle → IsChangedIn name middle new → IsChangedIn name old new
changed_twice None old middle new first second = second ∙ first
changed_twice (Some n) old middle new first second = record {
  states = second.states ∙ first.states;
  may_not_create = second.may_not_create ∙ first.may_not_create;
  are_one = second.are_one ∙ first.are_one;
  others = λ other apart.
      second.others other (subst (λ (f : List ℕ → List ℕ → Option Bool). f n other ≡ Some false) (sym first.are_one) apart) ∙ first.others other apart;
}

-- ---- one file

-- how often the file could not be finished, by the answer
abbrev pub unfinished_in : {A E : Type 0} → Result A E → ℕ
unfinished_in (Ok done) = 0
unfinished_in (Err why) = 1

not_there : IsSome {T = List ℕ} None → ⊥
not_there some = cc

one_is_not : ◌≡◌ {A = ℕ} 1 0 → ⊥
one_is_not e = omega (arith, e)

-- a file that was made, where one is asked for, when these were known, and was finished
pub record IsWritten (name : Option (List ℕ)) (made was now : KnownFiles) (f g unfinished : ℕ) (s : SinkSeen) : Type 0 where
  pub new : s.before ≡ 0
  pub empty : IsSome name → IsTrue made.states → s.held ≡ Some []
  pub changed : IsChangedIn name was now
  pub stands : unfinished ≡ 0 → IfSome name (λ n. IsTrue was.states → now.given n ≡ s.holds)
  pub unwanted : MatchOption name ((s.after ≡ 0) × (unfinished ≡ 0)) (λ _. ⊤)
  pub count : CountsMore (s.after + unfinished) f g

-- the clauses of a file's end
abbrev pub Ends : {A E : Type 0} → Option (List ℕ) → ℕ → ℕ → ℕ → Result A E → Type 0
Ends name failed f g r = MatchResult r (λ _. CountsMore failed f g) (λ _. IsSome name × CountsMore (failed + 1) f g)

pub written : {A E : Type 0} (name : Option (List ℕ)) (made was now : KnownFiles) (f g : ℕ) (r : Result A E) (s : SinkSeen) → s.before ≡ 0
    → (IsSome name → IsTrue made.states → s.held ≡ Some []) → IsChangedIn name was now → OnOk r (IfSome name (λ n. IsTrue was.states → now.given n ≡ s.holds))
    → MatchOption name (s.after ≡ 0) (λ _. ⊤) → Ends name s.after f g r → IsWritten name made was now f g (unfinished_in r) s
written None made was now f g (Ok done) s new empty changed stands unwanted ends =
    let same : s.after + 0 ≡ s.after = omega arith in record {
      new = new;
      empty = empty;
      changed = changed;
      stands = λ done. tt;
      unwanted = (unwanted, refl);
      count = subst (λ (n : ℕ). CountsMore n f g) (sym same) ends;
    }
written (Some n) made was now f g (Ok done) s new empty changed stands unwanted ends =
    let same : s.after + 0 ≡ s.after = omega arith in record {
      new = new;
      empty = empty;
      changed = changed;
      stands = λ done. stands;
      unwanted = tt;
      count = subst (λ (n : ℕ). CountsMore n f g) (sym same) ends;
    }
written None made was now f g (Err why) s new empty changed stands unwanted (some, ends) = absurd (not_there some)
written (Some n) made was now f g (Err why) s new empty changed stands unwanted (some, ends) = record {
  new = new;
  empty = empty;
  changed = changed;
  stands = λ done. absurd (one_is_not done);
  unwanted = tt;
  count = ends;
}

-- the count before it was as it is at first
pub written_from : (name : Option (List ℕ)) (made was now : KnownFiles) (first f g unfinished : ℕ) (s : SinkSeen) → f ≡ first
    → IsWritten name made was now f g unfinished s → IsWritten name made was now first g unfinished s
written_from name made was now first f g unfinished s same is = subst (λ (n : ℕ). IsWritten name made was now n g unfinished s) same is

-- it is the file of this name, if one is asked for
pub wanted : (name : Option (List ℕ)) (known made was now : KnownFiles) (f g unfinished : ℕ) (s : SinkSeen) → made.states ≡ known.states
    → IsWritten name made was now f g unfinished s → IsWanted known name unfinished s
wanted None known made was now f g unfinished s states is = (is.new, is.unwanted.0, is.unwanted.1)
wanted (Some n) known made was now f g unfinished s states is =
    record { new = is.new; empty = λ stated. is.empty refl (subst (λ (b : Bool). IsTrue b) (sym states) stated) }

-- and what it got stands under the name, at the end of the call too
pub left : (name : Option (List ℕ)) (files : FilesSeen) (made was now : KnownFiles) (f g unfinished : ℕ) (s : SinkSeen) → was.states ≡ files.known.states
    → IfSome name (λ n. files.left.given n ≡ now.given n) → IsWritten name made was now f g unfinished s → IsLeft files name unfinished s
left None files made was now f g unfinished s states kept is = tt
left (Some n) files made was now f g unfinished s states kept is =
    λ stated finished. kept ∙ is.stands finished (subst (λ (b : Bool). IsTrue b) (sym states) stated)

-- the answer, unless a file could not be finished
pub record Unless {A E F : Type 0} (answer : Result Status F) (finished : Result A E) (fault : F) (result : Result Status F) : Type 0 where
  pub failed : IfErr answer (λ f. result ≡ Err f)
  pub done : OnOk answer (OnOk finished (result ≡ answer))
  pub unfinished : OnOk answer (OnErr finished (result ≡ Err fault))
