-- From what clap gives or refuses to what the words ask for, and why they ask for nothing.
use Rattle.std.proofs.Common.{◌≡◌, ◌⊎◌, List, Option, Some, None, refl, subst, inl, inr, option_map, true, []}
use Rattle.clap.specs.Words.{IsAmong, Row, Text, fault_of, is_simple}
use Rattle.clap.specs.Faults.{is_simple_and_free}
use Rattle.clap.specs.declared.error.kind.ErrorKind.{ErrorKind}
use Rattle.clap.specs.declared.error.kind.ErrorKind.TheVariants as kind
use Rattle.clap.proofs.OnLiterals.{clap_on_literals}
use Rattle.crp_words.specs.Commands.{crp}
use Rattle.crp_words.specs.Words.{Asks, Lacks, Refuses, ShowsKind, WordsAsk, WordsHaveFault, IsFault, words_or_default}
use Rattle.crp_words.specs.declared.usage.Mistake.TheVariants as mistake
use Rattle.crp_words.specs.declared.usage.SettingFault.{SettingFault}
use Rattle.crp_jobs.specs.declared.job.Job.{Job}
use Rattle.crp_words.specs.declared.usage.Usage.{Usage}
use Rattle.crp_words.specs.declared.usage.Usage.TheVariants as usage

-- the command line is one of which clap's words give the matches
pub crp_simple : is_simple crp ≡ true
unfolding clap_on_literals
crp_simple = refl

pub crp_free : is_simple_and_free crp ≡ true
unfolding clap_on_literals
crp_free = refl

-- a value of which two things are known has both
pub pair_of : {X A B : Type 0} (o : Option X) (n : X → A) (r : X → B) (a : A) (b : B)
    → Some a ≡ option_map n o → Some b ≡ option_map (λ (p : A × B). p.1) (option_map {U = A × B} (λ x. (n x, r x)) o)
    → option_map {U = A × B} (λ x. (n x, r x)) o ≡ Some (a, b)
pair_of None n r a b p q = absurd (cc)
pair_of (Some x) n r a b p q =
    let left : n x ≡ a = cc in
    let right : r x ≡ b = cc in
    rw (left, right) refl

-- a command whose rows give no job is refused
pub not_asked : (words : List Text) (name : Text) (rows : List Row) (u : Usage)
    → fault_of crp (words_or_default words) ≡ [] → ((j : Job) → WordsAsk words j → Asks name rows j)
    → ((f : SettingFault) → WordsHaveFault words f → IsFault name rows f) → ((f : SettingFault) → IsFault name rows f → WordsHaveFault words f)
    → Lacks (Asks name rows) (IsFault name rows) u → Refuses words u
not_asked words name rows usage.Memory faultless same there back none = tt
not_asked words name rows (usage.Help text) faultless same there back none = absurd none
not_asked words name rows (usage.Wrong (mistake.Words text)) faultless same there back none =
    (λ j asks. none.0 j (same j asks), inl faultless, λ f at. none.1 f (there f at))
not_asked words name rows (usage.Wrong (mistake.Setting f)) faultless same there back none =
    (λ j asks. none.0 j (same j asks), inl faultless, back f none.1)

-- what clap refuses is refused
pub refused : (words : List Text) (u : Usage) (k : ErrorKind) → ShowsKind k u
    → (k ≡ kind.OutOfMemory) ⊎ IsAmong k (fault_of crp (words_or_default words)) → Refuses words u
refused words usage.Memory k shows has = tt
refused words (usage.Help text) k (inl e) (inl memory) = absurd (cc)
refused words (usage.Help text) k (inr e) (inl memory) = absurd (cc)
refused words (usage.Help text) k (inl e) (inr among) = inl (subst (λ (x : ErrorKind). IsAmong x (fault_of crp (words_or_default words))) e among)
refused words (usage.Help text) k (inr e) (inr among) = inr (subst (λ (x : ErrorKind). IsAmong x (fault_of crp (words_or_default words))) e among)
refused words (usage.Wrong (mistake.Setting f)) k shows has = absurd shows
refused words (usage.Wrong (mistake.Words text)) k shows (inl memory) = absurd (shows.0 memory)
refused words (usage.Wrong (mistake.Words text)) k shows (inr among) =
    (λ j asks. subst (IsAmong k) asks.0 among, inr (k, among, shows.1, shows.2), λ f at. subst (IsAmong k) at.0 among)
