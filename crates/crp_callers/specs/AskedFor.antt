-- What words ask for, and why they are refused.
use Rattle.std.specs.Prelude.{◌≡◌, ℕ, IsTrue, List}
use Rattle.crp_sizes.specs.Sizes.{one_size}
use Rattle.crp_jobs.specs.declared.job.Job.{Job}
use Rattle.crp_jobs.specs.declared.job.Job.TheVariants.{Absent, OneFile, Audit, Follow, Compare, Solve}
use Rattle.crp_jobs.specs.declared.job.FileCommand.TheVariants.{Replay, Bound, Check, Prove, Rewrite}
use Rattle.crp_words.specs.declared.usage.Mistake.TheVariants as mistake
use Rattle.crp_words.specs.declared.usage.Usage.{Usage}
use Rattle.crp_words.specs.declared.usage.Usage.TheVariants.{Help, Wrong, Memory}

-- the job is a run over bays whose rows have these heights
abbrev pub HasHeights : List ℕ → Job → Type 0
HasHeights heights (Solve names settings quiet progress) = settings.input.sizes ≡ one_size heights
HasHeights heights (OneFile file command stop) = ⊥
HasHeights heights (Absent names settings) = ⊥
HasHeights heights (Audit names settings) = ⊥
HasHeights heights (Follow names settings) = ⊥
HasHeights heights (Compare names settings) = ⊥

-- the job is a search that begins with a beam of this width; chains and up to 10000 thinned branches may close a position, and its limit rises
abbrev pub IsStrongSearch : ℕ → Job → Type 0
IsStrongSearch width (OneFile file (Prove search) stop) = (search.beam ≡ width) × (search.thin ≡ 10000) × IsTrue search.deepen × IsTrue search.chains
IsStrongSearch width (OneFile file Replay stop) = ⊥
IsStrongSearch width (OneFile file Rewrite stop) = ⊥
IsStrongSearch width (OneFile file (Bound chains json) stop) = ⊥
IsStrongSearch width (OneFile file (Check any_size workers json) stop) = ⊥
IsStrongSearch width (Absent names settings) = ⊥
IsStrongSearch width (Audit names settings) = ⊥
IsStrongSearch width (Follow names settings) = ⊥
IsStrongSearch width (Compare names settings) = ⊥
IsStrongSearch width (Solve names settings quiet progress) = ⊥

-- the words are refused for a setting
abbrev pub IsOfSetting : Usage → Type 0
IsOfSetting (Wrong (mistake.Setting f)) = Unit {0}
IsOfSetting (Wrong (mistake.Words text)) = ⊥
IsOfSetting (Help text) = ⊥
IsOfSetting Memory = ⊥
