-- Reading the lines of checks and of bounds, without their LF. No public clause cites this module.
use Rattle.std.specs.Prelude.{ℕ, Bool, true, false, List, [], Option, Some, None, codes, if◌then◌else◌}
use Rattle.std.specs.Option.{option_or}
use Rattle.std.specs.Str.{bytes_eq}
use Rattle.crp_checker.specs.declared.verdict.Verdict.{Verdict}
use Rattle.crp_checker.specs.declared.verdict.Verdict.TheVariants as verdict
use Rattle.crp_cert.specs.Reading.{◌>>=◌, tag_at, number_at, word_at}
use Rattle.crp_said.specs.declared.said.Said.{Said}
use Rattle.crp_said.specs.declared.said.Said.TheVariants as said
use Rattle.crp_said.specs.Fields.{number_alone_at}
use Rattle.crp_said.specs.Spelled.{most}
use Rattle.crp_json.specs.declared.entry.ChainRank.{ChainRank}

-- what is said of a bay, where it is what a certificate shows in the same words
abbrev pub settled_by : Said → Option Verdict
settled_by (said.Optimal count) = Some (verdict.Optimal count)
settled_by (said.First count) = Some (verdict.First count)
settled_by said.NoPlan = Some verdict.NoPlan
settled_by (said.Between lower upper cause) = None
settled_by (said.Outside count) = None

-- the relocations of the plan, behind the lower bound
unfoldable pub behind_tag_at : List ℕ → Option (Option ℕ)
behind_tag_at bytes = do
  a ← tag_at (codes ", plan of ") bytes
  count ← number_alone_at a
  Some (Some count)

abbrev pub plan_at : List ℕ → Option (Option ℕ)
plan_at bytes = if bytes_eq bytes [] then Some None else behind_tag_at bytes

-- the line of a bay between bounds: the block and the number, whatever they are, the lower bound, and the relocations of the plan
unfoldable pub bounds_at : List ℕ → Option ((List ℕ × ℕ) × (ℕ × Option ℕ))
bounds_at line = do
  a ← tag_at (codes "bay ") line
  block ← word_at a
  b ← tag_at (codes " ") block.1
  bay ← number_at most b
  c ← tag_at (codes ": at least ") bay.1
  lower ← number_at most c
  upper ← plan_at lower.1
  Some ((block.0, bay.0), (lower.0, upper))

-- a number behind these words
unfoldable pub tagged_at : List ℕ → List ℕ → Option ℕ
tagged_at words line = do
  a ← tag_at words line
  number_alone_at a

-- the name of a bay, whatever it is
unfoldable pub title_at : List ℕ → Option (List ℕ × ℕ)
title_at line = do
  a ← tag_at (codes "bay ") line
  block ← word_at a
  bay ← tagged_at (codes " ") block.1
  Some (block.0, bay)

-- a rank behind this mark
unfoldable pub behind_at : List ℕ → Bool → List ℕ → Option (ChainRank × List ℕ)
behind_at mark begins bytes = do
  a ← tag_at mark bytes
  rank ← number_at most a
  Some (record { begins = begins; rank = rank.0 }, rank.1)

-- a rank behind others
abbrev pub rank_at : List ℕ → Option (ChainRank × List ℕ)
rank_at bytes = option_or (behind_at (codes ".") false bytes) (behind_at (codes " | ") true bytes)
