-- What See, Offer and Claim do to the two words that workers share, and to what one worker knows of them.
use Rattle.std.specs.Prelude.{ℕ, Bool, ◌+◌, min, nat_lt, if◌then◌else◌}
use Rattle.crp_plan.specs.declared.running.View.{View}
use Rattle.crp_plan.specs.declared.running.Words.{Words}

-- the words, and the view of the worker that acts
abbrev pub words : ℕ → ℕ → View → Words
words limit spent view = record { limit = limit; spent = spent; view = view }

-- See: the worker has seen the limit
abbrev pub after_see : Words → Words
after_see w = record w { view = record w.view { seen = w.limit } }

-- Offer: the limit is the lesser of itself and the plan's relocations; the worker has seen that, and its own least offer is no more
abbrev pub after_offer : ℕ → Words → Words
after_offer count w = record w {
  limit = min w.limit count;
  view = record w.view { seen = min w.limit count; mine = min w.view.mine count };
}

-- a claim is granted where less than the budget is spent
abbrev pub is_granted : ℕ → Words → Bool
is_granted budget w = nat_lt w.spent budget

-- Claim: one more is spent, and one more is granted or refused
abbrev pub after_claim : ℕ → Words → Words
after_claim budget w = record w {
  spent = w.spent + 1;
  view = if is_granted budget w then record w.view { granted = w.view.granted + 1 } else record w.view { refused = w.view.refused + 1 };
}
