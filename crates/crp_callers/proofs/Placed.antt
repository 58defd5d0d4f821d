-- Where the segments of two lines stand.
use Rattle.std.proofs.Common.{[], ◌∷◌, ◌++◌, codes, inl, inr, refl, arith, ⊎_elim}
use Rattle.edi_text.specs.Spelling.{standard}
use Rattle.crp_places.specs.Segments.{IsSegmentAt, IsSegmentText, IsSpelledBy}
use Rattle.crp_callers.specs.Released.{with_terminator, released, trailer, two_lines}
use Rattle.crp_callers.proofs.Letters.{then, opens, first_segment, second_segment}

behind_line : IsSegmentAt two_lines 2 11
behind_line = record {
  segments = with_terminator ∷ [];
  opening = [];
  body = released ++ codes "\r\n";
  rest = codes "UNT'";
  reads = (
    standard,
    record {
      whole = refl;
      opens = inr (opens 70 (codes "TX+A?'B'\r\nUNT'") (λ e. omega arith));
      spelled = then released (codes "\r\n") first_segment (then (codes "\r\n") [] (inl refl, (inr refl, tt)) refl);
    },
  );
  passed = inr (⊎_elim (λ e. omega arith) (λ e. omega arith));
  counted = refl;
  some = λ e. cc;
  place = refl;
}

pub is_second : IsSegmentText two_lines 2 11 (codes "UNT'")
unfolding behind_line
is_second = record { at = behind_line; segment = trailer; more = []; whole = refl; spelled = second_segment }

pub are_two : IsSpelledBy two_lines 2
are_two = record {
  segments = with_terminator ∷ trailer ∷ [];
  opening = [];
  body = two_lines;
  reads = (
    standard,
    record {
      whole = refl;
      opens = inr (opens 70 (codes "TX+A?'B'\r\nUNT'") (λ e. omega arith));
      spelled = then released (codes "\r\nUNT'") first_segment (then (codes "\r\n") (codes "UNT'") (inl refl, (inr refl, tt)) (then (codes "UNT'") [] second_segment (then [] [] tt refl)));
    },
  );
  counted = refl;
}
