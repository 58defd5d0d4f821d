-- What the texts with release characters spell, and which fault they have.
use Rattle.std.proofs.Common.{[], ◌∷◌, codes, inl, inr, refl, lit≤, arith}
use Rattle.edi_text.specs.FirstFault.{IsFirstFault}
use Rattle.edi_text.specs.Marks.{element_marks}
use Rattle.edi_text.specs.Spelling.{standard, Spells}
use Rattle.edi_text.specs.declared.fault.EdiFault.TheVariants.{Release}
use Rattle.crp_callers.specs.Released.{with_terminator, released, broken_off}
use Rattle.crp_callers.proofs.Letters.{letter, then, opens, first_segment}

pub is_spelled : Spells released (with_terminator ∷ [])
is_spelled = record {
  within = lit≤ tt;
  some = λ e. cc;
  signs = standard;
  opening = [];
  body = released;
  reads = record {
    whole = refl;
    opens = inr (opens 70 (codes "TX+A?'B'") (λ e. omega arith));
    spelled = then released [] first_segment (then [] [] tt refl);
  };
}

pub is_fault : IsFirstFault broken_off (Release 3)
is_fault = (
  lit≤ tt,
  inr (record {
    signs = standard;
    segments = [];
    opening = [];
    body = [];
    rest = broken_off;
    reads = record { whole = refl; opens = inr (opens 70 (codes "TX?") (λ e. omega arith)); spelled = refl };
    passed = inl refl;
    shows = (
      λ e. cc,
      record {
        marks = element_marks (codes "FTX" ∷ []);
        front = codes "FTX";
        back = codes "?";
        whole = refl;
        spelled = then (70 ∷ []) (codes "TX") (letter 70 (lit≤ tt)) (then (84 ∷ []) (codes "X") (letter 84 (lit≤ tt)) (then (88 ∷ []) [] (letter 88 (lit≤ tt)) refl));
        inside = (λ e. cc, (λ e. cc, (λ e. cc, tt)));
        stop = (refl, refl);
      },
    );
  }),
)
