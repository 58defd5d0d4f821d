-- Texts of lists of sizes, worked by hand.
use Rattle.std.proofs.Common.{◌≡◌, ◌≤◌, ◌+◌, ℕ, List, [], ◌∷◌, length, refl, inl, inr, arith}
use Rattle.std.specs.Prelude.{codes}
use Rattle.std.specs.List.{AllByRecursion}
use Rattle.std.proofs.lemmas.Bool.{false≢true}
use Rattle.std.proofs.lemmas.List.Elements.{All-from_recursion}
use Rattle.csv.proofs.OnLiterals.{csv_on_literals}
use Rattle.crp_plan.specs.Faults.{HasTiers}
use Rattle.crp_sizes.specs.Fields.{records_of}
use Rattle.crp_sizes.specs.declared.fault.SizesFault.TheVariants.{Header, Digits, Heights, Twice}
use Rattle.crp_sizes.specs.Heights.{IsHeightsText, heights_text}
use Rattle.crp_sizes.specs.Sizes.{BaySize}
use Rattle.crp_sizes.specs.Records.{GivesSize, AreSizes, IsSizesList}
use Rattle.crp_sizes.specs.Faults.{IsFirstFault}
use Rattle.crp_sizes.proofs.HeaderSteps.{no_header}
use Rattle.crp_sizes.proofs.HeightSteps.{none_there, none_so_long}

written : (heights : List ℕ) → 1 ≤ length heights → length heights ≤ 12 → AllByRecursion HasTiers heights → IsHeightsText heights (heights_text heights)
written heights some few all = (((some, few), All-from_recursion HasTiers heights all), refl)

abbrev A7 : BaySize
A7 = (record { block = codes "A"; bay = 7 }, 3 ∷ [])

A7_of : GivesSize (codes "A" ∷ codes "7" ∷ codes "3" ∷ []) A7
A7_of = record { formed = refl; numbered = refl; bay = refl; heights = written (3 ∷ []) (omega arith) (omega arith) ((omega arith, omega arith), tt) }

pub listed : IsSizesList (codes "block,bay,heights\nA,7,5.5.5.5.4\nB,12,3\n") ((record { block = codes "A"; bay = 7 }, 5 ∷ 5 ∷ 5 ∷ 5 ∷ 4 ∷ []) ∷ (record { block = codes "B"; bay = 12 }, 3 ∷ []) ∷ [])
unfolding csv_on_literals Rattle.std.specs.List.IsDistinct
listed = record {
  short = omega arith;
  listed = record {
    rest = (codes "A" ∷ codes "7" ∷ codes "5.5.5.5.4" ∷ []) ∷ (codes "B" ∷ codes "12" ∷ codes "3" ∷ []) ∷ [];
    begun = refl;
    sized = record {
      given = (
        record { formed = refl; numbered = refl; bay = refl; heights = written (5 ∷ 5 ∷ 5 ∷ 5 ∷ 4 ∷ []) (omega arith) (omega arith) ((omega arith, omega arith), ((omega arith, omega arith), ((omega arith, omega arith), ((omega arith, omega arith), ((omega arith, omega arith), tt))))) },
        (record { formed = refl; numbered = refl; bay = refl; heights = written (3 ∷ []) (omega arith) (omega arith) ((omega arith, omega arith), tt) }, tt),
      );
      once = ((refl, tt), (tt, tt));
    };
  };
}

pub empty : IsSizesList (codes "block,bay,heights\n") []
unfolding csv_on_literals Rattle.std.specs.List.IsDistinct
empty = record { short = omega arith; listed = record { rest = []; begun = refl; sized = record { given = tt; once = tt } } }

none_nine : (heights : List ℕ) → IsHeightsText heights (codes "3.9") → ⊥
none_nine = none_there (codes "3.9") 1 (omega arith) (λ height has. let digit : 57 ≡ 48 + height = has.1 in let low : height ≤ 8 = has.2.1 in absurd (omega (arith, digit, low)))

one_size : AreSizes ((codes "A" ∷ codes "7" ∷ codes "3" ∷ []) ∷ []) (A7 ∷ [])
unfolding Rattle.std.specs.List.IsDistinct
one_size = record { given = (A7_of, tt); once = (tt, tt) }

pub nine : IsFirstFault (codes "block,bay,heights\nA,7,3\nA,8,3.9\n") (Heights 3)
unfolding csv_on_literals
nine = inr (
  omega arith,
  inr (record {
    before = (codes "A" ∷ codes "7" ∷ codes "3" ∷ []) ∷ [];
    sizes = A7 ∷ [];
    fields = codes "A" ∷ codes "8" ∷ codes "3.9" ∷ [];
    after = [];
    parts = refl;
    sized = one_size;
    faulty = (refl, refl, refl, none_nine);
  }),
)

again_of : GivesSize (codes "A" ∷ codes "07" ∷ codes "2.2" ∷ []) (record { block = codes "A"; bay = 7 }, 2 ∷ 2 ∷ [])
again_of = record { formed = refl; numbered = refl; bay = refl; heights = written (2 ∷ 2 ∷ []) (omega arith) (omega arith) ((omega arith, omega arith), ((omega arith, omega arith), tt)) }

pub again : IsFirstFault (codes "block,bay,heights\nA,7,3\nA,07,2.2\n") (Twice 3)
unfolding csv_on_literals
again = inr (
  omega arith,
  inr (record {
    before = (codes "A" ∷ codes "7" ∷ codes "3" ∷ []) ∷ [];
    sizes = A7 ∷ [];
    fields = codes "A" ∷ codes "07" ∷ codes "2.2" ∷ [];
    after = [];
    parts = refl;
    sized = one_size;
    faulty = (refl, (record { block = codes "A"; bay = 7 }, 2 ∷ 2 ∷ []), again_of, refl);
  }),
)

pub zero_bay : IsFirstFault (codes "block,bay,heights\nA,0,3\nA\n") (Digits 2)
unfolding csv_on_literals Rattle.std.specs.List.IsDistinct
zero_bay = inr (
  omega arith,
  inr (record {
    before = [];
    sizes = [];
    fields = codes "A" ∷ codes "0" ∷ codes "3" ∷ [];
    after = (codes "A" ∷ []) ∷ [];
    parts = refl;
    sized = record { given = tt; once = tt };
    faulty = (refl, refl, λ t. false≢true t);
  }),
)

pub thirteen : IsFirstFault (codes "block,bay,heights\nA,7,1.1.1.1.1.1.1.1.1.1.1.1.1\n") (Heights 2)
unfolding csv_on_literals Rattle.std.specs.List.IsDistinct
thirteen = inr (
  omega arith,
  inr (record {
    before = [];
    sizes = [];
    fields = codes "A" ∷ codes "7" ∷ codes "1.1.1.1.1.1.1.1.1.1.1.1.1" ∷ [];
    after = [];
    parts = refl;
    sized = record { given = tt; once = tt };
    faulty = (refl, refl, refl, none_so_long (codes "1.1.1.1.1.1.1.1.1.1.1.1.1") (inr (omega arith)));
  }),
)

pub bare : IsFirstFault (codes "A,7,3\n") (Header 1)
unfolding csv_on_literals
bare = inr (omega arith, inl (refl, no_header (records_of (codes "A,7,3\n")) (codes "A" ∷ codes "7" ∷ codes "3" ∷ []) [] refl refl))
