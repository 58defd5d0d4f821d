-- Files of no certificate, and of two.
use Rattle.std.proofs.Common.{◌≡◌, ◌≢◌, ℕ, List, [], ◌∷◌, ◌++◌, refl, sym, inl, inr, append-nil, arith}
use Rattle.std.specs.Prelude.{codes}
use Rattle.std.proofs.lemmas.List.Elements.{All-from_recursion}
use Rattle.crp_plan.specs.BayNames.{YardBay}
use Rattle.crp_cert.specs.declared.fault.CertFault.TheVariants.{Opening}
use Rattle.crp_cert.specs.declared.version.Version.{Version}
use Rattle.crp_cert.specs.declared.version.Version.TheVariants.{One, Two, Three}
use Rattle.crp_cert.specs.Text.{title_line}
use Rattle.crp_checker.specs.declared.refused.Refused.TheVariants.{Cert}
use Rattle.crp_checker.specs.declared.verdict.Verdict.{Verdict}
use Rattle.crp_checker.specs.Shown.{TextShowsFor}
use Rattle.crp_checker.specs.Files.{IsEnded, BeginsWithTexts, ShowEach, FileShows, IsFileRefusal}

pub nothing_shows : FileShows [] []
nothing_shows = ([], refl, tt)

no_title : (version : Version) (rest : List ℕ) → codes "CRP" ≡ title_line version ++ rest → ⊥
no_title One rest e = cc
no_title Two rest e = cc
no_title Three rest e = cc

-- a file that ends within a title is refused at its first certificate, for its first line
pub title_refused : IsFileRefusal (codes "CRP") [] 1 (Cert (Opening 1))
title_refused = record {
  texts = [];
  text = codes "CRP";
  after = [];
  begins = (
    [],
    refl,
    inr (
      record {
        lines = [];
        rest = codes "CRP";
        others = tt;
        part_line = All-from_recursion (λ b. b ≢ 10) (codes "CRP") (omega arith, (omega arith, (omega arith, tt)));
        is = refl;
        some_bytes = λ e. cc;
      },
      refl,
    ),
    refl,
  );
  shown = tt;
  number_is = refl;
  why = inr (inl (inl (refl, no_title)));
}

-- two certificates, one behind the other
pub two_begin : (first second : List ℕ) → IsEnded first → IsEnded second → BeginsWithTexts (first ++ second) (first ∷ second ∷ []) []
two_begin first second f s = (second, refl, inl f, ([], sym (append-nil second), inl s, refl))

-- what is shown of two texts
abbrev pub ShowTwo : List ℕ → List ℕ → List (YardBay × Verdict) → Type 0
ShowTwo first second verdicts =
    (a : YardBay × Verdict) × (b : YardBay × Verdict) × (verdicts ≡ a ∷ b ∷ []) × TextShowsFor first a.0 a.1 × TextShowsFor second b.0 b.1

pub show_two : (first second : List ℕ) (verdicts : List (YardBay × Verdict)) → ShowEach (first ∷ second ∷ []) verdicts → ShowTwo first second verdicts
show_two first second [] shown = absurd shown
show_two first second (a ∷ []) shown = absurd shown.1
show_two first second (a ∷ b ∷ []) shown = (a, b, refl, shown.0, shown.1.0)
show_two first second (a ∷ b ∷ d ∷ verdicts) shown = absurd shown.1.1
