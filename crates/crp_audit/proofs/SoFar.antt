-- Lines that were followed so far.
use Rattle.std.proofs.Common.{◌≡◌, ℕ, ◌<◌, List, [], ◌∷◌, ◌++◌, length, length-append, refl, sym, ap, ◌∙◌, subst, arith, append_assoc, append-nil}
use Rattle.crp_plan.specs.declared.moves.Move.{Move}
use Rattle.crp_plan.specs.declared.moves.Move.TheVariants.{Shift, Take}
use Rattle.crp_plan.specs.Bay.{Problem, Position, IsProblem, IsSound, Legal, Runs, start, path_of}
use Rattle.crp_plan.proofs.Covered.{runs-append, path_of-append}
use Rattle.crp_plan.proofs.Determined.{legal_is}
use Rattle.crp_plan.proofs.Sound.{sound_start, sound_legal}
use Rattle.crp_said.specs.MoveLines.{move_line, AreMoveLines}
use Rattle.crp_audit.specs.Replayed.{LeadsTo}

-- the lines before this rest lead to this place, by this path
pub record AreFollowed (names : List (List ℕ)) (from : Position) (lines : List ℕ) (here : Position) (path rest : List ℕ) : Type 0 where
  pub moves : List Move
  pub before : List ℕ
  pub leads : LeadsTo names from before moves here
  pub sound : IsSound here
  pub is : lines ≡ before ++ rest
  pub path_is : path ≡ path_of moves

pub none_followed : (names : List (List ℕ)) (p : Problem) (lines : List ℕ) → IsProblem p → AreFollowed names (start p) lines (start p) [] lines
none_followed names p lines is = record {
  moves = [];
  before = [];
  leads = record { runs = refl; printed = refl };
  sound = sound_start p is;
  is = refl;
  path_is = refl;
}

printed_more : (names : List (List ℕ)) (s : Position) (moves : List Move) (here : Position) (m : Move) (t : Position) (text : List ℕ) → Runs s moves here
    → AreMoveLines names s moves text → Legal here m t → AreMoveLines names s (moves ++ m ∷ []) (text ++ move_line names here m)
printed_more names s [] here m t text runs stated legal = (
  t,
  [],
  subst (λ (p : Position). Legal p m t) (sym runs) legal,
  refl,
  ap (λ l. l ++ move_line names here m) stated ∙ ap (λ (p : Position). move_line names p m) (sym runs) ∙ sym (append-nil (move_line names s m)),
)
printed_more names s (n ∷ moves) here m t text (v, step, runs) (u, q, also, stated, is) legal =
    let same : v ≡ u = legal_is s n v u step also in (
      u,
      q ++ move_line names here m,
      also,
      printed_more names u moves here m t q (subst (λ (p : Position). Runs p moves here) same runs) stated legal,
      ap (λ l. l ++ move_line names here m) is ∙ append_assoc (move_line names s n) q (move_line names here m),
    )

pub one_followed : (names : List (List ℕ)) (from : Position) (lines : List ℕ) (here next : Position) (path new rest after : List ℕ) (m : Move)
    → AreFollowed names from lines here path rest → Legal here m next → rest ≡ move_line names here m ++ after → new ≡ path ++ path_of (m ∷ [])
    → AreFollowed names from lines next new after
one_followed names from lines here next path new rest after m so legal e longer =
    let leads = so.leads in
    record {
      moves = so.moves ++ m ∷ [];
      before = so.before ++ move_line names here m;
      leads = record {
        runs = runs-append from here next so.moves (m ∷ []) leads.runs (next, legal, refl);
        printed = printed_more names from so.moves here m next so.before leads.runs leads.printed legal;
      };
      sound = sound_legal here m next so.sound legal;
      is = so.is ∙ ap (λ l. so.before ++ l) e ∙ sym (append_assoc so.before (move_line names here m) after);
      path_is = longer ∙ ap (λ l. l ++ path_of (m ∷ [])) so.path_is ∙ sym (path_of-append so.moves (m ∷ []));
    }

-- a line has some bytes
some_bytes : (names : List (List ℕ)) (s : Position) (m : Move) (x : List ℕ) → length x < length (move_line names s m ++ x)
some_bytes names s (Take row) x = omega (arith, length-append (move_line names s (Take row)) x)
some_bytes names s (Shift from to) x = omega (arith, length-append (move_line names s (Shift from to)) x)

pub fewer_left : (names : List (List ℕ)) (s : Position) (m : Move) (rest after : List ℕ) → rest ≡ move_line names s m ++ after → length after < length rest
fewer_left names s m rest after e = subst (λ l. length after < length l) (sym e) (some_bytes names s m after)
