-- A run that ended before all was written: its certificates are in step with the lines of its bays.
use Rattle.std.proofs.Common.{◌≡◌, ◌<◌, ◌∙◌, ◌⊎◌, ℕ, List, [], ◌∷◌, ◌++◌, None, Some, refl, sym, ap, subst, inl, inr, append-nil, append_assoc, take, length}
use Rattle.std.specs.Prelude.{if◌then◌else◌}
use Rattle.std.proofs.lemmas.Grind.{flat_map-append}
use Rattle.std.proofs.Math.Seq.{take-length}
use Rattle.crp_report.specs.declared.fault.Fault.{Fault}
use Rattle.crp_report.specs.declared.fault.Fault.TheVariants as fault
use Rattle.crp_report.specs.declared.fault.Output.{Output}
use Rattle.crp_report.specs.declared.fault.Output.TheVariants as output
use Rattle.crp_report.specs.Answered.{Answered}
use Rattle.crp_report.specs.Chosen.{RunChosen}
use Rattle.crp_report.specs.Report.{AreLinesOfBays, last_line, certificate_of, certificates_text}
use Rattle.crp_report.specs.Runs.{RunSeen, Made, IsMade, StopsAt, RunFailsWith}
use Rattle.crp_report.specs.Pieces.{Piece, piece, is_same, bytes_for, ArePieces, written}
use Rattle.crp_callers.specs.InStep.{front, IsNext, AreInStep, EndWithinCertificate, StopsWithin, EndsFor}
use Rattle.crp_callers.proofs.Cuts.{Have, IsNextOf, AtLines, AtCertificate, AtEnd, IsCut, head_is, tail_is, cut}

-- ---- a piece more

-- what a sink gets of a piece
abbrev pub got_of : Output → Piece → List ℕ
got_of sink p = if is_same sink p.to then p.bytes else []

pub have_piece : (before : List Piece) (p : Piece) (report certificates : List ℕ) → Have before report certificates
    → Have (before ++ p ∷ []) (report ++ got_of output.Report p) (certificates ++ got_of output.Certificates p)
have_piece before p report certificates have = record {
  got_report = flat_map-append (got_of output.Report) before (p ∷ []) ∙ ap (λ l. l ++ (got_of output.Report p ++ [])) have.got_report ∙ ap (λ l. report ++ l) (append-nil (got_of output.Report p));
  got_certificates = flat_map-append (got_of output.Certificates) before (p ∷ []) ∙ ap (λ l. l ++ (got_of output.Certificates p ++ [])) have.got_certificates ∙ ap (λ l. certificates ++ l) (append-nil (got_of output.Certificates p));
}

-- the first line before others
have_first : (a : Piece) (pieces : List Piece) (first report certificates : List ℕ) → piece output.Report first ≡ a → Have pieces report certificates
    → Have (a ∷ pieces) (first ++ report) certificates
have_first a pieces first report certificates is have =
    subst (λ (p : Piece). Have (p ∷ pieces) (first ++ report) certificates) is (record { got_report = ap (λ l. first ++ l) have.got_report; got_certificates = have.got_certificates })

-- a front of a piece
abbrev part_of : ℕ → Piece → Piece
part_of taken p = piece p.to (take taken p.bytes)

have_part : (a : Piece) (before : List Piece) (now as_is : Piece) (taken : ℕ) (first report certificates : List ℕ) → piece output.Report first ≡ a → now ≡ as_is
    → Have before report certificates
    → Have (a ∷ before ++ part_of taken now ∷ []) (first ++ (report ++ got_of output.Report (part_of taken as_is))) (certificates ++ got_of output.Certificates (part_of taken as_is))
have_part a before now as_is taken first report certificates is now_is have =
    subst (λ (p : Piece). Have (a ∷ before ++ part_of taken p ∷ []) (first ++ (report ++ got_of output.Report (part_of taken as_is))) (certificates ++ got_of output.Certificates (part_of taken as_is)))
    (sym now_is) (have_first a (before ++ part_of taken as_is ∷ []) first _ _ is (have_piece before (part_of taken as_is) report certificates have))

-- ---- within a piece

-- where the pieces are cut: at the first line, or behind it
first_cut : (m : Made) (before : List Piece) (now : Piece) (behind : List Piece) → ArePieces (front m) m.answered m.yard_after (before ++ now ∷ behind)
    → ((before ≡ []) × (now ≡ piece output.Report (front m)))
    ⊎ ((a : Piece) × (more : List Piece) × (before ≡ a ∷ more) × (piece output.Report (front m) ≡ a) × IsCut (last_line m.answered) m.yard_after m.answered more now behind)
first_cut m [] now behind are = inl (refl, head_is _ _ _ _ are.2)
first_cut m (a ∷ more) now behind are =
    inr (a, more, refl, sym (head_is _ _ _ _ are.2), cut (last_line m.answered) m.yard_after m.answered are.0 are.1 more now behind (sym (tail_is _ _ _ _ are.2)))

goes_to : (now : Piece) (to other : Output) (bytes : List ℕ) → now.to ≡ to → now ≡ piece other bytes → other ≡ to
goes_to now to other bytes is now_is = sym (ap (λ (p : Piece). p.to) now_is) ∙ is

-- what the sinks got where a piece was cut off
abbrev Within : (Made → List ℕ → List ℕ → Type 0) → Made → List Piece → Piece → ℕ → Type 0
Within Is m before now taken = Is m (bytes_for output.Report (before ++ part_of taken now ∷ [])) (bytes_for output.Certificates (before ++ part_of taken now ∷ []))

-- the first piece and the others
abbrev IsFirstCut : Made → List Piece → Piece → List Piece → Type 0
IsFirstCut m before now behind =
    ((before ≡ []) × (now ≡ piece output.Report (front m)))
    ⊎ ((a : Piece) × (more : List Piece) × (before ≡ a ∷ more) × (piece output.Report (front m) ≡ a) × IsCut (last_line m.answered) m.yard_after m.answered more now behind)

-- in the first line
in_first : (m : Made) (before : List Piece) (now : Piece) (taken : ℕ) → before ≡ [] → now ≡ piece output.Report (front m) → Within AreInStep m before now taken
in_first m before now taken none is =
    subst (λ (l : List Piece). Within AreInStep m l now taken) (sym none)
    (subst (λ (p : Piece). Within AreInStep m [] p taken) (sym is) (inl (taken, append-nil (take taken (front m)), refl)))

next_of : (m : Made) (left : List Answered) (next : List ℕ) → IsNextOf (last_line m.answered) left next → IsNext m left next
next_of m [] next is = is
next_of m (bay ∷ left) next is = is

-- in the lines of a bay, or in the last line
in_lines : (m : Made) (a : Piece) (more : List Piece) (now : Piece) (taken : ℕ) → piece output.Report (front m) ≡ a → AtLines (last_line m.answered) m.answered more now
    → Within AreInStep m (a ∷ more) now taken
in_lines m a more now taken first at =
    let have = have_part a more now (piece output.Report at.next) taken (front m) at.lines (certificates_text at.done) first at.now_is at.have in
    inr (record {
      done = at.done;
      left = at.left;
      answered_are = at.answered_are;
      lines = at.lines;
      are_lines = at.are_lines;
      next = at.next;
      is_next = next_of m at.left at.next at.is_next;
      taken = taken;
      report_is = have.got_report;
      certificates_are = have.got_certificates ∙ append-nil (certificates_text at.done);
    })

in_report : (m : Made) (before : List Piece) (now : Piece) (taken : ℕ) (behind : List Piece) → IsFirstCut m before now behind → now.to ≡ output.Report → Within AreInStep m before now taken
in_report m before now taken behind (inl is) to = in_first m before now taken is.0 is.1
in_report m before now taken behind (inr (a, more, is, first, inl at)) to = subst (λ (l : List Piece). Within AreInStep m l now taken) (sym is) (in_lines m a more now taken first at)
in_report m before now taken behind (inr (a, more, is, first, inr (inl at))) to = let other = goes_to now output.Report output.Certificates _ to at.now_is in cc
in_report m before now taken behind (inr (a, more, is, first, inr (inr at))) to = let other = goes_to now output.Report output.YardAfter _ to at.now_is in cc

-- in the certificate of a bay
in_certificate : (m : Made) (a : Piece) (more : List Piece) (now : Piece) (taken : ℕ) → piece output.Report (front m) ≡ a → taken < length now.bytes
    → AtCertificate m.answered more now → Within EndWithinCertificate m (a ∷ more) now taken
in_certificate m a more now taken first not_all at =
    let have = have_part a more now (piece output.Certificates (certificate_of at.bay)) taken (front m) (at.lines ++ at.own) (certificates_text at.done) first at.now_is at.have in
    record {
      done = at.done;
      bay = at.bay;
      left = at.left;
      answered_are = at.answered_are;
      lines = at.lines;
      are_lines = at.are_lines;
      last = at.own;
      are_last = at.are_own;
      taken = taken;
      not_all = subst (λ (p : Piece). taken < length p.bytes) at.now_is not_all;
      report_is = have.got_report ∙ ap (λ l. front m ++ l) (append-nil (at.lines ++ at.own));
      certificates_are = have.got_certificates;
    }

in_certificates : (m : Made) (before : List Piece) (now : Piece) (taken : ℕ) (behind : List Piece) → IsFirstCut m before now behind → now.to ≡ output.Certificates
    → taken < length now.bytes → Within EndWithinCertificate m before now taken
in_certificates m before now taken behind (inl is) to not_all = let other = goes_to now output.Certificates output.Report _ to is.1 in cc
in_certificates m before now taken behind (inr (a, more, is, first, inl at)) to not_all = let other = goes_to now output.Certificates output.Report _ to at.now_is in cc
in_certificates m before now taken behind (inr (a, more, is, first, inr (inl at))) to not_all =
    subst (λ (l : List Piece). Within EndWithinCertificate m l now taken) (sym is) (in_certificate m a more now taken first not_all at)
in_certificates m before now taken behind (inr (a, more, is, first, inr (inr at))) to not_all = let other = goes_to now output.Certificates output.YardAfter _ to at.now_is in cc

-- in the yard after, which is the last piece
abbrev AreWhole : Made → List ℕ → List ℕ → Type 0
AreWhole m report certificates = (report ≡ m.report) × (certificates ≡ certificates_text m.answered)

in_last : (m : Made) (a : Piece) (more : List Piece) (now : Piece) (taken : ℕ) (behind : List Piece) → piece output.Report (front m) ≡ a
    → bytes_for output.Report (a ∷ more ++ now ∷ behind) ≡ m.report → AtEnd (last_line m.answered) m.yard_after m.answered more now behind
    → Within AreWhole m (a ∷ more) now taken
in_last m a more now taken behind first whole at =
    let have = have_part a more now (piece output.YardAfter m.yard_after) taken (front m) (at.lines ++ last_line m.answered) (certificates_text m.answered) first at.now_is at.have in
    let all : Have (a ∷ more ++ now ∷ []) (front m ++ ((at.lines ++ last_line m.answered) ++ [])) (certificates_text m.answered ++ []) =
    subst (λ (p : Piece). Have (a ∷ more ++ p ∷ []) (front m ++ ((at.lines ++ last_line m.answered) ++ [])) (certificates_text m.answered ++ [])) (sym at.now_is)
    (have_first a (more ++ piece output.YardAfter m.yard_after ∷ []) (front m) _ _ first (have_piece more (piece output.YardAfter m.yard_after) _ _ at.have)) in (
      have.got_report ∙ sym all.got_report ∙ subst (λ (l : List Piece). bytes_for output.Report (a ∷ more ++ now ∷ l) ≡ m.report) at.none_behind whole,
      have.got_certificates ∙ append-nil (certificates_text m.answered),
    )

in_yard_after : (m : Made) (before : List Piece) (now : Piece) (taken : ℕ) (behind : List Piece) → IsFirstCut m before now behind → now.to ≡ output.YardAfter
    → bytes_for output.Report (before ++ now ∷ behind) ≡ m.report → Within AreWhole m before now taken
in_yard_after m before now taken behind (inl is) to whole = let other = goes_to now output.YardAfter output.Report _ to is.1 in cc
in_yard_after m before now taken behind (inr (a, more, is, first, inl at)) to whole = let other = goes_to now output.YardAfter output.Report _ to at.now_is in cc
in_yard_after m before now taken behind (inr (a, more, is, first, inr (inl at))) to whole = let other = goes_to now output.YardAfter output.Certificates _ to at.now_is in cc
in_yard_after m before now taken behind (inr (a, more, is, first, inr (inr at))) to whole =
    subst (λ (l : List Piece). Within AreWhole m l now taken) (sym is)
    (in_last m a more now taken behind first (subst (λ (l : List Piece). bytes_for output.Report (l ++ now ∷ behind) ≡ m.report) is whole) at)

-- ---- between two pieces

-- between two pieces, where these were written
abbrev Between : Made → List Piece → Type 0
Between m done = AreInStep m (bytes_for output.Report done) (bytes_for output.Certificates done)

with_bays : (m : Made) (a : Piece) (more : List Piece) (done left : List Answered) (lines next : List ℕ) (taken : ℕ) → piece output.Report (front m) ≡ a → m.answered ≡ done ++ left
    → AreLinesOfBays done lines → IsNext m left next → Have more (lines ++ take taken next) (certificates_text done) → Between m (a ∷ more)
with_bays m a more done left lines next taken first is are_lines is_next have =
    let all = have_first a more (front m) (lines ++ take taken next) (certificates_text done) first have in
    inr (record {
      done = done;
      left = left;
      answered_are = is;
      lines = lines;
      are_lines = are_lines;
      next = next;
      is_next = is_next;
      taken = taken;
      report_is = all.got_report;
      certificates_are = all.got_certificates;
    })

between : (m : Made) (a : Piece) (more behind : List Piece) (now : Piece) → piece output.Report (front m) ≡ a
    → IsCut (last_line m.answered) m.yard_after m.answered more now behind → Between m (a ∷ more)
between m a more behind now first (inl at) =
    with_bays m a more at.done at.left at.lines at.next 0 first at.answered_are at.are_lines (next_of m at.left at.next at.is_next)
    (subst (λ (l : List ℕ). Have more l (certificates_text at.done)) (sym (append-nil at.lines)) at.have)
between m a more behind now first (inr (inl at)) =
    with_bays m a more at.done (at.bay ∷ at.left) at.lines at.own (length at.own) first at.answered_are at.are_lines at.are_own
    (subst (λ (l : List ℕ). Have more (at.lines ++ l) (certificates_text at.done)) (sym (take-length at.own)) at.have)
between m a more behind now first (inr (inr at)) =
    with_bays m a more m.answered [] at.lines (last_line m.answered) (length (last_line m.answered)) first (sym (append-nil m.answered)) at.are_lines refl
    (subst (λ (l : List ℕ). Have more (at.lines ++ l) (certificates_text m.answered)) (sym (take-length (last_line m.answered))) at.have)

-- behind all of them
after_all : (m : Made) (a : Piece) (more before : List Piece) → piece output.Report (front m) ≡ a → more ≡ before ++ piece output.YardAfter m.yard_after ∷ []
    → IsCut (last_line m.answered) m.yard_after m.answered before (piece output.YardAfter m.yard_after) [] → Between m (a ∷ more)
after_all m a more before first is (inl at) = let other = ap (λ (p : Piece). p.to) at.now_is in cc
after_all m a more before first is (inr (inl at)) = let other = ap (λ (p : Piece). p.to) at.now_is in cc
after_all m a more before first is (inr (inr at)) =
    let last = last_line m.answered in
    with_bays m a more m.answered [] at.lines last (length last) first (sym (append-nil m.answered)) at.are_lines refl
    (subst (λ (l : List Piece). Have l (at.lines ++ take (length last) last) (certificates_text m.answered)) (sym is)
    (subst (λ (l : List ℕ). Have (before ++ piece output.YardAfter m.yard_after ∷ []) (at.lines ++ l) (certificates_text m.answered)) (sym (take-length last))
    (subst (λ (l : List ℕ). Have (before ++ piece output.YardAfter m.yard_after ∷ []) l (certificates_text m.answered)) (append-nil (at.lines ++ last))
    (subst (λ (l : List ℕ). Have (before ++ piece output.YardAfter m.yard_after ∷ []) ((at.lines ++ last) ++ []) l) (append-nil (certificates_text m.answered))
    (have_piece before (piece output.YardAfter m.yard_after) (at.lines ++ last) (certificates_text m.answered) at.have)))))

so_far : (m : Made) (done behind : List Piece) → ArePieces (front m) m.answered m.yard_after (done ++ behind) → Between m done
so_far m [] behind are = inl (0, refl, refl)
so_far m (a ∷ more) (now ∷ later) are =
    between m a more later now (sym (head_is _ _ _ _ are.2)) (cut (last_line m.answered) m.yard_after m.answered are.0 are.1 more now later (sym (tail_is _ _ _ _ are.2)))
so_far m (a ∷ more) [] are =
    let last = piece output.Report (last_line m.answered) in
    let end = piece output.YardAfter m.yard_after in
    let is : (are.0 ++ last ∷ []) ++ end ∷ [] ≡ are.0 ++ last ∷ end ∷ [] = append_assoc are.0 (last ∷ []) (end ∷ []) in
    after_all m a more (are.0 ++ last ∷ []) (sym (head_is _ _ _ _ are.2)) (sym (append-nil more) ∙ tail_is _ _ _ _ are.2 ∙ sym is)
    (cut (last_line m.answered) m.yard_after m.answered are.0 are.1 (are.0 ++ last ∷ []) end [] (sym is))

-- ---- a run

-- what a run saw that read two texts, with the bytes of two of its sinks before and after it
abbrev pub seen_of : (yard movins old_report new_report old_certificates new_certificates : List ℕ) (y y' m m' r r' c c' a a' separator : ℕ) → RunSeen
seen_of yard movins old_report new_report old_certificates new_certificates y y' m m' r r' c c' a a' separator = record {
  yard = record { given = Some yard; before = y; after = y' };
  movins = record { given = Some movins; before = m; after = m' };
  report = record { held = Some old_report; holds = Some new_report; before = r; after = r' };
  certificates = record { held = Some old_certificates; holds = Some new_certificates; before = c; after = c' };
  yard_after = record { held = None; holds = None; before = a; after = a' };
  separator = separator;
}

-- the two sinks got bytes of a run that ended for this fault
abbrev pub Ended : RunChosen → List ℕ → List ℕ → (old_report new_report old_certificates new_certificates : List ℕ) → Fault → Type 0
Ended chosen yard movins old_report new_report old_certificates new_certificates f =
    (lines : List ℕ) × (parts : List ℕ) × (new_report ≡ old_report ++ lines) × (new_certificates ≡ old_certificates ++ parts) × EndsFor chosen yard movins f lines parts

-- how far the writing came
stops : (chosen : RunChosen) (s : RunSeen) (m : Made) → IsMade chosen s m → (sink : Output) (at : StopsAt m s sink)
    → StopsWithin sink m (bytes_for output.Report (written at.0)) (bytes_for output.Certificates (written at.0))
stops chosen s m is output.Report at = in_report m at.0.before at.0.failed at.0.taken at.0.behind (first_cut m at.0.before at.0.failed at.0.behind at.1.0) at.2
stops chosen s m is output.Certificates at = in_certificates m at.0.before at.0.failed at.0.taken at.0.behind (first_cut m at.0.before at.0.failed at.0.behind at.1.0) at.2 at.0.not_all
stops chosen s m is output.YardAfter at =
    in_yard_after m at.0.before at.0.failed at.0.taken at.0.behind (first_cut m at.0.before at.0.failed at.0.behind at.1.0) at.2 (at.1.1 output.Report)

pub ended : (chosen : RunChosen) (yard movins old_report new_report old_certificates new_certificates : List ℕ) (y y' m m' r r' c c' a a' separator : ℕ) (f : Fault)
    → RunFailsWith chosen (seen_of yard movins old_report new_report old_certificates new_certificates y y' m m' r r' c c' a a' separator) f
    → Ended chosen yard movins old_report new_report old_certificates new_certificates f
ended chosen yard movins ro rn co cn y y' m m' r r' c c' a a' separator (fault.Yard f) fails = ([], [], fails.0.0 ∙ sym (append-nil ro), fails.0.1 ∙ sym (append-nil co), (refl, refl))
ended chosen yard movins ro rn co cn y y' m m' r r' c c' a a' separator (fault.Interchange f) fails = ([], [], fails.0.0 ∙ sym (append-nil ro), fails.0.1 ∙ sym (append-nil co), (refl, refl))
ended chosen yard movins ro rn co cn y y' m m' r r' c c' a a' separator (fault.Message f) fails = ([], [], fails.0.0 ∙ sym (append-nil ro), fails.0.1 ∙ sym (append-nil co), (refl, refl))
ended chosen yard movins ro rn co cn y y' m m' r r' c c' a a' separator (fault.Read source) fails = ([], [], fails.0.0 ∙ sym (append-nil ro), fails.0.1 ∙ sym (append-nil co), (refl, refl))
ended chosen yard movins ro rn co cn y y' m m' r r' c c' a a' separator (fault.Write sink) fails =
    let s = seen_of yard movins ro rn co cn y y' m m' r r' c c' a a' separator in
    let fronts = fails.0 in
    let at = fronts.4 in (
      bytes_for output.Report (written at.0),
      bytes_for output.Certificates (written at.0),
      at.3 output.Report,
      at.3 output.Certificates,
      (fronts.0, (s, refl, refl, fronts.1), stops chosen s fronts.0 fronts.1 sink at),
    )
ended chosen yard movins ro rn co cn y y' m m' r r' c c' a a' separator fault.Memory (inl nothing) = ([], [], nothing.0 ∙ sym (append-nil ro), nothing.1 ∙ sym (append-nil co), inl (refl, refl))
ended chosen yard movins ro rn co cn y y' m m' r r' c c' a a' separator fault.Memory (inr some) =
    let s = seen_of yard movins ro rn co cn y y' m m' r r' c c' a a' separator in
    let pieces = some.3 in (
      bytes_for output.Report pieces.0,
      bytes_for output.Certificates pieces.0,
      pieces.3 output.Report,
      pieces.3 output.Certificates,
      inr (some.0, (s, refl, refl, some.1), so_far some.0 pieces.0 pieces.1 pieces.2.0),
    )
