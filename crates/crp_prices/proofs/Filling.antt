-- Columns that are filled from the last job before the low's turn back.
use Rattle.std.proofs.Common.{◌≡◌, ◌≢◌, ℕ, zero, suc, ◌+◌, ◌*◌, ◌<◌, ◌≤◌, true, false, List, [], ◌∷◌, length, drop, Some, slice_get, slice_set, slice_index, slice_index_or, refl, sym, ap, ◌∙◌, subst, ⊎_elim, arith, length-set}
use Rattle.std.specs.List.{AllByRecursion}
use Rattle.std.specs.Prelude.{if◌then◌else◌}
use Rattle.std.proofs.lemmas.Option.{same_Some, slice_get_within, slice_get-get_or}
use Rattle.std.proofs.lemmas.Bool.{cases_Bool, cases_eq, cases_lt}
use Rattle.crp_plan.proofs.Lists.{get_put_same, get_put_other}
use Rattle.crp_prices.specs.declared.job.MarkedJob.{MarkedJob}
use Rattle.crp_prices.specs.declared.pass.Pass.{Pass}
use Rattle.crp_prices.specs.PriceTable.{price_in}
use Rattle.crp_prices.specs.Ready.{IsReady}
use Rattle.crp_prices.specs.Pass.{earns_above, best}
use Rattle.crp_prices.specs.Columns.{from_on, AreRising, entry, IsColumn, IsInner}
use Rattle.crp_prices.specs.Tables.{own_jobs, AreColumns, AreInner, AreReadable, AreStarts}
use Rattle.crp_prices.proofs.Few.{AreFew, best_few}
use Rattle.crp_prices.proofs.Starts.{has_at, has_drop, late_on, Placed, placed, before_start, starts_rise}
use Rattle.crp_prices.proofs.Steps.{read_from, none_in, low_column, top_column}

-- all are 0
none_there : (xs : List ℕ) (i : ℕ) → AllByRecursion (λ x. x ≡ 0) xs → slice_index xs i ≡ 0
none_there [] i a = refl
none_there (x ∷ xs) zero a = a.0
none_there (x ∷ xs) (suc i) a = none_there xs i a.1

abbrev pub zeros : List ℕ
zeros = 0 ∷ 0 ∷ 0 ∷ 0 ∷ 0 ∷ 0 ∷ 0 ∷ 0 ∷ 0 ∷ []

-- a column that is put in
put_there : (P : List ℕ → Type 0) (columns : List (List ℕ)) (m : ℕ) (result column : List ℕ) → m < length columns → slice_get (slice_set columns m result) m ≡ Some column → P result → P column
put_there P columns m result column lt here p =
    let there : slice_get columns m ≡ Some (slice_index_or columns m []) = slice_get-get_or columns m [] lt in
    let same : column ≡ result = same_Some column result (sym here ∙ get_put_same columns m (slice_index_or columns m []) result there) in
    subst P (sym same) p

-- from the low's turn on nothing comes in
pub filled_end : (price : ℕ → ℕ → ℕ) (unit ordered : ℕ) (all : List MarkedJob) (low : ℕ) (starts : List ℕ) (columns : List (List ℕ)) → AreReadable all → AreStarts all starts → low < 98 →
    length columns ≡ length all + 1 → AreColumns price unit ordered all low (slice_index starts low) (slice_index starts low) (slice_set columns (slice_index starts low) zeros)
filled_end price unit ordered all low starts columns r s few long = record {
  each = omega (arith, length-set columns end zeros, long);
  are = λ i column after before here.
      let e : i ≡ end = omega arith in
      subst (λ n. IsColumn price unit ordered all low (drop n all) column) (sym e)
      (put_there (IsColumn price unit ordered all low (drop end all)) columns end zeros column (omega (arith, s.within low few)) (ap (slice_get (slice_set columns end zeros)) (sym e) ∙ here) last);
}
  where
    end : ℕ
    end = slice_index starts low

    last : IsColumn price unit ordered all low (drop end all) zeros
    last = subst (λ l. IsColumn price unit ordered all low l zeros) (sym (s.begins low few)) (record {
      rooms = refl;
      brings = λ room lt. none_there zeros room (refl, (refl, (refl, (refl, (refl, (refl, (refl, (refl, (refl, tt)))))))))
          ∙ sym (none_in price unit ordered all low (from_on low all) (λ y has. late_on low all r.rising y has) room);
    })

-- one more column
pub filled_more : (price : ℕ → ℕ → ℕ) (unit ordered : ℕ) (all : List MarkedJob) (low m end : ℕ) (columns : List (List ℕ)) (result : List ℕ) → m < length columns →
    AreColumns price unit ordered all low (suc m) end columns → IsColumn price unit ordered all low (drop m all) result → AreColumns price unit ordered all low m end (slice_set columns m result)
filled_more price unit ordered all low m end columns result lt are is = record {
  each = omega (arith, length-set columns m result, are.each);
  are = λ i column after before here. ⊎_elim
      (λ e. subst (λ n. IsColumn price unit ordered all low (drop n all) column) (sym e)
      (put_there (IsColumn price unit ordered all low (drop m all)) columns m result column lt (ap (slice_get (slice_set columns m result)) (sym e) ∙ here) is))
      (λ ne. are.are i column (omega arith) before (sym (get_put_other columns m i result ne) ∙ here))
      (cases_eq i m);
}

pub fewer_columns : (price : ℕ → ℕ → ℕ) (unit ordered : ℕ) (all : List MarkedJob) (low begin from end : ℕ) (columns : List (List ℕ)) → begin ≤ from →
    AreColumns price unit ordered all low begin end columns → AreColumns price unit ordered all low from end columns
fewer_columns price unit ordered all low begin from end columns le are = record { each = are.each; are = λ i column after before here. are.are i column (omega arith) before here }

pub column_there : (price : ℕ → ℕ → ℕ) (unit ordered : ℕ) (all : List MarkedJob) (low begin end : ℕ) (columns : List (List ℕ)) (i : ℕ) → AreColumns price unit ordered all low begin end columns →
    begin ≤ i → i ≤ end → i ≤ length all → IsColumn price unit ordered all low (drop i all) (slice_index_or columns i [])
column_there price unit ordered all low begin end columns i are after before within =
    are.are i (slice_index_or columns i []) after before (slice_get-get_or columns i [] (omega (arith, are.each)))

-- the numbers of a column are small
none_beyond : (xs : List ℕ) (k : ℕ) → length xs ≤ k → slice_index xs k ≡ 0
none_beyond [] k le = refl
none_beyond (x ∷ xs) zero le = absurd (omega arith)
none_beyond (x ∷ xs) (suc k) le = none_beyond xs k (omega arith)

small : (column : List ℕ) (most : ℕ) → length column ≡ 9 → ((k : ℕ) → k < 9 → slice_index column k ≤ most) → (k : ℕ) → slice_index column k ≤ most
small column most long is k = ⊎_elim (λ lt. is k lt) (λ ge. omega (arith, none_beyond column k (omega arith))) (cases_lt k 9)

-- the pass has only small prices
pub few_of : (pass : Pass) → IsReady pass → AreFew (price_in pass.table.now) 9999 pass.jobs.now
few_of pass ready = record { prices = ready.prices; soon = ready.readable.soon }

pub column_few : (price : ℕ → ℕ → ℕ) (unit ordered : ℕ) (all : List MarkedJob) (low i : ℕ) (column : List ℕ) → AreFew price 9999 all → low ≤ 98 →
    IsColumn price unit ordered all low (drop i all) column → (k : ℕ) → slice_index column k ≤ 8 * (98 * 9999)
column_few price unit ordered all low i column few le is = small column (8 * (98 * 9999)) is.rooms (λ k lt.
    omega (arith, is.brings k lt, best_few price unit ordered 9999 all few k 8 low 0 98 (drop i all) (λ x has. has_drop i all x has) (omega arith) (omega arith)))

pub inner_few : (price : ℕ → ℕ → ℕ) (unit ordered : ℕ) (all : List MarkedJob) (x : MarkedJob) (i : ℕ) (column : List ℕ) → AreFew price 9999 all → x.rank ≤ 98 →
    IsInner price unit ordered all x (drop i all) column → (k : ℕ) → slice_index column k ≤ 8 * (98 * 9999)
inner_few price unit ordered all x i column few le is = small column (8 * (98 * 9999)) is.rooms (λ k lt. ⊎_elim
    (λ t.
    let own : slice_index column k ≡ best price unit ordered all k x.rank x.turn all = is.brings k lt ∙ rw t refl in
    omega (arith, own, best_few price unit ordered 9999 all few k 8 x.rank x.turn 98 all (λ y has. has) (omega arith) (omega arith)))
    (λ f.
    let own : slice_index column k ≡ best price unit ordered all k x.rank 0 (drop i all) = is.brings k lt ∙ rw f refl in
    omega (arith, own, best_few price unit ordered 9999 all few k 8 x.rank 0 98 (drop i all) (λ y has. has_drop i all y has) (omega arith) (omega arith)))
    (cases_Bool x.is_later))

rising_drop : (j : ℕ) (jobs : List MarkedJob) → AreRising jobs → AreRising (drop j jobs)
rising_drop zero jobs r = r
rising_drop (suc j) [] r = tt
rising_drop (suc j) (x ∷ jobs) r = rising_drop j jobs r.1

-- what is at hand where the column of the job at an index is made
pub record Making (price : ℕ → ℕ → ℕ) (unit ordered : ℕ) (all : List MarkedJob) (low : ℕ) (starts : List ℕ) (inners columns : List (List ℕ)) (m : ℕ) (x : MarkedJob) : Type 0 where
  pub here : slice_get all m ≡ Some x
  pub low_few : low < 98
  pub readable : AreReadable all
  pub starts_are : AreStarts all starts
  pub before : m < slice_index starts low
  pub inner : AreInner price unit ordered all low inners
  pub are : AreColumns price unit ordered all low (suc m) (slice_index starts low) columns

abbrev pub no_job : MarkedJob
no_job = record { rank = 0; turn = 0; is_later = false }

pub making : (pass : Pass) (low m : ℕ) (inners columns : List (List ℕ)) → IsReady pass → low ≤ pass.ordered + 1 → m < slice_index pass.starts low →
    AreInner (price_in pass.table.now) pass.unit pass.ordered pass.jobs.now low inners →
    AreColumns (price_in pass.table.now) pass.unit pass.ordered pass.jobs.now low (suc m) (slice_index pass.starts low) columns →
    Making (price_in pass.table.now) pass.unit pass.ordered pass.jobs.now low pass.starts inners columns m (slice_index_or pass.jobs.now m no_job)
making pass low m inners columns ready le lt inner are =
    let few : pass.ordered ≤ 96 = ready.few in
    record {
      here = slice_get-get_or pass.jobs.now m no_job (omega (arith, ready.starts.within low (omega arith)));
      low_few = omega arith;
      readable = ready.readable;
      starts_are = ready.starts;
      before = lt;
      inner = inner;
      are = are;
    }

pub after_is : (price : ℕ → ℕ → ℕ) (unit ordered : ℕ) (all : List MarkedJob) (low : ℕ) (starts : List ℕ) (inners columns : List (List ℕ)) (m : ℕ) (x : MarkedJob) →
    Making price unit ordered all low starts inners columns m x → IsColumn price unit ordered all low (drop (m + 1) all) (slice_index_or columns (m + 1) [])
after_is price unit ordered all low starts inners columns m x k =
    column_there price unit ordered all low (suc m) (slice_index starts low) columns (m + 1) k.are (omega arith) (omega (arith, k.before)) (omega (arith, slice_get_within all m x k.here))

pub resumed_is : (price : ℕ → ℕ → ℕ) (unit ordered : ℕ) (all : List MarkedJob) (low : ℕ) (starts : List ℕ) (inners columns : List (List ℕ)) (m : ℕ) (x : MarkedJob) →
    Making price unit ordered all low starts inners columns m x → x.rank < low →
    IsColumn price unit ordered all low (drop (slice_index starts (x.rank + 1)) all) (slice_index_or columns (slice_index starts (x.rank + 1)) [])
resumed_is price unit ordered all low starts inners columns m x k below =
    let p : Placed all starts m x = placed all starts m x k.readable k.starts_are k.here in
    let next : suc x.rank ≡ x.rank + 1 = omega arith in
    let few : low < 98 = k.low_few in
    subst (λ n. IsColumn price unit ordered all low (drop (slice_index starts n) all) (slice_index_or columns (slice_index starts n) [])) next
    (column_there price unit ordered all low (suc m) (slice_index starts low) columns (slice_index starts (suc x.rank)) k.are (omega (arith, p.resumes))
    (starts_rise all starts (suc x.rank) low k.starts_are (omega arith) few) (k.starts_are.within (suc x.rank) (omega arith)))

pub inner_is : (price : ℕ → ℕ → ℕ) (unit ordered : ℕ) (all : List MarkedJob) (low : ℕ) (starts : List ℕ) (inners columns : List (List ℕ)) (m : ℕ) (x : MarkedJob) →
    Making price unit ordered all low starts inners columns m x → x.rank < low → IsInner price unit ordered all x (drop (suc m) all) (slice_index_or inners m [])
inner_is price unit ordered all low starts inners columns m x k below =
    k.inner.are m x (slice_index_or inners m []) k.here below (slice_get-get_or inners m [] (omega (arith, k.inner.each, slice_get_within all m x k.here)))

split_at : (all : List MarkedJob) (m : ℕ) (x : MarkedJob) → slice_get all m ≡ Some x → drop m all ≡ x ∷ drop (suc m) all
split_at [] m x here = cc
split_at (y ∷ all) zero x here = let same : y ≡ x = cc in ap (λ z. z ∷ all) same
split_at (y ∷ all) (suc m) x here = split_at all m x here

pub made_low : (price : ℕ → ℕ → ℕ) (unit ordered : ℕ) (all : List MarkedJob) (low : ℕ) (starts : List ℕ) (inners columns : List (List ℕ)) (m : ℕ) (x : MarkedJob) (paid : ℕ) (result : List ℕ) →
    Making price unit ordered all low starts inners columns m x → x.rank < low → paid ≡ price x.rank x.turn → length result ≡ 9 →
    ((k : ℕ) → k < 9 → slice_index result k ≡ entry true paid (slice_index_or columns (m + 1) []) (slice_index_or columns (slice_index starts (x.rank + 1)) []) (slice_index_or inners m []) k) →
    IsColumn price unit ordered all low (drop m all) result
made_low price unit ordered all low starts inners columns m x paid result k below paid_is long each =
    let p : Placed all starts m x = placed all starts m x k.readable k.starts_are k.here in
    let next : m + 1 ≡ suc m = omega arith in
    let more : x.rank + 1 ≡ suc x.rank = omega arith in
    let after : List ℕ = slice_index_or columns (m + 1) [] in
    let resumed : List ℕ = slice_index_or columns (slice_index starts (x.rank + 1)) [] in
    let inner : List ℕ = slice_index_or inners m [] in
    subst (λ l. IsColumn price unit ordered all low l result) (sym (split_at all m x k.here))
    (low_column price unit ordered all low x (drop (suc m) all) after resumed inner result (before_start all starts low m x k.starts_are k.low_few k.before k.here) below
    (rising_drop (suc m) all k.readable.rising) (subst (λ n. IsColumn price unit ordered all low (drop n all) after) next (after_is price unit ordered all low starts inners columns m x k))
    (subst (λ l. IsColumn price unit ordered all low l resumed) (ap (λ n. drop (slice_index starts n) all) more ∙ p.left) (resumed_is price unit ordered all low starts inners columns m x k below))
    (inner_is price unit ordered all low starts inners columns m x k below) long (λ i lt. each i lt ∙ ap (λ n. entry true n after resumed inner i) paid_is))

pub made_top : (price : ℕ → ℕ → ℕ) (unit ordered : ℕ) (all : List MarkedJob) (low : ℕ) (starts : List ℕ) (inners columns : List (List ℕ)) (m : ℕ) (x : MarkedJob) (paid : ℕ) (result : List ℕ) →
    Making price unit ordered all low starts inners columns m x → low ≤ x.rank → paid ≡ earns_above price unit ordered low x → length result ≡ 9 →
    ((k : ℕ) → k < 9 → slice_index result k ≡ entry false paid (slice_index_or columns (m + 1) []) [] [] k) → IsColumn price unit ordered all low (drop m all) result
made_top price unit ordered all low starts inners columns m x paid result k above paid_is long each =
    let next : m + 1 ≡ suc m = omega arith in
    let after : List ℕ = slice_index_or columns (m + 1) [] in
    subst (λ l. IsColumn price unit ordered all low l result) (sym (split_at all m x k.here))
    (top_column price unit ordered all low x (drop (suc m) all) after result (before_start all starts low m x k.starts_are k.low_few k.before k.here) above
    (subst (λ n. IsColumn price unit ordered all low (drop n all) after) next (after_is price unit ordered all low starts inners columns m x k))
    long (λ i lt. each i lt ∙ ap (λ n. entry false n after [] [] i) paid_is))

-- the own scope of a job begins at its column
inner_column : (price : ℕ → ℕ → ℕ) (unit ordered : ℕ) (all : List MarkedJob) (i : ℕ) (x : MarkedJob) (begin : ℕ) (column : List ℕ) → AreRising all →
    drop begin all ≡ own_jobs all i x → IsColumn price unit ordered all x.rank (drop begin all) column → IsInner price unit ordered all x (drop (suc i) all) column
inner_column price unit ordered all i x begin column rising from is = record {
  rooms = is.rooms;
  brings = λ room lt. is.brings room lt ∙ ap (λ l. best price unit ordered all room x.rank 0 l) from ∙ same room;
}
  where
    same : (room : ℕ) → best price unit ordered all room x.rank 0 (own_jobs all i x) ≡
        (if x.is_later then best price unit ordered all room x.rank x.turn all else best price unit ordered all room x.rank 0 (drop (suc i) all))
    same room = ⊎_elim
        (λ t. rw t (sym (read_from price unit ordered all room x.rank x.turn all rising)))
        (λ f. rw f refl)
        (cases_Bool x.is_later)

-- what the own scopes bring of the jobs of lower ranks, and of the rank itself up to an index
abbrev pub AreKept : (ℕ → ℕ → ℕ) → ℕ → ℕ → List MarkedJob → ℕ → ℕ → List (List ℕ) → Type 0
AreKept price unit ordered all rank i inners = (j : ℕ) (x : MarkedJob) (c : List ℕ) → slice_get all j ≡ Some x → x.rank ≤ rank → (x.rank ≡ rank → j < i) → slice_get inners j ≡ Some c →
    IsInner price unit ordered all x (drop (suc j) all) c

pub none_kept : (price : ℕ → ℕ → ℕ) (unit ordered : ℕ) (all : List MarkedJob) (rank first : ℕ) (inners : List (List ℕ)) →
    ((i : ℕ) (x : MarkedJob) → i < first → slice_get all i ≡ Some x → x.rank ≡ rank → ⊥) → AreInner price unit ordered all rank inners → AreKept price unit ordered all rank first inners
none_kept price unit ordered all rank first inners none a j x c at le soon here = ⊎_elim
    (λ e. absurd (none j x (soon e) at e))
    (λ ne. a.are j x c at (omega arith) here)
    (cases_eq x.rank rank)

pub all_kept : (price : ℕ → ℕ → ℕ) (unit ordered : ℕ) (all : List MarkedJob) (starts : List ℕ) (rank i : ℕ) (inners : List (List ℕ)) → AreReadable all → AreStarts all starts →
    slice_index starts rank ≤ i → length inners ≡ length all → AreKept price unit ordered all rank i inners → AreInner price unit ordered all (rank + 1) inners
all_kept price unit ordered all starts rank i inners r s end long k = record {
  each = long;
  are = λ j x c at lt here. k j x c at (omega arith) (λ same.
      let p : Placed all starts j x = placed all starts j x r s at in
      omega (arith, p.before, ap (slice_index starts) same)) here;
}

-- a job of another rank is passed over
pub kept_pass : (price : ℕ → ℕ → ℕ) (unit ordered : ℕ) (all : List MarkedJob) (rank i : ℕ) (y : MarkedJob) (inners : List (List ℕ)) → slice_get all i ≡ Some y → y.rank ≢ rank →
    AreKept price unit ordered all rank i inners → AreKept price unit ordered all rank (i + 1) inners
kept_pass price unit ordered all rank i y inners there other k j x c at le soon here = k j x c at le (λ same. ⊎_elim
    (λ e. absurd (other (ap (λ (z : MarkedJob). z.rank) (same_Some y x (sym there ∙ ap (slice_get all) (sym e) ∙ at)) ∙ same)))
    (λ ne. omega (arith, soon same))
    (cases_eq j i)) here

-- the turns of jobs in their order
rising_at : (jobs : List MarkedJob) (i j : ℕ) (x y : MarkedJob) → AreRising jobs → i ≤ j → slice_get jobs i ≡ Some x → slice_get jobs j ≡ Some y → x.turn ≤ y.turn
rising_at [] i j x y r le a b = cc
rising_at (z ∷ jobs) zero zero x y r le a b = let same : x ≡ y = cc in let t : x.turn ≡ y.turn = ap (λ (w : MarkedJob). w.turn) same in omega arith
rising_at (z ∷ jobs) zero (suc j) x y r le a b = let same : z ≡ x = cc in let t : z.turn ≡ x.turn = ap (λ (w : MarkedJob). w.turn) same in omega (arith, r.0 y (has_at jobs j y b))
rising_at (z ∷ jobs) (suc i) zero x y r le a b = absurd (omega arith)
rising_at (z ∷ jobs) (suc i) (suc j) x y r le a b = rising_at jobs i j x y r.1 (omega arith) a b

-- the column of a job of the rank is kept
pub kept_more : (price : ℕ → ℕ → ℕ) (unit ordered : ℕ) (all : List MarkedJob) (starts : List ℕ) (rank first i : ℕ) (z y : MarkedJob) (inners columns : List (List ℕ)) (begin : ℕ) →
    AreReadable all → AreStarts all starts → first ≤ i → slice_get all first ≡ Some z → slice_get all i ≡ Some y → y.rank ≡ rank → length inners ≡ length all →
    AreColumns price unit ordered all rank (slice_index starts z.turn) (slice_index starts rank) columns →
    begin ≤ length all → drop begin all ≡ own_jobs all i y → slice_index starts y.turn ≤ begin → begin ≤ slice_index starts y.rank →
    AreKept price unit ordered all rank i inners → AreKept price unit ordered all rank (i + 1) (slice_set inners i (slice_index_or columns begin []))
kept_more price unit ordered all starts rank first i z y inners columns begin r s le at_first there same long are within from after before k j x c at low soon here = ⊎_elim
    (λ e.
    let x_is : y ≡ x = same_Some y x (sym there ∙ ap (slice_get all) (sym e) ∙ at) in
    subst (λ w. IsInner price unit ordered all w (drop (suc j) all) c) x_is (subst (λ n. IsInner price unit ordered all y (drop (suc n) all) c) (sym e)
    (put_there (IsInner price unit ordered all y (drop (suc i) all)) inners i (slice_index_or columns begin []) c (omega (arith, long, slice_get_within all i y there))
    (ap (slice_get (slice_set inners i (slice_index_or columns begin []))) (sym e) ∙ here) own)))
    (λ ne. k j x c at low (λ is. omega (arith, soon is)) (sym (get_put_other inners i j (slice_index_or columns begin []) ne) ∙ here))
    (cases_eq j i)
  where
    p : Placed all starts i y
    p = placed all starts i y r s there

    own : IsInner price unit ordered all y (drop (suc i) all) (slice_index_or columns begin [])
    own = inner_column price unit ordered all i y begin (slice_index_or columns begin []) r.rising from (subst (λ n. IsColumn price unit ordered all n (drop begin all) (slice_index_or columns begin [])) (sym same)
        (column_there price unit ordered all rank (slice_index starts z.turn) (slice_index starts rank) columns begin are
        (omega (arith, after, starts_rise all starts z.turn y.turn s (rising_at all first i z y r.rising le at_first there) (omega (arith, p.soon, p.ranks))))
        (omega (arith, before, ap (slice_index starts) same)) within))

-- nothing has a rank below 0
pub inner_none : (price : ℕ → ℕ → ℕ) (unit ordered : ℕ) (all : List MarkedJob) (inners : List (List ℕ)) → length inners ≡ length all → AreInner price unit ordered all 0 inners
inner_none price unit ordered all inners long = record { each = long; are = λ i x c there lt here. absurd (omega arith) }

-- where no job has the rank
pub inner_same : (price : ℕ → ℕ → ℕ) (unit ordered : ℕ) (all : List MarkedJob) (low : ℕ) (inners : List (List ℕ)) → ((i : ℕ) (x : MarkedJob) → slice_get all i ≡ Some x → x.rank ≡ low → ⊥) →
    AreInner price unit ordered all low inners → AreInner price unit ordered all (low + 1) inners
inner_same price unit ordered all low inners none a = record {
  each = a.each;
  are = λ i x c there lt here. ⊎_elim (λ e. absurd (none i x there e)) (λ ne. a.are i x c there (omega arith) here) (cases_eq x.rank low);
}
