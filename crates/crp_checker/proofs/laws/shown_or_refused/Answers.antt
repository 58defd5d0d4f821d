use Rattle.std.proofs.Common.{⊎_elim, ◌∙◌, sym}
use Rattle.crp_checker.proofs.OneFile.{one_list, not_shown, one_place, one_refused}
use Rattle.crp_checker.proofs.laws.shown_or_refused.Goals as goal

pub returns : goal.returns
returns c = record {
  apart = λ file verdicts before number refused real shown why.
      ⊎_elim (λ e. absurd (real e)) (λ w. not_shown file shown.0 why.texts why.text why.after verdicts before refused shown.1 why.begins shown.2 why.shown w) why.why;
  one_list = one_list;
  one_refusal = λ file before behind number place refused other real true r q.
      ⊎_elim (λ e. absurd (real e)) (λ w. ⊎_elim (λ e. absurd (true e)) (λ v.
      let same = one_place file r.texts q.texts r.text q.text r.after q.after before behind refused other r.begins q.begins r.shown q.shown w v in
      let one = one_refused r.texts q.texts r.text q.text before behind refused other same.0 same.1 r.shown q.shown w v in
      (one.0, r.number_is ∙ one.1 ∙ sym q.number_is, one.2)) q.why) r.why;
}
