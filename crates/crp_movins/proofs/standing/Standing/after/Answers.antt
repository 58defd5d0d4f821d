use Rattle.std.proofs.Common.{◌≡◌, ap, ◌∙◌, sym, arith, true, inl, inr}
use Rattle.crp_movins.specs.declared.standing.Standing.{Standing}
use Rattle.crp_movins.proofs.StandingSteps.{messages-bound, after-closing, after-header, after-trailer, after-handling, after-passed, is_passed}
use Rattle.crp_movins.proofs.standing.Standing.after.Goals as goal

pub overflow_add-result : goal.overflow_add-result
overflow_add-result c =
    let messages = ap (λ (x : Standing). x.messages) c.requires.here in
    omega (arith, messages, messages-bound c.args.at.now.segments.now c.args.at.now.number)

pub returns-in-InterchangeTrailer : goal.returns-in-InterchangeTrailer
returns-in-InterchangeTrailer c =
    let kind = sym c.requires.kind ∙ c.in-InterchangeTrailer.is in
    rw c.requires.here (after-closing c.args.at.now.segments.now c.args.at.now.loading.now c.args.at.now.number kind)

pub returns-in-MessageHeader : goal.returns-in-MessageHeader
returns-in-MessageHeader c =
    let kind = sym c.requires.kind ∙ c.in-MessageHeader.is in
    rw (c.reads.ensures, c.text.ensures, c.requires.here) (after-header c.args.at.now.segments.now c.args.at.now.loading.now c.args.at.now.number kind)

pub returns-in-MessageTrailer : goal.returns-in-MessageTrailer
returns-in-MessageTrailer c =
    let kind = sym c.requires.kind ∙ c.in-MessageTrailer.is in
    rw c.requires.here (after-trailer c.args.at.now.segments.now c.args.at.now.loading.now c.args.at.now.number kind)

pub returns-in-Handling : goal.returns-in-Handling
returns-in-Handling c =
    let kind = sym c.requires.kind ∙ c.in-Handling.is in
    rw (c.loads.ensures, c.requires.here) (after-handling c.args.at.now.segments.now c.args.at.now.loading.now c.args.at.now.number kind)

pub returns-in-InterchangeHeader : goal.returns-in-InterchangeHeader
returns-in-InterchangeHeader c =
    let passed : is_passed c.args.kind ≡ true = elim c.in-InterchangeHeader.is [
      | inl header ↦ ap is_passed header
      | inr others ↦ elim others [
        | inl group ↦ ap is_passed group
        | inr other ↦ ap is_passed other
      ]
    ] in
    c.requires.here ∙ after-passed c.args.at.now.segments.now c.args.at.now.loading.now c.args.at.now.number c.args.kind c.requires.kind passed
