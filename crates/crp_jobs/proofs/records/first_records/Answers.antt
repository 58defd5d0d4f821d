use Rattle.std.proofs.Common.{◌≡◌, ◌∙◌, ◌+◌, ◌<◌, ◌≤◌, ◌++◌, ◌∷◌, [], ℕ, List, length, map, take, refl, sym, ap, subst, arith}
use Rattle.std.proofs.lemmas.List.{length-map, map-append, take_all}
use Rattle.csv.specs.Records.{fields_of}
use Rattle.crp_sizes.specs.Fields.{records_of}
use Rattle.crp_sizes.proofs.RowSteps.{HasRead, started, read_all, read_more, read_next}
use Rattle.crp_jobs.proofs.FirstSteps.{front_more}
use Rattle.crp_jobs.proofs.records.first_records.Goals as goal

pub loop-init : goal.loop-init
loop-init c =
    let none = c.new-records.ensures.items in
    record {
      counted = ap length none;
      read = subst (λ (l : List (List (List ℕ))). HasRead c.args.text.now l c.rows_of-rows.result) (sym (ap (map fields_of) none)) (started c.args.text.now c.rows_of-rows.result c.rows_of-rows.ensures);
      front = sym (ap (map fields_of) none);
    }

pub returns-in-None : goal.returns-in-None
returns-in-None c =
    let inv = c.loop.invariant in
    let read = (c.in-None.ensures.steps inv.read.left inv.read.trim).0 inv.read.ready in
    let all = read_all c.args.text.now (map fields_of c.loop.records.items) c.loop.rows c.next.new.self inv.read read in
    let few : length (map fields_of c.loop.records.items) ≤ c.args.most = omega (arith, length-map c.loop.records.items fields_of, inv.counted, c.loop-test.true) in
    sym (ap (take c.args.most) all ∙ take_all c.args.most (map fields_of c.loop.records.items) few)

pub loop-preserved : goal.loop-preserved
loop-preserved c =
    let inv = c.loop.invariant in
    let step = rw c.in-Some-Ok.field-0-is at (c.in-Some-Ok.ensures.steps inv.read.left inv.read.trim) in
    let read = step.0 inv.read.ready in
    let fields = fields_of c.in-Some-Ok.fields in
    let text = c.args.text.now in
    let before = map fields_of c.loop.records.items in
    let more = read_more text before fields c.loop.rows c.next.new.self inv.read read.0 read.1 read.2 step.3 in
    let next = read_next text before fields c.next.new.self more in
    let items = c.in_ok-push-in-Some-Ok.ensures.items in
    let same : map fields_of c.push.new.self.items ≡ before ++ fields ∷ [] = ap (map fields_of) items ∙ map-append fields_of c.loop.records.items (c.in-Some-Ok.fields ∷ []) in
    record {
      counted = omega (arith, ap length items, Rattle.std.proofs.Common.length-append c.loop.records.items (c.in-Some-Ok.fields ∷ []), inv.counted);
      read = subst (λ (l : List (List (List ℕ))). HasRead text l c.next.new.self) (sym same) more;
      front = front_more (records_of text) before next.0 fields c.loop.counter next.1 (length-map c.loop.records.items fields_of ∙ inv.counted) ∙ sym same;
    }
