use Rattle.crp_cert.proofs.reading.read_head.Goals as goal

pub returns-clause-found : goal.returns-clause-found
returns-clause-found c =
    (c.in_ok-head.ensures.head, (c.in_ok-head.field-0-1.now, c.in_ok-head.ensures.text))
