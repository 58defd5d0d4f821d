use Rattle.crp_checker.proofs.checker.Checker.finish_for.Goals as goal

pub returns-clause-shown : goal.returns-clause-shown
returns-clause-shown c wanted bytes read = let s = c.in_ok-bay.ensures.states wanted bytes read in (s.0, s.1, s.4)

pub returns-clause-bay : goal.returns-clause-bay
returns-clause-bay c bytes read = let s = c.in_ok-bay.ensures.states _ bytes read in (s.0, s.1, s.2, s.4)
