use Rattle.pb_judge.proofs.judging.left_over.Goals as goal

pub returns-in-Some : goal.returns-in-Some
returns-in-Some c = λ s protocol log beyond rest. beyond _ _ c.in-Some.ensures

pub returns-in-None : goal.returns-in-None
returns-in-None c = λ s protocol log beyond rest. rest c.in-None.ensures
