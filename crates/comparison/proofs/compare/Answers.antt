use Rattle.comparison.proofs.compare.Goals as goal

-- the units are as they were when they had performed their calls: reading them through changed nothing
pub returns-clause-first : goal.returns-clause-first
returns-clause-first g c = simp (c.frames_differ-frame.ensures.one, c.label_apart.ensures.first.0, c.label_apart.ensures.first.1) c.in_ok-first.ensures.first

pub returns-clause-second : goal.returns-clause-second
returns-clause-second g c = simp (c.frames_differ-frame.ensures.two, c.label_apart.ensures.second.0, c.label_apart.ensures.second.1) c.in_ok-first.ensures.second

pub returns-clause-first_laws : goal.returns-clause-first_laws
returns-clause-first_laws g c = simp (c.frames_differ-frame.ensures.one, c.label_apart.ensures.first.0, c.label_apart.ensures.first.1) c.in_ok-first.ensures.first_laws

pub returns-clause-second_laws : goal.returns-clause-second_laws
returns-clause-second_laws g c = simp (c.frames_differ-frame.ensures.two, c.label_apart.ensures.second.0, c.label_apart.ensures.second.1) c.in_ok-first.ensures.second_laws

pub returns-clause-both : goal.returns-clause-both
returns-clause-both g c =
    simp (c.frames_differ-frame.ensures.one, c.frames_differ-frame.ensures.two, c.label_apart.ensures.first.0, c.label_apart.ensures.first.1, c.label_apart.ensures.second.0, c.label_apart.ensures.second.1) c.in_ok-first.ensures.both

pub returns-clause-label : goal.returns-clause-label
returns-clause-label g c =
    simp (c.frames_differ-frame.ensures.one, c.frames_differ-frame.ensures.two, c.label_apart.ensures.first.0, c.label_apart.ensures.first.1, c.label_apart.ensures.second.0, c.label_apart.ensures.second.1) c.in_ok-label.ensures.apart
