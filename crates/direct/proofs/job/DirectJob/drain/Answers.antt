use Rattle.direct.proofs.Cuts.{cut_longest}
use Rattle.direct.proofs.Wholes.{whole_exactly}
use Rattle.direct.proofs.job.DirectJob.drain.Goals as goal

pub returns-clause-whole : goal.returns-clause-whole
returns-clause-whole g c s calls st = whole_exactly s calls _ st.opened.beginnings (c.finish-outcome.ensures.finishes s calls st).0

pub returns-clause-cut : goal.returns-clause-cut
returns-clause-cut g c s calls st =
    let f = c.finish-outcome.ensures.finishes s calls st in
    cut_longest s calls _ _ st.opened.beginnings st.opened.held f.0 f.1
