use Rattle.run_search.proofs.finding.first_of_run.Goals as goal

pub returns-in-Err-clause-answer : goal.returns-in-Err-clause-answer
returns-in-Err-clause-answer g c =
    let stop = c.in-Err.ensures.stop in
    (λ e. absurd (stop.0 e), ((stop.1 c.args.dir, λ e. absurd (stop.0 e)), λ e. absurd (stop.0 e)))
