use Rattle.query_words.proofs.SettingLemmas.{from_agrees, from_ordered, to_agrees, to_ordered}
use Rattle.query_words.proofs.settings.Settings.agrees.Goals as goal

pub returns-in-From-Stamp-clause-fits : goal.returns-in-From-Stamp-clause-fits
returns-in-From-Stamp-clause-fits c = λ e before h.
    rw (c.in-From-Stamp.is-0, c.in-From-Stamp.is-1) (from_agrees c.literal_laws.ensures.apart before
    c.args.self.now c.in-From-Stamp.first h (rw c.stamp.ensures at c.is_before.ensures.fits e))

pub returns-in-From-Stamp-clause-unfit : goal.returns-in-From-Stamp-clause-unfit
returns-in-From-Stamp-clause-unfit c = λ e before h agrees.
    let own = rw (c.in-From-Stamp.is-0, c.in-From-Stamp.is-1) at agrees in
    (rw c.stamp.ensures at (c.is_before.ensures.unfit e))
    (from_ordered before c.args.self.now c.in-From-Stamp.first h own)

pub returns-in-To-Stamp-clause-fits : goal.returns-in-To-Stamp-clause-fits
returns-in-To-Stamp-clause-fits c = λ e before h.
    rw (c.in-To-Stamp.is-0, c.in-To-Stamp.is-1) (to_agrees c.literal_laws.ensures.apart before
    c.args.self.now c.in-To-Stamp.last h
    (rw c.stamp-in-To-Stamp.ensures at c.is_before-in-To-Stamp.ensures.fits e))

pub returns-in-To-Stamp-clause-unfit : goal.returns-in-To-Stamp-clause-unfit
returns-in-To-Stamp-clause-unfit c = λ e before h agrees.
    let own = rw (c.in-To-Stamp.is-0, c.in-To-Stamp.is-1) at agrees in
    (rw c.stamp-in-To-Stamp.ensures at (c.is_before-in-To-Stamp.ensures.unfit e))
    (to_ordered before c.args.self.now c.in-To-Stamp.last h own)
