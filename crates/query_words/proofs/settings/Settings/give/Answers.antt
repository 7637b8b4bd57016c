use Rattle.std.proofs.Common.{rules, ◌≡◌, true, false, subst}
use Rattle.std.specs.Option.{is_some}
use Rattle.query_words.specs.Reading.{value_at}
use Rattle.query_words.specs.Words.{Agrees, IsValue}
use Rattle.query_words.proofs.Stamps.{one_meaning}
use Rattle.query_words.proofs.SettingLemmas.{none_if_not_some, put_holds, some_not_none, told_some}
use Rattle.query_words.proofs.settings.Settings.give.Goals as goal

pub returns-in_default-clause-unfit : goal.returns-in_default-clause-unfit
returns-in_default-clause-unfit c = λ e before h x. c.in_default.ensures.none x.1.value x.1.is

pub returns-then-is_some-clause-unfit : goal.returns-then-is_some-clause-unfit
returns-then-is_some-clause-unfit c = λ e before h x.
    let old = value_at c.args.self.now c.args.key in
    let some : is_some old ≡ true = search rules in
    told_some before c.args.key (IsValue c.args.key) old (some_not_none old some)
    (h.each c.args.key) x.0

pub returns-clause-fits : goal.returns-clause-fits
returns-clause-fits c = λ e before h.
    let old = value_at c.args.self.now c.args.key in
    let none : is_some old ≡ false = search rules in
    let agrees = c.agrees.ensures.fits (search rules) before h in
    rw c.place_of.ensures.value (put_holds before c.args.self.now c.args.key c.args.value.now
    c.in-Some.read h (none_if_not_some old none) c.in-Some.ensures.some agrees)

pub returns-then-not-agrees-clause-unfit : goal.returns-then-not-agrees-clause-unfit
returns-then-not-agrees-clause-unfit c = λ e before h x.
    let same = one_meaning c.literal_laws.ensures.apart c.token_laws.ensures.apart c.args.key
    c.args.value.now x.1.value c.in-Some.read x.1.is c.in-Some.ensures.some in
    c.agrees.ensures.unfit c.if-not-agrees.true before h
    (subst (Agrees before c.args.key) same x.1.agrees)
