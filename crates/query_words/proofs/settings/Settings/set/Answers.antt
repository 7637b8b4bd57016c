use Rattle.std.proofs.Common.{rules, ◌≡◌, ◌++◌, ◌∷◌, [], sym, subst}
use Rattle.query_words.specs.Reading.{Holds}
use Rattle.query_words.specs.Words.{word_of}
use Rattle.query_words.proofs.WordLemmas.{fits_by}
use Rattle.query_words.proofs.settings.Settings.set.Goals as goal

pub returns-then-takes-clause-fits : goal.returns-then-takes-clause-fits
returns-then-takes-clause-fits c = λ t before h.
    let is : c.args.word.now ≡ word_of c.in-Some.key c.in-Some.value.now = search rules in
    let (lacks, form, held) = c.give.ensures.fits t before h in (
      record {
        key = c.in-Some.key;
        value = c.in-Some.value.now;
        word_is = is;
        of_command = c.takes.ensures.0 (search rules);
        first = lacks;
        in_form = form;
      },
      subst (λ w. Holds (before ++ w ∷ []) c.give.new.self) (sym is) held,
    )

pub returns-then-takes-clause-unfit : goal.returns-then-takes-clause-unfit
returns-then-takes-clause-unfit c = λ e before h fits.
    let is : c.args.word.now ≡ word_of c.in-Some.key c.in-Some.value.now = search rules in
    let own = fits_by c.args.command before c.args.word.now c.in-Some.key c.in-Some.value.now is
    fits in
    c.give.ensures.unfit e before h (own.1, own.2)
