use Rattle.std.proofs.Common.{◌≡◌, ◌∙◌, FitsSigned, w64, to_z, of_z, refl, sym, ap, arith, rules}
use Rattle.std.proofs.lemmas.Int.{to_z-of_z}
use Rattle.expr_tokens.specs.Plain.{plains}
use Rattle.expr_grammar.specs.Parsing.{with_key}
use Rattle.expr_grammar.proofs.FieldLoop.{next_read, none_read}
use Rattle.expr_grammar.proofs.fields.values.Goals as goal

pub numbers-preserved : goal.numbers-preserved
numbers-preserved c =
    let n = c.in-Some.n in
    let fits : FitsSigned w64 n = search rules in
    let same : to_z w64 (of_z w64 n) ≡ n = rw to_z-of_z refl in
    record {
      read = rw (c.in_ok-push-2.ensures.items, same)
          (ap (with_key c.in_ok-key.key)
          (sym (next_read c.numbers.found.items (plains c.numbers.rest.now) c.in-Some.n
          (plains c.in-Some.after.now) c.in-Some.ensures.read)) ∙ c.numbers.invariant.read);
      places = c.numbers.invariant.places ∙ sym c.in-Some.ensures.places;
      within = omega (arith, c.numbers.invariant.within, c.in-Some.ensures.shorter);
    }

pub returns-clause-read : goal.returns-clause-read
returns-clause-read c = sym c.numbers.invariant.read ∙ ap (with_key c.in_ok-key.key)
    (none_read c.numbers.found.items (plains c.numbers.rest.now) c.in_default.ensures.none)
