use Rattle.std.proofs.Common.{◌≡◌, ◌∙◌, ◌<◌, rules, true, false, length, map, sym, arith}
use Rattle.std.specs.List.{list_any}
use Rattle.std.proofs.lemmas.Result.{err_from_is_err_and}
use Rattle.std.proofs.lemmas.List.{length-map, map-append}
use Rattle.expr_tokens.specs.Plain.{plain, plains}
use Rattle.expr_grammar.specs.Fields.{same_key}
use Rattle.expr_grammar.specs.Form.{Rule}
use Rattle.expr_grammar.specs.Syntax.{field_form}
use Rattle.expr_grammar.specs.Parsing.{has_key, is_close, rule_at}
use Rattle.expr_grammar.proofs.FieldLoop.{any_form, close_there, field_fails, fields_end, fields_go_on, fields_start, key_repeated, name_fails, some_close}
use Rattle.expr_grammar.proofs.fields.rule.Goals as goal

pub returns-in_err-freq-clause-read : goal.returns-in_err-freq-clause-read
returns-in_err-freq-clause-read c =
    let p = err_from_is_err_and c.from_residual.result c.from_residual.ensures.1 in
    rw (p.1, p.2) (name_fails c.in_err-freq.field-0.0 (plains c.args.tokens.now)
    c.in_err-freq.ensures.read)

pub fields-init : goal.fields-init
fields-init c = record {
  read = rw c.new-fields.ensures.items (fields_start (plains c.args.tokens.now) c.in_ok-freq.freq
      (plains c.in_ok-freq.rest.now) c.in_ok-freq.ensures.read);
  places = c.in_ok-freq.ensures.places;
  within = c.in_ok-freq.ensures.shorter;
}

pub returns-in_err-next-clause-read : goal.returns-in_err-next-clause-read
returns-in_err-next-clause-read c =
    let p = err_from_is_err_and c.from_residual-in_err-next.result
    c.from_residual-in_err-next.ensures.1 in
    let further : is_close (plains c.fields.rest.now) ≡ false = sym c.fields-test.ensures in
    rw (p.1, p.2) (field_fails c.in_ok-freq.freq (map field_form c.fields.fields.items)
    (plains c.fields.rest.now) (rule_at (plains c.args.tokens.now)) c.in_err-next.field-0.0 further
    c.in_err-next.ensures.read c.fields.invariant.read)

pub returns-then-is_among-clause-read : goal.returns-then-is_among-clause-read
returns-then-is_among-clause-read c =
    let further : is_close (plains c.fields.rest.now) ≡ false = sym c.fields-test.ensures in
    let among : list_any (λ other. same_key (field_form other) (field_form c.in_ok-next.next))
    c.fields.fields.items ≡ true = search rules in
    let taken : has_key (field_form c.in_ok-next.next) (map field_form c.fields.fields.items)
    ≡ true = sym (any_form (field_form c.in_ok-next.next) c.fields.fields.items) ∙ among in
    key_repeated c.in_ok-freq.freq (map field_form c.fields.fields.items) (plains c.fields.rest.now)
    (rule_at (plains c.args.tokens.now)) (field_form c.in_ok-next.next)
    (plains c.in_ok-next.after.now) further c.in_ok-next.ensures.read taken c.fields.invariant.read

pub fields-preserved : goal.fields-preserved
fields-preserved c =
    let further : is_close (plains c.fields.rest.now) ≡ false = sym c.fields-test.ensures in
    let among : list_any (λ other. same_key (field_form other) (field_form c.in_ok-next.next))
    c.fields.fields.items ≡ false = search rules in
    let free : has_key (field_form c.in_ok-next.next) (map field_form c.fields.fields.items)
    ≡ false = sym (any_form (field_form c.in_ok-next.next) c.fields.fields.items) ∙ among in
    let shorter : length (plains c.in_ok-next.after.now) < length (plains c.fields.rest.now) =
    omega (
      arith,
      length-map c.fields.rest.now plain,
      length-map c.in_ok-next.after.now plain,
      c.in_ok-next.ensures.shorter,
    ) in
    record {
      read = rw (c.in_ok-push.ensures.items, map-append)
          (fields_go_on c.in_ok-freq.freq (map field_form c.fields.fields.items)
          (plains c.fields.rest.now) (rule_at (plains c.args.tokens.now))
          (field_form c.in_ok-next.next) (plains c.in_ok-next.after.now) further
          c.in_ok-next.ensures.read free shorter c.fields.invariant.read);
      places = c.fields.invariant.places ∙ c.in_ok-next.ensures.places;
      within = omega (arith, c.fields.invariant.within, c.in_ok-next.ensures.shorter);
    }

pub returns-clause-read : goal.returns-clause-read
returns-clause-read c =
    let closed : is_close (plains c.fields.rest.now) ≡ true = sym c.fields-test.ensures in
    let whole = Rule c.in_ok-freq.freq (map field_form c.fields.fields.items) in
    let e = close_there whole (plains c.fields.rest.now) closed
    ∙ sym (fields_end c.in_ok-freq.freq (map field_form c.fields.fields.items)
    (plains c.fields.rest.now) (rule_at (plains c.args.tokens.now)) closed
    (some_close (plains c.fields.rest.now) closed) c.fields.invariant.read) in
    rw (← e) c.close.ensures.read
