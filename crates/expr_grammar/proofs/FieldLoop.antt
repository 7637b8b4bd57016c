-- Reading the fields of a rule, and the numbers of a field, one after the other, as a loop does.
use Rattle.std.proofs.Common.{◌≡◌, ℕ, zero, suc, ◌≤◌, ◌<◌, ℤ, Bool, true, false, ◌||◌, List, [], ◌∷◌, ◌++◌, length, drop, map, Some, None, refl, sym, ap, ◌∙◌, arith}
use Rattle.std.specs.List.{list_any}
use Rattle.rule_core.specs.declared.part.Freq.{Freq}
use Rattle.expr_tokens.specs.Plain.{Token}
use Rattle.expr_tokens.specs.Plain as tokens
use Rattle.expr_grammar.specs.declared.fault.ParseFault.{ParseFault}
use Rattle.expr_grammar.specs.declared.fault.ParseFault.TheVariants as faults
use Rattle.expr_grammar.specs.Fields.{same_key}
use Rattle.expr_grammar.specs.Form.{FieldForm, Form, Rule}
use Rattle.expr_grammar.specs.declared.syntax.Field.{Field}
use Rattle.expr_grammar.specs.Syntax.{field_form}
use Rattle.expr_grammar.specs.Parsing.{Read, Fails, close_at, field_at, fields_from, freq_at, has_key, is_close, more_at, next_at, rule_at, with_freq}
use Rattle.expr_grammar.proofs.Parts.{read_is}

pub next_read : (before : List ℤ) (ts : List Token) (n : ℤ) (rest : List Token) → next_at ts
    ≡ Some (n, rest) → more_at before ts ≡ more_at (before ++ n ∷ []) rest
unfolding more_at
next_read before (tokens.Comma ∷ tokens.Number m ∷ ts) n rest e = let same =
    read_is m n ts rest e in rw (same.0, same.1) refl
next_read before ts n rest e = absurd cc

pub none_read : (before : List ℤ) (ts : List Token) → next_at ts ≡ None → more_at before ts
    ≡ (before, ts)
unfolding more_at
none_read before (tokens.Comma ∷ tokens.Number m ∷ ts) e = absurd cc
none_read before ts e = refl

pub name_fails : (e : ParseFault) (ts : List Token) → Fails e (freq_at ts) → Fails e (rule_at ts)
unfolding rule_at
name_fails faults.Memory ts h = tt
name_fails faults.Syntax ts h = rw h refl

-- what is left of a loop over fields gives the whole
pub record FieldsGoOn (freq : Freq) (found : List FieldForm) (rest : List Token)
    (total : Read) : Type 0 where
  pub most : ℕ
  pub enough : length rest ≤ most
  pub so_far : with_freq freq (fields_from most found rest) ≡ total

pub fields_start : (ts : List Token) (freq : Freq) (rest : List Token) → freq_at ts
    ≡ Some (freq, rest) → FieldsGoOn freq [] rest (rule_at ts)
unfolding rule_at
fields_start ts freq rest h = record {
  most = length rest;
  enough = omega arith;
  so_far =
      rw h refl;
}

module _ (freq : Freq) (found : List FieldForm) (rest : List Token) (total : Read) where
  fail_from : (e : ParseFault) (n : ℕ) → is_close rest ≡ false → Fails e (field_at rest)
      → with_freq freq (fields_from n found rest) ≡ total → Fails e total
  unfolding fields_from
  fail_from faults.Memory n next h so_far = tt
  fail_from faults.Syntax zero next h so_far = sym so_far
  fail_from faults.Syntax (suc n) next h so_far = sym so_far ∙ rw (next, h) refl

  pub field_fails : (e : ParseFault) → is_close rest ≡ false → Fails e (field_at rest)
      → FieldsGoOn freq found rest total → Fails e total
  field_fails e next h on = fail_from e on.most next h on.so_far

  repeat_from : (n : ℕ) (f : FieldForm) (after : List Token) → is_close rest ≡ false → field_at rest
      ≡ Some (f, after) → has_key f found ≡ true → with_freq freq (fields_from n found rest) ≡ total
      → total ≡ None
  unfolding fields_from
  repeat_from zero f after next h taken so_far = sym so_far
  repeat_from (suc n) f after next h taken so_far = sym so_far ∙ rw (next, h, taken) refl

  -- a field whose key was read before
  pub key_repeated : (f : FieldForm) (after : List Token) → is_close rest ≡ false → field_at rest
      ≡ Some (f, after) → has_key f found ≡ true → FieldsGoOn freq found rest total → total ≡ None
  key_repeated f after next h taken on = repeat_from on.most f after next h taken on.so_far

  goes_from : (n : ℕ) (f : FieldForm) (after : List Token) → is_close rest ≡ false → field_at rest
      ≡ Some (f, after) → has_key f found ≡ false → length after < length rest → length rest ≤ n
      → with_freq freq (fields_from n found rest) ≡ total → FieldsGoOn freq (found ++ f ∷ []) after
      total
  unfolding fields_from
  goes_from zero f after next h free shorter enough so_far = absurd (omega (arith, shorter, enough))
  goes_from (suc n) f after next h free shorter enough so_far =
      let one : with_freq freq (fields_from (suc n) found rest)
      ≡ with_freq freq (fields_from n (found ++ f ∷ []) after) = rw (next, h, free) refl in
      record { most = n; enough = omega (arith, shorter, enough); so_far = sym one ∙ so_far }

  pub fields_go_on : (f : FieldForm) (after : List Token) → is_close rest ≡ false → field_at rest
      ≡ Some (f, after) → has_key f found ≡ false → length after < length rest
      → FieldsGoOn freq found rest total → FieldsGoOn freq (found ++ f ∷ []) after total
  fields_go_on f after next h free shorter on = goes_from on.most f after next h free shorter
      on.enough on.so_far

  ends_from : (n : ℕ) → is_close rest ≡ true → 0 < length rest → length rest ≤ n
      → with_freq freq (fields_from n found rest) ≡ total → total
      ≡ Some (Rule freq found, drop 1 rest)
  unfolding fields_from
  ends_from zero next some enough so_far = absurd (omega (arith, some, enough))
  ends_from (suc n) next some enough so_far = sym so_far ∙ rw next refl

  pub fields_end : is_close rest ≡ true → 0 < length rest → FieldsGoOn freq found rest total → total
      ≡ Some (Rule freq found, drop 1 rest)
  fields_end next some on = ends_from on.most next some on.enough on.so_far

pub some_close : (ts : List Token) → is_close ts ≡ true → 0 < length ts
some_close [] e = absurd cc
some_close (t ∷ ts) e = omega arith

pub close_there : (t : Form) (ts : List Token) → is_close ts ≡ true → close_at t ts
    ≡ Some (t, drop 1 ts)
unfolding close_at
close_there t (tokens.Close ∷ ts) e = refl
close_there t ts e = absurd cc

pub any_form : (f : FieldForm) (fields : List Field)
    → list_any (λ other. same_key (field_form other) f) fields ≡ has_key f (map field_form fields)
any_form f [] = refl
any_form f (x ∷ fields) = ap (λ (b : Bool). same_key (field_form x) f || b) (any_form f fields)
