-- Fields put one after the other.
use Rattle.std.proofs.Common.{◌≡◌, ℕ, ℤ, Bool, true, false, ◌||◌, List, [], ◌∷◌, ◌++◌, Option, Some, None, refl, sym, ap, ◌∙◌, append_assoc}
use Rattle.std.specs.List.{flat_map}
use Rattle.std.specs.Option.{is_some}
use Rattle.std.proofs.lemmas.List.{append-nil}
use Rattle.std.proofs.lemmas.List.Concat.{flat_map-cons}
use Rattle.moment_core.specs.declared.line.Stamp.{Stamp}
use Rattle.std.proofs.lemmas.Bool.{or_right}
use Rattle.rule_core.specs.Values.{is_given}
use Rattle.expr_grammar.specs.declared.syntax.Key.{Key}
use Rattle.expr_print.specs.Fields.{fields_text, next_field, numbers_before, start_before}
use Rattle.std.proofs.Math.Bool.{or-false}

-- one field and those after it
one_more : (after : Bool) (field : List ℕ) (fields : List (List ℕ))
    → fields_text after (field ∷ fields) ≡ fields_text after (field ∷ []) ++ fields_text true fields
one_more true field fields =
    flat_map-cons next_field field fields
    ∙ ap (λ (x : List ℕ). x ++ flat_map next_field fields) (sym (append-nil (next_field field))
    ∙ sym (flat_map-cons next_field field []))
one_more false field fields = ap (λ (x : List ℕ). x ++ flat_map next_field fields)
    (sym (append-nil field))

none_after : (after : Bool) → fields_text after [] ≡ []
none_after true = refl
none_after false = refl

numbers_more : (after : Bool) (key : Key) (ns : List ℤ) (fields : List (List ℕ))
    → fields_text after (numbers_before key ns fields)
    ≡ fields_text after (numbers_before key ns []) ++ fields_text (after || is_given ns) fields
numbers_more after key [] fields = rw (or-false after, none_after after) refl
numbers_more after key (n ∷ ns) fields = rw (or_right after true refl) (one_more after _ fields)

start_more : (after : Bool) (start : Option Stamp) (fields : List (List ℕ))
    → fields_text after (start_before start fields) ≡ fields_text after (start_before start [])
    ++ fields_text (after || is_some start) fields
start_more after None fields = rw (or-false after, none_after after) refl
start_more after (Some s) fields = rw (or_right after true refl) (one_more after _ fields)

-- What was put, and what is still to be put: from one field to the next.
pub past_numbers : (total out next : List ℕ) (after told : Bool) (key : Key) (ns given : List ℤ)
    (fields : List (List ℕ)) → given ≡ ns
    → total ≡ out ++ fields_text after (numbers_before key ns fields) → next ≡ out
    ++ fields_text after (numbers_before key given [])
    → told ≡ (after || is_given given) → total ≡ next ++ fields_text told fields
past_numbers total out next after told key ns given fields same e d t =
    rw (t, d, same) (e ∙ ap (λ (x : List ℕ). out ++ x) (numbers_more after key ns fields)
    ∙ sym (append_assoc out (fields_text after (numbers_before key ns []))
    (fields_text (after || is_given ns) fields)))

pub past_start : (total out next : List ℕ) (after told : Bool) (start : Option Stamp)
    (fields : List (List ℕ))
    → total ≡ out ++ fields_text after (start_before start fields) → next ≡ out
    ++ fields_text after (start_before start [])
    → told ≡ (after || is_some start) → total ≡ next ++ fields_text told fields
past_start total out next after told start fields e d t =
    rw (t, d) (e ∙ ap (λ (x : List ℕ). out ++ x) (start_more after start fields)
    ∙ sym (append_assoc out (fields_text after (start_before start []))
    (fields_text (after || is_some start) fields)))

pub past_all : (total out : List ℕ) (after : Bool) → total ≡ out ++ fields_text after [] → out
    ≡ total
past_all total out after e = sym (e ∙ ap (λ (x : List ℕ). out ++ x) (none_after after)
    ∙ append-nil out)
