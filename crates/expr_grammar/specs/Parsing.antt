-- Reading an expression from left to right, in the order of the parser: just what the grammar
-- spells.
use Rattle.std.specs.Prelude.{◌≡◌, ℕ, zero, suc, ℤ, List, [], ◌∷◌, ◌++◌, length, drop, Bool, true, false, Option, Some, None, Result, Ok, Err, if◌then◌else◌, ◌==◌}
use Rattle.std.specs.List.{list_any}
use Rattle.std.specs.Global.{Vec}
use denote.Ref.{Bor}
use Rattle.moment_core.specs.declared.line.Stamp.{Stamp}
use Rattle.moment_core.specs.declared.joining.Op.{Op}
use Rattle.moment_core.specs.declared.joining.Op.TheVariants as operators
use Rattle.moment_core.specs.Texts.{◌>>=◌}
use Rattle.rule_core.specs.declared.part.Freq.{Freq}
use Rattle.rule_core.specs.declared.part.Freq.TheVariants as freqs
use Rattle.expr_tokens.specs.declared.token.Word.{Word}
use Rattle.expr_tokens.specs.declared.token.Word.TheVariants as words
use Rattle.expr_tokens.specs.declared.token.Token.{Token as Placed}
use Rattle.expr_tokens.specs.Plain.{Token, plains}
use Rattle.expr_tokens.specs.Plain as tokens
use Rattle.expr_grammar.specs.declared.fault.ParseFault.{ParseFault}
use Rattle.expr_grammar.specs.declared.fault.ParseFault.TheVariants as faults
use Rattle.expr_grammar.specs.declared.syntax.BinaryOp.TheVariants.{Infix, Pairs}
use Rattle.expr_grammar.specs.declared.syntax.Field.{Field}
use Rattle.expr_grammar.specs.declared.syntax.Key.{Key}
use Rattle.expr_grammar.specs.declared.syntax.Key.TheVariants as keys
use Rattle.expr_grammar.specs.declared.syntax.SpanBound.{SpanBound}
use Rattle.expr_grammar.specs.declared.syntax.SyntaxTree.{SyntaxTree}
use Rattle.moment_core.specs.declared.joining.UnaryOp.{UnaryOp}
use Rattle.moment_core.specs.declared.joining.UnaryOp.TheVariants.{Not}
use Rattle.expr_grammar.specs.Calls.{takes_expression, unary_named}
use Rattle.expr_grammar.specs.Syntax.{field_form, form_of}
use Rattle.expr_grammar.specs.Fields.{is_single, same_key}
use Rattle.expr_grammar.specs.Grammar.{nesting_limit}
use Rattle.expr_grammar.specs.Form.{FieldForm, Values, Start, Form, Empty, Listed, Span, Rule, Rrule, Unary, Binary, Forms}

-- What a function returned, seen by view, is what reading gives, unless memory ran out.
abbrev pub Fails : {Y : Type 0} → ParseFault → Option Y → Type 0
Fails faults.Memory read = Unit {0}
Fails faults.Syntax read = read ≡ None

abbrev pub Gives : {X Y : Type 0} → (X → Y) → Result X ParseFault → Option Y → Type 0
Gives view (Ok x) read = read ≡ Some (view x)
Gives view (Err e) read = Fails e read

-- what is read at the front, and the tokens after it
abbrev pub Read : Type 0
Read = Option (Form × List Token)

-- what a function returned of a tree and the tokens behind it is what reading gives
abbrev pub ReadsTree : Result (SyntaxTree × Bor (List Placed)) ParseFault → Read → Type 0
ReadsTree result read = Gives (λ x. (form_of x.0, plains x.1.now)) result read

-- the same of a list of moments
abbrev pub ReadsMoments : Result (Vec (Option Stamp) × Bor (List Placed)) ParseFault
    → Option (List (Option Stamp) × List Token) → Type 0
ReadsMoments result read = Gives (λ x. (x.0.items, plains x.1.now)) result read

abbrev pub same : Op → Op → Bool
same operators.Union operators.Union = true
same operators.Minus operators.Minus = true
same operators.Meet operators.Meet = true
same p q = false

-- whether the operator stands next
abbrev pub stands : Op → List Token → Bool
stands op (tokens.Operator next ∷ ts) = same op next
stands op ts = false

-- { op operand }, at most so many
unfoldable pub chain_from : (List Token → Read) → Op → ℕ → Form → List Token → Read
chain_from operand op zero left ts = Some (left, ts)
chain_from operand op (suc n) left ts = if stands op ts
    then operand (drop 1 ts) >>= (λ b. chain_from operand op n (Binary (Infix op) left b.0) b.1)
    else Some (left, ts)

unfoldable pub chain_at : (List Token → Read) → Op → List Token → Read
chain_at operand op ts = operand ts >>= λ a. chain_from operand op (length a.1) a.0 a.1

-- what an operator joins
abbrev pub operand_at : (List Token → Read) → Op → List Token → Read
operand_at atom operators.Meet = atom
operand_at atom operators.Minus = chain_at atom operators.Meet
operand_at atom operators.Union = chain_at (chain_at atom operators.Meet) operators.Minus

abbrev pub expr_at : (List Token → Read) → List Token → Read
expr_at atom = chain_at (operand_at atom operators.Union) operators.Union

-- the list with a moment before it
abbrev pub with_first : Option Stamp → Option (List (Option Stamp) × List Token)
    → Option (List (Option Stamp) × List Token)
with_first m read = read >>= λ ms. Some (m ∷ ms.0, ms.1)

-- { "," moment } "}"
unfoldable pub moments_at : List Token → Option (List (Option Stamp) × List Token)
moments_at (tokens.RightBrace ∷ ts) = Some ([], ts)
moments_at (tokens.Comma ∷ tokens.Moment m ∷ ts) = with_first m (moments_at ts)
moments_at ts = None

-- where no moment follows
unfoldable pub moments_end_at : List (Option Stamp) → List Token
    → Option (List (Option Stamp) × List Token)
moments_end_at found (tokens.RightBrace ∷ ts) = Some (found, ts)
moments_end_at found ts = None

abbrev pub moment_at : List Token → Option (Option Stamp × List Token)
moment_at (tokens.Moment m ∷ ts) = Some (m, ts)
moment_at ts = None

unfoldable pub list_at : List Token → Option (List (Option Stamp) × List Token)
list_at ts = moment_at ts >>= λ m. with_first m.0 (moments_at m.1)

unfoldable pub close_at : Form → List Token → Read
close_at t (tokens.Close ∷ ts) = Some (t, ts)
close_at t ts = None

abbrev pub high_at : List Token → Option (SpanBound × List Token)
high_at (tokens.Word words.End ∷ tokens.Moment m ∷ ts) =
    Some (record { closed = true; stamp = m }, ts)
high_at (tokens.Word words.Before ∷ tokens.Moment m ∷ ts) =
    Some (record { closed = false; stamp = m }, ts)
high_at ts = None

-- high ")"
unfoldable pub high_end_at : Option SpanBound → List Token → Read
high_end_at low ts = high_at ts >>= λ b. close_at (Span low (Some b.0)) b.1

-- [ "," high ] ")"
unfoldable pub low_end_at : SpanBound → List Token → Read
low_end_at low (tokens.Comma ∷ ts) = high_end_at (Some low) ts
low_end_at low ts = close_at (Span (Some low) None) ts

-- [ low [ "," high ] | high ] ")"
unfoldable pub span_at : List Token → Read
span_at (tokens.Close ∷ ts) = Some (Span None None, ts)
span_at (tokens.Word words.Start ∷ tokens.Moment m ∷ ts) =
    low_end_at (record { closed = true; stamp = m }) ts
span_at (tokens.Word words.After ∷ tokens.Moment m ∷ ts) =
    low_end_at (record { closed = false; stamp = m }) ts
span_at ts = high_end_at None ts

abbrev pub freq_named : Word → Option Freq
freq_named words.Yearly = Some freqs.Yearly
freq_named words.Monthly = Some freqs.Monthly
freq_named words.Weekly = Some freqs.Weekly
freq_named words.Daily = Some freqs.Daily
freq_named words.Hourly = Some freqs.Hourly
freq_named words.Minutely = Some freqs.Minutely
freq_named words.Secondly = Some freqs.Secondly
freq_named w = None

-- freq "("
abbrev pub freq_at : List Token → Option (Freq × List Token)
freq_at (tokens.Word w ∷ tokens.Open ∷ ts) = freq_named w >>= λ freq. Some (freq, ts)
freq_at ts = None

abbrev pub key_named : Word → Option Key
key_named words.Months = Some keys.Months
key_named words.Weeks = Some keys.Weeks
key_named words.Days = Some keys.Days
key_named words.Hours = Some keys.Hours
key_named words.Minutes = Some keys.Minutes
key_named words.Seconds = Some keys.Seconds
key_named words.Interval = Some keys.Interval
key_named words.WeekStart = Some keys.WeekStart
key_named w = None

-- key "=" number
abbrev pub number_at : List Token → Option ((Key × ℤ) × List Token)
number_at (tokens.Word w ∷ tokens.Equals ∷ tokens.Number n ∷ ts) =
    key_named w >>= λ key. Some ((key, n), ts)
number_at ts = None

-- "," number
abbrev pub next_at : List Token → Option (ℤ × List Token)
next_at (tokens.Comma ∷ tokens.Number n ∷ ts) = Some (n, ts)
next_at ts = None

-- { "," number }, behind the numbers that were found
unfoldable pub more_at : List ℤ → List Token → List ℤ × List Token
more_at found (tokens.Comma ∷ tokens.Number n ∷ ts) = more_at (found ++ n ∷ []) ts
more_at found ts = (found, ts)

-- the same, unless the key has just one number
abbrev pub numbers_at : Bool → List ℤ → List Token → List ℤ × List Token
numbers_at true found ts = (found, ts)
numbers_at false found ts = more_at found ts

-- what is read of a field, and the tokens after it
abbrev pub ReadField : Type 0
ReadField = Option (FieldForm × List Token)

-- what a function returned of a field and the tokens behind it is what reading gives
abbrev pub ReadsField : Result (Field × Bor (List Placed)) ParseFault → ReadField → Type 0
ReadsField result read = Gives (λ x. (field_form x.0, plains x.1.now)) result read

abbrev pub with_key : Key → List ℤ × List Token → ReadField
with_key key ns = Some (Values key ns.0, ns.1)

unfoldable pub values_at : List Token → ReadField
values_at ts = number_at ts >>= λ x. with_key x.0.0 (numbers_at (is_single x.0.0) (x.0.1 ∷ []) x.1)

unfoldable pub field_at : List Token → ReadField
field_at (tokens.Word words.Start ∷ tokens.Equals ∷ tokens.Moment m ∷ ts) = Some (Start m, ts)
field_at ts = values_at ts

abbrev pub is_close : List Token → Bool
is_close (tokens.Close ∷ ts) = true
is_close ts = false

-- whether one of the fields has its key
abbrev pub has_key : FieldForm → List FieldForm → Bool
has_key f fields = list_any (λ g. same_key g f) fields

-- { field } ")", in at most so many steps, behind the fields that were found
unfoldable pub fields_from : ℕ → List FieldForm → List Token → Option (List FieldForm × List Token)
fields_from zero found ts = None
fields_from (suc n) found ts = if is_close ts
    then Some (found, drop 1 ts)
    else field_at ts >>= λ f. if has_key f.0 found then None
    else fields_from n (found ++ f.0 ∷ []) f.1

abbrev pub with_freq : Freq → Option (List FieldForm × List Token) → Read
with_freq freq read = read >>= λ fields. Some (Rule freq fields.0, fields.1)

unfoldable pub rule_at : List Token → Read
rule_at ts = freq_at ts >>= λ freq. with_freq freq.0 (fields_from (length freq.1) [] freq.1)

-- text "," moment ")"
unfoldable pub rrule_at : List Token → Read
rrule_at (tokens.Text text ∷ tokens.Comma ∷ tokens.Moment start ∷ tokens.Close ∷ ts) =
    Some (Rrule text start, ts)
rrule_at ts = None

unfoldable pub leaf_at : List Token → Read
leaf_at (tokens.Word words.Empty ∷ tokens.Open ∷ tokens.Close ∷ ts) = Some (Empty, ts)
leaf_at (tokens.Word words.Span ∷ tokens.Open ∷ ts) = span_at ts
leaf_at (tokens.Word words.Rrule ∷ tokens.Open ∷ ts) = rrule_at ts
leaf_at (tokens.LeftBrace ∷ ts) = list_at ts >>= λ ms. Some (Listed ms.0, ms.1)
leaf_at ts = rule_at ts

-- the name of a call that takes an expression, and the tokens behind its bracket
abbrev pub name_at : List Token → Option (Word × List Token)
name_at (tokens.Word w ∷ tokens.Open ∷ ts) = if takes_expression w then Some (w, ts) else None
name_at ts = None

-- [ "," number ] ")"
abbrev pub number_end_at : List Token → Option (Option ℤ × List Token)
number_end_at (tokens.Close ∷ ts) = Some (None, ts)
number_end_at (tokens.Comma ∷ tokens.Number n ∷ tokens.Close ∷ ts) = Some (Some n, ts)
number_end_at ts = None

-- the end of a call of one expression
unfoldable pub unary_end_at : Word → List Token → Option (UnaryOp × List Token)
unary_end_at w ts =
    number_end_at ts >>= λ x. unary_named w x.0 >>= λ op. Some (op, x.1)

-- "," expr ")"
unfoldable pub pairs_end_at : (List Token → Read) → Form → List Token → Read
pairs_end_at whole a (tokens.Comma ∷ ts) = whole ts >>= λ b. close_at (Binary Pairs a b.0) b.1
pairs_end_at whole a ts = None

-- the end of a call, behind its first expression
unfoldable pub call_end_at : (List Token → Read) → Word → Form → List Token → Read
call_end_at whole words.Pairs a ts = pairs_end_at whole a ts
call_end_at whole w a ts = unary_end_at w ts >>= λ x. Some (Unary x.0 a, x.1)

unfoldable pub call_at : (List Token → Read) → Word → List Token → Read
call_at whole w ts = whole ts >>= λ a. call_end_at whole w a.0 a.1

-- a call that takes an expression, or an atom without one in it
abbrev pub call_or_leaf : (List Token → Read) → Option (Word × List Token) → List Token → Read
call_or_leaf whole (Some x) ts = call_at whole x.0 x.1
call_or_leaf whole None ts = leaf_at ts

unfoldable pub nested_at : (List Token → Read) → (List Token → Read) → List Token → Read
nested_at whole atom (tokens.Open ∷ ts) = whole ts >>= λ a. close_at a.0 a.1
nested_at whole atom (tokens.Exclamation ∷ ts) = atom ts >>= λ a. Some (Unary Not a.0, a.1)
nested_at whole atom ts = call_or_leaf whole (name_at ts) ts

unfoldable pub atom_at : ℕ → List Token → Read
atom_at zero = leaf_at
atom_at (suc depth) = nested_at (expr_at (atom_at depth)) (atom_at depth)

-- operands of the operator, with round brackets and signs at most so deep
abbrev pub operands_at : ℕ → Op → List Token → Read
operands_at depth op = chain_at (operand_at (atom_at depth) op) op

-- an atom with one more pair of brackets or one more sign
abbrev pub deeper_at : ℕ → List Token → Read
deeper_at depth = nested_at (expr_at (atom_at depth)) (atom_at depth)

-- the second expression, where nothing stands behind it
unfoldable pub second_at : Form → List Token → Option Forms
second_at t ts =
    expr_at (atom_at nesting_limit) ts >>= λ u. if length u.1 == 0
    then Some (record { first = t; second = Some u.0 }) else None

unfoldable pub program_end_at : Form → List Token → Option Forms
program_end_at t [] = Some (record { first = t; second = None })
program_end_at t (tokens.Semicolon ∷ ts) = second_at t ts
program_end_at t ts = None

unfoldable pub program_at : List Token → Option Forms
program_at ts = expr_at (atom_at nesting_limit) ts >>= λ t. program_end_at t.0 t.1

-- how many operators bind tighter
abbrev pub rank : Op → ℕ
rank operators.Meet = 0
rank operators.Minus = 1
rank operators.Union = 2
