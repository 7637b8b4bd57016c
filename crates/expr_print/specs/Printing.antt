-- The printed form.
use Rattle.std.specs.Prelude.{ℕ, ℤ, Bool, true, false, ◌&&◌, List, [], ◌∷◌, ◌++◌, Option, Some, None, codes, if◌then◌else◌}
use Rattle.std.specs.Fmt.{signed_decimal}
use Rattle.std.specs.List.{flat_map}
use Rattle.moment_core.specs.Clocks.{is_absolute}
use Rattle.moment_core.specs.declared.line.Clock.{Clock}
use Rattle.moment_core.specs.declared.line.Moment.{Moment}
use Rattle.moment_core.specs.declared.line.Stamp.{Stamp}
use Rattle.moment_text.specs.Literal.{literal_of}
use Rattle.span_core.specs.declared.bounds.Bound.{Bound}
use Rattle.span_core.specs.declared.bounds.Bound.TheVariants.{Closed, Open, Inf, Edge}
use Rattle.moment_core.specs.declared.joining.Op.{Op}
use Rattle.moment_core.specs.declared.joining.Op.TheVariants.{Union, Meet, Minus}
use Rattle.expr_tokens.specs.declared.token.Word.{Word}
use Rattle.expr_tokens.specs.declared.token.Word.TheVariants as words
use Rattle.expr_tokens.specs.Names.{name_of}
use Rattle.expr_grammar.specs.Calls.{call_of}
use Rattle.expr_print.specs.Fields.{field_rule_text}
use Rattle.rrule_text.specs.Writing.{text_of}
use Rattle.rule_core.specs.declared.ical.IcalRule.{IcalRule}
use Rattle.expr_tree.specs.Tree.{Rule, Listed, Field, Ical, Tree, Empty, Spanned, Ruled, Joined, Pairs, Unary, Trees}

-- operands that are themselves joined by an operator stand in brackets
abbrev pub is_join : Tree Rule → Bool
is_join (Joined op a b) = true
is_join t = false

abbrev pub bracketed : Bool → List ℕ → List ℕ
bracketed true text = codes "(" ++ text ++ codes ")"
bracketed false text = text

abbrev pub stamp_text : Stamp → List ℕ
stamp_text s = literal_of s.moment.0 s.absolute

abbrev pub next_stamp : Stamp → List ℕ
next_stamp s = codes ", " ++ stamp_text s

-- one comma and a space after each moment but the last
abbrev pub stamps_text : List Stamp → List ℕ
stamps_text [] = []
stamps_text (s ∷ ss) = stamp_text s ++ flat_map next_stamp ss

abbrev pub moment_text : Moment → Clock → List ℕ
moment_text t clock = literal_of t.0 (is_absolute clock)

abbrev pub low_text : Bound → Clock → List ℕ
low_text (Closed t) clock = codes "start " ++ moment_text t clock
low_text (Open t) clock = codes "after " ++ moment_text t clock
low_text Inf clock = []
low_text Edge clock = []

abbrev pub high_text : Bound → Clock → List ℕ
high_text (Closed t) clock = codes "end " ++ moment_text t clock
high_text (Open t) clock = codes "before " ++ moment_text t clock
high_text Inf clock = []
high_text Edge clock = []

abbrev pub is_at_moment : Bound → Bool
is_at_moment (Closed t) = true
is_at_moment (Open t) = true
is_at_moment Inf = false
is_at_moment Edge = false

abbrev pub comma_text : Bound → Bound → List ℕ
comma_text low high = if is_at_moment low && is_at_moment high then codes ", " else []

-- the sign between two operands
abbrev pub sign_text : Op → List ℕ
sign_text Union = codes " | "
sign_text Meet = codes " & "
sign_text Minus = codes " - "

-- the written form of a rule of RFC 5545 in quotes, and DTSTART
abbrev pub rrule_text : IcalRule → List ℕ
rrule_text rule =
    codes "rrule(\"" ++ text_of rule ++ codes "\", " ++ stamp_text rule.start ++ codes ")"

abbrev pub rule_text : Rule → List ℕ
rule_text (Listed stamps) = codes "{" ++ stamps_text stamps ++ codes "}"
rule_text (Field rule) = field_rule_text rule
rule_text (Ical rule) = rrule_text rule

-- the number behind the one expression of a call, if there is one
abbrev pub number_text : Option ℤ → List ℕ
number_text None = []
number_text (Some n) = codes ", " ++ signed_decimal n

-- a call, by its name and what stands within its brackets
abbrev pub call_text : Word → List ℕ → List ℕ
call_text name within = name_of name ++ codes "(" ++ within ++ codes ")"

-- a sign and its operand, or a call
abbrev pub unary_text : Option (Word × Option ℤ) → Bool → List ℕ → List ℕ
unary_text None joined text = codes "!" ++ bracketed joined text
unary_text (Some call) joined text = call_text call.0 (text ++ number_text call.1)

unfoldable pub print : Tree Rule → List ℕ
print Empty = codes "empty()"
print (Spanned bounds low high) =
    codes "span(" ++ low_text bounds.0 low ++ comma_text bounds.0 bounds.1
    ++ high_text bounds.1 high ++ codes ")"
print (Ruled rule) = rule_text rule
print (Joined op a b) =
    bracketed (is_join a) (print a) ++ sign_text op ++ bracketed (is_join b) (print b)
print (Pairs a b) = call_text words.Pairs (print a ++ codes ", " ++ print b)
print (Unary op a) = unary_text (call_of op) (is_join a) (print a)

abbrev pub operand_text : Tree Rule → List ℕ
operand_text t = bracketed (is_join t) (print t)

abbrev pub print_second : Option (Tree Rule) → List ℕ
print_second None = []
print_second (Some t) = codes " ; " ++ print t

abbrev pub print_program : Trees → List ℕ
print_program p = print p.first ++ print_second p.second
