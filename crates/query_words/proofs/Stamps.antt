-- A text names one moment.
use Rattle.std.proofs.Common.{◌≡◌, List, ℕ, codes, get_or, refl, sym, ◌∙◌, ap, arith}
use Rattle.moment_core.specs.declared.line.Stamp.{Stamp}
use Rattle.moment_text.specs.Laws.{LiteralsTellMomentsApart}
use Rattle.token_text.specs.Laws.{TextsTellTokensApart}
use Rattle.moment_text.specs.Literal.{IsStamp}
use Rattle.query_words.specs.Words.{IsDirValue, IsNumber, IsNumberValue, IsStampValue, IsTokenValue, IsDir, IsValue}
use Rattle.query_words.specs.declared.commands.Key.{Key}
use Rattle.query_words.specs.declared.commands.Key.TheVariants.{At, From, To, Dir as DirOf, Limit, Budget, Token as TokenOf, Seed}
use Rattle.query_words.specs.declared.values.Value.{Value}
use Rattle.query_words.specs.declared.values.Value.TheVariants.{Stamp as Stamped, Dir as Directed, Number, Token as Placed}
use Rattle.moment_core.specs.declared.line.Dir.{Dir}
use Rattle.moment_core.specs.declared.line.Dir.TheVariants.{Fore, Back}
use Rattle.moment_core.proofs.LineLaws.{calendar_works}

pub one_stamp : LiteralsTellMomentsApart → (text : List ℕ) (s t : Stamp) → IsStamp text s
    → IsStamp text t → s ≡ t
one_stamp apart text s t a b =
    let both = apart s.moment.0 t.moment.0 s.absolute t.absolute
    (calendar_works s.moment.0 a.in_range) (calendar_works t.moment.0 b.in_range) (sym a.is_literal
    ∙ b.is_literal) in
    let moment : s ≡ record { moment = record { 0 = t.moment.0 }; absolute = s.absolute } =
    ap (λ z. record { moment = record { 0 = z }; absolute = s.absolute }) both.0 in
    let absolute : record { moment = record { 0 = t.moment.0 }; absolute = s.absolute } ≡ t =
    ap (λ z. record { moment = record { 0 = t.moment.0 }; absolute = z }) both.1 in
    moment ∙ absolute

stamp_meaning : LiteralsTellMomentsApart → (text : List ℕ) (v w : Value) → IsStampValue text v
    → IsStampValue text w → v ≡ w
stamp_meaning apart text (Stamped s) (Stamped t) a b = ap Stamped (one_stamp apart text s t a b)
stamp_meaning apart text (Stamped s) w a b = absurd b
stamp_meaning apart text v w a b = absurd a

number_meaning : (least most : ℕ) (text : List ℕ) (v w : Value)
    → IsNumberValue (IsNumber least most) text v → IsNumberValue (IsNumber least most) text w → v
    ≡ w
number_meaning least most text (Number n) (Number m) a b = ap Number (sym a.value ∙ b.value)
number_meaning least most text (Number n) w a b = absurd b
number_meaning least most text v w a b = absurd a

fore_not_back : codes "fore" ≡ codes "back" → ⊥
fore_not_back e = let first : 102 ≡ 98 = ap (λ (x : List ℕ). get_or x 0 0) e in
    absurd (omega (arith, first))

pub one_dir : (text : List ℕ) (a b : Dir) → IsDir text a → IsDir text b → a ≡ b
one_dir text Fore Fore a b = refl
one_dir text Back Back a b = refl
one_dir text Fore Back a b = absurd (fore_not_back (sym a ∙ b))
one_dir text Back Fore a b = absurd (fore_not_back (sym b ∙ a))

dir_meaning : (text : List ℕ) (v w : Value) → IsDirValue text v → IsDirValue text w → v ≡ w
dir_meaning text (Directed d) (Directed e) a b = ap Directed (one_dir text d e a b)
dir_meaning text (Directed d) w a b = absurd b
dir_meaning text v w a b = absurd a

token_meaning : TextsTellTokensApart → (text : List ℕ) (v w : Value) → IsTokenValue text v
    → IsTokenValue text w → v ≡ w
token_meaning apart text (Placed s) (Placed t) a b = ap Placed (apart text s t a b)
token_meaning apart text (Placed s) w a b = absurd b
token_meaning apart text v w a b = absurd a

-- a text has one meaning as the value of a key
pub one_meaning : LiteralsTellMomentsApart → TextsTellTokensApart → (key : Key) (text : List ℕ)
    (v w : Value) → IsValue key text v → IsValue key text w → v ≡ w
one_meaning apart tokens At text v w a b = stamp_meaning apart text v w a b
one_meaning apart tokens From text v w a b = stamp_meaning apart text v w a b
one_meaning apart tokens To text v w a b = stamp_meaning apart text v w a b
one_meaning apart tokens DirOf text v w a b = dir_meaning text v w a b
one_meaning apart tokens Limit text v w a b = number_meaning 1 1_000_000 text v w a b
one_meaning apart tokens Budget text v w a b = number_meaning 1 1_000_000_000_000 text v w a b
one_meaning apart tokens TokenOf text v w a b = token_meaning tokens text v w a b
one_meaning apart tokens Seed text v w a b = number_meaning 0 18_446_744_073_709_551_615 text v w a
    b
