-- The texts of tokens are ASCII.
use Rattle.std.proofs.Common.{ℕ, ◌<◌, List, [], ◌∷◌, ◌++◌, Option, Some, None, arith}
use Rattle.std.specs.Fmt.{signed_decimal}
use Rattle.std.specs.Str.{IsAscii}
use Rattle.std.proofs.lemmas.Fmt.{IsAscii-signed}
use Rattle.std.proofs.lemmas.Int.{ints}
use Rattle.std.proofs.lemmas.Str.{IsAscii-append}
use Rattle.std.proofs.lemmas.Str.Ascii.{IsAscii-cons, IsAscii-nil}
use Rattle.moment_core.specs.declared.line.Dir.{Dir}
use Rattle.moment_core.specs.declared.line.Dir.TheVariants.{Fore, Back}
use Rattle.moment_core.specs.declared.line.Pos.{Pos}
use Rattle.span_core.specs.Tokens.{IsFit}
use Rattle.span_core.specs.declared.answers.Token.{Token}
use Rattle.token_text.specs.Parts.{IsNearIfGiven, IsNearRange}
use Rattle.token_text.specs.Texts.{begun_text, dir_text, token_text, with_colon}
use Rattle.token_text.proofs.Numerals.{fit_near}

one : (b : ℕ) → b < 128 → IsAscii (b ∷ [])
one b small = IsAscii-cons b [] small IsAscii-nil

four : (a b c d : ℕ) → a < 128 → b < 128 → c < 128 → d < 128 → IsAscii (a ∷ b ∷ c ∷ d ∷ [])
four a b c d h i j k = IsAscii-cons a (b ∷ c ∷ d ∷ []) h
    (IsAscii-cons b (c ∷ d ∷ []) i (IsAscii-cons c (d ∷ []) j (one d k)))

dir_ascii : (dir : Dir) → IsAscii (dir_text dir)
dir_ascii Fore = four 102 111 114 101 (omega arith) (omega arith) (omega arith) (omega arith)
dir_ascii Back = four 98 97 99 107 (omega arith) (omega arith) (omega arith) (omega arith)

number_ascii : (p : Pos) → IsNearRange p → IsAscii (signed_decimal p.0)
number_ascii p near = IsAscii-signed p.0 (grind (arith, ints))

begun_ascii : (p : Option Pos) → IsNearIfGiven p → IsAscii (begun_text p)
begun_ascii None near = one 45 (omega arith)
begun_ascii (Some p) near = number_ascii p near

colon_ascii : (a b : List ℕ) → IsAscii a → IsAscii b → IsAscii (with_colon a b)
colon_ascii a b h k = IsAscii-append (a ++ 58 ∷ []) b
    (IsAscii-append a (58 ∷ []) h (one 58 (omega arith))) k

pub token_ascii : (t : Token) → IsFit t → IsAscii (token_text t)
token_ascii t fit =
    let near = fit_near t fit in
    let last = colon_ascii (begun_text t.begun) (signed_decimal t.end.0)
    (begun_ascii t.begun near.2) (number_ascii t.end near.1) in
    let later = colon_ascii (signed_decimal t.place.0)
    (with_colon (begun_text t.begun) (signed_decimal t.end.0)) (number_ascii t.place near.0) last in
    colon_ascii (dir_text t.dir)
    (with_colon (signed_decimal t.place.0)
    (with_colon (begun_text t.begun) (signed_decimal t.end.0))) (dir_ascii t.dir) later
