-- Each moment among the tokens of a text is of the calendar range.
use Rattle.std.proofs.Common.{◌≡◌, ℕ, zero, suc, ◌≤◌, Bool, true, false, cond, List, [], ◌∷◌, length, Option, Some, None, Ok, Err, refl, subst, arith}
use Rattle.std.specs.Prelude.{◌==◌, find}
use Rattle.std.specs.List.{AllByRecursion, AllZip}
use Rattle.moment_core.specs.Line.{IsCalendarMoment}
use Rattle.moment_core.specs.declared.line.Stamp.{Stamp}
use Rattle.moment_core.specs.declared.line.TheConstants.{WIDTH}
use Rattle.moment_core.proofs.LineLaws.{calendar_from_low}
use Rattle.expr_tokens.specs.declared.class.Class.TheVariants as classes
use Rattle.expr_tokens.specs.declared.token.Token.{Token as Placed}
use Rattle.moment_core.specs.declared.joining.Op.TheVariants as operators
use Rattle.expr_tokens.specs.declared.token.Word.{Word}
use Rattle.expr_tokens.specs.Class.{front_of, holds}
use Rattle.expr_tokens.specs.Names.{word_of}
use Rattle.expr_tokens.specs.Plain.{Token, plains}
use Rattle.expr_tokens.specs.Plain as tokens
use Rattle.expr_tokens.specs.Reading.{AreFound, Found, Front, IsFound, and_then, figures_at, name_at, named, number_at, quote_at, reading_from, reading_of, sign_of, signed_at, text_at, token_at, with_rest, with_token}
use Rattle.expr_tokens.specs.Stamps.{is_literal, stamp_of, stamps}
use Rattle.expr_text.specs.Phases.{IsInRange}

stamps_in_range : (n : ℕ) → n ≤ WIDTH → AllByRecursion (λ s. IsCalendarMoment s.moment.0) (stamps n)
unfolding stamps
stamps_in_range zero le = tt
stamps_in_range (suc n) le = (
  calendar_from_low n (omega (arith, le)),
  (
    calendar_from_low n (omega (arith, le)),
    stamps_in_range n (omega (arith, le)),
  ),
)

found_in_range : (p : Stamp → Bool) (ss : List Stamp)
    → AllByRecursion (λ s. IsCalendarMoment s.moment.0) ss → IsInRange (tokens.Moment (find p ss))
found_in_range p [] h = tt
found_in_range p (s ∷ ss) h =
    let P : Bool → Type 0 = λ b. IsInRange (tokens.Moment (cond b (Some s) (find p ss))) in
    let go : (b : Bool) → P b = λ b. elim b as P [ true ↦ h.0 | false ↦ found_in_range p ss h.1 ] in
    go (p s)

stamp_in_range : (text : List ℕ) → IsInRange (tokens.Moment (stamp_of text))
unfolding stamp_of
stamp_in_range text = found_in_range (is_literal text) (stamps WIDTH)
    (stamps_in_range WIDTH (omega arith))

record FrontInRange (front : Front) : Type 0 where
  holds : (x : Token × List ℕ) → front ≡ Some x → IsInRange x.0

one_in_range : (t : Token) (rest : List ℕ) → IsInRange t → FrontInRange (Some (t, rest))
one_in_range t rest h = record { holds = λ x e. let same : t ≡ x.0 = cc in subst IsInRange same h }

none_in_range : FrontInRange None
none_in_range = record { holds = λ x e. absurd cc }

either : (b : Bool) (x y : Front) → FrontInRange x → FrontInRange y → FrontInRange (cond b x y)
either true x y h k = h
either false x y h k = k

named_in_range : (name : List ℕ) (o : Option Word) → IsInRange (named name o)
named_in_range name None = tt
named_in_range name (Some w) = tt

name_in_range : (bytes : List ℕ) → FrontInRange (name_at bytes)
unfolding name_at
name_in_range bytes = one_in_range _ _ (named_in_range (front_of (holds classes.Name) bytes)
    (word_of (front_of (holds classes.Name) bytes)))

number_in_range : (minus : Bool) (bytes : List ℕ) → FrontInRange (number_at minus bytes)
unfolding number_at
number_in_range minus bytes = either _ _ _ (one_in_range _ _ tt) none_in_range

quote_in_range : (quoted bytes : List ℕ) → FrontInRange (quote_at quoted bytes)
unfolding quote_at
quote_in_range quoted [] = none_in_range
quote_in_range quoted (b ∷ bytes) = either _ _ _ (one_in_range _ _ tt) none_in_range

text_in_range : (bytes : List ℕ) → FrontInRange (text_at bytes)
unfolding text_at
text_in_range bytes = either _ _ _ (quote_in_range _ _) none_in_range

-- a sign is no moment
record IsSign (o : Option Token) : Type 0 where
  holds : (t : Token) → o ≡ Some t → IsInRange t

sign_is : (t : Token) → IsInRange t → IsSign (Some t)
sign_is t h = record { holds = λ u e. let same : t ≡ u = cc in subst IsInRange same h }

no_sign : IsSign None
no_sign = record { holds = λ t e. absurd cc }

either_sign : (b : Bool) (t : Token) (o : Option Token) → IsInRange t → IsSign o
    → IsSign (cond b (Some t) o)
either_sign true t o h k = sign_is t h
either_sign false t o h k = k

sign_of_in_range : (b : ℕ) → IsSign (sign_of b)
unfolding sign_of
sign_of_in_range b =
    either_sign (b == 40) tokens.Open _ tt (either_sign (b == 41) tokens.Close _ tt
    (either_sign (b == 123) tokens.LeftBrace _ tt
    (either_sign (b == 125) tokens.RightBrace _ tt (either_sign (b == 44) tokens.Comma _ tt
    (either_sign (b == 59) tokens.Semicolon _ tt
    (either_sign (b == 61) tokens.Equals _ tt
    (either_sign (b == 124) (tokens.Operator operators.Union) _ tt
    (either_sign (b == 38) (tokens.Operator operators.Meet) _ tt
    (either_sign (b == 45) (tokens.Operator operators.Minus) _ tt
    (either_sign (b == 33) tokens.Exclamation None tt no_sign))))))))))

rest_in_range : (rest : List ℕ) (o : Option Token) → IsSign o → FrontInRange (with_rest rest o)
rest_in_range rest None h = none_in_range
rest_in_range rest (Some t) h = one_in_range t rest (h.holds t refl)

signed_in_range : (bytes : List ℕ) → FrontInRange (signed_at bytes)
signed_in_range [] = none_in_range
signed_in_range (b ∷ bytes) = either _ _ _ (number_in_range true bytes)
    (number_in_range false (b ∷ bytes))

figures_in_range : (bytes : List ℕ) → FrontInRange (figures_at bytes)
unfolding figures_at
figures_in_range bytes = either _ _ _ (one_in_range _ _ (stamp_in_range _)) (signed_in_range bytes)

token_in_range : (b : ℕ) (bytes : List ℕ) → FrontInRange (token_at b bytes)
unfolding token_at
token_in_range b bytes =
    either _ _ _ (name_in_range (b ∷ bytes))
    (either _ _ _ (text_in_range bytes) (either _ _ _ (figures_in_range (b ∷ bytes))
    (rest_in_range bytes (sign_of b) (sign_of_in_range b))))

abbrev FoundInRange : Found → Type 0
FoundInRange (Ok found) = AllByRecursion (λ (x : Token × ℕ). IsInRange x.0) found
FoundInRange (Err left) = Unit {0}

with_token_in_range : (x : Token × ℕ) (r : Found) → IsInRange x.0 → FoundInRange r
    → FoundInRange (with_token x r)
with_token_in_range x (Ok found) h k = (h, k)
with_token_in_range x (Err left) h k = tt

and_then_in_range : (left : ℕ) (front : Front) (others : List ℕ → Found) → FrontInRange front
    → ((bytes : List ℕ) → FoundInRange (others bytes)) → FoundInRange (and_then left front others)
and_then_in_range left None others h k = tt
and_then_in_range left (Some x) others h k = with_token_in_range (x.0, left) (others x.1)
    (h.holds x refl) (k x.1)

steps_in_range : (n : ℕ) (bytes : List ℕ) → FoundInRange (reading_from n bytes)
unfolding reading_from
steps_in_range zero bytes = tt
steps_in_range (suc n) [] = tt
steps_in_range (suc n) (b ∷ bytes) =
    let token = and_then_in_range (suc (length bytes)) (token_at b bytes) (reading_from n)
    (token_in_range b bytes) (steps_in_range n) in
    let P : Bool → Type 0 =
    λ v. FoundInRange
    (cond v (reading_from n bytes) (and_then (suc (length bytes)) (token_at b bytes)
    (reading_from n))) in
    let go : (v : Bool) → P v =
    λ v. elim v as P [ true ↦ steps_in_range n bytes | false ↦ token ] in
    go (holds classes.Blank b)

zipped : (total : ℕ) (ts : List Placed) (found : List (Token × ℕ)) → AllZip (IsFound total) ts found
    → AllByRecursion (λ (x : Token × ℕ). IsInRange x.0) found → AllByRecursion IsInRange (plains ts)
zipped total [] [] each h = tt
zipped total [] (x ∷ found) each h = absurd each
zipped total (t ∷ ts) [] each h = absurd each
zipped total (t ∷ ts) (x ∷ found) each h = (rw each.0.same h.0, zipped total ts found each.1 h.1)

pub reading_in_range : (text : List ℕ) (found : List (Token × ℕ)) → reading_of text ≡ Ok found
    → AllByRecursion (λ (x : Token × ℕ). IsInRange x.0) found
unfolding reading_of
reading_in_range text found read = let all : FoundInRange (reading_from (length text) text) =
    steps_in_range (length text) text in subst FoundInRange read all

pub tokens_in_range : (text : List ℕ) (ts : List Placed) → AreFound text ts
    → AllByRecursion IsInRange (plains ts)
tokens_in_range text ts h = zipped (length text) ts h.found h.each
    (reading_in_range text h.found h.read)
