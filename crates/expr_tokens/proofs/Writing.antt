-- Bytes that are read as given tokens, and what may stand behind them.
use Rattle.std.proofs.Common.{◌≡◌, ℕ, zero, suc, ◌^◌, ◌≤◌, ◌<◌, pos, negsuc, true, false, List, [], ◌∷◌, ◌++◌, length, drop, Some, Result, Ok, Err, refl, sym, ap, ◌∙◌, append_assoc, arith, rules, length-append}
use Rattle.std.specs.Fmt.{decimal}
use Rattle.std.specs.List.{list_all}
use Rattle.std.proofs.lemmas.Str.Parse.{numerals_by_fold, IsNumeralModel}
use Rattle.std.proofs.lemmas.Fmt.{digits_decimal, digits_value-decimal, decimal_nonempty, length-decimal-le}
use Rattle.std.proofs.lemmas.List.{append-nil}
use Rattle.moment_core.specs.Texts.{with_sign}
use Rattle.moment_text.specs.Laws.{FrontsAreLongest, LiteralsAreShaped, LiteralsTellMomentsApart, ShapedTextsHaveForms, ShapesEnd}
use Rattle.moment_text.specs.Literal.{literal_of}
use Rattle.expr_tokens.specs.declared.class.Class.TheVariants as classes
use Rattle.expr_tokens.specs.declared.token.Word.{Word}
use Rattle.expr_tokens.specs.declared.token.Word.TheVariants.{Empty}
use Rattle.expr_tokens.specs.Plain.{Token}
use Rattle.expr_tokens.specs.Plain as tokens
use Rattle.expr_tokens.specs.Class.{holds, passes_first}
use Rattle.expr_tokens.specs.Names.{name_of, word_of}
use Rattle.expr_tokens.specs.Reading.{Found, value_from, named, with_token, token_at, reading_from, reading_of, alone, tokens_of}
use Rattle.expr_tokens.specs.Stamps.{stamp_of}
use Rattle.expr_tokens.specs.Laws.{before, Lexes, NothingIsRead, PartsAreRead, TextsAreRead, SpacesAreRead, SignsAreRead, WordsAreRead, StringsAreRead, NumbersAreRead, MomentsAreRead}
use Rattle.expr_tokens.specs.Longest.{AreDigits}
use Rattle.expr_tokens.proofs.Lexing.{nothing_from}
use Rattle.expr_tokens.proofs.OneToken.{Reads, sign_read, name_read, text_read, number_read, negative_read, moment_read}
use Rattle.expr_tokens.proofs.Stamps.{stamp_of-literal}
use Rattle.moment_core.proofs.Signs.{minus_suc}

before-append : (ts us : List Token) (read : Result (List Token) ℕ) → before ts (before us read)
    ≡ before (ts ++ us) read
before-append ts us (Ok x) = ap (λ (y : List Token). Ok y) (sym (append_assoc ts us x))
before-append ts us (Err left) = refl

before_none : (read : Result (List Token) ℕ) → before [] read ≡ read
before_none (Ok x) = refl
before_none (Err left) = refl

alone-with_token : (x : Token × ℕ) (read : Found) → alone (with_token x read)
    ≡ before (x.0 ∷ []) (alone read)
alone-with_token x (Ok found) = refl
alone-with_token x (Err left) = refl

pub Lexes-nothing : NothingIsRead
Lexes-nothing rest =
    record { reads = λ n enough. (n, enough, sym (before_none (alone (reading_from n rest)))) }

pub Lexes-append : PartsAreRead
Lexes-append a b ts us rest first second = record {
  reads = λ n enough.
      let x = first.reads n (rw append_assoc at enough) in
      let y = second.reads x.0 x.1 in (
        y.0,
        y.1,
        rw append_assoc (x.2 ∙ ap (before ts) y.2
            ∙ before-append ts us (alone (reading_from y.0 rest))),
      );
}

pub Lexes-all : TextsAreRead
unfolding tokens_of reading_of
Lexes-all text ts lexes =
    let enough : length (text ++ []) ≤ length text = rw (append-nil text) (omega arith) in
    let x = lexes.reads (length text) enough in
    let read : alone (reading_from (length text) text) ≡ before ts (alone (reading_from x.0 [])) =
    rw (append-nil text) at x.2 in
    read ∙ ap (λ (y : Found). before ts (alone y)) (nothing_from x.0)
    ∙ ap (λ (y : List Token). Ok y) (append-nil ts)

blank_read : (n b : ℕ) (rest : List ℕ) → holds classes.Blank b ≡ true → length (b ∷ rest) ≤ n
    → (m : ℕ) × (length rest ≤ m)
    × (alone (reading_from n (b ∷ rest)) ≡ before [] (alone (reading_from m rest)))
unfolding reading_from
blank_read zero b rest blank enough = absurd (omega arith)
blank_read (suc n) b rest blank enough =
    (n, omega arith, rw blank (sym (before_none (alone (reading_from n rest)))))

pub Lexes-space : SpacesAreRead
Lexes-space rest = record { reads = λ n enough. blank_read n 32 rest refl enough }

-- one token

token_read : (n b : ℕ) (more rest : List ℕ) (t : Token) → holds classes.Blank b ≡ false
    → token_at b (more ++ rest) ≡ Some (t, rest) → length (b ∷ more ++ rest) ≤ n
    → (m : ℕ) × (length rest ≤ m) × (alone (reading_from n (b ∷ more ++ rest))
    ≡ before (t ∷ []) (alone (reading_from m rest)))
unfolding reading_from
token_read zero b more rest t blank read enough = absurd (omega arith)
token_read (suc n) b more rest t blank read enough = (
  n,
  omega (arith, length-append more rest),
  rw (blank, read)
      (alone-with_token (t, suc (length (more ++ rest))) (reading_from n rest)),
)

Lexes-token : (bytes : List ℕ) (t : Token) (rest : List ℕ) → Reads bytes t rest
    → Lexes bytes (t ∷ []) rest
Lexes-token bytes t rest reads =
    record {
      reads =
          λ n enough. rw reads.splits (token_read n reads.first reads.others rest t reads.no_blank
          reads.read (rw reads.splits at enough));
    }

pub Lexes-sign : SignsAreRead
Lexes-sign b t rest is stop = Lexes-token (b ∷ []) t rest (sign_read b t rest is stop)

pub Lexes-string : StringsAreRead
Lexes-string quoted rest each short = Lexes-token (34 ∷ quoted ++ 34 ∷ []) (tokens.Text quoted) rest
    (text_read quoted rest each short)

-- a name, with no byte of a name behind it
Lexes-name : (b : ℕ) (more rest : List ℕ) → holds classes.Letter b ≡ true
    → list_all (holds classes.Name) more ≡ true → passes_first (holds classes.Name) rest ≡ false
    → Lexes (b ∷ more) (named (b ∷ more) (word_of (b ∷ more)) ∷ []) rest
Lexes-name b more rest letter each stop = Lexes-token (b ∷ more)
    (named (b ∷ more) (word_of (b ∷ more))) rest (name_read b more rest letter each stop)

abbrev first_of : List ℕ → ℕ
first_of [] = 0
first_of (b ∷ more) = b

-- the name of a word is one, and is that word's
record IsName (w : Word) (first : ℕ) (more : List ℕ) : Type 0 where
  splits : name_of w ≡ first ∷ more
  letter : holds classes.Letter first ≡ true
  each : list_all (holds classes.Name) more ≡ true
  word : word_of (first ∷ more) ≡ Some w

word_named : (w : Word) → IsName w (first_of (name_of w)) (drop 1 (name_of w))
unfolding word_of
word_named Empty = record { splits = refl; letter = refl; each = refl; word = refl }
word_named w = record { splits = refl; letter = refl; each = refl; word = refl }

pub Lexes-word : WordsAreRead
Lexes-word w rest stop =
    let name = word_named w in
    let read = Lexes-name (first_of (name_of w)) (drop 1 (name_of w)) rest name.letter name.each in
    rw name.splits (rw name.word at (read stop))

-- numbers

own : IsNumeralModel (λ digits. list_all (holds classes.Digit) digits ≡ true) (value_from 0)
unfolding value_from
own = numerals_by_fold _ (search rules) value_from (search rules)

decimal_digits : (n : ℕ) → n < 10 ^ 13 → AreDigits (decimal n)
decimal_digits n short = record {
  each = digits_decimal own n (omega arith);
  some = decimal_nonempty n (omega arith);
  most = length-decimal-le 13 n (omega arith) short (omega arith);
}

module _ (forms : ShapedTextsHaveForms) (fronts : FrontsAreLongest) (shapes_end : ShapesEnd) where
  pub Lexes-number : NumbersAreRead
  Lexes-number (pos n) rest short stop =
      let value : value_from 0 (decimal n) ≡ n = digits_value-decimal own n (omega arith) in
      rw value at (Lexes-token (decimal n) (tokens.Number (pos (value_from 0 (decimal n)))) rest
      (number_read forms fronts shapes_end (decimal n) rest (decimal_digits n short) stop))
  Lexes-number (negsuc n) rest short stop =
      let value : value_from 0 (decimal (suc n)) ≡ suc n = digits_value-decimal own (suc n)
      (omega arith) in
      rw (value, minus_suc n) at
      (Lexes-token (45 ∷ decimal (suc n))
      (tokens.Number (with_sign true (value_from 0 (decimal (suc n))))) rest
      (negative_read forms fronts shapes_end (decimal (suc n)) rest (decimal_digits (suc n) short)
      stop))

  pub Lexes-moment : LiteralsAreShaped → LiteralsTellMomentsApart → MomentsAreRead
  Lexes-moment shaped apart t absolute rest within stop =
      rw (stamp_of-literal apart t absolute within) at
      (Lexes-token (literal_of t absolute) (tokens.Moment (stamp_of (literal_of t absolute))) rest
      (moment_read forms fronts shapes_end (literal_of t absolute) rest (shaped t absolute) stop))
