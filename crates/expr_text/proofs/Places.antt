-- The tokens of a text as they are found, each at its byte.
use Rattle.std.proofs.Common.{◌≡◌, ℕ, ◌+◌, ◌-◌, ◌<◌, ◌≤◌, Bool, true, false, cond, List, [], ◌∷◌, map, length, Option, Some, None, Ok, Err, refl, sym, ap, ◌∙◌, arith}
use Rattle.std.specs.Prelude.{nat_lt}
use Rattle.std.specs.List.{AllZip}
use Rattle.std.proofs.lemmas.Bool.Decides.{nat_tests}
use Rattle.expr_tokens.specs.declared.token.Token.{Token as Placed}
use Rattle.expr_tokens.specs.declared.token.Token.TheVariants as placed
use Rattle.expr_tokens.specs.declared.token.Word.TheVariants as words
use Rattle.expr_tokens.specs.Plain.{Token, plain, plains}
use Rattle.expr_tokens.specs.Reading.{AreFound, Found, IsFound, LeavesAt, alone, reading_of, tokens_of}
use Rattle.expr_grammar.specs.Syntax.{span_places as places_in}
use Rattle.expr_text.specs.Fault as faults
use Rattle.expr_text.specs.declared.fault.TheConstants.{LONGEST}
use Rattle.expr_text.specs.Accepted.{tokens_in, unless_long, unless_unbuilt, with_places}
use Rattle.expr_text.specs.Calls.{calls_unbuilt}
use Rattle.phases.specs.Phases.{By}
use Rattle.expr_text.specs.Faults.{Tokens, first_nameless, is_nameless, is_span_name, kinds_of, span_places}
use Rattle.expr_text.specs.Phases.{AreTokens, StandsAt}
use Rattle.expr_text.specs.Phases.{first_nameless as nameless_in}

-- a short text, and a long one
pub short_text : (text : List ℕ) → length text ≤ LONGEST → By unless_long text (Ok text)
short_text text h = let e : nat_lt LONGEST (length text) ≡ false = grind (arith, nat_tests) in
    rw e refl

pub long_text : (text : List ℕ) → LONGEST < length text → By unless_long text (Err faults.Long)
long_text text h = let e : nat_lt LONGEST (length text) ≡ true = grind (arith, nat_tests) in
    rw e refl

-- at the byte that the bytes left tell
abbrev at_byte : ℕ → Token × ℕ → Token × ℕ
at_byte size x = (x.0, size - x.1)

stands_at : (size left : ℕ) (t : Placed) → LeavesAt size left t → StandsAt (size - left) t
stands_at size left (placed.Word w place) h = omega (arith, h)
stands_at size left (placed.Moment stamp place) h = omega (arith, h)
stands_at size left t h = tt

all_stand : (size : ℕ) (ts : List Placed) (found : List (Token × ℕ)) → AllZip (IsFound size) ts
    found → AreTokens ts (map (at_byte size) found)
all_stand size [] [] each = tt
all_stand size [] (x ∷ found) each = absurd each
all_stand size (t ∷ ts) [] each = absurd each
all_stand size (t ∷ ts) (x ∷ found) each = (
  record { same = each.0.same; place = stands_at size x.1 t each.0.place },
  all_stand size ts
      found each.1,
)

-- the tokens that a reader found are those of the text
pub record AreIn (text : List ℕ) (ts : List Placed) : Type 0 where
  pub tokens : Tokens
  pub read : By tokens_in text (Ok tokens)
  pub are : AreTokens ts tokens

pub found_in : (text : List ℕ) (ts : List Placed) → AreFound text ts → AreIn text ts
found_in text ts h = record {
  tokens = map (at_byte (length text)) h.found;
  read = ap (with_places (length text)) (sym h.read);
  are = all_stand (length text) ts h.found h.each;
}

pub none_at : (text : List ℕ) (byte left : ℕ) → reading_of text ≡ Err left → byte + left
    ≡ length text → By tokens_in text (Err (faults.Token byte))
none_at text byte left read e =
    let place : byte ≡ length text - left = omega (arith, e) in
    ap (λ (n : ℕ). Err (faults.Token n)) place ∙ ap (with_places (length text)) (sym read)

pub kinds_same : (ts : List Placed) (us : Tokens) → AreTokens ts us → plains ts ≡ kinds_of us
kinds_same [] [] each = refl
kinds_same [] (u ∷ us) each = absurd each
kinds_same (t ∷ ts) [] each = absurd each
kinds_same (t ∷ ts) (u ∷ us) each = ap (λ (x : Token). x ∷ plains ts) each.0.same
    ∙ ap (λ (xs : List Token). u.0 ∷ xs) (kinds_same ts us each.1)

pub built_tokens : (ts : List Placed) (us : Tokens) → AreTokens ts us → calls_unbuilt (plains ts)
    ≡ false → By unless_unbuilt us (Ok us)
built_tokens ts us are e = let same : calls_unbuilt (kinds_of us) ≡ false =
    ap calls_unbuilt (sym (kinds_same ts us are)) ∙ e in rw same refl

pub unbuilt_tokens : (ts : List Placed) (us : Tokens) → AreTokens ts us → calls_unbuilt (plains ts)
    ≡ true → By unless_unbuilt us (Err faults.Unbuilt)
unbuilt_tokens ts us are e = let same : calls_unbuilt (kinds_of us) ≡ true =
    ap calls_unbuilt (sym (kinds_same ts us are)) ∙ e in rw same refl

-- the places that both tell

abbrev place_of : Placed → ℕ
place_of (placed.Word w place) = place
place_of (placed.Moment stamp place) = place
place_of t = 0

nameless_place : (t : Placed) (ts : List Placed) → nameless_in (t ∷ ts)
    ≡ cond (is_nameless (plain t)) (Some (place_of t)) (nameless_in ts)
nameless_place (placed.Moment None place) ts = refl
nameless_place (placed.Moment (Some s) place) ts = refl
nameless_place t ts = refl

span_place : (t : Placed) (ts : List Placed) → places_in (t ∷ ts) ≡ cond (is_span_name (plain t))
    (place_of t ∷ places_in ts) (places_in ts)
span_place (placed.Word words.Span place) ts = refl
span_place t ts = refl

nameless_at : (byte : ℕ) (t : Placed) → StandsAt byte t → is_nameless (plain t) ≡ true → place_of t
    ≡ byte
nameless_at byte (placed.Moment None place) h is = h
nameless_at byte t h is = absurd cc

span_at : (byte : ℕ) (t : Placed) → StandsAt byte t → is_span_name (plain t) ≡ true → place_of t
    ≡ byte
span_at byte (placed.Word words.Span place) h is = h
span_at byte t h is = absurd cc

one_nameless : (b : Bool) (p q : ℕ) (x y : Option ℕ) → (b ≡ true → p ≡ q) → x ≡ y
    → cond b (Some p) x ≡ cond b (Some q) y
one_nameless true p q x y same e = ap (λ (n : ℕ). Some n) (same refl)
one_nameless false p q x y same e = e

one_span : (b : Bool) (p q : ℕ) (xs ys : List ℕ) → (b ≡ true → p ≡ q) → xs ≡ ys → cond b (p ∷ xs) xs
    ≡ cond b (q ∷ ys) ys
one_span true p q xs ys same e = rw (same refl, e) refl
one_span false p q xs ys same e = e

pub nameless_same : (ts : List Placed) (us : Tokens) → AreTokens ts us → nameless_in ts
    ≡ first_nameless us
nameless_same [] [] each = refl
nameless_same [] (u ∷ us) each = absurd each
nameless_same (t ∷ ts) [] each = absurd each
nameless_same (t ∷ ts) (u ∷ us) each =
    nameless_place t ts ∙ one_nameless (is_nameless (plain t)) (place_of t) u.1 (nameless_in ts)
    (first_nameless us) (nameless_at u.1 t each.0.place) (nameless_same ts us each.1)
    ∙ ap (λ (x : Token). cond (is_nameless x) (Some u.1) (first_nameless us)) each.0.same

pub spans_same : (ts : List Placed) (us : Tokens) → AreTokens ts us → places_in ts ≡ span_places us
spans_same [] [] each = refl
spans_same [] (u ∷ us) each = absurd each
spans_same (t ∷ ts) [] each = absurd each
spans_same (t ∷ ts) (u ∷ us) each =
    span_place t ts ∙ one_span (is_span_name (plain t)) (place_of t) u.1 (places_in ts)
    (span_places us) (span_at u.1 t each.0.place) (spans_same ts us each.1)
    ∙ ap (λ (x : Token). cond (is_span_name x) (u.1 ∷ span_places us) (span_places us)) each.0.same

-- the tokens of a text without their places
pub record StandIn (text : List ℕ) (ts : List Token) : Type 0 where
  pub tokens : Tokens
  pub read : By tokens_in text (Ok tokens)
  pub same : kinds_of tokens ≡ ts

kinds_at : (size : ℕ) (found : List (Token × ℕ)) → kinds_of (map (at_byte size) found)
    ≡ kinds_of found
kinds_at size [] = refl
kinds_at size (x ∷ found) = ap (λ (xs : List Token). x.0 ∷ xs) (kinds_at size found)

pub stand_in : (text : List ℕ) (ts : List Token) → tokens_of text ≡ Ok ts → StandIn text ts
unfolding tokens_of
stand_in text ts read = by_found (reading_of text) refl read
  where
    by_found : (found : Found) → reading_of text ≡ found → alone found ≡ Ok ts → StandIn text ts
    by_found (Err left) e d = absurd cc
    by_found (Ok found) e d = record {
      tokens = map (at_byte (length text)) found;
      read = ap (with_places (length text)) (sym e);
      same = kinds_at (length text) found ∙ (let same : kinds_of found ≡ ts = cc in same);
    }
