-- Texts of parts, some of which are written: each is found again by its name.
use Rattle.std.proofs.Common.{◌≡◌, ℕ, Bool, true, false, not, ◌&&◌, ◌||◌, nat_lt, List, [], ◌∷◌, ◌++◌, length, Option, Some, None, refl, ap, ◌∙◌, arith, length-append}
use Rattle.std.specs.Prelude.{nat_eq, option_map, if◌then◌else◌}
use Rattle.std.specs.List.{list_all, list_any, flat_map, filter_map, find, starts_with}
use Rattle.std.proofs.lemmas.Bool.{and_from, and_parts}
use Rattle.std.proofs.lemmas.Bool.Decides.{nat_tests}
use Rattle.std.proofs.lemmas.List.Folds.{list_all-append, list_any-append}
use Rattle.std.proofs.Math.Seq.{drop-append_seam}
use Rattle.rule_core.specs.declared.part.Part.{Part}
use Rattle.rule_core.specs.declared.part.Part.TheVariants as parts
use Rattle.rrule_values.specs.Laws.{is_value_byte}
use Rattle.rrule_values.specs.Splitting.{behind, split_at}
use Rattle.rrule_text.specs.Names.{key_of}
use Rattle.rrule_text.specs.Pieces.{is_of, is_piece, is_value, part_of_piece, value_in}
use Rattle.rrule_text.specs.Reading.{is_same, parts_in, first_repeated, repeated_after, value_of}
use Rattle.rrule_text.specs.Writing.{behind_sign, part_text, piece_text}
use Rattle.rrule_text.proofs.Bytes.{spoken, value_spoken}

-- a part, and its value where it is written
abbrev pub Entry : Type 0
Entry = Part × Option (List ℕ)

abbrev pub piece_before : Part → Option (List ℕ) → List (List ℕ) → List (List ℕ)
piece_before part None ps = ps
piece_before part (Some value) ps = piece_text part value ∷ ps

abbrev pub pieces_of : List Entry → List (List ℕ)
pieces_of [] = []
pieces_of (x ∷ xs) = piece_before x.0 x.1 (pieces_of xs)

pub text_joined : (xs : List Entry) → flat_map part_text xs ≡ flat_map (behind 59) (pieces_of xs)
text_joined [] = refl
text_joined (x ∷ xs) = one x.0 x.1 (flat_map part_text xs) (pieces_of xs) (text_joined xs)
  where
    one : (part : Part) (o : Option (List ℕ)) (rest : List ℕ) (ps : List (List ℕ)) → rest
        ≡ flat_map (behind 59) ps → behind_sign part o ++ rest ≡ flat_map (behind 59)
        (piece_before part o ps)
    one part None rest ps e = e
    one part (Some value) rest ps e = ap (λ (y : List ℕ). (59 ∷ piece_text part value) ++ y) e

-- two names differ at some place
abbrev pub differ : List ℕ → List ℕ → Bool
differ [] key = false
differ (a ∷ ks) [] = false
differ (a ∷ ks) (b ∷ bs) = not (nat_eq a b) || differ ks bs

differ_front : (ks bs value : List ℕ) → differ ks bs ≡ true → starts_with nat_eq (bs ++ value) ks
    ≡ false
differ_front [] bs value e = absurd cc
differ_front (a ∷ ks) [] value e = absurd cc
differ_front (a ∷ ks) (b ∷ bs) value e = by_head (nat_eq a b) e (differ_front ks bs value)
  where
    by_head : (same : Bool) → (not same || differ ks bs) ≡ true
        → (differ ks bs ≡ true → starts_with nat_eq (bs ++ value) ks ≡ false)
        → (same && starts_with nat_eq (bs ++ value) ks) ≡ false
    by_head true e others = others e
    by_head false e others = refl

same_front : (ks value : List ℕ) → starts_with nat_eq (ks ++ value) ks ≡ true
same_front [] value = refl
same_front (a ∷ ks) value = let one : nat_eq a a ≡ true = grind (arith, nat_tests) in
    rw (one, same_front ks value) refl

-- no part of the entries has the name
abbrev pub lack : Part → List Entry → Bool
lack part xs = list_all (λ (x : Entry). differ (key_of part) (key_of x.0)) xs

skip : (part other : Part) (o : Option (List ℕ)) (ps : List (List ℕ)) → differ (key_of part)
    (key_of other) ≡ true → find (is_of part) (piece_before other o ps) ≡ find (is_of part) ps
unfolding is_of
skip part other None ps e = refl
skip part other (Some value) ps e = rw (differ_front (key_of part) (key_of other) value e) refl

skips : (part : Part) (front rest : List Entry) → lack part front ≡ true
    → find (is_of part) (pieces_of (front ++ rest)) ≡ find (is_of part) (pieces_of rest)
skips part [] rest e = refl
skips part (x ∷ front) rest e =
    let both = and_parts (differ (key_of part) (key_of x.0)) (lack part front) e in
    skip part x.0 x.1 (pieces_of (front ++ rest)) both.0 ∙ skips part front rest both.1

finds_none : (part : Part) (xs : List Entry) → lack part xs ≡ true
    → find (is_of part) (pieces_of xs) ≡ None
finds_none part [] e = refl
finds_none part (x ∷ xs) e =
    let both = and_parts (differ (key_of part) (key_of x.0)) (lack part xs) e in
    skip part x.0 x.1 (pieces_of xs) both.0 ∙ finds_none part xs both.1

here : (part : Part) (o : Option (List ℕ)) (ps : List (List ℕ)) → find (is_of part) ps ≡ None
    → option_map (value_in part) (find (is_of part) (piece_before part o ps)) ≡ o
unfolding is_of
here part None ps none = rw none refl
here part (Some value) ps none =
    rw (same_front (key_of part) value)
    (ap (λ (v : List ℕ). Some v) (drop-append_seam (key_of part) value))

-- the value of a part is what stands in its entry
pub value_is : (part : Part) (front back : List Entry) (o : Option (List ℕ)) (body : List ℕ)
    → split_at 59 body ≡ pieces_of (front ++ (part, o) ∷ back) → lack part front ≡ true
    → lack part back ≡ true → value_of part body ≡ o
unfolding value_of
value_is part front back o body split before behind =
    rw (split, skips part front ((part, o) ∷ back) before)
    (here part o (pieces_of back) (finds_none part back behind))

abbrev pub has_key : Part → Bool
has_key part = nat_lt 0 (length (key_of part))

pub named : (part : Part) (value : List ℕ) → has_key part ≡ true
    → part_of_piece (piece_text part value) ≡ Some part
unfolding part_of_piece is_of
named parts.Freq value e = refl
named parts.Until value e = refl
named parts.Count value e = refl
named parts.Interval value e = refl
named parts.ByMonth value e = refl
named parts.ByWeekNo value e = refl
named parts.ByYearDay value e = refl
named parts.ByMonthDay value e = refl
named parts.ByDay value e = refl
named parts.ByHour value e = refl
named parts.ByMinute value e = refl
named parts.BySecond value e = refl
named parts.BySetPos value e = refl
named parts.Wkst value e = refl
named part value e = absurd cc

abbrev part_before : Part → Option (List ℕ) → List Part → List Part
part_before part None ps = ps
part_before part (Some value) ps = part ∷ ps

-- the parts that are written
abbrev written : List Entry → List Part
written [] = []
written (x ∷ xs) = part_before x.0 x.1 (written xs)

abbrev pub have_keys : List Entry → Bool
have_keys xs = list_all (λ (x : Entry). has_key x.0) xs

parts_are : (xs : List Entry) → have_keys xs ≡ true → filter_map part_of_piece (pieces_of xs)
    ≡ written xs
parts_are [] e = refl
parts_are (x ∷ xs) e =
    let both = and_parts (has_key x.0) (have_keys xs) e in
    one x.0 x.1 (pieces_of xs) (written xs) both.0 (parts_are xs both.1)
  where
    one : (part : Part) (o : Option (List ℕ)) (ps : List (List ℕ)) (found : List Part)
        → has_key part ≡ true → filter_map part_of_piece ps ≡ found → filter_map part_of_piece
        (piece_before part o ps) ≡ part_before part o found
    one part None ps found key e = e
    one part (Some value) ps found key e = rw (named part value key, e) refl

-- no two entries are of one part, and none of a part that was seen
abbrev pub apart : List Entry → Bool
apart [] = true
apart (x ∷ xs) = list_all (λ (y : Entry). not (is_same y.0 x.0)) xs && apart xs

abbrev unseen : List Part → List Entry → Bool
unseen seen xs = list_all (λ (y : Entry). not (list_any (is_same y.0) seen)) xs

unseen_more : (seen : List Part) (part : Part) (xs : List Entry) → unseen seen xs ≡ true
    → list_all (λ (y : Entry). not (is_same y.0 part)) xs ≡ true → unseen (seen ++ part ∷ []) xs
    ≡ true
unseen_more seen part [] new other = refl
unseen_more seen part (y ∷ ys) new other =
    let one = and_parts (not (list_any (is_same y.0) seen)) (unseen seen ys) new in
    let two = and_parts (not (is_same y.0 part)) (list_all (λ (z : Entry). not (is_same z.0 part))
    ys) other in
    and_from (not (list_any (is_same y.0) (seen ++ part ∷ []))) (unseen (seen ++ part ∷ []) ys)
    (rw (list_any-append (is_same y.0) seen (part ∷ []))
    (neither (list_any (is_same y.0) seen) (is_same y.0 part) one.0 two.0))
    (unseen_more seen part ys one.1 two.1)
  where
    neither : (a b : Bool) → not a ≡ true → not b ≡ true → not (a || (b || false)) ≡ true
    neither true b e f = absurd cc
    neither false true e f = absurd cc
    neither false false e f = refl

not_repeated : (seen : List Part) (xs : List Entry) → unseen seen xs ≡ true → apart xs ≡ true
    → repeated_after seen (written xs) ≡ None
not_repeated seen [] new each = refl
not_repeated seen (x ∷ xs) new each =
    let one = and_parts (not (list_any (is_same x.0) seen)) (unseen seen xs) new in
    let two = and_parts (list_all (λ (y : Entry). not (is_same y.0 x.0)) xs) (apart xs) each in
    step x.0 x.1 one.0 (not_repeated seen xs one.1 two.1)
    (not_repeated (seen ++ x.0 ∷ []) xs (unseen_more seen x.0 xs one.1 two.0) two.1)
  where
    at_new : (b : Bool) (part : Part) (rest : Option Part) → not b ≡ true → rest ≡ None
        → (if b then Some part else rest) ≡ None
    at_new true part rest e none = absurd cc
    at_new false part rest e none = none

    step : (part : Part) (o : Option (List ℕ)) → not (list_any (is_same part) seen) ≡ true
        → repeated_after seen (written xs) ≡ None → repeated_after (seen ++ part ∷ []) (written xs)
        ≡ None → repeated_after seen (part_before part o (written xs)) ≡ None
    step part None e without with_it = without
    step part (Some value) e without with_it = at_new (list_any (is_same part) seen) part
        (repeated_after (seen ++ part ∷ []) (written xs)) e with_it

pub nothing_repeated : (xs : List Entry) (body : List ℕ) → split_at 59 body ≡ pieces_of xs
    → have_keys xs ≡ true → unseen [] xs ≡ true → apart xs ≡ true → first_repeated body ≡ None
unfolding first_repeated parts_in
nothing_repeated xs body split keys new each = rw (split, parts_are xs keys)
    (not_repeated [] xs new each)

-- a value is of its part's form, and no byte of it ends the piece
pub record Fits (part : Part) (value : List ℕ) : Type 0 where
  pub form : is_value part value ≡ true
  pub plain : list_all is_value_byte value ≡ true

abbrev pub FitsIf : Part → Option (List ℕ) → Type 0
FitsIf part None = Unit {0}
FitsIf part (Some value) = Fits part value

abbrev pub AllFit : List Entry → Type 0
AllFit [] = Unit {0}
AllFit (x ∷ xs) = FitsIf x.0 x.1 × AllFit xs

piece_is : (part : Part) (value : List ℕ) → has_key part ≡ true → is_value part value ≡ true
    → is_piece (piece_text part value) ≡ true
unfolding is_piece
piece_is part value key form = rw (named part value key, drop-append_seam (key_of part) value) form

pub pieces_fit : (xs : List Entry) → have_keys xs ≡ true → AllFit xs
    → list_all is_piece (pieces_of xs) ≡ true
pieces_fit [] keys fit = refl
pieces_fit (x ∷ xs) keys fit =
    let both = and_parts (has_key x.0) (have_keys xs) keys in
    one x.0 x.1 (pieces_of xs) both.0 fit.0 (pieces_fit xs both.1 fit.1)
  where
    one : (part : Part) (o : Option (List ℕ)) (ps : List (List ℕ)) → has_key part ≡ true
        → FitsIf part o → list_all is_piece ps ≡ true → list_all is_piece (piece_before part o ps)
        ≡ true
    one part None ps key fit each = each
    one part (Some value) ps key fit each = and_from (is_piece (piece_text part value))
        (list_all is_piece ps) (piece_is part value key fit.form) each

key_spoken : (part : Part) → list_all spoken (key_of part) ≡ true
key_spoken parts.Freq = refl
key_spoken parts.Until = refl
key_spoken parts.Count = refl
key_spoken parts.Interval = refl
key_spoken parts.ByMonth = refl
key_spoken parts.ByWeekNo = refl
key_spoken parts.ByYearDay = refl
key_spoken parts.ByMonthDay = refl
key_spoken parts.ByDay = refl
key_spoken parts.ByHour = refl
key_spoken parts.ByMinute = refl
key_spoken parts.BySecond = refl
key_spoken parts.BySetPos = refl
key_spoken parts.Wkst = refl
key_spoken part = refl

pub piece_spoken : (part : Part) (value : List ℕ) → list_all is_value_byte value ≡ true
    → list_all spoken (piece_text part value) ≡ true
piece_spoken part value each =
    list_all-append spoken (key_of part) value ∙ and_from (list_all spoken (key_of part))
    (list_all spoken value) (key_spoken part) (value_spoken value each)

pub pieces_spoken : (xs : List Entry) → AllFit xs → list_all (λ p. list_all spoken p) (pieces_of xs)
    ≡ true
pieces_spoken [] fit = refl
pieces_spoken (x ∷ xs) fit = one x.0 x.1 (pieces_of xs) fit.0 (pieces_spoken xs fit.1)
  where
    one : (part : Part) (o : Option (List ℕ)) (ps : List (List ℕ)) → FitsIf part o
        → list_all (λ p. list_all spoken p) ps ≡ true → list_all (λ p. list_all spoken p)
        (piece_before part o ps) ≡ true
    one part None ps fit each = each
    one part (Some value) ps fit each = and_from (list_all spoken (piece_text part value))
        (list_all (λ p. list_all spoken p) ps) (piece_spoken part value fit.plain) each

some_piece : (part : Part) (value : List ℕ) → has_key part ≡ true
    → nat_lt 0 (length (piece_text part value)) ≡ true
some_piece part value key =
    let total = length-append (key_of part) value in
    grind (arith, nat_tests, total)

pub pieces_some : (xs : List Entry) → have_keys xs ≡ true
    → list_all (λ (p : List ℕ). nat_lt 0 (length p)) (pieces_of xs) ≡ true
pieces_some [] keys = refl
pieces_some (x ∷ xs) keys =
    let both = and_parts (has_key x.0) (have_keys xs) keys in
    one x.0 x.1 (pieces_of xs) both.0 (pieces_some xs both.1)
  where
    one : (part : Part) (o : Option (List ℕ)) (ps : List (List ℕ)) → has_key part ≡ true
        → list_all (λ (p : List ℕ). nat_lt 0 (length p)) ps ≡ true
        → list_all (λ (p : List ℕ). nat_lt 0 (length p)) (piece_before part o ps) ≡ true
    one part None ps key each = each
    one part (Some value) ps key each = and_from (nat_lt 0 (length (piece_text part value)))
        (list_all (λ (p : List ℕ). nat_lt 0 (length p)) ps) (some_piece part value key) each
